-- Brackets, marks and texts in single quotes in code.
use Rattle.std.proofs.Common.{◌≡◌, ℕ, suc, ◌+◌, false, nat_eq, List, ◌∷◌, ◌++◌, length, Some, refl, subst, arith}
use Rattle.php_tree.specs.declared.version.Version.{Version}
use Rattle.php_tree.specs.declared.version.Version.TheVariants.{V74, V83}
use Rattle.php_spellings.specs.declared.table.Kind.TheVariants.{Op, Semi, Text}
use Rattle.php_spellings.specs.declared.table.State.TheVariants.{First}
use Rattle.php_spellings.specs.declared.table.Until.TheVariants.{Simple}
use Rattle.php_spellings.specs.Bytes.{lower}
use Rattle.php_lexer.specs.Modes.{code, IsLongest}
use Rattle.php_lexer.specs.Scan.{scan, until_len}
use Rattle.php_lexer.proofs.Longest.{scanned_longest}

pub comma_is : (v : Version) (rest : List ℕ) → IsLongest v code (44 ∷ rest) Op 1
comma_is V74 rest = scanned_longest V74 code (44 ∷ rest) (Some (Op, 1)) refl
comma_is V83 rest = scanned_longest V83 code (44 ∷ rest) (Some (Op, 1)) refl

pub semicolon_is : (v : Version) (rest : List ℕ) → IsLongest v code (59 ∷ rest) Semi 1
semicolon_is V74 rest = scanned_longest V74 code (59 ∷ rest) (Some (Semi, 1)) refl
semicolon_is V83 rest = scanned_longest V83 code (59 ∷ rest) (Some (Semi, 1)) refl

-- `?` before a byte that is neither `>` nor another `?`
pub question_is : (v : Version) (c : ℕ) (rest : List ℕ) → nat_eq 62 (lower c) ≡ false → nat_eq 63 (lower c) ≡ false → IsLongest v code (63 ∷ c ∷ rest) Op 1
question_is V74 c rest p q = scanned_longest V74 code (63 ∷ c ∷ rest) (Some (Op, 1)) (rw (p, q) refl)
question_is V83 c rest p q = scanned_longest V83 code (63 ∷ c ∷ rest) (Some (Op, 1)) (rw (p, q) refl)

-- `:` before a byte that is no other `:`
pub colon_is : (v : Version) (c : ℕ) (rest : List ℕ) → nat_eq 58 (lower c) ≡ false → IsLongest v code (58 ∷ c ∷ rest) Op 1
colon_is V74 c rest p = scanned_longest V74 code (58 ∷ c ∷ rest) (Some (Op, 1)) (rw p refl)
colon_is V83 c rest p = scanned_longest V83 code (58 ∷ c ∷ rest) (Some (Op, 1)) (rw p refl)

text_scan : (v : Version) (s : List ℕ) (n : ℕ) → until_len Simple First s ≡ Some n → scan v code (39 ∷ s) ≡ Some (Text, 1 + n)
text_scan V74 s n e = rw e refl
text_scan V83 s n e = rw e refl

-- A text in single quotes, as far as its closing quote.
pub text_is : (v : Version) (a s : List ℕ) → until_len Simple First (a ++ s) ≡ Some (length a) → IsLongest v code (39 ∷ a ++ s) Text (suc (length a))
text_is v a s e =
    let one : 1 + length a ≡ suc (length a) = omega arith in
    subst (λ (n : ℕ). IsLongest v code (39 ∷ a ++ s) Text n) one (scanned_longest v code (39 ∷ a ++ s) (Some (Text, 1 + length a)) (text_scan v (a ++ s) (length a) e))
