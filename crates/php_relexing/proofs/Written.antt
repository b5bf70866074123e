-- The tokens that edits write.
use Rattle.std.proofs.Common.{◌≡◌, ℕ, suc, ◌+◌, ◌≤◌, Bool, true, false, cond, List, [], ◌∷◌, ◌++◌, length, Option, Some, None, codes, refl, subst, arith}
use Rattle.php_tree.specs.declared.version.Version.{Version}
use Rattle.php_tree.specs.declared.version.Version.TheVariants.{V74, V83}
use Rattle.php_spellings.specs.declared.table.Kind.TheVariants.{Op, Cast, Text}
use Rattle.php_spellings.specs.declared.table.State.{State}
use Rattle.php_spellings.specs.declared.table.State.TheVariants.{First}
use Rattle.php_spellings.specs.declared.table.Until.{Until}
use Rattle.php_spellings.specs.declared.table.Until.TheVariants.{Simple, CastWord}
use Rattle.php_spellings.specs.Bytes.{is_blank_byte}
use Rattle.php_lexer.specs.Tails.{bars, closes, stepped, begins_type}
use Rattle.php_lexer.specs.Modes.{code, IsLongest}
use Rattle.php_lexer.specs.Scan.{scan, until_len, add_to, longer}
use Rattle.php_lexer.proofs.Longest.{scanned_longest, scanned_none}
use Rattle.php_lexer.proofs.Counts.{some_eq}
use Rattle.php_lexer.proofs.Single.{same_length, clash}

pub closing_is : (v : Version) (rest : List ℕ) → IsLongest v code (41 ∷ rest) Op 1
closing_is V74 rest = scanned_longest V74 code (41 ∷ rest) (Some (Op, 1)) refl
closing_is V83 rest = scanned_longest V83 code (41 ∷ rest) (Some (Op, 1)) refl

pub square_is : (v : Version) (rest : List ℕ) → IsLongest v code (91 ∷ rest) Op 1
square_is V74 rest = scanned_longest V74 code (91 ∷ rest) (Some (Op, 1)) refl
square_is V83 rest = scanned_longest V83 code (91 ∷ rest) (Some (Op, 1)) refl

pub end_square_is : (v : Version) (rest : List ℕ) → IsLongest v code (93 ∷ rest) Op 1
end_square_is V74 rest = scanned_longest V74 code (93 ∷ rest) (Some (Op, 1)) refl
end_square_is V83 rest = scanned_longest V83 code (93 ∷ rest) (Some (Op, 1)) refl

pub cast_is : (v : Version) (rest : List ℕ) → IsLongest v code (codes "(int)" ++ rest) Cast 5
cast_is V74 rest = scanned_longest V74 code (codes "(int)" ++ rest) (Some (Cast, 5)) refl
cast_is V83 rest = scanned_longest V83 code (codes "(int)" ++ rest) (Some (Cast, 5)) refl

-- `(`, where no cast begins
pub opening_is : (v : Version) (rest : List ℕ) → until_len CastWord First rest ≡ None → IsLongest v code (40 ∷ rest) Op 1
opening_is V74 rest e = scanned_longest V74 code (40 ∷ rest) (Some (Op, 1)) (rw e refl)
opening_is V83 rest e = scanned_longest V83 code (40 ∷ rest) (Some (Op, 1)) (rw e refl)

-- `(` before a byte that is neither blank nor the first of a type word
no_cast : (b : ℕ) (bs : List ℕ) → is_blank_byte b ≡ false → begins_type (b ∷ bs) ≡ false → until_len CastWord First (b ∷ bs) ≡ None
no_cast b bs p q = rw (p, q) refl

pub opening_before : (v : Version) (b : ℕ) (bs : List ℕ) → is_blank_byte b ≡ false → begins_type (b ∷ bs) ≡ false → IsLongest v code (40 ∷ b ∷ bs) Op 1
opening_before v b bs p q = opening_is v (b ∷ bs) (no_cast b bs p q)

-- ---- a text in single quotes looks no further than its end

stay_step : (bar close : Bool) (x y : Option ℕ) (n l : ℕ) → ((k : ℕ) → x ≡ Some k → k ≤ l → y ≡ Some k)
    → cond bar None (cond close (Some 1) (add_to 1 x)) ≡ Some n → n ≤ suc l
    → cond bar None (cond close (Some 1) (add_to 1 y)) ≡ Some n
stay_step true close x y n l ih e le = absurd cc
stay_step false true x y n l ih e le = e
stay_step false false None y n l ih e le = absurd cc
stay_step false false (Some k) y n l ih e le =
    let size = some_eq (1 + k) n e in
    rw (ih k refl (omega arith)) e

none_at_0 : (bar close : Bool) (x : Option ℕ) (n : ℕ) → cond bar None (cond close (Some 1) (add_to 1 x)) ≡ Some n → n ≤ 0 → ⊥
none_at_0 true close x n e le = cc
none_at_0 false true x n e le = let size = some_eq 1 n e in omega arith
none_at_0 false false None n e le = cc
none_at_0 false false (Some k) n e le = let size = some_eq (1 + k) n e in omega arith

not_0 : (u : Until) (s : State) (v : List ℕ) (n : ℕ) → until_len u s v ≡ Some n → n ≤ 0 → ⊥
not_0 u s [] n e le = cc
not_0 u s (b ∷ bs) n e le = none_at_0 (bars u s b bs) (closes u s b) (until_len u (stepped u s b) bs) n e le

simple_stays : (s : State) (a v w : List ℕ) (n : ℕ) → until_len Simple s (a ++ v) ≡ Some n → n ≤ length a → until_len Simple s (a ++ w) ≡ Some n
simple_stays s [] v w n e le = absurd (not_0 Simple s v n e le)
simple_stays s (b ∷ a) v w n e le = stay_step false (closes Simple s b)
    (until_len Simple (stepped Simple s b) (a ++ v)) (until_len Simple (stepped Simple s b) (a ++ w)) n (length a)
    (λ k p q. simple_stays (stepped Simple s b) a v w k p q) e le

text_scan : (v : Version) (s : List ℕ) (o : Option ℕ) → until_len Simple First s ≡ o → scan v code (39 ∷ s) ≡ longer Text (add_to 1 o) None
text_scan V74 s o e = rw e refl
text_scan V83 s o e = rw e refl

text_by : (x : Version) (a v w : List ℕ) (o : Option ℕ) → until_len Simple First (a ++ v) ≡ o
    → IsLongest x code (39 ∷ a ++ v) Text (suc (length a)) → IsLongest x code (39 ∷ a ++ w) Text (suc (length a))
text_by x a v w None e h = absurd (let none = scanned_none x code (39 ∷ a ++ v) None (text_scan x (a ++ v) None e) in clash h.is (none (suc (length a)) h.within))
text_by x a v w (Some k) e h =
    let found = scanned_longest x code (39 ∷ a ++ v) (Some (Text, 1 + k)) (text_scan x (a ++ v) (Some k) e) in
    let size = same_length x code (39 ∷ a ++ v) Text Text (1 + k) (suc (length a)) found h in
    let new = simple_stays First a v w k e (omega arith) in
    let there = scanned_longest x code (39 ∷ a ++ w) (Some (Text, 1 + k)) (text_scan x (a ++ w) (Some k) new) in
    subst (λ (n : ℕ). IsLongest x code (39 ∷ a ++ w) Text n) size there

-- A text in single quotes stays whatever follows it.
pub text_stays : (x : Version) (a v w : List ℕ) → IsLongest x code (39 ∷ a ++ v) Text (suc (length a)) → IsLongest x code (39 ∷ a ++ w) Text (suc (length a))
text_stays x a v w h = text_by x a v w (until_len Simple First (a ++ v)) refl h
