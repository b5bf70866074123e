-- White space in code.
use Rattle.std.proofs.Common.{◌≡◌, ℕ, suc, ◌+◌, Bool, true, false, ◌&&◌, ◌||◌, nat_eq, List, [], ◌∷◌, ◌++◌, length, Some, None, refl, ◌∙◌, arith}
use Rattle.std.proofs.lemmas.Bool.{and_parts}
use Rattle.std.proofs.lemmas.Bool.Decides.{nat_tests}
use Rattle.php_tree.specs.declared.version.Version.{Version}
use Rattle.php_tree.specs.declared.version.Version.TheVariants.{V74, V83}
use Rattle.php_spellings.specs.declared.table.Kind.TheVariants.{Space}
use Rattle.php_spellings.specs.declared.table.State.TheVariants.{First, Plain}
use Rattle.php_spellings.specs.declared.table.Run.TheVariants.{Spaces}
use Rattle.php_spellings.specs.declared.table.Tail.TheVariants.{SomeOf}
use Rattle.php_spellings.specs.Bytes.{is_space, is_letter, lower, begins}
use Rattle.php_lexer.specs.Modes.{code, IsLongest}
use Rattle.php_lexer.specs.Scan.{scan, run_len, add_to, some_len, behind, tail_len, longer}
use Rattle.php_relexing.specs.Alike.{is_among}
use Rattle.php_lexer.proofs.Longest.{scanned_longest}
use Rattle.php_lexer.proofs.Dispatch.{space_scan, older_scan, nameless_scan}

-- each byte is white space
abbrev pub all_space : List ℕ → Bool
all_space [] = true
all_space (b ∷ bs) = is_space b && all_space bs

-- the bytes of white space
abbrev pub spaces : List ℕ
spaces = 32 ∷ 9 ∷ 10 ∷ 13 ∷ []

in_order : (w x y z : Bool) → ((w || x) || (y || z)) ≡ true → (w || (x || (y || (z || false)))) ≡ true
in_order true x y z e = refl
in_order false true y z e = refl
in_order false false true z e = refl
in_order false false false true e = refl
in_order false false false false e = absurd cc

pub among_spaces : (b : ℕ) → is_space b ≡ true → is_among spaces b ≡ true
among_spaces b e = in_order (nat_eq b 32) (nat_eq b 9) (nat_eq b 10) (nat_eq b 13) e

run_ends : (s : List ℕ) → begins is_space s ≡ false → run_len Spaces [] Plain s ≡ 0
run_ends [] h = refl
run_ends (c ∷ s) h = rw h refl

-- white space as far as it goes
run_is : (a s : List ℕ) → all_space a ≡ true → begins is_space s ≡ false → run_len Spaces [] Plain (a ++ s) ≡ length a
run_is [] s all h = run_ends s h
run_is (b ∷ a) s all h =
    let (here, more) = and_parts (is_space b) (all_space a) all in
    rw (here, run_is a s more h) (omega arith)

-- the length that is counted, where one byte and n more belong to a row without a word
pub counted : (n : ℕ) → add_to 0 (some_len (1 + n)) ≡ Some (suc n)
counted n =
    let one : 1 + n ≡ suc n = omega arith in
    let some : nat_eq (suc n) 0 ≡ false = grind (arith, nat_tests) in
    let none : 0 + suc n ≡ suc n = omega arith in
    rw (one, some, none) refl

no_hash : (b : ℕ) → is_space b ≡ true → nat_eq b 35 ≡ false
no_hash b h = grind (arith, nat_tests)

no_name : (b : ℕ) → is_space b ≡ true → nat_eq b 92 ≡ false
no_name b h = grind (arith, nat_tests)

no_letter : (b : ℕ) → is_space b ≡ true → is_letter b ≡ false
no_letter b h = grind (arith, nat_tests)

row_is : (b : ℕ) (bs : List ℕ) (n : ℕ) → is_space b ≡ true → run_len Spaces [] Plain bs ≡ n
    → longer Space (behind lower [] (tail_len [] (SomeOf Spaces First)) (b ∷ bs)) None ≡ Some (Space, suc n)
row_is b bs n h e = rw (h, e, counted n) refl

scan_is : (v : Version) (b : ℕ) (bs : List ℕ) (n : ℕ) → is_space b ≡ true → run_len Spaces [] Plain bs ≡ n → scan v code (b ∷ bs) ≡ Some (Space, suc n)
scan_is V74 b bs n h e = older_scan b bs (no_hash b h) ∙ space_scan b bs h ∙ row_is b bs n h e
scan_is V83 b bs n h e = nameless_scan b bs (no_hash b h) (no_letter b h) (no_name b h) ∙ space_scan b bs h ∙ row_is b bs n h e

-- White space before a byte that is none.
pub space_is : (v : Version) (b : ℕ) (a s : List ℕ) → is_space b ≡ true → all_space a ≡ true → begins is_space s ≡ false → IsLongest v code (b ∷ a ++ s) Space (suc (length a))
space_is v b a s here all ends = scanned_longest v code (b ∷ a ++ s) (Some (Space, suc (length a))) (scan_is v b (a ++ s) (length a) here (run_is a s all ends))
