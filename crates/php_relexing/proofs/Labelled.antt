-- Words in code: labels before a byte that goes on with none.
use Rattle.std.proofs.Common.{◌≡◌, ℕ, suc, ◌+◌, true, false, nat_eq, List, [], ◌∷◌, ◌++◌, length, Option, Some, None, refl, ◌∙◌, arith}
use Rattle.std.proofs.lemmas.Bool.{and_parts}
use Rattle.std.proofs.lemmas.Bool.Decides.{nat_tests}
use Rattle.php_tree.specs.declared.version.Version.{Version}
use Rattle.php_tree.specs.declared.version.Version.TheVariants.{V74, V83}
use Rattle.php_spellings.specs.declared.table.Kind.{Kind}
use Rattle.php_spellings.specs.declared.table.Kind.TheVariants.{Word, Name}
use Rattle.php_spellings.specs.declared.table.State.TheVariants.{Plain}
use Rattle.php_spellings.specs.declared.table.Run.TheVariants.{Labels}
use Rattle.php_spellings.specs.declared.table.Shape.TheVariants as shape
use Rattle.php_spellings.specs.declared.table.Spot.TheVariants.{Begin, FirstLabel}
use Rattle.php_spellings.specs.declared.table.Tail.TheVariants.{AnyWord, Shaped}
use Rattle.php_spellings.specs.Bytes.{is_letter, is_label_byte, lower, begins}
use Rattle.php_lexer.specs.Modes.{code, IsLongest}
use Rattle.php_lexer.specs.Scan.{scan, run_len, shape_len, behind, tail_len, longer}
use Rattle.php_lexer.proofs.Longest.{scanned_longest}
use Rattle.php_lexer.proofs.Dispatch.{plain_scan, older_scan, newer_scan}
use Rattle.php_relexing.specs.Labels.{all_label}
use Rattle.php_relexing.proofs.Stops.{is_stop, label_stops, name_stops}

run_is : (a s : List ℕ) → all_label a ≡ true → begins is_stop s ≡ true → run_len Labels [] Plain (a ++ s) ≡ length a
run_is [] s all h = label_stops s h
run_is (b ∷ a) s all h =
    let (here, more) = and_parts (is_label_byte b) (all_label a) all in
    rw (here, run_is a s more h) (omega arith)

no_name : (a s : List ℕ) → all_label a ≡ true → begins is_stop s ≡ true → shape_len shape.Name FirstLabel (a ++ s) ≡ None
no_name [] s all h = name_stops s h
no_name (b ∷ a) s all h =
    let (here, more) = and_parts (is_label_byte b) (all_label a) all in
    rw (here, no_name a s more h) refl

no_hash : (b : ℕ) → is_letter b ≡ true → nat_eq b 35 ≡ false
no_hash b h = grind (arith, nat_tests)

word_row : (b : ℕ) (bs : List ℕ) (n : ℕ) → is_letter b ≡ true → nat_eq (lower b) 98 ≡ false
    → run_len Labels [] Plain bs ≡ n → longer Word (behind lower [] (tail_len [] AnyWord) (b ∷ bs)) None ≡ Some
    (Word, suc n)
word_row b bs n h p e =
    let one : 1 + n ≡ suc n = omega arith in
    let some : nat_eq (suc n) 0 ≡ false = grind (arith, nat_tests) in
    let none : 0 + suc n ≡ suc n = omega arith in
    rw (h, e, one, p, some, none) refl

name_row : (b : ℕ) (bs : List ℕ) (o : Option (Kind × ℕ)) → is_letter b ≡ true
    → shape_len shape.Name FirstLabel bs ≡ None → longer Name
    (behind lower [] (tail_len [] (Shaped shape.Name Begin)) (b ∷ bs)) o ≡ o
name_row b bs o h e = rw (h, e) refl

scan_is : (v : Version) (b : ℕ) (bs : List ℕ) (n : ℕ) → is_letter b ≡ true → nat_eq (lower b) 98 ≡ false
    → nat_eq (lower b) 121 ≡ false → run_len Labels [] Plain bs ≡ n → shape_len shape.Name FirstLabel bs ≡ None
    → scan v code (b ∷ bs) ≡ Some (Word, suc n)
scan_is V74 b bs n h p q e none = older_scan b bs (no_hash b h) ∙ plain_scan b bs h p q ∙ word_row b bs n h p e
scan_is V83 b bs n h p q e none = newer_scan b bs (no_hash b h) ∙ name_row b bs _ h none ∙ plain_scan b bs h p q ∙ word_row b bs n h p e

-- A word that begins with neither `b` nor `y`.
pub word_is : (v : Version) (b : ℕ) (a s : List ℕ) → is_letter b ≡ true → nat_eq (lower b) 98 ≡ false
    → nat_eq (lower b) 121 ≡ false → all_label a ≡ true → begins is_stop s ≡ true
    → IsLongest v code (b ∷ a ++ s) Word (suc (length a))
word_is v b a s h p q all stop =
    scanned_longest v code (b ∷ a ++ s) (Some (Word, suc (length a))) (scan_is v b (a ++ s) (length a) h p q (run_is a s all stop) (no_name a s all stop))
