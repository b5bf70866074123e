-- Words stay where neither their label nor `yield` goes on.
use Rattle.std.proofs.Common.{◌≡◌, ℕ, suc, ◌+◌, Bool, true, false, cond, ◌&&◌, nat_eq, List, [], ◌∷◌, ◌++◌, length, drop, codes, None, refl, sym, ap, ◌∙◌, arith}
use Rattle.std.proofs.lemmas.Bool.{and_parts}
use Rattle.std.proofs.lemmas.Bool.Decides.{nat_tests}
use Rattle.php_tree.specs.declared.version.Version.TheVariants.{V74}
use Rattle.php_spellings.specs.declared.table.Kind.TheVariants.{Word, Keyword}
use Rattle.php_spellings.specs.declared.table.State.TheVariants.{First, Plain}
use Rattle.php_spellings.specs.declared.table.Until.TheVariants.{From}
use Rattle.php_spellings.specs.Bytes.{is_space, is_letter, is_label_byte, lower, begins, starts_word}
use Rattle.php_lexer.specs.Tails.{word_alone}
use Rattle.php_lexer.specs.Modes.{code}
use Rattle.php_lexer.specs.Letters.{letter_rows}
use Rattle.php_lexer.specs.Scan.{scan, scan_by, until_len, add_to, word_len, longer}
use Rattle.php_lexer.proofs.Dispatch.{letter_scan, older_scan}
use Rattle.php_relexing.specs.Labels.{all_label}
use Rattle.php_relexing.specs.Words.{comes_from, begins_from, WordsStay}
use Rattle.php_relexing.proofs.Labels.{words_are_labels}
use Rattle.php_relexing.proofs.NameRows.{all_small, is_small, small_label}
use Rattle.php_relexing.proofs.Parts.{label_run}
use Rattle.php_relexing.proofs.Scanned.{found, longest_of}

-- ---- no `from`

comes_by : (b : ℕ) (bs : List ℕ) (t u : Bool) → is_space b ≡ t → word_alone (codes "from") (b ∷ bs) ≡ u
    → (comes_from bs ≡ false → until_len From Plain bs ≡ None) → cond t (comes_from bs) u ≡ false
    → until_len From Plain (b ∷ bs) ≡ None
comes_by b bs true u e f ih h = rw (e, ih h) refl
comes_by b bs false true e f ih h = absurd cc
comes_by b bs false false e f ih h = rw (e, f) refl

no_comes : (bs : List ℕ) → comes_from bs ≡ false → until_len From Plain bs ≡ None
no_comes [] h = refl
no_comes (b ∷ bs) h = comes_by b bs (is_space b) (word_alone (codes "from") (b ∷ bs)) refl refl (no_comes bs) h

from_by : (b : ℕ) (bs : List ℕ) (t : Bool) → is_space b ≡ t → (t && comes_from bs) ≡ false → until_len From First (b ∷ bs) ≡ None
from_by b bs true e h = rw (e, no_comes bs h) refl
from_by b bs false e h = rw e refl

no_from : (bs : List ℕ) → begins_from bs ≡ false → until_len From First bs ≡ None
no_from [] h = refl
no_from (b ∷ bs) h = from_by b bs (is_space b) refl h

label_space : (b : ℕ) → is_label_byte b ≡ true → is_space b ≡ false
label_space b h = grind (arith, nat_tests)

label_from : (a s : List ℕ) → all_label a ≡ true → begins_from s ≡ false → until_len From First (a ++ s) ≡ None
label_from [] s h e = no_from s e
label_from (b ∷ a) s h e =
    let (here, more) = and_parts (is_label_byte b) (all_label a) h in
    rw (label_space b here) refl

-- ---- no `yield from`

out_of : (x : ℕ) (w : List ℕ) (s : List ℕ) → is_small x ≡ true → begins is_label_byte s ≡ false → starts_word (x ∷ w) s ≡ true → ⊥
out_of x w [] small e h = cc
out_of x w (c ∷ s) small e h =
    let (same, more) = and_parts (nat_eq x (lower c)) (starts_word w s) h in
    let label = (small_label x c small same).0 in
    let clash : true ≡ false = sym label ∙ e in cc

-- behind a word of letters that begins a label, no `from` follows
behind_word : (w a s : List ℕ) → all_small w ≡ true → all_label a ≡ true → begins is_label_byte s ≡ false
    → begins_from s ≡ false → starts_word w (a ++ s) ≡ true → until_len From First (drop (length w) (a ++ s)) ≡ None
behind_word [] a s small h e f g = label_from a s h f
behind_word (x ∷ w) [] s small h e f g = absurd (out_of x w s (and_parts (is_small x) (all_small w) small).0 e g)
behind_word (x ∷ w) (b ∷ a) s small h e f g =
    let letters = (and_parts (is_small x) (all_small w) small).1 in
    let labels = (and_parts (is_label_byte b) (all_label a) h).1 in
    let rest = (and_parts (nat_eq x (lower b)) (starts_word w (a ++ s)) g).1 in
    behind_word w a s letters labels e f rest

yield_by : (b : ℕ) (a s : List ℕ) (t : Bool) → starts_word (codes "ield") (a ++ s) ≡ t
    → (t ≡ true → until_len From First (drop 4 (a ++ s)) ≡ None) → (y : Bool)
    → cond (y && t) (add_to 5 (until_len From First (drop 4 (a ++ s)))) None ≡ None
yield_by b a s t e f false = refl
yield_by b a s false e f true = refl
yield_by b a s true e f true = rw (f refl) refl

no_yield : (b : ℕ) (a s : List ℕ) → all_label a ≡ true → begins is_label_byte s ≡ false → begins_from s ≡ false
    → cond (nat_eq 121 (lower b) && starts_word (codes "ield") (a ++ s))
    (add_to 5 (until_len From First (drop 4 (a ++ s)))) None ≡ None
no_yield b a s h e f = yield_by b a s (starts_word (codes "ield") (a ++ s)) refl (λ g. behind_word (codes "ield") a s refl h e f g) (nat_eq 121 (lower b))

-- ---- the scan

pub other_way_round : (a k : ℕ) → nat_eq a k ≡ false → nat_eq k a ≡ false
other_way_round a k e = grind (arith, nat_tests)

pub letter_hash : (b : ℕ) → is_letter b ≡ true → nat_eq b 35 ≡ false
letter_hash b h = grind (arith, nat_tests)

pub rows_are : (b : ℕ) (bs : List ℕ) → nat_eq 98 (lower b) ≡ false
    → scan_by [] letter_rows (b ∷ bs) ≡ longer Keyword
    (cond (nat_eq 121 (lower b) && starts_word (codes "ield") bs) (add_to 5 (until_len From First (drop 4 bs))) None)
    (longer Word (add_to 0 (word_len (b ∷ bs))) None)
rows_are b bs e = rw e refl

word_row : (b : ℕ) (a s : List ℕ) → is_letter b ≡ true → nat_eq (lower b) 98 ≡ false → all_label a ≡ true
    → begins is_label_byte s ≡ false → longer Word (add_to 0 (word_len (b ∷ a ++ s))) None ≡ found Word
    (suc (length a))
word_row b a s h p k e =
    let one : 1 + length a ≡ suc (length a) = omega arith in
    let some : nat_eq (suc (length a)) 0 ≡ false = grind (arith, nat_tests) in
    let none : 0 + suc (length a) ≡ suc (length a) = omega arith in
    rw (h, label_run [] a s k e, one, p, some, none) refl

word_scan : (b : ℕ) (a s : List ℕ) → is_letter b ≡ true → nat_eq (lower b) 98 ≡ false → all_label a ≡ true
    → begins is_label_byte s ≡ false → begins_from s ≡ false
    → scan V74 code (b ∷ a ++ s) ≡ found Word (suc (length a))
word_scan b a s h p k e f =
    older_scan b (a ++ s) (letter_hash b h)
    ∙ letter_scan b (a ++ s) h
    ∙ rows_are b (a ++ s) (other_way_round (lower b) 98 p)
    ∙ ap (λ o. longer Keyword o (longer Word (add_to 0 (word_len (b ∷ a ++ s))) None)) (no_yield b a s k e f)
    ∙ word_row b a s h p k e

pub words_stay : WordsStay
words_stay b a r s p e f h =
    let label = words_are_labels V74 b a r h in
    let (letter, more) = and_parts (is_letter b) (all_label a) label in
    longest_of V74 code (b ∷ a ++ s) Word (suc (length a)) (word_scan b a s letter p more e f)
