-- Words other than `yield`, before white space and `from`.
use Rattle.std.proofs.Common.{
  ◌≡◌,
  ℕ,
  suc,
  ◌+◌,
  Bool,
  true,
  false,
  cond,
  ◌&&◌,
  nat_eq,
  nat_lt,
  List,
  [],
  ◌∷◌,
  ◌++◌,
  length,
  drop,
  codes,
  Option,
  Some,
  None,
  ◌⊎◌,
  inl,
  inr,
  refl,
  sym,
  ap,
  ◌∙◌,
  subst,
  arith,
}
use Rattle.std.proofs.lemmas.Bool.{and_parts}
use Rattle.std.proofs.lemmas.Bool.Decides.{nat_tests}
use Rattle.php_tree.specs.declared.version.Version.TheVariants.{V74}
use Rattle.php_spellings.specs.declared.table.Kind.{Kind}
use Rattle.php_spellings.specs.declared.table.Kind.TheVariants.{Word, Keyword}
use Rattle.php_spellings.specs.declared.table.State.TheVariants.{First, Plain, Escaped}
use Rattle.php_spellings.specs.declared.table.Until.TheVariants.{From}
use Rattle.php_spellings.specs.Bytes.{is_space, is_letter, is_label_byte, lower, begins, starts_word}
use Rattle.php_lexer.specs.Heredocs.{no_label}
use Rattle.php_lexer.specs.Tails.{word_alone}
use Rattle.php_lexer.specs.Modes.{code, IsLongest}
use Rattle.php_lexer.specs.Scan.{scan, until_len, add_to, word_len, longer}
use Rattle.php_lexer.proofs.Dispatch.{letter_scan, older_scan}
use Rattle.php_relexing.specs.Labels.{all_label}
use Rattle.php_relexing.specs.Words.{comes_from, begins_from}
use Rattle.php_relexing.proofs.Labels.{words_are_labels}
use Rattle.php_relexing.proofs.NameRows.{is_small, all_small, small_label}
use Rattle.php_relexing.proofs.Parts.{label_run}
use Rattle.php_relexing.proofs.Scanned.{found, scan_of, longest_of}
use Rattle.php_relexing.proofs.Words.{other_way_round, letter_hash, rows_are}

-- ---- `from` is found

abbrev is_some : Option ℕ → Bool
is_some None = false
is_some (Some n) = true

more_some : (o : Option ℕ) → is_some o ≡ true → is_some (add_to 1 o) ≡ true
more_some None h = absurd cc
more_some (Some n) h = refl

last_some : (x : Bool) (o : Option ℕ) → x ≡ true → is_some (cond x (Some 1) (add_to 1 o)) ≡ true
last_some true o h = refl
last_some false o h = absurd cc

next_some : (x : Bool) (o : Option ℕ) → is_some o ≡ true → is_some (cond x (Some 1) (add_to 1 o)) ≡ true
next_some true o h = refl
next_some false o h = more_some o h

parts_3 : (x y z : Bool) → (x && (y && (z && true))) ≡ true → (x ≡ true) × ((y ≡ true) × (z ≡ true))
parts_3 true true true h = (refl, (refl, refl))
parts_3 true true false h = absurd cc
parts_3 true false z h = absurd cc
parts_3 false y z h = absurd cc

last_is : (f : ℕ) → nat_eq 109 (lower f) ≡ true → nat_eq (lower f) 109 ≡ true
last_is f e = grind (arith, nat_tests)

rom_some : (bs : List ℕ) → starts_word (codes "rom") bs ≡ true → is_some (until_len From Escaped bs) ≡ true
rom_some [] h = absurd cc
rom_some (c ∷ []) h = absurd (let e = (and_parts (nat_eq 114 (lower c)) false h).1 in cc)
rom_some (c ∷ d ∷ []) h = absurd (let e = (and_parts (nat_eq 111 (lower d)) false (and_parts (nat_eq 114 (lower c)) (nat_eq 111 (lower d) && false) h).1).1 in cc)
rom_some (c ∷ d ∷ f ∷ bs) h =
    let m = (parts_3 (nat_eq 114 (lower c)) (nat_eq 111 (lower d)) (nat_eq 109 (lower f)) h).1.1 in
    next_some (nat_eq (lower c) 109) (until_len From Escaped (d ∷ f ∷ bs))
    (next_some (nat_eq (lower d) 109) (until_len From Escaped (f ∷ bs))
    (last_some (nat_eq (lower f) 109) (until_len From Escaped bs) (last_is f m)))

alone_rom : (f s n : Bool) → ((f && s) && n) ≡ true → s ≡ true
alone_rom true true n h = refl
alone_rom true false n h = absurd cc
alone_rom false s n h = absurd cc

plain_some : (b : ℕ) (bs : List ℕ) (t u : Bool) → is_space b ≡ t → word_alone (codes "from") (b ∷ bs) ≡ u
    → (comes_from bs ≡ true → is_some (until_len From Plain bs) ≡ true) → cond t (comes_from bs) u ≡ true
    → is_some (until_len From Plain (b ∷ bs)) ≡ true
plain_some b bs true u e f ih h = rw e (more_some (until_len From Plain bs) (ih h))
plain_some b bs false true e f ih h =
    rw (e, f) (more_some (until_len From Escaped bs) (rom_some bs (alone_rom (nat_eq 102 (lower b)) (starts_word (codes "rom") bs) (no_label (drop 4 (b ∷ bs))) f)))
plain_some b bs false false e f ih h = absurd cc

comes_some : (bs : List ℕ) → comes_from bs ≡ true → is_some (until_len From Plain bs) ≡ true
comes_some [] h = absurd cc
comes_some (b ∷ bs) h = plain_some b bs (is_space b) (word_alone (codes "from") (b ∷ bs)) refl refl (comes_some bs) h

from_some : (bs : List ℕ) → begins_from bs ≡ true → is_some (until_len From First bs) ≡ true
from_some [] h = absurd cc
from_some (b ∷ bs) h =
    let (space, more) = and_parts (is_space b) (comes_from bs) h in
    rw space (more_some (until_len From Plain bs) (comes_some bs more))

-- ---- the word is `yield`, or no `from` is found

label_space : (b : ℕ) → is_label_byte b ≡ true → is_space b ≡ false
label_space b h = grind (arith, nat_tests)

past : (x : ℕ) (w s : List ℕ) → is_small x ≡ true → begins is_label_byte s ≡ false → starts_word (x ∷ w) s ≡ true → ⊥
past x w [] small e h = cc
past x w (c ∷ s) small e h =
    let (same, more) = and_parts (nat_eq x (lower c)) (starts_word w s) h in
    let label = (small_label x c small same).0 in
    let clash : true ≡ false = sym label ∙ e in cc

-- the text is the word, in any case
record Exact (w a r : List ℕ) : Type 0 where
  starts : starts_word w (a ++ r) ≡ true
  rest : drop (length w) (a ++ r) ≡ r
  size : length a ≡ length w

exact_more : (x b : ℕ) (w a r : List ℕ) → nat_eq x (lower b) ≡ true → Exact w a r → Exact (x ∷ w) (b ∷ a) r
exact_more x b w a r e h = record { starts = rw e h.starts; rest = h.rest; size = ap suc h.size }

exact_or : (w a r s : List ℕ) → all_small w ≡ true → all_label a ≡ true → begins is_label_byte s ≡ false
    → starts_word w (a ++ s) ≡ true → (until_len From First (drop (length w) (a ++ s)) ≡ None) ⊎ Exact w a r
exact_or [] [] r s small h e g = inr (record { starts = refl; rest = refl; size = refl })
exact_or [] (b ∷ a) r s small h e g = inl (rw (label_space b (and_parts (is_label_byte b) (all_label a) h).0) refl)
exact_or (x ∷ w) [] r s small h e g = absurd (past x w s (and_parts (is_small x) (all_small w) small).0 e g)
exact_or (x ∷ w) (b ∷ a) r s small h e g =
    let letters = (and_parts (is_small x) (all_small w) small).1 in
    let labels = (and_parts (is_label_byte b) (all_label a) h).1 in
    let (here, more) = and_parts (nat_eq x (lower b)) (starts_word w (a ++ s)) g in
    elim (exact_or w a r s letters labels e more) [
      | inl none ↦ inl none
      | inr is ↦ inr (exact_more x b w a r here is)
    ]

-- ---- the scan

-- how far `yield from` goes
abbrev keyword_len : ℕ → List ℕ → Option ℕ
keyword_len b bs = cond (nat_eq 121 (lower b) && starts_word (codes "ield") bs) (add_to 5 (until_len From First (drop 4 bs))) None

word_row : (b : ℕ) (a s : List ℕ) → is_letter b ≡ true → nat_eq (lower b) 98 ≡ false → all_label a ≡ true
    → begins is_label_byte s ≡ false → longer Word (add_to 0 (word_len (b ∷ a ++ s))) None ≡ found Word
    (suc (length a))
word_row b a s h p k e =
    let one : 1 + length a ≡ suc (length a) = omega arith in
    let some : nat_eq (suc (length a)) 0 ≡ false = grind (arith, nat_tests) in
    let none : 0 + suc (length a) ≡ suc (length a) = omega arith in
    rw (h, label_run [] a s k e, one, p, some, none) refl

word_scan : (b : ℕ) (a s : List ℕ) → is_letter b ≡ true → nat_eq (lower b) 98 ≡ false → all_label a ≡ true
    → begins is_label_byte s ≡ false → scan V74 code (b ∷ a ++ s) ≡ longer Keyword (keyword_len b (a ++ s))
    (found Word (suc (length a)))
word_scan b a s h p k e =
    older_scan b (a ++ s) (letter_hash b h)
    ∙ letter_scan b (a ++ s) h
    ∙ rows_are b (a ++ s) (other_way_round (lower b) 98 p)
    ∙ ap (λ (o : Option (Kind × ℕ)). longer Keyword (keyword_len b (a ++ s)) o) (word_row b a s h p k e)

abbrev is_word : Kind → Bool
is_word Word = true
is_word _ = false

abbrev is_word_found : Option (Kind × ℕ) → Bool
is_word_found None = false
is_word_found (Some x) = is_word x.0

five_more : (n : ℕ) → nat_lt (5 + n) 5 ≡ false
five_more n = grind (arith, nat_tests)

no_word_found : (o : Option ℕ) → is_some o ≡ true → is_word_found (longer Keyword (add_to 5 o) (found Word 5)) ≡ false
no_word_found None h = absurd cc
no_word_found (Some n) h = rw (five_more n) refl

module _ (b : ℕ) (a r : List ℕ) (p : nat_eq (lower b) 98 ≡ false)
    (h : IsLongest V74 code (b ∷ a ++ r) Word (suc (length a))) (letter : is_letter b ≡ true)
    (labels : all_label a ≡ true) (ends : begins is_label_byte r ≡ false) (from : begins_from r ≡ true) where
  -- the source's word isn't `yield`
  not_exact : nat_eq 121 (lower b) ≡ true → Exact (codes "ield") a r → ⊥
  not_exact y is =
      let five : suc (length a) ≡ 5 = ap suc is.size in
      let scanned : found Word (suc (length a)) ≡ longer Keyword (keyword_len b (a ++ r))
      (found Word (suc (length a))) = sym (scan_of V74 code (b ∷ a ++ r) Word (suc (length a)) h)
      ∙ word_scan b a r letter p labels ends in
      let len : keyword_len b (a ++ r) ≡ add_to 5 (until_len From First r) = rw (y, is.starts) (ap (λ (x : List ℕ). add_to 5 (until_len From First x)) is.rest) in
      let there : found Word 5 ≡ longer Keyword (add_to 5 (until_len From First r)) (found Word 5) =
      subst (λ (n : ℕ). found Word n ≡ longer Keyword (add_to 5 (until_len From First r)) (found Word n)) five
      (subst (λ (o : Option ℕ). found Word (suc (length a)) ≡ longer Keyword o (found Word (suc (length a)))) len scanned) in
      let clash : true ≡ false = ap is_word_found there ∙ no_word_found (until_len From First r) (from_some r from) in
      cc

  none_by : (s : List ℕ) → begins is_label_byte s ≡ false → (x y : Bool) → nat_eq 121 (lower b) ≡ x
      → starts_word (codes "ield") (a ++ s) ≡ y → cond (x && y) (add_to 5 (until_len From First (drop 4 (a ++ s))))
      None ≡ None
  none_by s e false y f g = refl
  none_by s e true false f g = refl
  none_by s e true true f g =
      elim (exact_or (codes "ield") a r s refl labels e g) [
        | inl none ↦ rw none refl
        | inr is ↦ absurd (not_exact f is)
      ]

  pub kept_word : (s : List ℕ) → begins is_label_byte s ≡ false → IsLongest V74 code (b ∷ a ++ s) Word (suc (length a))
  kept_word s e =
      longest_of V74 code (b ∷ a ++ s) Word (suc (length a))
      (word_scan b a s letter p labels e
      ∙ ap (λ (o : Option ℕ). longer Keyword o (found Word (suc (length a)))) (none_by s e (nat_eq 121 (lower b)) (starts_word (codes "ield") (a ++ s)) refl refl))

-- A word that begins with no `b` stays before white space and `from`, where these follow it in the source too.
pub word_from_stays : (b : ℕ) (a r s : List ℕ) → nat_eq (lower b) 98 ≡ false → begins is_label_byte r ≡ false
    → begins is_label_byte s ≡ false → begins_from r ≡ true → IsLongest V74 code (b ∷ a ++ r) Word (suc (length a))
    → IsLongest V74 code (b ∷ a ++ s) Word (suc (length a))
word_from_stays b a r s p old new from h =
    let (letter, labels) = and_parts (is_letter b) (all_label a) (words_are_labels V74 b a r h) in
    kept_word b a r p h letter labels old from s new
