-- The words `yield from` before other bytes.
use Rattle.std.proofs.Common.{
  ◌≡◌,
  ℕ,
  suc,
  ◌+◌,
  ◌≤◌,
  Bool,
  true,
  false,
  cond,
  not,
  ◌&&◌,
  ◌||◌,
  nat_eq,
  nat_lt,
  List,
  [],
  ◌∷◌,
  ◌++◌,
  length,
  take,
  drop,
  codes,
  Option,
  Some,
  None,
  refl,
  ap,
  ◌∙◌,
  arith,
}
use Rattle.std.proofs.lemmas.Bool.{and_parts, not-true}
use Rattle.std.proofs.lemmas.Bool.Decides.{nat_tests}
use Rattle.php_tree.specs.declared.version.Version.TheVariants.{V74}
use Rattle.php_spellings.specs.declared.table.Kind.{Kind}
use Rattle.php_spellings.specs.declared.table.Kind.TheVariants.{Keyword, Word}
use Rattle.php_spellings.specs.declared.table.State.{State}
use Rattle.php_spellings.specs.declared.table.State.TheVariants.{First, Plain, Escaped}
use Rattle.php_spellings.specs.declared.table.Run.TheVariants.{Labels}
use Rattle.php_spellings.specs.declared.table.Until.TheVariants.{From}
use Rattle.php_spellings.specs.Bytes.{is_space, is_letter, is_label_byte, is_empty, lower, begins, starts_word}
use Rattle.php_lexer.specs.Heredocs.{led, no_label}
use Rattle.php_lexer.specs.Tails.{word_alone, is_until}
use Rattle.php_lexer.specs.Rules.{is_b, begins_text}
use Rattle.php_lexer.specs.Modes.{code}
use Rattle.php_lexer.specs.Scan.{until_len, add_to, behind, run_len, some_len, word_len, longer}
use Rattle.php_lexer.proofs.Dispatch.{letter_scan, older_scan}
use Rattle.php_lexer.proofs.Counts.{some_eq}
use Rattle.php_relexing.specs.Words.{YieldFromStays}
use Rattle.php_relexing.proofs.Picked.{longest_meets}
use Rattle.php_relexing.proofs.Words.{rows_are, letter_hash}
use Rattle.php_relexing.proofs.Scanned.{found, longest_of}

-- ---- `from` alone

-- the last byte of `from` closes the text
closing : (c : ℕ) (k : ℕ) → nat_eq k (lower c) ≡ true → nat_eq k 109 ≡ false → nat_eq (lower c) 109 ≡ false
closing c k h e = grind (arith, nat_tests)

front_of : (f r o m n : Bool) → ((f && (r && (o && (m && true)))) && n) ≡ true → (f ≡ true) × ((r ≡ true) × ((o ≡ true) × (m ≡ true)))
front_of true true true true n h = (refl, (refl, (refl, refl)))
front_of true true true false n h = absurd cc
front_of true true false m n h = absurd cc
front_of true false o m n h = absurd cc
front_of false r o m n h = absurd cc

second_of : (f r x n : Bool) → ((f && (r && x)) && n) ≡ true → r ≡ true
second_of true true x n h = refl
second_of true false x n h = absurd cc
second_of false r x n h = absurd cc

third_of : (f r o x n : Bool) → ((f && (r && (o && x))) && n) ≡ true → o ≡ true
third_of true true true x n h = refl
third_of true true false x n h = absurd cc
third_of true false o x n h = absurd cc
third_of false r o x n h = absurd cc

alone_same : (b : ℕ) (t r s : List ℕ) → begins is_label_byte s ≡ false → is_until From Escaped t r ≡ true
    → word_alone (codes "from") (b ∷ t ++ r) ≡ true → word_alone (codes "from") (b ∷ t ++ s) ≡ true
alone_same b [] r s e h k = absurd cc
alone_same b (c ∷ []) r s e h k =
    let second = second_of (nat_eq 102 (lower b)) (nat_eq 114 (lower c)) (starts_word (codes "om") r) (no_label (drop 2 r)) k in
    absurd (let other = closing c 114 second refl in let f : cond (nat_eq (lower c) 109) true false ≡ true = h in let g : cond false true false ≡ true = rw other at f in cc)
alone_same b (c ∷ d ∷ []) r s e h k =
    let third = third_of (nat_eq 102 (lower b)) (nat_eq 114 (lower c)) (nat_eq 111 (lower d)) (starts_word (codes "m") r) (no_label (drop 1 r)) k in
    absurd (by_two (nat_eq (lower c) 109) (closing d 111 third refl) h)
  where
    by_two : (x : Bool) → nat_eq (lower d) 109 ≡ false → cond x false (cond (nat_eq (lower d) 109) true false) ≡ true → ⊥
    by_two true other f = cc
    by_two false other f = let g : cond false true false ≡ true = rw other at f in cc
alone_same b (c ∷ d ∷ f ∷ []) r s e h k =
    let is = front_of (nat_eq 102 (lower b)) (nat_eq 114 (lower c)) (nat_eq 111 (lower d)) (nat_eq 109 (lower f)) (no_label r) k in
    rw (is.0, is.1.0, is.1.1.0, is.1.1.1, e) refl
alone_same b (c ∷ d ∷ f ∷ g ∷ t) r s e h k = k

-- ---- how far it goes

from_plain : (b : ℕ) (t r s : List ℕ) → begins is_label_byte s ≡ false
    → ((st : State) → is_until From st t r ≡ true → until_len From st (t ++ s) ≡ Some (length t)) → (x y : Bool)
    → is_space b ≡ x → word_alone (codes "from") (b ∷ t ++ r) ≡ y
    → (not (not (x || y)) && is_until From (cond x Plain Escaped) t r) ≡ true
    → until_len From Plain (b ∷ t ++ s) ≡ Some (suc (length t))
from_plain b t r s e ih true y p q h =
    let one : 1 + length t ≡ suc (length t) = omega arith in
    rw (p, ih Plain h, one) refl
from_plain b t r s e ih false true p q h =
    let one : 1 + length t ≡ suc (length t) = omega arith in
    rw (p, alone_same b t r s e h q, ih Escaped h, one) refl
from_plain b t r s e ih false false p q h = absurd cc

from_escaped : (b : ℕ) (t r s : List ℕ) → (is_until From Escaped t r ≡ true
    → until_len From Escaped (t ++ s) ≡ Some (length t)) → (x : Bool) → nat_eq (lower b) 109 ≡ x
    → cond x (is_empty t) (is_until From Escaped t r) ≡ true
    → until_len From Escaped (b ∷ t ++ s) ≡ Some (suc (length t))
from_escaped b [] r s ih true p h = rw p refl
from_escaped b (c ∷ t) r s ih true p h = absurd cc
from_escaped b t r s ih false p h =
    let one : 1 + length t ≡ suc (length t) = omega arith in
    rw (p, ih h, one) refl

from_len : (t r s : List ℕ) → begins is_label_byte s ≡ false → (st : State) → is_until From st t r ≡ true → until_len From st (t ++ s) ≡ Some (length t)
from_len [] r s e st h = absurd cc
from_len (b ∷ t) r s e First h =
    let (space, more) = and_parts (not (not (is_space b))) (is_until From Plain t r) h in
    let one : 1 + length t ≡ suc (length t) = omega arith in
    let blank : not (is_space b) ≡ false = not-true (not (is_space b)) space in
    rw (blank, from_len t r s e Plain more, one) refl
from_len (b ∷ t) r s e Plain h = from_plain b t r s e (from_len t r s e) (is_space b) (word_alone (codes "from") (b ∷ t ++ r)) refl refl h
from_len (b ∷ t) r s e Escaped h = from_escaped b t r s (from_len t r s e Escaped) (nat_eq (lower b) 109) refl h

-- ---- behind `yield`

space_is : (b : ℕ) → not (is_space b) ≡ false → is_space b ≡ true
space_is b h = by_case (is_space b) h
  where
    by_case : (x : Bool) → not x ≡ false → x ≡ true
    by_case true h = refl
    by_case false h = absurd cc

behind_by : (t : Bool) (n m : ℕ) (o : Option ℕ) → cond t (add_to n o) None ≡ Some m → cond t (add_to (suc n) o) None ≡ Some (suc m)
behind_by true n m None e = absurd cc
behind_by true n m (Some k) e = ap Some (let size = some_eq (n + k) m e in omega arith)
behind_by false n m o e = absurd cc

zero_more : (o : Option ℕ) (n : ℕ) → o ≡ Some n → add_to 0 o ≡ Some n
zero_more o n e = let same : 0 + n ≡ n = omega arith in rw (e, same) refl

led_len : (w t r s : List ℕ) → begins is_label_byte s ≡ false → led lower w (is_until From First) t r ≡ true → behind lower w (until_len From First) (t ++ s) ≡ Some (length t)
led_len [] t r s e h = zero_more (until_len From First (t ++ s)) (length t) (from_len t r s e First h)
led_len (x ∷ w) [] r s e h = absurd cc
led_len (x ∷ w) (b ∷ t) r s e h =
    let (here, more) = and_parts (nat_eq x (lower b)) (led lower w (is_until From First) t r) h in
    rw here (behind_by (starts_word w (t ++ s)) (length w) (length t) (until_len From First (drop (length w) (t ++ s))) (led_len w t r s e more))

-- the first word of it is shorter
short_by : (x : Bool) (n m : ℕ) → n ≤ m → cond x (1 + n) 0 ≤ suc m
short_by true n m le = omega arith
short_by false n m le = omega arith

space_label : (b : ℕ) → is_space b ≡ true → is_label_byte b ≡ false
space_label b h = grind (arith, nat_tests)

led_run : (w t r s : List ℕ) → led lower w (is_until From First) t r ≡ true → run_len Labels [] Plain (t ++ s) ≤ length t
led_run [] [] r s h = absurd cc
led_run [] (b ∷ t) r s h =
    let (space, more) = and_parts (not (not (is_space b))) (is_until From Plain t r) h in
    let blank : not (is_space b) ≡ false = not-true (not (is_space b)) space in
    rw (space_label b (space_is b blank)) (omega arith)
led_run (x ∷ w) [] r s h = absurd cc
led_run (x ∷ w) (b ∷ t) r s h =
    let (here, more) = and_parts (nat_eq x (lower b)) (led lower w (is_until From First) t r) h in
    short_by (is_label_byte b) (run_len Labels [] Plain (t ++ s)) (length t) (led_run w t r s more)

-- ---- the scan

over_by : (n l : ℕ) → l ≤ n → (x y : Bool) → nat_eq l 0 ≡ y → longer Keyword (Some n) (longer Word (add_to 0 (cond x None (some_len l))) None) ≡ found Keyword n
over_by n l le true y e = refl
over_by n l le false true e = rw e refl
over_by n l le false false e =
    let same : 0 + l ≡ l = omega arith in
    let less : nat_lt n l ≡ false = grind (arith, nat_tests) in
    rw (e, same, less) refl

abbrev is_keyword_kind : Kind → Bool
is_keyword_kind Keyword = true
is_keyword_kind _ = false

or_none : (x : Bool) → (x || false) ≡ true → x ≡ true
or_none true h = refl
or_none false h = absurd cc

y_letter : (b : ℕ) → nat_eq 121 (lower b) ≡ true → (is_letter b ≡ true) × (nat_eq 98 (lower b) ≡ false)
y_letter b h = (grind (arith, nat_tests), grind (arith, nat_tests))

word_over : (b : ℕ) (a s : List ℕ) → is_letter b ≡ true → run_len Labels [] Plain (a ++ s) ≤ length a
    → longer Keyword (Some (suc (length a))) (longer Word (add_to 0 (word_len (b ∷ a ++ s))) None) ≡ found Keyword
    (suc (length a))
word_over b a s h le =
    let n = 1 + run_len Labels [] Plain (a ++ s) in
    rw h (over_by (suc (length a)) n (omega arith) (is_b (take n (b ∷ a ++ s)) && begins_text (drop n (b ∷ a ++ s))) (nat_eq n 0) refl)

pub yield_from_stays : YieldFromStays
yield_from_stays b a r s e h =
    let is : led lower (codes "yield") (is_until From First) (b ∷ a) r ≡ true = or_none _ (longest_meets is_keyword_kind V74 code (b ∷ a) r Keyword refl h) in
    let (first, rest) = and_parts (nat_eq 121 (lower b)) (led lower (codes "ield") (is_until From First) a r) is in
    let letter = y_letter b first in
    let len : cond (nat_eq 121 (lower b) && starts_word (codes "ield") (a ++ s))
    (add_to 5 (until_len From First (drop 4 (a ++ s)))) None ≡ Some (suc (length a)) =
    led_len (codes "yield") (b ∷ a) r s e is in
    longest_of V74 code (b ∷ a ++ s) Keyword (suc (length a)) (
    older_scan b (a ++ s) (letter_hash b letter.0)
    ∙ letter_scan b (a ++ s) letter.0
    ∙ rows_are b (a ++ s) letter.1
    ∙ ap (λ o. longer Keyword o (longer Word (add_to 0 (word_len (b ∷ a ++ s))) None)) len
    ∙ word_over b a s letter.0 (led_run (codes "ield") a r s rest)
    )
