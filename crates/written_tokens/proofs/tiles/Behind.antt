-- What the source's tokens of code say of the bytes behind them.
use Rattle.std.proofs.Common.{◌≡◌, ℕ, suc, Bool, true, false, cond, not, ◌&&◌, ◌||◌, nat_eq, List, [], ◌∷◌, ◌++◌, length, drop, codes, refl, sym, arith}
use Rattle.std.proofs.lemmas.Bool.{and_parts, eqb-true, not-true}
use Rattle.std.proofs.lemmas.Bool.Decides.{nat_tests}
use Rattle.php_tree.specs.declared.version.Version.TheVariants.{V74}
use Rattle.php_spellings.specs.declared.table.Kind.{Kind}
use Rattle.php_spellings.specs.declared.table.Kind.TheVariants.{Space, Word, Keyword}
use Rattle.php_spellings.specs.declared.table.State.{State}
use Rattle.php_spellings.specs.declared.table.State.TheVariants.{First, Plain, Escaped}
use Rattle.php_spellings.specs.declared.table.Run.TheVariants.{Spaces, Labels}
use Rattle.php_spellings.specs.declared.table.Until.TheVariants.{From}
use Rattle.php_spellings.specs.Bytes.{is_space, is_letter, is_label_byte, is_empty, lower, begins, starts_word}
use Rattle.php_lexer.specs.Heredocs.{led, no_label}
use Rattle.php_lexer.specs.Tails.{is_run, is_until, word_alone}
use Rattle.php_lexer.specs.Rules.{begins_text}
use Rattle.php_lexer.specs.RulesCode.{code_rows}
use Rattle.php_lexer.specs.Modes.{code, IsLongest}
use Rattle.php_relexing.specs.Labels.{all_label}
use Rattle.php_relexing.proofs.Labels.{words_are_labels}
use Rattle.php_relexing.proofs.Picked.{longest_meets}
use Rattle.php_relexing.proofs.Spaces.{all_space}
use Rattle.written_tokens.proofs.tiles.Longer.{longer_none}
pub use Rattle.written_tokens.proofs.tiles.Longer.{longer_in, none_meets, or_none, or_no, opposite}
pub use Rattle.written_tokens.proofs.tiles.BehindMarks.{line_behind, question_behind, slash_behind, less_one, shift_behind, most_behind, end_alone, end_return}

-- ---- white space

abbrev is_space_row : Kind → Bool
is_space_row Space = true
is_space_row _ = false

space_run : (st : State) (text rest : List ℕ) → is_run Spaces [] st text rest ≡ true → all_space text ≡ true
space_run st [] rest h = refl
space_run st (b ∷ text) rest h =
    let (here, more) = and_parts (is_space b) (is_run Spaces [] Plain text rest) h in
    rw (here, space_run Plain text rest more) refl

pub space_all : (b : ℕ) (a r : List ℕ) → IsLongest V74 code (b ∷ a ++ r) Space (suc (length a)) → all_space (b ∷ a) ≡ true
space_all b a r h = space_run First (b ∷ a) r (or_none _ (longest_meets is_space_row V74 code (b ∷ a) r Space refl h))

run_spaces : (st : State) (text rest : List ℕ) → all_space text ≡ true → is_run Spaces [] st text rest ≡ true
run_spaces st [] rest h = refl
run_spaces st (b ∷ text) rest h =
    let (here, more) = and_parts (is_space b) (all_space text) h in
    rw (here, run_spaces Plain text rest more) refl

space_joins : (a : List ℕ) (c : ℕ) → all_space a ≡ true → is_space c ≡ true → all_space (a ++ c ∷ []) ≡ true
space_joins [] c h e = rw e refl
space_joins (b ∷ a) c h e =
    let (here, more) = and_parts (is_space b) (all_space a) h in
    rw (here, space_joins a c more e) refl

pub space_behind : (b : ℕ) (a r : List ℕ) → IsLongest V74 code (b ∷ a ++ r) Space (suc (length a)) → begins is_space r ≡ false
space_behind b a [] h = refl
space_behind b a (c ∷ r) h = by_case (is_space c) refl
  where
    by_case : (x : Bool) → is_space c ≡ x → x ≡ false
    by_case false e = refl
    by_case true e =
        let all = space_joins (b ∷ a) c (space_all b a (c ∷ r) h) e in
        let none = or_no _ (none_meets is_space_row (b ∷ a ++ c ∷ []) r (code_rows V74) (longer_none b c a r Space h)) in
        opposite _ (run_spaces First (b ∷ a ++ c ∷ []) r all) none

-- ---- words

abbrev is_word_row : Kind → Bool
is_word_row Word = true
is_word_row _ = false

run_labels : (a : List ℕ) (c : ℕ) (rest : List ℕ) → all_label a ≡ true → is_label_byte c ≡ true → is_run Labels [] Plain (a ++ c ∷ []) rest ≡ true
run_labels [] c rest h e = rw e refl
run_labels (b ∷ a) c rest h e =
    let (here, more) = and_parts (is_label_byte b) (all_label a) h in
    rw (here, run_labels a c rest more e) refl

empty_and : (x : Bool) (a : List ℕ) (c : ℕ) → (x && is_empty (a ++ c ∷ [])) ≡ false
empty_and true [] c = refl
empty_and true (b ∷ a) c = refl
empty_and false a c = refl

word_longer : (b c : ℕ) (a r : List ℕ) → is_letter b ≡ true → all_label a ≡ true → is_label_byte c ≡ true
    → ((is_letter b && is_run Labels [] Plain (a ++ c ∷ []) r)
    && not ((nat_eq (lower b) 98 && is_empty (a ++ c ∷ [])) && begins_text r)) ≡ true
word_longer b c a r h k e = rw (h, run_labels a c r k e, empty_and (nat_eq (lower b) 98) a c) refl

pub word_behind : (b : ℕ) (a r : List ℕ) → IsLongest V74 code (b ∷ a ++ r) Word (suc (length a)) → begins is_label_byte r ≡ false
word_behind b a [] h = refl
word_behind b a (c ∷ r) h = by_case (is_label_byte c) refl
  where
    by_case : (x : Bool) → is_label_byte c ≡ x → x ≡ false
    by_case false e = refl
    by_case true e =
        let (letter, more) = and_parts (is_letter b) (all_label a) (words_are_labels V74 b a (c ∷ r) h) in
        let none = or_no _ (none_meets is_word_row (b ∷ a ++ c ∷ []) r (code_rows V74) (longer_none b c a r Word h)) in
        opposite _ (word_longer b c a r letter more e) none

-- ---- `yield from`

abbrev is_keyword_row : Kind → Bool
is_keyword_row Keyword = true
is_keyword_row _ = false

keyword_led : (b : ℕ) (a r : List ℕ) → IsLongest V74 code (b ∷ a ++ r) Keyword (suc (length a)) → led lower (codes "yield") (is_until From First) (b ∷ a) r ≡ true
keyword_led b a r h = or_none _ (longest_meets is_keyword_row V74 code (b ∷ a) r Keyword refl h)

pub keyword_y : (b : ℕ) (a r : List ℕ) → IsLongest V74 code (b ∷ a ++ r) Keyword (suc (length a)) → nat_eq 121 (lower b) ≡ true
keyword_y b a r h = (and_parts (nat_eq 121 (lower b)) (led lower (codes "ield") (is_until From First) a r) (keyword_led b a r h)).0

pub keyword_first : (b : ℕ) (a r : List ℕ) → IsLongest V74 code (b ∷ a ++ r) Keyword (suc (length a)) → lower b ≡ 121
keyword_first b a r h = sym (eqb-true 121 (lower b) (keyword_y b a r h))

not_last : (c : ℕ) (k : ℕ) → nat_eq k (lower c) ≡ true → nat_eq k 109 ≡ false → nat_eq (lower c) 109 ≡ false
not_last c k h e = grind (arith, nat_tests)

four_of : (f r o m n : Bool) → ((f && (r && (o && (m && true)))) && n) ≡ true → (m ≡ true) × (n ≡ true)
four_of true true true true true h = (refl, refl)
four_of true true true true false h = absurd cc
four_of true true true false n h = absurd cc
four_of true true false m n h = absurd cc
four_of true false o m n h = absurd cc
four_of false r o m n h = absurd cc

second_of : (f r x n : Bool) → ((f && (r && x)) && n) ≡ true → r ≡ true
second_of true true x n h = refl
second_of true false x n h = absurd cc
second_of false r x n h = absurd cc

third_of : (f r o x n : Bool) → ((f && (r && (o && x))) && n) ≡ true → o ≡ true
third_of true true true x n h = refl
third_of true true false x n h = absurd cc
third_of true false o x n h = absurd cc
third_of false r o x n h = absurd cc

not_label : (r : List ℕ) → no_label r ≡ true → begins is_label_byte r ≡ false
not_label r h = not-true (begins is_label_byte r) h

last_is : (f : ℕ) → nat_eq 109 (lower f) ≡ true → nat_eq (lower f) 109 ≡ true
last_is f e = grind (arith, nat_tests)

alone_ends : (b : ℕ) (t r : List ℕ) → is_until From Escaped t r ≡ true → word_alone (codes "from") (b ∷ t ++ r) ≡ true → begins is_label_byte r ≡ false
alone_ends b [] r h k = absurd cc
alone_ends b (c ∷ []) r h k =
    let second = second_of (nat_eq 102 (lower b)) (nat_eq 114 (lower c)) (starts_word (codes "om") r) (no_label (drop 2 r)) k in
    absurd (let other = not_last c 114 second refl in let f : cond (nat_eq (lower c) 109) true false ≡ true = h in let g : cond false true false ≡ true = rw other at f in cc)
alone_ends b (c ∷ d ∷ []) r h k =
    let third = third_of (nat_eq 102 (lower b)) (nat_eq 114 (lower c)) (nat_eq 111 (lower d)) (starts_word (codes "m") r) (no_label (drop 1 r)) k in
    absurd (by_two (nat_eq (lower c) 109) (not_last d 111 third refl) h)
  where
    by_two : (x : Bool) → nat_eq (lower d) 109 ≡ false → cond x false (cond (nat_eq (lower d) 109) true false) ≡ true → ⊥
    by_two true other f = cc
    by_two false other f = let g : cond false true false ≡ true = rw other at f in cc
alone_ends b (c ∷ d ∷ f ∷ []) r h k =
    not_label r (four_of (nat_eq 102 (lower b)) (nat_eq 114 (lower c)) (nat_eq 111 (lower d)) (nat_eq 109 (lower f)) (no_label r) k).1
alone_ends b (c ∷ d ∷ f ∷ g ∷ t) r h k =
    let last = last_is f (four_of (nat_eq 102 (lower b)) (nat_eq 114 (lower c)) (nat_eq 111 (lower d)) (nat_eq 109 (lower f)) (no_label (g ∷ t ++ r)) k).0 in
    absurd (by_three (nat_eq (lower c) 109) (nat_eq (lower d) 109) (nat_eq (lower f) 109) last h)
  where
    by_three : (x y z : Bool) → z ≡ true → cond x false (cond y false (cond z false (is_until From Escaped (g ∷ t) r))) ≡ true → ⊥
    by_three true y z e f = cc
    by_three false true z e f = cc
    by_three false false true e f = cc
    by_three false false false e f = cc

plain_ends : (b : ℕ) (t r : List ℕ) → (is_until From Plain t r ≡ true → begins is_label_byte r ≡ false) → (x y : Bool)
    → word_alone (codes "from") (b ∷ t ++ r) ≡ y → (not (not (x || y)) && is_until From (cond x Plain Escaped) t r) ≡
    true → begins is_label_byte r ≡ false
plain_ends b t r ih true y e h = ih h
plain_ends b t r ih false true e h = alone_ends b t r h e
plain_ends b t r ih false false e h = absurd cc

from_ends : (t r : List ℕ) → is_until From Plain t r ≡ true → begins is_label_byte r ≡ false
from_ends [] r h = absurd cc
from_ends (b ∷ t) r h = plain_ends b t r (from_ends t r) (is_space b) (word_alone (codes "from") (b ∷ t ++ r)) refl h

first_ends : (t r : List ℕ) → is_until From First t r ≡ true → begins is_label_byte r ≡ false
first_ends [] r h = absurd cc
first_ends (b ∷ t) r h = from_ends t r (and_parts (not (not (is_space b))) (is_until From Plain t r) h).1

led_ends : (w t r : List ℕ) → led lower w (is_until From First) t r ≡ true → begins is_label_byte r ≡ false
led_ends [] t r h = first_ends t r h
led_ends (x ∷ w) [] r h = absurd cc
led_ends (x ∷ w) (b ∷ t) r h = led_ends w t r (and_parts (nat_eq x (lower b)) (led lower w (is_until From First) t r) h).1

pub keyword_behind : (b : ℕ) (a r : List ℕ) → IsLongest V74 code (b ∷ a ++ r) Keyword (suc (length a)) → begins is_label_byte r ≡ false
keyword_behind b a r h = led_ends (codes "yield") (b ∷ a) r (keyword_led b a r h)
