-- What follows words, `\` and comments in code.
use Rattle.std.proofs.Common.{
  ◌≡◌,
  ℕ,
  suc,
  ◌+◌,
  Bool,
  true,
  false,
  cond,
  ◌&&◌,
  ◌||◌,
  nat_eq,
  List,
  [],
  ◌∷◌,
  ◌++◌,
  length,
  take,
  drop,
  Option,
  Some,
  None,
  refl,
  sym,
  ap,
  ◌∙◌,
  subst,
  arith,
}
use Rattle.std.proofs.lemmas.Bool.{eqb-true, and_parts}
use Rattle.std.proofs.lemmas.Bool.Decides.{nat_tests}
use Rattle.std.proofs.lemmas.List.{length-append}
use Rattle.std.proofs.Math.Seq.{take-append-add}
use Rattle.php_tree.specs.declared.version.Version.TheVariants.{V74, V83}
use Rattle.php_spellings.specs.declared.table.Kind.{Kind}
use Rattle.php_spellings.specs.declared.table.Kind.TheVariants.{Comment, Word, Op}
use Rattle.php_spellings.specs.declared.table.State.TheVariants.{First, Plain}
use Rattle.php_spellings.specs.declared.table.Run.TheVariants.{Labels, Line, HashLine}
use Rattle.php_spellings.specs.declared.table.Tail.TheVariants.{AnyWord}
use Rattle.php_spellings.specs.Bytes.{lower, is_letter, is_label_byte, is_empty, begins, begins_by}
use Rattle.php_lexer.specs.Heredocs.{led}
use Rattle.php_lexer.specs.Tails.{is_run}
use Rattle.php_lexer.specs.Rules.{Row, rule, is_tail, kind_by}
use Rattle.php_lexer.specs.RulesCode.{code_rows}
use Rattle.php_lexer.specs.Modes.{code, kind_of, IsLongest}
use Rattle.php_lexer.specs.Scan.{scan, run_len, add_to, word_len, longer}
use Rattle.php_lexer.proofs.Dispatch.{other_head, older_scan}
use Rattle.php_lexer.proofs.Single.{same_kind, same_length}
use Rattle.php_relexing.specs.Newer.{goes_deeper}
use Rattle.php_relexing.specs.Labels.{all_label, is_label}
use Rattle.php_relexing.proofs.Scanned.{found, found_length, scan_of, longest_of}
use Rattle.php_relexing.proofs.NameRows.{word_alone}
use Rattle.php_relexing.proofs.Labels.{words_are_labels}

-- ---- a row that the text meets

data At : Row → List Row → Type 0 where
  here : {row : Row} {rows : List Row} → At row (row ∷ rows)
  there : {row other : Row} {rows : List Row} → At row rows → At row (other ∷ rows)

abbrev meets_row : List ℕ → Row → List ℕ → List ℕ → Bool
meets_row label (rule kind w tail) text rest = led lower w (is_tail label tail) text rest

first_meets : (label : List ℕ) (row : Row) (rows : List Row) (text rest : List ℕ) → meets_row label row text rest ≡ true → kind_by label (row ∷ rows) text rest ≡ None → ⊥
first_meets label (rule kind w tail) rows text rest e none = let clash = rw e at none in cc

later_none : (t : Bool) (kind : Kind) (o : Option Kind) → cond t (Some kind) o ≡ None → o ≡ None
later_none true kind o e = absurd cc
later_none false kind o e = e

rest_none : (label : List ℕ) (row : Row) (rows : List Row) (text rest : List ℕ) → kind_by label (row ∷ rows) text rest ≡ None → kind_by label rows text rest ≡ None
rest_none label (rule kind w tail) rows text rest none = later_none (led lower w (is_tail label tail) text rest) kind (kind_by label rows text rest) none

not_none : {row : Row} {rows : List Row} (label text rest : List ℕ) → At row rows → meets_row label row text rest ≡ true → kind_by label rows text rest ≡ None → ⊥
not_none label text rest (here {row} {rows}) e none = first_meets label row rows text rest e none
not_none label text rest (there {row} {other} {rows} at) e none = not_none label text rest at e (rest_none label other rows text rest none)

word_row : At (rule Word [] AnyWord) (code_rows V74)
word_row = there (there (there (there (there (there here)))))

-- ---- a word ends where no byte of a label follows

run_of : (t rest : List ℕ) → all_label t ≡ true → is_run Labels [] Plain t rest ≡ true
run_of [] rest h = refl
run_of (b ∷ t) rest h =
    let (one, more) = and_parts (is_label_byte b) (all_label t) h in
    rw (one, run_of t rest more) refl

all_more : (a : List ℕ) (c : ℕ) → all_label a ≡ true → is_label_byte c ≡ true → all_label (a ++ c ∷ []) ≡ true
all_more [] c h e = rw e refl
all_more (b ∷ a) c h e =
    let (one, more) = and_parts (is_label_byte b) (all_label a) h in
    rw (one, all_more a c more e) refl

some_more : (a : List ℕ) (c : ℕ) → is_empty (a ++ c ∷ []) ≡ false
some_more [] c = refl
some_more (b ∷ a) c = refl

and_false : (x : Bool) → (x && false) ≡ false
and_false true = refl
and_false false = refl

longer_word : (b : ℕ) (a : List ℕ) (c : ℕ) (rest : List ℕ) → is_label (b ∷ a) ≡ true → is_label_byte c ≡ true → meets_row [] (rule Word [] AnyWord) (b ∷ a ++ c ∷ []) rest ≡ true
longer_word b a c rest h e =
    let (first, more) = and_parts (is_letter b) (all_label a) h in
    rw (first, run_of (a ++ c ∷ []) rest (all_more a c more e), some_more a c, and_false (nat_eq (lower b) 98)) refl

word_by : (b : ℕ) (a : List ℕ) (c : ℕ) (r : List ℕ) (t : Bool) → is_label_byte c ≡ t → is_label (b ∷ a) ≡ true
    → IsLongest V74 code (b ∷ a ++ c ∷ r) Word (suc (length a)) → t ≡ false
word_by b a c r false e label h = refl
word_by b a c r true e label h =
    let n = length a + 1 in
    let sizes = length-append a (c ∷ r) in
    let none : kind_of V74 code (b ∷ take n (a ++ c ∷ r)) (drop n (a ++ c ∷ r)) ≡ None = h.longest (suc n) (omega arith) (omega arith) in
    let front : take n (a ++ c ∷ r) ≡ a ++ c ∷ [] = take-append-add a (c ∷ r) 1 in
    absurd (not_none [] (b ∷ a ++ c ∷ []) (drop n (a ++ c ∷ r)) word_row (longer_word b a c (drop n (a ++ c ∷ r)) label e)
    (subst (λ (t : List ℕ). kind_of V74 code (b ∷ t) (drop n (a ++ c ∷ r)) ≡ None) front none))

pub word_ends : (b : ℕ) (a s : List ℕ) → IsLongest V74 code (b ∷ a ++ s) Word (suc (length a)) → begins is_label_byte s ≡ false
word_ends b a [] h = refl
word_ends b a (c ∷ r) h = word_by b a c r (is_label_byte c) refl (words_are_labels V74 b a (c ∷ r) h) h

-- ---- a letter with a name behind it begins a word of 7.4

abbrev goes_on : List ℕ → Bool
goes_on [] = false
goes_on (b ∷ bs) = nat_eq b 92 || is_label_byte b && goes_on bs

deeper_by : (b : ℕ) (bs : List ℕ) (x y : Bool) → is_label_byte b ≡ x → nat_eq b 92 ≡ y
    → (goes_deeper bs ≡ true → goes_on bs ≡ true) → cond x (goes_deeper bs) (y && begins is_letter bs) ≡ true
    → goes_on (b ∷ bs) ≡ true
deeper_by b bs x true p q ih h = rw q refl
deeper_by b bs true false p q ih h = rw (q, p, ih h) refl
deeper_by b bs false false p q ih h = absurd cc

deeper_goes : (bs : List ℕ) → goes_deeper bs ≡ true → goes_on bs ≡ true
deeper_goes [] h = absurd cc
deeper_goes (b ∷ bs) h = deeper_by b bs (is_label_byte b) (nat_eq b 92) refl refl (deeper_goes bs) h

abbrev kind_found : Option (Kind × ℕ) → Kind
kind_found None = Word
kind_found (Some x) = x.0

only_word : (o : Option ℕ) (kind : Kind) (n : ℕ) → longer Word o None ≡ found kind n → Word ≡ kind
only_word None kind n e = absurd cc
only_word (Some k) kind n e = ap kind_found e

letter_hash : (b : ℕ) → is_letter b ≡ true → nat_eq b 35 ≡ false
letter_hash b h = grind (arith, nat_tests)

pub word_first : (b : ℕ) (bs : List ℕ) (kind : Kind) (n : ℕ) → is_letter b ≡ true → goes_deeper bs ≡ true → IsLongest V74 code (b ∷ bs) kind n → Word ≡ kind
word_first b bs kind n h g old =
    only_word (add_to 0 (word_len (b ∷ bs))) kind n (sym (older_scan b bs (letter_hash b h) ∙ word_alone b bs h (deeper_goes bs g)) ∙ scan_of V74 code (b ∷ bs) kind n old)

-- ---- `\` alone is a token of 7.4

root_is : (bs : List ℕ) → IsLongest V74 code (92 ∷ bs) Op 1
root_is bs = longest_of V74 code (92 ∷ bs) Op 1 refl

pub root_kind : (bs : List ℕ) (kind : Kind) (n : ℕ) → IsLongest V74 code (92 ∷ bs) kind n → Op ≡ kind
root_kind bs kind n h = same_kind V74 code (92 ∷ bs) Op kind 1 n (root_is bs) h

pub root_alone : (a s : List ℕ) (kind : Kind) → IsLongest V74 code (92 ∷ a ++ s) kind (suc (length a)) → [] ≡ a
root_alone [] s kind h = refl
root_alone (b ∷ a) s kind h = absurd (let e = same_length V74 code (92 ∷ b ∷ a ++ s) Op kind 1 (suc (suc (length a))) (root_is (b ∷ a ++ s)) h in omega arith)

-- ---- comments with `#`

old_hash : (bs : List ℕ) → scan V74 code (35 ∷ bs) ≡ found Comment (1 + run_len Line [] First bs)
old_hash bs = refl

pub hash_kind : (bs : List ℕ) (kind : Kind) (n : ℕ) → IsLongest V74 code (35 ∷ bs) kind n → Comment ≡ kind
hash_kind bs kind n h = same_kind V74 code (35 ∷ bs) Comment kind (1 + run_len Line [] First bs) n
    (longest_of V74 code (35 ∷ bs) Comment (1 + run_len Line [] First bs) (old_hash bs)) h

new_hash : (bs : List ℕ) → begins_by 91 bs ≡ false → scan V83 code (35 ∷ bs) ≡ found Comment (1 + run_len HashLine [] First bs)
new_hash [] h = refl
new_hash (b ∷ bs) h = let head = other_head 91 b refl h in rw head refl

hash_plain : (bs : List ℕ) → run_len HashLine [] Plain bs ≡ run_len Line [] Plain bs
hash_plain [] = refl
hash_plain (b ∷ bs) = rw (hash_plain bs) refl

hash_first : (bs : List ℕ) → begins_by 91 bs ≡ false → run_len HashLine [] First bs ≡ run_len Line [] First bs
hash_first [] h = refl
hash_first (b ∷ bs) h = rw (h, hash_plain bs) refl

bracket_by : (c : ℕ) (s : List ℕ) (t : Bool) → nat_eq c 91 ≡ t → 1 + run_len Line [] First (c ∷ s) ≡ 1 → t ≡ false
bracket_by c s false e h = refl
bracket_by c s true e h =
    let same : c ≡ 91 = eqb-true c 91 e in
    let there : 1 + run_len Line [] First (91 ∷ s) ≡ 1 = subst (λ (x : ℕ). 1 + run_len Line [] First (x ∷ s) ≡ 1) same h in
    absurd (omega arith)

no_bracket : (a s : List ℕ) → 1 + run_len Line [] First (a ++ s) ≡ suc (length a) → begins_by 91 a ≡ false → begins_by 91 (a ++ s) ≡ false
no_bracket [] [] e h = refl
no_bracket [] (c ∷ s) e h = bracket_by c s (nat_eq c 91) refl e
no_bracket (b ∷ a) s e h = h

pub hash_stays : (a s : List ℕ) → begins_by 91 a ≡ false → IsLongest V74 code (35 ∷ a ++ s) Comment (suc (length a)) → IsLongest V83 code (35 ∷ a ++ s) Comment (suc (length a))
hash_stays a s first h =
    let size : 1 + run_len Line [] First (a ++ s) ≡ suc (length a) =
    found_length Comment Comment (1 + run_len Line [] First (a ++ s)) (suc (length a))
    (scan_of V74 code (35 ∷ a ++ s) Comment (suc (length a)) h) in
    let front = no_bracket a s size first in
    let new : 1 + run_len HashLine [] First (a ++ s) ≡ suc (length a) = rw (hash_first (a ++ s) front) size in
    longest_of V83 code (35 ∷ a ++ s) Comment (suc (length a)) (new_hash (a ++ s) front ∙ ap (found Comment) new)
