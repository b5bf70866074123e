-- Texts in quotes, block comments and casts stay whatever follows them.
use Rattle.std.proofs.Common.{◌≡◌, ℕ, suc, ◌+◌, ◌≤◌, Bool, true, false, ◌||◌, nat_eq, nat_lt, List, [], ◌∷◌, ◌++◌, length, Option, Some, None, refl, sym, ap, ◌∙◌, subst, arith}
use Rattle.std.proofs.lemmas.Bool.{eqb-true}
use Rattle.std.proofs.lemmas.Bool.Decides.{nat_tests}
use Rattle.php_tree.specs.declared.version.Version.{Version}
use Rattle.php_tree.specs.declared.version.Version.TheVariants.{V74, V83}
use Rattle.php_spellings.specs.declared.table.Kind.{Kind}
use Rattle.php_spellings.specs.declared.table.Kind.TheVariants.{Comment, Word, Text, Quote, Cast, Op}
use Rattle.php_spellings.specs.declared.table.State.TheVariants.{First}
use Rattle.php_spellings.specs.declared.table.Until.{Until}
use Rattle.php_spellings.specs.declared.table.Until.TheVariants.{Simple, Closed, Block, CastWord}
use Rattle.php_spellings.specs.Bytes.{is_letter, lower}
use Rattle.php_lexer.specs.RulesCode.{common_rows}
use Rattle.php_lexer.specs.Modes.{code, IsLongest}
use Rattle.php_lexer.specs.Scan.{scan, scan_by, until_len, add_to, longer}
use Rattle.php_lexer.proofs.Dispatch.{letter_scan, older_scan}
use Rattle.php_relexing.specs.Newer.{begins_name}
use Rattle.php_relexing.specs.Closed.{QuotedTextsStay, BinaryTextsStay, BlockCommentsStay, CastsStay}
use Rattle.php_relexing.proofs.Newer.{same_code}
use Rattle.php_relexing.proofs.Scanned.{found, found_length, scan_of, rescanned}
use Rattle.php_relexing.proofs.Closing.{Blind, until_stays, simple_blind, closed_blind, block_blind, cast_blind}

-- ---- from the length that is scanned to that of the text

-- what is scanned where a text may close: a longer token, or another one
abbrev scanned_to : Kind → ℕ → Option ℕ → Option (Kind × ℕ) → Option (Kind × ℕ)
scanned_to kind k o other = longer kind (add_to (suc k) o) other

-- the other token is shorter and of another kind
abbrev pub kind_found : Option (Kind × ℕ) → Option Kind
kind_found None = None
kind_found (Some x) = Some x.0

not_less : (k m : ℕ) → nat_lt (suc k + m) 1 ≡ false
not_less k m = grind (arith, nat_tests)

len_alone : (kind : Kind) (k : ℕ) (o : Option ℕ) (n : ℕ) → scanned_to kind k o None ≡ found kind n → (m : ℕ) × (o ≡ Some m) × (suc k + m ≡ n)
len_alone kind k None n e = absurd cc
len_alone kind k (Some m) n e = (m, refl, found_length kind kind (suc k + m) n e)

len_over : (kind other : Kind) (k : ℕ) (o : Option ℕ) (n : ℕ) → (Some other ≡ Some kind → ⊥)
    → scanned_to kind k o (Some (other, 1)) ≡ found kind n → (m : ℕ) × (o ≡ Some m) × (suc k + m ≡ n)
len_over kind other k None n differ e = absurd (differ (ap kind_found e))
len_over kind other k (Some m) n differ e = (m, refl, found_length kind kind (suc k + m) n (rw (not_less k m) at e))

-- ---- how they are scanned

simple_scan : (v : Version) (bs : List ℕ) → scan v code (39 ∷ bs) ≡ scanned_to Text 0 (until_len Simple First bs) None
simple_scan V74 bs = refl
simple_scan V83 bs = refl

double_scan : (v : Version) (bs : List ℕ) → scan v code (34 ∷ bs) ≡ scanned_to Text 0 (until_len Closed First bs) (Some (Quote, 1))
double_scan V74 bs = refl
double_scan V83 bs = refl

block_scan : (v : Version) (bs : List ℕ) → scan v code (47 ∷ 42 ∷ bs) ≡ scanned_to Comment 1 (until_len Block First bs) None
block_scan V74 bs = refl
block_scan V83 bs = refl

pub cast_scan : (v : Version) (bs : List ℕ) → scan v code (40 ∷ bs) ≡ scanned_to Cast 0 (until_len CastWord First bs) (Some (Op, 1))
cast_scan V74 bs = refl
cast_scan V83 bs = refl

-- ---- with `b` in front

b_letter : (b : ℕ) → lower b ≡ 98 → is_letter b ≡ true
b_letter b h = grind (arith, nat_tests)

b_hash : (b : ℕ) → lower b ≡ 98 → nat_eq b 35 ≡ false
b_hash b h = grind (arith, nat_tests)

b_simple : (b : ℕ) (bs : List ℕ) → lower b ≡ 98 → scan_by [] common_rows (b ∷ 39 ∷ bs) ≡ scanned_to Text 1 (until_len Simple First bs) None
b_simple b bs h = letter_scan b (39 ∷ bs) (b_letter b h) ∙ rw (b_letter b h, h) refl

word_over : (m : ℕ) → longer Word (Some 1) (longer Text (Some (2 + m)) (Some (Quote, 2))) ≡ found Text (2 + m)
word_over m =
    let first : nat_lt (2 + m) 2 ≡ false = grind (arith, nat_tests) in
    let second : nat_lt 1 (2 + m) ≡ true = grind (arith, nat_tests) in
    rw (first, second) refl

-- a text in double quotes with `b` in front, or the token that opens one
abbrev pub double_to : Option ℕ → Option (Kind × ℕ)
double_to None = found Quote 2
double_to (Some m) = found Text (2 + m)

double_by : (o : Option ℕ) → longer Word (Some 1) (longer Text (add_to 2 o) (Some (Quote, 2))) ≡ double_to o
double_by None = refl
double_by (Some m) = word_over m

b_double : (b : ℕ) (bs : List ℕ) → lower b ≡ 98 → scan_by [] common_rows (b ∷ 34 ∷ bs) ≡ double_to (until_len Closed First bs)
b_double b bs h = letter_scan b (34 ∷ bs) (b_letter b h) ∙ rw (b_letter b h, h) (double_by (until_len Closed First bs))

-- both versions scan what begins so by the rows that they share
b_common : (v : Version) (b q : ℕ) (bs : List ℕ) → lower b ≡ 98 → begins_name (b ∷ q ∷ bs) ≡ false → scan v code (b ∷ q ∷ bs) ≡ scan_by [] common_rows (b ∷ q ∷ bs)
b_common V74 b q bs h none = older_scan b (q ∷ bs) (b_hash b h)
b_common V83 b q bs h none = sym (same_code (b ∷ q ∷ bs) (b_hash b h) none) ∙ older_scan b (q ∷ bs) (b_hash b h)

b_no_name : (b : ℕ) (bs : List ℕ) → lower b ≡ 98 → (begins_name (b ∷ 39 ∷ bs) ≡ false) × (begins_name (b ∷ 34 ∷ bs) ≡ false)
b_no_name b bs h = let letter = b_letter b h in (rw letter refl, rw letter refl)

bs_scan : (v : Version) (b : ℕ) (bs : List ℕ) → lower b ≡ 98 → scan v code (b ∷ 39 ∷ bs) ≡ scanned_to Text 1 (until_len Simple First bs) None
bs_scan v b bs h = b_common v b 39 bs h (b_no_name b bs h).0 ∙ b_simple b bs h

pub bd_scan : (v : Version) (b : ℕ) (bs : List ℕ) → lower b ≡ 98 → scan v code (b ∷ 34 ∷ bs) ≡ double_to (until_len Closed First bs)
bd_scan v b bs h = b_common v b 34 bs h (b_no_name b bs h).1 ∙ b_double b bs h

-- ---- what stays

module _ (v w : Version) (a r s : List ℕ) where
  same_len : (u : Until) → Blind u → (m : ℕ) → until_len u First (a ++ r) ≡ Some m → m ≤ length a → until_len u First (a ++ r) ≡ until_len u First (a ++ s)
  same_len u blind m e le = e ∙ sym (until_stays u blind First a r s m e le)

  simple : IsLongest v code (39 ∷ a ++ r) Text (suc (length a)) → IsLongest w code (39 ∷ a ++ s) Text (suc (length a))
  simple h =
      let (m, is, size) = len_alone Text 0 (until_len Simple First (a ++ r)) (suc (length a))
      (sym (simple_scan v (a ++ r)) ∙ scan_of v code (39 ∷ a ++ r) Text (suc (length a)) h) in
      let same = same_len Simple simple_blind m is (omega arith) in
      rescanned v w code code (39 ∷ a ++ r) (39 ∷ a ++ s) Text (suc (length a))
      (simple_scan v (a ++ r) ∙ ap (λ (o : Option ℕ). scanned_to Text 0 o None) same
      ∙ sym (simple_scan w (a ++ s))) h

  double : IsLongest v code (34 ∷ a ++ r) Text (suc (length a)) → IsLongest w code (34 ∷ a ++ s) Text (suc (length a))
  double h =
      let (m, is, size) = len_over Text Quote 0 (until_len Closed First (a ++ r)) (suc (length a)) (λ e. cc)
      (sym (double_scan v (a ++ r)) ∙ scan_of v code (34 ∷ a ++ r) Text (suc (length a)) h) in
      let same = same_len Closed closed_blind m is (omega arith) in
      rescanned v w code code (34 ∷ a ++ r) (34 ∷ a ++ s) Text (suc (length a))
      (double_scan v (a ++ r) ∙ ap (λ (o : Option ℕ). scanned_to Text 0 o (Some (Quote, 1))) same
      ∙ sym (double_scan w (a ++ s))) h

  block : IsLongest v code (47 ∷ 42 ∷ a ++ r) Comment (suc (suc (length a))) → IsLongest w code (47 ∷ 42 ∷ a ++ s) Comment (suc (suc (length a)))
  block h =
      let (m, is, size) = len_alone Comment 1 (until_len Block First (a ++ r)) (suc (suc (length a)))
      (sym (block_scan v (a ++ r)) ∙ scan_of v code (47 ∷ 42 ∷ a ++ r) Comment (suc (suc (length a))) h) in
      let same = same_len Block block_blind m is (omega arith) in
      rescanned v w code code (47 ∷ 42 ∷ a ++ r) (47 ∷ 42 ∷ a ++ s) Comment (suc (suc (length a)))
      (block_scan v (a ++ r) ∙ ap (λ (o : Option ℕ). scanned_to Comment 1 o None) same
      ∙ sym (block_scan w (a ++ s))) h

  cast : IsLongest v code (40 ∷ a ++ r) Cast (suc (length a)) → IsLongest w code (40 ∷ a ++ s) Cast (suc (length a))
  cast h =
      let (m, is, size) = len_over Cast Op 0 (until_len CastWord First (a ++ r)) (suc (length a)) (λ e. cc)
      (sym (cast_scan v (a ++ r)) ∙ scan_of v code (40 ∷ a ++ r) Cast (suc (length a)) h) in
      let same = same_len CastWord cast_blind m is (omega arith) in
      rescanned v w code code (40 ∷ a ++ r) (40 ∷ a ++ s) Cast (suc (length a))
      (cast_scan v (a ++ r) ∙ ap (λ (o : Option ℕ). scanned_to Cast 0 o (Some (Op, 1))) same
      ∙ sym (cast_scan w (a ++ s))) h

  double_len : (o : Option ℕ) (n : ℕ) → double_to o ≡ found Text n → (m : ℕ) × (o ≡ Some m) × (2 + m ≡ n)
  double_len None n e = let clash : Some Quote ≡ Some Text = ap kind_found e in absurd cc
  double_len (Some m) n e = (m, refl, found_length Text Text (2 + m) n e)

  module _ (b : ℕ) (is_b : lower b ≡ 98) where
    b_simple_stays : IsLongest v code (b ∷ 39 ∷ a ++ r) Text (suc (suc (length a))) → IsLongest w code (b ∷ 39 ∷ a ++ s) Text (suc (suc (length a)))
    b_simple_stays h =
        let (m, is, size) = len_alone Text 1 (until_len Simple First (a ++ r)) (suc (suc (length a)))
        (sym (bs_scan v b (a ++ r) is_b) ∙ scan_of v code (b ∷ 39 ∷ a ++ r) Text (suc (suc (length a))) h) in
        let same = same_len Simple simple_blind m is (omega arith) in
        rescanned v w code code (b ∷ 39 ∷ a ++ r) (b ∷ 39 ∷ a ++ s) Text (suc (suc (length a)))
        (bs_scan v b (a ++ r) is_b ∙ ap (λ (o : Option ℕ). scanned_to Text 1 o None) same
        ∙ sym (bs_scan w b (a ++ s) is_b)) h

    b_double_stays : IsLongest v code (b ∷ 34 ∷ a ++ r) Text (suc (suc (length a))) → IsLongest w code (b ∷ 34 ∷ a ++ s) Text (suc (suc (length a)))
    b_double_stays h =
        let (m, is, size) = double_len (until_len Closed First (a ++ r)) (suc (suc (length a)))
        (sym (bd_scan v b (a ++ r) is_b) ∙ scan_of v code (b ∷ 34 ∷ a ++ r) Text (suc (suc (length a))) h) in
        let same = same_len Closed closed_blind m is (omega arith) in
        rescanned v w code code (b ∷ 34 ∷ a ++ r) (b ∷ 34 ∷ a ++ s) Text (suc (suc (length a))) (bd_scan v b (a ++ r) is_b ∙ ap double_to same ∙ sym (bd_scan w b (a ++ s) is_b)) h

-- ---- by the quote

quote_by : (P : ℕ → Type 0) (q : ℕ) → P 39 → P 34 → (t : Bool) → nat_eq q 39 ≡ t → (t || nat_eq q 34) ≡ true → P q
quote_by P q one two true e h = subst P (sym (eqb-true q 39 e)) one
quote_by P q one two false e h = subst P (sym (eqb-true q 34 h)) two

pub quoted_texts_stay : QuotedTextsStay
quoted_texts_stay v w q a r s h = quote_by (λ x. IsLongest v code (x ∷ a ++ r) Text (suc (length a))
    → IsLongest w code (x ∷ a ++ s) Text (suc (length a))) q (simple v w a r s) (double v w a r s) (nat_eq q 39) refl
    h

pub binary_texts_stay : BinaryTextsStay
binary_texts_stay v w b q a r s is_b h =
    quote_by (λ x. IsLongest v code (b ∷ x ∷ a ++ r) Text (suc (suc (length a)))
    → IsLongest w code (b ∷ x ∷ a ++ s) Text (suc (suc (length a)))) q (b_simple_stays v w a r s b is_b)
    (b_double_stays v w a r s b is_b) (nat_eq q 39) refl h

pub block_comments_stay : BlockCommentsStay
block_comments_stay v w a r s h = block v w a r s h

pub casts_stay : CastsStay
casts_stay v w a r s h = cast v w a r s h
