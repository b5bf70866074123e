-- The first line of a heredoc, also with `b` in front, before other bytes, and its label.
use Rattle.std.proofs.Common.{
  ◌≡◌,
  ℕ,
  suc,
  ◌+◌,
  Bool,
  true,
  false,
  cond,
  not,
  ◌&&◌,
  ◌||◌,
  nat_eq,
  List,
  [],
  ◌∷◌,
  ◌++◌,
  length,
  drop,
  codes,
  Option,
  Some,
  None,
  refl,
  sym,
  ap,
  ◌∙◌,
  subst,
  arith,
}
use Rattle.std.specs.List.{prefix_len}
use Rattle.std.proofs.lemmas.Bool.{and_parts, eqb-true}
use Rattle.std.proofs.lemmas.Bool.Decides.{nat_tests}
use Rattle.php_tree.specs.declared.version.Version.TheVariants.{V74}
use Rattle.php_spellings.specs.declared.table.Kind.{Kind}
use Rattle.php_spellings.specs.declared.table.Kind.TheVariants.{HeredocStart, Word, Op}
use Rattle.php_spellings.specs.declared.table.Shape.TheVariants as shape
use Rattle.php_spellings.specs.declared.table.Spot.{Spot}
use Rattle.php_spellings.specs.declared.table.Spot.TheVariants.{
  Begin,
  Whole,
  WholeGap,
  LeadPoint,
  Point,
  Part,
  PartGap,
  Mark,
  Sign,
  Power,
  PowerGap,
  FirstLabel,
  Backslash,
  LaterLabel,
  OpenedLabel,
  QuotedLabel,
  ClosedLabel,
  Return,
  Line,
  Stuck,
}
use Rattle.php_spellings.specs.Bytes.{is_blank_byte, is_letter, is_label_byte, begins, begins_by, lower, label_len, skip_blanks}
use Rattle.php_spellings.specs.declared.table.Tail.TheVariants.{Shaped}
use Rattle.php_lexer.specs.Heredocs.{led, begins_nowdoc}
use Rattle.php_lexer.specs.Rules.{is_tail}
use Rattle.php_lexer.specs.Shapes.{step, may_end, is_stuck, has_shape}
use Rattle.php_lexer.specs.Modes.{code, label_front, label_of, IsLongest}
use Rattle.php_lexer.specs.Scan.{scan, shape_len, add_to, or_else, here_len, longer}
use Rattle.php_lexer.proofs.Dispatch.{letter_scan, older_scan}
use Rattle.php_relexing.specs.Labels.{all_label, is_label}
use Rattle.php_relexing.proofs.HeredocFronts.{skip_by}
use Rattle.php_relexing.proofs.Operators.{mark_same}
use Rattle.php_relexing.proofs.Picked.{longest_meets}
use Rattle.php_relexing.proofs.Scanned.{rescanned}
use Rattle.written_tokens.specs.texts.Heredocs.{HeredocLinesStay}

-- ---- how far the line goes

at_line : (s : List ℕ) → shape_len shape.HeredocLine Line s ≡ Some 0
at_line [] = refl
at_line (c ∷ s) = refl

return_by : (c : ℕ) (s : List ℕ) (t : Bool) → nat_eq c 10 ≡ t → shape_len shape.HeredocLine Return (c ∷ s) ≡ cond t (Some 1) (Some 0)
return_by c s true e = rw (e, at_line s) refl
return_by c s false e = rw e refl

at_return : (s : List ℕ) → shape_len shape.HeredocLine Return s ≡ cond (begins_by 10 s) (Some 1) (Some 0)
at_return [] = refl
at_return (c ∷ s) = return_by c s (nat_eq c 10) refl

end_same : (spot : Spot) (r s : List ℕ) → begins_by 10 r ≡ begins_by 10 s → may_end shape.HeredocLine spot ≡ true
    → shape_len shape.HeredocLine spot r ≡ shape_len shape.HeredocLine spot s
end_same Begin r s e h = absurd cc
end_same Whole r s e h = absurd cc
end_same WholeGap r s e h = absurd cc
end_same LeadPoint r s e h = absurd cc
end_same Point r s e h = absurd cc
end_same Part r s e h = absurd cc
end_same PartGap r s e h = absurd cc
end_same Mark r s e h = absurd cc
end_same Sign r s e h = absurd cc
end_same Power r s e h = absurd cc
end_same PowerGap r s e h = absurd cc
end_same FirstLabel r s e h = absurd cc
end_same Backslash r s e h = absurd cc
end_same LaterLabel r s e h = absurd cc
end_same OpenedLabel r s e h = absurd cc
end_same QuotedLabel r s e h = absurd cc
end_same ClosedLabel r s e h = absurd cc
end_same Return r s e h = at_return r ∙ ap (λ (t : Bool). cond t (Some 1) (Some 0)) e ∙ sym (at_return s)
end_same Line r s e h = at_line r ∙ sym (at_line s)
end_same Stuck r s e h = absurd cc

line_same : (spot : Spot) (x r s : List ℕ) → begins_by 10 r ≡ begins_by 10 s
    → has_shape shape.HeredocLine spot x ≡ true → shape_len shape.HeredocLine spot (x ++ r) ≡ shape_len
    shape.HeredocLine spot (x ++ s)
line_same spot [] r s e h = end_same spot r s e h
line_same spot (b ∷ x) r s e h =
    let (goes, more) = and_parts (not (is_stuck (step shape.HeredocLine spot b))) (has_shape shape.HeredocLine (step shape.HeredocLine spot b) x) h in
    let ih = line_same (step shape.HeredocLine spot b) x r s e more in
    ap (λ (o : Option ℕ). cond (is_stuck (step shape.HeredocLine spot b)) (here_len (may_end shape.HeredocLine spot))
    (or_else (add_to 1 o) (here_len (may_end shape.HeredocLine spot)))) ih

-- ---- no nowdoc

begin_by : (b : ℕ) (a : List ℕ) (t l q : Bool) → is_blank_byte b ≡ t → is_letter b ≡ l → nat_eq b 34 ≡ q
    → (not (is_stuck (cond t Begin (cond l FirstLabel (cond q OpenedLabel Stuck))))
    && has_shape shape.HeredocLine (cond t Begin (cond l FirstLabel (cond q OpenedLabel Stuck))) a) ≡ true
    → (t ≡ true → has_shape shape.HeredocLine Begin a ≡ true) × (t ≡ false → nat_eq b 39 ≡ false)
begin_by b a true l q e f g h = (λ p. h, λ p. absurd cc)
begin_by b a false true q e f g h = (λ p. absurd cc, λ p. grind (arith, nat_tests))
begin_by b a false false true e f g h = (λ p. absurd cc, λ p. grind (arith, nat_tests))
begin_by b a false false false e f g h = absurd cc

no_quote_by : (b : ℕ) (bs : List ℕ) (t : Bool) → is_blank_byte b ≡ t
    → (t ≡ true → begins_by 39 (skip_blanks bs) ≡ false) → (t ≡ false → nat_eq b 39 ≡ false)
    → begins_by 39 (skip_blanks (b ∷ bs)) ≡ false
no_quote_by b bs t e f g = ap (begins_by 39) (skip_by b bs t e) ∙ by_blank t f g
  where
    by_blank : (t : Bool) → (t ≡ true → begins_by 39 (skip_blanks bs) ≡ false) → (t ≡ false → nat_eq b 39 ≡ false) → begins_by 39 (cond t (skip_blanks bs) (b ∷ bs)) ≡ false
    by_blank true f g = f refl
    by_blank false f g = g refl

no_quote : (x s : List ℕ) → has_shape shape.HeredocLine Begin x ≡ true → begins_by 39 (skip_blanks (x ++ s)) ≡ false
no_quote [] s h = absurd cc
no_quote (b ∷ x) s h =
    let is = begin_by b x (is_blank_byte b) (is_letter b) (nat_eq b 34) refl refl refl h in
    no_quote_by b (x ++ s) (is_blank_byte b) refl (λ e. no_quote x s (is.0 e)) is.1

no_nowdoc : (x s : List ℕ) → has_shape shape.HeredocLine Begin x ≡ true → begins_nowdoc (x ++ s) ≡ false
no_nowdoc x s h = rw (no_quote x s h) refl

-- ---- the scan

plain_to : Option ℕ → Option (Kind × ℕ)
plain_to o = longer HeredocStart (add_to 3 o) (longer Op (Some 1) (Some (Op, 2)))

plain_scan : (bs : List ℕ) → begins_nowdoc bs ≡ false → scan V74 code (60 ∷ 60 ∷ 60 ∷ bs) ≡ plain_to (shape_len shape.HeredocLine Begin bs)
unfolding plain_to
plain_scan bs h = rw h refl

binary_to : Option ℕ → Option (Kind × ℕ)
binary_to o = longer Word (Some 1) (longer HeredocStart (add_to 4 o) None)

pub b_letter : (b : ℕ) → lower b ≡ 98 → is_letter b ≡ true
b_letter b h = grind (arith, nat_tests)

pub b_hash : (b : ℕ) → lower b ≡ 98 → nat_eq b 35 ≡ false
b_hash b h = grind (arith, nat_tests)

binary_scan : (b : ℕ) (bs : List ℕ) → lower b ≡ 98 → begins_nowdoc bs ≡ false → scan V74 code (b ∷ 60 ∷ 60 ∷ 60 ∷ bs) ≡ binary_to (shape_len shape.HeredocLine Begin bs)
unfolding binary_to
binary_scan b bs is h =
    older_scan b (60 ∷ 60 ∷ 60 ∷ bs) (b_hash b is)
    ∙ letter_scan b (60 ∷ 60 ∷ 60 ∷ bs) (b_letter b is)
    ∙ rw (b_letter b is, is, h) refl

-- ---- the text of the line

-- `<<<` and the line, maybe with `b` in front
pub data StartText : ℕ → List ℕ → Type 0 where
  plain : (x : List ℕ) → has_shape shape.HeredocLine Begin x ≡ true → StartText 60 (60 ∷ 60 ∷ x)
  binary : (b : ℕ) (x : List ℕ) → lower b ≡ 98 → has_shape shape.HeredocLine Begin x ≡ true → StartText b (60 ∷ 60 ∷ 60 ∷ x)

abbrev is_start : Kind → Bool
is_start HeredocStart = true
is_start _ = false

plain_text : (b c d : ℕ) (x : List ℕ) → (nat_eq 60 (lower b)
    && (nat_eq 60 (lower c) && (nat_eq 60 (lower d) && has_shape shape.HeredocLine Begin x))) ≡ true
    → StartText b (c ∷ d ∷ x)
plain_text b c d x h =
    let (one, h2) = and_parts (nat_eq 60 (lower b)) (nat_eq 60 (lower c) && (nat_eq 60 (lower d) && has_shape shape.HeredocLine Begin x)) h in
    let (two, h3) = and_parts (nat_eq 60 (lower c)) (nat_eq 60 (lower d) && has_shape shape.HeredocLine Begin x) h2 in
    let (three, shaped) = and_parts (nat_eq 60 (lower d)) (has_shape shape.HeredocLine Begin x) h3 in
    subst (λ (n : ℕ). StartText n (c ∷ d ∷ x)) (sym (mark_same 60 b refl one))
    (subst (λ (n : ℕ). StartText 60 (n ∷ d ∷ x)) (sym (mark_same 60 c refl two))
    (subst (λ (n : ℕ). StartText 60 (60 ∷ n ∷ x)) (sym (mark_same 60 d refl three)) (plain x shaped)))

binary_text : (b c d e : ℕ) (x : List ℕ) → (nat_eq 98 (lower b)
    && (nat_eq 60 (lower c) && (nat_eq 60 (lower d) && (nat_eq 60 (lower e) && has_shape shape.HeredocLine Begin x))))
    ≡ true → StartText b (c ∷ d ∷ e ∷ x)
binary_text b c d e x h =
    let (zero_, h1) = and_parts (nat_eq 98 (lower b)) (nat_eq 60 (lower c) && (nat_eq 60 (lower d) && (nat_eq 60 (lower e) && has_shape shape.HeredocLine Begin x))) h in
    let (one, h2) = and_parts (nat_eq 60 (lower c)) (nat_eq 60 (lower d) && (nat_eq 60 (lower e) && has_shape shape.HeredocLine Begin x)) h1 in
    let (two, h3) = and_parts (nat_eq 60 (lower d)) (nat_eq 60 (lower e) && has_shape shape.HeredocLine Begin x) h2 in
    let (three, shaped) = and_parts (nat_eq 60 (lower e)) (has_shape shape.HeredocLine Begin x) h3 in
    subst (λ (n : ℕ). StartText b (n ∷ d ∷ e ∷ x)) (sym (mark_same 60 c refl one))
    (subst (λ (n : ℕ). StartText b (60 ∷ n ∷ e ∷ x)) (sym (mark_same 60 d refl two))
    (subst (λ (n : ℕ). StartText b (60 ∷ 60 ∷ n ∷ x)) (sym (mark_same 60 e refl three)) (binary b x (sym (eqb-true 98 (lower b) zero_)) shaped)))

plain_case : (b : ℕ) (a r : List ℕ) → led lower (codes "<<<") (is_tail [] (Shaped shape.HeredocLine Begin)) (b ∷ a) r ≡ true → StartText b a
plain_case b [] r h = let (one, none) = and_parts (nat_eq 60 (lower b)) false h in absurd cc
plain_case b (c ∷ []) r h =
    let (one, more) = and_parts (nat_eq 60 (lower b)) (nat_eq 60 (lower c) && false) h in
    let (two, none) = and_parts (nat_eq 60 (lower c)) false more in
    absurd cc
plain_case b (c ∷ d ∷ x) r h = plain_text b c d x h

binary_case : (b : ℕ) (a r : List ℕ) → led lower (codes "b<<<") (is_tail [] (Shaped shape.HeredocLine Begin)) (b ∷ a) r ≡ true → StartText b a
binary_case b [] r h = let (one, none) = and_parts (nat_eq 98 (lower b)) false h in absurd cc
binary_case b (c ∷ []) r h =
    let (one, more) = and_parts (nat_eq 98 (lower b)) (nat_eq 60 (lower c) && false) h in
    let (two, none) = and_parts (nat_eq 60 (lower c)) false more in
    absurd cc
binary_case b (c ∷ d ∷ []) r h =
    let (one, h1) = and_parts (nat_eq 98 (lower b)) (nat_eq 60 (lower c) && (nat_eq 60 (lower d) && false)) h in
    let (two, h2) = and_parts (nat_eq 60 (lower c)) (nat_eq 60 (lower d) && false) h1 in
    let (three, none) = and_parts (nat_eq 60 (lower d)) false h2 in
    absurd cc
binary_case b (c ∷ d ∷ e ∷ x) r h = binary_text b c d e x h

or_none : (x : Bool) → (x || false) ≡ true → x ≡ true
or_none true h = refl
or_none false h = absurd cc

case_of : (b : ℕ) (a r : List ℕ) (x y : Bool) → (x ≡ true → StartText b a) → (y ≡ true → StartText b a) → (x || (y || false)) ≡ true → StartText b a
case_of b a r true y f g h = f refl
case_of b a r false y f g h = g (or_none y h)

pub start_text : (b : ℕ) (a r : List ℕ) → IsLongest V74 code (b ∷ a ++ r) HeredocStart (suc (length a)) → StartText b a
start_text b a r h =
    case_of b a r (led lower (codes "<<<") (is_tail [] (Shaped shape.HeredocLine Begin)) (b ∷ a) r)
    (led lower (codes "b<<<") (is_tail [] (Shaped shape.HeredocLine Begin)) (b ∷ a) r)
    (plain_case b a r) (binary_case b a r) (longest_meets is_start V74 code (b ∷ a) r HeredocStart refl h)

lines_stay : (b : ℕ) (a r s : List ℕ) → StartText b a → begins_by 10 r ≡ begins_by 10 s
    → IsLongest V74 code (b ∷ a ++ r) HeredocStart (suc (length a))
    → IsLongest V74 code (b ∷ a ++ s) HeredocStart (suc (length a))
lines_stay b a r s (plain x shaped) e h =
    rescanned V74 V74 code code (60 ∷ 60 ∷ 60 ∷ x ++ r) (60 ∷ 60 ∷ 60 ∷ x ++ s) HeredocStart (suc (suc (suc (length x))))
    (plain_scan (x ++ r) (no_nowdoc x r shaped) ∙ ap plain_to (line_same Begin x r s e shaped) ∙ sym (plain_scan (x ++ s) (no_nowdoc x s shaped))) h
lines_stay b a r s (binary c x is shaped) e h =
    rescanned V74 V74 code code (c ∷ 60 ∷ 60 ∷ 60 ∷ x ++ r) (c ∷ 60 ∷ 60 ∷ 60 ∷ x ++ s) HeredocStart (suc (suc (suc (suc (length x)))))
    (binary_scan c (x ++ r) is (no_nowdoc x r shaped) ∙ ap binary_to (line_same Begin x r s e shaped) ∙ sym (binary_scan c (x ++ s) is (no_nowdoc x s shaped))) h

pub heredoc_lines_stay : HeredocLinesStay
heredoc_lines_stay b a r s e h = lines_stay b a r s (start_text b a r h) e h

-- ---- its label

-- the bytes from the first letter on
abbrev from_letter : List ℕ → List ℕ
from_letter bs = drop (prefix_len (λ b. not (is_letter b)) bs) bs

letter_by : (b : ℕ) (bs : List ℕ) (t : Bool) → is_letter b ≡ t → from_letter (b ∷ bs) ≡ cond t (b ∷ bs) (from_letter bs)
letter_by b bs true e = rw e refl
letter_by b bs false e =
    let one : 1 + prefix_len (λ b. not (is_letter b)) bs ≡ suc (prefix_len (λ b. not (is_letter b)) bs) = omega arith in
    rw (e, one) refl

opened_letter : (x : List ℕ) → has_shape shape.HeredocLine OpenedLabel x ≡ true → begins is_letter (from_letter x) ≡ true
opened_letter [] h = absurd cc
opened_letter (b ∷ x) h = by_letter (is_letter b) refl h
  where
    by_letter : (t : Bool) → is_letter b ≡ t
        → (not (is_stuck (cond t QuotedLabel Stuck)) && has_shape shape.HeredocLine (cond t QuotedLabel Stuck) x) ≡
        true → begins is_letter (from_letter (b ∷ x)) ≡ true
    by_letter true e k = ap (begins is_letter) (letter_by b x true e) ∙ e
    by_letter false e k = absurd cc

blank_letter : (b : ℕ) → is_blank_byte b ≡ true → is_letter b ≡ false
blank_letter b h = grind (arith, nat_tests)

first_letter : (x : List ℕ) → has_shape shape.HeredocLine Begin x ≡ true → begins is_letter (from_letter x) ≡ true
first_letter [] h = absurd cc
first_letter (b ∷ x) h = by_byte (first_letter x) (is_blank_byte b) (is_letter b) (nat_eq b 34) refl refl refl h
  where
    by_byte : (has_shape shape.HeredocLine Begin x ≡ true → begins is_letter (from_letter x) ≡ true) → (t l q : Bool)
        → is_blank_byte b ≡ t → is_letter b ≡ l → nat_eq b 34 ≡ q
        → (not (is_stuck (cond t Begin (cond l FirstLabel (cond q OpenedLabel Stuck))))
        && has_shape shape.HeredocLine (cond t Begin (cond l FirstLabel (cond q OpenedLabel Stuck))) x) ≡ true
        → begins is_letter (from_letter (b ∷ x)) ≡ true
    by_byte ih true l q e f g k = ap (begins is_letter) (letter_by b x false (blank_letter b e)) ∙ ih k
    by_byte ih false true q e f g k = ap (begins is_letter) (letter_by b x true f) ∙ f
    by_byte ih false false true e f g k = ap (begins is_letter) (letter_by b x false f) ∙ opened_letter x k
    by_byte ih false false false e f g k = absurd cc

front_by : (b : ℕ) (bs : List ℕ) (t : Bool) → is_label_byte b ≡ t → label_front (b ∷ bs) ≡ cond t (b ∷ label_front bs) []
front_by b bs true e = let one : 1 + label_len bs ≡ suc (label_len bs) = omega arith in rw (e, one) refl
front_by b bs false e = rw e refl

pub all_front : (bs : List ℕ) → all_label (label_front bs) ≡ true
all_front [] = refl
all_front (b ∷ bs) = by_byte (all_front bs) (is_label_byte b) refl
  where
    by_byte : all_label (label_front bs) ≡ true → (t : Bool) → is_label_byte b ≡ t → all_label (label_front (b ∷ bs)) ≡ true
    by_byte ih true e = ap all_label (front_by b bs true e) ∙ ap (λ (t : Bool). t && all_label (label_front bs)) e ∙ ih
    by_byte ih false e = ap all_label (front_by b bs false e)

front_label : (bs : List ℕ) → begins is_letter bs ≡ true → is_label (label_front bs) ≡ true
front_label [] h = absurd cc
front_label (b ∷ bs) h =
    let byte : is_label_byte b ≡ true = rw h refl in
    ap is_label (front_by b bs true byte) ∙ ap (λ (t : Bool). t && all_label (label_front bs)) h ∙ all_front bs

two_marks : (x : List ℕ) → from_letter (60 ∷ 60 ∷ x) ≡ from_letter x
two_marks x = letter_by 60 (60 ∷ x) false refl ∙ letter_by 60 x false refl

-- the label of the line is one
pub line_label : (b : ℕ) (a : List ℕ) → StartText b a → is_label (label_of (b ∷ a)) ≡ true
line_label b a (plain x shaped) = ap (λ (u : List ℕ). is_label (label_front u)) (two_marks x) ∙ front_label (from_letter x) (first_letter x shaped)
line_label b a (binary c x is shaped) =
    ap (λ (u : List ℕ). is_label (label_front u)) (letter_by 60 (60 ∷ 60 ∷ x) false refl ∙ two_marks x) ∙ front_label (from_letter x) (first_letter x shaped)
