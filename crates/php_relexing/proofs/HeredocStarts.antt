-- The first line of a heredoc before other bytes.
use Rattle.std.proofs.Common.{◌≡◌, ℕ, suc, ◌+◌, Bool, true, false, cond, not, ◌&&◌, ◌||◌, nat_eq, nat_lt, List, [], ◌∷◌, ◌++◌, length, Some, refl, sym, ap, ◌∙◌, subst, arith}
use Rattle.std.proofs.lemmas.Bool.{and_parts, eqb-true, not-true}
use Rattle.std.proofs.lemmas.Bool.Decides.{nat_tests}
use Rattle.php_tree.specs.declared.version.Version.{Version}
use Rattle.php_tree.specs.declared.version.Version.TheVariants.{V74, V83}
use Rattle.php_spellings.specs.declared.table.Kind.{Kind}
use Rattle.php_spellings.specs.declared.table.Kind.TheVariants.{HeredocStart, Op}
use Rattle.php_spellings.specs.declared.table.Shape.TheVariants as shape
use Rattle.php_spellings.specs.declared.table.Spot.{Spot}
use Rattle.php_spellings.specs.declared.table.Spot.TheVariants.{
  Begin,
  Whole,
  WholeGap,
  LeadPoint,
  Point,
  Part,
  PartGap,
  Mark,
  Sign,
  Power,
  PowerGap,
  FirstLabel,
  Backslash,
  LaterLabel,
  OpenedLabel,
  QuotedLabel,
  ClosedLabel,
  Return,
  Line,
  Stuck,
}
use Rattle.php_spellings.specs.Bytes.{is_blank_byte, is_letter, begins_by, skip_blanks}
use Rattle.php_lexer.specs.Heredocs.{begins_nowdoc}
use Rattle.php_lexer.specs.Shapes.{step, may_end, is_stuck, has_shape}
use Rattle.php_lexer.specs.Modes.{code, IsLongest}
use Rattle.php_lexer.specs.Scan.{scan, shape_len, longer}
use Rattle.php_relexing.specs.HeredocEnds.{ends_feed, HeredocStartsStay}
use Rattle.php_relexing.proofs.HeredocFronts.{skip_by}
use Rattle.php_relexing.proofs.Picked.{longest_meets}
use Rattle.php_relexing.proofs.Scanned.{found, longest_of}

-- ---- how far the line goes

-- a line feed ends the line, or no line goes on with it
feed_step : (s : Spot) → is_stuck (step shape.HeredocLine s 10) ≡ false → step shape.HeredocLine s 10 ≡ Line
feed_step Begin h = absurd cc
feed_step Whole h = absurd cc
feed_step WholeGap h = absurd cc
feed_step LeadPoint h = absurd cc
feed_step Point h = absurd cc
feed_step Part h = absurd cc
feed_step PartGap h = absurd cc
feed_step Mark h = absurd cc
feed_step Sign h = absurd cc
feed_step Power h = absurd cc
feed_step PowerGap h = absurd cc
feed_step FirstLabel h = refl
feed_step Backslash h = absurd cc
feed_step LaterLabel h = absurd cc
feed_step OpenedLabel h = absurd cc
feed_step QuotedLabel h = absurd cc
feed_step ClosedLabel h = refl
feed_step Return h = refl
feed_step Line h = absurd cc
feed_step Stuck h = absurd cc

fed_by : (s : Spot) (b : ℕ) → is_stuck (step shape.HeredocLine s b) ≡ false → nat_eq b 10 ≡ true → step shape.HeredocLine s b ≡ Line
fed_by s b h e =
    let same = eqb-true b 10 e in
    subst (λ (x : ℕ). step shape.HeredocLine s x ≡ Line) (sym same) (feed_step s (subst (λ (x : ℕ). is_stuck (step shape.HeredocLine s x) ≡ false) same h))

at_line : (s : List ℕ) → shape_len shape.HeredocLine Line s ≡ Some 0
at_line [] = refl
at_line (c ∷ s) = refl

at_return : (s : List ℕ) → begins_by 10 s ≡ false → shape_len shape.HeredocLine Return s ≡ Some 0
at_return [] h = refl
at_return (c ∷ s) h = rw h refl

not_line : {A : Type 0} → Return ≡ Line → A
not_line e = cc

end_by : (spot : Spot) (fed : Bool) (s : List ℕ) → (fed ≡ true → spot ≡ Line) → may_end shape.HeredocLine spot ≡ true
    → (not fed && begins_by 10 s) ≡ false → shape_len shape.HeredocLine spot s ≡ Some 0
end_by Begin fed s f h e = absurd cc
end_by Whole fed s f h e = absurd cc
end_by WholeGap fed s f h e = absurd cc
end_by LeadPoint fed s f h e = absurd cc
end_by Point fed s f h e = absurd cc
end_by Part fed s f h e = absurd cc
end_by PartGap fed s f h e = absurd cc
end_by Mark fed s f h e = absurd cc
end_by Sign fed s f h e = absurd cc
end_by Power fed s f h e = absurd cc
end_by PowerGap fed s f h e = absurd cc
end_by FirstLabel fed s f h e = absurd cc
end_by Backslash fed s f h e = absurd cc
end_by LaterLabel fed s f h e = absurd cc
end_by OpenedLabel fed s f h e = absurd cc
end_by QuotedLabel fed s f h e = absurd cc
end_by ClosedLabel fed s f h e = absurd cc
end_by Return true s f h e = not_line (f refl)
end_by Return false s f h e = at_return s e
end_by Line fed s f h e = at_line s
end_by Stuck fed s f h e = absurd cc

line_len : (spot : Spot) (fed : Bool) (a s : List ℕ) → (fed ≡ true → spot ≡ Line)
    → has_shape shape.HeredocLine spot a ≡ true → (not (ends_feed fed a) && begins_by 10 s) ≡ false
    → shape_len shape.HeredocLine spot (a ++ s) ≡ Some (length a)
line_len spot fed [] s f h e = end_by spot fed s f h e
line_len spot fed (b ∷ a) s f h e =
    let (goes, more) = and_parts (not (is_stuck (step shape.HeredocLine spot b))) (has_shape shape.HeredocLine (step shape.HeredocLine spot b) a) h in
    let go = not-true (is_stuck (step shape.HeredocLine spot b)) goes in
    let one : 1 + length a ≡ suc (length a) = omega arith in
    rw (go, line_len (step shape.HeredocLine spot b) (nat_eq b 10) a s (fed_by spot b go) more e, one) refl

-- ---- no nowdoc

no_quote_by : (b : ℕ) (bs : List ℕ) (t : Bool) → is_blank_byte b ≡ t
    → (t ≡ true → begins_by 39 (skip_blanks bs) ≡ false) → (t ≡ false → nat_eq b 39 ≡ false)
    → begins_by 39 (skip_blanks (b ∷ bs)) ≡ false
no_quote_by b bs t e f g = ap (begins_by 39) (skip_by b bs t e) ∙ by_blank t f g
  where
    by_blank : (t : Bool) → (t ≡ true → begins_by 39 (skip_blanks bs) ≡ false) → (t ≡ false → nat_eq b 39 ≡ false) → begins_by 39 (cond t (skip_blanks bs) (b ∷ bs)) ≡ false
    by_blank true f g = f refl
    by_blank false f g = g refl

begin_by : (b : ℕ) (a : List ℕ) (t l q : Bool) → is_blank_byte b ≡ t → is_letter b ≡ l → nat_eq b 34 ≡ q
    → (not (is_stuck (cond t Begin (cond l FirstLabel (cond q OpenedLabel Stuck))))
    && has_shape shape.HeredocLine (cond t Begin (cond l FirstLabel (cond q OpenedLabel Stuck))) a) ≡ true
    → (t ≡ true → has_shape shape.HeredocLine Begin a ≡ true) × (t ≡ false → nat_eq b 39 ≡ false)
begin_by b a true l q e f g h = (λ p. h, λ p. absurd cc)
begin_by b a false true q e f g h = (λ p. absurd cc, λ p. grind (arith, nat_tests))
begin_by b a false false true e f g h = (λ p. absurd cc, λ p. grind (arith, nat_tests))
begin_by b a false false false e f g h = absurd cc

no_quote : (a s : List ℕ) → has_shape shape.HeredocLine Begin a ≡ true → begins_by 39 (skip_blanks (a ++ s)) ≡ false
no_quote [] s h = absurd cc
no_quote (b ∷ a) s h =
    let is = begin_by b a (is_blank_byte b) (is_letter b) (nat_eq b 34) refl refl refl h in
    no_quote_by b (a ++ s) (is_blank_byte b) refl (λ e. no_quote a s (is.0 e)) is.1

no_nowdoc : (bs : List ℕ) → begins_by 39 (skip_blanks bs) ≡ false → begins_nowdoc bs ≡ false
no_nowdoc bs h = rw h refl

-- ---- the scan

start_row : (n : ℕ) → longer HeredocStart (Some (3 + n)) (longer Op (Some 1) (Some (Op, 2))) ≡ found HeredocStart (suc (suc (suc n)))
start_row n =
    let less : nat_lt (3 + n) 2 ≡ false = grind (arith, nat_tests) in
    let size : 3 + n ≡ suc (suc (suc n)) = omega arith in
    rw (less, size) refl

start_scan : (v : Version) (bs : List ℕ) (n : ℕ) → begins_nowdoc bs ≡ false
    → shape_len shape.HeredocLine Begin bs ≡ Some n → scan v code (60 ∷ 60 ∷ 60 ∷ bs) ≡ longer HeredocStart
    (Some (3 + n)) (longer Op (Some 1) (Some (Op, 2)))
start_scan V74 bs n h e = rw (h, e) refl
start_scan V83 bs n h e = rw (h, e) refl

abbrev is_start : Kind → Bool
is_start HeredocStart = true
is_start _ = false

or_none : (x : Bool) → (x || false) ≡ true → x ≡ true
or_none true h = refl
or_none false h = absurd cc

start_shape : (v : Version) (a r : List ℕ) → IsLongest v code (60 ∷ 60 ∷ 60 ∷ a ++ r) HeredocStart (suc (suc (suc (length a)))) → has_shape shape.HeredocLine Begin a ≡ true
start_shape V74 a r h = or_none _ (longest_meets is_start V74 code (60 ∷ 60 ∷ 60 ∷ a) r HeredocStart refl h)
start_shape V83 a r h = or_none _ (longest_meets is_start V83 code (60 ∷ 60 ∷ 60 ∷ a) r HeredocStart refl h)

no_feed : {A : Type 0} → false ≡ true → A
no_feed e = cc

pub heredoc_starts_stay : HeredocStartsStay
heredoc_starts_stay v w a r s e h =
    let shaped = start_shape v a r h in
    let len = line_len Begin false a s (λ p. no_feed p) shaped e in
    longest_of w code (60 ∷ 60 ∷ 60 ∷ a ++ s) HeredocStart (suc (suc (suc (length a))))
    (start_scan w (a ++ s) (length a) (no_nowdoc (a ++ s) (no_quote a s shaped)) len ∙ start_row (length a))
