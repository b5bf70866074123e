-- Bytes that go on as the source's do begin no heredoc and no nowdoc where those begin none.
use Rattle.std.proofs.Common.{◌≡◌, ℕ, suc, ◌+◌, Bool, true, false, cond, not, ◌&&◌, ◌||◌, nat_eq, List, [], ◌∷◌, ◌++◌, drop, Option, Some, None, refl, sym, ap, ◌∙◌, subst, arith}
use Rattle.std.proofs.lemmas.Bool.{and_parts, eqb-true, or_parts}
use Rattle.php_spellings.specs.declared.table.Shape.TheVariants as shape
use Rattle.php_spellings.specs.declared.table.Spot.{Spot}
use Rattle.php_spellings.specs.declared.table.Spot.TheVariants.{
  Begin,
  Whole,
  WholeGap,
  LeadPoint,
  Point,
  Part,
  PartGap,
  Mark,
  Sign,
  Power,
  PowerGap,
  FirstLabel,
  Backslash,
  LaterLabel,
  OpenedLabel,
  QuotedLabel,
  ClosedLabel,
  Return,
  Line,
  Stuck,
}
use Rattle.php_spellings.specs.Bytes.{is_blank_byte, is_line_end, is_letter, is_label_byte, begins, begins_by, skip_blanks, label_len}
use Rattle.php_lexer.specs.Heredocs.{begins_nowdoc}
use Rattle.php_lexer.specs.Shapes.{step, may_end, is_stuck}
use Rattle.php_lexer.specs.Scan.{shape_len, here_len, or_else, add_to}
use Rattle.php_relexing.specs.Tiles.{Tile, joined}
use Rattle.php_relexing.specs.Pieces.{escape_last}
use Rattle.php_relexing.proofs.HeredocFronts.{skip_by}
use Rattle.written_tokens.specs.tiles.ContinuesAs.{is_mark, is_put, ContinuesAs}
use Rattle.written_tokens.specs.tiles.ContinuesAs as goes
use Rattle.written_tokens.proofs.tiles.Going.{put_is}

-- neither white space nor a byte of a label nor a quote nor `<`
abbrev pub is_bar : ℕ → Bool
is_bar c = not (is_blank_byte c) && (not (is_line_end c) && (not (is_label_byte c) && (not (nat_eq c 34) && (not (nat_eq c 39) && not (nat_eq c 60)))))

-- The second bytes go on as the first do, up to such a byte, or a space and `\`.
pub data Onward : List ℕ → List ℕ → Type 0 where
  ended : Onward [] []
  barred : {r s : List ℕ} (c : ℕ) → is_bar c ≡ true → Onward r (c ∷ s)
  spaced : {r s : List ℕ} → Onward r (32 ∷ 92 ∷ s)
  same : {r s : List ℕ} (b : ℕ) → Onward r s → Onward (b ∷ r) (b ∷ s)

onward_front : (u r s : List ℕ) → Onward r s → Onward (u ++ r) (u ++ s)
onward_front [] r s h = h
onward_front (b ∷ u) r s h = same b (onward_front u r s h)

escape_onward : (b : ℕ) (a r s : List ℕ) → Onward (b ∷ a ++ r) (escape_last (b ∷ a) ++ s)
escape_onward b [] r s = barred 92 refl
escape_onward b (c ∷ a) r s = same b (escape_onward c a r s)

pub onward : {tight gap : Bool} {ts us : List Tile} → ContinuesAs tight gap ts us → Onward (joined ts) (joined us)
onward goes.ended = ended
onward (goes.same {ts = ts} {us = us} kind b a h) = same b (onward_front a (joined ts) (joined us) (onward h))
onward (goes.put {tight = tight} kind c e p q) = barred c (put_is is_bar (is_mark kind) tight c refl refl refl refl refl refl refl p)
onward (goes.hash a e) = barred 35 refl
onward (goes.brace kind e) = barred 123 refl
onward (goes.escaped {ts = ts} {us = us} b c a e d l) =
    subst (λ (x : List ℕ). Onward (b ∷ a ++ joined ts) (x ++ joined us)) l (escape_onward b a (joined ts) (joined us))

-- ---- bars

record Bar (c : ℕ) : Type 0 where
  blank : is_blank_byte c ≡ false
  line : is_line_end c ≡ false
  label : is_label_byte c ≡ false
  double : nat_eq c 34 ≡ false
  single : nat_eq c 39 ≡ false

none_5 : (c : ℕ) (v w x y z u : Bool) → is_blank_byte c ≡ v → is_line_end c ≡ w → is_label_byte c ≡ x
    → nat_eq c 34 ≡ y → nat_eq c 39 ≡ z → (not v && (not w && (not x && (not y && (not z && not u))))) ≡ true → Bar c
none_5 c true w x y z u e f g i j h = absurd cc
none_5 c false true x y z u e f g i j h = absurd cc
none_5 c false false true y z u e f g i j h = absurd cc
none_5 c false false false true z u e f g i j h = absurd cc
none_5 c false false false false true u e f g i j h = absurd cc
none_5 c false false false false false u e f g i j h = record { blank = e; line = f; label = g; double = i; single = j }

bar : (c : ℕ) → is_bar c ≡ true → Bar c
bar c h = none_5 c (is_blank_byte c) (is_line_end c) (is_label_byte c) (nat_eq c 34) (nat_eq c 39) (nat_eq c 60) refl refl refl refl refl h

-- ---- the first line of a heredoc

abbrev pub is_some : Option ℕ → Bool
is_some None = false
is_some (Some n) = true

some_or : (o : Option ℕ) → is_some (or_else (add_to 1 o) (Some 0)) ≡ true
some_or None = refl
some_or (Some n) = refl

may_by : (x m : Bool) (o : Option ℕ) → m ≡ true → is_some (cond x (here_len m) (or_else (add_to 1 o) (here_len m))) ≡ true
may_by true true o e = refl
may_by false true o e = some_or o
may_by x false o e = absurd cc

-- where the line may end, it does
may_some : (spot : Spot) (r : List ℕ) → may_end shape.HeredocLine spot ≡ true → is_some (shape_len shape.HeredocLine spot r) ≡ true
may_some spot [] h = rw h refl
may_some spot (b ∷ r) h = may_by (is_stuck (step shape.HeredocLine spot b)) (may_end shape.HeredocLine spot) (shape_len shape.HeredocLine (step shape.HeredocLine spot b) r) h

here_may : (m : Bool) → is_some (here_len m) ≡ true → m ≡ true
here_may true h = refl
here_may false h = absurd cc

bar_stuck : (spot : Spot) (c : ℕ) → Bar c → is_stuck (step shape.HeredocLine spot c) ≡ true
bar_stuck Begin c h =
    let letter = (or_parts (is_letter c) _ h.label).0 in
    rw (h.blank, letter, h.double) refl
bar_stuck Whole c h = refl
bar_stuck WholeGap c h = refl
bar_stuck LeadPoint c h = refl
bar_stuck Point c h = refl
bar_stuck Part c h = refl
bar_stuck PartGap c h = refl
bar_stuck Mark c h = refl
bar_stuck Sign c h = refl
bar_stuck Power c h = refl
bar_stuck PowerGap c h = refl
bar_stuck FirstLabel c h =
    let ends = or_parts (nat_eq c 10) (nat_eq c 13) h.line in
    rw (h.label, ends.0, ends.1) refl
bar_stuck Backslash c h = refl
bar_stuck LaterLabel c h = refl
bar_stuck OpenedLabel c h = let letter = (or_parts (is_letter c) _ h.label).0 in rw letter refl
bar_stuck QuotedLabel c h = rw (h.label, h.double) refl
bar_stuck ClosedLabel c h =
    let ends = or_parts (nat_eq c 10) (nat_eq c 13) h.line in
    rw (ends.0, ends.1) refl
bar_stuck Return c h = let ends = or_parts (nat_eq c 10) (nat_eq c 13) h.line in rw ends.0 refl
bar_stuck Line c h = refl
bar_stuck Stuck c h = refl

bar_by : (spot : Spot) (x : Bool) (o : Option ℕ) (r : List ℕ) → x ≡ true
    → is_some (cond x (here_len (may_end shape.HeredocLine spot)) o) ≡ true
    → is_some (shape_len shape.HeredocLine spot r) ≡ true
bar_by spot true o r e h = may_some spot r (here_may (may_end shape.HeredocLine spot) h)
bar_by spot false o r e h = absurd cc

space_by : (spot : Spot) (r s : List ℕ) → is_some (shape_len shape.HeredocLine spot (32 ∷ 92 ∷ s)) ≡ true → is_some (shape_len shape.HeredocLine spot r) ≡ true
space_by Begin r s h = absurd cc
space_by Whole r s h = absurd cc
space_by WholeGap r s h = absurd cc
space_by LeadPoint r s h = absurd cc
space_by Point r s h = absurd cc
space_by Part r s h = absurd cc
space_by PartGap r s h = absurd cc
space_by Mark r s h = absurd cc
space_by Sign r s h = absurd cc
space_by Power r s h = absurd cc
space_by PowerGap r s h = absurd cc
space_by FirstLabel r s h = absurd cc
space_by Backslash r s h = absurd cc
space_by LaterLabel r s h = absurd cc
space_by OpenedLabel r s h = absurd cc
space_by QuotedLabel r s h = absurd cc
space_by ClosedLabel r s h = absurd cc
space_by Return r s h = may_some Return r refl
space_by Line r s h = may_some Line r refl
space_by Stuck r s h = absurd cc

some_by : (x : Bool) (o p e : Option ℕ) → (is_some o ≡ true → is_some p ≡ true)
    → is_some (cond x e (or_else (add_to 1 o) e)) ≡ true → is_some (cond x e (or_else (add_to 1 p) e)) ≡ true
some_by true o p e f h = h
some_by false None None e f h = h
some_by false None (Some n) e f h = refl
some_by false (Some m) None e f h = absurd (let clash = f refl in cc)
some_by false (Some m) (Some n) e f h = refl

line_found : {r s : List ℕ} → Onward r s → (spot : Spot) → is_some (shape_len shape.HeredocLine spot s) ≡ true → is_some (shape_len shape.HeredocLine spot r) ≡ true
line_found ended spot h = h
line_found (barred {r = r} {s = s} c e) spot h = bar_by spot (is_stuck (step shape.HeredocLine spot c))
    (or_else (add_to 1 (shape_len shape.HeredocLine (step shape.HeredocLine spot c) s))
    (here_len (may_end shape.HeredocLine spot))) r (bar_stuck spot c (bar c e)) h
line_found (spaced {r = r} {s = s}) spot h = space_by spot r s h
line_found (same {r = r} {s = s} b more) spot h =
    some_by (is_stuck (step shape.HeredocLine spot b)) (shape_len shape.HeredocLine (step shape.HeredocLine spot b) s)
    (shape_len shape.HeredocLine (step shape.HeredocLine spot b) r) (here_len (may_end shape.HeredocLine spot))
    (line_found more (step shape.HeredocLine spot b)) h

-- ---- the first line of a nowdoc

-- behind its label: the closing quote and a line end
abbrev closes_label : List ℕ → Bool
closes_label q = begins_by 39 (drop (label_len q) q) && begins is_line_end (drop (label_len q + 1) q)

line_end_next : {r s : List ℕ} → Onward r s → begins is_line_end s ≡ true → begins is_line_end r ≡ true
line_end_next ended h = h
line_end_next (barred c e) h = absurd (let clash : true ≡ false = sym h ∙ (bar c e).line in cc)
line_end_next spaced h = absurd cc
line_end_next (same b more) h = h

label_step : (b : ℕ) (s : List ℕ) → is_label_byte b ≡ true → closes_label (b ∷ s) ≡ closes_label s
label_step b s e =
    let one : 1 + label_len s ≡ suc (label_len s) = omega arith in
    let two : suc (label_len s) + 1 ≡ suc (label_len s + 1) = omega arith in
    rw (e, one, two) refl

label_stop : (b : ℕ) (s : List ℕ) → is_label_byte b ≡ false → closes_label (b ∷ s) ≡ (nat_eq b 39 && begins is_line_end s)
label_stop b s e = rw e refl

label_by : (b : ℕ) (r s : List ℕ) → Onward r s → (closes_label s ≡ true → closes_label r ≡ true) → (x : Bool)
    → is_label_byte b ≡ x → closes_label (b ∷ s) ≡ true → closes_label (b ∷ r) ≡ true
label_by b r s more ih true e h = label_step b r e ∙ ih (sym (label_step b s e) ∙ h)
label_by b r s more ih false e h =
    let (quote, end) = and_parts (nat_eq b 39) (begins is_line_end s) (sym (label_stop b s e) ∙ h) in
    label_stop b r e ∙ rw (quote, line_end_next more end) refl

bar_label : (c : ℕ) (s : List ℕ) → Bar c → closes_label (c ∷ s) ≡ false
bar_label c s h = label_stop c s h.label ∙ rw h.single refl

label_closes : {r s : List ℕ} → Onward r s → closes_label s ≡ true → closes_label r ≡ true
label_closes ended h = absurd cc
label_closes (barred {r = r} {s = s} c e) h = absurd (let clash : true ≡ false = sym h ∙ bar_label c s (bar c e) in cc)
label_closes (spaced {r = r} {s = s}) h = absurd cc
label_closes (same {r = r} {s = s} b more) h = label_by b r s more (label_closes more) (is_label_byte b) refl h

letter_next : {r s : List ℕ} → Onward r s → begins is_letter s ≡ true → begins is_letter r ≡ true
letter_next ended h = h
letter_next (barred c e) h = absurd (let clash : true ≡ false = sym h ∙ (or_parts (is_letter c) _ (bar c e).label).0 in cc)
letter_next spaced h = absurd cc
letter_next (same b more) h = h

-- behind the blanks
abbrev nowdoc_at : List ℕ → Bool
nowdoc_at y =
    begins_by 39 y && begins is_letter (drop 1 y)
    && begins_by 39 (drop (label_len (drop 1 y)) (drop 1 y))
    && begins is_line_end (drop (label_len (drop 1 y) + 1) (drop 1 y))

at_by : (q l x y : Bool) (q' l' x' y' : Bool) → (q ≡ true → q' ≡ true) → (l ≡ true → l' ≡ true)
    → ((x && y) ≡ true → (x' && y') ≡ true) → (q && l && x && y) ≡ true → (q' && l' && x' && y') ≡ true
at_by true true true true q' l' x' y' f g k h =
    let (one, two) = and_parts x' y' (k refl) in
    rw (f refl, g refl, one, two) refl
at_by true true true false q' l' x' y' f g k h = absurd cc
at_by true true false y q' l' x' y' f g k h = absurd cc
at_by true false x y q' l' x' y' f g k h = absurd cc
at_by false l x y q' l' x' y' f g k h = absurd cc

blank_by : (b : ℕ) (r s : List ℕ) → Onward r s → (nowdoc_at (skip_blanks s) ≡ true → nowdoc_at (skip_blanks r) ≡ true)
    → (t : Bool) → nowdoc_at (cond t (skip_blanks s) (b ∷ s)) ≡ true
    → nowdoc_at (cond t (skip_blanks r) (b ∷ r)) ≡ true
blank_by b r s more ih true h = ih h
blank_by b r s more ih false h =
    at_by (nat_eq b 39) (begins is_letter s) (begins_by 39 (drop (label_len s) s)) (begins is_line_end (drop (label_len s + 1) s))
    (nat_eq b 39) (begins is_letter r) (begins_by 39 (drop (label_len r) r)) (begins is_line_end (drop (label_len r + 1) r))
    (λ e. e) (letter_next more) (label_closes more) h

bar_nowdoc : (c : ℕ) (s : List ℕ) → Bar c → nowdoc_at (skip_blanks (c ∷ s)) ≡ false
bar_nowdoc c s h = ap nowdoc_at (skip_by c s false h.blank) ∙ rw h.single refl

nowdoc_found : {r s : List ℕ} → Onward r s → nowdoc_at (skip_blanks s) ≡ true → nowdoc_at (skip_blanks r) ≡ true
nowdoc_found ended h = absurd cc
nowdoc_found (barred {r = r} {s = s} c e) h = absurd (let clash : true ≡ false = sym h ∙ bar_nowdoc c s (bar c e) in cc)
nowdoc_found (spaced {r = r} {s = s}) h = absurd cc
nowdoc_found (same {r = r} {s = s} b more) h =
    ap nowdoc_at (skip_by b r (is_blank_byte b) refl)
    ∙ blank_by b r s more (nowdoc_found more) (is_blank_byte b) (ap nowdoc_at (sym (skip_by b s (is_blank_byte b) refl)) ∙ h)

-- ---- neither

-- no heredoc and no nowdoc begins here, behind `<<<`
pub record NoDoc (bs : List ℕ) : Type 0 where
  pub nowdoc : begins_nowdoc bs ≡ false
  pub heredoc : is_some (shape_len shape.HeredocLine Begin bs) ≡ false

no_more : (x y : Bool) → (y ≡ true → x ≡ true) → x ≡ false → y ≡ false
no_more x false f h = refl
no_more x true f h = sym (f refl) ∙ h

pub no_doc : {r s : List ℕ} → Onward r s → NoDoc r → NoDoc s
no_doc {r = r} {s = s} more old = record {
  nowdoc = no_more (nowdoc_at (skip_blanks r)) (nowdoc_at (skip_blanks s)) (nowdoc_found more) old.nowdoc;
  heredoc = no_more (is_some (shape_len shape.HeredocLine Begin r)) (is_some (shape_len shape.HeredocLine Begin s)) (line_found more Begin) old.heredoc;
}

no_way : {A : Type 0} → false ≡ true → A
no_way e = cc

-- behind one `<` more
pub less_tail : {r s : List ℕ} → Onward r s → begins_by 60 s ≡ true → (begins_by 60 r ≡ true) × Onward (drop 1 r) (drop 1 s)
less_tail ended h = absurd cc
less_tail (barred c e) h = no_way (subst (λ (x : ℕ). is_bar x ≡ true) (eqb-true c 60 h) e)
less_tail spaced h = absurd cc
less_tail (same b more) h = (h, more)
