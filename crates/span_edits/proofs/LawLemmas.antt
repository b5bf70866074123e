-- What a splice keeps.
use Rattle.std.proofs.Common.{
  ◌≡◌,
  ℕ,
  zero,
  suc,
  ◌+◌,
  ◌-◌,
  ◌<◌,
  ◌≤◌,
  inl,
  inr,
  true,
  false,
  cond,
  Some,
  List,
  [],
  ◌∷◌,
  ◌++◌,
  length,
  take,
  drop,
  filter,
  All,
  refl,
  sym,
  ap,
  ◌∙◌,
  subst,
  arith,
  nat_le,
  nat_lt,
  append_assoc,
  slice_get,
}
use Rattle.std.proofs.lemmas.List.{append-nil, length-append, length-take-le, length-drop, take_at, drop_at, drop-drop}
use Rattle.std.proofs.lemmas.List.Elements.{All-head, All-tail, All-nil, All-cons}
use Rattle.std.proofs.lemmas.Bool.{cases_lt}
use Rattle.std.proofs.lemmas.Bool.Decides.{nat_tests}
use Rattle.span_edits.specs.declared.edit.Edit.{Edit}
use Rattle.span_edits.specs.EditList.{AreApart}
use Rattle.span_edits.specs.Splice.{texts_at, is_replaced, spliced_from, spliced}
use Rattle.span_edits.proofs.PlaceLemmas.{AreApart-within}
use Rattle.span_edits.proofs.SpliceLemmas.{
  step,
  regroup,
  texts_at-none,
  is_replaced-none,
  is_replaced-other,
  is_replaced-here,
  spliced_from-passed,
  spliced_from-skip,
  spliced_from-edit,
  spliced_from-none,
}

-- an edit ends at a place or before
abbrev pub EndsBy : ℕ → Edit → Type 0
EndsBy place e = e.span.end ≤ place

-- edits that lie before a place end there or before
pub EndsBy-from_apart : (from place : ℕ) (edits : List Edit) → AreApart from edits place → All (EndsBy place) edits
EndsBy-from_apart from place [] a = All-nil (EndsBy place)
EndsBy-from_apart from place (e ∷ edits) a =
    All-cons (EndsBy place) e edits (AreApart-within e.span.end place edits a.1) (EndsBy-from_apart e.span.end place edits a.1)

texts_at-append : (place : ℕ) (front back : List Edit) → texts_at place (front ++ back) ≡ texts_at place front ++ texts_at place back
texts_at-append place [] back = refl
texts_at-append place (e ∷ front) back = rw (texts_at-append place front back) (simp append_assoc)

is_replaced-behind : (place : ℕ) (front back : List Edit) → is_replaced place back ≡ false → is_replaced place (front ++ back) ≡ is_replaced place front
is_replaced-behind place [] back h = h
is_replaced-behind place (e ∷ front) back h = rw (is_replaced-behind place front back h) refl

is_replaced-before : (place : ℕ) (front back : List Edit) → All (EndsBy place) front → is_replaced place (front ++ back) ≡ is_replaced place back
is_replaced-before place [] back h = refl
is_replaced-before place (e ∷ front) back h =
    is_replaced-other place e (front ++ back) (inl (All-head (EndsBy place) e front h)) ∙ is_replaced-before place front back (All-tail (EndsBy place) e front h)

-- edits that lie before a place change nothing from the next place on
spliced_from-before : (place : ℕ) (bytes : List ℕ) (front back : List Edit) → All (EndsBy place) front
    → spliced_from (place + 1) bytes (front ++ back) ≡ spliced_from (place + 1) bytes back
spliced_from-before place bytes [] back h = refl
spliced_from-before place bytes (e ∷ front) back h =
    let here : e.span.end ≤ place = All-head (EndsBy place) e front h in
    spliced_from-passed (place + 1) bytes e (front ++ back) (omega (arith, e.span.ordered)) (omega arith)
    ∙ spliced_from-before place bytes front back (All-tail (EndsBy place) e front h)

-- edits before a place and behind it, from an earlier place on
pub spliced_from-join : (n at place to : ℕ) (bytes : List ℕ) (front back : List Edit) → place ≡ at + n
    → n ≤ length bytes → All (EndsBy place) front → AreApart place back to
    → spliced_from at bytes (front ++ back) ≡ spliced_from at (take n bytes) front
    ++ spliced_from place (drop n bytes) back
spliced_from-join zero at place to [] front back eq h ended a =
    let same : at ≡ place = omega arith in
    texts_at-append at front back ∙ ap (λ p. texts_at at front ++ texts_at p back) same
spliced_from-join zero at place to (b ∷ bytes) front back eq h ended a =
    let same : at ≡ place = omega arith in
    let ended_at : All (EndsBy at) front = subst (λ p. All (EndsBy p) front) (sym same) ended in
    step at b bytes (front ++ back) (texts_at at front ++ texts_at at back) (is_replaced at back)
    (spliced_from (at + 1) bytes back) (texts_at-append at front back) (is_replaced-before at front back ended_at)
    (spliced_from-before at bytes front back ended_at)
    ∙ regroup (texts_at at front) (texts_at at back) (cond (is_replaced at back) [] (b ∷ [])) (spliced_from (at + 1) bytes back)
    ∙ ap (λ p. texts_at at front ++ spliced_from p (b ∷ bytes) back) same
spliced_from-join (suc n) at place to [] front back eq h ended a = absurd (omega arith)
spliced_from-join (suc n) at place to (b ∷ bytes) front back eq h ended a =
    step at b bytes (front ++ back) (texts_at at front) (is_replaced at front) (spliced_from (at + 1) (take n bytes) front ++ spliced_from place (drop n bytes) back)
    (texts_at-append at front back ∙ ap (λ ts. texts_at at front ++ ts) (texts_at-none at place to back (omega arith) a) ∙ append-nil (texts_at at front))
    (is_replaced-behind at front back (is_replaced-none at place to back (omega arith) a))
    (spliced_from-join n (at + 1) place to bytes front back (omega arith) (omega arith) ended a)
    ∙ sym (append_assoc (texts_at at front ++ cond (is_replaced at front) [] (b ∷ [])) (spliced_from (at + 1) (take n bytes) front) (spliced_from place (drop n bytes) back))

-- the same from the first byte on
pub spliced-join : (source : List ℕ) (place : ℕ) (front back : List Edit) → place ≤ length source
    → AreApart 0 front place → AreApart place back (length source)
    → spliced source (front ++ back) ≡ spliced (take place source) front
    ++ spliced_from place (drop place source) back
spliced-join source place front back h before behind =
    spliced_from-join place 0 place (length source) source front back (omega arith) h (EndsBy-from_apart 0 place front before) behind

-- edits that are made together are made one after another, the last one first
pub spliced-last : (source : List ℕ) (edits : List Edit) (e : Edit) → AreApart 0 edits e.span.start
    → e.span.end ≤ length source → spliced source (edits ++ e ∷ []) ≡ spliced
    (take e.span.start source ++ (e.text ++ drop e.span.end source)) edits
spliced-last source edits e a h =
    let start = e.span.start in
    let within : start ≤ length source = omega (arith, e.span.ordered) in
    let rest = e.text ++ drop e.span.end source in
    let front : length (take start source) ≡ start = length-take-le start source within in
    let whole : start ≤ length (take start source ++ rest) = simp length-append (omega arith) in
    let made : spliced_from start (drop start source) (e ∷ []) ≡ rest =
    spliced_from-edit (e.span.end - start) start (length source) (drop start source) e [] refl (omega (arith, e.span.ordered)) (simp length-drop (omega (arith, e.span.ordered))) h
    ∙ ap (λ ys. e.text ++ ys) (spliced_from-none e.span.end (drop (e.span.end - start) (drop start source))
    ∙ drop-drop (e.span.end - start) start source ∙ ap (λ n. drop n source) (omega (arith, e.span.ordered))) in
    spliced-join source start edits (e ∷ []) within a (omega arith, h)
    ∙ ap (λ ys. spliced (take start source) edits ++ ys) (made ∙ sym (spliced_from-none start rest))
    ∙ sym (ap (λ es. spliced (take start source ++ rest) es) (sym (append-nil edits))
    ∙ spliced-join (take start source ++ rest) start edits [] whole a whole
    ∙ ap (λ ys. spliced ys edits ++ spliced_from start (drop start (take start source ++ rest)) []) (take_at (take start source) rest start front)
    ∙ ap (λ ys. spliced (take start source) edits ++ spliced_from start ys []) (drop_at (take start source) rest start front))

-- edits behind a place pass no test for those before it
filter-behind : (place from to : ℕ) (edits : List Edit) → place < from → AreApart from edits to
    → (filter (λ e. nat_le e.span.end place) edits ≡ []) × (filter (λ e. nat_lt place e.span.end) edits ≡ edits)
filter-behind place from to [] h a = (refl, refl)
filter-behind place from to (e ∷ edits) h a =
    let ends : place < e.span.end = omega (arith, a.0, e.span.ordered) in
    let late : nat_le e.span.end place ≡ false = grind (arith, nat_tests) in
    let later : nat_lt place e.span.end ≡ true = grind (arith, nat_tests) in
    let rest = filter-behind place e.span.end to edits ends a.1 in
    (rw late rest.0, rw later (ap (λ es. e ∷ es) rest.1))

-- where no edit replaces the byte at a place, the edits lie before it or behind it
pub record Parted (place from to : ℕ) (edits : List Edit) : Type 0 where
  pub joined : filter (λ e. nat_le e.span.end place) edits ++ filter (λ e. nat_lt place e.span.end) edits ≡ edits
  pub before : All (EndsBy place) (filter (λ e. nat_le e.span.end place) edits)
  pub behind : AreApart (place + 1) (filter (λ e. nat_lt place e.span.end) edits) to

pub Parted-outside : (place from to : ℕ) (edits : List Edit) → place < to → AreApart from edits to → is_replaced place edits ≡ false → Parted place from to edits
Parted-outside place from to [] h a out = record { joined = refl; before = All-nil (EndsBy place); behind = omega arith }
Parted-outside place from to (e ∷ edits) h a out =
    elim (cases_lt place e.span.end) [
      | inl ends ↦
          let late : nat_le e.span.end place ≡ false = grind (arith, nat_tests) in
          let later : nat_lt place e.span.end ≡ true = grind (arith, nat_tests) in
          let rest = filter-behind place e.span.end to edits ends a.1 in
          let starts : place < e.span.start =
          elim (cases_lt place e.span.start) [ inl lt ↦ lt | inr le ↦ absurd (let taken : is_replaced place (e ∷ edits) ≡ true = is_replaced-here place e edits le ends in cc) ] in
          record {
            joined = rw (late, later, rest.0, rest.1) refl;
            before = rw (late, rest.0) (All-nil (EndsBy place));
            behind = rw (later, rest.1) (omega arith, a.1);
          }
      | inr ended ↦
          let early : nat_le e.span.end place ≡ true = grind (arith, nat_tests) in
          let fails : nat_lt place e.span.end ≡ false = grind (arith, nat_tests) in
          let rest = Parted-outside place e.span.end to edits h a.1 (sym (is_replaced-other place e edits (inl ended)) ∙ out) in
          record {
            joined = rw (early, fails) (ap (λ es. e ∷ es) rest.joined);
            before = rw early (All-cons (EndsBy place) e (filter (λ f. nat_le f.span.end place) edits) ended rest.before);
            behind = rw fails rest.behind;
          }
    ]

-- a byte that a list has at a place is the first of what is left from there on
pub drop-get : (source : List ℕ) (place byte : ℕ) → slice_get source place ≡ Some byte → (place < length source) × (drop place source ≡ byte ∷ drop (place + 1) source)
drop-get [] place byte h = absurd cc
drop-get (b ∷ source) zero byte h = (omega arith, cc)
drop-get (b ∷ source) (suc place) byte h =
    let rest = drop-get source place byte h in
    let next : suc (place + 1) ≡ suc place + 1 = omega arith in
    (omega (arith, rest.0), rest.1 ∙ ap (λ n. byte ∷ drop n (b ∷ source)) next)

-- edits that lie behind a place lie behind an earlier one
pub AreApart-earlier : (early from to : ℕ) (edits : List Edit) → early ≤ from → AreApart from edits to → AreApart early edits to
AreApart-earlier early from to [] h a = omega arith
AreApart-earlier early from to (e ∷ edits) h a = (omega (arith, a.0), a.1)

-- a byte that no edit replaces stays
pub spliced-outside : (source : List ℕ) (edits : List Edit) (place byte : ℕ) → AreApart 0 edits (length source)
    → is_replaced place edits ≡ false → slice_get source place ≡ Some byte
    → spliced source edits ≡ spliced (take place source) (filter (λ e. nat_le e.span.end place) edits) ++ byte
    ∷ spliced_from (place + 1) (drop (place + 1) source) (filter (λ e. nat_lt place e.span.end) edits)
spliced-outside source edits place byte a out got =
    let here = drop-get source place byte got in
    let parts = Parted-outside place 0 (length source) edits here.0 a out in
    let front = filter (λ (e : Edit). nat_le e.span.end place) edits in
    let back = filter (λ (e : Edit). nat_lt place e.span.end) edits in
    let starts : AreApart place back (length source) = AreApart-earlier place (place + 1) (length source) back (omega arith) parts.behind in
    ap (λ es. spliced source es) (sym parts.joined)
    ∙ spliced_from-join place 0 place (length source) source front back (omega arith) (omega (arith, here.0)) parts.before starts
    ∙ ap (λ ys. spliced (take place source) front ++ spliced_from place ys back) here.1
    ∙ ap (λ ys. spliced (take place source) front ++ ys)
    (spliced_from-skip 1 place (place + 1) (length source) (byte ∷ drop (place + 1) source) back refl (omega arith) parts.behind)
