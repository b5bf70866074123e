-- Facts on spans that cross, and on positions in a list of edits.
use Rattle.std.proofs.Common.{
  ◌≡◌,
  ℕ,
  zero,
  suc,
  ◌+◌,
  ◌<◌,
  ◌≤◌,
  inl,
  inr,
  Bool,
  true,
  false,
  not,
  List,
  [],
  ◌∷◌,
  ◌++◌,
  length,
  take,
  drop,
  filter,
  All,
  refl,
  sym,
  ap,
  ◌∙◌,
  subst,
  arith,
  nat_le,
  nat_lt,
  get_or,
}
use Rattle.std.specs.List.{AllWithin}
use Rattle.std.specs.List.Sorted.{IsNonDecreasingBy}
use Rattle.std.proofs.lemmas.List.{take-append-drop, drop_more, take_all, length-append, get_or_at}
use Rattle.std.proofs.lemmas.List.Elements.{All-append, All-same, All-head, All-tail, All-weaker, All-drop, filter_passes}
use Rattle.std.proofs.lemmas.Bool.{cases_eq, cases_lt}
use Rattle.std.proofs.lemmas.Bool.Decides.{nat_tests}
use Rattle.span_edits.specs.declared.span.Span.{Span}
use Rattle.span_edits.specs.declared.edit.Edit.{Edit}
use Rattle.span_edits.specs.Crosses.{Crosses, FirstCrossed}
use Rattle.span_edits.specs.EditList.{AreApart}
use Rattle.span_edits.specs.Places.{IsFirstAfter, IsPlaceFor}

-- spans of which one ends where the other begins, or before, don't cross
pub Crosses-behind : (s t : Span) → t.end ≤ s.start → Crosses s t → ⊥
Crosses-behind s t h (inl b) = omega (arith, b.1.0, b.1.1, b.2.0, b.2.1)
Crosses-behind s t h (inr (inl b)) = omega arith
Crosses-behind s t h (inr (inr b)) = omega arith

pub Crosses-before : (s t : Span) → s.end ≤ t.start → Crosses s t → ⊥
Crosses-before s t h (inl b) = omega (arith, b.1.0, b.1.1, b.2.0, b.2.1)
Crosses-before s t h (inr (inl b)) = omega arith
Crosses-before s t h (inr (inr b)) = omega arith

-- spans of which each begins before the other ends cross
pub Crosses-from_places : (s t : Span) → s.start < t.end → t.start < s.end → Crosses s t
Crosses-from_places s t h k =
    elim (cases_eq s.start s.end) [
      | inl e ↦ inr (inl (e, omega arith, h))
      | inr s-holds ↦ elim (cases_eq t.start t.end) [
        | inl e ↦ inr (inr (e, omega arith, k))
        | inr t-holds ↦ elim (cases_lt s.start t.start) [
          | inl lt ↦ inl (t.start, (omega arith, k), (omega arith, omega (arith, t.ordered)))
          | inr le ↦ inl (s.start, (omega arith, omega (arith, s.ordered)), (le, h))
        ]
      ]
    ]

-- edits that lie between two places begin behind the first
pub AreApart-start : (from to : ℕ) (edits : List Edit) → AreApart from edits to → All (λ e. from ≤ e.span.start) edits
AreApart-start from to [] a k d h = absurd (omega arith)
AreApart-start from to (e ∷ edits) a zero d h = a.0
AreApart-start from to (e ∷ edits) a (suc k) d h =
    let below : e.span.end ≤ (get_or edits k d).span.start = AreApart-start e.span.end to edits a.1 k d (omega arith) in
    omega (arith, a.0, e.span.ordered)

-- the ends of edits that lie apart rise
pub ends-rise : (from to : ℕ) (edits : List Edit) → AreApart from edits to → IsNonDecreasingBy (λ (e : Edit). e.span.end) edits
ends-rise from to [] a i j d le h = absurd (omega arith)
ends-rise from to (e ∷ edits) a zero zero d le h = omega arith
ends-rise from to (e ∷ edits) a zero (suc j) d le h =
    let below : e.span.end ≤ (get_or edits j d).span.start = AreApart-start e.span.end to edits a.1 j d (omega arith) in
    omega (arith, (get_or edits j d).span.ordered)
ends-rise from to (e ∷ edits) a (suc i) zero d le h = absurd (omega arith)
ends-rise from to (e ∷ edits) a (suc i) (suc j) d le h = ends-rise e.span.end to edits a.1 i j d (omega arith) (omega arith)

-- edits from a position on lie apart
pub AreApart-drop : (n from to : ℕ) (edits : List Edit) → AreApart from edits to → (start : ℕ) × AreApart start (drop n edits) to
AreApart-drop zero from to edits a = (from, a)
AreApart-drop (suc n) from to [] a = (from, a)
AreApart-drop (suc n) from to (e ∷ edits) a = AreApart-drop n e.span.end to edits a.1

-- where a list is parted by a test, its front and its back are what passes and what doesn't
pub filter-parted : {X : Type 0} (p q : X → Bool) (other : (x : X) → q x ≡ not (p x)) (xs : List X) (i : ℕ)
    → i ≤ length xs → AllWithin (λ y. p y ≡ true) xs 0 i → AllWithin (λ y. p y ≡ false) xs i (length xs)
    → (take i xs ≡ filter p xs) × (drop i xs ≡ filter q xs)
filter-parted p q other [] zero le passing failing = (refl, refl)
filter-parted p q other [] (suc i) le passing failing = absurd (omega arith)
filter-parted p q other (x ∷ xs) zero le passing failing =
    let fails : p x ≡ false = failing zero x (omega arith) (omega arith) in
    let rest = filter-parted p q other xs zero (omega arith) (λ k d low high. absurd (omega arith)) (λ k d low high. failing (suc k) d (omega arith) (omega arith)) in
    let passes : q x ≡ true = other x ∙ ap not fails in
    (rw fails rest.0, rw passes (ap (λ ys. x ∷ ys) rest.1))
filter-parted p q other (x ∷ xs) (suc i) le passing failing =
    let passes : p x ≡ true = passing zero x (omega arith) (omega arith) in
    let rest = filter-parted p q other xs i (omega arith)
    (λ k d low high. passing (suc k) d (omega arith) (omega arith))
    (λ k d low high. failing (suc k) d (omega arith) (omega arith)) in
    let fails : q x ≡ false = other x ∙ ap not passes in
    (rw passes (ap (λ ys. x ∷ ys) rest.0), rw fails rest.1)

-- a number isn't above another exactly where it is at most that
pub nat_lt-is_not_le : (a b : ℕ) → nat_lt a b ≡ not (nat_le b a)
nat_lt-is_not_le a b = grind (arith, nat_tests)

-- what `partition_point` gives
pub IsFirstAfter-from_parted : (place to : ℕ) (edits : List Edit) (at : ℕ) → at ≤ length edits
    → AllWithin (λ (e : Edit). nat_le e.span.end place ≡ true) edits 0 at
    → AllWithin (λ (e : Edit). nat_le e.span.end place ≡ false) edits at (length edits) → IsFirstAfter place edits at
IsFirstAfter-from_parted place to edits at le passing failing =
    let parts = filter-parted (λ (e : Edit). nat_le e.span.end place) (λ e. nat_lt place e.span.end) (λ e. nat_lt-is_not_le place e.span.end) edits at le passing failing in
    record { within = le; front = parts.0; back = parts.1 }

-- none of the edits below the position crosses a span that begins at the place
pub front-apart : (span : Span) (edits : List Edit) (at : ℕ) → IsFirstAfter span.start edits at → All (λ f. Crosses span f.span → ⊥) (take at edits)
front-apart span edits at first =
    All-same (λ f. Crosses span f.span → ⊥) (take at edits) _ first.front
    (All-weaker (λ f. nat_le f.span.end span.start ≡ true) (λ f. Crosses span f.span → ⊥) (λ f passes. Crosses-behind span f.span (grind (arith, nat_tests))) _
    (filter_passes (λ (f : Edit). nat_le f.span.end span.start) edits))

-- none of the edits behind an edit that begins at a span's end or later crosses the span
pub back-apart : (span : Span) (from to : ℕ) (e : Edit) (edits : List Edit) → AreApart from (e ∷ edits) to
    → span.end ≤ e.span.start → All (λ f. Crosses span f.span → ⊥) (e ∷ edits)
back-apart span from to e edits a le =
    All-weaker (λ (f : Edit). e.span.start ≤ f.span.start) (λ f. Crosses span f.span → ⊥) (λ f h. Crosses-before span f.span (omega arith)) (e ∷ edits)
    (AreApart-start e.span.start to (e ∷ edits) (omega arith, a.1))

-- the edits from a position on begin with the one there
pub drop-at : (edits : List Edit) (at : ℕ) (e : Edit) → at < length edits → e ≡ get_or edits at e → drop at edits ≡ e ∷ drop (at + 1) edits
drop-at edits at e h is = drop_more edits at e h ∙ ap (λ f. f ∷ drop (at + 1) edits) (sym is)

-- the edit at the position ends behind the place
pub ends-behind : (place : ℕ) (edits : List Edit) (at : ℕ) (e : Edit) → IsFirstAfter place edits at → at < length edits → e ≡ get_or edits at e → place < e.span.end
ends-behind place edits at e first h is =
    let Later : Edit → Type 0 = λ f. nat_lt place f.span.end ≡ true in
    let all : All Later (e ∷ drop (at + 1) edits) = All-same Later (e ∷ drop (at + 1) edits) _
    (sym (drop-at edits at e h is) ∙ first.back) (filter_passes (λ (f : Edit). nat_lt place f.span.end) edits) in
    let here : nat_lt place e.span.end ≡ true = All-head Later e (drop (at + 1) edits) all in
    grind (arith, nat_tests)

-- an edit that begins before the span ends is the first that crosses it
pub FirstCrossed-from_first : (span : Span) (edits : List Edit) (at : ℕ) (e : Edit) → IsFirstAfter span.start edits at
    → at < length edits → e ≡ get_or edits at e → e.span.start < span.end → FirstCrossed span edits e.span
FirstCrossed-from_first span edits at e first h is before = record {
  front = take at edits;
  crossed = e;
  back = drop (at + 1) edits;
  are_edits = sym (take-append-drop at edits) ∙ ap (λ ys. take at edits ++ ys) (drop-at edits at e h is);
  earlier = front-apart span edits at first;
  crosses = Crosses-from_places span e.span (ends-behind span.start edits at e first h is) before;
  is_stored = refl;
}

-- where the edit at the position begins at the span's end or later, no edit crosses the span
pub IsPlaceFor-from_behind : (span : Span) (to : ℕ) (edits : List Edit) (at : ℕ) (e : Edit) → AreApart 0 edits to
    → IsFirstAfter span.start edits at → at < length edits → e ≡ get_or edits at e → span.end ≤ e.span.start
    → IsPlaceFor span edits at
IsPlaceFor-from_behind span to edits at e a first h is le =
    let Free : Edit → Type 0 = λ f. Crosses span f.span → ⊥ in
    let later = AreApart-drop at 0 to edits a in
    let later_apart : AreApart later.0 (e ∷ drop (at + 1) edits) to = subst (λ ys. AreApart later.0 ys to) (drop-at edits at e h is) later.1 in
    record {
      first = first;
      apart = All-same Free edits (take at edits ++ drop at edits) (sym (take-append-drop at edits))
          (All-append Free (take at edits) (drop at edits) (front-apart span edits at first)
          (All-same Free (drop at edits) (e ∷ drop (at + 1) edits) (drop-at edits at e h is) (back-apart span later.0 to e (drop (at + 1) edits) later_apart le)));
    }

-- where each edit ends at the span's start or before, no edit crosses the span
pub IsPlaceFor-from_end : (span : Span) (edits : List Edit) (at : ℕ) → IsFirstAfter span.start edits at → length edits ≤ at → IsPlaceFor span edits at
IsPlaceFor-from_end span edits at first h =
    let Free : Edit → Type 0 = λ f. Crosses span f.span → ⊥ in
    record { first = first; apart = All-same Free edits (take at edits) (sym (take_all at edits h)) (front-apart span edits at first) }

-- edits that lie between two places leave the first at the second or before
pub AreApart-within : (from to : ℕ) (edits : List Edit) → AreApart from edits to → from ≤ to
AreApart-within from to [] a = a
AreApart-within from to (e ∷ edits) a =
    let rest : e.span.end ≤ to = AreApart-within e.span.end to edits a.1 in
    omega (arith, a.0, e.span.ordered)

-- edits that begin behind another place lie apart from there on
pub AreApart-later : (from later to : ℕ) (edits : List Edit) → AreApart from edits to → All (λ f. later ≤ f.span.start) edits → later ≤ to → AreApart later edits to
AreApart-later from later to [] a all le = le
AreApart-later from later to (e ∷ edits) a all le = (All-head (λ f. later ≤ f.span.start) e edits all, a.1)

-- an edit goes between those that end at its start or before and those that begin at its end or later
pub AreApart-insert : (from to : ℕ) (e : Edit) (edits : List Edit) (at : ℕ) → AreApart from edits to
    → from ≤ e.span.start → e.span.end ≤ to → All (λ f. f.span.end ≤ e.span.start) (take at edits)
    → All (λ f. e.span.end ≤ f.span.start) (drop at edits) → AreApart from (take at edits ++ e ∷ drop at edits) to
AreApart-insert from to e edits zero a low high front back = (low, AreApart-later from e.span.end to edits a back high)
AreApart-insert from to e [] (suc at) a low high front back = (low, high)
AreApart-insert from to e (f ∷ edits) (suc at) a low high front back =
    let Ended : Edit → Type 0 = λ g. g.span.end ≤ e.span.start in
    (a.0, AreApart-insert f.span.end to e edits at a.1 (All-head Ended f (take at edits) front) high (All-tail Ended f (take at edits) front) back)

-- an edit that ends behind a span's start, and doesn't cross it, begins at its end or later
pub begins-later : (e f : Edit) → nat_lt e.span.start f.span.end ≡ true → (Crosses e.span f.span → ⊥) → e.span.end ≤ f.span.start
begins-later e f later free =
    let behind : e.span.start < f.span.end = grind (arith, nat_tests) in
    elim (cases_lt f.span.start e.span.end) [ inl lt ↦ absurd (free (Crosses-from_places e.span f.span behind lt)) | inr le ↦ le ]

-- the edits with one more at its place lie apart
pub AreApart-at_place : (to : ℕ) (e : Edit) (edits : List Edit) (at : ℕ) → AreApart 0 edits to → e.span.end ≤ to
    → IsPlaceFor e.span edits at → AreApart 0 (take at edits ++ e ∷ drop at edits) to
AreApart-at_place to e edits at a high place =
    let Free : Edit → Type 0 = λ f. Crosses e.span f.span → ⊥ in
    let Ended : Edit → Type 0 = λ f. nat_le f.span.end e.span.start ≡ true in
    let Later : Edit → Type 0 = λ f. nat_lt e.span.start f.span.end ≡ true in
    let ended : All Ended (take at edits) = All-same Ended (take at edits) _ place.first.front (filter_passes (λ (f : Edit). nat_le f.span.end e.span.start) edits) in
    let later : All Later (drop at edits) = All-same Later (drop at edits) _ place.first.back (filter_passes (λ (f : Edit). nat_lt e.span.start f.span.end) edits) in
    let free : All Free (drop at edits) = All-drop Free at edits place.apart in
    AreApart-insert 0 to e edits at a (omega arith) high
    (All-weaker Ended (λ f. f.span.end ≤ e.span.start) (λ f h. grind (arith, nat_tests)) (take at edits) ended)
    (λ k d h. begins-later e (get_or (drop at edits) k d) (later k d h) (free k d h))

-- where no edit crosses a span, none is the first
pub FirstCrossed-none : (span : Span) (edits : List Edit) (stored : Span) → All (λ f. Crosses span f.span → ⊥) edits → FirstCrossed span edits stored → ⊥
FirstCrossed-none span edits stored free first =
    let Free : Edit → Type 0 = λ f. Crosses span f.span → ⊥ in
    let all : All Free (first.front ++ first.crossed ∷ first.back) = All-same Free _ edits (sym first.are_edits) free in
    let here : Free (get_or (first.front ++ first.crossed ∷ first.back) (length first.front) first.crossed) =
    all (length first.front) first.crossed (rw length-append (omega arith)) in
    (rw (get_or_at first.front first.crossed first.back first.crossed (length first.front) refl) at here) first.crosses

-- the first crossed edit is one
first-unique : (span : Span) (f g : List Edit) (x y : Edit) (b d : List Edit) → f ++ x ∷ b ≡ g ++ y ∷ d
    → All (λ e. Crosses span e.span → ⊥) f → All (λ e. Crosses span e.span → ⊥) g → Crosses span x.span
    → Crosses span y.span → x ≡ y
first-unique span [] [] x y b d e f-free g-free cx cy = cc
first-unique span [] (z ∷ g) x y b d e f-free g-free cx cy =
    let same : x ≡ z = cc in
    absurd (All-head (λ e. Crosses span e.span → ⊥) z g g-free (subst (λ (w : Edit). Crosses span w.span) same cx))
first-unique span (z ∷ f) [] x y b d e f-free g-free cx cy =
    let same : y ≡ z = cc in
    absurd (All-head (λ e. Crosses span e.span → ⊥) z f f-free (subst (λ (w : Edit). Crosses span w.span) same cy))
first-unique span (z ∷ f) (w ∷ g) x y b d e f-free g-free cx cy =
    let Free : Edit → Type 0 = λ e. Crosses span e.span → ⊥ in
    let rest : f ++ x ∷ b ≡ g ++ y ∷ d = cc in
    first-unique span f g x y b d rest (All-tail Free z f f-free) (All-tail Free w g g-free) cx cy

pub FirstCrossed-unique : (span : Span) (edits : List Edit) (s t : Span) → FirstCrossed span edits s → FirstCrossed span edits t → s ≡ t
FirstCrossed-unique span edits s t a b =
    a.is_stored ∙ ap (λ (e : Edit). e.span) (first-unique span a.front b.front a.crossed b.crossed a.back b.back
    (sym a.are_edits ∙ b.are_edits) a.earlier b.earlier a.crosses b.crosses) ∙ sym b.is_stored

-- edits that lie apart from a position on begin with the one there
pub AreApart-next : (from to : ℕ) (edits : List Edit) (at : ℕ) (e : Edit) → AreApart from (drop at edits) to
    → at < length edits → e ≡ get_or edits at e → AreApart from (e ∷ drop (at + 1) edits) to
AreApart-next from to edits at e a h is = subst (λ ys. AreApart from ys to) (drop-at edits at e h is) a
