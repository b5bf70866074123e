-- Facts on a source with its edits made.
use Rattle.std.proofs.Common.{
  ◌≡◌,
  ◌≢◌,
  ◌==◌,
  ℕ,
  zero,
  suc,
  ◌+◌,
  ◌-◌,
  ◌<◌,
  ◌≤◌,
  ◌⊎◌,
  inl,
  inr,
  Bool,
  true,
  false,
  ◌&&◌,
  cond,
  not,
  List,
  [],
  ◌∷◌,
  ◌++◌,
  length,
  take,
  drop,
  get_or,
  All,
  refl,
  sym,
  ap,
  ◌∙◌,
  subst,
  arith,
  nat_le,
  nat_lt,
  append_assoc,
}
use Rattle.std.proofs.lemmas.List.{append-nil, length-drop, take-append-drop, take_all}
use Rattle.std.proofs.lemmas.List.Elements.{All-head, All-tail, All-same, filter_passes}
use Rattle.std.proofs.lemmas.Bool.{cases_lt}
use Rattle.std.proofs.lemmas.Bool.Decides.{nat_tests}
use Rattle.span_edits.specs.declared.edit.Edit.{Edit}
use Rattle.span_edits.specs.EditList.{AreApart}
use Rattle.span_edits.specs.Places.{IsFirstAfter}
use Rattle.span_edits.proofs.PlaceLemmas.{AreApart-next, AreApart-within, AreApart-drop, drop-at, ends-behind}
use Rattle.span_edits.specs.Splice.{texts_at, is_replaced, spliced_from}

-- an edit that begins elsewhere adds no text at a place
pub texts_at-other : (place : ℕ) (e : Edit) (edits : List Edit) → e.span.start ≢ place → texts_at place (e ∷ edits) ≡ texts_at place edits
texts_at-other place e edits ne =
    let fails : (e.span.start == place) ≡ false = grind (arith, nat_tests) in
    rw fails refl

pub texts_at-here : (place : ℕ) (e : Edit) (edits : List Edit) → e.span.start ≡ place → texts_at place (e ∷ edits) ≡ e.text ++ texts_at place edits
texts_at-here place e edits eq =
    let passes : (e.span.start == place) ≡ true = grind (arith, nat_tests) in
    rw passes refl

-- an edit whose span ends at a place or before, or begins behind it, doesn't replace its byte
pub is_replaced-other : (place : ℕ) (e : Edit) (edits : List Edit) → (e.span.end ≤ place) ⊎ (place < e.span.start) → is_replaced place (e ∷ edits) ≡ is_replaced place edits
is_replaced-other place e edits (inl h) =
    let fails : (nat_le e.span.start place && nat_lt place e.span.end) ≡ false = grind (arith, nat_tests) in
    rw fails refl
is_replaced-other place e edits (inr h) =
    let fails : (nat_le e.span.start place && nat_lt place e.span.end) ≡ false = grind (arith, nat_tests) in
    rw fails refl

pub is_replaced-here : (place : ℕ) (e : Edit) (edits : List Edit) → e.span.start ≤ place → place < e.span.end → is_replaced place (e ∷ edits) ≡ true
is_replaced-here place e edits low high =
    let passes : (nat_le e.span.start place && nat_lt place e.span.end) ≡ true = grind (arith, nat_tests) in
    rw passes refl

-- edits that lie behind a place add no text there, and don't replace its byte
pub texts_at-none : (place from to : ℕ) (edits : List Edit) → place < from → AreApart from edits to → texts_at place edits ≡ []
texts_at-none place from to [] h a = refl
texts_at-none place from to (e ∷ edits) h a =
    texts_at-other place e edits (λ eq. omega (arith, a.0)) ∙ texts_at-none place e.span.end to edits (omega (arith, a.0, e.span.ordered)) a.1

pub is_replaced-none : (place from to : ℕ) (edits : List Edit) → place < from → AreApart from edits to → is_replaced place edits ≡ false
is_replaced-none place from to [] h a = refl
is_replaced-none place from to (e ∷ edits) h a =
    is_replaced-other place e edits (inr (omega (arith, a.0))) ∙ is_replaced-none place e.span.end to edits (omega (arith, a.0, e.span.ordered)) a.1

-- one place of a splice
pub step : (place : ℕ) (b : ℕ) (bytes : List ℕ) (edits : List Edit) (texts : List ℕ) (replaced : Bool) (rest : List ℕ)
    → texts_at place edits ≡ texts → is_replaced place edits ≡ replaced → spliced_from (place + 1) bytes edits ≡ rest
    → spliced_from place (b ∷ bytes) edits ≡ texts ++ cond replaced [] (b ∷ []) ++ rest
step place b bytes edits texts replaced rest t r s = rw (t, r, s) refl

-- an edit that lies before a place changes nothing from there on
pub spliced_from-passed : (place : ℕ) (bytes : List ℕ) (e : Edit) (edits : List Edit) → e.span.start < place
    → e.span.end ≤ place → spliced_from place bytes (e ∷ edits) ≡ spliced_from place bytes edits
spliced_from-passed place [] e edits h k = texts_at-other place e edits (λ eq. omega arith)
spliced_from-passed place (b ∷ bytes) e edits h k =
    step place b bytes (e ∷ edits) _ _ _ (texts_at-other place e edits (λ eq. omega arith)) (is_replaced-other place e edits (inl k))
    (spliced_from-passed (place + 1) bytes e edits (omega arith) (omega arith))

-- bytes before the first edit stay
pub spliced_from-skip : (n place at to : ℕ) (bytes : List ℕ) (edits : List Edit) → at ≡ place + n → n ≤ length bytes
    → AreApart at edits to → spliced_from place bytes edits ≡ take n bytes ++ spliced_from at (drop n bytes) edits
spliced_from-skip zero place at to bytes edits eq h a =
    let same : at ≡ place = omega arith in
    rw same refl
spliced_from-skip (suc n) place at to [] edits eq h a = absurd (omega arith)
spliced_from-skip (suc n) place at to (b ∷ bytes) edits eq h a =
    step place b bytes edits [] false _ (texts_at-none place at to edits (omega arith) a) (is_replaced-none place at to edits (omega arith) a)
    (spliced_from-skip n (place + 1) at to bytes edits (omega arith) (omega arith) a)

-- inside an edit's span bytes are dropped
pub spliced_from-inside : (n place to : ℕ) (bytes : List ℕ) (e : Edit) (edits : List Edit) → e.span.start < place
    → e.span.end ≡ place + n → n ≤ length bytes → AreApart e.span.end edits to
    → spliced_from place bytes (e ∷ edits) ≡ spliced_from e.span.end (drop n bytes) edits
spliced_from-inside zero place to bytes e edits low eq h a =
    spliced_from-passed place bytes e edits low (omega arith) ∙ ap (λ p. spliced_from p bytes edits) (omega arith)
spliced_from-inside (suc n) place to [] e edits low eq h a = absurd (omega arith)
spliced_from-inside (suc n) place to (b ∷ bytes) e edits low eq h a =
    step place b bytes (e ∷ edits) [] true _ (texts_at-other place e edits (λ same. omega arith)
    ∙ texts_at-none place e.span.end to edits (omega arith) a)
    (is_replaced-here place e edits (omega arith) (omega arith))
    (spliced_from-inside n (place + 1) to bytes e edits (omega arith) (omega arith) (omega arith) a)

-- a bracket moves
pub regroup : (a b c d : List ℕ) → ((a ++ b) ++ c) ++ d ≡ a ++ ((b ++ c) ++ d)
regroup a b c d = simp append_assoc

-- from the first edit's start on: its text, then what comes behind its span
pub spliced_from-edit : (n place to : ℕ) (bytes : List ℕ) (e : Edit) (edits : List Edit) → e.span.start ≡ place
    → e.span.end ≡ place + n → n ≤ length bytes → AreApart e.span.end edits to
    → spliced_from place bytes (e ∷ edits) ≡ e.text ++ spliced_from e.span.end (drop n bytes) edits
spliced_from-edit zero place to [] e edits at eq h a =
    let ends : place ≡ e.span.end = omega arith in
    texts_at-here place e edits at ∙ ap (λ p. e.text ++ texts_at p edits) ends
spliced_from-edit zero place to (b ∷ bytes) e edits at eq h a =
    step place b bytes (e ∷ edits) (e.text ++ texts_at place edits) (is_replaced place edits)
    (spliced_from (place + 1) bytes edits) (texts_at-here place e edits at)
    (is_replaced-other place e edits (inl (omega arith)))
    (spliced_from-passed (place + 1) bytes e edits (omega arith) (omega arith))
    ∙ regroup e.text (texts_at place edits) (cond (is_replaced place edits) [] (b ∷ [])) (spliced_from (place + 1) bytes edits)
    ∙ (let ends : place ≡ e.span.end = omega arith in ap (λ p. e.text ++ spliced_from p (b ∷ bytes) edits) ends)
spliced_from-edit (suc n) place to [] e edits at eq h a = absurd (omega arith)
spliced_from-edit (suc n) place to (b ∷ bytes) e edits at eq h a =
    step place b bytes (e ∷ edits) e.text true _
    (texts_at-here place e edits at ∙ ap (λ ts. e.text ++ ts) (texts_at-none place e.span.end to edits (omega arith) a) ∙ append-nil e.text)
    (is_replaced-here place e edits (omega arith) (omega arith))
    (spliced_from-inside n (place + 1) to bytes e edits (omega arith) (omega arith) (omega arith) a)
    ∙ simp append-nil

-- the bytes up to the first edit, its text, and what comes behind its span
pub spliced_from-next : (place to : ℕ) (bytes : List ℕ) (e : Edit) (edits : List Edit) → AreApart place (e ∷ edits) to
    → e.span.end ≤ place + length bytes → spliced_from place bytes (e ∷ edits) ≡ take (e.span.start - place) bytes
    ++ (e.text ++ spliced_from e.span.end (drop (e.span.end - e.span.start) (drop (e.span.start - place) bytes))
    edits)
spliced_from-next place to bytes e edits a h =
    spliced_from-skip (e.span.start - place) place e.span.start to bytes (e ∷ edits) (omega (arith, a.0)) (omega (arith, a.0, e.span.ordered)) (omega arith, a.1)
    ∙ ap (λ ys. take (e.span.start - place) bytes ++ ys)
    (spliced_from-edit (e.span.end - e.span.start) e.span.start to (drop (e.span.start - place) bytes) e edits refl
    (omega (arith, e.span.ordered)) (simp length-drop (omega (arith, a.0, e.span.ordered))) a.1)

-- without edits the bytes stay
pub spliced_from-none : (place : ℕ) (bytes : List ℕ) → spliced_from place bytes [] ≡ bytes
spliced_from-none place [] = refl
spliced_from-none place (b ∷ bytes) = ap (λ ys. b ∷ ys) (spliced_from-none (place + 1) bytes)

-- an edit that ends at a place or before leaves the byte there to the others
pub is_replaced-passed : (place : ℕ) (front edits : List Edit) → All (λ f. nat_le f.span.end place ≡ true) front → is_replaced place (front ++ edits) ≡ is_replaced place edits
is_replaced-passed place [] edits h = refl
is_replaced-passed place (e ∷ front) edits h =
    let Passed : Edit → Type 0 = λ f. nat_le f.span.end place ≡ true in
    let here : nat_le e.span.end place ≡ true = All-head Passed e front h in
    let before : e.span.end ≤ place = grind (arith, nat_tests) in
    is_replaced-other place e (front ++ edits) (inl before) ∙ is_replaced-passed place front edits (All-tail Passed e front h)

-- a byte is replaced exactly where the first edit that ends behind it begins there or before
pub is_replaced-by_first : (place to : ℕ) (edits : List Edit) (at : ℕ) (e : Edit) → AreApart 0 edits to
    → IsFirstAfter place edits at → at < length edits → e ≡ get_or edits at e
    → nat_lt place e.span.start ≡ not (is_replaced place edits)
is_replaced-by_first place to edits at e a first h is =
    let Passed : Edit → Type 0 = λ f. nat_le f.span.end place ≡ true in
    let passed : All Passed (take at edits) = All-same Passed (take at edits) _ first.front (filter_passes (λ (f : Edit). nat_le f.span.end place) edits) in
    let later = AreApart-drop at 0 to edits a in
    let later_apart : AreApart later.0 (e ∷ drop (at + 1) edits) to = subst (λ ys. AreApart later.0 ys to) (drop-at edits at e h is) later.1 in
    let split : is_replaced place edits ≡ is_replaced place (e ∷ drop (at + 1) edits) =
    ap (is_replaced place) (sym (take-append-drop at edits)) ∙ is_replaced-passed place (take at edits) (drop at edits) passed ∙ ap (is_replaced place) (drop-at edits at e h is) in
    let ends : place < e.span.end = ends-behind place edits at e first h is in
    let others : is_replaced place (drop (at + 1) edits) ≡ false = is_replaced-none place e.span.end to (drop (at + 1) edits) ends later_apart.1 in
    elim (cases_lt place e.span.start) [
      | inl lt ↦
          let out : is_replaced place (e ∷ drop (at + 1) edits) ≡ false = is_replaced-other place e (drop (at + 1) edits) (inr lt) ∙ others in
          rw (split, out) (grind (arith, nat_tests))
      | inr le ↦
          rw (split, is_replaced-here place e (drop (at + 1) edits) le ends) (grind (arith, nat_tests))
    ]

-- a byte at which no edit ends later isn't replaced
pub is_replaced-end : (place : ℕ) (edits : List Edit) (at : ℕ) → IsFirstAfter place edits at → length edits ≤ at → is_replaced place edits ≡ false
is_replaced-end place edits at first h =
    let Passed : Edit → Type 0 = λ f. nat_le f.span.end place ≡ true in
    let passed : All Passed edits = All-same Passed edits _ (sym (take_all at edits h) ∙ first.front) (filter_passes (λ (f : Edit). nat_le f.span.end place) edits) in
    ap (is_replaced place) (sym (append-nil edits)) ∙ is_replaced-passed place edits [] passed

-- one edit more in a loop over the edits
pub spliced_from-more : (at to : ℕ) (out rest : List ℕ) (edits : List Edit) (i : ℕ) (e : Edit)
    → AreApart at (drop i edits) to → at + length rest ≡ to → i < length edits → e ≡ get_or edits i e
    → ((out ++ take (e.span.start - at) rest) ++ e.text) ++ spliced_from e.span.end
    (drop (e.span.end - e.span.start) (drop (e.span.start - at) rest)) (drop (i + 1) edits) ≡ out
    ++ spliced_from at rest (drop i edits)
spliced_from-more at to out rest edits i e a len h is =
    let apart = AreApart-next at to edits i e a h is in
    let within : e.span.end ≤ to = AreApart-within e.span.end to (drop (i + 1) edits) apart.1 in
    simp append_assoc
    (ap (λ ys. out ++ ys) (sym (ap (spliced_from at rest) (drop-at edits i e h is) ∙ spliced_from-next at to rest e (drop (i + 1) edits) apart (omega arith))))
