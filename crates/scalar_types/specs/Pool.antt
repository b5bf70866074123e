-- Pools of numbered types: this project's own.
use Rattle.std.specs.Prelude.{◌≡◌, ℕ, Bool, List, [], Option, None, Some, length, slice_get, ◌∷◌, refl, ◌++◌, true, false}
use Rattle.std.specs.Coded.{Coded, code_by, coded_ℕ, coded_bool, coded_list, coded_option, coded×}
use Rattle.scalar_types.specs.declared.pool.Packed.{Packed}
use Rattle.scalar_types.specs.Heads.{head_of}
use Rattle.scalar_types.specs.Join.{join_of}
use Rattle.scalar_types.specs.Terms.{Facts, TypeTerm, any, plain, array, IsWellFormed}

-- What a pool holds: the type and the packed form of each number, and the interned lists by their positions.
pub record Content : Type 0 where
  pub types : List TypeTerm
  pub packed : List Packed
  pub lists : List (List ℕ)

-- ---- packed forms

-- a packed form has the head of these facts, and the positions of their labels and classes
pub record PacksFacts (lists : List (List ℕ)) (f : Facts) (p : Packed) : Type 0 where
  pub head : p.head ≡ head_of f
  pub shared : slice_get lists p.shared ≡ Some f.shared
  pub classes : slice_get lists p.classes ≡ Some f.classes

-- The packed form of a type: place 13 alone for Any; else the head, the number of the element, or 0 without one, and
-- the positions of the labels and of the classes.
abbrev pub Packs : List TypeTerm → List (List ℕ) → TypeTerm → Packed → Type 0
Packs types lists any p = (p.head ≡ 8192) × (p.element.0 ≡ 0) × (p.shared ≡ 0) × (p.classes ≡ 0)
Packs types lists (plain f) p = PacksFacts lists f p × (p.element.0 ≡ 0)
Packs types lists (array f e) p = PacksFacts lists f p × (slice_get types p.element.0 ≡ Some e)

-- ---- pools

-- nothing stands at two places
pub record HasNoRepeat {X : Type 0} (xs : List X) : Type 0 where
  pub once : (i j : ℕ) (x : X) → slice_get xs i ≡ Some x → slice_get xs j ≡ Some x → i ≡ j

-- what stood at a place still stands there
pub record KeepsEach {X : Type 0} (old new : List X) : Type 0 where
  pub each : (i : ℕ) (x : X) → slice_get old i ≡ Some x → slice_get new i ≡ Some x

-- A pool grows: older numbers keep their types and their packed forms, and older positions their lists.
pub record Grows (old new : Content) : Type 0 where
  pub types : KeepsEach old.types new.types
  pub packed : KeepsEach old.packed new.packed
  pub lists : KeepsEach old.lists new.lists

-- Any stands at number 0, the empty list at position 0, and nothing is stored twice; each number has a packed form,
-- which is its type's, and each type is well-formed.
pub record IsPool (pool : Content) : Type 0 where
  pub any_first : slice_get pool.types 0 ≡ Some any
  pub empty_first : slice_get pool.lists 0 ≡ Some []
  pub counts : length pool.packed ≡ length pool.types
  pub lists_differ : HasNoRepeat pool.lists
  pub packed_differ : HasNoRepeat pool.packed
  pub packs : (k : ℕ) (t : TypeTerm) (p : Packed)
      → slice_get pool.types k ≡ Some t → slice_get pool.packed k ≡ Some p → Packs pool.types pool.lists t p
  pub well_formed : (k : ℕ) (t : TypeTerm) → slice_get pool.types k ≡ Some t → IsWellFormed t

-- a packed form is that of the type of a number
abbrev pub HasPackedForm : Content → ℕ → Packed → Type 0
HasPackedForm pool k p =
    (t : TypeTerm) × (slice_get pool.types k ≡ Some t) × Packs pool.types pool.lists t p

-- a number has the join of the types that two numbers had
abbrev pub IsNumberOfJoin : Content → Content → ℕ → ℕ → ℕ → Type 0
IsNumberOfJoin old new i j id =
    (s t : TypeTerm) → slice_get old.types i ≡ Some s → slice_get old.types j ≡ Some t
    → slice_get new.types id ≡ Some (join_of s t)

-- a known type has these facts, and no element and number 0, or the element of this number
abbrev pub IsKnownWith : List TypeTerm → Facts → ℕ → TypeTerm → Type 0
IsKnownWith types f id any = ⊥
IsKnownWith types f id (plain g) = (f ≡ g) × (id ≡ 0)
IsKnownWith types f id (array g e) = (f ≡ g) × (slice_get types id ≡ Some e)

-- a list stays as it is, or it gets one more at its end
abbrev pub KeepsOrAdds : {X : Type 0} → List X → List X → X → Bool → Type 0
KeepsOrAdds old new x true = new ≡ old ++ x ∷ []
KeepsOrAdds old new x false = new ≡ old

-- ---- contents as stored values

-- a type as the facts of its arrays, from without, and those of the known type within, if it isn't Any
abbrev pub levels : TypeTerm → List Facts × Option Facts
levels any = ([], None)
levels (plain f) = ([], Some f)
levels (array f e) = let r = levels e in (f ∷ r.0, r.1)

abbrev pub from_levels : List Facts → Option Facts → TypeTerm
from_levels [] None = any
from_levels [] (Some f) = plain f
from_levels (f ∷ fs) r = array f (from_levels fs r)

abbrev pub from_levels-levels : (t : TypeTerm) → from_levels (levels t).0 (levels t).1 ≡ t
from_levels-levels any = refl
from_levels-levels (plain f) = refl
from_levels-levels (array f e) = λ i. array f (from_levels-levels e i)

abbrev pub facts_code : Coded Facts
facts_code =
    code_by (ℕ × (Bool × (Bool × (List ℕ × List ℕ)))) (coded× coded_ℕ (coded× coded_bool (coded× coded_bool (coded× (coded_list coded_ℕ) (coded_list coded_ℕ)))))
    (λ f. (f.bits, (f.neg, (f.text_keys, (f.shared, f.classes)))))
    (λ p. record { bits = p.0; neg = p.1.0; text_keys = p.1.1.0; shared = p.1.1.1.0; classes = p.1.1.1.1 }) (λ _. refl)

abbrev pub type_code : Coded TypeTerm
type_code =
    code_by (List Facts × Option Facts) (coded× (coded_list facts_code) (coded_option facts_code)) levels (λ p. from_levels p.0 p.1) from_levels-levels

abbrev pub packed_code : Coded Packed
packed_code =
    code_by (ℕ × (ℕ × (ℕ × ℕ))) (coded× coded_ℕ (coded× coded_ℕ (coded× coded_ℕ coded_ℕ)))
    (λ p. (p.head, (p.element.0, (p.shared, p.classes))))
    (λ q. record { head = q.0; element = record { 0 = q.1.0 }; shared = q.1.1.0; classes = q.1.1.1 }) (λ _. refl)

abbrev pub content_code : Coded Content
content_code =
    code_by (List TypeTerm × (List Packed × List (List ℕ))) (coded× (coded_list type_code) (coded× (coded_list packed_code) (coded_list (coded_list coded_ℕ))))
    (λ c. (c.types, (c.packed, c.lists))) (λ q. record { types = q.0; packed = q.1.0; lists = q.1.1 }) (λ _. refl)
