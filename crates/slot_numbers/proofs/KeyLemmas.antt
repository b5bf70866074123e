-- Slots from their keys, and keys from slots.
use Rattle.std.specs.Str.{bytes_eq}
use Rattle.std.specs.Cmp.Lexicographic.{bytes_decides}
use Rattle.std.proofs.Common.{◌≡◌, ℕ, zero, suc, Bool, true, false, if◌then◌else◌, List, [], ◌∷◌, Some, slice_get, refl, ap, ◌∙◌, arith}
use Rattle.std.proofs.lemmas.Option.{same_Some, none-some}
use Rattle.scope_names.specs.Slot as scope
use Rattle.node_names.specs.Slots.{NamedSlot, named, in_closure}
use Rattle.node_facts.specs.declared.slot_name.SlotName.{SlotName}
use Rattle.node_facts.specs.declared.slot_name.SlotName.TheVariants as slot
use Rattle.node_facts.specs.Seen.{slot_in}
use Rattle.slot_numbers.specs.Growing.{AreApart}
use Rattle.slot_numbers.specs.Keys.{Key, key_of}

abbrev pub declared_at : List ℕ → ℕ → scope.Declared
declared_at p n = record { file = p; number = n }

abbrev pub key_with : ℕ → ℕ → ℕ → List ℕ → Key
key_with f n s w = record { file = f; number = n; sort = s; name = w }

-- ---- slots from keys

abbrev pub path_at : List (List ℕ) → ℕ → List ℕ
path_at [] f = []
path_at (p ∷ ps) zero = p
path_at (p ∷ ps) (suc f) = path_at ps f

abbrev pub of_sort : ℕ → List ℕ → ℕ → List ℕ → NamedSlot
of_sort zero p n w = named (scope.FileVariable w)
of_sort (suc zero) p n w = named (scope.BodyVariable (declared_at p n) w)
of_sort (suc (suc zero)) p n w = named (scope.StaticVariable (declared_at p n) w)
of_sort (suc (suc (suc zero))) p n w = in_closure p n w
of_sort (suc (suc (suc (suc zero)))) p n w = named (scope.Property w)
of_sort (suc (suc (suc (suc (suc s))))) p n w = named (scope.StaticProperty w)

-- the slot of a key, where the files have these paths
abbrev pub slot_of : List (List ℕ) → Key → NamedSlot
slot_of paths k = of_sort k.sort (path_at paths k.file) k.number k.name

path_is : (paths : List (List ℕ)) (f : ℕ) (p : List ℕ) → slice_get paths f ≡ Some p → path_at paths f ≡ p
path_is [] f p e = absurd (none-some p e)
path_is (q ∷ paths) zero p e = same_Some q p e
path_is (q ∷ paths) (suc f) p e = path_is paths f p e

pub slot_is : (paths : List (List ℕ)) (f : ℕ) (p : List ℕ) (s : SlotName) → slice_get paths f ≡ Some p → slot_of paths (key_of f s) ≡ slot_in p s
slot_is paths f p (slot.File v) e = refl
slot_is paths f p (slot.Body n v) e = ap (λ (q : List ℕ). named (scope.BodyVariable (declared_at q n) v.items)) (path_is paths f p e)
slot_is paths f p (slot.Static n v) e = ap (λ (q : List ℕ). named (scope.StaticVariable (declared_at q n) v.items)) (path_is paths f p e)
slot_is paths f p (slot.Closure n v) e = ap (λ (q : List ℕ). in_closure q n v.items) (path_is paths f p e)
slot_is paths f p (slot.Property v) e = refl
slot_is paths f p (slot.StaticProperty v) e = refl

-- ---- keys from slots

abbrev pub number_in : List (List ℕ) → List ℕ → ℕ
number_in [] q = 0
number_in (p ∷ ps) q = if bytes_eq p q then 0 else suc (number_in ps q)

abbrev pub key_in : List (List ℕ) → NamedSlot → Key
key_in paths (named (scope.FileVariable w)) = key_with 0 0 0 w
key_in paths (named (scope.BodyVariable d w)) = key_with (number_in paths d.file) d.number 1 w
key_in paths (named (scope.StaticVariable d w)) = key_with (number_in paths d.file) d.number 2 w
key_in paths (named (scope.Property w)) = key_with 0 0 4 w
key_in paths (named (scope.StaticProperty w)) = key_with 0 0 5 w
key_in paths (named scope.Unnamed) = key_with 0 0 0 []
key_in paths (in_closure q n w) = key_with (number_in paths q) n 3 w

rest_apart : (p : List ℕ) (ps : List (List ℕ)) → AreApart (p ∷ ps) → AreApart ps
rest_apart p ps h i j x e d = let s : suc i ≡ suc j = h (suc i) (suc j) x e d in omega (arith, s)

number_is : (paths : List (List ℕ)) (f : ℕ) (p : List ℕ) → AreApart paths → slice_get paths f ≡ Some p → number_in paths p ≡ f
number_is [] f p h e = absurd (none-some p e)
number_is (q ∷ paths) zero p h e =
    ap (λ (b : Bool). if b then 0 else suc (number_in paths p)) ((bytes_decides q p).1 (same_Some q p e))
number_is (q ∷ paths) (suc f) p h e = at (bytes_eq q p) refl (number_is paths f p (rest_apart q paths h) e)
  where
    never : zero ≡ suc f → ⊥
    never s = omega (arith, s)

    at : (b : Bool) → bytes_eq q p ≡ b → number_in paths p ≡ f → number_in (q ∷ paths) p ≡ suc f
    at true s n = absurd (never (h zero (suc f) p (ap (λ (x : List ℕ). Some x) ((bytes_decides q p).0 s)) e))
    at false s n = ap (λ (b : Bool). if b then 0 else suc (number_in paths p)) s ∙ ap (λ (m : ℕ). suc m) n

pub key_is : (paths : List (List ℕ)) (f : ℕ) (p : List ℕ) (s : SlotName) → AreApart paths → slice_get paths f ≡ Some p → key_in paths (slot_in p s) ≡ key_of f s
key_is paths f p (slot.File v) h e = refl
key_is paths f p (slot.Body n v) h e = ap (λ (g : ℕ). key_with g n 1 v.items) (number_is paths f p h e)
key_is paths f p (slot.Static n v) h e = ap (λ (g : ℕ). key_with g n 2 v.items) (number_is paths f p h e)
key_is paths f p (slot.Closure n v) h e = ap (λ (g : ℕ). key_with g n 3 v.items) (number_is paths f p h e)
key_is paths f p (slot.Property v) h e = refl
key_is paths f p (slot.StaticProperty v) h e = refl
