-- Elements of lists.
use Rattle.std.proofs.Common.{◌≡◌, ◌<◌, ◌⊎◌, inl, inr, ℕ, List, [], ◌∷◌, length, map, get_or, sym, subst, ◌∙◌, arith}
use Rattle.std.specs.Prelude.{Contains}
use Rattle.std.proofs.lemmas.List.Elements.{Contains-append_left, Contains-append_right, Contains-append_cases, Contains-push, Contains-push_cases}
use Rattle.std.proofs.lemmas.Option.{slice_get-get_or, same_Some}

pub none_in : {X : Type 0} (x : X) → Contains [] x → ⊥
none_in x c = omega (arith, c.1)

pub in_first : {X : Type 0} (a : X) (xs : List X) → Contains (a ∷ xs) a
in_first a xs = Contains-append_left (a ∷ []) xs a (Contains-push [] a)

pub in_rest : {X : Type 0} (a : X) (xs : List X) (x : X) → Contains xs x → Contains (a ∷ xs) x
in_rest a xs x c = Contains-append_right (a ∷ []) xs x c

pub in_cases : {X : Type 0} (a : X) (xs : List X) (x : X) → Contains (a ∷ xs) x → (a ≡ x) ⊎ Contains xs x
in_cases {X} a xs x c = at (Contains-append_cases (a ∷ []) xs x c)
  where
    one : Contains [] x ⊎ (a ≡ x) → (a ≡ x) ⊎ Contains xs x
    one (inl h) = absurd (none_in x h)
    one (inr e) = inl e

    at : Contains (a ∷ []) x ⊎ Contains xs x → (a ≡ x) ⊎ Contains xs x
    at (inl h) = one (Contains-push_cases [] a x h)
    at (inr h) = inr h

pub in_map : {X Y : Type 0} (f : X → Y) (xs : List X) (x : X) → Contains xs x → Contains (map f xs) (f x)
in_map f [] x c = absurd (none_in x c)
in_map {X} {Y} f (a ∷ xs) x c = at (in_map f xs x) (in_cases a xs x c)
  where
    at : (Contains xs x → Contains (map f xs) (f x)) → (a ≡ x) ⊎ Contains xs x → Contains (f a ∷ map f xs) (f x)
    at r (inl e) = subst (λ (z : X). Contains (f a ∷ map f xs) (f z)) e (in_first (f a) (map f xs))
    at r (inr h) = in_rest (f a) (map f xs) (f x) (r h)

-- an element that another comes from
pub record Origin {X Y : Type 0} (f : X → Y) (xs : List X) (y : Y) : Type 0 where
  pub element : X
  pub among : Contains xs element
  pub is : f element ≡ y

pub from_map : {X Y : Type 0} (f : X → Y) (xs : List X) (y : Y) → Contains (map f xs) y → Origin f xs y
from_map f [] y c = absurd (none_in y c)
from_map {X} {Y} f (a ∷ xs) y c = at (λ h. from_map f xs y h) (in_cases (f a) (map f xs) y c)
  where
    at : (Contains (map f xs) y → Origin f xs y) → (f a ≡ y) ⊎ Contains (map f xs) y → Origin f (a ∷ xs) y
    at r (inl e) = record { element = a; among = in_first a xs; is = e }
    at r (inr h) = let o = r h in record { element = o.element; among = in_rest a xs o.element o.among; is = o.is }

-- an element is the same whatever stands for one past the end
pub any_default : {X : Type 0} (xs : List X) (k : ℕ) (d e : X) → k < length xs → get_or xs k d ≡ get_or xs k e
any_default xs k d e h = same_Some (get_or xs k d) (get_or xs k e) (sym (slice_get-get_or xs k d h) ∙ slice_get-get_or xs k e h)
