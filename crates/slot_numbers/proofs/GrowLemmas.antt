-- Lists to which items are added, step by step.
use Rattle.std.proofs.Common.{◌⊎◌, inl, inr, suc, List, [], ◌∷◌, ◌++◌}
use Rattle.slot_numbers.specs.Growing.{Has, HasOnly, Keeps}
use Rattle.slot_numbers.proofs.SeenLemmas.{keeps_more}

pub keeps_both : {A : Type 0} (xs ys zs : List A) → Keeps xs ys → Keeps ys zs → Keeps xs zs
keeps_both xs ys zs h g i x e = g i x (h i x e)

-- what stands in the one list or behind
pub has_left : {A : Type 0} (xs ys : List A) (x : A) → Has xs x → Has (xs ++ ys) x
has_left xs ys x h = (h.0, keeps_more xs ys h.0 x h.1)

pub has_right : {A : Type 0} (xs ys : List A) (x : A) → Has ys x → Has (xs ++ ys) x
has_right [] ys x h = h
has_right (z ∷ xs) ys x h = let g = has_right xs ys x h in (suc g.0, g.1)

pub only_both : {A : Type 0} (xs ys zs ms ns : List A) → HasOnly xs ms ys → HasOnly ys ns zs → HasOnly xs (ms ++ ns) zs
only_both {A} xs ys zs ms ns h g = record { each = λ x e. second x (g.each x e) }
  where
    first : (x : A) → Has xs x ⊎ Has ms x → Has xs x ⊎ Has (ms ++ ns) x
    first x (inl a) = inl a
    first x (inr b) = inr (has_left ms ns x b)

    second : (x : A) → Has ys x ⊎ Has ns x → Has xs x ⊎ Has (ms ++ ns) x
    second x (inl a) = first x (h.each x a)
    second x (inr b) = inr (has_right ms ns x b)

pub only_none : {A : Type 0} (xs : List A) → HasOnly xs [] xs
only_none xs = record { each = λ x h. inl h }
