-- Drafts, and the forms that they become.
use Rattle.std.proofs.Common.{◌≡◌, ◌+◌, List, [], ◌∷◌, ◌++◌, refl}
use Rattle.std.proofs.lemmas.List.{reverse-append}
use Rattle.node_names.specs.declared.draft.Draft.{Draft}
use Rattle.node_names.specs.Drafts.{part_of, stacked}

-- the part that was read last stands first
pub stacked-push : (ds : List Draft) (d : Draft) → stacked (ds ++ d ∷ []) ≡ part_of d ∷ stacked ds
stacked-push ds d = rw (reverse-append ds (d ∷ [])) refl
