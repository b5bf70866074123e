-- The edits of one source, by place.
use Rattle.std.specs.Prelude.{ℕ, ◌≤◌, List, [], ◌∷◌, ◌++◌, filter, nat_le, nat_lt}
use Rattle.span_edits.specs.declared.edit.Edit.{Edit}

-- the number of bytes of a source, and its edits in their order
pub record EditList : Type 0 where
  pub len : ℕ
  pub edits : List Edit

-- the edits lie between two places, each beginning where the one before it ends, or later
abbrev pub AreApart : ℕ → List Edit → ℕ → Type 0
AreApart from [] to = from ≤ to
AreApart from (e ∷ edits) to = (from ≤ e.span.start) × AreApart e.span.end edits to

-- an edit among others: behind those that end at its start or before, in front of those that end later
abbrev pub with_edit : Edit → List Edit → List Edit
with_edit e edits =
    filter (λ f. nat_le f.span.end e.span.start) edits ++
    e ∷ filter (λ f. nat_lt e.span.start f.span.end) edits
