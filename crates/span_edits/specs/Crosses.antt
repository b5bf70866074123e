-- Edits that cross: this project's own rule.
use Rattle.std.specs.Prelude.{◌≡◌, ℕ, ◌<◌, ◌≤◌, ◌⊎◌, List, ◌∷◌, ◌++◌, All}
use Rattle.span_edits.specs.declared.span.Span.{Span}
use Rattle.span_edits.specs.declared.edit.Edit.{Edit}

-- the byte at a place belongs to a span
abbrev pub Holds : Span → ℕ → Type 0
Holds s place = (s.start ≤ place) × (place < s.end)

-- two spans share a byte
abbrev pub SharesByte : Span → Span → Type 0
SharesByte s t = (place : ℕ) × Holds s place × Holds t place

-- a span is empty and lies strictly inside another
abbrev pub IsEmptyInside : Span → Span → Type 0
IsEmptyInside s t = (s.start ≡ s.end) × (t.start < s.start) × (s.start < t.end)

-- two spans share a byte, or one is empty and lies strictly inside the other
abbrev pub Crosses : Span → Span → Type 0
Crosses s t = SharesByte s t ⊎ IsEmptyInside s t ⊎ IsEmptyInside t s

-- `stored` is the span of the first edit of a list that a span crosses
pub record FirstCrossed (span : Span) (edits : List Edit) (stored : Span) : Type 0 where
  pub front : List Edit
  pub crossed : Edit
  pub back : List Edit
  pub are_edits : edits ≡ front ++ crossed ∷ back
  pub earlier : All (λ e. ¬ Crosses span e.span) front
  pub crosses : Crosses span crossed.span
  pub is_stored : stored ≡ crossed.span
