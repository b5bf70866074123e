-- Positions in a list of edits.
use Rattle.std.specs.Prelude.{◌≡◌, ℕ, ◌≤◌, List, length, take, drop, filter, All, nat_le, nat_lt}
use Rattle.span_edits.specs.declared.span.Span.{Span}
use Rattle.span_edits.specs.declared.edit.Edit.{Edit}
use Rattle.span_edits.specs.Crosses.{Crosses}

-- the edits below a position end at a place or before, and those from it on end behind the place
pub record IsFirstAfter (place : ℕ) (edits : List Edit) (at : ℕ) : Type 0 where
  pub within : at ≤ length edits
  pub front : take at edits ≡ filter (λ e. nat_le e.span.end place) edits
  pub back : drop at edits ≡ filter (λ e. nat_lt place e.span.end) edits

-- a span may be stored at a position: it crosses no edit, and begins behind those below the position alone
pub record IsPlaceFor (span : Span) (edits : List Edit) (at : ℕ) : Type 0 where
  pub first : IsFirstAfter span.start edits at
  pub apart : All (λ f. ¬ Crosses span f.span) edits
