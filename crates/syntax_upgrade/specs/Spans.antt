-- A span by its ends.
use Rattle.std.specs.Prelude.{ℕ}
use Rattle.span_edits.specs.declared.span.Span.{Span}

abbrev pub ends_of : Span → ℕ × ℕ
ends_of s = (s.start, s.end)
