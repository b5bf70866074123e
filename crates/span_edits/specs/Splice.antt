-- A source with its edits made: this project's own rule.
use Rattle.std.specs.Prelude.{ℕ, ◌+◌, ◌==◌, Bool, ◌&&◌, if◌then◌else◌, nat_le, nat_lt, List, [], ◌∷◌, ◌++◌}
use Rattle.std.specs.List.{list_any}
use Rattle.span_edits.specs.declared.edit.Edit.{Edit}

-- the texts of the edits that begin at a place, in their order
abbrev pub texts_at : ℕ → List Edit → List ℕ
texts_at place [] = []
texts_at place (e ∷ edits) = (if e.span.start == place then e.text else []) ++ texts_at place edits

-- whether an edit replaces the byte at a place
abbrev pub is_replaced : ℕ → List Edit → Bool
is_replaced place edits = list_any (λ e. nat_le e.span.start place && nat_lt place e.span.end) edits

-- at each place from the first byte's on: the texts that begin there, then the byte, unless it is replaced
abbrev pub spliced_from : ℕ → List ℕ → List Edit → List ℕ
spliced_from place [] edits = texts_at place edits
spliced_from place (b ∷ bytes) edits =
    texts_at place edits ++ (if is_replaced place edits then [] else b ∷ []) ++ spliced_from (place + 1) bytes edits

-- a whole source with its edits made
abbrev pub spliced : List ℕ → List Edit → List ℕ
spliced source edits = spliced_from 0 source edits
