-- A token, written step by step.
use Rattle.std.specs.Prelude.{Bool, List}
use Rattle.tracked_changes.specs.Pieces.{Piece}
use Rattle.syntax_rules.specs.SplitName.{keyword_behind}
use Rattle.syntax_upgrade.specs.Writing.{Recorded, pieces_next}
use Rattle.syntax_upgrade.specs.Written.{Written, opens_next, space_next, wants_space}
use Rattle.syntax_upgrade.specs.NamesWalked.{Head}

-- before the text of a head: its trivia, the parentheses, a space
abbrev pub begun_next : Bool → Head → List Piece → Written → Written
begun_next apart h lead w = record {
  recorded = space_next (wants_space apart w.behind h.token) (opens_next w.parens (pieces_next lead w.recorded));
  behind = keyword_behind w.behind h.token;
  parens = 0;
}

-- something recorded, in a text
abbrev pub recorded_next : (Recorded → Recorded) → Written → Written
recorded_next next w = record { recorded = next w.recorded; behind = w.behind; parens = w.parens }
