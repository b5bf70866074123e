-- What is around a node, as the code has it.
use Rattle.std.specs.Prelude.{◌≡◌, ℕ, length, take, reverse}
use Rattle.program_points.specs.declared.around.Stacks.{Stacks}
use Rattle.program_points.specs.declared.parts_around.Tried.{Tried}
use Rattle.program_points.specs.Chosen.{pieces_of}
use Rattle.program_points.specs.Pieces.{stmts}
use Rattle.program_points.specs.Edges.{Around, in_parts}

-- the innermost is the last one of a stack
abbrev pub around_of : Stacks → Around
around_of s = record { frames = reverse s.frames.items; handlers = reverse s.handlers.items }

-- on a stack stands what stood there before
pub record IsAbove (old new : Stacks) : Type 0 where
  pub frames : take (length old.frames.items) new.frames.items ≡ old.frames.items
  pub handlers : take (length old.handlers.items) new.handlers.items ≡ old.handlers.items

-- what is around a part of a `try`
abbrev pub around_in : Tried → Around → ℕ → Around
around_in t a m = in_parts t.node (stmts (pieces_of t.body.now)) (stmts (pieces_of t.catches.now)) (stmts (pieces_of t.last.now)) a m
