use Rattle.std.proofs.Common.{◌≡◌, length}
use Rattle.program_points.specs.Chosen.{pieces_of}
use Rattle.program_points.specs.Edges.{later}
use Rattle.program_points.specs.Pieces.{stmts}
use Rattle.program_points.proofs.parts_around.later.Given as goal

abbrev pub invariant-loop-left : goal.invariant-loop-left
invariant-loop-left l = later l.number (stmts (pieces_of l.left)) ≡ later l.number (stmts (pieces_of l.fn.pieces))

abbrev pub decreases-loop-left : goal.decreases-loop-left
decreases-loop-left l = length l.left
