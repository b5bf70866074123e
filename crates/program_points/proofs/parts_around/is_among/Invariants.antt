use Rattle.std.proofs.Common.{◌≡◌, length}
use Rattle.program_points.specs.Chosen.{pieces_of}
use Rattle.program_points.specs.Edges.{is_among}
use Rattle.program_points.specs.Pieces.{stmts}
use Rattle.program_points.proofs.parts_around.is_among.Given as goal

abbrev pub invariant-loop-left : goal.invariant-loop-left
invariant-loop-left l = is_among l.number (stmts (pieces_of l.left)) ≡ is_among l.number (stmts (pieces_of l.pieces))

abbrev pub decreases-loop-left : goal.decreases-loop-left
decreases-loop-left l = length l.left
