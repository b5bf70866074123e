use Rattle.std.proofs.Common.{◌≡◌, ◌++◌, length}
use Rattle.program_points.specs.Chosen.{pieces_of}
use Rattle.program_points.specs.Pieces.{stmts}
use Rattle.program_points.specs.Rows as rows
use Rattle.program_points.proofs.tries.ends.Given as goal

abbrev pub invariant-loop-left : goal.invariant-loop-left
invariant-loop-left l = l.edges.items ++ rows.ends l.node (stmts (pieces_of l.left)) l.to ≡ l.fn.edges.items ++ rows.ends l.node (stmts (pieces_of l.pieces)) l.to

abbrev pub decreases-loop-left : goal.decreases-loop-left
decreases-loop-left l = length l.left
