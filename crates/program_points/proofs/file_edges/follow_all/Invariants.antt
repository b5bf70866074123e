use Rattle.std.proofs.Common.{◌≡◌, ◌++◌, length}
use Rattle.program_points.specs.Chosen.{pieces_of}
use Rattle.program_points.specs.Edges.{between_behind}
use Rattle.program_points.specs.Pieces.{stmts}
use Rattle.program_points.proofs.file_edges.follow_all.Given as goal

abbrev pub invariant-loop-left : goal.invariant-loop-left
invariant-loop-left l = l.edges.items ++ between_behind l.last (stmts (pieces_of l.left)) ≡ l.fn.edges.items ++ between_behind l.fn.first (stmts (pieces_of l.pieces))

abbrev pub decreases-loop-left : goal.decreases-loop-left
decreases-loop-left l = length l.left
