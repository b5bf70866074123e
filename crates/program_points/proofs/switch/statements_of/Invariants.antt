use Rattle.std.proofs.Common.{◌≡◌, ◌++◌, length}
use Rattle.program_points.specs.Chosen.{pieces_of}
use Rattle.program_points.specs.Pieces.{stmts}
use Rattle.program_points.specs.Rows.{all_statements}
use Rattle.program_points.proofs.switch.statements_of.Given as goal

abbrev pub invariant-loop-left : goal.invariant-loop-left
invariant-loop-left l = stmts (pieces_of l.all.items) ++ all_statements (pieces_of l.left) ≡ all_statements (pieces_of l.fn.pieces)

abbrev pub decreases-loop-left : goal.decreases-loop-left
decreases-loop-left l = length l.left
