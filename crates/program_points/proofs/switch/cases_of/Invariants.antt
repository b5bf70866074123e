use Rattle.std.proofs.Common.{◌≡◌, ◌++◌, length}
use Rattle.program_points.specs.Chosen.{pieces_of}
use Rattle.program_points.specs.Rows.{cases}
use Rattle.program_points.proofs.switch.cases_of.Given as goal

abbrev pub invariant-loop-left : goal.invariant-loop-left
invariant-loop-left l = l.cases.items ++ cases (pieces_of l.left) ≡ cases (pieces_of l.fn.pieces)

abbrev pub decreases-loop-left : goal.decreases-loop-left
decreases-loop-left l = length l.left
