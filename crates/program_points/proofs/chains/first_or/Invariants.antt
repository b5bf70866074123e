use Rattle.std.proofs.Common.{◌≡◌, length}
use Rattle.program_points.specs.Chosen.{chosen, pieces_of}
use Rattle.program_points.specs.Rows.{first_or}
use Rattle.program_points.proofs.chains.first_or.Given as goal

abbrev pub invariant-loop-left : goal.invariant-loop-left
invariant-loop-left l = first_or (chosen l.which (pieces_of l.left)) l.to ≡ first_or (chosen l.which (pieces_of l.pieces)) l.to

abbrev pub decreases-loop-left : goal.decreases-loop-left
decreases-loop-left l = length l.left
