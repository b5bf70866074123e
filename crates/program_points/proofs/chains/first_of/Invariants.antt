use Rattle.std.proofs.Common.{◌≡◌, length}
use Rattle.program_points.specs.Chosen.{chosen, pieces_of}
use Rattle.program_points.specs.Rows.{head_of}
use Rattle.program_points.proofs.chains.first_of.Given as goal

abbrev pub invariant-loop-left : goal.invariant-loop-left
invariant-loop-left l = head_of (chosen l.which (pieces_of l.left)) ≡ head_of (chosen l.which (pieces_of l.pieces))

abbrev pub decreases-loop-left : goal.decreases-loop-left
decreases-loop-left l = length l.left
