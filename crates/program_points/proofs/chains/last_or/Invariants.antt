use Rattle.std.proofs.Common.{◌≡◌, length}
use Rattle.program_points.specs.Chosen.{chosen, pieces_of}
use Rattle.program_points.specs.Rows.{last_or}
use Rattle.program_points.proofs.chains.last_or.Given as goal

abbrev pub invariant-loop-left : goal.invariant-loop-left
invariant-loop-left l = last_or (chosen l.which (pieces_of l.left)) l.at ≡ last_or (chosen l.which (pieces_of l.pieces)) l.fn.from

abbrev pub decreases-loop-left : goal.decreases-loop-left
decreases-loop-left l = length l.left
