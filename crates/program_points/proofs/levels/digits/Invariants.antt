use Rattle.std.proofs.Common.{◌≡◌, length}
use Rattle.program_points.specs.Levels.{digits_from}
use Rattle.program_points.proofs.levels.digits.Given as goal

abbrev pub invariant-loop-left : goal.invariant-loop-left
invariant-loop-left l = digits_from l.base l.value l.left ≡ digits_from l.base 0 l.text

abbrev pub decreases-loop-left : goal.decreases-loop-left
decreases-loop-left l = length l.left
