use Rattle.std.proofs.Common.{length}
use Rattle.program_points.proofs.WordLemmas.{Cut}
use Rattle.program_points.proofs.words.up_to.Given as goal

abbrev pub invariant-loop-left : goal.invariant-loop-left
invariant-loop-left l = Cut l.word l.fn.pieces l.left

abbrev pub decreases-loop-left : goal.decreases-loop-left
decreases-loop-left l = length l.left
