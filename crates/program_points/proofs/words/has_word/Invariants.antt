use Rattle.std.proofs.Common.{◌≡◌, length}
use Rattle.program_points.specs.Chosen.{pieces_of}
use Rattle.program_points.specs.Pieces.{has_word}
use Rattle.program_points.proofs.words.has_word.Given as goal

abbrev pub invariant-loop-left : goal.invariant-loop-left
invariant-loop-left l = has_word l.word (pieces_of l.left) ≡ has_word l.word (pieces_of l.pieces)

abbrev pub decreases-loop-left : goal.decreases-loop-left
decreases-loop-left l = length l.left
