use Rattle.std.proofs.Common.{rules, arith}
use Rattle.program_points.proofs.WordLemmas.{cut_next}
use Rattle.program_points.proofs.words.up_to.Goals as goal

pub loop-left-preserved : goal.loop-left-preserved
loop-left-preserved c =
    cut_next c.args.word.now c.args.pieces.now c.loop-left.left.now c.piece-item.result
    (omega arith) c.piece-item.is (search (rules, c.is_this.ensures, c.if-is_this.false)) c.loop-left.invariant
