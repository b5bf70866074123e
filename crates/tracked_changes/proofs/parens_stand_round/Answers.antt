use Rattle.tracked_changes.proofs.Wrapping.{parens_stand_round}
use Rattle.tracked_changes.proofs.parens_stand_round.Goals as goal

pub returns : goal.returns
returns c = parens_stand_round
