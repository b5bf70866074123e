use Rattle.scalar_types.proofs.DepthLemmas.{Below-meet}
use Rattle.scalar_types.proofs.laws.meet_is_above_what_is_below_both.Goals as goal

pub returns : goal.returns
returns c = Below-meet
