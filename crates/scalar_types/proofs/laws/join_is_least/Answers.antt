use Rattle.scalar_types.proofs.JoinLemmas.{Below-join_left, Below-join_right, Below-join}
use Rattle.scalar_types.proofs.laws.join_is_least.Goals as goal

pub returns : goal.returns
returns c = record { first = Below-join_left; second = Below-join_right; least = Below-join }
