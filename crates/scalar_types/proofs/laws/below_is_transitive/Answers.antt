use Rattle.scalar_types.proofs.OrderLemmas.{Below-trans}
use Rattle.scalar_types.proofs.laws.below_is_transitive.Goals as goal

pub returns : goal.returns
returns c = Below-trans
