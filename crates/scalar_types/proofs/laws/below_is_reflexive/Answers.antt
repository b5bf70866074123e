use Rattle.scalar_types.proofs.OrderLemmas.{Below-refl}
use Rattle.scalar_types.proofs.laws.below_is_reflexive.Goals as goal

pub returns : goal.returns
returns c = Below-refl
