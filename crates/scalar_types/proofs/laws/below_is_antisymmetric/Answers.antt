use Rattle.scalar_types.proofs.OrderLemmas.{Below-antisym}
use Rattle.scalar_types.proofs.laws.below_is_antisymmetric.Goals as goal

pub returns : goal.returns
returns c = Below-antisym
