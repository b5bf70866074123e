use Rattle.std.proofs.Common.{subst}
use Rattle.scalar_types.specs.Pool.{IsPool}
use Rattle.scalar_types.proofs.PoolLemmas.{types_differ}
use Rattle.scalar_types.proofs.pool.Pool.count.Goals as goal

pub returns-clause-types_differ : goal.returns-clause-types_differ
returns-clause-types_differ c = types_differ _ (subst IsPool c.self.view_is c.self.invariant)
