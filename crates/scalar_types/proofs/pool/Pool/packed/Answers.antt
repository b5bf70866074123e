use Rattle.std.proofs.Common.{subst}
use Rattle.scalar_types.specs.Pool.{HasPackedForm}
use Rattle.scalar_types.proofs.PoolLemmas.{IfSome-from_map, packed_there}
use Rattle.scalar_types.proofs.pool.Pool.packed.Goals as goal

pub returns-clause-packs : goal.returns-clause-packs
returns-clause-packs c =
    IfSome-from_map (λ p. p.now) (HasPackedForm c.args.self.now c.args.a.0) c.get_index.result _ c.get_index.ensures.key
    (λ p h. subst (λ v. HasPackedForm v c.args.a.0 p) c.self.view_is (packed_there _ c.self.invariant c.args.a.0 p h))
