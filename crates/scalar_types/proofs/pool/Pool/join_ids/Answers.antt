use Rattle.std.proofs.Common.{subst, sym}
use Rattle.scalar_types.specs.Pool.{IsPool}
use Rattle.scalar_types.specs.Terms.{IsWellFormed}
use Rattle.scalar_types.proofs.JoinLemmas.{IsWellFormed-join}
use Rattle.scalar_types.proofs.PoolLemmas.{types_differ}
use Rattle.scalar_types.proofs.pool.Pool.join_ids.Goals as goal

pub returns-in_err-joined-clause-types_differ : goal.returns-in_err-joined-clause-types_differ
returns-in_err-joined-clause-types_differ c = types_differ _ (subst IsPool c.self.view_is c.self.invariant)

pub intern-requires : goal.intern-requires
intern-requires c =
    subst IsWellFormed (sym c.in_ok-joined.ensures) (IsWellFormed-join _ _ c.type_at.ensures.well_formed c.type_at-2.ensures.well_formed)
