use Rattle.scalar_types.specs.Terms.{IsWellFormed, term}
use Rattle.scalar_types.proofs.TermLemmas.{IfSome-get}
use Rattle.scalar_types.proofs.pool.Pool.get.Goals as goal

pub returns-clause-well_formed : goal.returns-clause-well_formed
returns-clause-well_formed c =
    let h = c.get.ensures.lookup in
    IfSome-get c.self.inside.types.items c.deref.result.now (λ t. IsWellFormed (term t)) c.args.a.0 c.get.result c.deref.ensures.value h.0 h.1
    (λ t e. c.self.invariant.well_formed c.args.a.0 (term t) e)
