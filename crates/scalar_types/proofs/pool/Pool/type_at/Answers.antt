use Rattle.std.proofs.Common.{subst, ◌<◌, length, sym, arith}
use Rattle.std.proofs.lemmas.List.{length-map}
use Rattle.scalar_types.specs.Terms.{term}
use Rattle.scalar_types.proofs.TermLemmas.{slice_get-term}
use Rattle.scalar_types.proofs.pool.Pool.type_at.Goals as goal

pub returns-clause-well_formed : goal.returns-clause-well_formed
returns-clause-well_formed c =
    let types = c.self.inside.types.items in
    let within : c.args.a.0 < length types =
    omega (arith, subst (λ v. c.args.a.0 < length v.types) (sym c.self.view_is) c.requires, length-map types term) in
    c.self.invariant.well_formed c.args.a.0 (term c.index.result.now) (slice_get-term types c.args.a.0 c.index.result.now within c.index.ensures)
