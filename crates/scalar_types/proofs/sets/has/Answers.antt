use Rattle.std.proofs.Common.{rules}
use Rattle.scalar_types.proofs.SetLemmas.{is_ok-search}
use Rattle.scalar_types.proofs.sets.has.Goals as goal

pub returns : goal.returns
returns c =
    let e = is_ok-search c.args.numbers.now c.args.x c.binary_search.result c.requires c.binary_search.ensures.position in
    search (rules, e)
