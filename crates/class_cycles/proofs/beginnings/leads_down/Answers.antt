use Rattle.std.proofs.Common.{◌≤◌, get_or, take, sym, subst, arith}
use Rattle.std.proofs.lemmas.List.{take_more}
use Rattle.graph_search.specs.Graph.{pair}
use Rattle.class_cycles.specs.Circuits.{Pairs}
use Rattle.class_cycles.specs.Begins.{NeverDown}
use Rattle.class_cycles.proofs.BackLemmas.{within_at}
use Rattle.class_cycles.proofs.BeginLemmas.{never_more}
use Rattle.class_cycles.proofs.beginnings.leads_down.Goals as goal

pub bounds-levels-to : goal.bounds-levels-to
bounds-levels-to c = (within_at _ c.args.pairs.now c.loop-from.from-index c.requires c.loop-from-test.true).1

pub bounds-levels-from : goal.bounds-levels-from
bounds-levels-from c = (within_at _ c.args.pairs.now c.loop-from.from-index c.requires c.loop-from-test.true).0

pub loop-from-preserved : goal.loop-from-preserved
loop-from-preserved c =
    let ps = c.args.pairs.now in
    let i = c.loop-from.from-index in
    let p = get_or ps i (pair 0 0) in
    let levels = c.args.levels.now in
    let h : get_or levels p.0 0 ≤ get_or levels p.1 0 = omega arith in
    subst (λ (qs : Pairs). NeverDown qs levels) (sym (take_more ps i (pair 0 0) c.loop-from-test.true)) (never_more (take i ps) levels p.0 p.1 c.loop-from.invariant h)
