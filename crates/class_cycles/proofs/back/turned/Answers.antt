use Rattle.std.proofs.Common.{◌+◌, ◌++◌, get_or, take, sym, subst}
use Rattle.std.proofs.lemmas.List.{take_more}
use Rattle.graph_search.specs.Graph.{pair}
use Rattle.class_cycles.specs.Circuits.{Pairs}
use Rattle.class_cycles.specs.Back.{IsTurned, turned_one}
use Rattle.class_cycles.proofs.BackLemmas.{turned_more, within_at}
use Rattle.class_cycles.proofs.back.turned.Goals as goal

pub turn-requires : goal.turn-requires
turn-requires c = (within_at _ c.args.pairs.now c.loop-from.from-index c.requires c.loop-from-test.true).0

pub loop-from-preserved : goal.loop-from-preserved
loop-from-preserved c =
    let ps = c.args.pairs.now in
    let i = c.loop-from.from-index in
    let p = get_or ps i (pair 0 0) in
    let taken = c.args.taken.now in
    subst (λ (qs : Pairs). IsTurned (take (i + 1) ps) taken qs) (sym c.in_ok-turn.ensures)
    (subst (λ (qs : Pairs). IsTurned qs taken (c.loop-from.back.items ++ turned_one taken p.0 p.1)) (sym (take_more ps i (pair 0 0) c.loop-from-test.true))
    (turned_more (take i ps) taken c.loop-from.back.items p.0 p.1 c.loop-from.invariant))
