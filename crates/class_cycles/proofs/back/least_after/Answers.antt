use Rattle.std.proofs.Common.{ℕ, ◌+◌, Bool, Option, eqb, ◌&&◌, get_or, take, sym, subst, ap, ◌∙◌}
use Rattle.std.proofs.lemmas.List.{take_more}
use Rattle.graph_search.specs.Graph.{pair, marked}
use Rattle.class_cycles.specs.Circuits.{Pairs}
use Rattle.class_cycles.specs.Back.{IsLeastAfter, lesser_of}
use Rattle.class_cycles.proofs.BackLemmas.{within_at, least_more}
use Rattle.class_cycles.proofs.back.least_after.Goals as goal

pub counts-requires : goal.counts-requires
counts-requires c = (within_at _ c.args.pairs.now c.loop-from.from-index c.requires c.loop-from-test.true).1

pub loop-from-preserved : goal.loop-from-preserved
loop-from-preserved c =
    let ps = c.args.pairs.now in
    let i = c.loop-from.from-index in
    let p = get_or ps i (pair 0 0) in
    let marks = c.args.marks.now in
    let number = c.args.number in
    subst (λ (o : Option ℕ). IsLeastAfter (take (i + 1) ps) marks number o)
    (sym (c.lesser-found.ensures ∙ ap (λ (t : Bool). lesser_of c.loop-from.found t p.1) c.counts.ensures))
    (subst (λ (qs : Pairs). IsLeastAfter qs marks number
    (lesser_of c.loop-from.found (eqb p.0 number && marked marks p.1) p.1))
    (sym (take_more ps i (pair 0 0) c.loop-from-test.true))
    (least_more (take i ps) marks number c.loop-from.found p.0 p.1 c.loop-from.invariant))
