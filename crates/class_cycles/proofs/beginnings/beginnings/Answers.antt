use Rattle.std.proofs.Common.{◌<◌, ◌+◌, List, Bool, true, eqb, if◌then◌else◌, [], get_or, set, take, length, replicate, sym, subst, ap, ◌∙◌, arith}
use Rattle.std.proofs.lemmas.List.{take_all, take_more, length-replicate}
use Rattle.graph_search.specs.Graph.{pair}
use Rattle.class_cycles.specs.Circuits.{Pairs}
use Rattle.class_cycles.specs.Begins.{AreLevelMarked}
use Rattle.class_cycles.proofs.BackLemmas.{within_at}
use Rattle.class_cycles.proofs.BeginLemmas.{level_none, level_more, begins_from, length_if}
use Rattle.class_cycles.proofs.beginnings.beginnings.Goals as goal

pub loop-from-init : goal.loop-from-init
loop-from-init c =
    let n = length c.args.levels.now in
    let any = c.leads_down-is_any.result in
    let e = c.in_ok-marks.ensures.items_if_clones_equal (λ y e. e) in
    record {
      size = ap (λ (ms : List Bool). length ms) e ∙ length-replicate n any;
      marked = subst (λ (ms : List Bool). AreLevelMarked [] c.args.levels.now (replicate n any) ms) (sym e) (level_none c.args.levels.now (replicate n any));
    }

pub is_level-requires-clause-from : goal.is_level-requires-clause-from
is_level-requires-clause-from c = (within_at (length c.args.levels.now) c.args.pairs.now c.loop-from.from-index c.requires c.loop-from-test.true).0

pub is_level-requires-clause-to : goal.is_level-requires-clause-to
is_level-requires-clause-to c = (within_at (length c.args.levels.now) c.args.pairs.now c.loop-from.from-index c.requires c.loop-from-test.true).1

pub mark_if-requires : goal.mark_if-requires
mark_if-requires c =
    let w = within_at (length c.args.levels.now) c.args.pairs.now c.loop-from.from-index c.requires c.loop-from-test.true in
    omega (arith, w.0, c.loop-from.invariant.size)

pub loop-from-preserved : goal.loop-from-preserved
loop-from-preserved c =
    let ps = c.args.pairs.now in
    let i = c.loop-from.from-index in
    let p = get_or ps i (pair 0 0) in
    let levels = c.args.levels.now in
    let old = replicate (length levels) c.leads_down-is_any.result in
    let now = c.loop-from.marks.items in
    let t = eqb (get_or levels p.0 0) (get_or levels p.1 0) in
    let w = within_at (length levels) ps i c.requires c.loop-from-test.true in
    let h : p.0 < length now = omega (arith, w.0, c.loop-from.invariant.size) in
    let e = c.mark_if.ensures ∙ ap (λ (u : Bool). if u then set now p.0 true else now) c.is_level.ensures in
    record {
      size = ap (λ (ms : List Bool). length ms) e ∙ length_if t now p.0 ∙ c.loop-from.invariant.size;
      marked = subst (λ (ms : List Bool). AreLevelMarked (take (i + 1) ps) levels old ms) (sym e)
          (subst (λ (qs : Pairs). AreLevelMarked qs levels old (if t then set now p.0 true else now)) (sym (take_more ps i (pair 0 0) c.loop-from-test.true))
          (level_more (take i ps) levels old now p.0 p.1 c.loop-from.invariant.marked h));
    }

pub returns-clause-marked : goal.returns-clause-marked
returns-clause-marked c =
    begins_from c.leads_down-is_any.result c.args.pairs.now c.args.levels.now c.loop-from.marks.items c.requires c.leads_down-is_any.ensures
    (subst (λ (qs : Pairs). AreLevelMarked qs c.args.levels.now (replicate (length c.args.levels.now) c.leads_down-is_any.result) c.loop-from.marks.items)
    (take_all c.loop-from.from-index c.args.pairs.now c.loop-from-test.false) c.loop-from.invariant.marked)
