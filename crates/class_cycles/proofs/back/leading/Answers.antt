use Rattle.std.proofs.Common.{ℕ, Bool, false, List, length, sym, subst, ap, ◌∙◌}
use Rattle.std.specs.Prelude.{Vec}
use Rattle.std.proofs.lemmas.List.{length-replicate}
use Rattle.graph_search.specs.Graph.{IsGraph, IsWithin, ArePairsBelow, IsMarkedFrom, graph_of, marked}
use Rattle.class_cycles.specs.Circuits.{Pairs}
use Rattle.class_cycles.proofs.BackLemmas.{leading, turned_below, turned_within, none_marked}
use Rattle.class_cycles.proofs.back.leading.Goals as goal

pub edges-requires : goal.edges-requires
edges-requires c =
    subst (λ (qs : Pairs). ArePairsBelow (length c.args.taken.now) qs) (sym c.as_slice.ensures.value)
    (turned_below (length c.args.taken.now) c.args.pairs.now c.args.taken.now c.in_ok-back.back.items c.requires.within c.in_ok-back.ensures)

pub mark_from-requires-clause-within : goal.mark_from-requires-clause-within
mark_from-requires-clause-within c =
    let n = length c.args.taken.now in
    let qs = c.in_ok-back.back.items in
    subst (λ (vs : List (Vec ℕ _)). IsWithin (graph_of vs)) (sym c.as_slice-2.ensures.value)
    (turned_within n c.args.pairs.now c.args.taken.now qs (graph_of c.in_ok-next.next.items) c.requires.within c.in_ok-back.ensures
    (subst (λ (rs : Pairs). IsGraph n rs (graph_of c.in_ok-next.next.items)) c.as_slice.ensures.value c.in_ok-next.ensures))

pub returns : goal.returns
returns c =
    let n = length c.args.taken.now in
    let qs = c.in_ok-back.back.items in
    let g = graph_of c.in_ok-next.next.items in
    leading c.args.pairs.now c.args.taken.now c.args.end qs g c.in_ok-marks.marks.items c.mark_from.new.marked.items c.in_ok-back.ensures
    (subst (λ (rs : Pairs). IsGraph n rs g) c.as_slice.ensures.value c.in_ok-next.ensures)
    (λ b. ap (λ (ms : List Bool). marked ms b) (c.in_ok-marks.ensures.items_if_clones_equal (λ y e. e)) ∙ none_marked n b)
    (ap (λ (ms : List Bool). length ms) (c.in_ok-marks.ensures.items_if_clones_equal (λ y e. e)) ∙ length-replicate n false)
    (subst (λ (vs : List (Vec ℕ _)). IsMarkedFrom (graph_of vs) c.args.end c.in_ok-marks.marks.items
    c.mark_from.new.marked.items) c.as_slice-2.ensures.value c.in_ok-mark_from.ensures)
