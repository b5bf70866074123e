use Rattle.std.proofs.Common.{◌≡◌, ◌<◌, ℕ, ◌+◌, List, [], ◌∷◌, ◌++◌, get_or, set, take, map, length, sym, ap, subst, ◌∙◌, arith}
use Rattle.std.specs.Prelude.{Vec}
use Rattle.std.specs.declared.alloc.Global.{Global}
use Rattle.std.proofs.lemmas.List.{take_more, length-map}
use Rattle.std.proofs.lemmas.List.Elements.{Contains-get_or}
use Rattle.graph_search.specs.Graph.{Graph, IsGraph, graph_of, pair}
use Rattle.graph_search.proofs.EdgeLemmas.{graph_edge}
use Rattle.graph_search.proofs.edging.edges.Goals as goal

pub add_edge-requires : goal.add_edge-requires
add_edge-requires c =
    let p = get_or c.args.pairs.now c.loop-from.from-index (pair 0 0) in
    let w = c.requires p.0 p.1 (Contains-get_or c.args.pairs.now c.loop-from.from-index (pair 0 0) c.loop-from-test.true) in
    omega (arith, w, c.loop-from.invariant.size, length-map c.loop-from.next.items (λ (v : Vec ℕ Global). v.items))

pub loop-from-preserved : goal.loop-from-preserved
loop-from-preserved c =
    let ps = c.args.pairs.now in
    let i = c.loop-from.from-index in
    let p = get_or ps i (pair 0 0) in
    let g = graph_of c.loop-from.next.items in
    let w = c.requires p.0 p.1 (Contains-get_or ps i (pair 0 0) c.loop-from-test.true) in
    subst (λ (h : Graph). IsGraph c.args.count (take (i + 1) ps) h) (sym c.in_ok-add_edge.ensures)
    (subst (λ (qs : List (ℕ × ℕ)). IsGraph c.args.count qs (set g p.0 (get_or g p.0 [] ++ p.1 ∷ []))) (sym (take_more ps i (pair 0 0) c.loop-from-test.true))
    (graph_edge c.args.count (take i ps) g p.0 p.1 c.loop-from.invariant (omega (arith, w, c.loop-from.invariant.size))))
