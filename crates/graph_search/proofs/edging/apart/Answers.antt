use Rattle.std.proofs.Common.{◌≡◌, ℕ, ◌+◌, List, [], ◌∷◌, ◌++◌, map, sym, ap, subst, ◌∙◌}
use Rattle.std.specs.Prelude.{Vec}
use Rattle.std.specs.declared.alloc.Global.{Global}
use Rattle.std.proofs.lemmas.List.{map-append}
use Rattle.graph_search.specs.Graph.{Graph, IsGraph, graph_of}
use Rattle.graph_search.proofs.EdgeLemmas.{graph_push}
use Rattle.graph_search.proofs.edging.apart.Goals as goal

pub loop-number-preserved : goal.loop-number-preserved
loop-number-preserved c =
    let vs = c.loop-number.next.items in
    let n = c.loop-number._number in
    subst (λ (g : Graph). IsGraph (n + 1) [] g)
    (sym (ap (λ (ws : List (Vec ℕ Global)). graph_of ws) c.in_ok-push.ensures.items ∙ map-append (λ (v : Vec ℕ Global). v.items) vs (c.new.result ∷ [])
    ∙ ap (λ (xs : List ℕ). graph_of vs ++ xs ∷ []) c.new.ensures.items))
    (graph_push n (graph_of vs) c.loop-number.invariant)
