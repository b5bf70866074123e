use Rattle.std.proofs.Common.{◌≡◌, ℕ, List, [], ◌∷◌, ◌++◌, get_or, set, map, sym, ap, ◌∙◌}
use Rattle.std.specs.Prelude.{Vec}
use Rattle.std.specs.declared.alloc.Global.{Global}
use Rattle.std.proofs.lemmas.List.{map-set, get_or-map}
use Rattle.graph_search.specs.Graph.{graph_of}
use Rattle.graph_search.proofs.edging.add_edge.Goals as goal

pub returns : goal.returns
returns c =
    let vs = c.args.next.now.items in
    map-set (λ (v : Vec ℕ Global). v.items) vs c.args.from c.push.new.self
    ∙ ap (λ (xs : List ℕ). set (graph_of vs) c.args.from xs) (c.in_ok-push.ensures.items
    ∙ ap (λ (xs : List ℕ). xs ++ c.args.to ∷ []) (ap (λ (v : Vec ℕ Global). v.items) c.index_mut.ensures.value
    ∙ sym (get_or-map (λ (v : Vec ℕ Global). v.items) vs c.args.from c.index_mut.result.now [] c.requires)))
