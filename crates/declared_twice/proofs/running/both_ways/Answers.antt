use Rattle.std.proofs.Common.{ℕ, List, sym, subst, ◌∙◌}
use Rattle.graph_search.specs.Graph.{ArePairsBelow}
use Rattle.declared_twice.proofs.RunLemmas.{turned_below}
use Rattle.declared_twice.proofs.running.both_ways.Goals as goal

pub edges-requires : goal.edges-requires
edges-requires c = λ a b k. (c.requires a b k).0

pub edges-requires-2 : goal.edges-requires-2
edges-requires-2 c =
    subst (λ (qs : List (ℕ × ℕ)). ArePairsBelow c.args.count qs) (sym (c.as_slice.ensures.value ∙ c.in_ok-back.ensures)) (turned_below c.args.count c.args.pairs.now c.requires)
