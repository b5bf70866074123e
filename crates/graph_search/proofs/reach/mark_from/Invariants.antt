use Rattle.graph_search.specs.Graph.{graph_of}
use Rattle.graph_search.proofs.MarkLemmas.{Following}
use Rattle.graph_search.proofs.reach.mark_from.Given as goal

abbrev pub invariant-loop-turn : goal.invariant-loop-turn
invariant-loop-turn l = Following (graph_of l.next) l.from l.fn.marked.items l.marked.items l.pending.items
