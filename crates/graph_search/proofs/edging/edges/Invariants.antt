use Rattle.std.proofs.Common.{take}
use Rattle.graph_search.specs.Graph.{IsGraph, graph_of}
use Rattle.graph_search.proofs.edging.edges.Given as goal

abbrev pub invariant-loop-from : goal.invariant-loop-from
invariant-loop-from l = IsGraph l.count (take l.from-index l.pairs) (graph_of l.next.items)
