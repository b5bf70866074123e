use Rattle.std.proofs.Common.{[]}
use Rattle.graph_search.specs.Graph.{IsGraph, graph_of}
use Rattle.graph_search.proofs.edging.apart.Given as goal

abbrev pub invariant-loop-number : goal.invariant-loop-number
invariant-loop-number l = IsGraph l._number [] (graph_of l.next.items)
