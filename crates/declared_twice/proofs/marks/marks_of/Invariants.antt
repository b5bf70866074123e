use Rattle.std.proofs.Common.{take}
use Rattle.graph_search.specs.Graph.{graph_of}
use Rattle.declared_twice.specs.Marked.{Marked}
use Rattle.declared_twice.proofs.marks.marks_of.Given as goal

abbrev pub invariant-loop-number : goal.invariant-loop-number
invariant-loop-number l = Marked (graph_of l.next) (take l.number-index l.from) l.marks.items
