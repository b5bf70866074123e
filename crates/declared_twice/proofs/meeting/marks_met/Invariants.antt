use Rattle.std.proofs.Common.{take}
use Rattle.graph_search.specs.Graph.{graph_of}
use Rattle.declared_twice.proofs.MetLemmas.{MetSoFar}
use Rattle.declared_twice.proofs.meeting.marks_met.Given as goal

abbrev pub invariant-loop-entry : goal.invariant-loop-entry
invariant-loop-entry l = MetSoFar (graph_of l.next) l.reaching.items (take l.entry-index l.entries) l.reached.items
