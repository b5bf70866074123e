use Rattle.std.proofs.Common.{take}
use Rattle.graph_search.specs.Marks.{Marks}
use Rattle.graph_search.proofs.reach.mark_all.Given as goal

abbrev pub invariant-loop-target : goal.invariant-loop-target
invariant-loop-target l = Marks (take l.target-index l.targets) l.fn.marked.items l.marked.items l.fn.pending.items l.pending.items
