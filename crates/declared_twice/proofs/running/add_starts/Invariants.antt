use Rattle.std.proofs.Common.{◌≡◌, ◌++◌, take, map}
use Rattle.graph_search.specs.Graph.{pair}
use Rattle.declared_twice.proofs.running.add_starts.Given as goal

abbrev pub invariant-loop-entry : goal.invariant-loop-entry
invariant-loop-entry l = l.pairs.items ≡ l.fn.pairs.items ++ map (λ e. pair e l.first) (take l.entry-index l.entries)
