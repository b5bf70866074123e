use Rattle.std.proofs.Common.{◌<◌, ℕ}
use Rattle.std.specs.Option.{ForSome}
use Rattle.graph_search.specs.Graph.{graph_of}
use Rattle.declared_twice.specs.Keys.{ClashAt, lent}
use Rattle.declared_twice.specs.Runs.{AreMet}
use Rattle.declared_twice.proofs.clash.first_pair.Given as goal

abbrev pub invariant-loop-place : goal.invariant-loop-place
invariant-loop-place l = record {
  none : (i j : ℕ) → i < l.place → ClashAt (lent l.declared) (graph_of l.runs.next.items) l.entries i j → ⊥;
  known : ForSome l.known (λ m. AreMet (graph_of l.runs.next.items) l.entries m.file m.marks.items);
}
