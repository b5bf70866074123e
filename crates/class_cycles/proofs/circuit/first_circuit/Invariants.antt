use Rattle.std.proofs.Common.{◌≡◌, length}
use Rattle.class_cycles.proofs.CircuitLemmas.{Searched}
use Rattle.class_cycles.proofs.circuit.first_circuit.Given as goal

abbrev pub invariant-loop-first : goal.invariant-loop-first
invariant-loop-first l = record { size : length l.taken.items ≡ l.count; searched : Searched l.pairs l.taken.items l.first }
