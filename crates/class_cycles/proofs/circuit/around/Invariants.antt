use Rattle.class_cycles.proofs.CircuitLemmas.{Round}
use Rattle.class_cycles.proofs.circuit.around.Given as goal

abbrev pub invariant-loop-turn : goal.invariant-loop-turn
invariant-loop-turn l = Round l.pairs l.taken l.first l.path.items l.next
