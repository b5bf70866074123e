use Rattle.program_points.specs.Numbers.{nodes_of}
use Rattle.program_points.proofs.NumberLemmas.{Counted}
use Rattle.program_points.proofs.numbers.numbers_of.Given as goal

abbrev pub invariant-loop-id : goal.invariant-loop-id
invariant-loop-id l = Counted (nodes_of l.tree) l.fn.first l.next l.id l.numbers.items
