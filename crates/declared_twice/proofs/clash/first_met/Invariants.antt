use Rattle.std.proofs.Common.{◌-◌, length}
use Rattle.declared_twice.specs.Keys.{lent}
use Rattle.declared_twice.proofs.NextLemmas.{FirstMet}
use Rattle.declared_twice.proofs.clash.first_met.Given as goal

abbrev pub invariant-loop-first : goal.invariant-loop-first
invariant-loop-first l = FirstMet (lent l.declared) l.marks l.first l.place

abbrev pub decreases-loop-first : goal.decreases-loop-first
decreases-loop-first l = length (lent l.declared) - l.place
