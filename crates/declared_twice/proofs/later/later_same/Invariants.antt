use Rattle.std.specs.BTreeMap.{get}
use Rattle.declared_twice.proofs.LaterLemmas.{SoFar}
use Rattle.declared_twice.proofs.later.later_same.Given as goal

abbrev pub invariant-loop-place : goal.invariant-loop-place
invariant-loop-place g l = SoFar g.K.Ord.cmp l.keys l.place (λ k. get g.K.Ord.cmp l.first k) l.later.items
