use Rattle.std.proofs.Common.{take}
use Rattle.class_cycles.specs.Back.{IsTurned}
use Rattle.class_cycles.proofs.back.turned.Given as goal

abbrev pub invariant-loop-from : goal.invariant-loop-from
invariant-loop-from l = IsTurned (take l.from-index l.pairs) l.taken l.back.items
