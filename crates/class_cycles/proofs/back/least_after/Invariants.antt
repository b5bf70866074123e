use Rattle.std.proofs.Common.{take}
use Rattle.class_cycles.specs.Back.{IsLeastAfter}
use Rattle.class_cycles.proofs.back.least_after.Given as goal

abbrev pub invariant-loop-from : goal.invariant-loop-from
invariant-loop-from l = IsLeastAfter (take l.from-index l.pairs) l.marks l.number l.found
