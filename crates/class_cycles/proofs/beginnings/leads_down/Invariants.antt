use Rattle.std.proofs.Common.{take}
use Rattle.class_cycles.specs.Begins.{NeverDown}
use Rattle.class_cycles.proofs.beginnings.leads_down.Given as goal

abbrev pub invariant-loop-from : goal.invariant-loop-from
invariant-loop-from l = NeverDown (take l.from-index l.pairs) l.levels
