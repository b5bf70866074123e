use Rattle.std.proofs.Common.{◌≡◌, drop}
use Rattle.syntax_upgrade.specs.CalmRuns.{runs}
use Rattle.syntax_upgrade.proofs.calm.run.Given as goal

abbrev pub invariant-loop-mark : goal.invariant-loop-mark
invariant-loop-mark l = runs l.bytes l.last (drop l.mark-index l.marks) ≡ runs l.bytes l.fn.from l.marks
