use Rattle.std.proofs.Common.{◌≡◌, take, map}
use Rattle.declared_twice.specs.Runs.{turned}
use Rattle.declared_twice.proofs.running.turned.Given as goal

abbrev pub invariant-loop-p : goal.invariant-loop-p
invariant-loop-p l = l.all.items ≡ map turned (take l.p-index l.pairs)
