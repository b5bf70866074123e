use Rattle.std.proofs.Common.{◌≡◌, take}
use Rattle.declared_twice.specs.Keys.{declared_in, lent}
use Rattle.declared_twice.proofs.declaring.declared.Given as goal

abbrev pub invariant-loop-one : goal.invariant-loop-one
invariant-loop-one l = lent l.all.items ≡ declared_in (take l.one-index l.told)
