use Rattle.std.proofs.Common.{◌≡◌, ◌++◌}
use Rattle.file_declarations.specs.Told.{declared_told}
use Rattle.file_declarations.proofs.telling.add_declared.Given as goal

abbrev pub invariant-loop-name : goal.invariant-loop-name
invariant-loop-name l =
    l.told.items ≡ l.fn.told.items ++ declared_told l.at l.is_top l.yielded
