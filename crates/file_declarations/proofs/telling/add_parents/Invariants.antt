use Rattle.std.proofs.Common.{◌≡◌, ◌++◌, drop}
use Rattle.file_declarations.specs.Told.{parents_told}
use Rattle.file_declarations.proofs.telling.add_parents.Given as goal

abbrev pub invariant-loop-parent : goal.invariant-loop-parent
invariant-loop-parent l =
    l.told.items ++ parents_told l.class (drop l.parent-index l.parents) ≡ l.fn.told.items ++ parents_told l.class l.parents
