use Rattle.std.proofs.Common.{◌≡◌, ◌++◌, drop}
use Rattle.file_declarations.specs.Told.{extends_told}
use Rattle.file_declarations.proofs.telling.add_extends.Given as goal

abbrev pub invariant-loop-name : goal.invariant-loop-name
invariant-loop-name l =
    l.told.items ++ extends_told (drop l.name-index l.names) l.parents ≡ l.fn.told.items ++ extends_told l.names l.parents
