use Rattle.std.proofs.Common.{◌≡◌, ◌++◌, drop}
use Rattle.program_names.specs.Table.{table_of}
use Rattle.program_names.specs.Told.{all_told, told_from}
use Rattle.program_names.proofs.telling.program_told.Given as goal

abbrev pub invariant-loop-number : goal.invariant-loop-number
invariant-loop-number l = l.told.items ++ told_from l.number (table_of (drop l.number l.program.files.items)) ≡ all_told (table_of l.program.files.items)
