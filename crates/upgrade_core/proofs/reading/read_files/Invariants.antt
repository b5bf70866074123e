use Rattle.std.proofs.Common.{map, take}
use Rattle.upgrade_core.specs.Files.{file_of}
use Rattle.upgrade_core.specs.Rows.{AreRows}
use Rattle.upgrade_core.proofs.reading.read_files.Given as goal

abbrev pub invariant-loop-file : goal.invariant-loop-file
invariant-loop-file l = AreRows (map file_of (take l.file-index l.files)) l.rows.items
