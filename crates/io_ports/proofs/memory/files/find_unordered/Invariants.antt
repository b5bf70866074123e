use Rattle.std.proofs.Common.{◌≡◌, drop}
use Rattle.io_ports.specs.Files.{content}
use Rattle.io_ports.proofs.memory.files.find_unordered.Given as goal

abbrev pub invariant-loop-file : goal.invariant-loop-file
invariant-loop-file l = content l.name (drop l.file-index l.files) ≡ content l.name l.files
