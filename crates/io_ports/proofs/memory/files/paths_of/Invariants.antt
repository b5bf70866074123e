use Rattle.std.proofs.Common.{◌≡◌, ◌++◌, map, drop}
use Rattle.io_ports.proofs.memory.files.paths_of.Given as goal

abbrev pub invariant-loop-file : goal.invariant-loop-file
invariant-loop-file l = l.paths.items ++ map (λ f. f.0) (drop l.file-index l.files) ≡ map (λ f. f.0) l.files
