use Rattle.std.proofs.Common.{◌≡◌, drop, take}
use Rattle.program_names.specs.Entries.{AreFiles, first_absent, paths_of}
use Rattle.declared_twice.proofs.asking.files_at.Given as goal

abbrev pub invariant-loop-path : goal.invariant-loop-path
invariant-loop-path l = record {
  files : AreFiles (paths_of l.program.files.items) (take l.path-index l.paths) l.files.items;
  absent : first_absent (paths_of l.program.files.items) (drop l.path-index l.paths) ≡ first_absent (paths_of l.program.files.items) l.paths;
}
