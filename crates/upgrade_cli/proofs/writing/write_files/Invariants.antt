use Rattle.std.proofs.Common.{◌≡◌, map}
use Rattle.upgrade_core.specs.Files.{file_of}
use Rattle.upgrade_cli.proofs.WritingLemmas.{Wrote}
use Rattle.upgrade_cli.proofs.writing.write_files.Given as goal

abbrev pub invariant-loop-file : goal.invariant-loop-file
invariant-loop-file g l =
    Wrote (g.D.TargetTree.files l.initial.target) (map file_of l.files) l.file-index (g.D.TargetTree.files l.target)
    × (g.D.TargetTree.faults l.target ≡ g.D.TargetTree.faults l.initial.target)
