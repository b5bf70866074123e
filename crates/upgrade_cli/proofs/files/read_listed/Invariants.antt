use Rattle.std.proofs.Common.{◌≡◌, ◌≤◌, map}
use Rattle.upgrade_core.specs.Files.{file_of}
use Rattle.upgrade_cli.proofs.ReadyLemmas.{Goes}
use Rattle.upgrade_cli.proofs.files.read_listed.Given as goal

abbrev pub invariant-loop-path : goal.invariant-loop-path
invariant-loop-path g l =
    Goes (g.T.SourceTree.files l.initial.source) l.paths (map file_of l.files.items) l.sum l.path-index
    × (l.sum ≤ 4194304)
    × (g.T.SourceTree.files l.source ≡ g.T.SourceTree.files l.initial.source)
    × (g.T.SourceTree.stored l.source ≡ g.T.SourceTree.stored l.initial.source)
    × (g.T.SourceTree.faults l.source ≡ g.T.SourceTree.faults l.initial.source)
