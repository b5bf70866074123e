use Rattle.std.proofs.Common.{◌≡◌, ◌++◌, drop}
use Rattle.upgrade_cli.specs.Lines.{spaced}
use Rattle.upgrade_cli.proofs.line.push_names.Given as goal

abbrev pub invariant-loop-name : goal.invariant-loop-name
invariant-loop-name l = l.line.items ++ spaced (drop l.name-index l.names) ≡ l.initial.line.items ++ spaced l.names
