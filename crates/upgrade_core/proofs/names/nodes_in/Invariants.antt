use Rattle.std.proofs.Common.{◌≡◌, ◌+◌, drop}
use Rattle.program_names.specs.Files as files
use Rattle.upgrade_core.proofs.names.nodes_in.Given as goal

abbrev pub invariant-loop-row : goal.invariant-loop-row
invariant-loop-row l = l.count + files.nodes_in (drop l.row-index l.rows) ≡ files.nodes_in l.rows
