use Rattle.std.proofs.Common.{◌≡◌, ◌+◌, drop}
use Rattle.program_names.specs.Files as files
use Rattle.upgrade_core.proofs.names.tokens_in.Given as goal

abbrev pub invariant-loop-row : goal.invariant-loop-row
invariant-loop-row l = l.count + files.tokens_in (drop l.row-index l.rows) ≡ files.tokens_in l.rows
