use Rattle.std.proofs.Common.{◌≡◌}
use Rattle.rule_tables.specs.KeyTable.{key_fault}
use Rattle.rule_tables.proofs.FirstRefused.{first}
use Rattle.rule_tables.proofs.checks.check_keys.Given as goal

abbrev pub invariant-loop-key : goal.invariant-loop-key
invariant-loop-key l = first key_fault l.key-iterator ≡ first key_fault l.document.entries
