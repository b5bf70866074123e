use Rattle.std.proofs.Common.{◌≡◌}
use Rattle.rule_tables.specs.KeyTable.{rule_fault}
use Rattle.rule_tables.proofs.FirstRefused.{first}
use Rattle.rule_tables.proofs.checks.check_rules.Given as goal

abbrev pub invariant-loop-name : goal.invariant-loop-name
invariant-loop-name l = first rule_fault l.name-iterator ≡ first rule_fault l.rules.entries
