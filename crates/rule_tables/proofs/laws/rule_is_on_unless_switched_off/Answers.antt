use Rattle.rule_tables.proofs.RulesOff.{has_rule-settings}
use Rattle.rule_tables.proofs.laws.rule_is_on_unless_switched_off.Goals as goal

pub returns : goal.returns
returns c = has_rule-settings
