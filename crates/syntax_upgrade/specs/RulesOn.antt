-- The rules on syntax that settings leave on.
use Rattle.rule_tables.specs.declared.rule.RuleId.TheVariants as rule
use Rattle.rule_tables.specs.SettingsView.{SettingsView, has_rule}
use Rattle.syntax_rules.specs.declared.rules.Rules.{Rules}

abbrev pub rules_in : SettingsView → Rules
rules_in s = record {
  nested_ternaries = has_rule s rule.NestedTernary;
  dot_operands = has_rule s rule.DotPrecedence;
  brace_offsets = has_rule s rule.BraceOffset;
  real_casts = has_rule s rule.RealCast;
  unset_casts = has_rule s rule.UnsetCast;
  hash_comments = has_rule s rule.HashComment;
  split_names = has_rule s rule.SplitName;
  dollar_braces = has_rule s rule.DollarBrace;
}
