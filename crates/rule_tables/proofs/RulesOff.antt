-- A rule is off in the settings of a document exactly where the document switches it off.
use Rattle.std.proofs.Common.{◌≡◌, ◌==◌, Bool, true, false, not, cond, ◌&&◌, ◌||◌, List, [], ◌∷◌, filter, refl, ap, ◌∙◌}
use Rattle.std.specs.List.{list_any}
use Rattle.toml.specs.Data.{Members}
use Rattle.rule_tables.specs.declared.rule.RuleId.{RuleId}
use Rattle.rule_tables.specs.declared.rule.RuleId.TheVariants.{
  NestedTernary,
  DotPrecedence,
  BraceOffset,
  RealCast,
  UnsetCast,
  HashComment,
  SplitName,
  DollarBrace,
  ReservedName,
  LooseCompare,
  WordArithmetic,
  NextKey,
  OldConstructor,
  InheritedStatic,
  DynamicProperty,
  GetClass,
  StaticCall,
  BareConstant,
  RemovedCall,
  ImplodeOrder,
  SubstrFalse,
  StrposNeedle,
}
use Rattle.rule_tables.specs.Rules.{all_rules, number_of}
use Rattle.rule_tables.specs.SettingsView.{has_rule, settings_of, switches_off}

-- one element that a test keeps or drops
kept : (q : RuleId → Bool) (r : RuleId) (b t : Bool) (rest : List RuleId) (any : Bool) → q r ≡ t → list_any q rest ≡ any → list_any q (cond b (r ∷ rest) rest) ≡ ((t && b) || any)
kept q r true true rest any e h = rw e refl
kept q r true false rest any e h = rw e h
kept q r false true rest any e h = h
kept q r false false rest any e h = h

-- a test of the elements that another one keeps
list_any-filter : (p q : RuleId → Bool) (rules : List RuleId) → list_any q (filter p rules) ≡ list_any (λ r. q r && p r) rules
list_any-filter p q [] = refl
list_any-filter p q (r ∷ rules) = kept q r (p r) (q r) (filter p rules) (list_any (λ s. q s && p s) rules) refl (list_any-filter p q rules)

or-false : (b : Bool) → (b || false) ≡ b
or-false true = refl
or-false false = refl

-- each rule stands once in the table
one-rule : (p : RuleId → Bool) (rule : RuleId) → list_any (λ r. (number_of r == number_of rule) && p r) all_rules ≡ p rule
one-rule p NestedTernary = or-false (p NestedTernary)
one-rule p DotPrecedence = or-false (p DotPrecedence)
one-rule p BraceOffset = or-false (p BraceOffset)
one-rule p RealCast = or-false (p RealCast)
one-rule p UnsetCast = or-false (p UnsetCast)
one-rule p HashComment = or-false (p HashComment)
one-rule p SplitName = or-false (p SplitName)
one-rule p DollarBrace = or-false (p DollarBrace)
one-rule p ReservedName = or-false (p ReservedName)
one-rule p LooseCompare = or-false (p LooseCompare)
one-rule p WordArithmetic = or-false (p WordArithmetic)
one-rule p NextKey = or-false (p NextKey)
one-rule p OldConstructor = or-false (p OldConstructor)
one-rule p InheritedStatic = or-false (p InheritedStatic)
one-rule p DynamicProperty = or-false (p DynamicProperty)
one-rule p GetClass = or-false (p GetClass)
one-rule p StaticCall = or-false (p StaticCall)
one-rule p BareConstant = or-false (p BareConstant)
one-rule p RemovedCall = or-false (p RemovedCall)
one-rule p ImplodeOrder = or-false (p ImplodeOrder)
one-rule p SubstrFalse = or-false (p SubstrFalse)
one-rule p StrposNeedle = or-false (p StrposNeedle)

pub has_rule-settings : (document : Members) (rule : RuleId) → has_rule (settings_of document) rule ≡ not (switches_off document rule)
has_rule-settings document rule =
    ap not (list_any-filter (λ r. switches_off document r) (λ r. number_of r == number_of rule) all_rules ∙ one-rule (λ r. switches_off document r) rule)
