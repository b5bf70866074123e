-- Rows of the tables of rules and of causes.
use Rattle.std.proofs.Common.{◌≡◌, codes, None, Some, refl}
use Rattle.io_ports.specs.declared.report.Weight.TheVariants.{Note, Stop}
use Rattle.rule_tables.specs.declared.cause.Cause.TheVariants.{Shape}
use Rattle.rule_tables.specs.declared.rule.RuleId.TheVariants.{LooseCompare, GetClass}
use Rattle.rule_tables.specs.Causes.{cause_number, cause_text}
use Rattle.rule_tables.specs.Rules.{number_of, rule_named, undecided_weight_of, weight_of}

named_loose_compare : rule_named (codes "loose-compare") ≡ Some LooseCompare
named_loose_compare = refl

named_nowhere : rule_named (codes "swap") ≡ None
named_nowhere = refl

number_of_loose_compare : number_of LooseCompare ≡ 10
number_of_loose_compare = refl

weight_of_loose_compare : weight_of LooseCompare ≡ Stop
weight_of_loose_compare = refl

-- an edited `get_class()` is told, and an undecided one leaves the claim
weight_of_get_class : weight_of GetClass ≡ Note
weight_of_get_class = refl

undecided_weight_of_get_class : undecided_weight_of GetClass ≡ Stop
undecided_weight_of_get_class = refl

number_of_shape : cause_number Shape ≡ 6
number_of_shape = refl

text_of_shape : cause_text Shape ≡ codes "shape"
text_of_shape = refl
