-- The table of rules: this project's own names and numbers.
use Rattle.std.specs.Prelude.{ℕ, List, [], ◌∷◌, codes, Option, find}
use Rattle.std.specs.Str.{bytes_eq}
use Rattle.io_ports.specs.declared.report.Weight.{Weight}
use Rattle.io_ports.specs.declared.report.Weight.TheVariants.{Note, Stop, Compile}
use Rattle.rule_tables.specs.declared.rule.RuleId.{RuleId}
use Rattle.rule_tables.specs.declared.rule.RuleId.TheVariants.{
  NestedTernary,
  DotPrecedence,
  BraceOffset,
  RealCast,
  UnsetCast,
  HashComment,
  SplitName,
  DollarBrace,
  ReservedName,
  LooseCompare,
  WordArithmetic,
  NextKey,
  OldConstructor,
  InheritedStatic,
  DynamicProperty,
  GetClass,
  StaticCall,
  BareConstant,
  RemovedCall,
  ImplodeOrder,
  SubstrFalse,
  StrposNeedle,
}

-- a rule's name, its number, and the weight of its reports of places that it would edit and of undecided ones
pub record Row : Type 0 where
  pub name : List ℕ
  pub number : ℕ
  pub weight : Weight
  pub undecided : Weight

-- the row of a rule
abbrev pub row_of : RuleId → Row
row_of NestedTernary = record { name = codes "nested-ternary"; number = 1; weight = Compile; undecided = Compile }
row_of DotPrecedence = record { name = codes "dot-precedence"; number = 2; weight = Stop; undecided = Stop }
row_of BraceOffset = record { name = codes "brace-offset"; number = 3; weight = Compile; undecided = Compile }
row_of RealCast = record { name = codes "real-cast"; number = 4; weight = Compile; undecided = Compile }
row_of UnsetCast = record { name = codes "unset-cast"; number = 5; weight = Compile; undecided = Compile }
row_of HashComment = record { name = codes "hash-comment"; number = 6; weight = Compile; undecided = Compile }
row_of SplitName = record { name = codes "split-name"; number = 7; weight = Compile; undecided = Compile }
row_of DollarBrace = record { name = codes "dollar-brace"; number = 8; weight = Note; undecided = Note }
row_of ReservedName = record { name = codes "reserved-name"; number = 9; weight = Compile; undecided = Compile }
row_of LooseCompare = record { name = codes "loose-compare"; number = 10; weight = Stop; undecided = Stop }
row_of WordArithmetic = record { name = codes "word-arithmetic"; number = 11; weight = Stop; undecided = Stop }
row_of NextKey = record { name = codes "next-key"; number = 12; weight = Stop; undecided = Stop }
row_of OldConstructor = record { name = codes "old-constructor"; number = 13; weight = Compile; undecided = Compile }
row_of InheritedStatic = record { name = codes "inherited-static"; number = 14; weight = Stop; undecided = Stop }
row_of DynamicProperty = record { name = codes "dynamic-property"; number = 15; weight = Note; undecided = Note }
row_of GetClass = record { name = codes "get-class"; number = 16; weight = Note; undecided = Stop }
row_of StaticCall = record { name = codes "static-call"; number = 17; weight = Stop; undecided = Stop }
row_of BareConstant = record { name = codes "bare-constant"; number = 18; weight = Stop; undecided = Stop }
row_of RemovedCall = record { name = codes "removed-call"; number = 19; weight = Stop; undecided = Stop }
row_of ImplodeOrder = record { name = codes "implode-order"; number = 20; weight = Stop; undecided = Stop }
row_of SubstrFalse = record { name = codes "substr-false"; number = 21; weight = Stop; undecided = Stop }
row_of StrposNeedle = record { name = codes "strpos-needle"; number = 22; weight = Stop; undecided = Stop }

-- a rule's name, as settings and reports write it
abbrev pub name_of : RuleId → List ℕ
name_of rule = (row_of rule).name

-- a rule's number
abbrev pub number_of : RuleId → ℕ
number_of rule = (row_of rule).number

-- the weight of a rule's reports of places that it would edit
abbrev pub weight_of : RuleId → Weight
weight_of rule = (row_of rule).weight

-- the weight of its reports of undecided places
abbrev pub undecided_weight_of : RuleId → Weight
undecided_weight_of rule = (row_of rule).undecided

-- the rules, in the order of their numbers
abbrev pub all_rules : List RuleId
all_rules =
    NestedTernary ∷ DotPrecedence ∷ BraceOffset ∷ RealCast ∷ UnsetCast ∷ HashComment ∷ SplitName ∷ DollarBrace
    ∷ ReservedName ∷ LooseCompare ∷ WordArithmetic ∷ NextKey ∷ OldConstructor ∷ InheritedStatic ∷ DynamicProperty
    ∷ GetClass ∷ StaticCall ∷ BareConstant ∷ RemovedCall ∷ ImplodeOrder ∷ SubstrFalse ∷ StrposNeedle ∷ []

-- the rule of a name
abbrev pub rule_named : List ℕ → Option RuleId
rule_named name = find (λ rule. bytes_eq (name_of rule) name) all_rules
