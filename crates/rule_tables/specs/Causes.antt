-- The eight causes: this project's own names and numbers.
use Rattle.std.specs.Prelude.{ℕ, List, codes}
use Rattle.rule_tables.specs.declared.cause.Cause.{Cause}
use Rattle.rule_tables.specs.declared.cause.Cause.TheVariants.{Off, Types, Order, Called, Dynamic, Shape, Namespace, Always}

-- a cause's number, as reports hold it
abbrev pub cause_number : Cause → ℕ
cause_number Off = 1
cause_number Types = 2
cause_number Order = 3
cause_number Called = 4
cause_number Dynamic = 5
cause_number Shape = 6
cause_number Namespace = 7
cause_number Always = 8

-- a cause's name, as reports write it
abbrev pub cause_text : Cause → List ℕ
cause_text Off = codes "off"
cause_text Types = codes "types"
cause_text Order = codes "order"
cause_text Called = codes "called"
cause_text Dynamic = codes "dynamic"
cause_text Shape = codes "shape"
cause_text Namespace = codes "namespace"
cause_text Always = codes "always"
