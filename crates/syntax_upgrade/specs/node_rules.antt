-- The rules and forms on syntax that report nodes, in order: one line each.
use Rattle.std.specs.Prelude.{List, [], ◌∷◌}
use Rattle.syntax_upgrade.specs.NodeRule.{NodeRule}
use Rattle.syntax_upgrade.specs.UnsetCast.{undecided_casts}
pub mod NullsafeText
pub mod Traits

abbrev pub node_rules : List NodeRule
node_rules =
    undecided_casts
    ∷ NullsafeText.nullsafe_texts
    ∷ Traits.traits
    ∷ []
