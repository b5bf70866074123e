-- Traits and uses of traits: the meanings have none, and between the braces of a use the grammar takes any tokens in balance,
-- where PHP takes rules of names alone. (PHP manual, "Traits".)
use Rattle.std.specs.Prelude.{ℕ, ◌+◌, Bool, true, false, ◌||◌, if◌then◌else◌, List, [], ◌∷◌, length, None}
use Rattle.php_tree.specs.declared.kind.NodeKind.{NodeKind}
use Rattle.php_tree.specs.declared.kind.NodeKind.TheVariants as kind
use Rattle.php_tree.specs.Tree.{Forest, none, leaf, node, Tree}
use Rattle.php_tree.specs.Places.{behind}
use Rattle.syntax_upgrade.specs.Found.{Report, outside, outside_parts}
use Rattle.syntax_upgrade.specs.NodeRule.{NodeRule}

-- its number among the forms outside the profile
abbrev pub number : ℕ
number = 110

abbrev pub is_trait : NodeKind → Bool
is_trait kind.Trait = true
is_trait _ = false

abbrev pub is_use : NodeKind → Bool
is_use kind.TraitUse = true
is_use _ = false

-- the name that a trait declares, behind its word
abbrev pub name_reports : ℕ → Forest → List Report
name_reports at none = []
name_reports at (node k c f) = []
name_reports at (leaf word none) = []
name_reports at (leaf word (node k c f)) = []
name_reports at (leaf word (leaf name f)) = outside number (behind at word + length name.lead) (behind (behind at word) name) ∷ []

-- The place of a trait is its name, that of a use of traits the whole use.
abbrev pub says : ℕ → Tree → List Report
says at n = if is_trait n.0 then name_reports at n.1 else outside_parts number at n.1

abbrev pub traits : NodeRule
traits = record { looks_at = λ k. is_trait k || is_use k; looks_for = None; says = says }
