-- Rules and forms that report nodes, by what they look at.
use Rattle.std.specs.Prelude.{ℕ, Bool, true, false, not, ◌&&◌, ◌||◌, if◌then◌else◌, List, [], ◌∷◌, ◌++◌, Option, Some, None}
use Rattle.php_tree.specs.declared.kind.NodeKind.{NodeKind}
use Rattle.php_tree.specs.declared.token.Token.{Token}
use Rattle.php_tree.specs.Tree.{Forest, none, leaf, node, Tree}
use Rattle.syntax_upgrade.specs.Found.{Report}

-- A rule or a form that reports nodes.
pub record NodeRule : Type 0 where
  -- the kinds of nodes that it looks at
  pub looks_at : NodeKind → Bool
  -- the tokens of which one stands in a node among its own parts, if it says nothing of nodes without
  pub looks_for : Option (Token → Bool)
  -- what it says of such a node, whose trivia begin at a place
  pub says : ℕ → Tree → List Report

abbrev pub needs_token : Option (Token → Bool) → Bool
needs_token None = false
needs_token (Some is_one) = true

-- whether a token is one that is looked for
abbrev pub is_sought : Option (Token → Bool) → Token → Bool
is_sought None x = false
is_sought (Some is_one) x = is_one x

-- whether one of some parts is a token that is looked for
abbrev pub has_sought : Option (Token → Bool) → Forest → Bool
has_sought sought none = false
has_sought sought (leaf x f) = is_sought sought x || has_sought sought f
has_sought sought (node k c f) = has_sought sought f

-- whether a node is one that a rule looks at
abbrev pub is_looked_at : NodeRule → Tree → Bool
is_looked_at rule n = rule.looks_at n.0 && (not (needs_token rule.looks_for) || has_sought rule.looks_for n.1)

-- what a rule reports of a node
abbrev pub reports_of : NodeRule → ℕ → Tree → List Report
reports_of rule at n = if is_looked_at rule n then rule.says at n else []

-- what some rules report of a node, one after another
abbrev pub all_of : List NodeRule → ℕ → Tree → List Report
all_of [] at n = []
all_of (rule ∷ rules) at n = reports_of rule at n ++ all_of rules at n

-- whether one of some rules looks at nodes of a kind, whatever stands in them
abbrev pub is_reported_kind : List NodeRule → NodeKind → Bool
is_reported_kind [] k = false
is_reported_kind (rule ∷ rules) k = not (needs_token rule.looks_for) && rule.looks_at k || is_reported_kind rules k

-- whether one of some rules looks for a token
abbrev pub is_reported_token : List NodeRule → Token → Bool
is_reported_token [] x = false
is_reported_token (rule ∷ rules) x = is_sought rule.looks_for x || is_reported_token rules x
