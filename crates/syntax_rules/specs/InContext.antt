-- The draft of a file, where each node is changed by where it stands.
use Rattle.std.specs.Prelude.{ℕ, Bool, true, false, if◌then◌else◌, List, [], ◌∷◌, Option, Some, None}
use Rattle.php_tree.specs.declared.kind.NodeKind.{NodeKind}
use Rattle.php_tree.specs.Tree.{Forest, none, leaf, node, Tree}
use Rattle.tracked_changes.specs.patches.Patches.{Wrapping, InParens}
use Rattle.tracked_changes.specs.Draft.{Draft, no_more, new_leaf, ◌then◌}
use Rattle.tracked_changes.specs.Walk.{NewTree, new_alone}
use Rattle.tracked_changes.specs.Parens.{in_wrappings}
use Rattle.syntax_rules.specs.declared.rules.Rules.{Rules}
use Rattle.syntax_rules.specs.Around.{Around, within, kind_if_first}
use Rattle.syntax_rules.specs.NestedTernary.{nests}
use Rattle.syntax_rules.specs.Together.{every_rule, node_by, token_by}
use Rattle.syntax_rules.specs.Rewritten.{wrapping_by}

-- ---- by the rules that are on

-- the draft of parts: where they stand, and whether the next is the first of its node
abbrev pub parts_by : Rules → (Bool → Option Around) → Bool → Forest → Draft
parts_by r around is_first none = no_more
parts_by r around is_first (leaf t f) = new_leaf (token_by r t) (parts_by r around false f)
parts_by r around is_first (node k c f) =
    new_alone (in_wrappings (wrapping_by r (around is_first) (k, c)) (node_by r (k, c) (k, parts_by r (within k c) true c)))
    then parts_by r around false f

-- a node's own draft, without what is put round it
abbrev pub inside_by : Rules → Tree → NewTree
inside_by r t = node_by r t (t.0, parts_by r (within t.0 t.1) true t.1)

-- a node, where it stands
abbrev pub child_by : Rules → Option Around → Tree → Draft
child_by r a t = new_alone (in_wrappings (wrapping_by r a t) (inside_by r t))

-- ---- by all rules

-- a node once its parts are done, without what is put round it
abbrev pub changed_node : Tree → NewTree → NewTree
changed_node s t = node_by every_rule s t

abbrev pub draft_in : (Bool → Option Around) → Bool → Forest → Draft
draft_in around is_first f = parts_by every_rule around is_first f

-- ---- where a node stands

-- by the kind of the node around it, if any, its operator, and whether it stands first in it
abbrev pub around_of : Option NodeKind → List ℕ → Bool → Option Around
around_of None operator is_first = None
around_of (Some k) operator is_first = Some (record { kind = k; operator = operator; is_first = is_first })

-- whether a node there is a ternary that is the left part of another
abbrev pub nests_in : Option NodeKind → NodeKind → Bool
nests_in None k = false
nests_in (Some outer) k = nests outer k

abbrev pub is_nested : Option Around → NodeKind → Bool
is_nested a k = nests_in (kind_if_first a) k

-- parentheses, if they are wanted
abbrev pub parens_if : Bool → List Wrapping
parens_if b = if b then InParens ∷ [] else []
