-- Tokens that stand directly behind nodes.
use Rattle.std.specs.Prelude.{Bool, false, ◌&&◌, ◌||◌}
use Rattle.php_tree.specs.declared.kind.NodeKind.{NodeKind}
use Rattle.php_tree.specs.declared.token.Token.{Token}
use Rattle.php_tree.specs.Tree.{Forest, none, leaf, node}

-- Whether a token of some sort stands directly behind a node of some kinds among parts, of which the first one may stand
-- behind one.
abbrev pub stands_behind : (NodeKind → Bool) → (Token → Bool) → Bool → Forest → Bool
stands_behind is_before is_one behind none = false
stands_behind is_before is_one behind (leaf t f) = (behind && is_one t) || stands_behind is_before is_one false f
stands_behind is_before is_one behind (node k c f) = stands_behind is_before is_one (is_before k) f
