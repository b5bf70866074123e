-- The edges of expressions: the loosest operator that reaches to their end. In `1 + print 2` that is `print`.
use Rattle.std.specs.Prelude.{ℕ, max}
use Rattle.php_tree.specs.declared.version.Version.{Version}
use Rattle.php_tree.specs.Tree.{Forest, Tree, none, leaf, node}
use Rattle.php_grammar.specs.Levels.{level}

-- the edge of the last of some parts, where a token has none; this number where there are no parts
abbrev pub edge_from : Version → ℕ → Forest → ℕ
edge_from v e none = e
edge_from v e (leaf x f) = edge_from v 0 f
edge_from v e (node k c f) = edge_from v (max (level v (k, c)) (edge_from v 0 c)) f

-- the loosest level of a node and of the nodes at its end
unfoldable pub edge : Version → Tree → ℕ
edge v x = max (level v x) (edge_from v 0 x.1)
