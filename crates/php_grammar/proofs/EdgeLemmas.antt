-- The edge of a node by that of its last part.
use Rattle.std.proofs.Common.{◌≡◌, ℕ, max, refl}
use Rattle.php_tree.specs.declared.version.Version.{Version}
use Rattle.php_tree.specs.Tree.{Forest, Tree, none, leaf, node, ◌+++◌, alone}
use Rattle.php_grammar.specs.Edges.{edge, edge_from}
use Rattle.php_grammar.specs.Levels.{level}

pub edge_append : (v : Version) (e : ℕ) (f g : Forest) → edge_from v e (f +++ g) ≡ edge_from v (edge_from v e f) g
edge_append v e none g = refl
edge_append v e (leaf t f) g = edge_append v 0 f g
edge_append v e (node k c f) g = edge_append v (max (level v (k, c)) (edge_from v 0 c)) f g

pub edge_alone : (v : Version) (x : Tree) (e : ℕ) → edge_from v e (alone x) ≡ edge v x
unfolding edge
edge_alone v x e = refl
