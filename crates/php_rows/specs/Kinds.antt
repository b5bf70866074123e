-- The kinds of nodes.
use Rattle.std.specs.Prelude.{List, [], ◌∷◌, ◌++◌}
use Rattle.php_tree.specs.declared.kind.NodeKind.{NodeKind}
use Rattle.php_tree.specs.Tree.{Forest, none, leaf, node}
use Rattle.php_rows.specs.declared.flat.Flat.{Flat}

abbrev pub kind_of : Flat → NodeKind
kind_of x = x.kind

-- the kinds of the nodes of a forest, each before those inside it
abbrev pub kinds : Forest → List NodeKind
kinds none = []
kinds (leaf t f) = kinds f
kinds (node k c f) = k ∷ kinds c ++ kinds f
