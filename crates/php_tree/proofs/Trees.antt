-- A node and its parts, one level down.
use Rattle.std.proofs.Common.{◌≡◌, ℕ, ◌+◌, ◌<◌, ◌≤◌, List, length, get_or, drop, rules, arith}
use Rattle.std.proofs.lemmas.List.{drop_more}
use Rattle.php_tree.specs.declared.token.Token.{Token}
use Rattle.php_tree.specs.declared.node.Node.{Node}
use Rattle.php_tree.specs.declared.node.Part.{Part, Leaf, Child, the_lemmas}
use Rattle.php_tree.specs.Tree.{Forest, none, leaf, node, part_before, tree, forest_of, nodes_forest, count, depth}

pub tree-fields : (n : Node) → tree n ≡ (n.kind, forest_of n.parts)
tree-fields n = search (rules, the_lemmas)

pub part_before-Leaf : (t : Token) (f : Forest) → part_before (Leaf t) f ≡ leaf t f
part_before-Leaf t f = search (rules, the_lemmas)

pub part_before-Child : (n : Node) (f : Forest) → part_before (Child n) f ≡ node n.kind (forest_of n.parts) f
part_before-Child n f = search (rules, the_lemmas)

-- the parts from an index on: the part there, and then the others
pub forest_of-drop : (ps : List Part) (i : ℕ) (d : Part) → i < length ps → forest_of (drop i ps) ≡ part_before (get_or ps i d) (forest_of (drop (i + 1) ps))
forest_of-drop ps i d h = rw (drop_more ps i d h)

pub forest_of-Leaf : (ps : List Part) (i : ℕ) (d : Part) (t : Token) → i < length ps → get_or ps i d ≡ Leaf t → forest_of (drop i ps) ≡ leaf t (forest_of (drop (i + 1) ps))
forest_of-Leaf ps i d t h e = rw (drop_more ps i d h, e, part_before-Leaf t)

pub forest_of-Child : (ps : List Part) (i : ℕ) (d : Part) (n : Node) → i < length ps → get_or ps i d ≡ Child n
    → forest_of (drop i ps) ≡ node n.kind (forest_of n.parts) (forest_of (drop (i + 1) ps))
forest_of-Child ps i d n h e = rw (drop_more ps i d h, e, part_before-Child n)

-- the nodes from an index on
pub nodes_forest-drop : (ns : List Node) (i : ℕ) (d n : Node) → i < length ns → get_or ns i d ≡ n
    → nodes_forest (drop i ns) ≡ node n.kind (forest_of n.parts) (nodes_forest (drop (i + 1) ns))
nodes_forest-drop ns i d n h e = rw (drop_more ns i d h, e, tree-fields n)

-- no more depth than nodes
pub depth_below : (f : Forest) → depth f ≤ count f
depth_below none = omega arith
depth_below (leaf t f) = depth_below f
depth_below (node k c f) = let a : depth c ≤ count c = depth_below c in let b : depth f ≤ count f = depth_below f in omega arith
