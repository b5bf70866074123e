use Rattle.std.proofs.Common.{◌≡◌, ℕ, ◌++◌, ◌∷◌, [], drop, slice_get}
use Rattle.php_tree.specs.Tree.{nodes_forest, leaves}
use Rattle.php_tree.specs.Places.{ArePlaced}
use Rattle.php_tree.specs.Ids.{places}
use Rattle.php_tree.proofs.place.place_among.Given as goal

abbrev pub invariant-loop-node : goal.invariant-loop-node
invariant-loop-node l = record {
  behind : l.behind ≡ drop l.node-index l.nodes;
  same : slice_get (places (nodes_forest l.nodes) l.next) l.fn.id ≡ slice_get (places (nodes_forest (drop l.node-index l.nodes)) l.next) l.left;
  placed : (at : ℕ) × ArePlaced at (leaves (nodes_forest (drop l.node-index l.nodes)) ++ l.next ∷ []);
}
