use Rattle.std.proofs.Common.{◌≡◌, ℕ, ◌+◌, ◌++◌, ◌∷◌, [], drop, slice_get}
use Rattle.php_tree.specs.Tree.{count, forest_of, leaves}
use Rattle.php_tree.specs.Places.{ArePlaced}
use Rattle.php_tree.specs.Ids.{places}
use Rattle.php_tree.proofs.place.+place_inside.Given as goal

abbrev pub invariant-loop-part : goal.invariant-loop-part
invariant-loop-part l = record {
  behind : l.behind ≡ drop l.part-index l.part-items;
  same : slice_get (places (forest_of l.fn.node.parts) l.next) l.fn.id ≡ slice_get (places (forest_of (drop l.part-index l.part-items)) l.next) l.left;
  past : l.fn.id + count (forest_of (drop l.part-index l.part-items)) ≡ count (forest_of l.fn.node.parts) + l.left;
  placed : (at : ℕ) × ArePlaced at (leaves (forest_of (drop l.part-index l.part-items)) ++ l.next ∷ []);
}
