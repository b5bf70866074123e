use Rattle.std.proofs.Common.{◌≡◌, ◌+◌, drop, slice_get}
use Rattle.php_tree.specs.Tree.{count, forest_of}
use Rattle.php_tree.specs.Ids.{preorder}
use Rattle.php_tree.proofs.search.+found_inside.Given as goal

abbrev pub invariant-loop-part : goal.invariant-loop-part
invariant-loop-part l = record {
  same : slice_get (preorder (forest_of l.fn.node.parts)) l.fn.id ≡ slice_get (preorder (forest_of (drop l.part-index l.part-items))) l.left;
  past : l.fn.id + count (forest_of (drop l.part-index l.part-items)) ≡ count (forest_of l.fn.node.parts) + l.left;
}
