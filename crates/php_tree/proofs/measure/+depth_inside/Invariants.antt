use Rattle.std.proofs.Common.{◌≡◌, ◌≤◌, max, drop}
use Rattle.php_tree.specs.Tree.{count, depth, forest_of}
use Rattle.php_tree.proofs.measure.+depth_inside.Given as goal

abbrev pub invariant-loop-part : goal.invariant-loop-part
invariant-loop-part l = record {
  deepest : max l.deepest (depth (forest_of (drop l.part-index l.part-items))) ≡ depth (forest_of l.fn.node.parts);
  few : count (forest_of (drop l.part-index l.part-items)) ≤ count (forest_of l.fn.node.parts);
}
