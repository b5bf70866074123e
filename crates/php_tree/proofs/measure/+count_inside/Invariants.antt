use Rattle.std.proofs.Common.{◌≡◌, ◌+◌, drop}
use Rattle.php_tree.specs.Tree.{count, forest_of}
use Rattle.php_tree.proofs.measure.+count_inside.Given as goal

abbrev pub invariant-loop-part : goal.invariant-loop-part
invariant-loop-part l = l.nodes + count (forest_of (drop l.part-index l.part-items)) ≡ count (forest_of l.fn.node.parts)
