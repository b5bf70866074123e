use Rattle.std.proofs.Common.{◌≡◌, drop, slice_get}
use Rattle.php_tree.specs.Tree.{nodes_forest}
use Rattle.php_tree.specs.Ids.{preorder}
use Rattle.php_tree.proofs.file.FileTree.node.Given as goal

abbrev pub invariant-loop-statement : goal.invariant-loop-statement
invariant-loop-statement l =
    slice_get (preorder (nodes_forest l.fn.self.statements)) l.fn.id ≡ slice_get (preorder (nodes_forest (drop l.statement-index l.statement-items))) l.left
