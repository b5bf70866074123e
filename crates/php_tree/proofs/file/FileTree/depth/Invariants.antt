use Rattle.std.proofs.Common.{◌≡◌, ◌≤◌, max, drop}
use Rattle.php_tree.specs.Tree.{count, depth, nodes_forest}
use Rattle.php_tree.proofs.file.FileTree.depth.Given as goal

abbrev pub invariant-loop-statement : goal.invariant-loop-statement
invariant-loop-statement l = record {
  deepest : max l.deepest (depth (nodes_forest (drop l.statement-index l.statement-items))) ≡ depth (nodes_forest l.fn.self.statements);
  few : count (nodes_forest (drop l.statement-index l.statement-items)) ≤ count (nodes_forest l.fn.self.statements);
}
