use Rattle.std.proofs.Common.{◌≡◌, ◌+◌, drop}
use Rattle.php_tree.specs.Tree.{count, nodes_forest}
use Rattle.php_tree.proofs.file.FileTree.nodes.Given as goal

abbrev pub invariant-loop-statement : goal.invariant-loop-statement
invariant-loop-statement l = l.nodes + count (nodes_forest (drop l.statement-index l.statement-items)) ≡ count (nodes_forest l.fn.self.statements)
