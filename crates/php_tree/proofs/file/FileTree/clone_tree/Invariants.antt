use Rattle.std.proofs.Common.{◌≡◌, ◌++◌, drop}
use Rattle.php_tree.proofs.file.FileTree.clone_tree.Given as goal

abbrev pub invariant-loop-statement : goal.invariant-loop-statement
invariant-loop-statement l = l.statements ++ drop l.statement-index l.statement-items ≡ l.fn.self.statements
