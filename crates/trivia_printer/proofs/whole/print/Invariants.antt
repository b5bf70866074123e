use Rattle.std.proofs.Common.{◌≡◌, ◌++◌, drop}
use Rattle.php_tree.specs.Tree.{nodes_forest, printed}
use Rattle.php_tree.specs.Whole.{file}
use Rattle.trivia_printer.proofs.whole.print.Given as goal

abbrev pub invariant-loop-statement : goal.invariant-loop-statement
invariant-loop-statement l = l.out.items ++ printed (nodes_forest (drop l.statement-index l.statement-items)) ≡ printed (file l.tree).statements
