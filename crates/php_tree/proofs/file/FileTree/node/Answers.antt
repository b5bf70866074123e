use Rattle.std.proofs.Common.{sym}
use Rattle.php_tree.specs.Tree.{nodes_forest}
use Rattle.php_tree.proofs.Trees.{nodes_forest-drop}
use Rattle.php_tree.proofs.Preorder.{found_in, passed_in}
use Rattle.php_tree.proofs.file.FileTree.node.Goals as goal

pub returns-in-Ok : goal.returns-in-Ok
returns-in-Ok c =
    let here = nodes_forest-drop c.as_slice-statement-items.result.now _ _ c.statement-item.result c.loop-statement-test.true (sym c.statement-item.is) in
    sym (found_in (nodes_forest c.args.self.now.statements) _ _ c.statement-item.result c.args.id _ _ here c.loop-statement.invariant c.if-left-eq0.false c.in-Ok.ensures)

pub loop-statement-preserved : goal.loop-statement-preserved
loop-statement-preserved c =
    let here = nodes_forest-drop c.as_slice-statement-items.result.now _ _ c.statement-item.result c.loop-statement-test.true (sym c.statement-item.is) in
    passed_in (nodes_forest c.args.self.now.statements) _ _ c.statement-item.result c.args.id _ c.in-Err.rest here c.loop-statement.invariant c.if-left-eq0.false c.in-Err.ensures
