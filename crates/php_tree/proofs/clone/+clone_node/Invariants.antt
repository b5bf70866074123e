use Rattle.std.proofs.Common.{◌≡◌, ◌++◌, drop}
use Rattle.php_tree.proofs.clone.+clone_node.Given as goal

abbrev pub invariant-loop-part : goal.invariant-loop-part
invariant-loop-part l = l.parts ++ drop l.part-index l.part-items ≡ l.fn.node.parts
