use Rattle.std.proofs.Common.{◌≡◌, drop}
use Rattle.php_tree.specs.Tree.{nodes_forest, leaves}
use Rattle.php_tree.specs.Ids.{first_or}
use Rattle.php_tree.proofs.place.first_token_of.Given as goal

abbrev pub invariant-loop-node : goal.invariant-loop-node
invariant-loop-node l = first_or (leaves (nodes_forest l.nodes)) l.next ≡ first_or (leaves (nodes_forest (drop l.node-index l.nodes))) l.next
