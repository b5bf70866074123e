use Rattle.std.proofs.Common.{◌≡◌, ◌++◌, drop}
use Rattle.php_tree.specs.Tree.{forest_of, printed}
use Rattle.trivia_printer.proofs.whole.+print_node.Given as goal

abbrev pub invariant-loop-part : goal.invariant-loop-part
invariant-loop-part l = l.out.items ++ printed (forest_of (drop l.part-index l.part-items)) ≡ l.fn.out.items ++ printed (forest_of l.node.parts)
