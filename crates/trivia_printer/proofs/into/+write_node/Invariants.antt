use Rattle.std.proofs.Common.{◌≡◌, ◌+◌, length, drop}
use Rattle.php_tree.specs.Tree.{forest_of, printed}
use Rattle.trivia_printer.specs.Written.{written}
use Rattle.trivia_printer.proofs.into.+write_node.Given as goal

abbrev pub invariant-loop-part : goal.invariant-loop-part
invariant-loop-part l = record {
  place : l.place + length (printed (forest_of (drop l.part-index l.part-items))) ≡ l.at + length (printed (forest_of l.node.parts));
  bytes : written l.out l.place (printed (forest_of (drop l.part-index l.part-items))) ≡ written l.fn.out l.at (printed (forest_of l.node.parts));
  room : length l.out ≡ length l.fn.out;
}
