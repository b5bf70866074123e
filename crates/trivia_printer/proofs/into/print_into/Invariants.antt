use Rattle.std.proofs.Common.{◌≡◌, ◌+◌, ◌++◌, length, drop}
use Rattle.php_tree.specs.Tree.{file_printed, nodes_forest, printed, token_bytes}
use Rattle.php_tree.specs.Whole.{file}
use Rattle.trivia_printer.specs.Written.{written}
use Rattle.trivia_printer.proofs.into.print_into.Given as goal

abbrev pub invariant-loop-statement : goal.invariant-loop-statement
invariant-loop-statement l = record {
  place : l.place + length (printed (nodes_forest (drop l.statement-index l.statement-items)) ++ token_bytes (file l.tree).end) ≡ length (file_printed (file l.tree));
  bytes : written l.out l.place (printed (nodes_forest (drop l.statement-index l.statement-items))
      ++ token_bytes (file l.tree).end) ≡ written l.fn.out 0 (file_printed (file l.tree));
  room : length l.out ≡ length l.fn.out;
}
