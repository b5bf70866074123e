use Rattle.std.proofs.Common.{length}
use Rattle.run_rows.proofs.order.+is_tree.Given as goal

abbrev pub decreases-is_tree : goal.decreases-is_tree
decreases-is_tree l = length l.files.now
