use Rattle.php_reading.proofs.Trees.{one_tree}
use Rattle.php_reading.proofs.laws.bytes_have_one_tree.Goals as goal

pub returns : goal.returns
returns c = one_tree
