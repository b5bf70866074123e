use Rattle.php_reading.proofs.Trees.{is_printed}
use Rattle.php_reading.proofs.laws.a_tree_is_printed_as_its_bytes.Goals as goal

pub returns : goal.returns
returns c = is_printed
