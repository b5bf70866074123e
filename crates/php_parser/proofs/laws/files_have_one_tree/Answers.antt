use Rattle.php_parser.proofs.Files.{one_tree}
use Rattle.php_parser.proofs.laws.files_have_one_tree.Goals as goal

pub returns : goal.returns
returns c = one_tree
