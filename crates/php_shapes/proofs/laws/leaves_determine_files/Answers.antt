use Rattle.php_shapes.proofs.ReadLaws.{one_file}
use Rattle.php_shapes.proofs.laws.leaves_determine_files.Goals as goal

pub returns : goal.returns
returns c = one_file
