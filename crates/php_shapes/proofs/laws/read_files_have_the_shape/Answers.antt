use Rattle.php_shapes.proofs.Walked.{file_has_shape}
use Rattle.php_shapes.proofs.laws.read_files_have_the_shape.Goals as goal

pub returns : goal.returns
returns c = file_has_shape
