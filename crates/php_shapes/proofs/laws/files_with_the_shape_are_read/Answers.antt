use Rattle.php_shapes.proofs.ReadLaws.{file_is_read}
use Rattle.php_shapes.proofs.laws.files_with_the_shape_are_read.Goals as goal

pub returns : goal.returns
returns c = file_is_read
