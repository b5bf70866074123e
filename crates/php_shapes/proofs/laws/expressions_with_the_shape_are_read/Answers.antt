use Rattle.php_shapes.proofs.ReadLaws.{expression_is_read}
use Rattle.php_shapes.proofs.laws.expressions_with_the_shape_are_read.Goals as goal

pub returns : goal.returns
returns c = expression_is_read
