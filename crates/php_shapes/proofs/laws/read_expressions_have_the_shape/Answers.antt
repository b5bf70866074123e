use Rattle.php_shapes.proofs.Walked.{expression_has_shape}
use Rattle.php_shapes.proofs.laws.read_expressions_have_the_shape.Goals as goal

pub returns : goal.returns
returns c = expression_has_shape
