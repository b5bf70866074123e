use Rattle.php_shapes.proofs.ReadLaws.{one_expression}
use Rattle.php_shapes.proofs.laws.leaves_determine_expressions.Goals as goal

pub returns : goal.returns
returns c = one_expression
