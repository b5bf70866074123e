use Rattle.rewritten_shapes.proofs.Wholly.{rewritten_has_shape}
use Rattle.rewritten_shapes.proofs.shape.rewritten_has_shape.Goals as goal

pub returns : goal.returns
returns c = rewritten_has_shape
