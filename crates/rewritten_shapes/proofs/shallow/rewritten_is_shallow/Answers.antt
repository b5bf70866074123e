use Rattle.rewritten_shapes.proofs.Depths.{rewritten_is_shallow}
use Rattle.rewritten_shapes.proofs.shallow.rewritten_is_shallow.Goals as goal

pub returns : goal.returns
returns c = rewritten_is_shallow
