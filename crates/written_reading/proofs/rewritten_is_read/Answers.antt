use Rattle.written_reading.proofs.Whole.{rewritten_is_read}
use Rattle.written_reading.proofs.rewritten_is_read.Goals as goal

pub returns : goal.returns
returns c = rewritten_is_read c.shaped_is_read.ensures c.rewritten_has_shape.ensures
