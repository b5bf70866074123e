use Rattle.written_reading.proofs.Whole.{shaped_is_read}
use Rattle.written_reading.proofs.shaped_is_read.Goals as goal

pub returns : goal.returns
returns c = shaped_is_read c.files_with_the_shape_are_read.ensures
