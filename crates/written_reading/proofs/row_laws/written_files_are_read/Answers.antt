use Rattle.written_reading.proofs.edited.Composed.{written_files_are_read}
use Rattle.written_reading.proofs.row_laws.written_files_are_read.Goals as goal

pub returns : goal.returns
returns c = written_files_are_read c.written_files_are_lexed.ensures c.rewritten_is_read.ensures
