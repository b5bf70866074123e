use Rattle.written_reading.proofs.edited.Plainly.{files_with_neither_are_plain}
use Rattle.written_reading.proofs.row_laws.files_with_neither_are_plain.Goals as goal

pub returns : goal.returns
returns c = files_with_neither_are_plain
