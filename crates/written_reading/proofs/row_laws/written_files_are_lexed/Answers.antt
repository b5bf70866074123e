use Rattle.written_reading.proofs.edited.Composed.{written_files_are_lexed}
use Rattle.written_reading.proofs.row_laws.written_files_are_lexed.Goals as goal

pub returns : goal.returns
returns c = written_files_are_lexed c.files_have_rows.ensures c.rows_are_lexed.ensures
