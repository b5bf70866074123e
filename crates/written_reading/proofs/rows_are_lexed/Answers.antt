use Rattle.written_reading.proofs.Lexes.{rows_are_lexed}
use Rattle.written_reading.proofs.rows_are_lexed.Goals as goal

pub returns : goal.returns
returns c = rows_are_lexed
