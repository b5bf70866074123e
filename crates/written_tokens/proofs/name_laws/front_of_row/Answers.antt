use Rattle.written_tokens.proofs.names.FrontRows.{front_of_row}
use Rattle.written_tokens.proofs.name_laws.front_of_row.Goals as goal

pub returns : goal.returns
returns c = front_of_row
