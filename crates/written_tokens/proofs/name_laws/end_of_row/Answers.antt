use Rattle.written_tokens.proofs.names.FrontRows.{end_of_row}
use Rattle.written_tokens.proofs.name_laws.end_of_row.Goals as goal

pub returns : goal.returns
returns c = end_of_row
