use Rattle.written_tokens.proofs.names.LeadsBecome.{trivia_become}
use Rattle.written_tokens.proofs.name_laws.trivia_become.Goals as goal

pub returns : goal.returns
returns c = trivia_become
