use Rattle.written_tokens.proofs.names.LeadRows.{spaced_are_trivia}
use Rattle.written_tokens.proofs.name_laws.spaced_are_trivia.Goals as goal

pub returns : goal.returns
returns c = spaced_are_trivia
