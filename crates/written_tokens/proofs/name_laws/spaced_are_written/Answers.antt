use Rattle.written_tokens.proofs.names.LeadRows.{spaced_are_written}
use Rattle.written_tokens.proofs.name_laws.spaced_are_written.Goals as goal

pub returns : goal.returns
returns c = spaced_are_written
