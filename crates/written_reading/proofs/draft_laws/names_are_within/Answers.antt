use Rattle.written_reading.proofs.drafts.Stays.{names_are_within}
use Rattle.written_reading.proofs.draft_laws.names_are_within.Goals as goal

pub returns : goal.returns
returns c = names_are_within
