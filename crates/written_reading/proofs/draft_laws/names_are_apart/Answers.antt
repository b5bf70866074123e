use Rattle.written_reading.proofs.drafts.Apart.{names_are_apart}
use Rattle.written_reading.proofs.draft_laws.names_are_apart.Goals as goal

pub returns : goal.returns
returns c = names_are_apart
