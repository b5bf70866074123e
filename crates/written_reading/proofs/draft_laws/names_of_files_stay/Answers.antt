use Rattle.written_reading.proofs.drafts.Stays.{names_of_files_stay}
use Rattle.written_reading.proofs.draft_laws.names_of_files_stay.Goals as goal

pub returns : goal.returns
returns c = names_of_files_stay
