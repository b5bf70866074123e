use Rattle.written_tokens.proofs.names.LeadsKept.{leads_of_files_stay}
use Rattle.written_tokens.proofs.name_laws.leads_of_files_stay.Goals as goal

pub returns : goal.returns
returns c = leads_of_files_stay
