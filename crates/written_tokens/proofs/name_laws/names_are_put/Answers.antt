use Rattle.written_tokens.proofs.names.NamesPlaced.{names_are_put}
use Rattle.written_tokens.proofs.name_laws.names_are_put.Goals as goal

pub returns : goal.returns
returns c = names_are_put
