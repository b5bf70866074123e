use Rattle.written_tokens.proofs.names.FrontRows.{fronts_are_spelled}
use Rattle.written_tokens.proofs.name_laws.fronts_are_spelled.Goals as goal

pub returns : goal.returns
returns c = fronts_are_spelled
