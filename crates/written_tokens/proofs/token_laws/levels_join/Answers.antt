use Rattle.written_tokens.proofs.tokens.Enclosed.{levels_join}
use Rattle.written_tokens.proofs.token_laws.levels_join.Goals as goal

pub returns : goal.returns
returns c = levels_join
