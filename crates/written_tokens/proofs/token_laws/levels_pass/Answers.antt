use Rattle.written_tokens.proofs.tokens.Levels.{levels_pass}
use Rattle.written_tokens.proofs.token_laws.levels_pass.Goals as goal

pub returns : goal.returns
returns c = levels_pass
