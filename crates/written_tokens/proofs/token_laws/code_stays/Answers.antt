use Rattle.written_tokens.proofs.tokens.Stays.{code_stays}
use Rattle.written_tokens.proofs.token_laws.code_stays.Goals as goal

pub returns : goal.returns
returns c = code_stays
