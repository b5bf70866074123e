use Rattle.written_tokens.proofs.tokens.Spelled.{tokens_in_newer}
use Rattle.written_tokens.proofs.token_laws.tokens_in_newer.Goals as goal

pub returns : goal.returns
returns c = tokens_in_newer
