use Rattle.written_tokens.proofs.tokens.Placing.{rewritten_has_tokens}
use Rattle.written_tokens.proofs.token_laws.rewritten_has_tokens.Goals as goal

pub returns : goal.returns
returns c = rewritten_has_tokens
