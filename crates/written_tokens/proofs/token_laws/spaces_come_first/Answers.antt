use Rattle.written_tokens.proofs.tokens.Spaced.{spaces_come_first}
use Rattle.written_tokens.proofs.token_laws.spaces_come_first.Goals as goal

pub returns : goal.returns
returns c = spaces_come_first
