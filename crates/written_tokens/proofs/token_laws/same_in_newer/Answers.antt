use Rattle.written_tokens.proofs.tokens.Uncut.{same_in_newer}
use Rattle.written_tokens.proofs.token_laws.same_in_newer.Goals as goal

pub returns : goal.returns
returns c = same_in_newer
