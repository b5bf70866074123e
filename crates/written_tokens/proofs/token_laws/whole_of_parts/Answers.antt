use Rattle.written_tokens.proofs.tokens.Parted.{whole_of_parts}
use Rattle.written_tokens.proofs.token_laws.whole_of_parts.Goals as goal

pub returns : goal.returns
returns c = whole_of_parts
