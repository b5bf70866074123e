use Rattle.written_tokens.proofs.tokens.Drafted.{names_in_order}
use Rattle.written_tokens.proofs.token_laws.names_in_order.Goals as goal

pub returns : goal.returns
returns c = names_in_order
