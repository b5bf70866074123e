use Rattle.written_tokens.proofs.names.NamedKept.{named_keeps}
use Rattle.written_tokens.proofs.name_laws.named_keeps.Goals as goal

pub returns : goal.returns
returns c = named_keeps
