use Rattle.written_tokens.proofs.names.NamedRows.{named_steps}
use Rattle.written_tokens.proofs.name_laws.named_steps.Goals as goal

pub returns : goal.returns
returns c = named_steps
