use Rattle.written_tokens.proofs.tokens.Parts.{parts_are_written}
use Rattle.written_tokens.proofs.token_laws.parts_are_written.Goals as goal

pub returns : goal.returns
returns c = parts_are_written
