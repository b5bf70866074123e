use Rattle.written_tokens.proofs.tokens.Written.{rows_are_written}
use Rattle.written_tokens.proofs.token_laws.rows_are_written.Goals as goal

pub returns : goal.returns
returns c = rows_are_written
