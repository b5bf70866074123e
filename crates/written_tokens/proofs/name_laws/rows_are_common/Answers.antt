use Rattle.written_tokens.proofs.names.CommonWhole.{rows_are_common}
use Rattle.written_tokens.proofs.name_laws.rows_are_common.Goals as goal

pub returns : goal.returns
returns c = rows_are_common
