use Rattle.written_tokens.proofs.names.RowKept.{none_come_in}
use Rattle.written_tokens.proofs.name_laws.none_come_in.Goals as goal

pub returns : goal.returns
returns c = none_come_in
