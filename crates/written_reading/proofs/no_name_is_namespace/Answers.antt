use Rattle.written_reading.proofs.Behind.{no_name_is_namespace}
use Rattle.written_reading.proofs.no_name_is_namespace.Goals as goal

pub returns : goal.returns
returns c = no_name_is_namespace
