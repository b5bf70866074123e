use Rattle.written_reading.proofs.Sources.{sources_are_spelled}
use Rattle.written_reading.proofs.sources_are_spelled.Goals as goal

pub returns : goal.returns
returns c = sources_are_spelled
