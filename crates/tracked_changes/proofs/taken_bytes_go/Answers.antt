use Rattle.tracked_changes.proofs.Replaced.{taken_bytes_go}
use Rattle.tracked_changes.proofs.taken_bytes_go.Goals as goal

pub returns : goal.returns
returns c = taken_bytes_go
