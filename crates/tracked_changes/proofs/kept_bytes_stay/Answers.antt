use Rattle.tracked_changes.proofs.Replaced.{kept_bytes_stay}
use Rattle.tracked_changes.proofs.kept_bytes_stay.Goals as goal

pub returns : goal.returns
returns c = kept_bytes_stay
