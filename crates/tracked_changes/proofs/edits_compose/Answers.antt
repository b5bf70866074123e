use Rattle.tracked_changes.proofs.Joining.{edits_compose}
use Rattle.tracked_changes.proofs.edits_compose.Goals as goal

pub returns : goal.returns
returns c = edits_compose
