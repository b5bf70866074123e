use Rattle.tracked_changes.proofs.WrappingEdits.{wrapping_has_edits}
use Rattle.tracked_changes.proofs.wrapping_has_edits.Goals as goal

pub returns : goal.returns
returns c = wrapping_has_edits
