use Rattle.tracked_changes.proofs.Wrapping.{wrapping_is_rewritten}
use Rattle.tracked_changes.proofs.wrapping_is_rewritten.Goals as goal

pub returns : goal.returns
returns c = wrapping_is_rewritten
