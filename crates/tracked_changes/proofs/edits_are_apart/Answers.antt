use Rattle.tracked_changes.proofs.Splicing.{edits_are_apart}
use Rattle.tracked_changes.proofs.edits_are_apart.Goals as goal

pub returns : goal.returns
returns c = edits_are_apart
