use Rattle.tracked_changes.proofs.patches.Splicing.{spliced_is_rewritten}
use Rattle.tracked_changes.proofs.patch_laws.spliced_is_rewritten.Goals as goal

pub returns : goal.returns
returns c = spliced_is_rewritten
