use Rattle.tracked_changes.proofs.Unchanged.{unchanged_is_the_file}
use Rattle.tracked_changes.proofs.unchanged_is_the_file.Goals as goal

pub returns : goal.returns
returns c = unchanged_is_the_file
