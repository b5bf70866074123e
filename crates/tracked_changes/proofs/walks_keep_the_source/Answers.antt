use Rattle.tracked_changes.proofs.Walking.{walks_keep_the_source}
use Rattle.tracked_changes.proofs.walks_keep_the_source.Goals as goal

pub returns : goal.returns
returns c = walks_keep_the_source
