use Rattle.tracked_changes.proofs.Splicing.{each_comes_next}
use Rattle.tracked_changes.proofs.each_comes_next.Goals as goal

pub returns : goal.returns
returns c = each_comes_next
