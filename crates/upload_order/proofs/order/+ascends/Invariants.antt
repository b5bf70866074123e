use Rattle.std.proofs.Common.{length}
use Rattle.upload_order.proofs.order.+ascends.Given as goal

abbrev pub decreases-ascends : goal.decreases-ascends
decreases-ascends l = length l.files.now
