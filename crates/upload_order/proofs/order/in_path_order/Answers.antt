use Rattle.std.proofs.Common.{subst}
use Rattle.upload_order.proofs.OrderLemmas.{no_order}
use Rattle.upload_order.specs.Paths.{Repeats}
use Rattle.upload_order.proofs.order.in_path_order.Goals as goal

pub returns-then-not-ascends : goal.returns-then-not-ascends
returns-then-not-ascends c =
    no_order c.args.files.items c.in_ok-sorted.sorted.items c.in_ok-sorted.ensures.same
    (subst Repeats c.as_slice-2.ensures.value c.if-not-ascends.ensures.twice)
