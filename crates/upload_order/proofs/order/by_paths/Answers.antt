use Rattle.std.proofs.Common.{rules}
use Rattle.upload_order.proofs.OrderLemmas.{sorted_by}
use Rattle.upload_order.proofs.order.by_paths.Goals as goal

pub returns-clause-sorted : goal.returns-clause-sorted
returns-clause-sorted c = sorted_by c.sort_by.new.self.items c.in_ok-sort_by.ensures.sorted (λ a r q k. search rules)
