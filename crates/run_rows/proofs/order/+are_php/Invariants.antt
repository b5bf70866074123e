use Rattle.std.proofs.Common.{length}
use Rattle.run_rows.proofs.order.+are_php.Given as goal

abbrev pub decreases-are_php : goal.decreases-are_php
decreases-are_php l = length l.files.now
