use Rattle.php_relexing.proofs.YieldFrom.{yield_from_stays}
use Rattle.php_relexing.proofs.yield_from_stays.Goals as goal

pub returns : goal.returns
returns c = yield_from_stays
