use Rattle.php_relexing.proofs.Closed.{casts_stay}
use Rattle.php_relexing.proofs.casts_stay.Goals as goal

pub returns : goal.returns
returns c = casts_stay
