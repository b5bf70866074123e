use Rattle.php_relexing.proofs.Angles.{slashes_stay}
use Rattle.php_relexing.proofs.slashes_stay.Goals as goal

pub returns : goal.returns
returns c = slashes_stay
