use Rattle.php_relexing.proofs.Angles.{angles_stay}
use Rattle.php_relexing.proofs.angles_stay.Goals as goal

pub returns : goal.returns
returns c = angles_stay
