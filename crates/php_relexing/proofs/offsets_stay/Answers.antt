use Rattle.php_relexing.proofs.Offsets.{offsets_stay}
use Rattle.php_relexing.proofs.offsets_stay.Goals as goal

pub returns : goal.returns
returns c = offsets_stay
