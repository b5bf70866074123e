use Rattle.php_relexing.proofs.Openings.{openings_are_uncast}
use Rattle.php_relexing.proofs.openings_are_uncast.Goals as goal

pub returns : goal.returns
returns c = openings_are_uncast
