use Rattle.php_relexing.proofs.Parts.{simple_parts_stay}
use Rattle.php_relexing.proofs.simple_parts_stay.Goals as goal

pub returns : goal.returns
returns c = simple_parts_stay
