use Rattle.php_relexing.proofs.Angles.{closing_tags_stay}
use Rattle.php_relexing.proofs.closing_tags_stay.Goals as goal

pub returns : goal.returns
returns c = closing_tags_stay
