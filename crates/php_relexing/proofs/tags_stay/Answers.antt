use Rattle.php_relexing.proofs.TagTexts.{tags_stay}
use Rattle.php_relexing.proofs.tags_stay.Goals as goal

pub returns : goal.returns
returns c = tags_stay
