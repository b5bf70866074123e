use Rattle.php_relexing.proofs.Closed.{binary_texts_stay}
use Rattle.php_relexing.proofs.binary_texts_stay.Goals as goal

pub returns : goal.returns
returns c = binary_texts_stay
