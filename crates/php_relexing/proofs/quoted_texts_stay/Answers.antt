use Rattle.php_relexing.proofs.Closed.{quoted_texts_stay}
use Rattle.php_relexing.proofs.quoted_texts_stay.Goals as goal

pub returns : goal.returns
returns c = quoted_texts_stay
