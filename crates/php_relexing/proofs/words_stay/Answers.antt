use Rattle.php_relexing.proofs.Words.{words_stay}
use Rattle.php_relexing.proofs.words_stay.Goals as goal

pub returns : goal.returns
returns c = words_stay
