use Rattle.php_relexing.proofs.Parts.{text_variables_stay}
use Rattle.php_relexing.proofs.text_variables_stay.Goals as goal

pub returns : goal.returns
returns c = text_variables_stay
