use Rattle.php_relexing.proofs.Labels.{words_are_labels}
use Rattle.php_relexing.proofs.words_are_labels.Goals as goal

pub returns : goal.returns
returns c = words_are_labels
