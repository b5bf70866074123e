use Rattle.php_relexing.proofs.Labels.{labels_join}
use Rattle.php_relexing.proofs.labels_join.Goals as goal

pub returns : goal.returns
returns c = labels_join
