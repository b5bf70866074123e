use Rattle.php_relexing.proofs.Labels.{labels_begin_no_name}
use Rattle.php_relexing.proofs.labels_begin_no_name.Goals as goal

pub returns : goal.returns
returns c = labels_begin_no_name
