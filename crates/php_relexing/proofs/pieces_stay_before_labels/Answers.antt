use Rattle.php_relexing.proofs.HeredocEnds.{pieces_stay_before_labels}
use Rattle.php_relexing.proofs.pieces_stay_before_labels.Goals as goal

pub returns : goal.returns
returns c = pieces_stay_before_labels
