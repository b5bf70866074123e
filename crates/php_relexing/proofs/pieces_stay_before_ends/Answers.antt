use Rattle.php_relexing.proofs.PieceEnds.{pieces_stay_before_ends}
use Rattle.php_relexing.proofs.pieces_stay_before_ends.Goals as goal

pub returns : goal.returns
returns c = pieces_stay_before_ends
