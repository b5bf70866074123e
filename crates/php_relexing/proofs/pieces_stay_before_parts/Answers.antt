use Rattle.php_relexing.proofs.PieceLaws.{pieces_stay_before_parts}
use Rattle.php_relexing.proofs.pieces_stay_before_parts.Goals as goal

pub returns : goal.returns
returns c = pieces_stay_before_parts
