use Rattle.php_relexing.proofs.PieceEnds.{escaped_pieces_stay}
use Rattle.php_relexing.proofs.escaped_pieces_stay.Goals as goal

pub returns : goal.returns
returns c = escaped_pieces_stay
