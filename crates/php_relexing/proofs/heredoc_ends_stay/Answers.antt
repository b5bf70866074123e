use Rattle.php_relexing.proofs.HeredocEnds.{heredoc_ends_stay}
use Rattle.php_relexing.proofs.heredoc_ends_stay.Goals as goal

pub returns : goal.returns
returns c = heredoc_ends_stay
