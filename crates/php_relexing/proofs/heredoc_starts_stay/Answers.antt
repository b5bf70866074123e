use Rattle.php_relexing.proofs.HeredocStarts.{heredoc_starts_stay}
use Rattle.php_relexing.proofs.heredoc_starts_stay.Goals as goal

pub returns : goal.returns
returns c = heredoc_starts_stay
