use Rattle.php_relexing.proofs.Closed.{block_comments_stay}
use Rattle.php_relexing.proofs.block_comments_stay.Goals as goal

pub returns : goal.returns
returns c = block_comments_stay
