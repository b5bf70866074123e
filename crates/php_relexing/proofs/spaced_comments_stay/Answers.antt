use Rattle.php_relexing.proofs.Comments.{spaced_comments_stay}
use Rattle.php_relexing.proofs.spaced_comments_stay.Goals as goal

pub returns : goal.returns
returns c = spaced_comments_stay
