use Rattle.php_relexing.proofs.Comments.{hash_comments_stay}
use Rattle.php_relexing.proofs.hash_comments_stay.Goals as goal

pub returns : goal.returns
returns c = hash_comments_stay
