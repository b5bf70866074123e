use Rattle.php_relexing.proofs.Comments.{slash_comments_stay}
use Rattle.php_relexing.proofs.slash_comments_stay.Goals as goal

pub returns : goal.returns
returns c = slash_comments_stay
