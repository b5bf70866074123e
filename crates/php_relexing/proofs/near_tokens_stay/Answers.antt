use Rattle.php_relexing.proofs.Staying.{near_tokens_stay}
use Rattle.php_relexing.proofs.near_tokens_stay.Goals as goal

pub returns : goal.returns
returns c = near_tokens_stay
