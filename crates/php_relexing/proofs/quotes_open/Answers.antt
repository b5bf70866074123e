use Rattle.php_relexing.proofs.Quotes.{quotes_open}
use Rattle.php_relexing.proofs.quotes_open.Goals as goal

pub returns : goal.returns
returns c = quotes_open
