use Rattle.php_relexing.proofs.Quotes.{binary_quotes_open}
use Rattle.php_relexing.proofs.binary_quotes_open.Goals as goal

pub returns : goal.returns
returns c = binary_quotes_open
