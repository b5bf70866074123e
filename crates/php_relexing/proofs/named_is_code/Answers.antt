use Rattle.php_relexing.proofs.WrittenTokens.{named_is_code}
use Rattle.php_relexing.proofs.named_is_code.Goals as goal

pub returns : goal.returns
returns c = named_is_code
