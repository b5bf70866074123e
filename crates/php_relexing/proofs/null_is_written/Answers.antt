use Rattle.php_relexing.proofs.WrittenTokens.{null_is_written}
use Rattle.php_relexing.proofs.null_is_written.Goals as goal

pub returns : goal.returns
returns c = null_is_written
