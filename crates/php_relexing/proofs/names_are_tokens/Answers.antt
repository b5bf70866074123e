use Rattle.php_relexing.proofs.Names.{names_are_tokens}
use Rattle.php_relexing.proofs.names_are_tokens.Goals as goal

pub returns : goal.returns
returns c = names_are_tokens
