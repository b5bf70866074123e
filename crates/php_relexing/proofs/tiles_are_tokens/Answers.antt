use Rattle.php_relexing.proofs.Spelling.{tiles_are_tokens}
use Rattle.php_relexing.proofs.tiles_are_tokens.Goals as goal

pub returns : goal.returns
returns c = tiles_are_tokens
