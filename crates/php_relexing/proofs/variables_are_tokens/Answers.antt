use Rattle.php_relexing.proofs.WrittenTokens.{variables_are_tokens}
use Rattle.php_relexing.proofs.variables_are_tokens.Goals as goal

pub returns : goal.returns
returns c = variables_are_tokens
