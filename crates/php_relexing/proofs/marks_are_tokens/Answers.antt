use Rattle.php_relexing.proofs.WrittenTokens.{marks_are_tokens}
use Rattle.php_relexing.proofs.marks_are_tokens.Goals as goal

pub returns : goal.returns
returns c = marks_are_tokens
