use Rattle.php_lexer.proofs.LawProofs.{utf8_kept}
use Rattle.php_lexer.proofs.laws.utf8_is_kept.Goals as goal

pub returns : goal.returns
returns c = utf8_kept
