use Rattle.php_lexer.proofs.LawProofs.{not_both}
use Rattle.php_lexer.proofs.laws.tokens_or_fault.Goals as goal

pub returns : goal.returns
returns c = not_both
