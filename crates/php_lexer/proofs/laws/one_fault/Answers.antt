use Rattle.php_lexer.proofs.LawProofs.{one_stop}
use Rattle.php_lexer.proofs.laws.one_fault.Goals as goal

pub returns : goal.returns
returns c = one_stop
