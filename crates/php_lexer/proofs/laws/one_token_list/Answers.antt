use Rattle.php_lexer.proofs.LawProofs.{one_list}
use Rattle.php_lexer.proofs.laws.one_token_list.Goals as goal

pub returns : goal.returns
returns c = one_list
