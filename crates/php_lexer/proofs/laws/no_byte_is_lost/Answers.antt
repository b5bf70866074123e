use Rattle.php_lexer.proofs.LawProofs.{no_byte_lost}
use Rattle.php_lexer.proofs.laws.no_byte_is_lost.Goals as goal

pub returns : goal.returns
returns c = no_byte_lost
