use Rattle.php_relexing.proofs.AlikeJoins.{alike_joins}
use Rattle.php_relexing.proofs.alike_joins.Goals as goal

pub returns : goal.returns
returns c = alike_joins
