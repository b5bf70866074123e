use Rattle.php_relexing.proofs.Passes.{passes_join}
use Rattle.php_relexing.proofs.passes_join.Goals as goal

pub returns : goal.returns
returns c = passes_join
