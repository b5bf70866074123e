use Rattle.php_relexing.proofs.Newer.{same_in_newer_code}
use Rattle.php_relexing.proofs.same_in_newer_code.Goals as goal

pub returns : goal.returns
returns c = same_in_newer_code
