use Rattle.php_relexing.proofs.Parts.{braces_open}
use Rattle.php_relexing.proofs.braces_open.Goals as goal

pub returns : goal.returns
returns c = braces_open
