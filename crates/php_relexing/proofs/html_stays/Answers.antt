use Rattle.php_relexing.proofs.Inline.{html_stays}
use Rattle.php_relexing.proofs.html_stays.Goals as goal

pub returns : goal.returns
returns c = html_stays
