use Rattle.php_relexing.proofs.Labels.{white_space_stays}
use Rattle.php_relexing.proofs.white_space_stays.Goals as goal

pub returns : goal.returns
returns c = white_space_stays
