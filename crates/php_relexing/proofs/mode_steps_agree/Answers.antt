use Rattle.php_relexing.proofs.Passes.{mode_steps_agree}
use Rattle.php_relexing.proofs.mode_steps_agree.Goals as goal

pub returns : goal.returns
returns c = mode_steps_agree
