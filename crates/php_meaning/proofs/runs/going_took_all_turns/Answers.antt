use Rattle.php_meaning.proofs.Spent.{going_took_all_turns}
use Rattle.php_meaning.proofs.runs.going_took_all_turns.Goals as goal

pub returns : goal.returns
returns c = going_took_all_turns
