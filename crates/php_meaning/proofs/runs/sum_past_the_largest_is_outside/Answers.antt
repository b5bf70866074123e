use Rattle.php_meaning.proofs.Rows.{sum_leaves}
use Rattle.php_meaning.proofs.runs.sum_past_the_largest_is_outside.Goals as goal

pub returns : goal.returns
returns c = sum_leaves
