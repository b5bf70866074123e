use Rattle.php_relexing.proofs.Inserted.{bracket_comes_in}
use Rattle.php_relexing.proofs.a_bracket_comes_in.Goals as goal

pub returns : goal.returns
returns c = bracket_comes_in
