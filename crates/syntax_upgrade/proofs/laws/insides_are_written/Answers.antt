use Rattle.syntax_upgrade.proofs.Styles.{inside_written}
use Rattle.syntax_upgrade.proofs.laws.insides_are_written.Goals as goal

pub returns : goal.returns
returns c = inside_written
