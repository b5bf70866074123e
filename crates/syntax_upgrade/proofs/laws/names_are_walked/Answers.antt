use Rattle.syntax_upgrade.proofs.NamesWalk.{names_walked}
use Rattle.syntax_upgrade.proofs.laws.names_are_walked.Goals as goal

pub returns : goal.returns
returns c = names_walked
