use Rattle.syntax_upgrade.proofs.WholeFile.{files_are_written}
use Rattle.syntax_upgrade.proofs.laws.edits_are_written.Goals as goal

pub returns : goal.returns
returns c = files_are_written
