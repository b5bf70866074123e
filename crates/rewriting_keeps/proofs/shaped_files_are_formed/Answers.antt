use Rattle.rewriting_keeps.proofs.Formed.{shaped_files_are_formed}
use Rattle.rewriting_keeps.proofs.shaped_files_are_formed.Goals as goal

pub returns : goal.returns
returns c = shaped_files_are_formed
