use Rattle.rewriting_keeps.proofs.Kept.{shaped_files_keep_meaning}
use Rattle.rewriting_keeps.proofs.shaped_files_keep_meaning.Goals as goal

pub returns : goal.returns
returns c = shaped_files_keep_meaning
