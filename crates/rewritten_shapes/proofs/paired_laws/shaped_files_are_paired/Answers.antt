use Rattle.rewritten_shapes.proofs.paired.Pairing.{shaped_files_are_paired}
use Rattle.rewritten_shapes.proofs.paired_laws.shaped_files_are_paired.Goals as goal

pub returns : goal.returns
returns c = shaped_files_are_paired
