use Rattle.rewriting_keeps.proofs.DirectNames.{read_names_are_direct}
use Rattle.rewriting_keeps.proofs.read_names_are_direct.Goals as goal

pub returns : goal.returns
returns c = read_names_are_direct
