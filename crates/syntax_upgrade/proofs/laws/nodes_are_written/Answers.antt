use Rattle.syntax_upgrade.proofs.Names.{node_written}
use Rattle.syntax_upgrade.proofs.laws.nodes_are_written.Goals as goal

pub returns : goal.returns
returns c = node_written
