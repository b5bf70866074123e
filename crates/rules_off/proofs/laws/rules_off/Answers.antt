use Rattle.rules_off.proofs.Files.{rules_off}
use Rattle.rules_off.proofs.laws.rules_off.Goals as goal

pub returns : goal.returns
returns c = rules_off
