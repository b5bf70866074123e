use Rattle.nothing_reported.proofs.Whole.{nothing_reported}
use Rattle.nothing_reported.proofs.laws.nothing_reported.Goals as goal

pub returns : goal.returns
returns c = nothing_reported
