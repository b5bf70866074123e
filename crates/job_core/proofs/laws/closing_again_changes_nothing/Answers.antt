use Rattle.job_core.proofs.MachineLemmas.{close-closed}
use Rattle.job_core.proofs.laws.closing_again_changes_nothing.Goals as goal

pub returns : goal.returns
returns c = close-closed
