use Rattle.span_edits.proofs.LawLemmas.{spliced-join}
use Rattle.span_edits.proofs.laws.splices_join.Goals as goal

pub returns : goal.returns
returns c = spliced-join
