use Rattle.span_edits.proofs.LawLemmas.{spliced-outside}
use Rattle.span_edits.proofs.laws.byte_outside_stays.Goals as goal

pub returns : goal.returns
returns c = spliced-outside
