use Rattle.span_edits.proofs.LawLemmas.{spliced-last}
use Rattle.span_edits.proofs.laws.last_edit_is_made_first.Goals as goal

pub returns : goal.returns
returns c = spliced-last
