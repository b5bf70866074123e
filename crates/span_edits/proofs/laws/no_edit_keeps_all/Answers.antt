use Rattle.span_edits.proofs.SpliceLemmas.{spliced_from-none}
use Rattle.span_edits.proofs.laws.no_edit_keeps_all.Goals as goal

pub returns : goal.returns
returns c = λ source. spliced_from-none 0 source
