use Rattle.syntax_rules.proofs.ParenLemmas.{grouping_keeps_meaning}
use Rattle.syntax_rules.proofs.nested_ternary.nested_ternary_keeps_meaning.Goals as goal

pub returns : goal.returns
returns c = grouping_keeps_meaning
