use Rattle.syntax_rules.proofs.Kept.{rewriting_keeps_meaning}
use Rattle.syntax_rules.proofs.keeps.rewriting_keeps_meaning.Goals as goal

pub returns : goal.returns
returns c = rewriting_keeps_meaning
