use Rattle.syntax_rules.proofs.TogetherKeeps.{syntax_is_rewritten}
use Rattle.syntax_rules.proofs.together.syntax_is_rewritten.Goals as goal

pub returns : goal.returns
returns c = syntax_is_rewritten
