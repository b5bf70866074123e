use Rattle.syntax_rules.proofs.RewritesAcross.{unset_casts_are_null}
use Rattle.syntax_rules.proofs.keeps.unset_casts_are_null.Goals as goal

pub returns : goal.returns
returns c = unset_casts_are_null
