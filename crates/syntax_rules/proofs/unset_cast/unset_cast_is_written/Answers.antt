use Rattle.syntax_rules.proofs.CastsKeep.{unset_cast_is_written}
use Rattle.syntax_rules.proofs.unset_cast.unset_cast_is_written.Goals as goal

pub returns : goal.returns
returns c = unset_cast_is_written
