use Rattle.syntax_rules.proofs.CastsKeep.{real_cast_is_written}
use Rattle.syntax_rules.proofs.real_cast.real_cast_is_written.Goals as goal

pub returns : goal.returns
returns c = real_cast_is_written
