use Rattle.syntax_rules.proofs.DollarBraceKeeps.{dollar_brace_is_written}
use Rattle.syntax_rules.proofs.dollar_brace.dollar_brace_is_written.Goals as goal

pub returns : goal.returns
returns c = dollar_brace_is_written
