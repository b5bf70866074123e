use Rattle.syntax_rules.proofs.SplitNameKeeps.{split_name_is_written}
use Rattle.syntax_rules.proofs.split_name.split_name_is_written.Goals as goal

pub returns : goal.returns
returns c = split_name_is_written
