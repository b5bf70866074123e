use Rattle.std.proofs.Common.{rules, append_assoc}
use Rattle.upgrade_cli.proofs.line.summary_line.Goals as goal

pub returns : goal.returns
returns c = simp append_assoc (search rules)
