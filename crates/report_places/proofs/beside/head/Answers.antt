use Rattle.std.proofs.Common.{rules, append_assoc}
use Rattle.report_places.proofs.beside.head.Goals as goal

pub returns : goal.returns
returns c = simp append_assoc (search rules)
