use Rattle.std.proofs.Common.{append_assoc, rules}
use Rattle.io_ports.proofs.reports.line_text.report_line.Goals as goal

pub returns : goal.returns
returns c = simp append_assoc (search rules)
