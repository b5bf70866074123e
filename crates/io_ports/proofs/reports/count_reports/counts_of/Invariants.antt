use Rattle.std.proofs.Common.{◌≡◌}
use Rattle.io_ports.specs.Lines.{count_lines_below}
use Rattle.io_ports.proofs.reports.count_reports.counts_of.Given as goal

-- the lines of the codes so far
abbrev pub invariant-loop-code : goal.invariant-loop-code
invariant-loop-code l = l.text.items ≡ count_lines_below l.code l.reports
