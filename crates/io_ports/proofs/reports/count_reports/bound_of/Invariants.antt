use Rattle.std.proofs.Common.{◌≡◌, ◌≤◌, ◌^◌, max, drop}
use Rattle.io_ports.specs.Lines.{code_bound}
use Rattle.io_ports.proofs.reports.count_reports.bound_of.Given as goal

-- the larger of the bound so far and the bound of what is left
abbrev pub invariant-loop-report : goal.invariant-loop-report
invariant-loop-report l = (max l.bound (code_bound (drop l.report-index l.reports)) ≡ code_bound l.reports) × (l.bound ≤ 2 ^ 16)
