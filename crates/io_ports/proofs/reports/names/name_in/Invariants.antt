use Rattle.std.proofs.Common.{◌≡◌, map, drop}
use Rattle.io_ports.specs.Names.{name_of}
use Rattle.io_ports.proofs.reports.names.name_in.Given as goal

-- the name is beside one of the rows that are left
abbrev pub invariant-loop-row : goal.invariant-loop-row
invariant-loop-row l = name_of l.number (map (λ r. (r.0, r.1.now)) (drop l.row-index l.rows)) ≡ name_of l.number (map (λ r. (r.0, r.1.now)) l.rows)
