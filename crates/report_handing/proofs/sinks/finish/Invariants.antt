use Rattle.std.proofs.Common.{◌≡◌, map, length}
use Rattle.report_handing.specs.Sinks.{closed}
use Rattle.report_handing.proofs.sinks.finish.Given as goal

abbrev pub invariant-loop-at : goal.invariant-loop-at
invariant-loop-at g l =
    (map g.S.Slot.reports l.sinks ≡ map g.S.Slot.reports l.initial.sinks)
    × (map g.S.Slot.closed l.sinks ≡ closed l.at (map g.S.Slot.closed l.initial.sinks))
    × (map g.S.Slot.failures l.sinks ≡ map g.S.Slot.failures l.initial.sinks)
