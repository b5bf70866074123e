use Rattle.std.proofs.Common.{◌≡◌, map, take}
use Rattle.report_handing.specs.Sinks.{gave}
use Rattle.report_handing.proofs.sinks.hand_out.Given as goal

abbrev pub invariant-loop-report : goal.invariant-loop-report
invariant-loop-report g l =
    (map g.S.Slot.reports l.sinks ≡ gave (take l.report-index l.reports) (map g.S.Slot.reports l.initial.sinks))
    × (map g.S.Slot.closed l.sinks ≡ map g.S.Slot.closed l.initial.sinks)
    × (map g.S.Slot.failures l.sinks ≡ map g.S.Slot.failures l.initial.sinks)
