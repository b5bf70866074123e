use Rattle.std.proofs.Common.{map, length, take, rules, refl, sym, arith, ◌∙◌}
use Rattle.report_handing.specs.Handing as spec
use Rattle.report_handing.specs.Sinks.{gave}
use Rattle.report_handing.proofs.SinkLemmas.{gave_nothing, stopped, handed_next, finished_all}
use Rattle.report_handing.proofs.sinks.hand_out.Goals as goal

pub loop-report-init : goal.loop-report-init
loop-report-init g c = (sym (gave_nothing (map g.S.Slot.reports c.args.sinks.now)), refl, refl)

pub returns-in-Err : goal.returns-in-Err
returns-in-Err g c =
    stopped c.args.reports.now c.report-item.result c.report-item.result c.loop-report.report-index c.in-Err.stop
    (spec.sinks_by g.S.Slot.reports g.S.Slot.closed g.S.Slot.failures c.args.sinks.now)
    (spec.sinks_by g.S.Slot.reports g.S.Slot.closed g.S.Slot.failures c.loop-report.sinks)
    (spec.sinks_by g.S.Slot.reports g.S.Slot.closed g.S.Slot.failures c.hand.new.sinks)
    (search rules) c.report-item.is c.loop-report.invariant.0 c.loop-report.invariant.1 c.loop-report.invariant.2 c.in-Err.ensures

pub loop-report-preserved : goal.loop-report-preserved
loop-report-preserved g c = (
  handed_next c.args.reports.now c.report-item.result c.report-item.result c.loop-report.report-index
      (spec.sinks_by g.S.Slot.reports g.S.Slot.closed g.S.Slot.failures c.args.sinks.now)
      (spec.sinks_by g.S.Slot.reports g.S.Slot.closed g.S.Slot.failures c.loop-report.sinks)
      (spec.sinks_by g.S.Slot.reports g.S.Slot.closed g.S.Slot.failures c.hand.new.sinks)
      (search rules) c.report-item.is c.loop-report.invariant.0 c.in_default.ensures,
  c.in_default.ensures.1 ∙ c.loop-report.invariant.1,
  c.in_default.ensures.2 ∙ c.loop-report.invariant.2,
)

pub returns : goal.returns
returns g c =
    finished_all c.args.reports.now c.loop-report.report-index c.finish.result
    (spec.sinks_by g.S.Slot.reports g.S.Slot.closed g.S.Slot.failures c.args.sinks.now)
    (spec.sinks_by g.S.Slot.reports g.S.Slot.closed g.S.Slot.failures c.loop-report.sinks)
    (spec.sinks_by g.S.Slot.reports g.S.Slot.closed g.S.Slot.failures c.finish.new.sinks)
    (search (rules, arith)) c.loop-report.invariant.0 c.loop-report.invariant.1 c.loop-report.invariant.2 c.finish.ensures
