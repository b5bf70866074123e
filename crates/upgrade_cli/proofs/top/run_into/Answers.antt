use Rattle.std.specs.Prelude.{map, string_bytes}
use Rattle.command_words.specs.Words.{asked}
use Rattle.report_handing.specs.Sinks.{sinks_by}
use Rattle.upgrade_cli.proofs.Headlines.{run_headline}
use Rattle.upgrade_cli.proofs.Statuses.{run_exact, run_told}
use Rattle.upgrade_cli.proofs.top.run_into.Goals as goal

pub returns-clause-told : goal.returns-clause-told
returns-clause-told g c =
    run_told (asked (map string_bytes c.args.words.now)) (g.T.SourceTree.stored c.args.source.now) (g.T.SourceTree.files c.args.source.now)
    (record {
      target = g.D.TargetTree.files c.args.target.now;
      sinks = sinks_by g.S.Slot.reports g.S.Slot.closed g.S.Slot.failures c.args.sinks.now;
      held = g.O.Sink.held c.args.out.now;
      faults = g.O.Sink.faults c.args.out.now;
    })
    (record {
      target = g.D.TargetTree.files c.outcome-came.new.target;
      sinks = sinks_by g.S.Slot.reports g.S.Slot.closed g.S.Slot.failures c.outcome-came.new.sinks;
      held = g.O.Sink.held c.answer.new.out;
      faults = g.O.Sink.faults c.answer.new.out;
    })
    c.outcome-came.result c.answer.result c.outcome-came.ensures.told c.answer.ensures.answer c.answer.ensures.line

pub returns-clause-exact : goal.returns-clause-exact
returns-clause-exact g c =
    run_exact (asked (map string_bytes c.args.words.now)) (g.T.SourceTree.stored c.args.source.now) (g.T.SourceTree.files c.args.source.now)
    (g.D.TargetTree.files c.args.target.now) (g.D.TargetTree.files c.outcome-came.new.target)
    (sinks_by g.S.Slot.reports g.S.Slot.closed g.S.Slot.failures c.args.sinks.now)
    (sinks_by g.S.Slot.reports g.S.Slot.closed g.S.Slot.failures c.outcome-came.new.sinks)
    c.outcome-came.result c.answer.result c.outcome-came.ensures.told c.answer.ensures.answer

pub returns-clause-headline : goal.returns-clause-headline
returns-clause-headline g c =
    run_headline c.written_files_are_read.ensures (asked (map string_bytes c.args.words.now)) (g.T.SourceTree.stored c.args.source.now)
    (g.T.SourceTree.files c.args.source.now) (g.D.TargetTree.files c.args.target.now) (g.D.TargetTree.files c.outcome-came.new.target)
    (sinks_by g.S.Slot.reports g.S.Slot.closed g.S.Slot.failures c.args.sinks.now)
    (sinks_by g.S.Slot.reports g.S.Slot.closed g.S.Slot.failures c.outcome-came.new.sinks)
    (g.O.Sink.held c.args.out.now) (g.O.Sink.held c.answer.new.out) (g.O.Sink.faults c.args.out.now) (g.O.Sink.faults c.answer.new.out)
    c.outcome-came.result c.answer.result c.outcome-came.ensures.told c.answer.ensures.answer c.answer.ensures.line
