use Rattle.std.proofs.Common.{◌≡◌, ℕ, Bool, List, map, sym, subst, refl}
use Rattle.std.specs.Prelude.{IfSome, Ok, Err}
use Rattle.command_words.specs.Words.{asked_by}
use Rattle.io_ports.specs.Files as ports
use Rattle.io_ports.specs.Files.{content}
use Rattle.report_handing.specs.Sinks.{sinks_by}
use Rattle.upgrade_core.specs.Files.{file_of}
use Rattle.upgrade_cli.specs.declared.stop.Summary.{Summary}
use Rattle.upgrade_cli.specs.Outcome as spec
use Rattle.upgrade_cli.specs.Ready.{IsReady}
use Rattle.upgrade_cli.specs.Whole as whole
use Rattle.upgrade_cli.proofs.WholeLemmas.{upgrade_does, writing_does, writing_stops}
use Rattle.upgrade_cli.proofs.whole.follow.Goals as goal

pub returns-in-Err-upgrade_ready-clause-told : goal.returns-in-Err-upgrade_ready-clause-told
returns-in-Err-upgrade_ready-clause-told g c =
    upgrade_does (asked_by c.args.command.now) (g.T.SourceTree.stored c.args.source.now) (g.T.SourceTree.files c.args.source.now)
    c.in-Ok.ready c.in-Err-upgrade_ready.stop (sinks_by g.S.Slot.reports g.S.Slot.closed g.S.Slot.failures c.args.sinks.now)
    (sinks_by g.S.Slot.reports g.S.Slot.closed g.S.Slot.failures c.upgrade_ready.new.sinks) (g.D.TargetTree.files c.args.target.now)
    (subst (λ (n : List ℕ). IfSome (g.T.SourceTree.stored c.args.source.now) (λ ss. IfSome (g.T.SourceTree.files c.args.source.now) (λ fs.
    IsReady (content n ss) fs (Ok c.in-Ok.ready)))) c.name_of.ensures c.in-Ok.ensures.told)
    c.in-Err-upgrade_ready.ensures.told

pub returns-in-Ok-write_if-clause-told : goal.returns-in-Ok-write_if-clause-told
returns-in-Ok-write_if-clause-told g c =
    subst (λ (s : Summary). IfSome (g.T.SourceTree.stored c.args.source.now) (λ ss. IfSome (g.T.SourceTree.files c.args.source.now) (λ fs.
    whole.IsDoing (asked_by c.args.command.now) ss fs (Ok s)
    (sinks_by g.S.Slot.reports g.S.Slot.closed g.S.Slot.failures c.args.sinks.now)
    (sinks_by g.S.Slot.reports g.S.Slot.closed g.S.Slot.failures c.upgrade_ready.new.sinks)
    (g.D.TargetTree.files c.args.target.now) (g.D.TargetTree.files c.write_if.new.target)))) (sym c.summary_of.ensures)
    (writing_does (asked_by c.args.command.now) (g.T.SourceTree.stored c.args.source.now) (g.T.SourceTree.files c.args.source.now)
    c.in-Ok.ready c.in-Ok-upgrade_ready.upgraded (sinks_by g.S.Slot.reports g.S.Slot.closed g.S.Slot.failures c.args.sinks.now)
    (sinks_by g.S.Slot.reports g.S.Slot.closed g.S.Slot.failures c.upgrade_ready.new.sinks)
    (g.D.TargetTree.files c.args.target.now) (g.D.TargetTree.files c.write_if.new.target)
    (subst (λ (n : List ℕ). IfSome (g.T.SourceTree.stored c.args.source.now) (λ ss. IfSome (g.T.SourceTree.files c.args.source.now) (λ fs.
    IsReady (content n ss) fs (Ok c.in-Ok.ready)))) c.name_of.ensures c.in-Ok.ensures.told)
    c.in-Ok-upgrade_ready.ensures.told
    (subst (λ (w : Bool). IfSome (g.D.TargetTree.files c.args.target.now) (λ b. whole.IsWriting w
    (map file_of c.in-Ok-upgrade_ready.upgraded.files.items) (Ok tt) b (g.D.TargetTree.files c.write_if.new.target)))
    c.writes.ensures c.in-Ok-write_if.ensures.told))

pub returns-clause-told : goal.returns-clause-told
returns-clause-told g c =
    writing_stops (asked_by c.args.command.now) (g.T.SourceTree.stored c.args.source.now) (g.T.SourceTree.files c.args.source.now)
    c.in-Ok.ready c.in-Ok-upgrade_ready.upgraded c.in-Err-write_if.stop
    (sinks_by g.S.Slot.reports g.S.Slot.closed g.S.Slot.failures c.args.sinks.now)
    (sinks_by g.S.Slot.reports g.S.Slot.closed g.S.Slot.failures c.upgrade_ready.new.sinks)
    (g.D.TargetTree.files c.args.target.now) (g.D.TargetTree.files c.write_if.new.target)
    (subst (λ (n : List ℕ). IfSome (g.T.SourceTree.stored c.args.source.now) (λ ss. IfSome (g.T.SourceTree.files c.args.source.now) (λ fs.
    IsReady (content n ss) fs (Ok c.in-Ok.ready)))) c.name_of.ensures c.in-Ok.ensures.told)
    c.in-Ok-upgrade_ready.ensures.told
    (subst (λ (w : Bool). whole.IsOfWriting w (Err c.in-Err-write_if.stop)) c.writes.ensures c.in-Err-write_if.ensures.only)
    (subst (λ (w : Bool). IfSome (g.D.TargetTree.files c.args.target.now) (λ b. whole.IsWriting w
    (map file_of c.in-Ok-upgrade_ready.upgraded.files.items) (Err c.in-Err-write_if.stop) b (g.D.TargetTree.files c.write_if.new.target)))
    c.writes.ensures c.in-Err-write_if.ensures.told)
