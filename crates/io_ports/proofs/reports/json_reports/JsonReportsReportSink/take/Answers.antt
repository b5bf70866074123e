use Rattle.std.proofs.Common.{◌≡◌, ◌∙◌, IfSome, subst}
use Rattle.io_ports.specs.Files.{Appends}
use Rattle.io_ports.specs.Lines.{json_line}
use Rattle.io_ports.proofs.WrittenLaws.{take_written}
use Rattle.io_ports.proofs.reports.json_reports.JsonReportsReportSink.take.Goals as goal

pub returns-clause-written : goal.returns-clause-written
returns-clause-written g c began n w =
    let before = g.S.Sink.held c.args.self.now.kept.sink in
    let after = g.S.Sink.held c.put_line.new.self.sink in
    let text : c.as_slice.result.now ≡ json_line c.args.report.now = c.as_slice.ensures.value ∙ c.in_ok-line.ensures in
    let put = subst (λ t. IfSome before (λ bytes. Appends t c.put_line.result bytes after)) text c.put_line.ensures.bytes in
    take_written json_line began c.args.report.now c.put_line.result c.args.self.now.kept.reports.items
    c.put_line.new.self.reports.items before after c.put_line.ensures.list put n w
