-- What the sinks of reports mean: their lists, whether they are finished, and the sinks of bytes behind them.
use Rattle.std.specs.Prelude.{ℕ, List, Bool}
use Rattle.io_ports.specs.declared.report.Report.{Report}
use Rattle.io_ports.specs.declared.calm.list.CalmList.{CalmList}
use Rattle.io_ports.specs.declared.memory.list_sink.ListSink.{ListSink}
use Rattle.io_ports.specs.declared.memory.tally.Tally.{Tally}
use Rattle.io_ports.specs.declared.reports.text_reports.TextReports.{TextReports}
use Rattle.io_ports.specs.declared.reports.json_reports.JsonReports.{JsonReports}
use Rattle.io_ports.specs.declared.reports.count_reports.CountReports.{CountReports}

-- the reports that were taken, in order
abbrev pub list_sink_list : ListSink → List Report
list_sink_list s = s.reports.items

abbrev pub calm_list : CalmList → List Report
calm_list s = s.reports.items

abbrev pub text_reports_list : {S : Type 0} → TextReports S → List Report
text_reports_list s = s.kept.reports.items

abbrev pub json_reports_list : {S : Type 0} → JsonReports S → List Report
json_reports_list s = s.kept.reports.items

abbrev pub count_reports_list : {S : Type 0} → CountReports S → List Report
count_reports_list s = s.kept.reports.items

-- whether the sink is finished
abbrev pub list_sink_finished : ListSink → Bool
list_sink_finished s = s.is_finished

abbrev pub calm_list_finished : CalmList → Bool
calm_list_finished s = s.is_finished

abbrev pub text_reports_finished : {S : Type 0} → TextReports S → Bool
text_reports_finished s = s.kept.is_finished

abbrev pub json_reports_finished : {S : Type 0} → JsonReports S → Bool
json_reports_finished s = s.kept.is_finished

abbrev pub count_reports_finished : {S : Type 0} → CountReports S → Bool
count_reports_finished s = s.kept.is_finished

-- which calls are to fail, and how many calls and faults there were
abbrev pub list_sink_tally : ListSink → Tally
list_sink_tally s = s.tally

-- how often a call failed
abbrev pub list_sink_faults : ListSink → ℕ
list_sink_faults s = s.tally.faults

-- the sink of bytes that is written to
abbrev pub text_reports_sink : {S : Type 0} → TextReports S → S
text_reports_sink s = s.kept.sink

abbrev pub json_reports_sink : {S : Type 0} → JsonReports S → S
json_reports_sink s = s.kept.sink

abbrev pub count_reports_sink : {S : Type 0} → CountReports S → S
count_reports_sink s = s.kept.sink
