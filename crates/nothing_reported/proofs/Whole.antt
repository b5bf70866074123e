-- What is known of a file without a report.
use Rattle.nothing_reported.specs.Laws.{NothingReported}
use Rattle.nothing_reported.proofs.AllNodes.{none_by_reports, none_by_words}
use Rattle.nothing_reported.proofs.Forms.{clear_file}

pub nothing_reported : NothingReported
nothing_reported = record {
  by_words = none_by_words;
  by_reports = none_by_reports;
  no_nullsafe = λ f e. (clear_file f e).safe;
  no_traits = λ f e. (clear_file f e).plain;
}
