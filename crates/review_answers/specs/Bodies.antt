-- Bodies of answers, as JSON values with their keys in byte order. They are written without blanks. The forms are this
-- project's own.
use Rattle.std.specs.Prelude.{ℕ, List, codes, map}
use Rattle.serde_json.specs.Data.{Data, boolean, number, string, array, object, unsigned, member, no_members}
use Rattle.serde_json.specs.View.{items_of}
use Rattle.io_ports.specs.Names.{code_text, cause_text, weight_name}
use Rattle.io_ports.specs.declared.report.Report.{Report}
use Rattle.job_core.specs.declared.job.JobHead.{JobHead}
use Rattle.job_core.specs.declared.job.Judged.{Judged}
use Rattle.job_core.specs.declared.job.Verdict.{Verdict}
use Rattle.job_core.specs.declared.job.Verdict.TheVariants.{Open, Accept, Reject}

-- a new job
abbrev pub made : JobHead → Data
made h = object
    (member (codes "edits") (number (unsigned h.edits))
    (member (codes "job") (number (unsigned h.job))
    (member (codes "reports") (number (unsigned h.reports))
    (member (codes "status") (number (unsigned h.status)) no_members))))

-- a job that stands
abbrev pub head : JobHead → Data
head h = object
    (member (codes "closed") (boolean h.closed)
    (member (codes "edits") (number (unsigned h.edits))
    (member (codes "job") (number (unsigned h.job))
    (member (codes "reports") (number (unsigned h.reports))
    (member (codes "status") (number (unsigned h.status)) no_members)))))

-- a file by its path, with what was written of it
abbrev pub file : List ℕ → List ℕ → Data
file path written = object (member (codes "path") (string path) (member (codes "text") (string written) no_members))

-- a verdict on a report of a job
abbrev pub judged : ℕ → ℕ → Data
judged job n = object
    (member (codes "job") (number (unsigned job)) (member (codes "report") (number (unsigned n)) no_members))

-- a refusal
abbrev pub error : List ℕ → Data
error word = object (member (codes "error") (string word) no_members)

-- ---- reports

abbrev pub verdict_word : Verdict → List ℕ
verdict_word Open = codes "open"
verdict_word Accept = codes "accept"
verdict_word Reject = codes "reject"

abbrev pub report : (cause code : List ℕ) → Report → (note verdict : List ℕ) → Data
report cause code r note verdict = object
    (member (codes "cause") (string cause)
    (member (codes "code") (string code)
    (member (codes "end") (number (unsigned r.span.end))
    (member (codes "note") (string note)
    (member (codes "path") (string r.path)
    (member (codes "start") (number (unsigned r.span.start))
    (member (codes "verdict") (string verdict)
    (member (codes "weight") (string (weight_name r.weight)) no_members))))))))

-- a report with its verdict and its note
abbrev pub report_of : Judged → Data
report_of j = report (cause_text j.report.cause) (code_text j.report.code) j.report j.note (verdict_word j.verdict)

-- the reports of a job, in order
abbrev pub reports : List Judged → Data
reports js = array (items_of (map report_of js))
