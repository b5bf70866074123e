-- What work on files comes to.
use Rattle.std.specs.Prelude.{ℕ, List, Result, Ok, Err}
use Rattle.job_core.specs.declared.fault.WorkFault.{WorkFault}
use Rattle.job_core.specs.declared.fault.WorkFault.TheVariants.{Refused, Memory}
use Rattle.job_core.specs.declared.job.JobFile.{JobFile}
use Rattle.job_core.specs.declared.job.Judged.{Judged}
use Rattle.job_core.specs.declared.job.Made.{Made}

-- a path with its text
abbrev pub SourceText : Type 0
SourceText = List ℕ × List ℕ

-- what was made, with lists in the place of its collections
pub record MadeWork : Type 0 where
  pub status : ℕ
  pub edits : ℕ
  pub files : List JobFile
  pub reports : List Judged

-- what a `Made` holds
abbrev pub made_work : Made → MadeWork
made_work m = record { status = m.status; edits = m.edits; files = m.files.items; reports = m.reports.items }

-- the relation holds of what was made, or of the refusal's text; of want of memory nothing is said
abbrev pub IfAnswered : Result Made WorkFault → (Result MadeWork (List ℕ) → Type 0) → Type 0
IfAnswered (Ok made) holds = holds (Ok (made_work made))
IfAnswered (Err (Refused text)) holds = holds (Err text)
IfAnswered (Err Memory) holds = Unit {0}
