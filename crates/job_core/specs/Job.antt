-- A job as contracts see it.
use Rattle.std.specs.Prelude.{ℕ, List, Option, Vec}
use Rattle.std.specs.Option.{option_map}
use Rattle.std.specs.declared.alloc.Global.{Global}
use Rattle.job_core.specs.declared.job.Job.{Job}
use Rattle.job_core.specs.declared.job.JobFile.{JobFile}
use Rattle.job_core.specs.declared.job.JobHead.{JobHead}
use Rattle.job_core.specs.declared.job.Judged.{Judged}

-- a job, with lists in the place of its collections
pub record StoredJob : Type 0 where
  pub owner : List ℕ
  pub key : List ℕ
  pub head : JobHead
  pub files : List JobFile
  pub reports : List Judged

-- what a `Job` holds
abbrev pub stored : Job → StoredJob
stored j =
    record { owner = j.owner; key = j.key; head = j.head; files = j.files.items; reports = j.reports.items }

-- what a collection of reports holds, if there is one
abbrev pub listed : Option (Vec Judged Global) → Option (List Judged)
listed reports = option_map (λ v. v.items) reports
