-- A list of jobs of many owners: what is read of it, and how it changes. Each owner's jobs have an order; between
-- owners there is none that a call shows.
use Rattle.std.specs.Prelude.{
  ◌≡◌,
  ℕ,
  zero,
  suc,
  ◌+◌,
  ◌-◌,
  ◌<◌,
  ◌≤◌,
  ◌==◌,
  true,
  ◌&&◌,
  List,
  [],
  ◌∷◌,
  length,
  map,
  filter,
  find,
  All,
  Option,
  None,
  if◌then◌else◌,
  slice_get,
  slice_set,
}
use Rattle.std.specs.List.{IsDistinct}
use Rattle.std.specs.Option.{option_map_or, option_and_then}
use Rattle.std.specs.Str.{bytes_eq}
use Rattle.job_core.specs.Job.{StoredJob}
use Rattle.job_core.specs.declared.job.JobFile.{JobFile}
use Rattle.job_core.specs.declared.job.Judged.{Judged}
use Rattle.job_core.specs.declared.job.Verdict.{Verdict}

-- the jobs of one owner, the oldest first
abbrev pub jobs_of : List ℕ → List StoredJob → List StoredJob
jobs_of owner jobs = filter (λ j. bytes_eq owner j.owner) jobs

-- the two lists have the same jobs of each owner, in the same order
abbrev pub SameJobs : List StoredJob → List StoredJob → Type 0
SameJobs jobs others = (owner : List ℕ) → jobs_of owner jobs ≡ jobs_of owner others

-- how many jobs the owner has
abbrev pub count_of : List ℕ → List StoredJob → ℕ
count_of owner jobs = length (jobs_of owner jobs)

-- the owner's job with this number
abbrev pub job_of : List ℕ → ℕ → List StoredJob → Option StoredJob
job_of owner n jobs = find (λ j. n == j.head.job) (jobs_of owner jobs)

-- the owner's job under this key
abbrev pub keyed_job : List ℕ → List ℕ → List StoredJob → Option StoredJob
keyed_job owner key jobs = find (λ j. bytes_eq key j.key) (jobs_of owner jobs)

-- the item with this number, from 1
abbrev pub numbered : {A : Type 0} → ℕ → List A → Option A
numbered zero items = None
numbered (suc i) items = slice_get items i

-- the file with this number of the owner's job
abbrev pub file_of : List ℕ → ℕ → ℕ → List StoredJob → Option JobFile
file_of owner job n jobs = option_and_then (λ j. numbered n j.files) (job_of owner job jobs)

-- the report with this number of a job, if there is such a job
abbrev pub report_in : ℕ → Option StoredJob → Option Judged
report_in n job = option_and_then (λ j. numbered n j.reports) job

-- the report with this number of the owner's job
abbrev pub report_of : List ℕ → ℕ → ℕ → List StoredJob → Option Judged
report_of owner job n jobs = report_in n (job_of owner job jobs)

-- the reports with a verdict and a note on the one with this number
abbrev pub judged_reports : ℕ → Verdict → List ℕ → List Judged → List Judged
judged_reports n verdict note reports =
    option_map_or (λ r. slice_set reports (n - 1) (record r { verdict = verdict; note = note })) (numbered n reports) reports

-- the job with a verdict and a note on the report with this number
abbrev pub judged_job : ℕ → Verdict → List ℕ → StoredJob → StoredJob
judged_job n verdict note j = record j { reports = judged_reports n verdict note j.reports }

-- the job, closed
abbrev pub closed_job : StoredJob → StoredJob
closed_job j = record j { head = record j.head { closed = true } }

-- the jobs with one of the owner's, that with this number, changed
abbrev pub with_job : List ℕ → ℕ → (StoredJob → StoredJob) → List StoredJob → List StoredJob
with_job owner n change jobs = map (λ j. if bytes_eq owner j.owner && (n == j.head.job) then change j else j) jobs

-- the jobs with a verdict and a note on a report of the owner's job, if there is one
abbrev pub judged : List ℕ → ℕ → ℕ → Verdict → List ℕ → List StoredJob → List StoredJob
judged owner job n verdict note jobs = with_job owner job (judged_job n verdict note) jobs

-- the jobs with the owner's job closed, if there is one
abbrev pub closed : List ℕ → ℕ → List StoredJob → List StoredJob
closed owner job jobs = with_job owner job closed_job jobs

-- numbers run from this one
abbrev pub RunsFrom : ℕ → List StoredJob → Type 0
RunsFrom n [] = Unit {0}
RunsFrom n (j ∷ jobs) = (j.head.job ≡ n) × RunsFrom (n + 1) jobs

-- the jobs of one owner: their numbers run from 1, no key is there twice, they are at most 10,000, and each head counts
-- the job's reports
pub record IsOwnersList (jobs : List StoredJob) : Type 0 where
  pub numbers : RunsFrom 1 jobs
  pub keys : IsDistinct bytes_eq (map (λ j. j.key) jobs)
  pub few : length jobs ≤ 10000
  pub reports : All (λ j. j.head.reports ≡ length j.reports) jobs

-- what a keeper holds: such jobs of each owner
abbrev pub IsKept : List StoredJob → Type 0
IsKept jobs = (owner : List ℕ) → IsOwnersList (jobs_of owner jobs)

-- a job that can go at the end of these
pub record IsNext (job : StoredJob) (jobs : List StoredJob) : Type 0 where
  pub new_key : keyed_job job.owner job.key jobs ≡ None
  pub room : count_of job.owner jobs < 10000
  pub number : job.head.job ≡ count_of job.owner jobs + 1
