-- What a keeper's calls tell, and when they may fail.
use Rattle.std.specs.Prelude.{◌≡◌, ℕ, ◌≤◌, List, Option, None, Some, Result, OnOk, IsErrOf}
use Rattle.io_ports.specs.Causes.{Rose}
use Rattle.job_core.specs.Job.{StoredJob}
use Rattle.job_core.specs.Jobs.{SameJobs}
use Rattle.job_core.specs.declared.fault.KeepFault.{KeepFault}
use Rattle.job_core.specs.declared.fault.KeepFault.TheVariants.{Failed, Memory}

-- `Failed` only where the count rose; no other answer changes it
pub record HasCause {T : Type 0} (before now : ℕ) (result : Result T KeepFault) : Type 0 where
  pub later : before ≤ now
  pub ok : OnOk result (now ≡ before)
  pub failed : IsErrOf result Failed → Rose before now
  pub memory : IsErrOf result Memory → now ≡ before

-- a keeper tells these jobs of each owner
abbrev pub Tells : Option (List StoredJob) → List StoredJob → Type 0
Tells None jobs = ⊥
Tells (Some told) jobs = SameJobs told jobs
