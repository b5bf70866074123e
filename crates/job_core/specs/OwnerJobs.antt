-- The jobs of one owner, as a map from their keys.
use Rattle.std.specs.Prelude.{◌≡◌, List, [], ◌∷◌, map, string_bytes, String}
use Rattle.std.specs.declared.alloc.Global.{Global}
use Rattle.job_core.specs.Job.{StoredJob, stored}
use Rattle.job_core.specs.Jobs.{IsOwnersList}
use Rattle.job_core.specs.declared.job.Job.{Job}

-- the jobs in the map's order
abbrev pub stored_jobs : List (String Global × Job) → List StoredJob
stored_jobs entries = map (λ e. stored e.1) entries

-- each job is under its own key
abbrev pub IsByKey : List (String Global × Job) → Type 0
IsByKey [] = Unit {0}
IsByKey (e ∷ entries) = (e.1.key ≡ string_bytes e.0) × IsByKey entries

-- the map of one owner's jobs
pub record IsOwnersMap (entries : List (String Global × Job)) : Type 0 where
  pub by_key : IsByKey entries
  pub list : IsOwnersList (stored_jobs entries)
