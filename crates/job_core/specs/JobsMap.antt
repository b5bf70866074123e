-- The jobs of all owners, as a map from the owners.
use Rattle.std.specs.Prelude.{◌≡◌, ℕ, List, [], ◌∷◌, ◌++◌, String, string_bytes}
use Rattle.std.specs.declared.alloc.Global.{Global}
use Rattle.std.specs.List.{IsDistinct}
use Rattle.std.specs.Map.{keys_of}
use Rattle.std.specs.String.{string_eq}
use Rattle.job_core.specs.Job.{StoredJob}
use Rattle.job_core.specs.Jobs.{IsOwnersList}

-- the jobs of one owner after those of another
abbrev pub all_jobs : List (String Global × List StoredJob) → List StoredJob
all_jobs [] = []
all_jobs (e ∷ entries) = e.1 ++ all_jobs entries

-- each of the jobs is this owner's
abbrev pub AreOwnedBy : List ℕ → List StoredJob → Type 0
AreOwnedBy owner [] = Unit {0}
AreOwnedBy owner (j ∷ jobs) = (j.owner ≡ owner) × AreOwnedBy owner jobs

-- an owner's jobs are under the owner
pub record IsOwnersEntry (e : String Global × List StoredJob) : Type 0 where
  pub owned : AreOwnedBy (string_bytes e.0) e.1
  pub list : IsOwnersList e.1

-- each owner's jobs are under the owner
abbrev pub IsByOwner : List (String Global × List StoredJob) → Type 0
IsByOwner [] = Unit {0}
IsByOwner (e ∷ entries) = IsOwnersEntry e × IsByOwner entries

-- the map of all owners' jobs
pub record IsJobsMap (entries : List (String Global × List StoredJob)) : Type 0 where
  pub by_owner : IsByOwner entries
  pub owners : IsDistinct string_eq (keys_of entries)
