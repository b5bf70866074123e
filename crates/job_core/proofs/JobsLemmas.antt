-- One owner's jobs in a list of many owners' jobs, after a job is added or changed.
use Rattle.std.proofs.Common.{◌≡◌, ◌==◌, ℕ, Bool, true, false, ◌&&◌, cond, List, [], ◌∷◌, ◌++◌, map, find, Option, None, Some, if◌then◌else◌, refl, sym, ap, subst, ◌∙◌}
use Rattle.std.specs.Str.{bytes_eq}
use Rattle.std.specs.Cmp.Lexicographic.{nat_list_eq_equiv, bytes_decides}
use Rattle.std.proofs.lemmas.Bool.{false≢true}
use Rattle.std.proofs.lemmas.List.{append-nil}
use Rattle.std.proofs.lemmas.List.Elements.{filter-append}
use Rattle.job_core.specs.Job.{StoredJob}
use Rattle.job_core.specs.Jobs.{jobs_of, SameJobs, with_job}
use Rattle.job_core.proofs.OwnerJobsLemmas.{map_jobs}

-- the test by which an owner's jobs are found
abbrev pub is_of : List ℕ → StoredJob → Bool
is_of owner j = bytes_eq owner j.owner

-- two lists have the same jobs where they have the same of one owner and of each other one
pub SameJobs-by : (owner : List ℕ) (a b : List StoredJob) → jobs_of owner a ≡ jobs_of owner b → ((o : List ℕ) → bytes_eq owner o ≡ false → jobs_of o a ≡ jobs_of o b) → SameJobs a b
SameJobs-by owner a b own others = λ o. by o (bytes_eq owner o) refl
  where
    by : (o : List ℕ) (t : Bool) → bytes_eq owner o ≡ t → jobs_of o a ≡ jobs_of o b
    by o true p = subst (λ q. jobs_of q a ≡ jobs_of q b) ((bytes_decides owner o).0 p) own
    by o false p = others o p

-- a job at the end is its owner's
pub jobs_of-push_own : (owner : List ℕ) (js : List StoredJob) (j : StoredJob) → j.owner ≡ owner → jobs_of owner (js ++ j ∷ []) ≡ jobs_of owner js ++ j ∷ []
jobs_of-push_own owner js j is =
    let found : bytes_eq owner j.owner ≡ true = ap (bytes_eq owner) is ∙ nat_list_eq_equiv.refl owner in
    filter-append (is_of owner) js (j ∷ []) ∙ ap (λ t. jobs_of owner js ++ cond t (j ∷ []) []) found

-- and no other's
pub jobs_of-push_other : (owner : List ℕ) (js : List StoredJob) (j : StoredJob) → bytes_eq owner j.owner ≡ false → jobs_of owner (js ++ j ∷ []) ≡ jobs_of owner js
jobs_of-push_other owner js j other =
    filter-append (is_of owner) js (j ∷ []) ∙ ap (λ t. jobs_of owner js ++ cond t (j ∷ []) []) other ∙ append-nil (jobs_of owner js)

-- a change of a job that keeps its owner
module _ (f : StoredJob → StoredJob) (keeps_owner : (j : StoredJob) → (f j).owner ≡ j.owner) where
  owner-change : (b : Bool) (j : StoredJob) → (if b then f j else j).owner ≡ j.owner
  owner-change true j = keeps_owner j
  owner-change false j = refl

  -- changes that job among the owner's
  pub with_job-own : (owner : List ℕ) (n : ℕ) (js : List StoredJob) → jobs_of owner (with_job owner n f js) ≡ map_jobs n f (jobs_of owner js)
  with_job-own owner n [] = refl
  with_job-own owner n (j ∷ js) = by (bytes_eq owner j.owner) refl (with_job-own owner n js)
    where
      by : (t : Bool) → bytes_eq owner j.owner ≡ t → jobs_of owner (with_job owner n f js) ≡ map_jobs n f
          (jobs_of owner js) → jobs_of owner (with_job owner n f (j ∷ js)) ≡ map_jobs n f
          (cond t (j ∷ jobs_of owner js) (jobs_of owner js))
      by true p rest =
          let x : StoredJob = if bytes_eq owner j.owner && (n == j.head.job) then f j else j in
          let found : bytes_eq owner x.owner ≡ true = ap (bytes_eq owner) (owner-change (bytes_eq owner j.owner && (n == j.head.job)) j) ∙ p in
          ap (λ t. cond t (x ∷ jobs_of owner (with_job owner n f js)) (jobs_of owner (with_job owner n f js))) found
          ∙ ap (λ t. (if t && (n == j.head.job) then f j else j) ∷ jobs_of owner (with_job owner n f js)) p
          ∙ ap (λ xs. (if n == j.head.job then f j else j) ∷ xs) rest
      by false p rest =
          let x : StoredJob = if bytes_eq owner j.owner && (n == j.head.job) then f j else j in
          let found : bytes_eq owner x.owner ≡ false = ap (bytes_eq owner) (owner-change (bytes_eq owner j.owner && (n == j.head.job)) j) ∙ p in
          ap (λ t. cond t (x ∷ jobs_of owner (with_job owner n f js)) (jobs_of owner (with_job owner n f js))) found ∙ rest

  -- and leaves those of another owner
  pub with_job-other : (owner o : List ℕ) (n : ℕ) (js : List StoredJob) → bytes_eq owner o ≡ false → jobs_of o (with_job owner n f js) ≡ jobs_of o js
  with_job-other owner o n [] other = refl
  with_job-other owner o n (j ∷ js) other = by (bytes_eq o j.owner) refl (with_job-other owner o n js other)
    where
      x : StoredJob
      x = if bytes_eq owner j.owner && (n == j.head.job) then f j else j

      same_owner : bytes_eq o x.owner ≡ bytes_eq o j.owner
      same_owner = ap (bytes_eq o) (owner-change (bytes_eq owner j.owner && (n == j.head.job)) j)

      -- a job of the other owner is left
      left : bytes_eq o j.owner ≡ true → bytes_eq owner j.owner ≡ false
      left p = ap (bytes_eq owner) (sym ((bytes_decides o j.owner).0 p)) ∙ other

      by : (t : Bool) → bytes_eq o j.owner ≡ t → jobs_of o (with_job owner n f js) ≡ jobs_of o js
          → jobs_of o (with_job owner n f (j ∷ js)) ≡ cond t (j ∷ jobs_of o js) (jobs_of o js)
      by true p rest =
          ap (λ t. cond t (x ∷ jobs_of o (with_job owner n f js)) (jobs_of o (with_job owner n f js)))
          (same_owner ∙ p) ∙ ap (λ t. (if t && (n == j.head.job) then f j else j)
          ∷ jobs_of o (with_job owner n f js)) (left p) ∙ ap (λ xs. j ∷ xs) rest
      by false p rest =
          ap (λ t. cond t (x ∷ jobs_of o (with_job owner n f js)) (jobs_of o (with_job owner n f js))) (same_owner ∙ p) ∙ rest

-- a job that the owner doesn't have isn't changed
pub with_job-absent : (f : StoredJob → StoredJob) (owner : List ℕ) (n : ℕ) (js : List StoredJob)
    → find (λ j. n == j.head.job) (jobs_of owner js) ≡ None → with_job owner n f js ≡ js
with_job-absent f owner n [] none = refl
with_job-absent f owner n (j ∷ js) none = by (bytes_eq owner j.owner) refl none (with_job-absent f owner n js)
  where
    x : StoredJob
    x = if bytes_eq owner j.owner && (n == j.head.job) then f j else j

    number : (u : Bool) → cond u (Some j) (find (λ j. n == j.head.job) (jobs_of owner js)) ≡ None
        → (find (λ j. n == j.head.job) (jobs_of owner js) ≡ None → with_job owner n f js ≡ js)
        → (if u then f j else j) ∷ with_job owner n f js ≡ j ∷ js
    number true none rest = cc
    number false none rest = ap (λ xs. j ∷ xs) (rest none)

    by : (t : Bool) → bytes_eq owner j.owner ≡ t → find (λ j. n == j.head.job)
        (cond t (j ∷ jobs_of owner js) (jobs_of owner js)) ≡ None
        → (find (λ j. n == j.head.job) (jobs_of owner js) ≡ None → with_job owner n f js ≡ js) → x
        ∷ with_job owner n f js ≡ j ∷ js
    by true p none rest =
        ap (λ t. (if t && (n == j.head.job) then f j else j) ∷ with_job owner n f js) p ∙ number (n == j.head.job) none rest
    by false p none rest =
        ap (λ t. (if t && (n == j.head.job) then f j else j) ∷ with_job owner n f js) p ∙ ap (λ xs. j ∷ xs) (rest none)
