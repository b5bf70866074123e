-- The map from owners to their jobs, as one list of jobs.
use Rattle.std.proofs.Common.{
  ◌≡◌,
  ◌==◌,
  ℕ,
  Bool,
  true,
  false,
  cond,
  List,
  [],
  ◌∷◌,
  ◌++◌,
  map,
  Option,
  None,
  Some,
  Result,
  Ok,
  Err,
  String,
  string_bytes,
  unwrap_or,
  is_some,
  if◌then◌else◌,
  refl,
  sym,
  ap,
  subst,
  ◌∙◌,
}
use Rattle.std.specs.declared.alloc.Global.{Global}
use Rattle.std.specs.Prelude.{IsSome, OnOk, OnErr}
use Rattle.std.specs.List.{IsDistinct, AllByRecursion}
use Rattle.std.specs.Map.{lookup, keys_of, set_value}
use Rattle.std.specs.Str.{bytes_eq}
use Rattle.std.specs.String.{string_eq}
use Rattle.std.specs.Cmp.Lexicographic.{nat_list_eq_equiv, bytes_decides}
use Rattle.std.proofs.lemmas.List.{append-nil}
use Rattle.std.proofs.lemmas.List.Elements.{filter-append}
use Rattle.std.proofs.lemmas.Map.Steps.{set_value_same}
use Rattle.std.proofs.lemmas.Map.Text.{hash_map_updates_text}
use Rattle.indexmap.specs.IndexMap.{IndexMap, insert_entry, IsUnique, Updates, UpdatesBy, WritesThrough}
use Rattle.indexmap.proofs.CallerLemmas.{insert_entry-new}
use Rattle.job_core.specs.Job.{StoredJob}
use Rattle.job_core.specs.Jobs.{jobs_of, SameJobs, with_job, IsKept, IsOwnersList}
use Rattle.job_core.specs.JobsMap.{all_jobs, AreOwnedBy, IsOwnersEntry, IsByOwner, IsJobsMap}
use Rattle.job_core.proofs.OwnerJobsLemmas.{map_jobs, IsOwnersMap-nil}
use Rattle.job_core.proofs.JobsLemmas.{is_of, SameJobs-by, jobs_of-push_own, jobs_of-push_other, with_job-own, with_job-other}

-- the map's entries
abbrev pub Entries : Type 0
Entries = List (String Global × List StoredJob)

-- the jobs under an owner
abbrev pub found : List ℕ → Entries → Option (List StoredJob)
found owner es = lookup (λ k. bytes_eq owner (string_bytes k)) es

-- jobs of one owner are all found under that owner
jobs_of-owned : (o owner : List ℕ) (js : List StoredJob) → AreOwnedBy owner js → bytes_eq o owner ≡ true → jobs_of o js ≡ js
jobs_of-owned o owner [] h same = refl
jobs_of-owned o owner (j ∷ js) h same =
    ap (λ t. cond t (j ∷ jobs_of o js) (jobs_of o js)) (ap (bytes_eq o) h.0 ∙ same) ∙ ap (λ xs. j ∷ xs) (jobs_of-owned o owner js h.1 same)

-- and none under another
jobs_of-unowned : (o owner : List ℕ) (js : List StoredJob) → AreOwnedBy owner js → bytes_eq o owner ≡ false → jobs_of o js ≡ []
jobs_of-unowned o owner [] h other = refl
jobs_of-unowned o owner (j ∷ js) h other =
    ap (λ t. cond t (j ∷ jobs_of o js) (jobs_of o js)) (ap (bytes_eq o) h.0 ∙ other) ∙ jobs_of-unowned o owner js h.1 other

-- an owner who isn't in the map has no jobs
jobs_of-absent : (o : List ℕ) (k : String Global) (es : Entries) → IsByOwner es
    → AllByRecursion (λ y. string_eq k y ≡ false) (keys_of es) → bytes_eq o (string_bytes k) ≡ true
    → jobs_of o (all_jobs es) ≡ []
jobs_of-absent o k [] h absent same = refl
jobs_of-absent o k (e ∷ es) h absent same =
    let other : bytes_eq o (string_bytes e.0) ≡ false = nat_list_eq_equiv.congr o (string_bytes k) (string_bytes e.0) same ∙ absent.0 in
    filter-append (is_of o) e.1 (all_jobs es) ∙ ap (λ xs. xs ++ jobs_of o (all_jobs es))
    (jobs_of-unowned o (string_bytes e.0) e.1 h.0.owned other) ∙ jobs_of-absent o k es h.1 absent.1 same

-- the jobs of an owner are those under the owner
pub jobs_of-all_jobs : (o : List ℕ) (es : Entries) → IsByOwner es → IsDistinct string_eq (keys_of es) → jobs_of o (all_jobs es) ≡ unwrap_or (found o es) []
unfolding IsDistinct
jobs_of-all_jobs o [] h distinct = refl
jobs_of-all_jobs o (e ∷ es) h distinct = by (bytes_eq o (string_bytes e.0)) refl (jobs_of-all_jobs o es h.1 distinct.1)
  where
    by : (t : Bool) → bytes_eq o (string_bytes e.0) ≡ t → jobs_of o (all_jobs es) ≡ unwrap_or (found o es) []
        → jobs_of o (e.1 ++ all_jobs es) ≡ unwrap_or (cond t (Some e.1) (found o es)) []
    by true p rest =
        filter-append (is_of o) e.1 (all_jobs es) ∙ ap (λ xs. xs ++ jobs_of o (all_jobs es))
        (jobs_of-owned o (string_bytes e.0) e.1 h.0.owned p)
        ∙ ap (λ xs. e.1 ++ xs) (jobs_of-absent o e.0 es h.1 distinct.0 p) ∙ append-nil e.1
    by false p rest =
        filter-append (is_of o) e.1 (all_jobs es) ∙ ap (λ xs. xs ++ jobs_of o (all_jobs es)) (jobs_of-unowned o (string_bytes e.0) e.1 h.0.owned p) ∙ rest

-- what is found under an owner is an owner's list
list-found : (o : List ℕ) (es : Entries) → IsByOwner es → IsOwnersList (unwrap_or (found o es) [])
list-found o [] h = IsOwnersMap-nil.list
list-found o (e ∷ es) h =
    elim (bytes_eq o (string_bytes e.0)) as (λ t. IsOwnersList (unwrap_or (cond t (Some e.1) (found o es)) [])) [ true ↦ h.0.list | false ↦ list-found o es h.1 ]

-- and is that owner's
owned-found : (o : List ℕ) (es : Entries) → IsByOwner es → AreOwnedBy o (unwrap_or (found o es) [])
owned-found o [] h = tt
owned-found o (e ∷ es) h = by (bytes_eq o (string_bytes e.0)) refl (owned-found o es h.1)
  where
    by : (t : Bool) → bytes_eq o (string_bytes e.0) ≡ t → AreOwnedBy o (unwrap_or (found o es) []) → AreOwnedBy o (unwrap_or (cond t (Some e.1) (found o es)) [])
    by true p rest = subst (λ q. AreOwnedBy q e.1) (sym ((bytes_decides o (string_bytes e.0)).0 p)) h.0.owned
    by false p rest = rest

-- a map of jobs shows what a keeper may hold
pub IsKept-all_jobs : (es : Entries) → IsJobsMap es → IsKept (all_jobs es)
IsKept-all_jobs es h = λ o. subst IsOwnersList (sym (jobs_of-all_jobs o es h.by_owner h.owners)) (list-found o es h.by_owner)

-- the jobs that are found under an owner
module _ (owner : List ℕ) (es : Entries) (now : List StoredJob) (view : all_jobs es ≡ now) (h : IsJobsMap es) where
  pub jobs_of-none : found owner es ≡ None → jobs_of owner now ≡ []
  jobs_of-none none =
      subst (λ js. jobs_of owner js ≡ []) view (jobs_of-all_jobs owner es h.by_owner h.owners ∙ ap (λ f. unwrap_or f []) none)

  pub jobs_of-found : (js : List StoredJob) → found owner es ≡ Some js → jobs_of owner now ≡ js
  jobs_of-found js some =
      subst (λ all. jobs_of owner all ≡ js) view (jobs_of-all_jobs owner es h.by_owner h.owners ∙ ap (λ f. unwrap_or f []) some)

  pub kept-now : IsKept now
  kept-now = subst IsKept view (IsKept-all_jobs es h)

  owned-now : AreOwnedBy owner (jobs_of owner now)
  owned-now =
      subst (λ js. AreOwnedBy owner (jobs_of owner js)) view (subst (AreOwnedBy owner) (sym (jobs_of-all_jobs owner es h.by_owner h.owners)) (owned-found owner es h.by_owner))

-- jobs written under an owner who is in the map
IsByOwner-set_value : (owner : List ℕ) (w : List StoredJob) (es : Entries) → IsByOwner es → AreOwnedBy owner w
    → IsOwnersList w → IsByOwner (set_value (λ k. bytes_eq owner (string_bytes k)) es w)
IsByOwner-set_value owner w [] h owned list = tt
IsByOwner-set_value owner w (e ∷ es) h owned list = by (bytes_eq owner (string_bytes e.0)) refl (IsByOwner-set_value owner w es h.1 owned list)
  where
    by : (t : Bool) → bytes_eq owner (string_bytes e.0) ≡ t → IsByOwner
        (set_value (λ k. bytes_eq owner (string_bytes k)) es w)
        → IsByOwner (cond t ((e.0, w) ∷ es) (e ∷ set_value (λ k. bytes_eq owner (string_bytes k)) es w))
    by true p rest =
        (record { owned = subst (λ q. AreOwnedBy q w) ((bytes_decides owner (string_bytes e.0)).0 p) owned; list = list }, h.1)
    by false p rest = (h.0, rest)

-- jobs inserted under an owner who isn't
IsByOwner-push : (k : String Global) (w : List StoredJob) (es : Entries) → IsByOwner es → AreOwnedBy (string_bytes k) w → IsOwnersList w → IsByOwner (es ++ (k, w) ∷ [])
IsByOwner-push k w [] h owned list = (record { owned = owned; list = list }, tt)
IsByOwner-push k w (e ∷ es) h owned list = (h.0, IsByOwner-push k w es h.1 owned list)

-- new jobs under one owner, and the others' as they were
pub record Changed (owner : List ℕ) (old new : Entries) (w : List StoredJob) : Type 0 where
  pub map : IsJobsMap new
  pub at : (o : List ℕ) → found o new ≡ cond (bytes_eq owner o) (Some w) (found o old)

module _ {S : Type 0} (m n : IndexMap (String Global) (List StoredJob) S) (h : IsJobsMap m.entries) where
  pub Changed-written : (owner : List ℕ) (w : List StoredJob) → AreOwnedBy owner w → IsOwnersList w
      → IsSome (found owner m.entries) → WritesThrough string_eq (λ k. bytes_eq owner (string_bytes k)) m w n
      → Changed owner m.entries n.entries w
  Changed-written owner w owned list some writes = record {
    map = record {
      by_owner = subst IsByOwner (sym writes.0) (IsByOwner-set_value owner w m.entries h.by_owner owned list);
      owners = writes.4;
    };
    at = hash_map_updates_text owner m n (Some w) (writes.3 some);
  }

  pub Changed-inserted : (owner : List ℕ) (k : String Global) (w : List StoredJob) → string_bytes k ≡ owner
      → AreOwnedBy owner w → IsOwnersList w → found owner m.entries ≡ None
      → n.entries ≡ insert_entry string_eq m.entries k w → Updates string_eq m n k (Some w) → IsUnique string_eq n
      → Changed owner m.entries n.entries w
  Changed-inserted owner k w name owned list none inserted updates unique = record {
    map = record {
      by_owner =
          let behind = insert_entry-new string_eq m k w (subst (λ q. found q m.entries ≡ None) (sym name) none) in
          subst IsByOwner (sym (inserted ∙ behind)) (IsByOwner-push k w m.entries h.by_owner (subst (λ q. AreOwnedBy q w) (sym name) owned) list);
      owners = unique;
    };
    at = subst (λ q. (o : List ℕ) → found o n.entries ≡ cond (bytes_eq q o) (Some w) (found o m.entries)) name (hash_map_updates_text (string_bytes k) m n (Some w) updates);
  }

-- the lists before and after such a change
module _ (owner : List ℕ) (old new : Entries) (now w : List StoredJob) (view : all_jobs old ≡ now) (h : IsJobsMap old) (changed : Changed owner old new w) where
  pub changed-own : jobs_of owner (all_jobs new) ≡ w
  changed-own =
      jobs_of-all_jobs owner new changed.map.by_owner changed.map.owners ∙ ap (λ f. unwrap_or f []) (changed.at owner)
      ∙ ap (λ t. unwrap_or (cond t (Some w) (found owner old)) []) (nat_list_eq_equiv.refl owner)

  pub changed-other : (o : List ℕ) → bytes_eq owner o ≡ false → jobs_of o (all_jobs new) ≡ jobs_of o now
  changed-other o other =
      jobs_of-all_jobs o new changed.map.by_owner changed.map.owners ∙ ap (λ f. unwrap_or f []) (changed.at o)
      ∙ ap (λ t. unwrap_or (cond t (Some w) (found o old)) []) other
      ∙ sym (jobs_of-all_jobs o old h.by_owner h.owners) ∙ ap (jobs_of o) view

  -- a job behind the owner's others
  pub SameJobs-push : (j : StoredJob) → j.owner ≡ owner → w ≡ jobs_of owner now ++ j ∷ [] → SameJobs (all_jobs new) (now ++ j ∷ [])
  SameJobs-push j is behind =
      SameJobs-by owner (all_jobs new) (now ++ j ∷ []) (changed-own ∙ behind ∙ sym (jobs_of-push_own owner now j is))
      (λ o other. changed-other o other
      ∙ sym (jobs_of-push_other o now j (ap (bytes_eq o) is ∙ nat_list_eq_equiv.symm o owner ∙ other)))

  -- one of the owner's jobs changed
  pub SameJobs-with_job : (f : StoredJob → StoredJob) → ((j : StoredJob) → (f j).owner ≡ j.owner) → (n : ℕ)
      → w ≡ map_jobs n f (jobs_of owner now) → SameJobs (all_jobs new) (with_job owner n f now)
  SameJobs-with_job f keeps_owner n is =
      SameJobs-by owner (all_jobs new) (with_job owner n f now)
      (changed-own ∙ is ∙ sym (with_job-own f keeps_owner owner n now))
      (λ o other. changed-other o other ∙ sym (with_job-other f keeps_owner owner o n now other))

-- a change of a job of an owner who has none
pub SameJobs-none : (owner : List ℕ) (now : List StoredJob) → jobs_of owner now ≡ [] → (f : StoredJob → StoredJob)
    → ((j : StoredJob) → (f j).owner ≡ j.owner) → (n : ℕ) → SameJobs now (with_job owner n f now)
SameJobs-none owner now none f keeps_owner n =
    SameJobs-by owner now (with_job owner n f now)
    (none ∙ sym (ap (map_jobs n f) none) ∙ sym (with_job-own f keeps_owner owner n now))
    (λ o other. sym (with_job-other f keeps_owner owner o n now other))

-- a changed job is its owner's
pub AreOwnedBy-map_jobs : (f : StoredJob → StoredJob) → ((j : StoredJob) → (f j).owner ≡ j.owner)
    → (owner : List ℕ) (n : ℕ) (js : List StoredJob) → AreOwnedBy owner js → AreOwnedBy owner (map_jobs n f js)
AreOwnedBy-map_jobs f keeps_owner owner n [] h = tt
AreOwnedBy-map_jobs f keeps_owner owner n (j ∷ js) h =
    (elim (n == j.head.job) as (λ t. (if t then f j else j).owner ≡ owner) [ true ↦ keeps_owner j ∙ h.0 | false ↦ h.0 ], AreOwnedBy-map_jobs f keeps_owner owner n js h.1)

-- and so is one that is added
pub AreOwnedBy-push : (owner : List ℕ) (js : List StoredJob) (j : StoredJob) → AreOwnedBy owner js → j.owner ≡ owner → AreOwnedBy owner (js ++ j ∷ [])
AreOwnedBy-push owner [] j h is = (is, tt)
AreOwnedBy-push owner (i ∷ js) j h is = (h.0, AreOwnedBy-push owner js j h.1 is)

-- no jobs are such a map
pub IsJobsMap-nil : IsJobsMap []
unfolding IsDistinct
IsJobsMap-nil = record { by_owner = tt; owners = tt }

-- what a change of one owner's jobs leaves: such a map, and these jobs
pub record Leaves (new : Entries) (jobs : List StoredJob) : Type 0 where
  pub map : IsJobsMap new
  pub same : SameJobs (all_jobs new) jobs

-- an owner's jobs written back with one of them changed
pub changed-job : {S : Type 0} (m n : IndexMap (String Global) (List StoredJob) S) (now : List StoredJob)
    → all_jobs m.entries ≡ now → IsJobsMap m.entries → (owner : List ℕ) (js w : List StoredJob)
    (f : StoredJob → StoredJob) → ((j : StoredJob) → (f j).owner ≡ j.owner) → (number : ℕ)
    → found owner m.entries ≡ Some js → w ≡ map_jobs number f js → IsOwnersList w
    → WritesThrough string_eq (λ k. bytes_eq owner (string_bytes k)) m w n
    → Leaves n.entries (with_job owner number f now)
changed-job m n now view h owner js w f keeps_owner number some is list writes =
    let had : jobs_of owner now ≡ js = jobs_of-found owner m.entries now view h js some in
    let owned : AreOwnedBy owner js = subst (AreOwnedBy owner) had (owned-now owner m.entries now view h) in
    let owned_now : AreOwnedBy owner w = subst (AreOwnedBy owner) (sym is) (AreOwnedBy-map_jobs f keeps_owner owner number js owned) in
    let there : IsSome (found owner m.entries) = ap is_some some in
    let changed : Changed owner m.entries n.entries w = Changed-written m n h owner w owned_now list there writes in
    record {
      map = changed.map;
      same = SameJobs-with_job owner m.entries n.entries now w view h changed f keeps_owner number (is ∙ ap (map_jobs number f) (sym had));
    }

-- an owner's jobs written back with one more
pub added-job : {S : Type 0} (m n : IndexMap (String Global) (List StoredJob) S) (now : List StoredJob)
    → all_jobs m.entries ≡ now → IsJobsMap m.entries → (owner : List ℕ) (js w : List StoredJob) (j : StoredJob)
    → j.owner ≡ owner → found owner m.entries ≡ Some js → w ≡ js ++ j ∷ [] → IsOwnersList w
    → WritesThrough string_eq (λ k. bytes_eq owner (string_bytes k)) m w n → Leaves n.entries (now ++ j ∷ [])
added-job m n now view h owner js w j own some is list writes =
    let had : jobs_of owner now ≡ js = jobs_of-found owner m.entries now view h js some in
    let owned : AreOwnedBy owner js = subst (AreOwnedBy owner) had (owned-now owner m.entries now view h) in
    let owned_now : AreOwnedBy owner w = subst (AreOwnedBy owner) (sym is) (AreOwnedBy-push owner js j owned own) in
    let there : IsSome (found owner m.entries) = ap is_some some in
    let changed : Changed owner m.entries n.entries w = Changed-written m n h owner w owned_now list there writes in
    record {
      map = changed.map;
      same = SameJobs-push owner m.entries n.entries now w view h changed j own (is ∙ ap (λ xs. xs ++ j ∷ []) (sym had));
    }

-- the first job of an owner
pub first-job : {S : Type 0} (m n : IndexMap (String Global) (List StoredJob) S) (now : List StoredJob)
    → all_jobs m.entries ≡ now → IsJobsMap m.entries → (owner : List ℕ) (k : String Global) (w : List StoredJob)
    (j : StoredJob) → string_bytes k ≡ owner → j.owner ≡ owner → found owner m.entries ≡ None → w ≡ j ∷ []
    → IsOwnersList w → n.entries ≡ insert_entry string_eq m.entries k w → Updates string_eq m n k (Some w)
    → IsUnique string_eq n → Leaves n.entries (now ++ j ∷ [])
first-job m n now view h owner k w j name own none is list inserted updates unique =
    let had : jobs_of owner now ≡ [] = jobs_of-none owner m.entries now view h none in
    let owned_now : AreOwnedBy owner w = subst (AreOwnedBy owner) (sym is) (own, tt) in
    let changed : Changed owner m.entries n.entries w = Changed-inserted m n h owner k w name owned_now list none inserted updates unique in
    record {
      map = changed.map;
      same = SameJobs-push owner m.entries n.entries now w view h changed j own (is ∙ ap (λ xs. xs ++ j ∷ []) (sym had));
    }

-- what an attempt to add a job leaves
pub record Attempts {T E : Type 0} (r : Result T E) (new : Entries) (jobs now : List StoredJob) : Type 0 where
  pub map : IsJobsMap new
  pub ok : OnOk r (SameJobs (all_jobs new) jobs)
  pub err : OnErr r (all_jobs new ≡ now)

-- an attempt to add a job behind an owner's others
pub attempts-job : {T E S : Type 0} (r : Result T E) (m n : IndexMap (String Global) (List StoredJob) S)
    (now : List StoredJob) → all_jobs m.entries ≡ now → IsJobsMap m.entries
    → (owner : List ℕ) (js w : List StoredJob) (j : StoredJob) → j.owner ≡ owner → found owner m.entries ≡ Some js
    → OnOk r (w ≡ js ++ j ∷ []) → OnOk r (IsOwnersList w) → OnErr r (w ≡ js)
    → WritesThrough string_eq (λ k. bytes_eq owner (string_bytes k)) m w n → Attempts r n.entries (now ++ j ∷ []) now
attempts-job (Ok x) m n now view h owner js w j own some is list err writes =
    let leaves : Leaves n.entries (now ++ j ∷ []) = added-job m n now view h owner js w j own some is list writes in
    record { map = leaves.map; ok = leaves.same; err = tt }
attempts-job (Err e) m n now view h owner js w j own some is list err writes =
    let same : n.entries ≡ m.entries = writes.0 ∙ set_value_same (λ k. bytes_eq owner (string_bytes k)) m.entries w (some ∙ ap Some (sym err)) in
    record { map = subst IsJobsMap (sym same) h; ok = tt; err = ap all_jobs same ∙ view }

-- it is such a map where it is done
pub kept-attempt : {T E : Type 0} (r : Result T E) (new : Entries) → IsJobsMap new → OnOk r (IsKept (all_jobs new))
kept-attempt (Ok x) new h = IsKept-all_jobs new h
kept-attempt (Err e) new h = tt
