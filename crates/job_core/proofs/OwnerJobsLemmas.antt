-- The jobs of one owner: finding one, changing one, and adding one.
use Rattle.std.proofs.Common.{
  ◌≡◌,
  ◌==◌,
  ℕ,
  zero,
  suc,
  ◌+◌,
  ◌<◌,
  ◌≤◌,
  Bool,
  true,
  false,
  cond,
  List,
  [],
  ◌∷◌,
  ◌++◌,
  length,
  map,
  find,
  Option,
  None,
  Some,
  String,
  string_bytes,
  slice_get,
  if◌then◌else◌,
  refl,
  sym,
  ap,
  subst,
  ◌∙◌,
  arith,
  eqb,
  inl,
  inr,
  ◌-◌,
  Bor,
  length-set,
  length-append,
}
use Rattle.std.specs.declared.alloc.Global.{Global}
use Rattle.std.specs.Prelude.{All, slice_set}
use Rattle.std.specs.List.{IsDistinct, AllByRecursion}
use Rattle.std.specs.Map.{lookup, values_of}
use Rattle.std.specs.Option.{option_map, option_map_or, option_copied}
use Rattle.std.specs.Str.{bytes_eq}
use Rattle.std.specs.String.{string_eq}
use Rattle.std.specs.Cmp.Lexicographic.{nat_list_eq_equiv}
use Rattle.indexmap.specs.IndexMap.{IndexMap, set_value_at, insert_entry}
use Rattle.indexmap.proofs.CallerLemmas.{insert_entry-new}
use Rattle.std.proofs.lemmas.Bool.{cases_lt}
use Rattle.std.proofs.lemmas.Bool.Decides.{nat_tests}
use Rattle.std.proofs.lemmas.Option.{slice_get_past}
use Rattle.std.proofs.lemmas.List.{map-append}
use Rattle.std.proofs.lemmas.List.Elements.{All-push, All-head, All-tail, All-cons, All-nil}
use Rattle.job_core.specs.Job.{StoredJob, stored}
use Rattle.job_core.specs.Jobs.{RunsFrom, IsOwnersList, numbered, judged_reports}
use Rattle.job_core.specs.OwnerJobs.{stored_jobs, IsByKey, IsOwnersMap}
use Rattle.job_core.specs.declared.job.Job.{Job}
use Rattle.job_core.specs.declared.job.Judged.{Judged}
use Rattle.job_core.specs.declared.job.Verdict.{Verdict}

-- the jobs with that of this number changed
abbrev pub map_jobs : ℕ → (StoredJob → StoredJob) → List StoredJob → List StoredJob
map_jobs number f js = map (λ j. if number == j.head.job then f j else j) js

-- a look-up in the map finds the job under the key
pub find-stored_jobs : (key : List ℕ) (es : List (String Global × Job)) → IsByKey es
    → find (λ j. bytes_eq key j.key) (stored_jobs es) ≡ option_map stored
    (lookup (λ k. bytes_eq key (string_bytes k)) es)
find-stored_jobs key [] h = refl
find-stored_jobs key (e ∷ es) h =
    let found : Bool → Option StoredJob = λ b. cond b (Some (stored e.1)) (find (λ j. bytes_eq key j.key) (stored_jobs es)) in
    let stands : Bool → Option StoredJob = λ b. option_map stored (cond b (Some e.1) (lookup (λ k. bytes_eq key (string_bytes k)) es)) in
    subst (λ t. found (bytes_eq key t) ≡ stands (bytes_eq key (string_bytes e.0))) (sym h.0)
    (elim (bytes_eq key (string_bytes e.0)) as (λ b. found b ≡ stands b)
    [ true ↦ refl | false ↦ find-stored_jobs key es h.1 ])

-- below the first number there is no job
pub find-below : (n m : ℕ) (js : List StoredJob) → m < n → RunsFrom n js → find (λ j. m == j.head.job) js ≡ None
find-below n m [] lt h = refl
find-below n m (j ∷ js) lt h =
    let off : eqb m j.head.job ≡ false = grind (arith, nat_tests) in
    rw off (find-below (n + 1) m js (omega arith) h.1)

-- the job with a number is that at its place
pub find-numbered : (n i : ℕ) (js : List StoredJob) → RunsFrom n js → find (λ j. (n + i) == j.head.job) js ≡ slice_get js i
find-numbered n i [] h = refl
find-numbered n zero (j ∷ js) h =
    let on : eqb (n + 0) j.head.job ≡ true = grind (arith, nat_tests) in
    rw on refl
find-numbered n (suc i) (j ∷ js) h =
    let off : eqb (n + suc i) j.head.job ≡ false = grind (arith, nat_tests) in
    let same : n + suc i ≡ n + 1 + i = omega arith in
    rw off (subst (λ m. find (λ j. m == j.head.job) js ≡ slice_get js i) (sym same) (find-numbered (n + 1) i js h.1))

-- the job with a number, from 1
pub find-from_one : (m : ℕ) (js : List StoredJob) → RunsFrom 1 js → find (λ j. m == j.head.job) js ≡ numbered m js
find-from_one zero js h = find-below 1 0 js (omega arith) h
find-from_one (suc i) js h =
    let same : suc i ≡ 1 + i = omega arith in
    subst (λ m. find (λ j. m == j.head.job) js ≡ slice_get js i) (sym same) (find-numbered 1 i js h)

-- a change below the first number changes nothing
pub change-below : (f : StoredJob → StoredJob) (n m : ℕ) (js : List StoredJob) → m < n → RunsFrom n js → map (λ j. if m == j.head.job then f j else j) js ≡ js
change-below f n m [] lt h = refl
change-below f n m (j ∷ js) lt h =
    let off : eqb m j.head.job ≡ false = grind (arith, nat_tests) in
    rw off (ap (λ rest. j ∷ rest) (change-below f (n + 1) m js (omega arith) h.1))

-- nothing is changed where the place is past the end
pub change-past : (f : StoredJob → StoredJob) (n i : ℕ) (js : List StoredJob) → RunsFrom n js → slice_get js i ≡ None → map (λ j. if (n + i) == j.head.job then f j else j) js ≡ js
change-past f n i [] h past = refl
change-past f n zero (j ∷ js) h past = cc
change-past f n (suc i) (j ∷ js) h past =
    let off : eqb (n + suc i) j.head.job ≡ false = grind (arith, nat_tests) in
    let same : n + suc i ≡ n + 1 + i = omega arith in
    rw off (ap (λ rest. j ∷ rest) (subst (λ m. map (λ j. if m == j.head.job then f j else j) js ≡ js) (sym same) (change-past f (n + 1) i js h.1 past)))

-- a write at a place changes the job with that number
pub change-at : (f : StoredJob → StoredJob) (n i : ℕ) (v w : Job) (es : List (String Global × Job))
    → RunsFrom n (stored_jobs es) → slice_get (values_of es) i ≡ Some v → stored w ≡ f (stored v)
    → stored_jobs (set_value_at es i w) ≡ map (λ j. if (n + i) == j.head.job then f j else j) (stored_jobs es)
change-at f n i v w [] h at is = refl
change-at f n zero v w (e ∷ es) h at is =
    let on : eqb (n + 0) (stored e.1).head.job ≡ true = grind (arith, nat_tests) in
    let here : e.1 ≡ v = cc in
    let rest : map (λ j. if (n + 0) == j.head.job then f j else j) (stored_jobs es) ≡ stored_jobs es = change-below f (n + 1) (n + 0) (stored_jobs es) (omega arith) h.1 in
    rw (on, rest) (ap (λ x. x ∷ stored_jobs es) (is ∙ ap (λ x. f (stored x)) (sym here)))
change-at f n (suc i) v w (e ∷ es) h at is =
    let off : eqb (n + suc i) (stored e.1).head.job ≡ false = grind (arith, nat_tests) in
    let same : n + suc i ≡ n + 1 + i = omega arith in
    rw off (ap (λ rest. stored e.1 ∷ rest) (subst (λ m. stored_jobs (set_value_at es i w) ≡ map
    (λ j. if m == j.head.job then f j else j) (stored_jobs es)) (sym same)
    (change-at f (n + 1) i v w es h.1 at is)))

-- a write that keeps the key leaves each job under its key
pub IsByKey-set_value_at : (i : ℕ) (v w : Job) (es : List (String Global × Job)) → IsByKey es → slice_get (values_of es) i ≡ Some v → w.key ≡ v.key → IsByKey (set_value_at es i w)
IsByKey-set_value_at i v w [] h at same = tt
IsByKey-set_value_at zero v w (e ∷ es) h at same =
    let here : e.1 ≡ v = cc in
    (same ∙ ap (λ (x : Job). x.key) (sym here) ∙ h.0, h.1)
IsByKey-set_value_at (suc i) v w (e ∷ es) h at same = (h.0, IsByKey-set_value_at i v w es h.1 at same)

-- a change that keeps keys, numbers and counts keeps an owner's list
module _ (test : StoredJob → Bool) (f : StoredJob → StoredJob) (keeps_key : (j : StoredJob) → (f j).key ≡ j.key)
    (keeps_number : (j : StoredJob) → (f j).head.job ≡ j.head.job)
    (keeps_count : (j : StoredJob) → j.head.reports ≡ length j.reports → (f j).head.reports ≡ length (f j).reports)
  where
    abbrev change : StoredJob → StoredJob
    change j = if test j then f j else j

    change-key : (j : StoredJob) → (change j).key ≡ j.key
    change-key j = elim (test j) as (λ b. (if b then f j else j).key ≡ j.key) [ true ↦ keeps_key j | false ↦ refl ]

    change-number : (j : StoredJob) → (change j).head.job ≡ j.head.job
    change-number j = elim (test j) as (λ b. (if b then f j else j).head.job ≡ j.head.job) [ true ↦ keeps_number j | false ↦ refl ]

    change-count : (j : StoredJob) → j.head.reports ≡ length j.reports → (change j).head.reports ≡ length (change j).reports
    change-count j h = elim (test j) as (λ b. (if b then f j else j).head.reports ≡ length (if b then f j else j).reports) [ true ↦ keeps_count j h | false ↦ h ]

    RunsFrom-change : (n : ℕ) (js : List StoredJob) → RunsFrom n js → RunsFrom n (map change js)
    RunsFrom-change n [] h = tt
    RunsFrom-change n (j ∷ js) h = (change-number j ∙ h.0, RunsFrom-change (n + 1) js h.1)

    keys-change : (js : List StoredJob) → map (λ j. j.key) (map change js) ≡ map (λ j. j.key) js
    keys-change [] = refl
    keys-change (j ∷ js) = λ i. change-key j i ∷ keys-change js i

    length-change : (js : List StoredJob) → length (map change js) ≡ length js
    length-change [] = refl
    length-change (j ∷ js) = ap suc (length-change js)

    counts-change : (js : List StoredJob) → All (λ j. j.head.reports ≡ length j.reports) js → All (λ j. j.head.reports ≡ length j.reports) (map change js)
    counts-change [] h = All-nil _
    counts-change (j ∷ js) h =
        All-cons (λ j. j.head.reports ≡ length j.reports) (change j) (map change js)
        (change-count j (All-head (λ j. j.head.reports ≡ length j.reports) j js h))
        (counts-change js (All-tail (λ j. j.head.reports ≡ length j.reports) j js h))

    pub IsOwnersList-change : (js : List StoredJob) → IsOwnersList js → IsOwnersList (map (λ j. if test j then f j else j) js)
    IsOwnersList-change js h = record {
      numbers = RunsFrom-change 1 js h.numbers;
      keys = subst (IsDistinct bytes_eq) (sym (keys-change js)) h.keys;
      few = omega (arith, length-change js, h.few);
      reports = counts-change js h.reports;
    }

-- a number that no job has finds none
pub absent-number : (number : ℕ) (js : List StoredJob) → IsOwnersList js → ¬ ((0 < number) × (number ≤ length js)) → find (λ j. number == j.head.job) js ≡ None
absent-number zero js h out = find-below 1 0 js (omega arith) h.numbers
absent-number (suc i) js h out =
    let past : length js ≤ i = elim (cases_lt i (length js)) [ inl within ↦ absurd (out (omega arith, omega arith)) | inr p ↦ p ] in
    find-from_one (suc i) js h.numbers ∙ slice_get_past js i past

-- and a change of it changes nothing
pub change-absent : (f : StoredJob → StoredJob) (number : ℕ) (js : List StoredJob) → IsOwnersList js
    → ¬ ((0 < number) × (number ≤ length js)) → map (λ j. if number == j.head.job then f j else j) js ≡ js
change-absent f zero js h out = change-below f 1 0 js (omega arith) h.numbers
change-absent f (suc i) js h out =
    let past : length js ≤ i = elim (cases_lt i (length js)) [ inl within ↦ absurd (out (omega arith, omega arith)) | inr p ↦ p ] in
    let same : suc i ≡ 1 + i = omega arith in
    subst (λ m. map (λ j. if m == j.head.job then f j else j) js ≡ js) (sym same) (change-past f 1 i js h.numbers (slice_get_past js i past))

-- a number that a job has finds it at its place
pub find-place : (number place : ℕ) (js : List StoredJob) → IsOwnersList js → ((0 < number) × (number ≤ length js))
    × (place ≡ number - 1) → find (λ j. number == j.head.job) js ≡ slice_get js place
find-place zero place js h at = absurd (omega (arith, at.0.0))
find-place (suc i) place js h at =
    let same : i ≡ place = omega (arith, at.1) in
    find-from_one (suc i) js h.numbers ∙ ap (slice_get js) same

-- what is shown of a job that was found
pub shown-copied : (found : Option (Bor Job)) → option_map (λ j. stored j.now) found ≡ option_map stored (option_copied found)
shown-copied None = refl
shown-copied (Some j) = refl

-- the place of a job in the map
pub values-stored_jobs : (es : List (String Global × Job)) (i : ℕ) → slice_get (stored_jobs es) i ≡ option_map stored (slice_get (values_of es) i)
values-stored_jobs [] i = refl
values-stored_jobs (e ∷ es) zero = refl
values-stored_jobs (e ∷ es) (suc i) = values-stored_jobs es i

-- what a write of one job leaves
pub record Written (es new : List (String Global × Job)) (number : ℕ) (f : StoredJob → StoredJob) : Type 0 where
  pub map : IsOwnersMap new
  pub jobs : stored_jobs new ≡ map_jobs number f (stored_jobs es)

-- a write at the place of a number changes that job
module _ (f : StoredJob → StoredJob) (keeps_key : (j : StoredJob) → (f j).key ≡ j.key)
    (keeps_number : (j : StoredJob) → (f j).head.job ≡ j.head.job)
    (keeps_count : (j : StoredJob) → j.head.reports ≡ length j.reports → (f j).head.reports ≡ length (f j).reports)
  where
    pub written : (number place : ℕ) (v w : Job) (es : List (String Global × Job)) → IsOwnersMap es
        → ((0 < number) × (number ≤ length (stored_jobs es))) × (place ≡ number - 1)
        → slice_get (values_of es) place ≡ Some v → stored w ≡ f (stored v)
        → Written es (set_value_at es place w) number f
    written zero place v w es h at found is = absurd (omega (arith, at.0.0))
    written (suc i) place v w es h at found is =
        let same : suc i ≡ 1 + place = omega (arith, at.1) in
        let jobs : stored_jobs (set_value_at es place w) ≡ map_jobs (suc i) f (stored_jobs es) =
        subst (λ m. stored_jobs (set_value_at es place w) ≡ map_jobs m f (stored_jobs es)) (sym same)
        (change-at f 1 place v w es h.list.numbers found is) in
        let key : w.key ≡ v.key = ap (λ (j : StoredJob). j.key) is ∙ keeps_key (stored v) in
        record {
          map = record {
            by_key = IsByKey-set_value_at place v w es h.by_key found key;
            list = subst IsOwnersList (sym jobs) (IsOwnersList-change (λ j. suc i == j.head.job) f keeps_key keeps_number keeps_count (stored_jobs es) h.list);
          };
          jobs = jobs;
        }

-- a verdict keeps the number of reports
pub length-judged_reports : (n : ℕ) (verdict : Verdict) (note : List ℕ) (reports : List Judged) → length (judged_reports n verdict note reports) ≡ length reports
length-judged_reports n verdict note reports =
    elim (numbered n reports) as (λ found. length (option_map_or
    (λ r. slice_set reports (n - 1) (record r { verdict = verdict; note = note })) found reports) ≡ length
    reports) [ None ↦ refl | Some r ↦ length-set reports (n - 1) (record r { verdict = verdict; note = note }) ]

-- no jobs are an owner's list
pub IsOwnersMap-nil : IsOwnersMap []
unfolding IsDistinct
IsOwnersMap-nil = record { by_key = tt; list = record { numbers = tt; keys = tt; few = omega arith; reports = All-nil _ } }

-- a job that was read at its place, over the jobs that the map shows
module _ (number place : ℕ) (v : Job) (es : List (String Global × Job)) (now : List StoredJob)
    (view : stored_jobs es ≡ now) (h : IsOwnersMap es)
    (at : ((0 < number) × (number ≤ length now)) × (place ≡ number - 1))
    (found : slice_get (values_of es) place ≡ Some v) where
  at-stored : ((0 < number) × (number ≤ length (stored_jobs es))) × (place ≡ number - 1)
  at-stored = subst (λ js. ((0 < number) × (number ≤ length js)) × (place ≡ number - 1)) (sym view) at

  -- is the one with the number
  pub find-read : find (λ j. number == j.head.job) now ≡ Some (stored v)
  find-read =
      subst (λ js. find (λ j. number == j.head.job) js ≡ Some (stored v)) view
      (find-place number place (stored_jobs es) h.list at-stored ∙ values-stored_jobs es place
      ∙ ap (option_map stored) found)

  -- a write of it changes that job
  pub written-read : (f : StoredJob → StoredJob) → ((j : StoredJob) → (f j).key ≡ j.key)
      → ((j : StoredJob) → (f j).head.job ≡ j.head.job)
      → ((j : StoredJob) → j.head.reports ≡ length j.reports → (f j).head.reports ≡ length (f j).reports) → (w : Job)
      → stored w ≡ f (stored v) → Written es (set_value_at es place w) number f
  written-read f keeps_key keeps_number keeps_count w is =
      written f keeps_key keeps_number keeps_count number place v w es h at-stored found is

-- a new job at the end keeps an owner's list
RunsFrom-push : (n : ℕ) (js : List StoredJob) (j : StoredJob) → RunsFrom n js → j.head.job ≡ n + length js → RunsFrom n (js ++ j ∷ [])
RunsFrom-push n [] j h is = (is ∙ omega arith, tt)
RunsFrom-push n (i ∷ js) j h is = (h.0, RunsFrom-push (n + 1) js j h.1 (omega (arith, is)))

-- a key that isn't found differs from each
keys-differ : (j : StoredJob) (js : List StoredJob) → find (λ i. bytes_eq j.key i.key) js ≡ None → AllByRecursion (λ k. bytes_eq j.key k ≡ false) (map (λ i. i.key) js)
keys-differ j [] none = tt
keys-differ j (i ∷ js) none = by (bytes_eq j.key i.key) refl none (keys-differ j js)
  where
    by : (b : Bool) → bytes_eq j.key i.key ≡ b → cond b (Some i) (find (λ i. bytes_eq j.key i.key) js) ≡ None
        → (find (λ i. bytes_eq j.key i.key) js ≡ None → AllByRecursion (λ k. bytes_eq j.key k ≡ false)
        (map (λ i. i.key) js)) → AllByRecursion (λ k. bytes_eq j.key k ≡ false) (map (λ i. i.key) (i ∷ js))
    by true p found rest = cc
    by false p found rest = (p, rest found)

-- so the keys stay distinct behind it
keys-push : (k : List ℕ) (ks : List (List ℕ)) → AllByRecursion (λ x. bytes_eq k x ≡ false) ks → IsDistinct bytes_eq ks → IsDistinct bytes_eq (ks ++ k ∷ [])
unfolding IsDistinct
keys-push k [] new h = (tt, tt)
keys-push k (x ∷ ks) new h = (differs ks h.0, keys-push k ks new.1 h.1)
  where
    differs : (ys : List (List ℕ)) → AllByRecursion (λ y. bytes_eq x y ≡ false) ys → AllByRecursion (λ y. bytes_eq x y ≡ false) (ys ++ k ∷ [])
    differs [] d = (nat_list_eq_equiv.symm x k ∙ new.0, tt)
    differs (y ∷ ys) d = (d.0, differs ys d.1)

pub IsOwnersList-push : (js : List StoredJob) (j : StoredJob) → IsOwnersList js
    → find (λ i. bytes_eq j.key i.key) js ≡ None → length js < 10000 → j.head.job ≡ length js + 1
    → j.head.reports ≡ length j.reports → IsOwnersList (js ++ j ∷ [])
IsOwnersList-push js j h new room number count = record {
  numbers = RunsFrom-push 1 js j h.numbers (omega (arith, number));
  keys = subst (IsDistinct bytes_eq) (sym (map-append (λ (i : StoredJob). i.key) js (j ∷ []))) (keys-push j.key (map (λ i. i.key) js) (keys-differ j js new) h.keys);
  few = simp length-append (omega (arith, room));
  reports = All-push (λ i. i.head.reports ≡ length i.reports) js j h.reports count;
}

-- a key that no job has isn't in the map
lookup-absent : (key : List ℕ) (es : List (String Global × Job)) → IsByKey es
    → find (λ j. bytes_eq key j.key) (stored_jobs es) ≡ None → lookup (λ k. bytes_eq key (string_bytes k)) es ≡ None
lookup-absent key es h none =
    by (lookup (λ k. bytes_eq key (string_bytes k)) es) (sym (find-stored_jobs key es h) ∙ none)
  where
    by : (found : Option Job) → option_map stored found ≡ None → found ≡ None
    by None p = refl
    by (Some j) p = cc

-- a job inserted under its own new key goes to the end
module _ (es new : List (String Global × Job)) (key : String Global) (job : Job) (h : IsOwnersMap es)
    (name : string_bytes key ≡ job.key) (absent : find (λ j. bytes_eq job.key j.key) (stored_jobs es) ≡ None) where
  pub get-absent : lookup (string_eq key) es ≡ None
  get-absent = subst (λ k. lookup (λ q. bytes_eq k (string_bytes q)) es ≡ None) (sym name) (lookup-absent job.key es h.by_key absent)

  module _ (behind : new ≡ es ++ (key, job) ∷ []) where
    pub stored_jobs-push : stored_jobs new ≡ stored_jobs es ++ stored job ∷ []
    stored_jobs-push = ap stored_jobs behind ∙ map-append (λ (e : String Global × Job). stored e.1) es ((key, job) ∷ [])

    by_key-push : (xs : List (String Global × Job)) → IsByKey xs → IsByKey (xs ++ (key, job) ∷ [])
    by_key-push [] k = (sym name, tt)
    by_key-push (x ∷ xs) k = (k.0, by_key-push xs k.1)

    pub IsOwnersMap-push : length (stored_jobs es) < 10000 → job.head.job ≡ length (stored_jobs es) + 1 → job.head.reports ≡ length job.reports.items → IsOwnersMap new
    IsOwnersMap-push room number count = record {
      by_key = subst IsByKey (sym behind) (by_key-push es h.by_key);
      list = subst IsOwnersList (sym stored_jobs-push) (IsOwnersList-push (stored_jobs es) (stored job) h.list absent room number count);
    }

-- a job inserted into the map that shows these jobs
module _ {S : Type 0} (m : IndexMap (String Global) Job S) (new : List (String Global × Job)) (now : List StoredJob)
    (view : stored_jobs m.entries ≡ now) (h : IsOwnersMap m.entries) (key : String Global) (job : Job)
    (name : string_bytes key ≡ job.key) (absent : find (λ j. bytes_eq job.key j.key) now ≡ None)
    (inserted : new ≡ insert_entry string_eq m.entries key job) where
  absent-stored : find (λ j. bytes_eq job.key j.key) (stored_jobs m.entries) ≡ None
  absent-stored = subst (λ js. find (λ j. bytes_eq job.key j.key) js ≡ None) (sym view) absent

  behind : new ≡ m.entries ++ (key, job) ∷ []
  behind = inserted ∙ insert_entry-new string_eq m key job (get-absent m.entries new key job h name absent-stored)

  pub inserted-jobs : stored_jobs new ≡ now ++ stored job ∷ []
  inserted-jobs = stored_jobs-push m.entries new key job h name absent-stored behind ∙ ap (λ js. js ++ stored job ∷ []) view

  pub inserted-map : length now < 10000 → job.head.job ≡ length now + 1 → job.head.reports ≡ length job.reports.items → IsOwnersMap new
  inserted-map room number count =
      IsOwnersMap-push m.entries new key job h name absent-stored behind
      (subst (λ js. length js < 10000) (sym view) room)
      (subst (λ js. job.head.job ≡ length js + 1) (sym view) number) count
