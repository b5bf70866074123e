-- A repeated key acts once.
use Rattle.std.proofs.Common.{
  ◌≡◌,
  ◌==◌,
  ℕ,
  suc,
  ◌+◌,
  Bool,
  true,
  false,
  ◌&&◌,
  cond,
  List,
  [],
  ◌∷◌,
  ◌++◌,
  length,
  map,
  find,
  Option,
  None,
  Some,
  is_none,
  nat_lt,
  if◌then◌else◌,
  refl,
  sym,
  ap,
  subst,
  ◌∙◌,
}
use Rattle.std.specs.Option.{option_map, option_map_or}
use Rattle.std.specs.Str.{bytes_eq}
use Rattle.std.specs.Cmp.Lexicographic.{nat_list_eq_equiv, bytes_decides}
use Rattle.job_core.specs.Job.{StoredJob}
use Rattle.job_core.specs.Jobs.{jobs_of, count_of, keyed_job, judged_job, closed_job, judged}
use Rattle.job_core.specs.Machine.{owner_of, new_job, has_room, repeat_reply, new_reply, reply_to, is_open, jobs_after, jobs_after_all, SameAnswer}
use Rattle.job_core.specs.declared.job.Made.{Made}
use Rattle.job_core.specs.declared.command.Command.{Command}
use Rattle.job_core.specs.declared.command.Command.TheVariants.{Add, Judge, Close}
use Rattle.job_core.specs.declared.command.Reply.{Reply}
use Rattle.job_core.specs.declared.command.Reply.TheVariants.{Head, KeyTaken, Closed, Full, NoSuch}
use Rattle.job_core.proofs.JobsLemmas.{jobs_of-push_own, jobs_of-push_other}
use Rattle.job_core.proofs.MachineLemmas.{jobs_of-map, one_job, one_job-keeps}

-- a job with this number and request stands under the owner's key
pub record Stands (owner key : List ℕ) (number : ℕ) (request : List ℕ) (js : List StoredJob) : Type 0 where
  pub job : StoredJob
  pub found : keyed_job owner key js ≡ Some job
  pub numbered : job.head.job ≡ number
  pub requested : job.head.request ≡ request

-- the owner has no such key, and no room
pub record IsShut (owner key : List ℕ) (js : List StoredJob) : Type 0 where
  pub none : keyed_job owner key js ≡ None
  pub full : has_room owner js ≡ false

-- the first that passes stays the first with more behind
find-append : (p : StoredJob → Bool) (xs ys : List StoredJob) (j : StoredJob) → find p xs ≡ Some j → find p (xs ++ ys) ≡ Some j
find-append p [] ys j found = cc
find-append p (x ∷ xs) ys j found = by (p x) found (find-append p xs ys j)
  where
    by : (t : Bool) → cond t (Some x) (find p xs) ≡ Some j → (find p xs ≡ Some j → find p (xs ++ ys) ≡ Some j) → cond t (Some x) (find p (xs ++ ys)) ≡ Some j
    by true found rest = found
    by false found rest = rest found

-- a change that keeps the tested part is found where the job was
find-map : (p : StoredJob → Bool) (g : StoredJob → StoredJob) → ((j : StoredJob) → p (g j) ≡ p j) → (xs : List StoredJob) → find p (map g xs) ≡ option_map g (find p xs)
find-map p g keeps [] = refl
find-map p g keeps (x ∷ xs) = by (p x) (keeps x) (find-map p g keeps xs)
  where
    by : (t : Bool) → p (g x) ≡ t → find p (map g xs) ≡ option_map g (find p xs) → cond (p (g x)) (Some (g x)) (find p (map g xs)) ≡ option_map g (cond t (Some x) (find p xs))
    by true q rest = ap (λ t. cond t (Some (g x)) (find p (map g xs))) q
    by false q rest = ap (λ t. cond t (Some (g x)) (find p (map g xs))) q ∙ rest

length-map : (g : StoredJob → StoredJob) (xs : List StoredJob) → length (map g xs) ≡ length xs
length-map g [] = refl
length-map g (x ∷ xs) = ap suc (length-map g xs)

module _ (owner key : List ℕ) where
  -- what a job at the end changes
  Stands-push : (number : ℕ) (request : List ℕ) (js : List StoredJob) (j : StoredJob) → Stands owner key number request js → Stands owner key number request (js ++ j ∷ [])
  Stands-push number request js j s = record {
    job = s.job;
    found = by (bytes_eq owner j.owner) refl;
    numbered = s.numbered;
    requested = s.requested;
  }
    where
      by : (t : Bool) → bytes_eq owner j.owner ≡ t → keyed_job owner key (js ++ j ∷ []) ≡ Some s.job
      by true p =
          ap (find (λ i. bytes_eq key i.key)) (jobs_of-push_own owner js j (sym ((bytes_decides owner j.owner).0 p)))
          ∙ find-append (λ i. bytes_eq key i.key) (jobs_of owner js) (j ∷ []) s.job s.found
      by false p = ap (find (λ i. bytes_eq key i.key)) (jobs_of-push_other owner js j p) ∙ s.found

  -- what a change of one job changes
  module _ (f : StoredJob → StoredJob) (keeps_owner : (j : StoredJob) → (f j).owner ≡ j.owner)
      (keeps_key : (j : StoredJob) → (f j).key ≡ j.key) (keeps_number : (j : StoredJob) → (f j).head.job ≡ j.head.job)
      (keeps_request : (j : StoredJob) → (f j).head.request ≡ j.head.request) (o : List ℕ) (n : ℕ) where
    keyed-change : (js : List StoredJob) → keyed_job owner key (map (one_job o n f) js) ≡ option_map (one_job o n f) (keyed_job owner key js)
    keyed-change js =
        ap (find (λ i. bytes_eq key i.key)) (jobs_of-map (one_job o n f)
        (one_job-keeps (λ j. j.owner) f keeps_owner o n) owner js)
        ∙ find-map (λ i. bytes_eq key i.key) (one_job o n f)
        (λ j. ap (bytes_eq key) (one_job-keeps (λ i. i.key) f keeps_key o n j)) (jobs_of owner js)

    Stands-change : (number : ℕ) (request : List ℕ) (js : List StoredJob) → Stands owner key number request js → Stands owner key number request (map (one_job o n f) js)
    Stands-change number request js s = record {
      job = one_job o n f s.job;
      found = keyed-change js ∙ ap (option_map (one_job o n f)) s.found;
      numbered = one_job-keeps (λ j. j.head.job) f keeps_number o n s.job ∙ s.numbered;
      requested = one_job-keeps (λ j. j.head.request) f keeps_request o n s.job ∙ s.requested;
    }

    IsShut-change : (js : List StoredJob) → IsShut owner key js → IsShut owner key (map (one_job o n f) js)
    IsShut-change js s = record {
      none = keyed-change js ∙ ap (option_map (one_job o n f)) s.none;
      full = ap (λ (own : List StoredJob). nat_lt (length own) 10000)
          (jobs_of-map (one_job o n f) (one_job-keeps (λ j. j.owner) f keeps_owner o n) owner js)
          ∙ ap (λ k. nat_lt k 10000) (length-map (one_job o n f) (jobs_of owner js)) ∙ s.full;
    }

  -- a command leaves what stands under a key
  Stands-after : (number : ℕ) (request : List ℕ) (c : Command) (js : List StoredJob) → Stands owner key number request js → Stands owner key number request (jobs_after c js)
  Stands-after number request (Add o k r made) js s =
      elim (is_none (keyed_job o k js) && has_room o js) as
      (λ t. Stands owner key number request (if t then js ++ new_job o k r made js ∷ [] else js))
      [ true ↦ Stands-push number request js (new_job o k r made js) s | false ↦ s ]
  Stands-after number request (Judge o job n verdict note) js s =
      elim (is_open o job js) as (λ t. Stands owner key number request
      (if t then judged o job n verdict note js else js)) [
        | true ↦ Stands-change (judged_job n verdict note) (λ _. refl) (λ _. refl) (λ _. refl) (λ _. refl) o job
            number request js s
        | false ↦ s
      ]
  Stands-after number request (Close o job) js s =
      Stands-change closed_job (λ _. refl) (λ _. refl) (λ _. refl) (λ _. refl) o job number request js s

  -- and leaves an owner shut
  IsShut-after : (c : Command) (js : List StoredJob) → IsShut owner key js → IsShut owner key (jobs_after c js)
  IsShut-after (Add o k r made) js s = by (bytes_eq owner o) refl
    where
      other : bytes_eq owner o ≡ false → (t : Bool) → IsShut owner key (if t then js ++ new_job o k r made js ∷ [] else js)
      other p true = record {
        none = ap (find (λ i. bytes_eq key i.key)) (jobs_of-push_other owner js (new_job o k r made js) p) ∙ s.none;
        full = ap (λ (own : List StoredJob). nat_lt (length own) 10000) (jobs_of-push_other owner js (new_job o k r made js) p) ∙ s.full;
      }
      other p false = s

      no_room : bytes_eq owner o ≡ true → has_room o js ≡ false
      no_room p = subst (λ q. has_room q js ≡ false) ((bytes_decides owner o).0 p) s.full

      shut : (t u : Bool) → u ≡ false → IsShut owner key (if t && u then js ++ new_job o k r made js ∷ [] else js)
      shut true true e = cc
      shut true false e = s
      shut false u e = s

      by : (t : Bool) → bytes_eq owner o ≡ t → IsShut owner key (jobs_after (Add o k r made) js)
      by true p = shut (is_none (keyed_job o k js)) (has_room o js) (no_room p)
      by false p = other p (is_none (keyed_job o k js) && has_room o js)
  IsShut-after (Judge o job n verdict note) js s =
      elim (is_open o job js) as (λ t. IsShut owner key (if t then judged o job n verdict note js else js)) [
        | true ↦ IsShut-change (judged_job n verdict note) (λ _. refl) (λ _. refl) (λ _. refl) (λ _. refl) o job js
            s
        | false ↦ s
      ]
  IsShut-after (Close o job) js s =
      IsShut-change closed_job (λ _. refl) (λ _. refl) (λ _. refl) (λ _. refl) o job js s

  Stands-after_all : (number : ℕ) (request : List ℕ) (cs : List Command) (js : List StoredJob)
      → Stands owner key number request js → Stands owner key number request (jobs_after_all cs js)
  Stands-after_all number request [] js s = s
  Stands-after_all number request (c ∷ cs) js s =
      Stands-after_all number request cs (jobs_after c js) (Stands-after number request c js s)

  IsShut-after_all : (cs : List Command) (js : List StoredJob) → IsShut owner key js → IsShut owner key (jobs_after_all cs js)
  IsShut-after_all [] js s = s
  IsShut-after_all (c ∷ cs) js s = IsShut-after_all cs (jobs_after c js) (IsShut-after c js s)

-- what an Add leaves for one with the same owner, key and request: the key stands or the owner is shut
pub data Settles (owner key request : List ℕ) (reply : Reply) (js : List StoredJob) : Type 0 where
  stands : (number : ℕ) (r : List ℕ) → Stands owner key number r js
      → ((j : StoredJob) → j.head.job ≡ number → j.head.request ≡ r → SameAnswer reply (repeat_reply request j))
      → Settles owner key request reply js
  shut : IsShut owner key js → reply ≡ Full → Settles owner key request reply js

-- the answers to a request at two forms of one job are alike
repeat-alike : (request : List ℕ) (i j : StoredJob) → j.head.job ≡ i.head.job → j.head.request ≡ i.head.request → SameAnswer (repeat_reply request i) (repeat_reply request j)
repeat-alike request i j number same = by (bytes_eq request i.head.request) (ap (bytes_eq request) same)
  where
    by : (t : Bool) → bytes_eq request j.head.request ≡ t → SameAnswer (if t then Head i.head else KeyTaken) (repeat_reply request j)
    by true p =
        subst (λ t. SameAnswer (Head i.head) (if t then Head j.head else KeyTaken)) (sym p) (number, same)
    by false p = ap (λ t. if t then Head j.head else KeyTaken) p

-- behind others without the key, a job is found under it
find-last : (key : List ℕ) (new : StoredJob) (xs : List StoredJob) → new.key ≡ key
    → find (λ i. bytes_eq key i.key) xs ≡ None → find (λ i. bytes_eq key i.key) (xs ++ new ∷ []) ≡ Some new
find-last key new [] own none =
    ap (λ t. cond t (Some new) None) (ap (bytes_eq key) own ∙ nat_list_eq_equiv.refl key)
find-last key new (x ∷ xs) own none = by (bytes_eq key x.key) none (find-last key new xs own)
  where
    by : (t : Bool) → cond t (Some x) (find (λ i. bytes_eq key i.key) xs) ≡ None
        → (find (λ i. bytes_eq key i.key) xs ≡ None → find (λ i. bytes_eq key i.key) (xs ++ new ∷ []) ≡ Some new)
        → cond t (Some x) (find (λ i. bytes_eq key i.key) (xs ++ new ∷ [])) ≡ Some new
    by true none rest = cc
    by false none rest = rest none

settles : (owner key request : List ℕ) (made : Made) (js : List StoredJob)
    → Settles owner key request (reply_to (Add owner key request made) js)
    (jobs_after (Add owner key request made) js)
settles owner key request made js = by (keyed_job owner key js) refl (has_room owner js) refl
  where
    new : StoredJob
    new = new_job owner key request made js

    by : (found : Option StoredJob) → keyed_job owner key js ≡ found → (room : Bool) → has_room owner js ≡ room
        → Settles owner key request (option_map_or (repeat_reply request) found (new_reply room new))
        (if is_none found && room then js ++ new ∷ [] else js)
    by None p true q =
        let there : keyed_job owner key (js ++ new ∷ []) ≡ Some new =
        ap (find (λ i. bytes_eq key i.key)) (jobs_of-push_own owner js new refl)
        ∙ find-last key new (jobs_of owner js) refl p in
        stands new.head.job request (record { job = new; found = there; numbered = refl; requested = refl })
        (λ j number same. subst (λ t. SameAnswer (Head new.head) (if t then Head j.head else KeyTaken))
        (sym (ap (bytes_eq request) same ∙ nat_list_eq_equiv.refl request)) (number, same))
    by None p false q = shut (record { none = p; full = q }) refl
    by (Some j) p room q =
        stands j.head.job j.head.request (record { job = j; found = p; numbered = refl; requested = refl }) (λ i number same. repeat-alike request j i number same)

-- commands one after another are those before, and then those behind
jobs_after_all-append : (first rest : List Command) (js : List StoredJob) → jobs_after_all (first ++ rest) js ≡ jobs_after_all rest (jobs_after_all first js)
jobs_after_all-append [] rest js = refl
jobs_after_all-append (c ∷ first) rest js = jobs_after_all-append first rest (jobs_after c js)

-- where a key stands, an Add changes nothing
stands-jobs : (owner key request : List ℕ) (made : Made) (number : ℕ) (r : List ℕ) (js : List StoredJob)
    → Stands owner key number r js → jobs_after (Add owner key request made) js ≡ js
stands-jobs owner key request made number r js s =
    ap (λ found. if is_none found && has_room owner js then js ++ new_job owner key request made js ∷ [] else js) s.found

-- and where the owner is shut
shut-jobs : (owner key request : List ℕ) (made : Made) (js : List StoredJob) → IsShut owner key js → jobs_after (Add owner key request made) js ≡ js
shut-jobs owner key request made js s =
    ap (λ found. if is_none found && has_room owner js then js ++ new_job owner key request made js ∷ [] else js)
    s.none ∙ ap (λ room. if room then js ++ new_job owner key request made js ∷ [] else js) s.full

-- where a key stands, an Add is answered by its job
stands-reply : (owner key request : List ℕ) (made : Made) (number : ℕ) (r : List ℕ) (js : List StoredJob)
    (s : Stands owner key number r js) → reply_to (Add owner key request made) js ≡ repeat_reply request s.job
stands-reply owner key request made number r js s =
    ap (λ found. option_map_or (repeat_reply request) found (new_reply (has_room owner js) (new_job owner key request made js))) s.found

shut-reply : (owner key request : List ℕ) (made : Made) (js : List StoredJob) → IsShut owner key js → reply_to (Add owner key request made) js ≡ Full
shut-reply owner key request made js s =
    ap (λ found. option_map_or (repeat_reply request) found
    (new_reply (has_room owner js) (new_job owner key request made js))) s.none
    ∙ ap (λ room. new_reply room (new_job owner key request made js)) s.full

-- what a repeated request changes and is answered, after the first and others
pub record ActsOnce (again : Command) (reply : Reply) (js : List StoredJob) : Type 0 where
  pub jobs : jobs_after again js ≡ js
  pub answer : SameAnswer reply (reply_to again js)

acts-once : (owner key request : List ℕ) (again : Made) (reply : Reply) (between : List Command) (js : List StoredJob)
    → Settles owner key request reply js → ActsOnce (Add owner key request again) reply (jobs_after_all between js)
acts-once owner key request again reply between js (stands number r s alike) =
    let now : Stands owner key number r (jobs_after_all between js) = Stands-after_all owner key number r between js s in
    record {
      jobs = stands-jobs owner key request again number r (jobs_after_all between js) now;
      answer = subst (SameAnswer reply) (sym (stands-reply owner key request again number r (jobs_after_all between js) now)) (alike now.job now.numbered now.requested);
    }
acts-once owner key request again reply between js (shut s is) =
    let now : IsShut owner key (jobs_after_all between js) = IsShut-after_all owner key between js s in
    record {
      jobs = shut-jobs owner key request again (jobs_after_all between js) now;
      answer = subst (λ first. SameAnswer first (reply_to (Add owner key request again) (jobs_after_all between js)))
          (sym is) (shut-reply owner key request again (jobs_after_all between js) now);
    }

-- over every list of commands in which an Add came
pub repeated : (owner key request : List ℕ) (made again : Made) (first between : List Command) (js : List StoredJob)
    → ActsOnce (Add owner key request again) (reply_to (Add owner key request made) (jobs_after_all first js))
    (jobs_after_all (first ++ Add owner key request made ∷ between) js)
repeated owner key request made again first between js =
    subst (ActsOnce (Add owner key request again) (reply_to (Add owner key request made) (jobs_after_all first js)))
    (sym (jobs_after_all-append first (Add owner key request made ∷ between) js))
    (acts-once owner key request again (reply_to (Add owner key request made) (jobs_after_all first js)) between
    (jobs_after (Add owner key request made) (jobs_after_all first js))
    (settles owner key request made (jobs_after_all first js)))
