-- Laws of the machine: what a command does to one owner's jobs, and what a run of commands does.
use Rattle.std.proofs.Common.{
  ◌≡◌,
  ◌==◌,
  ℕ,
  ◌+◌,
  Bool,
  true,
  false,
  ◌&&◌,
  not,
  cond,
  List,
  [],
  ◌∷◌,
  ◌++◌,
  length,
  map,
  find,
  filter,
  Option,
  None,
  Some,
  is_none,
  nat_lt,
  if◌then◌else◌,
  refl,
  sym,
  ap,
  subst,
  ◌∙◌,
  ◌<◌,
  arith,
  eqb-true,
}
use Rattle.std.specs.Option.{option_map, option_map_or}
use Rattle.std.specs.Str.{bytes_eq}
use Rattle.std.specs.Cmp.Lexicographic.{nat_list_eq_equiv, bytes_decides}
use Rattle.job_core.specs.Job.{StoredJob}
use Rattle.job_core.specs.Jobs.{jobs_of, SameJobs, RunsFrom, IsKept, count_of, job_of, keyed_job, with_job, judged_job, closed_job, judged, closed}
use Rattle.job_core.specs.Machine.{
  owner_of,
  new_head,
  new_job,
  has_room,
  repeat_reply,
  new_reply,
  judge_reply,
  reply_to,
  is_open,
  jobs_after,
  Answer,
  answers,
  jobs_after_all,
  commands_of,
  answers_to,
  SameAnswer,
}
use Rattle.job_core.specs.declared.job.Made.{Made}
use Rattle.job_core.specs.declared.job.Verdict.{Verdict}
use Rattle.job_core.specs.declared.command.Command.{Command}
use Rattle.job_core.specs.declared.command.Command.TheVariants.{Add, Judge, Close}
use Rattle.job_core.specs.declared.command.Reply.{Reply}
use Rattle.job_core.specs.declared.command.Reply.TheVariants.{Head, KeyTaken, Closed, Full, NoSuch}
use Rattle.job_core.proofs.OwnerJobsLemmas.{map_jobs, change-below}
use Rattle.job_core.proofs.JobsLemmas.{SameJobs-by, jobs_of-push_own, jobs_of-push_other, with_job-own, with_job-other}

-- an owner's jobs among an owner's jobs are those jobs
jobs_of-jobs_of : (owner : List ℕ) (js : List StoredJob) → jobs_of owner (jobs_of owner js) ≡ jobs_of owner js
jobs_of-jobs_of owner [] = refl
jobs_of-jobs_of owner (j ∷ js) = by (bytes_eq owner j.owner) refl (jobs_of-jobs_of owner js)
  where
    by : (t : Bool) → bytes_eq owner j.owner ≡ t → jobs_of owner (jobs_of owner js) ≡ jobs_of owner js
        → jobs_of owner (cond t (j ∷ jobs_of owner js) (jobs_of owner js)) ≡ cond t (j ∷ jobs_of owner js)
        (jobs_of owner js)
    by true p rest =
        ap (λ t. cond t (j ∷ jobs_of owner (jobs_of owner js)) (jobs_of owner (jobs_of owner js))) p ∙ ap (λ xs. j ∷ xs) rest
    by false p rest = rest

-- a change that keeps owners changes the same jobs among an owner's
module _ (g : StoredJob → StoredJob) (keeps_owner : (j : StoredJob) → (g j).owner ≡ j.owner) where
  pub jobs_of-map : (owner : List ℕ) (js : List StoredJob) → jobs_of owner (map g js) ≡ map g (jobs_of owner js)
  jobs_of-map owner [] = refl
  jobs_of-map owner (j ∷ js) = by (bytes_eq owner j.owner) (ap (bytes_eq owner) (keeps_owner j)) (jobs_of-map owner js)
    where
      by : (t : Bool) → bytes_eq owner (g j).owner ≡ t → jobs_of owner (map g js) ≡ map g (jobs_of owner js)
          → jobs_of owner (g j ∷ map g js) ≡ map g (cond t (j ∷ jobs_of owner js) (jobs_of owner js))
      by true p rest =
          ap (λ t. cond t (g j ∷ jobs_of owner (map g js)) (jobs_of owner (map g js))) p ∙ ap (λ xs. g j ∷ xs) rest
      by false p rest =
          ap (λ t. cond t (g j ∷ jobs_of owner (map g js)) (jobs_of owner (map g js))) p ∙ rest

-- the change of one job, as a change of each
abbrev pub one_job : List ℕ → ℕ → (StoredJob → StoredJob) → StoredJob → StoredJob
one_job owner n f j = if bytes_eq owner j.owner && (n == j.head.job) then f j else j

-- what a change keeps of each job, the change of one job keeps
pub one_job-keeps : {A : Type 0} (part : StoredJob → A) (f : StoredJob → StoredJob)
    → ((j : StoredJob) → part (f j) ≡ part j) → (owner : List ℕ) (n : ℕ) (j : StoredJob)
    → part (one_job owner n f j) ≡ part j
one_job-keeps part f keeps owner n j =
    elim (bytes_eq owner j.owner && (n == j.head.job)) as (λ t. part (if t then f j else j) ≡ part j) [ true ↦ keeps j | false ↦ refl ]

-- the answer depends on the owner's jobs alone
pub reply_to-same : (c : Command) (a b : List StoredJob) → jobs_of (owner_of c) a ≡ jobs_of (owner_of c) b → reply_to c a ≡ reply_to c b
reply_to-same (Add owner key request made) a b same =
    ap (λ (js : List StoredJob). option_map_or (repeat_reply request) (find (λ j. bytes_eq key j.key) js)
    (new_reply (nat_lt (length js) 10000)
    (record {
      owner = owner;
      key = key;
      head = new_head (length js + 1) request made;
      files =
          made.files.items;
      reports = made.reports.items;
    }))) same
reply_to-same (Judge owner job n verdict note) a b same =
    ap (λ (js : List StoredJob). option_map_or (judge_reply n) (find (λ j. job == j.head.job) js) NoSuch) same
reply_to-same (Close owner job) a b same =
    ap (λ (js : List StoredJob). option_map_or (λ j. Head (closed_job j).head) (find (λ j. job == j.head.job) js) NoSuch) same

-- whether an Add stores a job, by the owner's jobs
abbrev stores : List ℕ → List StoredJob → Bool
stores key js = is_none (find (λ j. bytes_eq key j.key) js) && nat_lt (length js) 10000

-- whether a job is open, by the owner's jobs
abbrev opens : ℕ → List StoredJob → Bool
opens job js = option_map_or (λ j. not j.head.closed) (find (λ j. job == j.head.job) js) false

-- the owner's jobs after a command are those after it alone
pub jobs_after-own : (c : Command) (js : List StoredJob) → jobs_of (owner_of c) (jobs_after c js) ≡ jobs_after c (jobs_of (owner_of c) js)
jobs_after-own (Add owner key request made) js =
    let added : List StoredJob → List StoredJob = λ (own : List StoredJob). own
    ++ record {
      owner = owner;
      key = key;
      head = new_head (length own + 1) request made;
      files =
          made.files.items;
      reports = made.reports.items;
    } ∷ [] in
    let stays : jobs_of owner (jobs_of owner js) ≡ jobs_of owner js = jobs_of-jobs_of owner js in
    let pushed : jobs_of owner (js ++ new_job owner key request made js ∷ []) ≡ jobs_of owner js
    ++ new_job owner key request made (jobs_of owner js)
    ∷ [] = jobs_of-push_own owner js (new_job owner key request made js) refl
    ∙ ap (λ (own : List StoredJob). jobs_of owner js ++ record {
      owner = owner;
      key = key;
      head = new_head (length own + 1) request made;
      files = made.files.items;
      reports =
          made.reports.items;
    } ∷ []) (sym stays) in
    elim (stores key (jobs_of owner js)) as (λ t. jobs_of owner
    (if t then js ++ new_job owner key request made js ∷ [] else js) ≡
    (if t then jobs_of owner js ++ new_job owner key request made (jobs_of owner js) ∷ [] else jobs_of owner js))
    [ true ↦ pushed | false ↦ refl ]
    ∙ ap (λ (own : List StoredJob). if stores key own then jobs_of owner js
    ++ new_job owner key request made (jobs_of owner js) ∷ [] else jobs_of owner js) (sym stays)
jobs_after-own (Judge owner job n verdict note) js =
    let stays : jobs_of owner (jobs_of owner js) ≡ jobs_of owner js = jobs_of-jobs_of owner js in
    let changed : jobs_of owner (judged owner job n verdict note js) ≡ judged owner job n verdict note
    (jobs_of owner js) = jobs_of-map (one_job owner job (judged_job n verdict note))
    (one_job-keeps (λ j. j.owner) (judged_job n verdict note) (λ j. refl) owner job) owner js in
    elim (opens job (jobs_of owner js)) as (λ t. jobs_of owner (if t then judged owner job n verdict note js else js)
    ≡ (if t then judged owner job n verdict note (jobs_of owner js) else jobs_of owner js))
    [ true ↦ changed | false ↦ refl ]
    ∙ ap (λ (own : List StoredJob). if opens job own then judged owner job n verdict note (jobs_of owner js) else
    jobs_of owner js) (sym stays)
jobs_after-own (Close owner job) js =
    jobs_of-map (one_job owner job closed_job) (one_job-keeps (λ j. j.owner) closed_job (λ j. refl) owner job) owner js

-- and those of another owner stay
pub jobs_after-other : (c : Command) (o : List ℕ) (js : List StoredJob) → bytes_eq o (owner_of c) ≡ false → jobs_of o (jobs_after c js) ≡ jobs_of o js
jobs_after-other (Add owner key request made) o js other =
    elim (stores key (jobs_of owner js)) as (λ t. jobs_of o (if t then js ++ new_job owner key request made js
    ∷ [] else js) ≡ jobs_of o js) [
      | true ↦ jobs_of-push_other o js (new_job owner key request made js) other
      | false ↦ refl
    ]
jobs_after-other (Judge owner job n verdict note) o js other =
    elim (opens job (jobs_of owner js)) as (λ t. jobs_of o (if t then judged owner job n verdict note js else js) ≡
    jobs_of o js) [
      | true ↦ with_job-other (judged_job n verdict note) (λ j. refl) owner o job js
          (nat_list_eq_equiv.symm owner o ∙ other)
      | false ↦ refl
    ]
jobs_after-other (Close owner job) o js other =
    with_job-other closed_job (λ j. refl) owner o job js (nat_list_eq_equiv.symm owner o ∙ other)

-- one owner's jobs after a command, by whose it is
pub own-after : (o : List ℕ) (c : Command) (js : List StoredJob) → jobs_of o (jobs_after c js) ≡ (if bytes_eq o (owner_of c) then jobs_after c (jobs_of o js) else jobs_of o js)
own-after o c js = by (bytes_eq o (owner_of c)) refl
  where
    by : (t : Bool) → bytes_eq o (owner_of c) ≡ t → jobs_of o (jobs_after c js) ≡ (if t then jobs_after c (jobs_of o js) else jobs_of o js)
    by true p =
        subst (λ q. jobs_of q (jobs_after c js) ≡ jobs_after c (jobs_of q js)) (sym ((bytes_decides o (owner_of c)).0 p)) (jobs_after-own c js)
    by false p = jobs_after-other c o js p

-- the jobs of an owner after commands are those after that owner's commands, over that owner's jobs alone
pub jobs_of-jobs_after_all : (o : List ℕ) (cs : List Command) (js : List StoredJob) → jobs_of o (jobs_after_all cs js) ≡ jobs_after_all (commands_of o cs) (jobs_of o js)
jobs_of-jobs_after_all o [] js = refl
jobs_of-jobs_after_all o (c ∷ cs) js =
    jobs_of-jobs_after_all o cs (jobs_after c js) ∙ ap (jobs_after_all (commands_of o cs)) (own-after o c js)
    ∙ elim (bytes_eq o (owner_of c)) as (λ t. jobs_after_all (commands_of o cs)
    (if t then jobs_after c (jobs_of o js) else jobs_of o js) ≡ jobs_after_all
    (cond t (c ∷ commands_of o cs) (commands_of o cs)) (jobs_of o js)) [ true ↦ refl | false ↦ refl ]

-- and so are the answers to an owner
pub answers_to-answers : (o : List ℕ) (cs : List Command) (js : List StoredJob) → answers_to o (answers cs js) ≡ answers (commands_of o cs) (jobs_of o js)
answers_to-answers o [] js = refl
answers_to-answers o (c ∷ cs) js = by (bytes_eq o (owner_of c)) refl (answers_to-answers o cs (jobs_after c js))
  where
    by : (t : Bool) → bytes_eq o (owner_of c) ≡ t → answers_to o (answers cs (jobs_after c js)) ≡ answers
        (commands_of o cs) (jobs_of o (jobs_after c js)) → cond t
        (record { owner = owner_of c; reply = reply_to c js } ∷ answers_to o (answers cs (jobs_after c js)))
        (answers_to o (answers cs (jobs_after c js))) ≡ answers (cond t (c ∷ commands_of o cs) (commands_of o cs))
        (jobs_of o js)
    by true p rest =
        let whose : o ≡ owner_of c = (bytes_decides o (owner_of c)).0 p in
        let reply : reply_to c js ≡ reply_to c (jobs_of o js) =
        subst (λ q. reply_to c js ≡ reply_to c (jobs_of q js)) (sym whose)
        (reply_to-same c js (jobs_of (owner_of c) js) (sym (jobs_of-jobs_of (owner_of c) js))) in
        let after : jobs_of o (jobs_after c js) ≡ jobs_after c (jobs_of o js) = own-after o c js ∙ ap (λ t. if t then jobs_after c (jobs_of o js) else jobs_of o js) p in
        ap (λ r. record { owner = owner_of c; reply = r } ∷ answers_to o (answers cs (jobs_after c js))) reply
        ∙ ap (λ xs. record { owner = owner_of c; reply = reply_to c (jobs_of o js) } ∷ xs)
        (rest ∙ ap (answers (commands_of o cs)) after)
    by false p rest = rest ∙ ap (answers (commands_of o cs)) (jobs_after-other c o js p)

-- lists with the same jobs of each owner have them after a command too
pub SameJobs-after : (c : Command) (a b : List StoredJob) → SameJobs a b → SameJobs (jobs_after c a) (jobs_after c b)
SameJobs-after c a b same =
    λ o. own-after o c a ∙ ap (λ (js : List StoredJob). if bytes_eq o (owner_of c) then jobs_after c js else js) (same o) ∙ sym (own-after o c b)

-- a closed job among an owner's, closed again
closed-again : (n k : ℕ) (js : List StoredJob) → RunsFrom k js → (j : StoredJob) → find (λ i. n == i.head.job) js ≡ Some j → j.head.closed ≡ true → map_jobs n closed_job js ≡ js
closed-again n k [] h j found is = refl
closed-again n k (x ∷ js) h j found is = by (n == x.head.job) refl found (closed-again n (k + 1) js h.1 j)
  where
    unchanged : x.head.closed ≡ true → closed_job x ≡ x
    unchanged e = ap (λ t. record x { head = record x.head { closed = t } }) (sym e)

    by : (t : Bool) → (n == x.head.job) ≡ t → cond t (Some x) (find (λ i. n == i.head.job) js) ≡ Some j
        → (find (λ i. n == i.head.job) js ≡ Some j → j.head.closed ≡ true → map_jobs n closed_job js ≡ js)
        → (if t then closed_job x else x) ∷ map_jobs n closed_job js ≡ x ∷ js
    by true p found rest =
        let same : x ≡ j = cc in
        let number : n ≡ k = eqb-true n x.head.job p ∙ h.0 in
        let none : map_jobs n closed_job js ≡ js = change-below closed_job (k + 1) n js (omega (arith, number)) h.1 in
        ap (λ xs. closed_job x ∷ xs) none ∙ ap (λ y. y ∷ js) (unchanged (ap (λ (i : StoredJob). i.head.closed) same ∙ is))
    by false p found rest = ap (λ xs. x ∷ xs) (rest found is)

-- closing a closed job changes nothing
pub close-closed : (owner : List ℕ) (job : ℕ) (js : List StoredJob) (j : StoredJob) → IsKept js
    → job_of owner job js ≡ Some j → j.head.closed ≡ true → SameJobs (jobs_after (Close owner job) js) js
close-closed owner job js j kept found is =
    SameJobs-by owner (closed owner job js) js
    (with_job-own closed_job (λ _. refl) owner job js ∙ closed-again job 1 (jobs_of owner js) (kept owner).numbers
    j found is) (λ o other. with_job-other closed_job (λ _. refl) owner o job js other)
