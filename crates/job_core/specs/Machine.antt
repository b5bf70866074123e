-- The machine of jobs: what it answers to a command, and the jobs after it.
use Rattle.std.specs.Prelude.{◌≡◌, ℕ, ◌+◌, ◌&&◌, Bool, false, not, List, [], ◌∷◌, ◌++◌, length, filter, if◌then◌else◌, nat_lt, is_none}
use Rattle.std.specs.Option.{option_map_or}
use Rattle.std.specs.Str.{bytes_eq}
use Rattle.job_core.specs.Job.{StoredJob}
use Rattle.job_core.specs.Jobs.{count_of, job_of, keyed_job, numbered, judged, closed, closed_job}
use Rattle.job_core.specs.declared.job.JobHead.{JobHead}
use Rattle.job_core.specs.declared.job.Made.{Made}
use Rattle.job_core.specs.declared.command.Command.{Command}
use Rattle.job_core.specs.declared.command.Command.TheVariants.{Add, Judge, Close}
use Rattle.job_core.specs.declared.command.Reply.{Reply}
use Rattle.job_core.specs.declared.command.Reply.TheVariants.{Head, KeyTaken, Closed, Full, NoSuch}

-- whose command it is
abbrev pub owner_of : Command → List ℕ
owner_of (Add owner key request made) = owner
owner_of (Judge owner job n verdict note) = owner
owner_of (Close owner job) = owner

-- the head of a new job
abbrev pub new_head : ℕ → List ℕ → Made → JobHead
new_head number request made =
    record { job = number; status = made.status; edits = made.edits; reports = length made.reports.items; closed = false; request = request }

-- a new job, whose number is the owner's count plus 1
abbrev pub new_job : List ℕ → List ℕ → List ℕ → Made → List StoredJob → StoredJob
new_job owner key request made jobs =
    record { owner = owner; key = key; head = new_head (count_of owner jobs + 1) request made; files = made.files.items; reports = made.reports.items }

-- whether the owner has fewer than 10,000 jobs
abbrev pub has_room : List ℕ → List StoredJob → Bool
has_room owner jobs = nat_lt (count_of owner jobs) 10000

-- the answer where this job stands under the key: its head to the same request, else a refusal
abbrev pub repeat_reply : List ℕ → StoredJob → Reply
repeat_reply request j = if bytes_eq request j.head.request then Head j.head else KeyTaken

-- the answer to a request under a new key
abbrev pub new_reply : Bool → StoredJob → Reply
new_reply room j = if room then Head j.head else Full

-- the answer to a verdict on a report of this job
abbrev pub judge_reply : ℕ → StoredJob → Reply
judge_reply n j = if is_none (numbered n j.reports) then NoSuch else if j.head.closed then Closed else Head j.head

-- the answer to a command
abbrev pub reply_to : Command → List StoredJob → Reply
reply_to (Add owner key request made) jobs =
    option_map_or (repeat_reply request) (keyed_job owner key jobs) (new_reply (has_room owner jobs) (new_job owner key request made jobs))
reply_to (Judge owner job n verdict note) jobs = option_map_or (judge_reply n) (job_of owner job jobs) NoSuch
reply_to (Close owner job) jobs = option_map_or (λ j. Head (closed_job j).head) (job_of owner job jobs) NoSuch

-- whether the owner has such a job, and it isn't closed
abbrev pub is_open : List ℕ → ℕ → List StoredJob → Bool
is_open owner job jobs = option_map_or (λ j. not j.head.closed) (job_of owner job jobs) false

-- the jobs after a command
abbrev pub jobs_after : Command → List StoredJob → List StoredJob
jobs_after (Add owner key request made) jobs =
    if is_none (keyed_job owner key jobs) && has_room owner jobs then jobs ++ new_job owner key request made jobs ∷ [] else jobs
jobs_after (Judge owner job n verdict note) jobs = if is_open owner job jobs then judged owner job n verdict note jobs else jobs
jobs_after (Close owner job) jobs = closed owner job jobs

-- an answer with the owner whom it goes to
pub record Answer : Type 0 where
  pub owner : List ℕ
  pub reply : Reply

-- the answers to commands, one after another
abbrev pub answers : List Command → List StoredJob → List Answer
answers [] jobs = []
answers (c ∷ commands) jobs = record { owner = owner_of c; reply = reply_to c jobs } ∷ answers commands (jobs_after c jobs)

-- the jobs after commands, one after another
abbrev pub jobs_after_all : List Command → List StoredJob → List StoredJob
jobs_after_all [] jobs = jobs
jobs_after_all (c ∷ commands) jobs = jobs_after_all commands (jobs_after c jobs)

-- one owner's commands
abbrev pub commands_of : List ℕ → List Command → List Command
commands_of owner commands = filter (λ c. bytes_eq owner (owner_of c)) commands

-- the answers that go to one owner
abbrev pub answers_to : List ℕ → List Answer → List Answer
answers_to owner answers = filter (λ a. bytes_eq owner a.owner) answers

-- two answers that are the head of one job, or one refusal
abbrev pub SameAnswer : Reply → Reply → Type 0
SameAnswer (Head h) (Head g) = (g.job ≡ h.job) × (g.request ≡ h.request)
SameAnswer (Head h) KeyTaken = ⊥
SameAnswer (Head h) Closed = ⊥
SameAnswer (Head h) Full = ⊥
SameAnswer (Head h) NoSuch = ⊥
SameAnswer KeyTaken reply = reply ≡ KeyTaken
SameAnswer Closed reply = reply ≡ Closed
SameAnswer Full reply = reply ≡ Full
SameAnswer NoSuch reply = reply ≡ NoSuch
