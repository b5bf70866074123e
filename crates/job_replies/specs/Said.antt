-- What a request on a job that stands is answered with, and what it leaves: the table of routes and the rows 9 to 11 of
-- the refusals in docs/FORMATS.md.
use Rattle.std.specs.Prelude.{◌≡◌, ℕ, true, List, codes, Option, None, Some}
use Rattle.job_core.specs.Job.{StoredJob}
use Rattle.job_core.specs.Keeper.{Tells}
use Rattle.job_core.specs.Machine.{jobs_after, reply_to}
use Rattle.job_core.specs.declared.command.Command.{Command}
use Rattle.job_core.specs.declared.command.Command.TheVariants as command
use Rattle.job_core.specs.declared.command.Reply.{Reply}
use Rattle.job_core.specs.declared.command.Reply.TheVariants.{Head, KeyTaken, Closed, Full, NoSuch}
use Rattle.job_core.specs.declared.job.JobFile.{JobFile}
use Rattle.job_core.specs.declared.job.JobHead.{JobHead}
use Rattle.review_answers.specs.Bodies.{error, file, head, judged, reports}
use Rattle.review_answers.specs.declared.code.Code.{Code}
use Rattle.review_answers.specs.declared.code.Code.TheVariants.{Fine, BadRequest, NotFound, Conflict, UnprocessableContent}
use Rattle.review_bodies.specs.Json.{Comes}
use Rattle.review_bodies.specs.Judgement.{judgement_of}
use Rattle.review_bodies.specs.declared.judgement.Judgement.{Judgement}
use Rattle.serde_json.specs.Data.{Data}
use Rattle.serde_json.specs.Written.{compact_text}
use Rattle.job_replies.specs.declared.answer.Answer.{Answer}

-- what is said: a status and a JSON value
pub record Said : Type 0 where
  pub code : Code
  pub value : Data

abbrev pub say : Code → Data → Said
say code value = record { code = code; value = value }

-- the answer says this
pub record Is (said : Said) (answer : Answer) : Type 0 where
  pub code : answer.code ≡ said.code
  pub body : answer.body.items ≡ compact_text said.value

-- refusals
abbrev pub bad_body : Said
bad_body = say BadRequest (error (codes "body"))

abbrev pub no_job : Said
no_job = say NotFound (error (codes "job"))

abbrev pub conflict : List ℕ → Said
conflict word = say Conflict (error word)

-- the work refuses the files or the settings with this text
abbrev pub refused : List ℕ → Said
refused text = say UnprocessableContent (error text)

-- what is shown of a job, a file, or the reports of a job
abbrev pub head_said : Option StoredJob → Said
head_said None = no_job
head_said (Some j) = say Fine (head j.head)

abbrev pub file_said : Option JobFile → Said
file_said None = no_job
file_said (Some f) = say Fine (file f.path f.written)

abbrev pub reports_said : Option StoredJob → Said
reports_said None = no_job
reports_said (Some j) = say Fine (reports j.reports)

-- what is said of the machine's reply, by what is said of a job where the command was done
abbrev pub reply_said : (JobHead → Said) → Reply → Said
reply_said done (Head h) = done h
reply_said done KeyTaken = conflict (codes "key")
reply_said done Closed = conflict (codes "closed")
reply_said done Full = conflict (codes "full")
reply_said done NoSuch = no_job

-- a command, carried out and answered
pub record Does (command : Command) (done : JobHead → Said) (jobs : List StoredJob) (now : Option (List StoredJob)) (answer : Answer) : Type 0 where
  pub said : Is (reply_said done (reply_to command jobs)) answer
  pub left : Tells now (jobs_after command jobs)

-- a verdict with its note
abbrev pub Judged : List ℕ → ℕ → ℕ → Judgement → List StoredJob → Option (List StoredJob) → Answer → Type 0
Judged owner job n j jobs now answer =
    Does (command.Judge owner job n j.verdict j.note) (λ h. say Fine (judged job n)) jobs now answer

-- a verdict with its note, if the body is that
abbrev pub JudgesBy : List ℕ → ℕ → ℕ → Option Judgement → List StoredJob → Option (List StoredJob) → Answer → Type 0
JudgesBy owner job n (Some j) jobs now answer = Judged owner job n j jobs now answer
JudgesBy owner job n None jobs now answer = Is bad_body answer × Tells now jobs

abbrev pub Judges : List ℕ → ℕ → ℕ → List ℕ → List StoredJob → Option (List StoredJob) → Answer → Type 0
Judges owner job n body jobs now answer =
    (o : Option Judgement) × Comes judgement_of (λ j. j) body o × JudgesBy owner job n o jobs now answer

-- the text of a head, closed
abbrev pub closed_text : JobHead → List ℕ
closed_text h = compact_text (head (record h { closed = true }))

-- a job, closed
abbrev pub Closes : List ℕ → ℕ → List StoredJob → Option (List StoredJob) → Answer → Type 0
Closes owner job jobs now answer = Does (command.Close owner job) (λ h. say Fine (head h)) jobs now answer
