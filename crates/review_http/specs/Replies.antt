-- Which answer a request gets, and what it leaves: the tables of docs/FORMATS.md, "The review service".
use Rattle.std.specs.Prelude.{◌≡◌, ℕ, List, Option, Some, Result}
use Rattle.job_core.specs.Job.{StoredJob}
use Rattle.job_core.specs.Jobs.{file_of, job_of}
use Rattle.job_core.specs.Work.{MadeWork, SourceText}
use Rattle.job_replies.specs.Added.{Adds}
use Rattle.job_replies.specs.Said.{Closes, Is, Judges, Said, file_said, head_said, reports_said, say}
use Rattle.job_replies.specs.declared.answer.Answer.{Answer}
use Rattle.review_answers.specs.Bodies.{error}
use Rattle.review_answers.specs.declared.code.Code.{Code}
use Rattle.review_answers.specs.declared.code.Code.TheVariants.{HeaderFieldsTooLarge, BadRequest, NotFound, MethodNotAllowed, LengthRequired, ContentTooLarge}
use Rattle.review_request.specs.Refusals.{word_of}
use Rattle.review_request.specs.declared.refusal.Refusal.{Refusal}
use Rattle.review_request.specs.declared.refusal.Refusal.TheVariants.{LongHead, BadHead, NoRoute, WrongMethod, BadOwner, NoLength, BadLength, LongBody, BadBody}
use Rattle.review_request.specs.declared.request.Request.{Request}
use Rattle.review_request.specs.declared.route.Ask.{Ask}
use Rattle.review_request.specs.declared.route.Ask.TheVariants.{Add, Head, File, Reports, Judge, Close}

-- the status of a refusal
abbrev pub code_of : Refusal → Code
code_of LongHead = HeaderFieldsTooLarge
code_of BadHead = BadRequest
code_of NoRoute = NotFound
code_of WrongMethod = MethodNotAllowed
code_of BadOwner = BadRequest
code_of NoLength = LengthRequired
code_of BadLength = BadRequest
code_of LongBody = ContentTooLarge
code_of BadBody = BadRequest

-- what is said of a refusal
abbrev pub refusal_said : Refusal → Said
refusal_said refusal = say (code_of refusal) (error (word_of refusal))

-- this is said, and the jobs stay
abbrev pub Shows : Said → List StoredJob → Option (List StoredJob) → Answer → Type 0
Shows said jobs now answer = Is said answer × (now ≡ Some jobs)

-- what the work may give for files and settings
abbrev pub Given : Type 1
Given = List SourceText → List ℕ → Result MadeWork (List ℕ) → Type 0

-- what is asked for, answered
abbrev pub RepliesTo : Given → Ask → List ℕ → List ℕ → List ℕ → List StoredJob → Option (List StoredJob) → Answer → Type 0
RepliesTo gives Add owner key body jobs now answer = Adds gives owner key body jobs now answer
RepliesTo gives (Head job) owner key body jobs now answer = Shows (head_said (job_of owner job jobs)) jobs now answer
RepliesTo gives (File job n) owner key body jobs now answer = Shows (file_said (file_of owner job n jobs)) jobs now answer
RepliesTo gives (Reports job) owner key body jobs now answer = Shows (reports_said (job_of owner job jobs)) jobs now answer
RepliesTo gives (Judge job n) owner key body jobs now answer = Judges owner job n body jobs now answer
RepliesTo gives (Close job) owner key body jobs now answer = Closes owner job jobs now answer

-- a request, answered
abbrev pub Replies : Given → Request → List StoredJob → Option (List StoredJob) → Answer → Type 0
Replies gives r jobs now answer = RepliesTo gives r.ask r.owner r.key r.body.items jobs now answer
