-- What a request for a new job is answered with, and what it leaves.
use Rattle.std.specs.Prelude.{◌≡◌, ◌⊎◌, ℕ, Bool, true, false, List, codes, Option, None, Some, Result, Ok, Err, if◌then◌else◌}
use Rattle.std.specs.Str.{bytes_eq}
use Rattle.job_core.specs.Job.{StoredJob}
use Rattle.job_core.specs.Jobs.{keyed_job}
use Rattle.job_core.specs.Keeper.{Tells}
use Rattle.job_core.specs.Machine.{has_room}
use Rattle.job_core.specs.Work.{MadeWork, SourceText, made_work}
use Rattle.job_core.specs.declared.command.Command.TheVariants as command
use Rattle.job_core.specs.declared.job.JobHead.{JobHead}
use Rattle.job_core.specs.declared.job.Made.{Made}
use Rattle.review_answers.specs.Bodies as bodies
use Rattle.review_answers.specs.declared.code.Code.TheVariants.{Created}
use Rattle.job_replies.specs.Received.{IsReceived}
use Rattle.job_replies.specs.Said.{Does, Is, Said, bad_body, conflict, refused, say}
use Rattle.job_replies.specs.declared.answer.Answer.{Answer}

-- what is said of a new job
abbrev pub created : JobHead → Said
created h = say Created (bodies.made h)

-- what is said where a job with this head stands under the key
abbrev pub again_said : List ℕ → JobHead → Said
again_said body h = if bytes_eq body h.request then created h else conflict (codes "key")

-- what was made is stored as the machine of jobs stores it
abbrev pub Stores : List ℕ → List ℕ → List ℕ → Made → List StoredJob → Option (List StoredJob) → Answer → Type 0
Stores owner key body made jobs now answer = Does (command.Add owner key body made) created jobs now answer

-- what the work may give is stored, or said as its refusal
abbrev pub Works : (Result MadeWork (List ℕ) → Type 0) → List ℕ → List ℕ → List ℕ → List StoredJob → Option (List StoredJob) → Answer → Type 0
Works gives owner key body jobs now answer =
    ((made : Made) × gives (Ok (made_work made)) × Stores owner key body made jobs now answer)
    ⊎ ((text : List ℕ) × gives (Err text) × Is (refused text) answer × Tells now jobs)

-- a request by its key: where a job stands under it, or the owner has no room, nothing is made
abbrev pub EntersBy : Option StoredJob → Bool → List ℕ → Answer → Type 0 → Type 0 → Type 0
EntersBy (Some j) room body answer stays works = Is (again_said body j.head) answer × stays
EntersBy None true body answer stays works = works
EntersBy None false body answer stays works = Is (conflict (codes "full")) answer × stays

abbrev pub Enters : (Result MadeWork (List ℕ) → Type 0) → List ℕ → List ℕ → List ℕ → List StoredJob → Option (List StoredJob) → Answer → Type 0
Enters gives owner key body jobs now answer =
    EntersBy (keyed_job owner key jobs) (has_room owner jobs) body answer (Tells now jobs) (Works gives owner key body jobs now answer)

-- a request for a new job: its body is none, or its files go by its key
abbrev pub Adds : (List SourceText → List ℕ → Result MadeWork (List ℕ) → Type 0) → List ℕ → List ℕ → List ℕ → List StoredJob → Option (List StoredJob) → Answer → Type 0
Adds gives owner key body jobs now answer =
    (((files : List SourceText) (settings : List ℕ) → ¬ (IsReceived body files settings)) × Is bad_body answer × Tells now jobs)
    ⊎ ((files : List SourceText) × (settings : List ℕ) × IsReceived body files settings × Enters (gives files settings) owner key body jobs now answer)
