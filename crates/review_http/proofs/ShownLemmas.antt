-- What is shown leaves the jobs.
use Rattle.std.proofs.Common.{◌≡◌, List, Option, None, Some, Result, Ok, Err, IfSome, IfOk}
use Rattle.job_core.specs.Job.{StoredJob}
use Rattle.job_core.specs.declared.fault.KeepFault.{KeepFault}
use Rattle.job_replies.specs.Said.{Is, Said}
use Rattle.job_replies.specs.declared.answer.Answer.{Answer}
use Rattle.review_http.specs.Replies.{Shows}

pub shown : (said : List StoredJob → Said) (old now : Option (List StoredJob)) (r : Result Answer KeepFault) → now ≡ old
    → IfSome old (λ js. IfOk r (Is (said js))) → IfSome old (λ js. IfOk r (Shows (said js) js now))
shown said None now r same told = tt
shown said (Some js) now (Ok a) same told = (told, same)
shown said (Some js) now (Err e) same told = tt
