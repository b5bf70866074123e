-- What stands after a request was served, case by case.
use Rattle.std.proofs.Common.{◌≡◌, ◌⊎◌, inl, inr, ℕ, ◌≤◌, List, Option, None, Some, Result, Ok, Err, IfSome, IfOk, OnErr, sym, ◌∙◌, refl, subst}
use Rattle.std.specs.Result.{IsErrOf}
use Rattle.conn_ports.specs.Link.{Link, Moves, Sends as LinkSends, Writes}
use Rattle.io_ports.specs.Causes.{Rose}
use Rattle.io_ports.specs.declared.fault.PortFault.{PortFault}
use Rattle.io_ports.specs.declared.fault.PortFault.TheVariants as port
use Rattle.job_core.specs.Job.{StoredJob}
use Rattle.job_core.specs.Keeper.{HasCause}
use Rattle.job_core.specs.declared.fault.KeepFault.{KeepFault}
use Rattle.job_core.specs.declared.fault.KeepFault.TheVariants as keep
use Rattle.job_replies.specs.Said.{Is, Said}
use Rattle.job_replies.specs.declared.answer.Answer.{Answer}
use Rattle.review_answers.specs.Answers.{answer_of, number_of}
use Rattle.review_answers.specs.declared.code.Code.{Code}
use Rattle.review_http.specs.Replies.{Given, Replies, refusal_said}
use Rattle.review_http.specs.Serves.{Answered, Delivers, FaultBy, Sends, Serves, ServesBy, Stays, fault_said, serve_fault}
use Rattle.review_http.specs.declared.serve.ServeFault.{ServeFault}
use Rattle.review_http.specs.declared.serve.ServeFault.TheVariants.{Conn, Memory}
use Rattle.review_request.specs.Reading.{Reading}
use Rattle.review_request.specs.declared.refusal.Refusal.{Refusal}
use Rattle.review_request.specs.declared.request.Request.{Request}
use Rattle.review_request.specs.declared.stop.Stop.{Stop}
use Rattle.review_request.specs.declared.stop.Stop.TheVariants as stop

-- nothing was sent
pub unsent : (code : Code) (body : List ℕ) (x : Option Link) → Delivers code body x x (Err Memory)
unsent code body None = tt
unsent code body (Some l) = refl

-- a write of the answer failed
pub failed : (code : Code) (body bytes : List ℕ) (x y : Option Link) (f : PortFault) → bytes ≡ answer_of code body
    → Writes bytes (Err f) x y → Delivers code body x y (Err (serve_fault f))
failed code body bytes x y port.Failed e w = subst (λ b. Writes b (Err port.Failed) x y) e w
failed code body bytes None y port.Memory e w = tt
failed code body bytes (Some l) (Some m) port.Memory e w = w
failed code body bytes (Some l) None port.Memory e w = w

-- the keeper answered
pub by_reply : (gives : Given) (r : Request) (n m : ℕ) (old now : Option (List StoredJob)) (a : Answer)
    → HasCause {T = Answer} n m (Ok a) → IfSome old (λ js. Replies gives r js now a)
    → Answered gives r n m old now a
by_reply gives r n m old now a cause told = inl (cause.ok, told)

-- the keeper failed, or memory lacked
pub by_fault : (gives : Given) (r : Request) (n m : ℕ) (old now : Option (List StoredJob)) (f : KeepFault) (a : Answer)
    → HasCause {T = Answer} n m (Err f) → now ≡ old → Is (fault_said f) a → Answered gives r n m old now a
by_fault gives r n m old now keep.Failed a cause same said = inr (keep.Failed, (cause.later, cause.failed refl), same, said)
by_fault gives r n m old now keep.Memory a cause same said = inr (keep.Memory, cause.memory refl, same, said)

module _ (gives : Given) (x z : Option Link) (n m : ℕ) (old now : Option (List StoredJob)) (result : Result ℕ ServeFault) where
  -- a whole request
  pub served : (y : Option Link) (r : Request) (a : Answer) → Reading x y (Ok r) → Answered gives r n m old now a
      → Delivers a.code a.body.items y z result → Serves gives x z n m old now result
  served y r a read answered sent = record { middle = y; request = Ok r; reading = read; serves = inl (a, answered, sent) }

  pub refused : (y : Option Link) (f : Refusal) (a : Answer) → Reading x y (Err (stop.Refused f)) → m ≡ n → now ≡ old
      → Is (refusal_said f) a → Delivers a.code a.body.items y z result → Serves gives x z n m old now result
  refused y f a read calm same said sent =
      record { middle = y; request = Err (stop.Refused f); reading = read; serves = ((calm, same), inl (a, said, sent)) }

  pub lacking : (y : Option Link) (a : Answer) → Reading x y (Err stop.Memory) → m ≡ n → now ≡ old → Is (fault_said keep.Memory) a
      → Delivers a.code a.body.items y z result → Serves gives x z n m old now result
  lacking y a read calm same said sent =
      record { middle = y; request = Err stop.Memory; reading = read; serves = ((calm, same), inl (a, said, sent)) }

module _ (gives : Given) (x y : Option Link) (n m : ℕ) (old now : Option (List StoredJob)) where
  -- no memory for an answer
  pub unanswered : (r : Request) → Reading x y (Ok r) → now ≡ old → Serves gives x y n m old now (Err Memory)
  unanswered r read same = record { middle = y; request = Ok r; reading = read; serves = inr (refl, refl, same) }

  pub unrefused : (f : Refusal) → Reading x y (Err (stop.Refused f)) → m ≡ n → now ≡ old → Serves gives x y n m old now (Err Memory)
  unrefused f read calm same =
      record { middle = y; request = Err (stop.Refused f); reading = read; serves = ((calm, same), inr (refl, refl)) }

  pub unlacking : Reading x y (Err stop.Memory) → m ≡ n → now ≡ old → Serves gives x y n m old now (Err Memory)
  unlacking read calm same =
      record { middle = y; request = Err stop.Memory; reading = read; serves = ((calm, same), inr (refl, refl)) }

  pub lost : Reading x y (Err stop.Conn) → m ≡ n → now ≡ old → Serves gives x y n m old now (Err Conn)
  lost read calm same = record { middle = y; request = Err stop.Conn; reading = read; serves = ((calm, same), refl, refl) }

-- the answer was written whole
pub sent_whole : (code : Code) (body bytes : List ℕ) (x y : Option Link) (status : ℕ) → status ≡ number_of code
    → bytes ≡ answer_of code body → Writes bytes (Ok tt) x y → Delivers code body x y (Ok status)
sent_whole code body bytes x y status number e w = (number, subst (λ b. Writes b (Ok tt) x y) e w)
