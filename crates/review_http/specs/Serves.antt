-- What stands after a request of a connection was served.
use Rattle.std.specs.Prelude.{◌≡◌, ◌⊎◌, ℕ, ◌≤◌, List, codes, Option, Result, Ok, Err, IfSome}
use Rattle.conn_ports.specs.Link.{Link, Moves, Writes}
use Rattle.io_ports.specs.Causes.{Rose}
use Rattle.io_ports.specs.declared.fault.PortFault.{PortFault}
use Rattle.io_ports.specs.declared.fault.PortFault.TheVariants as port
use Rattle.job_core.specs.Job.{StoredJob}
use Rattle.job_core.specs.declared.fault.KeepFault.{KeepFault}
use Rattle.job_core.specs.declared.fault.KeepFault.TheVariants as keep
use Rattle.job_replies.specs.Said.{Is, Said, say}
use Rattle.job_replies.specs.declared.answer.Answer.{Answer}
use Rattle.review_answers.specs.Answers.{answer_of, number_of}
use Rattle.review_answers.specs.Bodies.{error}
use Rattle.review_answers.specs.declared.code.Code.{Code}
use Rattle.review_answers.specs.declared.code.Code.TheVariants.{ServiceUnavailable, InsufficientStorage}
use Rattle.review_http.specs.Replies.{Given, Replies, refusal_said}
use Rattle.review_http.specs.declared.serve.ServeFault.{ServeFault}
use Rattle.review_http.specs.declared.serve.ServeFault.TheVariants.{Conn, Memory}
use Rattle.review_request.specs.Reading.{Reading}
use Rattle.review_request.specs.declared.request.Request.{Request}
use Rattle.review_request.specs.declared.stop.Stop.{Stop}
use Rattle.review_request.specs.declared.stop.Stop.TheVariants as stop

-- a fault of the connection as what is answered
abbrev pub serve_fault : PortFault → ServeFault
serve_fault port.Failed = Conn
serve_fault port.Memory = Memory

-- `Conn` only where the connection's count rose, and no other answer where it did
abbrev pub ServeCause : {T : Type 0} → ℕ → ℕ → Result T ServeFault → Type 0
ServeCause before now (Ok value) = now ≡ before
ServeCause before now (Err Conn) = (before ≤ now) × Rose before now
ServeCause before now (Err Memory) = now ≡ before

-- what is said where the keeper failed or memory lacked
abbrev pub fault_said : KeepFault → Said
fault_said keep.Failed = say ServiceUnavailable (error (codes "keeper"))
fault_said keep.Memory = say InsufficientStorage (error (codes "memory"))

-- such a fault, and what it did to the keeper's count
abbrev pub FaultBy : KeepFault → ℕ → ℕ → Type 0
FaultBy keep.Failed before now = (before ≤ now) × Rose before now
FaultBy keep.Memory before now = now ≡ before

-- a request is answered by the tables, or a fault left the jobs
abbrev pub Answered : Given → Request → ℕ → ℕ → Option (List StoredJob) → Option (List StoredJob) → Answer → Type 0
Answered gives r before after jobs now answer =
    ((after ≡ before) × IfSome jobs (λ js. Replies gives r js now answer))
    ⊎ ((fault : KeepFault) × FaultBy fault before after × (now ≡ jobs) × Is (fault_said fault) answer)

-- an answer is sent whole and its status given, or some of it, or none
abbrev pub Delivers : Code → List ℕ → Option Link → Option Link → Result ℕ ServeFault → Type 0
Delivers code body before now (Ok status) = (status ≡ number_of code) × Writes (answer_of code body) (Ok tt) before now
Delivers code body before now (Err Conn) = Writes (answer_of code body) (Err port.Failed) before now
Delivers code body before now (Err Memory) = Moves (λ link then_link. then_link ≡ link) before now

-- this is said, unless memory lacks for it
abbrev pub Sends : Said → Option Link → Option Link → Result ℕ ServeFault → Type 0
Sends said before now result =
    ((answer : Answer) × Is said answer × Delivers answer.code answer.body.items before now result)
    ⊎ ((result ≡ Err Memory) × (now ≡ before))

-- the keeper is as before
abbrev pub Stays : ℕ → ℕ → Option (List StoredJob) → Option (List StoredJob) → Type 0
Stays before after jobs now = (after ≡ before) × (now ≡ jobs)

-- by what was read
abbrev pub ServesBy : Given → Result Request Stop → Option Link → Option Link → ℕ → ℕ → Option (List StoredJob) → Option (List StoredJob) → Result ℕ ServeFault → Type 0
ServesBy gives (Ok r) middle end before after jobs now result =
    ((answer : Answer) × Answered gives r before after jobs now answer × Delivers answer.code answer.body.items middle end result)
    ⊎ ((result ≡ Err Memory) × (end ≡ middle) × (now ≡ jobs))
ServesBy gives (Err (stop.Refused refusal)) middle end before after jobs now result =
    Stays before after jobs now × Sends (refusal_said refusal) middle end result
ServesBy gives (Err stop.Conn) middle end before after jobs now result =
    Stays before after jobs now × (result ≡ Err Conn) × (end ≡ middle)
ServesBy gives (Err stop.Memory) middle end before after jobs now result =
    Stays before after jobs now × Sends (fault_said keep.Memory) middle end result

-- one request was read, answered and sent
pub record Serves (gives : Given) (start end : Option Link) (before after : ℕ) (jobs now : Option (List StoredJob)) (result : Result ℕ ServeFault) : Type 0 where
  pub middle : Option Link
  pub request : Result Request Stop
  pub reading : Reading start middle request
  pub serves : ServesBy gives request middle end before after jobs now result
