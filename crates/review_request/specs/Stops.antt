-- Why a request didn't come, and what stands then.
use Rattle.std.specs.Prelude.{◌≡◌, ℕ, ◌≤◌, Result, Ok, Err}
use Rattle.io_ports.specs.Causes.{Rose}
use Rattle.io_ports.specs.declared.fault.PortFault.{PortFault}
use Rattle.io_ports.specs.declared.fault.PortFault.TheVariants as fault
use Rattle.review_request.specs.declared.refusal.Refusal.{Refusal}
use Rattle.review_request.specs.declared.stop.Stop.{Stop}
use Rattle.review_request.specs.declared.stop.Stop.TheVariants.{Refused, Conn, Memory}

-- a fault of the connection as what ends the reading
abbrev pub stop_of : PortFault → Stop
stop_of fault.Failed = Conn
stop_of fault.Memory = Memory

-- `Conn` only where the connection's count rose, and no other answer where it did
abbrev pub StopsBy : {T : Type 0} → ℕ → ℕ → Result T Stop → Type 0
StopsBy before now (Ok value) = now ≡ before
StopsBy before now (Err (Refused refusal)) = now ≡ before
StopsBy before now (Err Conn) = (before ≤ now) × Rose before now
StopsBy before now (Err Memory) = now ≡ before

-- the answer is what the definition says, unless memory lacks
abbrev pub Says : {A B : Type 0} → (A → B) → Result B Refusal → Result A Stop → Type 0
Says view said (Ok value) = said ≡ Ok (view value)
Says view said (Err (Refused refusal)) = said ≡ Err refusal
Says view said (Err Conn) = ⊥
Says view said (Err Memory) = Unit {0}
