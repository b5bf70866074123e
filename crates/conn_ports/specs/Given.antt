-- What a listener holds: how many connections it handed out, and which it took back.
use Rattle.std.specs.Prelude.{◌≡◌, ℕ, ◌+◌, List, [], ◌∷◌, ◌++◌, Option, None, Some, Result, Ok, Err}
use Rattle.io_ports.specs.declared.fault.PortFault.{PortFault}
use Rattle.conn_ports.specs.Link.{Link}

-- a connection that was taken back: what it tells, and how often a call of it failed
pub record Ended : Type 0 where
  pub link : Option Link
  pub faults : ℕ

-- how many connections were handed out, and those that were taken back, in order
pub record Given : Type 0 where
  pub out : ℕ
  pub back : List Ended

-- one more connection was handed out, where the answer is Ok
abbrev pub HandsOut : {L : Type 0} → Result L PortFault → Given → Given → Type 0
HandsOut (Ok link) before now = now ≡ record before { out = before.out + 1 }
HandsOut (Err fault) before now = now ≡ before

-- this connection was taken back
abbrev pub TakesBack : Ended → Given → Given → Type 0
TakesBack ended before now = now ≡ record before { back = before.back ++ ended ∷ [] }
