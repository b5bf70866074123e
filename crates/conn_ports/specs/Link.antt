-- What a connection holds, and what a call on it does.
use Rattle.std.specs.Prelude.{◌≡◌, ℕ, ◌≤◌, List, [], ◌++◌, length, Option, None, Some, Result, Ok, Err}
use Rattle.io_ports.specs.declared.fault.PortFault.{PortFault}
use Rattle.io_ports.specs.declared.fault.PortFault.TheVariants.{Failed, Memory}

-- the bytes that were read from a connection, those that are still to be read, and those that were written to it
pub record Link : Type 0 where
  pub taken : List ℕ
  pub left : List ℕ
  pub written : List ℕ

-- no byte was read or written yet
pub record IsFresh (link : Link) : Type 0 where
  pub taken : link.taken ≡ []
  pub written : link.written ≡ []

-- the relation holds of what was told and what is told then; what is told goes on being told
abbrev pub Moves : {A : Type 0} → (A → A → Type 0) → Option A → Option A → Type 0
Moves R None now = Unit {0}
Moves R (Some before) None = ⊥
Moves R (Some before) (Some now) = R before now

-- these bytes were read, and none only at the end of the input
pub record Takes (bytes : List ℕ) (before now : Link) : Type 0 where
  pub taken : now.taken ≡ before.taken ++ bytes
  pub left : before.left ≡ bytes ++ now.left
  pub written : now.written ≡ before.written
  pub ended : bytes ≡ [] → now.left ≡ []

-- a read of at most `max` bytes that answers `n`
pub record Reads (max : ℕ) (old new : List ℕ) (before now : Option Link) (n : ℕ) : Type 0 where
  pub bytes : List ℕ
  pub appended : new ≡ old ++ bytes
  pub count : length bytes ≡ n
  pub most : n ≤ max
  pub told : Moves (Takes bytes) before now

-- these bytes were written, and nothing was read
abbrev pub with_written : List ℕ → Link → Link
with_written bytes link = record link { written = link.written ++ bytes }

-- what a write of these bytes sent, by its answer
abbrev pub Sends : List ℕ → Result Unit PortFault → Link → Link → Type 0
Sends bytes (Ok done) before now = now ≡ with_written bytes before
Sends bytes (Err Failed) before now =
    (sent : List ℕ) × (unsent : List ℕ) × (bytes ≡ sent ++ unsent) × (now ≡ with_written sent before)
Sends bytes (Err Memory) before now = now ≡ before

-- a write of these bytes
abbrev pub Writes : List ℕ → Result Unit PortFault → Option Link → Option Link → Type 0
Writes bytes result before now = Moves (Sends bytes result) before now
