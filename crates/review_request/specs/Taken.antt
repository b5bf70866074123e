-- What was read from a connection.
use Rattle.std.specs.Prelude.{◌≡◌, ℕ, List, [], ◌++◌, Option}
use Rattle.conn_ports.specs.Link.{Link, Moves}

-- the bytes that stand behind the old ones were read, and nothing was written
pub record Took (old new : List ℕ) (before now : Link) : Type 0 where
  pub bytes : List ℕ
  pub appended : new ≡ old ++ bytes
  pub taken : now.taken ≡ before.taken ++ bytes
  pub left : before.left ≡ bytes ++ now.left
  pub written : now.written ≡ before.written

-- the same of a connection that may tell nothing
abbrev pub TookFrom : List ℕ → List ℕ → Option Link → Option Link → Type 0
TookFrom old new before now = Moves (Took old new) before now

-- these bytes were read, and nothing was written
abbrev pub TookAll : List ℕ → Option Link → Option Link → Type 0
TookAll bytes before now = TookFrom [] bytes before now

-- some bytes were read, and nothing was written
abbrev pub TookSome : Option Link → Option Link → Type 0
TookSome before now = (bytes : List ℕ) × TookAll bytes before now

-- where the connection tells it, its input has ended
abbrev pub EndsAt : Option Link → Option Link → Type 0
EndsAt before now = Moves (λ _ link. link.left ≡ []) before now
