-- What was taken back.
use Rattle.std.specs.Prelude.{ℕ, ◌-◌, List, take, length}
use Rattle.conn_ports.specs.declared.returned.Returned.{Returned}

-- what was taken back stands first, in order
abbrev pub returned : {C : Type 0} → Returned C → List C
returned r = take r.count r.slots.items

-- the room that was made, used or not
abbrev pub room : {C : Type 0} → Returned C → ℕ
room r = length r.slots.items

-- the room that is left
abbrev pub free : {C : Type 0} → Returned C → ℕ
free r = room r - r.count
