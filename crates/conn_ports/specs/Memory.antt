-- What the listeners in memory hold, and how often a call of theirs failed.
use Rattle.std.specs.Prelude.{ℕ, map}
use Rattle.conn_ports.specs.Given.{Given}
use Rattle.conn_ports.specs.Returned.{returned, room, free}
use Rattle.conn_ports.specs.Wire.{memory_ended, calm_ended}
use Rattle.conn_ports.specs.declared.calm.listener.CalmListener.{CalmListener}
use Rattle.conn_ports.specs.declared.memory.listener.MemoryListener.{MemoryListener}

-- room was made for each connection that was handed out
abbrev pub memory_given : MemoryListener → Given
memory_given l = record { out = room l.back; back = map memory_ended (returned l.back) }

abbrev pub calm_given : CalmListener → Given
calm_given l = record { out = room l.back; back = map calm_ended (returned l.back) }

-- the room that is left
abbrev pub memory_spare : MemoryListener → ℕ
memory_spare l = free l.back

abbrev pub calm_spare : CalmListener → ℕ
calm_spare l = free l.back

-- how often a call failed
abbrev pub listener_faults : MemoryListener → ℕ
listener_faults l = l.tally.faults
