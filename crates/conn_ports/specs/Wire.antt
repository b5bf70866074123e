-- What the connections in memory hold, and how often a call of theirs failed.
use Rattle.std.specs.Prelude.{ℕ, take, drop, Some}
use Rattle.conn_ports.specs.Given.{Ended}
use Rattle.conn_ports.specs.Link.{Link}
use Rattle.conn_ports.specs.declared.wire.Wire.{Wire}
use Rattle.conn_ports.specs.declared.calm.conn.CalmConn.{CalmConn}
use Rattle.conn_ports.specs.declared.memory.conn.MemoryConn.{MemoryConn}

-- the input, cut at the place up to which it was read, and the bytes that were written
abbrev pub wire_link : Wire → Link
wire_link w = record { taken = take w.at w.input.items; left = drop w.at w.input.items; written = w.written.items }

abbrev pub memory_link : MemoryConn → Link
memory_link c = wire_link c.wire

abbrev pub calm_link : CalmConn → Link
calm_link c = wire_link c.wire

-- how often a call failed
abbrev pub memory_faults : MemoryConn → ℕ
memory_faults c = c.tally.faults

-- such a connection, once it was taken back
abbrev pub memory_ended : MemoryConn → Ended
memory_ended c = record { link = Some (memory_link c); faults = memory_faults c }

abbrev pub calm_ended : CalmConn → Ended
calm_ended c = record { link = Some (calm_link c); faults = 0 }
