-- Connections in memory of which no call was made.
use Rattle.std.specs.Prelude.{◌≡◌, List, [], ◌∷◌}
use Rattle.std.proofs.Props.{props}
use Rattle.conn_ports.specs.Link.{IsFresh}
use Rattle.conn_ports.specs.Wire.{memory_link, memory_faults, calm_link}
use Rattle.conn_ports.specs.declared.calm.conn.CalmConn.{CalmConn}
use Rattle.conn_ports.specs.declared.memory.conn.MemoryConn.{MemoryConn}

-- no byte was read or written, and no call failed
pub record IsFreshConn (conn : MemoryConn) : Type 0 where
  pub link : IsFresh (memory_link conn)
  pub calm : memory_faults conn ≡ 0

-- each of them
abbrev pub AreFresh : List MemoryConn → Type 0
AreFresh [] = Unit {0}
AreFresh (c ∷ conns) = IsFreshConn c × AreFresh conns

abbrev pub AreFreshCalm : List CalmConn → Type 0
AreFreshCalm [] = Unit {0}
AreFreshCalm (c ∷ conns) = IsFresh (calm_link c) × AreFreshCalm conns

-- these facts have one proof
pub fresh_prop : (conns : List MemoryConn) → IsProp (AreFresh conns)
fresh_prop [] = hlevel
fresh_prop (c ∷ conns) = let rest : IsProp (AreFresh conns) = fresh_prop conns in hlevel (props, rest)

pub fresh_calm_prop : (conns : List CalmConn) → IsProp (AreFreshCalm conns)
fresh_calm_prop [] = hlevel
fresh_calm_prop (c ∷ conns) = let rest : IsProp (AreFreshCalm conns) = fresh_calm_prop conns in hlevel (props, rest)
