-- What a pool's fields hold.
use Rattle.std.specs.Prelude.{map}
use Rattle.scalar_types.specs.Rows.{rows}
use Rattle.scalar_types.specs.declared.pool.Pool.TheInside.{Inside}
use Rattle.scalar_types.specs.Terms.{term}
use Rattle.scalar_types.specs.Pool.{Content, IsPool}

abbrev pub content_of : Inside → Content
content_of p = record { types = map term p.types.items; packed = p.packed.keys; lists = rows p.lists.keys }

abbrev pub IsPoolInside : Inside → Type 0
IsPoolInside p = IsPool (content_of p)
