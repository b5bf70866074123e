-- The first cycle of classes, if there is one.
use Rattle.std.specs.Prelude.{ℕ, List, Option, Some, None, Vec}
use Rattle.std.specs.declared.alloc.Global.{Global}
use Rattle.program_names.specs.Table.{Table, IsCycle, IsFirstCycle}

-- the first cycle, or none where there is none
abbrev pub IsCycleAnswer : Table → Option (Vec (List ℕ) Global) → Type 0
IsCycleAnswer t None = (names : List (List ℕ)) → ¬ IsCycle t names
IsCycleAnswer t (Some v) = IsFirstCycle t v.items
