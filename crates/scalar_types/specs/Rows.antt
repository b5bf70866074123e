-- The lists of some vectors of numbers.
use Rattle.std.specs.Prelude.{ℕ, List, map, Vec}
use Rattle.std.specs.declared.alloc.Global.{Global}

abbrev pub rows : List (Vec ℕ Global) → List (List ℕ)
rows vs = map (λ v. v.items) vs
