-- Cycles of numbers, some of which follow others.
use Rattle.std.specs.Prelude.{◌≡◌, ◌<◌, ℕ, List, [], ◌∷◌, Contains, Option, Some, None, Vec}
use Rattle.std.specs.Ordering.{nat_cmp}
use Rattle.std.specs.declared.alloc.Global.{Global}
use Rattle.std.specs.declared.cmp.Ordering.TheVariants.{Less}
use Rattle.std.specs.Cmp.Lexicographic.{slice_cmp}
use Rattle.graph_search.specs.Graph.{pair}

-- the second number of each pair follows the first one
abbrev pub Pairs : Type 0
Pairs = List (ℕ × ℕ)

-- both numbers of each pair are below a bound
abbrev pub AreWithin : ℕ → Pairs → Type 0
AreWithin n ps = (a b : ℕ) → Contains ps (pair a b) → (a < n) × (b < n)

-- each number is followed by the next, and the last one by `end`
abbrev pub Follow : Pairs → ℕ → ℕ → List ℕ → Type 0
Follow ps end a [] = Contains ps (pair a end)
Follow ps end a (b ∷ bs) = Contains ps (pair a b) × Follow ps end b bs

-- a number is less than each of some
abbrev pub IsBelowAll : ℕ → List ℕ → Type 0
IsBelowAll a [] = Unit {0}
IsBelowAll a (b ∷ bs) = (a < b) × IsBelowAll a bs

-- no number stands twice
abbrev pub AreDistinct : List ℕ → Type 0
AreDistinct [] = Unit {0}
AreDistinct (a ∷ bs) = (¬ Contains bs a) × AreDistinct bs

-- a cycle that has no number twice, from its least number on
abbrev pub IsCircuit : Pairs → List ℕ → Type 0
IsCircuit ps [] = ⊥
IsCircuit ps (a ∷ bs) = IsBelowAll a bs × AreDistinct bs × Follow ps a a bs

-- the cycle that comes first in the order of dictionaries
pub record IsFirstCircuit (ps : Pairs) (rs : List ℕ) : Type 0 where
  pub is : IsCircuit ps rs
  pub first : (other : List ℕ) → IsCircuit ps other → ¬ (slice_cmp nat_cmp other rs ≡ Less)

-- the first cycle, or none where there is none
abbrev pub IsCircuitAnswer : Pairs → Option (Vec ℕ Global) → Type 0
IsCircuitAnswer ps None = (other : List ℕ) → ¬ IsCircuit ps other
IsCircuitAnswer ps (Some v) = IsFirstCircuit ps v.items
