-- Numbers that a cycle may begin with.
use Rattle.std.specs.Prelude.{◌≡◌, ◌≤◌, ℕ, Bool, true, List, ◌∷◌, slice_index, Contains, Option, Some, None}
use Rattle.graph_search.specs.Graph.{pair, marked}
use Rattle.class_cycles.specs.Circuits.{Pairs, IsCircuit}
use Rattle.class_cycles.specs.Back.{IsLeastBack}

-- each cycle begins with a number that is marked
abbrev pub AreBeginnings : Pairs → List Bool → Type 0
AreBeginnings ps marks = (a : ℕ) (bs : List ℕ) → IsCircuit ps (a ∷ bs) → marked marks a ≡ true

-- no pair leads to a lesser level
abbrev pub NeverDown : Pairs → List ℕ → Type 0
NeverDown ps levels = (a b : ℕ) → Contains ps (pair a b) → slice_index levels a ≤ slice_index levels b

-- what was marked is, and each number that leads to one of its own level
pub record AreLevelMarked (ps : Pairs) (levels : List ℕ) (old new : List Bool) : Type 0 where
  pub kept : (a : ℕ) → marked old a ≡ true → marked new a ≡ true
  pub level : (a b : ℕ) → Contains ps (pair a b) → slice_index levels a ≡ slice_index levels b → marked new a ≡ true

-- the second number of the first cycle that begins with one, or none where no cycle does
abbrev pub IsSecond : Pairs → List Bool → ℕ → Option ℕ → Type 0
IsSecond ps taken n None = (bs : List ℕ) → ¬ IsCircuit ps (n ∷ bs)
IsSecond ps taken n (Some s) = IsLeastBack ps taken n n s
