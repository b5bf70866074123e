-- Graphs of numbers: each number has those that follow it.
use Rattle.std.specs.Prelude.{◌≡◌, ◌<◌, ◌⊎◌, ℕ, Bool, true, false, List, length, map, slice_get, slice_index_or, Contains, Some, Vec}
use Rattle.std.specs.declared.alloc.Global.{Global}

abbrev pub Graph : Type 0
Graph = List (List ℕ)

-- the graph of some lists
abbrev pub graph_of : List (Vec ℕ Global) → Graph
graph_of vs = map (λ v. v.items) vs

-- one number follows another
pub record Edge (g : Graph) (a b : ℕ) : Type 0 where
  pub all : List ℕ
  pub at : slice_get g a ≡ Some all
  pub among : Contains all b

-- a number leads to another, over any number of edges
pub data Path (g : Graph) : ℕ → ℕ → Type 0 where
  here : (a : ℕ) → Path g a a
  step : (a b c : ℕ) → Edge g a b → Path g b c → Path g a c

-- each edge leads to a number of the graph
abbrev pub IsWithin : Graph → Type 0
IsWithin g = (a b : ℕ) → Edge g a b → b < length g

-- whether a number is marked
abbrev pub marked : List Bool → ℕ → Bool
marked ms b = slice_index_or ms b false

-- what follows a marked number is marked
abbrev pub IsClosed : Graph → List Bool → Type 0
IsClosed g ms = (a b : ℕ) → marked ms a ≡ true → Edge g a b → marked ms b ≡ true

-- Besides what was marked, exactly what a number leads to is marked.
pub record IsMarkedFrom (g : Graph) (from : ℕ) (old new : List Bool) : Type 0 where
  pub size : length new ≡ length old
  pub closed : IsClosed g new
  pub reached : marked new from ≡ true
  pub kept : (b : ℕ) → marked old b ≡ true → marked new b ≡ true
  pub sound : (b : ℕ) → marked new b ≡ true → (marked old b ≡ true) ⊎ Path g from b

abbrev pub pair : ℕ → ℕ → ℕ × ℕ
pair a b = (a, b)

-- each of some pairs has a first number below a bound
abbrev pub ArePairsBelow : ℕ → List (ℕ × ℕ) → Type 0
ArePairsBelow n ps = (a b : ℕ) → Contains ps (pair a b) → a < n

-- a graph of so many numbers whose edges are some pairs
pub record IsGraph (n : ℕ) (ps : List (ℕ × ℕ)) (g : Graph) : Type 0 where
  pub size : length g ≡ n
  pub listed : (a b : ℕ) → Edge g a b → Contains ps (pair a b)
  pub all : (a b : ℕ) → Contains ps (pair a b) → Edge g a b
