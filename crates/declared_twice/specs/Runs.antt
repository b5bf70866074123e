-- The files that one run reaches, as a graph.
use Rattle.std.specs.Prelude.{◌≡◌, ◌<◌, ◌⊎◌, ℕ, Bool, true, List, [], length, map, Contains, Option, Some, None}
use Rattle.graph_search.specs.Graph.{Graph, Edge, IsGraph, Path, IsWithin, marked, pair}
use Rattle.graph_search.specs.Marks.{AreBelow}
use Rattle.program_names.specs.Entries.{paths_of}
use Rattle.program_names.specs.Files.{Files}
use Rattle.program_names.specs.Table as table
use Rattle.program_names.specs.Table.{Table, table_of}
use Rattle.declared_twice.specs.Includes.{IsGraphOf}

-- a file includes another, or is an entry before which the other runs
abbrev pub Leads : List (List ℕ) → Table → List ℕ → Option ℕ → ℕ → ℕ → Type 0
Leads paths t entries prepend a b = table.Includes paths t a b ⊎ (Contains entries a × (prepend ≡ Some b))

-- each entry with the file before it
abbrev pub starts : List ℕ → Option ℕ → List (ℕ × ℕ)
starts entries None = []
starts entries (Some p) = map (λ e. pair e p) entries

-- the other way round
abbrev pub turned : ℕ × ℕ → ℕ × ℕ
turned p = pair p.1 p.0

-- the edges of one graph are those of the other, the other way round
pub record IsTurned (next before : Graph) : Type 0 where
  pub size : length before ≡ length next
  pub forth : (a b : ℕ) → Edge next a b → Edge before b a
  pub back : (a b : ℕ) → Edge before a b → Edge next b a

-- two graphs, one the other way round, and entries among their numbers
pub record AreRuns (next before : Graph) (entries : List ℕ) : Type 0 where
  pub within : IsWithin next
  pub within_before : IsWithin before
  pub turned : IsTurned next before
  pub below : AreBelow entries (length next)

-- the graph of what leads to what
abbrev pub IsRunGraph : Files → List ℕ → Option ℕ → Graph → Type 0
IsRunGraph fs entries prepend next = IsGraphOf (length fs) (Leads (paths_of fs) (table_of fs) entries prepend) next

-- both numbers of each pair are below a bound
abbrev pub ArePairsWithin : ℕ → List (ℕ × ℕ) → Type 0
ArePairsWithin n ps = (a b : ℕ) → Contains ps (pair a b) → (a < n) × (b < n)

-- the graphs of some pairs, the second the other way round
pub record AreBothWays (n : ℕ) (ps : List (ℕ × ℕ)) (next before : Graph) : Type 0 where
  pub forth : IsGraph n ps next
  pub back : IsGraph n (map turned ps) before

-- the graph of runs, and the same the other way round
pub record IsRuns (fs : Files) (entries : List ℕ) (prepend : Option ℕ) (next before : Graph) : Type 0 where
  pub graph : IsRunGraph fs entries prepend next
  pub runs : AreRuns next before entries

-- one entry leads to both numbers
pub record Meets (next : Graph) (entries : List ℕ) (f h : ℕ) : Type 0 where
  pub entry : ℕ
  pub among : Contains entries entry
  pub first : Path next entry f
  pub second : Path next entry h

-- exactly the numbers are marked that an entry leads to that leads to this one
pub record AreMet (next : Graph) (entries : List ℕ) (f : ℕ) (ms : List Bool) : Type 0 where
  pub size : length ms ≡ length next
  pub sound : (h : ℕ) → marked ms h ≡ true → Meets next entries f h
  pub all : (h : ℕ) → Meets next entries f h → marked ms h ≡ true
