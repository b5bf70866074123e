-- Includes by the numbers of files.
use Rattle.std.specs.Prelude.{◌≡◌, ℕ, List, length, slice_get, Contains, Some}
use Rattle.file_declarations.specs.declared.told.Told.{Told}
use Rattle.file_declarations.specs.declared.told.Told.TheVariants.{Declares, Extends, Includes}
use Rattle.graph_search.specs.Graph.{Graph, Edge, pair}
use Rattle.program_names.specs.Table as table
use Rattle.program_names.specs.Table.{Table}

-- what is told is that a file with a number includes the other one
abbrev pub IsAsked : List (List ℕ) → Told → ℕ → ℕ → Type 0
IsAsked paths (Declares d) a b = ⊥
IsAsked paths (Extends c p) a b = ⊥
IsAsked paths (Includes f path) a b = (f ≡ a) × (slice_get paths b ≡ Some path)

-- some pairs are those of which a relation holds
pub record ArePairs (ps : List (ℕ × ℕ)) (R : ℕ → ℕ → Type 0) : Type 0 where
  pub listed : (a b : ℕ) → Contains ps (pair a b) → R a b
  pub all : (a b : ℕ) → R a b → Contains ps (pair a b)

-- the graph of a relation of the numbers below a bound
pub record IsGraphOf (n : ℕ) (R : ℕ → ℕ → Type 0) (g : Graph) : Type 0 where
  pub size : length g ≡ n
  pub listed : (a b : ℕ) → Edge g a b → R a b
  pub all : (a b : ℕ) → R a b → Edge g a b

-- the graph of what each file includes
abbrev pub IsIncludeGraph : List (List ℕ) → Table → Graph → Type 0
IsIncludeGraph paths t g = IsGraphOf (length t) (table.Includes paths t) g
