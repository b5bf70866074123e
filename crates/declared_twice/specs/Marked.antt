-- Marks of what some numbers lead to.
use Rattle.std.specs.Prelude.{◌≡◌, ℕ, Bool, true, List, length, Contains}
use Rattle.graph_search.specs.Graph.{Graph, Path, IsClosed, marked}

-- Exactly what some numbers lead to is marked.
pub record Marked (g : Graph) (from : List ℕ) (ms : List Bool) : Type 0 where
  pub size : length ms ≡ length g
  pub closed : IsClosed g ms
  pub all : (e : ℕ) → Contains from e → marked ms e ≡ true
  pub sound : (b : ℕ) → marked ms b ≡ true → (e : ℕ) × Contains from e × Path g e b
