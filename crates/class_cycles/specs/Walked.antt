-- The first numbers of the first cycle.
use Rattle.std.specs.Prelude.{◌≡◌, ◌<◌, ◌≤◌, ℕ, Bool, false, List, ◌∷◌, length, Contains}
use Rattle.std.specs.Ordering.{nat_cmp}
use Rattle.std.specs.declared.cmp.Ordering.TheVariants.{Less}
use Rattle.std.specs.Cmp.Lexicographic.{slice_cmp}
use Rattle.graph_search.specs.Graph.{pair, marked}
use Rattle.class_cycles.specs.Circuits.{Pairs, AreWithin, Follow, IsBelowAll, AreDistinct, IsCircuit}
use Rattle.class_cycles.specs.Back.{Back}

-- one that follows a number leads back
abbrev pub LeadsBack : Pairs → List Bool → ℕ → ℕ → Type 0
LeadsBack ps taken end a = (b : ℕ) × Contains ps (pair a b) × Back ps taken end b

-- These numbers follow one another, and `next` comes behind them: it is the least that leads back, and no cycle comes
-- before them. They and those below the first one are taken.
pub record Walked (ps : Pairs) (taken : List Bool) (first : ℕ) (rest : List ℕ) (next : ℕ) : Type 0 where
  pub begun : first < length taken
  pub within : AreWithin (length taken) ps
  pub below : IsBelowAll first rest
  pub distinct : AreDistinct rest
  pub follow : Follow ps next first rest
  pub free : (b : ℕ) → b < length taken → marked taken b ≡ false → (first < b) × (¬ Contains (first ∷ rest) b)
  pub others : (b : ℕ) → first < b → ¬ Contains (first ∷ rest) b → marked taken b ≡ false
  pub back : Back ps taken first next
  pub least : (b : ℕ) → Follow ps b first rest → Back ps taken first b → next ≤ b
  pub none : (other : List ℕ) → IsCircuit ps other → ¬ (slice_cmp nat_cmp other (first ∷ rest) ≡ Less)
