-- Numbers that are marked, and are still to be followed.
use Rattle.std.specs.Prelude.{◌≡◌, ◌<◌, ◌⊎◌, ℕ, Bool, true, List, ◌++◌, length, Contains}
use Rattle.graph_search.specs.Graph.{marked}

-- each of some numbers is below a bound
abbrev pub AreBelow : List ℕ → ℕ → Type 0
AreBelow bs n = (b : ℕ) → Contains bs b → b < n

-- These numbers are marked, and those that weren't before stand behind the ones that are still to be followed.
pub record Marks (targets : List ℕ) (old new : List Bool) (was open_now : List ℕ) : Type 0 where
  pub size : length new ≡ length old
  pub kept : (b : ℕ) → marked old b ≡ true → marked new b ≡ true
  pub all : (b : ℕ) → Contains targets b → marked new b ≡ true
  pub more : List ℕ
  pub longer : open_now ≡ was ++ more
  pub from : (b : ℕ) → marked new b ≡ true → (marked old b ≡ true) ⊎ Contains more b
  pub among : (b : ℕ) → Contains more b → Contains targets b
  pub are : (b : ℕ) → Contains more b → marked new b ≡ true
