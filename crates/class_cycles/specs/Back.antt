-- Ways back to a number, past none of those that are taken.
use Rattle.std.specs.Prelude.{◌≡◌, ◌≤◌, ℕ, Bool, true, false, if◌then◌else◌, nat_lt, List, [], ◌∷◌, length, Contains, Option, Some, None}
use Rattle.graph_search.specs.Graph.{pair, marked}
use Rattle.class_cycles.specs.Circuits.{Pairs}

-- a number leads to `end`, and neither it nor any on the way, but `end`, is taken
pub data Back (ps : Pairs) (taken : List Bool) (end : ℕ) : ℕ → Type 0 where
  home : (a : ℕ) → a ≡ end → Back ps taken end a
  by : (a b : ℕ) → Contains ps (pair a b) → marked taken a ≡ false → Back ps taken end b → Back ps taken end a

-- exactly the numbers that lead back are marked
pub record IsLeading (ps : Pairs) (taken : List Bool) (end : ℕ) (marks : List Bool) : Type 0 where
  pub size : length marks ≡ length taken
  pub sound : (a : ℕ) → marked marks a ≡ true → Back ps taken end a
  pub all : (a : ℕ) → Back ps taken end a → marked marks a ≡ true

-- a pair the other way round, unless its first number is taken
abbrev pub turned_one : List Bool → ℕ → ℕ → Pairs
turned_one taken a b = if marked taken a then [] else (pair b a ∷ [])

-- the pairs whose first number isn't taken, the other way round
pub record IsTurned (ps : Pairs) (taken : List Bool) (qs : Pairs) : Type 0 where
  pub listed : (a b : ℕ) → Contains qs (pair b a) → Contains ps (pair a b) × (marked taken a ≡ false)
  pub all : (a b : ℕ) → Contains ps (pair a b) → marked taken a ≡ false → Contains qs (pair b a)

-- the lesser of a number and one that was found, if it counts
abbrev pub lesser_of : Option ℕ → Bool → ℕ → Option ℕ
lesser_of found false b = found
lesser_of None true b = Some b
lesser_of (Some s) true b = if nat_lt b s then Some b else Some s

-- the least number that follows one and is marked
pub record IsLeastMarked (ps : Pairs) (marks : List Bool) (from s : ℕ) : Type 0 where
  pub follows : Contains ps (pair from s)
  pub is : marked marks s ≡ true
  pub least : (b : ℕ) → Contains ps (pair from b) → marked marks b ≡ true → s ≤ b

abbrev pub IsLeastAfter : Pairs → List Bool → ℕ → Option ℕ → Type 0
IsLeastAfter ps marks from None = (b : ℕ) → Contains ps (pair from b) → ¬ (marked marks b ≡ true)
IsLeastAfter ps marks from (Some s) = IsLeastMarked ps marks from s

-- the least number that follows one and leads back
pub record IsLeastBack (ps : Pairs) (taken : List Bool) (end from s : ℕ) : Type 0 where
  pub follows : Contains ps (pair from s)
  pub back : Back ps taken end s
  pub least : (b : ℕ) → Contains ps (pair from b) → Back ps taken end b → s ≤ b

abbrev pub IsOnward : Pairs → List Bool → ℕ → ℕ → Option ℕ → Type 0
IsOnward ps taken end from None = (b : ℕ) → Contains ps (pair from b) → ¬ Back ps taken end b
IsOnward ps taken end from (Some s) = IsLeastBack ps taken end from s
