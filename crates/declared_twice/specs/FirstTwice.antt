-- The first two declarations of one name that one run begins with.
use Rattle.std.specs.Prelude.{◌≡◌, ℕ, List, slice_get, Option, Some, None}
use Rattle.file_declarations.specs.declared.declaration.Declaration.{Declaration}
use Rattle.program_names.specs.Entries.{paths_of}
use Rattle.program_names.specs.Files.{Files}
use Rattle.program_names.specs.Table.{Clash, IsFirstClash, all_declared, table_of}
use Rattle.declared_twice.specs.FirstPair.{IsFirstPair}
use Rattle.declared_twice.specs.declared.twice.Twice.{Twice}

-- two declarations stand at the places of the first pair of which a relation holds, and none exactly where it holds of no pair
abbrev pub IsFirstOf : List Declaration → (ℕ → ℕ → Type 0) → Option Twice → Type 0
IsFirstOf ds R None = (i j : ℕ) → R i j → ⊥
IsFirstOf ds R (Some t) = (i : ℕ) × (j : ℕ) × IsFirstPair R (Some (i, j)) × (slice_get ds i ≡ Some t.first.now) × (slice_get ds j ≡ Some t.second.now)

-- these are the declarations of the first pair
pub record AreFirst (fs : Files) (entries : List ℕ) (prepend : Option ℕ) (t : Twice) : Type 0 where
  pub i : ℕ
  pub j : ℕ
  pub clash : IsFirstClash (paths_of fs) (table_of fs) entries prepend i j
  pub is_first : slice_get (all_declared (table_of fs)) i ≡ Some t.first.now
  pub is_second : slice_get (all_declared (table_of fs)) j ≡ Some t.second.now

-- the first pair, and none exactly where there is no pair
abbrev pub IsFirstTwice : Files → List ℕ → Option ℕ → Option Twice → Type 0
IsFirstTwice fs entries prepend None = (i j : ℕ) → ¬ Clash (paths_of fs) (table_of fs) entries prepend i j
IsFirstTwice fs entries prepend (Some t) = AreFirst fs entries prepend t
