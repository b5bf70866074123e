-- The first of some pairs, by the first number and then the second.
use Rattle.std.specs.Prelude.{ℕ, Option, Some, None}
use Rattle.program_names.specs.Table.{IsBefore}

-- the pair of which a relation holds that comes first, and none exactly where it holds of no pair
abbrev pub IsFirstPair : (ℕ → ℕ → Type 0) → Option (ℕ × ℕ) → Type 0
IsFirstPair R None = (i j : ℕ) → R i j → ⊥
IsFirstPair R (Some p) = R p.0 p.1 × ((k l : ℕ) → R k l → ¬ IsBefore (k, l) p)
