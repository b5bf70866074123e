-- Sets of numbers, as strictly ascending lists.
use Rattle.std.specs.Prelude.{ℕ, ◌==◌, nat_lt, List, [], ◌∷◌, Contains, filter, if◌then◌else◌}
use Rattle.std.specs.List.{list_any}

-- each number of the first is in the second
pub record IsSubset (xs ys : List ℕ) : Type 0 where
  pub each : (x : ℕ) → Contains xs x → Contains ys x

-- a number put into its place, if it isn't there
abbrev pub insert_number : ℕ → List ℕ → List ℕ
insert_number x [] = x ∷ []
insert_number x (y ∷ ys) =
    if nat_lt x y then x ∷ y ∷ ys else if x == y then y ∷ ys else y ∷ insert_number x ys

-- the numbers of either
abbrev pub union : List ℕ → List ℕ → List ℕ
union [] ys = ys
union (x ∷ xs) ys = insert_number x (union xs ys)

-- the numbers of both
abbrev pub intersection : List ℕ → List ℕ → List ℕ
intersection xs ys = filter (λ x. list_any (λ y. x == y) ys) xs
