-- Rows that are found by their names.
use Rattle.std.specs.Prelude.{ℕ, Bool, cond, nat_eq, List, [], ◌∷◌, length, map, Option, Some, None}
use Rattle.std.specs.Borrow.{Bor}
use Rattle.std.specs.Str.{bytes_eq, str_eq_ignore_ascii_case}

-- rows of names, without where they lie in memory
abbrev pub rows_of : {A : Type 0} → List (Bor (List ℕ) × A) → List (List ℕ × A)
rows_of rows = map (λ r. (r.0.now, r.1)) rows

-- whether two names are one without ASCII case
unfoldable pub is_same_name : List ℕ → List ℕ → Bool
is_same_name a b = str_eq_ignore_ascii_case a b

-- the value of the first row whose name passes a test
abbrev pub found_by : {A : Type 0} → (List ℕ → List ℕ → Bool) → List (List ℕ × A) → List ℕ → Option A
found_by same [] name = None
found_by same (r ∷ rs) name = cond (same r.0 name) (Some r.1) (found_by same rs name)

-- the value of the first row with this name, without ASCII case
abbrev pub found : {A : Type 0} → List (List ℕ × A) → List ℕ → Option A
found rows name = found_by is_same_name rows name

-- the value of the first row with this name, with case
abbrev pub found_exactly : {A : Type 0} → List (List ℕ × A) → List ℕ → Option A
found_exactly rows name = found_by bytes_eq rows name

-- the rows whose names have a length
abbrev pub of_length : {A : Type 0} → ℕ → List (List ℕ × A) → List (List ℕ × A)
of_length n [] = []
of_length n (r ∷ rs) = cond (nat_eq (length r.0) n) (r ∷ of_length n rs) (of_length n rs)
