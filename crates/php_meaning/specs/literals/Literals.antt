-- The values that int literals and constants write. (PHP manual, "Integers", "Booleans", "NULL", "Name resolution
-- rules".)
use Rattle.std.specs.Prelude.{ℕ, ◌-◌, ◌||◌, not, ◌==◌, nat_le, if◌then◌else◌, true, false, List, [], ◌∷◌, ◌++◌, map, filter, ℤ, pos, codes, Option, Some, None}
use Rattle.std.specs.Int.Digits.{number_from_digits}
use Rattle.std.specs.Str.{bytes_eq, str_to_ascii_lowercase}
use Rattle.php_meaning.specs.values.Value.{Value, Null, Truth}

-- ---- ints

-- the digit that a byte writes, also past nine
abbrev pub digit_value : ℕ → ℕ
digit_value b = if nat_le b 57 then b - 48 else (if nat_le b 70 then b - 55 else b - 87)

-- the number that digits write in a base; an underscore between digits counts for nothing
abbrev pub number_in : ℕ → List ℕ → ℕ
number_in base bytes = number_from_digits base (map digit_value (filter (λ b. not (b == 95)) bytes))

-- behind a zero: `x` begins a hexadecimal number, `b` a binary one, and digits an octal one
abbrev pub number_after_zero : List ℕ → ℕ
number_after_zero [] = 0
number_after_zero (b ∷ bs) =
    if b == 120 || b == 88 then number_in 16 bs
    else (if b == 98 || b == 66 then number_in 2 bs else number_in 8 (b ∷ bs))

-- the int of a literal
abbrev pub int_literal : List ℕ → ℤ
int_literal [] = pos 0
int_literal (b ∷ bs) = if b == 48 then pos (number_after_zero bs) else pos (number_in 10 (b ∷ bs))

-- ---- constants

-- what stands beside a text in a table
abbrev pub found : {A : Type 0} → List (List ℕ × A) → List ℕ → Option A
found [] t = None
found (row ∷ rows) t = if bytes_eq row.0 t then Some row.1 else found rows t

-- the constants that are there from the start, in any case
abbrev pub constants : List (List ℕ × Value)
constants = (codes "true", Truth true) ∷ (codes "false", Truth false) ∷ (codes "null", Null) ∷ []

-- a name whose parts are tokens of their own, as in 7.4
abbrev pub name_of : List (List ℕ) → List ℕ
name_of [] = []
name_of (t ∷ ts) = t ++ name_of ts

-- a name without a backslash in front, which says where to look for it and nothing more here
abbrev pub behind_backslash : List ℕ → List ℕ
behind_backslash [] = []
behind_backslash (b ∷ bs) = if b == 92 then bs else b ∷ bs

-- the value of a constant by the tokens of its name
abbrev pub constant_named : List (List ℕ) → Option Value
constant_named tokens = found constants (str_to_ascii_lowercase (behind_backslash (name_of tokens)))
