-- Over how many loops a jump goes.
use Rattle.std.specs.Prelude.{ℕ, ◌+◌, ◌-◌, ◌*◌, Bool, false, ◌||◌, ◌&&◌, ◌==◌, nat_le, if◌then◌else◌, List, [], ◌∷◌}
use Rattle.php_tree.specs.Tree.{Forest, none, leaf, node}

-- the value of a digit
abbrev pub digit : ℕ → ℕ
digit b = if nat_le b 57 then b - 48 else (if nat_le b 70 then b - 55 else b - 87)

-- no more than 2^32 - 1 is counted
abbrev pub capped : ℕ → ℕ
capped v = if nat_le v 4294967295 then v else 4294967295

-- the value of digits to a base, where this was read so far; `_` stands between digits
abbrev pub digits_from : ℕ → ℕ → List ℕ → ℕ
digits_from base v [] = v
digits_from base v (b ∷ bs) = digits_from base (if b == 95 then v else capped (base * v + digit b)) bs

-- the value of what stands behind a leading zero
abbrev pub behind_zero : List ℕ → ℕ
behind_zero [] = 0
behind_zero (b ∷ bs) =
    if b == 120 || b == 88 then digits_from 16 0 bs
    else (if b == 98 || b == 66 then digits_from 2 0 bs else digits_from 8 0 (b ∷ bs))

-- the value of an int literal (PHP manual, "Integers")
abbrev pub int_value : List ℕ → ℕ
int_value [] = 0
int_value (a ∷ []) = digit a
int_value (a ∷ b ∷ bs) = if a == 48 then behind_zero (b ∷ bs) else digits_from 10 0 (a ∷ b ∷ bs)

-- whether a text begins with a digit
abbrev pub begins_with_digit : List ℕ → Bool
begins_with_digit [] = false
begins_with_digit (b ∷ bs) = nat_le 48 b && nat_le b 57

-- the level that the word behind a jump says
abbrev pub level_in : List ℕ → ℕ
level_in w = if begins_with_digit w then int_value w else 1

-- over how many loops a `break` or `continue` goes, by its parts: 1 where it says nothing
abbrev pub level : Forest → ℕ
level none = 1
level (node k c f) = 1
level (leaf t none) = 1
level (leaf t (node k c f)) = 1
level (leaf t (leaf v f)) = level_in v.text
