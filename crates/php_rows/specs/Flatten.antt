-- Trees as rows.
use Rattle.std.specs.Prelude.{ℕ, zero, suc, ◌+◌, ◌-◌, Bool, false, nat_le, nat_lt, ◌&&◌, List, [], ◌∷◌, ◌++◌, length, take, drop, slice_range}
use Rattle.php_tree.specs.declared.token.Token.{Token}
use Rattle.php_tree.specs.Tree.{Forest, none, leaf, node, leaves, count}
use Rattle.php_rows.specs.declared.flat.Flat.{Flat}

-- how many tokens there are
abbrev pub tokens : Forest → ℕ
tokens f = length (leaves f)

-- the nodes of a forest whose first token has a number, each before those inside it
abbrev pub flatten : ℕ → Forest → List Flat
flatten at none = []
flatten at (leaf t f) = flatten (suc at) f
flatten at (node k c f) =
    record { kind = k; first = at; end = at + tokens c; size = suc (count c) } ∷
    flatten at c ++ flatten (at + tokens c) f

-- some tokens before a forest
abbrev pub leafed : List Token → Forest → Forest
leafed [] f = f
leafed (t ∷ ts) f = leaf t (leafed ts f)

-- The forest of some nodes in a row among the tokens between two numbers. The first number bounds how many nodes there
-- are.
abbrev pub read : ℕ → ℕ → ℕ → List Flat → List Token → Forest
read n at end [] ts = leafed (slice_range ts at end) none
read zero at end (x ∷ xs) ts = none
read (suc n) at end (x ∷ xs) ts =
    leafed (slice_range ts at x.first)
    (node x.kind (read n x.first x.end (take (x.size - 1) xs) ts) (read n x.end end (drop (x.size - 1) xs) ts))

-- Whether some nodes stand in a row between two tokens: each within the one that it is inside, behind the one before it,
-- and with as many nodes inside as it says. The first number bounds how many nodes there are.
abbrev pub fits : ℕ → ℕ → ℕ → List Flat → Bool
fits n at end [] = nat_le at end
fits zero at end (x ∷ xs) = false
fits (suc n) at end (x ∷ xs) =
    (nat_le at x.first && (nat_lt 0 x.size && nat_lt (x.size - 1) (suc (length xs)))) &&
    (fits n x.first x.end (take (x.size - 1) xs) && fits n x.end end (drop (x.size - 1) xs))
