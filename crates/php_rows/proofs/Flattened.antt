-- Rows of forests, one after another.
use Rattle.std.proofs.Common.{◌≡◌, ℕ, zero, suc, ◌+◌, ◌-◌, ◌<◌, ◌≤◌, List, [], ◌∷◌, ◌++◌, length, take, drop, refl, sym, ap, ◌∙◌, append_assoc, arith}
use Rattle.std.proofs.lemmas.List.{length-append}
use Rattle.php_tree.specs.declared.token.Token.{Token}
use Rattle.php_tree.specs.Tree.{Forest, none, leaf, node, ◌+++◌, leaves, count}
use Rattle.php_rows.specs.declared.flat.Flat.{Flat}
use Rattle.php_rows.specs.Flatten.{flatten, tokens}

abbrev entry : ℕ → Forest → Forest → Flat → List Flat
entry at c f x = x ∷ flatten at c ++ flatten (at + tokens c) f

pub leaves_append : (f g : Forest) → leaves (f +++ g) ≡ leaves f ++ leaves g
leaves_append none g = refl
leaves_append (leaf t f) g = ap (λ (ts : List Token). t ∷ ts) (leaves_append f g)
leaves_append (node k c f) g = ap (λ (ts : List Token). leaves c ++ ts) (leaves_append f g) ∙ sym (append_assoc (leaves c) (leaves f) (leaves g))

pub tokens_append : (f g : Forest) → tokens (f +++ g) ≡ tokens f + tokens g
tokens_append f g = ap length (leaves_append f g) ∙ length-append (leaves f) (leaves g)

tokens_node : (c f : Forest) → length (leaves c ++ leaves f) ≡ tokens c + tokens f
tokens_node c f = length-append (leaves c) (leaves f)

pub length_flatten : (at : ℕ) (f : Forest) → length (flatten at f) ≡ count f
length_flatten at none = refl
length_flatten at (leaf t f) = length_flatten (suc at) f
length_flatten at (node k c f) =
    let a = length-append (flatten at c) (flatten (at + tokens c) f) in
    let b = length_flatten at c in
    let d = length_flatten (at + tokens c) f in
    omega arith

pub flatten_append : (at : ℕ) (f g : Forest) → flatten at (f +++ g) ≡ flatten at f ++ flatten (at + tokens f) g
flatten_append at none g = let e : at + 0 ≡ at = omega arith in rw e refl
flatten_append at (leaf t f) g = let e : at + suc (tokens f) ≡ suc at + tokens f = omega arith in rw e (flatten_append (suc at) f g)
flatten_append at (node k c f) g =
    let e : at + length (leaves c ++ leaves f) ≡ (at + tokens c) + tokens f = let n = tokens_node c f in omega arith in
    rw e (ap (λ (u : List Flat). record { kind = k; first = at; end = at + tokens c; size = suc (count c) } ∷ flatten at c ++ u) (flatten_append (at + tokens c) f g)
    ∙ ap (λ (u : List Flat). record { kind = k; first = at; end = at + tokens c; size = suc (count c) } ∷ u)
    (sym (append_assoc (flatten at c) (flatten (at + tokens c) f) (flatten (at + tokens c + tokens f) g))))
