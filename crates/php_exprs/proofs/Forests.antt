-- Steps that give something, and forests one after another.
use Rattle.std.proofs.Common.{◌≡◌, max, Bool, true, false, List, ◌∷◌, ◌++◌, Option, Some, None, refl, sym, ap, ◌∙◌, append_assoc, arith}
use Rattle.php_tree.specs.declared.token.Token.{Token}
use Rattle.php_tree.specs.Tree.{Forest, none, leaf, node, ◌+++◌, leaves}
use Rattle.php_tree.specs.Tree.{depth}
use Rattle.php_exprs.specs.Parsing.{◌>>=◌, given}

pub bind_some : {A B : Type 0} (o : Option A) (f : A → Option B) (y : B) → (o >>= f) ≡ Some y → (x : A) × (o ≡ Some x) × (f x ≡ Some y)
bind_some None f y e = absurd cc
bind_some (Some x) f y e = (x, refl, e)

pub given_some : {A : Type 0} (b : Bool) (o : Option A) (y : A) → given b o ≡ Some y → (b ≡ true) × (o ≡ Some y)
given_some true o y e = (refl, e)
given_some false o y e = absurd cc

abbrev some : {A : Type 0} → A → Option A
some x = Some x

pub some_is : {A : Type 0} (x y : A) → some x ≡ some y → x ≡ y
some_is x y e = cc

pub leaves_append : (f g : Forest) → leaves (f +++ g) ≡ leaves f ++ leaves g
leaves_append none g = refl
leaves_append (leaf t f) g = ap (λ (ts : List Token). t ∷ ts) (leaves_append f g)
leaves_append (node k c f) g = ap (λ (ts : List Token). leaves c ++ ts) (leaves_append f g) ∙ sym (append_assoc (leaves c) (leaves f) (leaves g))

pub depth_append : (f g : Forest) → depth (f +++ g) ≡ max (depth f) (depth g)
depth_append none g = omega arith
depth_append (leaf t f) g = depth_append f g
depth_append (node k c f) g = omega (arith, depth_append f g)

pub forest_assoc : (f g h : Forest) → (f +++ g) +++ h ≡ f +++ (g +++ h)
forest_assoc none g h = refl
forest_assoc (leaf t f) g h = ap (leaf t) (forest_assoc f g h)
forest_assoc (node k c f) g h = ap (node k c) (forest_assoc f g h)

pub append_none : (f : Forest) → f +++ none ≡ f
append_none none = refl
append_none (leaf t f) = ap (leaf t) (append_none f)
append_none (node k c f) = ap (node k c) (append_none f)
