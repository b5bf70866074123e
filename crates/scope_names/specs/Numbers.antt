-- The numbers of declarations.
use Rattle.std.specs.Prelude.{◌≡◌, ℕ, zero, suc, Bool, true, false, List, [], ◌∷◌, ◌++◌}
use Rattle.php_tree.specs.Tree.{Forest, none, leaf, node}
use Rattle.scope_names.specs.Sites.{Site, is_declaration, declarations, within, beside}

-- some numbers one after another, from one on
abbrev pub counted : ℕ → ℕ → List ℕ
counted from zero = []
counted from (suc n) = from ∷ counted (suc from) n

abbrev pub number_if : Bool → ℕ → List ℕ
number_if true n = n ∷ []
number_if false n = []

-- the numbers of the declarations of a forest, where each stands, in the order of their first tokens
abbrev pub numbers : Site → Forest → List ℕ
numbers s none = []
numbers s (leaf t f) = numbers s f
numbers s (node k c f) =
    number_if (is_declaration k) s.number ++ numbers (within k c s) c ++ numbers (beside k c s) f

-- declarations are numbered without a gap: each has a number of its own
abbrev pub DeclarationsAreNumbered : Type 0
DeclarationsAreNumbered = (s : Site) (f : Forest) → numbers s f ≡ counted s.number (declarations f)
