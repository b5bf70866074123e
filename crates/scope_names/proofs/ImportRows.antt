-- Imports of uses, worked out by hand (PHP manual, "Using namespaces: Aliasing/Importing").
use Rattle.std.proofs.Common.{◌≡◌, ℕ, List, [], ◌∷◌, codes, refl}
use Rattle.scope_names.specs.Imports.{Import, Sort, OfClass, OfFunction, OfConstant, imports}

is : Sort → List ℕ → List ℕ → Import
is sort alias full = record { sort = sort; alias = alias; full = full }

-- use \A\B, C as D;
names_and_an_alias :
    imports (codes "use" ∷ codes "\\A\\B" ∷ codes "," ∷ codes "C" ∷ codes "As" ∷ codes "D" ∷ codes ";" ∷ [])
    ≡ is OfClass (codes "b") (codes "A\\B") ∷ is OfClass (codes "d") (codes "C") ∷ []
unfolding is
names_and_an_alias = refl

-- use const A\Foo, Bar;
constants_with_their_case :
    imports (codes "use" ∷ codes "CONST" ∷ codes "A\\Foo" ∷ codes "," ∷ codes "Bar" ∷ codes ";" ∷ [])
    ≡ is OfConstant (codes "Foo") (codes "A\\Foo") ∷ is OfConstant (codes "Bar") (codes "Bar") ∷ []
unfolding is
constants_with_their_case = refl

-- use A\{B, function f as G, const C\D,};
names_in_braces :
    imports (codes "use" ∷ codes "A\\" ∷ codes "{" ∷ codes "B" ∷ codes "," ∷ codes "function" ∷ codes "f" ∷ codes "as"
    ∷ codes "G" ∷ codes "," ∷ codes "const" ∷ codes "C\\D" ∷ codes "," ∷ codes "}" ∷ codes ";" ∷ [])
    ≡ is OfClass (codes "b") (codes "A\\B") ∷ is OfFunction (codes "g") (codes "A\\f") ∷ is OfConstant (codes "D") (codes "A\\C\\D") ∷ []
unfolding is
names_in_braces = refl

-- use function A\{f, g}; ended by a closing tag
functions_in_braces :
    imports (codes "use" ∷ codes "function" ∷ codes "A\\" ∷ codes "{" ∷ codes "f" ∷ codes "," ∷ codes "G" ∷ codes "}" ∷ codes "?>" ∷ [])
    ≡ is OfFunction (codes "f") (codes "A\\f") ∷ is OfFunction (codes "g") (codes "A\\G") ∷ []
unfolding is
functions_in_braces = refl
