-- Names at sites, worked out by hand (PHP manual, "Name resolution rules").
use Rattle.std.proofs.Common.{◌≡◌, [], ◌∷◌, codes, refl}
use Rattle.std.specs.Prelude.{Some}
use Rattle.php_tree.specs.declared.kind.NodeKind.TheVariants as kind
use Rattle.php_tree.specs.declared.token.TokenKind.TheVariants as token
use Rattle.scope_names.specs.Form.{Word, Child}
use Rattle.scope_names.specs.Imports.{OfFunction, OfConstant}
use Rattle.scope_names.specs.Sites.{Site, file_site, class_named, candidates, within_form, names_beside}

-- namespace N;
in_n : Site
in_n = names_beside kind.Namespace (Word token.Label (codes "namespace") ∷ Word token.Label (codes "N") ∷ Word token.Label (codes ";") ∷ []) (file_site (codes "a.php"))

-- namespace N; use A\B; use function A\f;
with_imports : Site
with_imports =
    names_beside kind.Use (Word token.Label (codes "use") ∷ Word token.Label (codes "function") ∷ Word token.Label (codes "A\\f") ∷ Word token.Label (codes ";") ∷ [])
    (names_beside kind.Use (Word token.Label (codes "use") ∷ Word token.Label (codes "A\\B") ∷ Word token.Label (codes ";") ∷ []) in_n)

class_of_the_namespace : class_named with_imports (codes "C") ≡ codes "N\\C"
unfolding with_imports in_n
class_of_the_namespace = refl

imported_class : class_named with_imports (codes "b") ≡ codes "A\\B"
unfolding with_imports in_n
imported_class = refl

behind_an_import : class_named with_imports (codes "b\\D") ≡ codes "A\\B\\D"
unfolding with_imports in_n
behind_an_import = refl

of_the_root : class_named with_imports (codes "\\C") ≡ codes "C"
unfolding with_imports in_n
of_the_root = refl

relative : class_named with_imports (codes "Namespace\\C") ≡ codes "N\\C"
unfolding with_imports in_n
relative = refl

function_here_or_global : candidates with_imports OfFunction (codes "g") ≡ codes "N\\g" ∷ codes "g" ∷ []
unfolding with_imports in_n
function_here_or_global = refl

imported_function : candidates with_imports OfFunction (codes "F") ≡ codes "A\\f" ∷ []
unfolding with_imports in_n
imported_function = refl

no_constant_is_imported : candidates with_imports OfConstant (codes "f") ≡ codes "N\\f" ∷ codes "f" ∷ []
unfolding with_imports in_n
no_constant_is_imported = refl

-- final CLASS C Extends \P implements I {
class_and_parent :
    (within_form kind.Class (Word token.Label (codes "final") ∷ Word token.Label (codes "CLASS")
    ∷ Word token.Label (codes "C") ∷ Word token.Label (codes "Extends") ∷ Word token.Label (codes "\\P")
    ∷ Word token.Label (codes "implements") ∷ Word token.Label (codes "I") ∷ Word token.Label (codes "{") ∷ Child
    ∷ Word token.Label (codes "}") ∷ []) in_n)
    ≡ record in_n { number = 1; class = Some (codes "N\\C"); parent = Some (codes "P") }
unfolding in_n
class_and_parent = refl

-- interface I extends J {
interface_has_no_parent :
    (within_form kind.Interface (Word token.Label (codes "interface") ∷ Word token.Label (codes "I")
    ∷ Word token.Label (codes "extends") ∷ Word token.Label (codes "J") ∷ Word token.Label (codes "{")
    ∷ Word token.Label (codes "}") ∷ []) in_n)
    ≡ record in_n { number = 1; class = Some (codes "N\\I") }
unfolding in_n
interface_has_no_parent = refl

-- in class C: new class ( .. ) extends P { function f() { .. } }
members_of_an_anonymous_class :
    (within_form kind.Method [] (within_form kind.New (Word token.Label (codes "new")
    ∷ Word token.Label (codes "class") ∷ Word token.Label (codes "(") ∷ Child ∷ Word token.Label (codes ")")
    ∷ Word token.Label (codes "extends") ∷ Word token.Label (codes "P") ∷ Word token.Label (codes "{") ∷ Child
    ∷ Word token.Label (codes "}") ∷ []) (record (file_site (codes "a.php"))
    { class = Some (codes "C") }))).parent
    ≡ Some (codes "P")
members_of_an_anonymous_class = refl
