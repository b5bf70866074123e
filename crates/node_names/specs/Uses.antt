-- What names a node uses. (PHP manual, "Namespaces": "Name resolution rules"; "Classes and Objects": "Scope Resolution
-- Operator", "Late Static Bindings".)
use Rattle.std.specs.Prelude.{ℕ, Bool, ◌||◌, if◌then◌else◌, codes, List, [], ◌∷◌, ◌++◌, map, Option, Some, None}
use Rattle.php_tree.specs.declared.kind.NodeKind.{NodeKind}
use Rattle.php_tree.specs.declared.kind.NodeKind.TheVariants as kind
use Rattle.scope_names.specs.Form.{Form, texts}
use Rattle.scope_names.specs.Imports.{Import, Sort, OfClass, OfFunction, OfConstant, imports}
use Rattle.scope_names.specs.Sites.{Site, class_named, candidates}
use Rattle.scope_names.specs.Words.{is_keyword}
use Rattle.node_names.specs.declared.name_sort.NameSort.{NameSort}
use Rattle.node_names.specs.declared.name_sort.NameSort.TheVariants as sort
use Rattle.node_names.specs.Compared.{Use, use_of}
use Rattle.node_names.specs.Spelled.{spelled_names, before_text, behind_text, behind_keyword, first_member, first_variable, behind_first}

-- ---- classes

-- one class, where there is one
abbrev pub class_if : Option (List ℕ) → List Use
class_if None = []
class_if (Some full) = use_of sort.Class (full ∷ []) ∷ []

-- The class that a name stands for: `self` and `parent` are those of the class around, if there are such. `static` is a
-- keyword, and no name.
abbrev pub class_use : Site → List ℕ → List Use
class_use s name =
    if is_keyword (codes "self") name then class_if s.class
    else (if is_keyword (codes "parent") name then class_if s.parent else class_if (Some (class_named s name)))

abbrev pub class_uses : Site → List (List ℕ) → List Use
class_uses s [] = []
class_uses s (name ∷ more) = class_use s name ++ class_uses s more

-- the words that are types and no classes, besides the keywords `array` and `callable` (PHP manual, "Type declarations")
abbrev pub is_type_word : List ℕ → Bool
is_type_word w =
    is_keyword (codes "int") w || is_keyword (codes "float") w || is_keyword (codes "bool") w
    || is_keyword (codes "string") w || is_keyword (codes "void") w || is_keyword (codes "iterable") w
    || is_keyword (codes "object") w

-- the class of a type
abbrev pub type_uses : Site → List (List ℕ) → List Use
type_uses s [] = []
type_uses s (w ∷ ws) = if is_type_word w then [] else class_use s w

-- ---- functions, constants, members, imports

-- A name of a function or a constant stands for each full name that it may have.
abbrev pub functions : Site → List (List ℕ) → List Use
functions s [] = []
functions s (name ∷ more) = use_of sort.Function (candidates s OfFunction name) ∷ []

abbrev pub constants : Site → List (List ℕ) → List Use
constants s [] = []
constants s (name ∷ more) = use_of sort.Constant (candidates s OfConstant name) ∷ []

-- a member of any class
abbrev pub members : NameSort → List (List ℕ) → List Use
members k [] = []
members k (w ∷ ws) = use_of k (w ∷ []) ∷ []

abbrev pub imported_sort : Sort → NameSort
imported_sort OfClass = sort.Class
imported_sort OfFunction = sort.Function
imported_sort OfConstant = sort.Constant

abbrev pub import_use : Import → Use
import_use i = use_of (imported_sort i.sort) (i.full ∷ [])

-- ---- a node

abbrev pub separator : List ℕ
separator = codes "::"

-- the classes named in front of `::`
abbrev pub class_before : Form → Site → List Use
class_before f s = class_uses s (spelled_names (before_text separator f))

-- the classes named behind the name that is declared behind a keyword
abbrev pub heritage : List ℕ → Form → Site → List Use
heritage keyword f s = class_uses s (behind_first (spelled_names (behind_keyword keyword f)))

-- The names that a node of a form uses at a site, but for those of a `use`, in the order of the source.
abbrev pub plain_uses : NodeKind → Form → Site → List Use
plain_uses kind.Class f s = heritage (codes "class") f s
plain_uses kind.Interface f s = heritage (codes "interface") f s
plain_uses kind.New f s = class_uses s (spelled_names f)
plain_uses kind.Try f s = class_uses s (spelled_names f)
plain_uses kind.InstanceOf f s = class_uses s (spelled_names f)
plain_uses kind.TypeName f s = type_uses s (spelled_names f)
plain_uses kind.Call f s = functions s (spelled_names f)
plain_uses kind.Constant f s = constants s (spelled_names f)
plain_uses kind.ClassConstant f s = class_before f s ++ members sort.ClassConstant (first_member (behind_text separator f))
plain_uses kind.StaticProp f s = class_before f s ++ members sort.Property (first_variable (behind_text separator f))
plain_uses kind.StaticCall f s = class_before f s ++ members sort.Method (first_member (behind_text separator f))
plain_uses kind.Prop f s = members sort.Property (first_member (behind_text (codes "->") f))
plain_uses kind.MethodCall f s = members sort.Method (first_member (behind_text (codes "->") f))
plain_uses k f s = []

-- the names that a node of a form uses at a site, in the order of the source
abbrev pub uses : NodeKind → Form → Site → List Use
uses kind.Use f s = map import_use (imports (texts f))
uses k f s = plain_uses k f s
