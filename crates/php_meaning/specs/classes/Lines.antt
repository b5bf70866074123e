-- Classes by name, and what each of them is of: its ancestors and their interfaces. (PHP manual, "Classes and Objects":
-- "Object Inheritance", "Object Interfaces", "instanceof"; "Predefined Interfaces and Classes".)
use Rattle.std.specs.Prelude.{ℕ, zero, suc, ◌+◌, Bool, true, false, not, ◌&&◌, ◌||◌, if◌then◌else◌, List, [], ◌∷◌, ◌++◌, length, codes, is_some, Option, Some, None}
use Rattle.std.specs.Str.{bytes_eq, str_to_ascii_lowercase}
use Rattle.php_tree.specs.declared.kind.NodeKind.{NodeKind}
use Rattle.php_tree.specs.declared.kind.NodeKind.TheVariants as kind
use Rattle.scope_names.specs.Slot.{Declared}
use Rattle.php_meaning.specs.Cause.{NoRule, Declaration, Error}
use Rattle.php_meaning.specs.runs.World.{Bytes, Store}
use Rattle.scope_names.specs.Form.{Form, texts}
use Rattle.scope_names.specs.Words.{has_keyword, behind_word}
use Rattle.scope_names.specs.Sites.{Site, class_named, within_form, or_else}
use Rattle.php_meaning.specs.names.Tables.{Tables, declaration_at}
use Rattle.php_meaning.specs.names.Tables as table
use Rattle.php_meaning.specs.names.Reserved.{is_php_class}
use Rattle.php_meaning.specs.runs.Stores.{same_name}
use Rattle.php_meaning.specs.calls.Bodies.{function_word}
use Rattle.php_meaning.specs.runs.Script.{Script, Stop, Look, throws}

-- ---- classes by name

abbrev pub is_class : NodeKind → Bool
is_class kind.Class = true
is_class kind.Interface = true
is_class k = false

abbrev pub is_interface : NodeKind → Bool
is_interface kind.Interface = true
is_interface k = false

abbrev pub class_name : table.Declaration → Bytes
class_name d = or_else (within_form d.kind d.form d.site).class []

abbrev pub class_parent : table.Declaration → Option Bytes
class_parent d = (within_form d.kind d.form d.site).parent

-- the declared class of a name
abbrev pub declared_class : Tables → List Declared → Bytes → Option table.Declaration
declared_class t [] name = None
declared_class t (d ∷ ds) name = elim (declaration_at t d) [
  | None ↦ declared_class t ds name
  | Some e ↦ if is_class e.kind && same_name (class_name e) name then Some e else declared_class t ds name
]

-- The classes and interfaces that are there from the start, in lower case, with what each extends: those of exceptions, and
-- `stdClass`.
abbrev pub builtin_classes : List (Bytes × Bytes × Option Bytes)
builtin_classes =
    (codes "stdclass", codes "stdClass", None)
    ∷ (codes "throwable", codes "Throwable", None)
    ∷ (codes "exception", codes "Exception", Some (codes "Throwable"))
    ∷ (codes "error", codes "Error", Some (codes "Throwable"))
    ∷ (codes "typeerror", codes "TypeError", Some (codes "Error"))
    ∷ (codes "argumentcounterror", codes "ArgumentCountError", Some (codes "TypeError"))
    ∷ (codes "arithmeticerror", codes "ArithmeticError", Some (codes "Error"))
    ∷ (codes "divisionbyzeroerror", codes "DivisionByZeroError", Some (codes "ArithmeticError"))
    ∷ (codes "errorexception", codes "ErrorException", Some (codes "Exception"))
    ∷ (codes "logicexception", codes "LogicException", Some (codes "Exception"))
    ∷ (codes "runtimeexception", codes "RuntimeException", Some (codes "Exception"))
    ∷ []

abbrev pub row_named : List (Bytes × Bytes × Option Bytes) → Bytes → Option (Bytes × Option Bytes)
row_named [] name = None
row_named (r ∷ rs) name = if bytes_eq r.0 (str_to_ascii_lowercase name) then Some (r.1, r.2) else row_named rs name

abbrev pub builtin_class : Bytes → Option (Bytes × Option Bytes)
builtin_class name = row_named builtin_classes name

abbrev pub parent_named : Tables → List Declared → Bytes → Option Bytes
parent_named t ds name = elim (declared_class t ds name) [
  | Some d ↦ class_parent d
  | None ↦ (elim (builtin_class name) [ Some r ↦ r.1 | None ↦ None ])
]

-- A class and its ancestors, the class first: their names. No more classes than these can be in line.
abbrev pub line_within : ℕ → Tables → List Declared → Option Bytes → List Bytes
line_within zero t ds o = []
line_within (suc n) t ds None = []
line_within (suc n) t ds (Some name) = name ∷ line_within n t ds (parent_named t ds name)

abbrev pub line : Tables → Store → Bytes → List Bytes
line t s name = line_within (suc (11 + length s.declared)) t s.declared (Some name)

-- the names that a class lists behind `implements`, or an interface behind `extends`
abbrev pub names_listed : Site → List Bytes → List Bytes
names_listed s [] = []
names_listed s (w ∷ ws) =
    if bytes_eq w (codes "{") then [] else (if bytes_eq w (codes ",") then names_listed s ws else class_named s w ∷ names_listed s ws)

abbrev pub interfaces_of : table.Declaration → List Bytes
interfaces_of d =
    names_listed d.site (behind_word (if is_interface d.kind then codes "extends" else codes "implements") (texts d.form))

-- what stands directly above a class: its parent and its interfaces
abbrev pub listed_by : Option Bytes → List Bytes
listed_by None = []
listed_by (Some name) = name ∷ []

abbrev pub above : Tables → List Declared → Bytes → List Bytes
above t ds name = elim (declared_class t ds name) [
  | Some d ↦ listed_by (class_parent d) ++ interfaces_of d
  | None ↦ listed_by (parent_named t ds name)
]

-- the names that a function finds for each of some names
abbrev pub all_of : (Bytes → List Bytes) → List Bytes → List Bytes
all_of f [] = []
all_of f (n ∷ ns) = f n ++ all_of f ns

-- A class, and all that it is of, in so many steps. No more steps than there are classes lead on.
abbrev pub kin_within : ℕ → Tables → List Declared → Bytes → List Bytes
kin_within zero t ds name = name ∷ []
kin_within (suc n) t ds name = name ∷ all_of (kin_within n t ds) (above t ds name)

abbrev pub kin : Tables → Store → Bytes → List Bytes
kin t s name = kin_within (11 + length s.declared) t s.declared name

abbrev pub is_in : List Bytes → Bytes → Bool
is_in [] name = false
is_in (n ∷ ns) name = same_name n name || is_in ns name

abbrev pub is_a : Tables → Store → Bytes → Bytes → Bool
is_a t s class name = is_in (kin t s class) name

-- the name of a class for code at a site: `self` and `parent`, and `static` for the class that was called
abbrev pub class_by : Site → Store → Bytes → Bytes
class_by site s name =
    if same_name name (codes "self") then or_else site.class []
    else (if same_name name (codes "parent") then or_else site.parent []
    else (if same_name name (codes "static") then or_else s.here.class [] else class_named site name))

-- ---- classes that aren't there

-- whether one of some members is a method `__toString`
abbrev pub declares_to_text : List (NodeKind × Form) → Bool
declares_to_text [] = false
declares_to_text ((kind.Method, f) ∷ ks) = same_name (function_word f) (codes "__toString") || declares_to_text ks
declares_to_text (k ∷ ks) = declares_to_text ks

-- Whether a class or interface is declared when its file starts: where it is unconditional, and has neither a parent nor
-- interfaces. One with `__toString` has the interface `Stringable` in 8.x. (UPGRADING 8.0.)
abbrev pub is_early_class : table.Declaration → Bool
is_early_class d =
    d.is_top && is_class d.kind && not (has_keyword (codes "extends") (texts d.form))
    && not (has_keyword (codes "implements") (texts d.form)) && not (declares_to_text d.kids)

-- whether some file declares a class of this name once the declaration is reached
abbrev pub is_declared_late : Tables → Bytes → Bool
is_declared_late [] name = false
is_declared_late (d ∷ ds) name =
    (is_class d.kind && not (is_early_class d) && same_name (class_name d) name) || is_declared_late ds name

-- A class that isn't there throws; one that is declared later on is outside, since PHP may have declared it already, and so is
-- one that PHP has beyond the profile.
abbrev pub no_class : Tables → Bytes → Script
no_class t name = if is_declared_late t name || is_php_class name then Stop Declaration else throws Error

-- The class that a word names. One that an expression names, `self` and `parent` where there is none, and `static` in a value that
-- a declaration writes down, are outside.
abbrev pub class_then : Site → Bytes → (Bytes → Script) → Script
class_then site [] k = Stop NoRule
class_then site (b ∷ bs) k = Look (λ s.
    if is_some s.here.item && same_name (b ∷ bs) (codes "static") then Stop NoRule
    else (elim (class_by site s (b ∷ bs)) [ [] ↦ Stop NoRule | c ∷ cs ↦ k (c ∷ cs) ]))
