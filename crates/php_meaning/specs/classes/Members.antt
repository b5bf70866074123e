-- Members of classes: methods and properties as they are declared, and which code may use them. (PHP manual, "Classes and
-- Objects": "Properties", "Visibility".)
use Rattle.std.specs.Prelude.{ℕ, zero, suc, Bool, true, false, not, ◌&&◌, ◌||◌, if◌then◌else◌, nat_eq, List, [], ◌∷◌, codes, is_some, Option, Some, None}
use Rattle.std.specs.Str.{bytes_eq}
use Rattle.php_tree.specs.declared.kind.NodeKind.{NodeKind}
use Rattle.php_tree.specs.declared.kind.NodeKind.TheVariants as kind
use Rattle.scope_names.specs.Slot.{Declared}
use Rattle.php_meaning.specs.runs.World.{Bytes, Store}
use Rattle.scope_names.specs.Form.{Form, Bit, Word, Child, texts}
use Rattle.scope_names.specs.Words.{has_keyword, is_keyword, is_end}
use Rattle.scope_names.specs.Sites.{Site}
use Rattle.php_meaning.specs.names.Tables.{Tables, is_same_declared}
use Rattle.php_meaning.specs.names.Tables as table
use Rattle.php_meaning.specs.expressions.Expressions.{plain_name}
use Rattle.php_meaning.specs.runs.Stores.{same_name}
use Rattle.php_meaning.specs.calls.Bodies.{function_word}
use Rattle.php_meaning.specs.classes.Lines.{class_name, declared_class, line, kin, is_in, is_a}

-- ---- members

abbrev pub is_method : NodeKind → Bool
is_method kind.Method = true
is_method k = false

abbrev pub is_property : NodeKind → Bool
is_property kind.Property = true
is_property k = false

abbrev pub belongs : table.Declaration → Option Declared → Bool
belongs d None = false
belongs d (Some c) = is_same_declared c d.at

-- the method of a class of its own with a name
abbrev pub own_method : Tables → table.Declaration → Bytes → Option table.Declaration
own_method [] d name = None
own_method (e ∷ es) d name =
    if is_method e.kind && belongs d e.of && same_name (function_word e.form) name then Some e else own_method es d name

-- the classes of a line that the program declares
abbrev pub declared_line : Tables → List Declared → List Bytes → Tables
declared_line t ds [] = []
declared_line t ds (n ∷ ns) = elim (declared_class t ds n) [ Some d ↦ d ∷ declared_line t ds ns | None ↦ declared_line t ds ns ]

-- the first method with a name along a line, and its class
abbrev pub method_in : Tables → Tables → Bytes → Option (table.Declaration × Bytes)
method_in t [] name = None
method_in t (d ∷ ds) name = elim (own_method t d name) [ Some m ↦ Some (m, class_name d) | None ↦ method_in t ds name ]

-- Whether a class is of `Stringable` in 8.x, and in 7.4 not: one of exceptions, and one with a method `__toString`. (UPGRADING
-- 8.0.)
abbrev pub is_stringable : Tables → Store → Bytes → Bool
is_stringable t s class =
    is_in (line t s class) (codes "Throwable")
    || is_some (method_in t (declared_line t s.declared (kin t s class)) (codes "__toString"))

abbrev pub is_dollar : Bytes → Bool
is_dollar [] = false
is_dollar (b ∷ bs) = nat_eq b 36

-- the words before a name that a member is declared by
abbrev pub modifiers : List Bytes → List Bytes
modifiers [] = []
modifiers (w ∷ ws) =
    if is_keyword (codes "function") w || is_keyword (codes "const") w || is_dollar w then [] else w ∷ modifiers ws

abbrev pub has_modifier : List ℕ → Form → Bool
has_modifier w f = has_keyword w (modifiers (texts f))

-- whether code at a site may use a member that is declared in a class
abbrev pub is_seen : Tables → Store → Site → Form → Bytes → Bool
is_seen t s site f class = elim site.class [
  | None ↦ not (has_modifier (codes "private") f) && not (has_modifier (codes "protected") f)
  | Some c ↦
      if has_modifier (codes "private") f then same_name c class
      else (not (has_modifier (codes "protected") f) || is_a t s c class || is_a t s class c)
]

-- The class that a protected method is seen by, found from the class that declares it, the first of a line: the farthest
-- ancestor that declares it too, with no private one between. A constructor overrides an abstract one alone.
abbrev pub root_from : Tables → Bool → Bytes → Bytes → Tables → Bytes
root_from t is_constructor name class [] = class
root_from t is_constructor name class (d ∷ ds) = elim (own_method t d name) [
  | None ↦ root_from t is_constructor name class ds
  | Some m ↦
      if has_modifier (codes "private") m.form then class
      else root_from t is_constructor name (if is_constructor && not (has_modifier (codes "abstract") m.form) then class else class_name d) ds
]

abbrev pub root_class : Tables → Store → Bool → table.Declaration × Bytes → Bytes
root_class t s is_constructor m =
    root_from t is_constructor (function_word m.0.form) m.1 (declared_line t s.declared (line t s m.1))

-- whether code at a site may call a method: a constructor, or another one
abbrev pub may_call : Tables → Store → Site → Bool → table.Declaration × Bytes → Bool
may_call t s site is_constructor m =
    is_seen t s site m.0.form
    (if has_modifier (codes "protected") m.0.form then root_class t s is_constructor m else m.1)

-- ---- properties

-- the properties that a declaration lists, each with the index of its value
abbrev pub listed : ℕ → List Bit → List (Bytes × Option ℕ)
listed i [] = []
listed i (Word _ w ∷ Word _ e ∷ Child ∷ f) = if bytes_eq e (codes "=") then (plain_name w, Some i) ∷ listed (suc i) f else listed (suc i) f
listed i (Word _ w ∷ f) = if is_end w || not (is_dollar w) then listed i f else (plain_name w, None) ∷ listed i f
listed i (Child ∷ f) = listed (suc i) f

abbrev pub lists_name : List (Bytes × Option ℕ) → Bytes → Bool
lists_name [] name = false
lists_name (v ∷ vs) name = bytes_eq v.0 name || lists_name vs name

-- the declaration of a class that lists an instance property
abbrev pub own_property : Tables → table.Declaration → Bytes → Option table.Declaration
own_property [] d name = None
own_property (e ∷ es) d name =
    if is_property e.kind && belongs d e.of && not (has_modifier (codes "static") e.form) && lists_name (listed 0 e.form) name
    then Some e else own_property es d name

-- ---- class constants and static properties

-- the constants that a declaration lists, each with the index of its value
abbrev pub listed_constants : ℕ → List Bit → List (Bytes × Option ℕ)
listed_constants i (Word _ w ∷ Word _ e ∷ Child ∷ f) =
    if bytes_eq e (codes "=") then (w, Some i) ∷ listed_constants (suc i) f else listed_constants (suc i) f
listed_constants i (Word _ w ∷ f) = listed_constants i f
listed_constants i (Child ∷ f) = listed_constants (suc i) f
listed_constants i [] = []

abbrev pub index_of : List (Bytes × Option ℕ) → Bytes → Option (Option ℕ)
index_of [] name = None
index_of (v ∷ vs) name = if bytes_eq v.0 name then Some v.1 else index_of vs name

abbrev pub is_constant : NodeKind → Bool
is_constant kind.ClassConst = true
is_constant k = false

-- an item of a class's own declarations: the declaration, and the index of its value
abbrev pub Listed : Type 0
Listed = table.Declaration × Option ℕ

abbrev pub own_constant : Tables → table.Declaration → Bytes → Option Listed
own_constant [] d name = None
own_constant (e ∷ es) d name = elim (index_of (listed_constants 0 e.form) name) [
  | None ↦ own_constant es d name
  | Some i ↦ if is_constant e.kind && belongs d e.of then Some (e, i) else own_constant es d name
]

abbrev pub own_static : Tables → table.Declaration → Bytes → Option Listed
own_static [] d name = None
own_static (e ∷ es) d name = elim (index_of (listed 0 e.form) name) [
  | None ↦ own_static es d name
  | Some i ↦ if is_property e.kind && belongs d e.of && has_modifier (codes "static") e.form then Some (e, i) else own_static es d name
]

-- a constant that a class has: one of its own, or one of another class of its line that isn't private
abbrev pub inherited_constant : Tables → Tables → Bytes → Option (Listed × Bytes)
inherited_constant t [] name = None
inherited_constant t (d ∷ ds) name = elim (own_constant t d name) [
  | None ↦ inherited_constant t ds name
  | Some l ↦ if has_modifier (codes "private") l.0.form then inherited_constant t ds name else Some (l, class_name d)
]

abbrev pub constant_in : Tables → Tables → Bytes → Option (Listed × Bytes)
constant_in t [] name = None
constant_in t (d ∷ ds) name = elim (own_constant t d name) [ Some l ↦ Some (l, class_name d) | None ↦ inherited_constant t ds name ]

-- the first such item along a line, and its class
abbrev pub first_listed : (table.Declaration → Bytes → Option Listed) → Tables → Bytes → Option (Listed × Bytes)
first_listed finds [] name = None
first_listed finds (d ∷ ds) name = elim (finds d name) [ Some l ↦ Some (l, class_name d) | None ↦ first_listed finds ds name ]
