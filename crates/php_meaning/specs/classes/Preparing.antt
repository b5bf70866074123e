-- The values that a class's declarations write down, each found once: a constant when it is asked for, and all of a class, of its
-- ancestors and of its interfaces when an object of it is made or a static property of it is used. (PHP manual, "Classes and
-- Objects": "Class Constants", "Properties", "Static Keyword"; in what order PHP finds them is from its source,
-- `zend_update_class_constants`.)
use Rattle.std.specs.Prelude.{ℕ, Bool, false, ◌&&◌, ◌||◌, if◌then◌else◌, nat_eq, List, [], ◌∷◌, ◌++◌, reverse, length, filter, codes, is_some, Option, Some, None}
use Rattle.std.specs.Str.{str_to_ascii_lowercase}
use Rattle.php_tree.specs.declared.kind.NodeKind.{NodeKind}
use Rattle.scope_names.specs.Slot.{Declared}
use Rattle.scope_names.specs.Slot as slot
use Rattle.php_meaning.specs.values.Value.{Value, Null, Cell, none}
use Rattle.php_meaning.specs.Cause.{Declaration}
use Rattle.php_meaning.specs.runs.World.{Bytes, Frame, Store}
use Rattle.php_meaning.specs.names.Tables.{Tables, is_same_declared}
use Rattle.php_meaning.specs.names.Tables as table
use Rattle.php_meaning.specs.literals.Literals.{found}
use Rattle.php_meaning.specs.runs.Stores.{next_cell, with_cell, with_static, static_property_cell}
use Rattle.php_meaning.specs.expressions.Assigning.{kept}
use Rattle.php_meaning.specs.calls.Bodies.{in_frame}
use Rattle.php_meaning.specs.classes.Lines.{is_interface, class_name, line, kin}
use Rattle.php_meaning.specs.classes.Members.{is_property, is_constant, belongs, declared_line, has_modifier, listed, listed_constants, Listed}
use Rattle.php_meaning.specs.classes.Types.{type_form, of_form}
use Rattle.php_meaning.specs.runs.Script.{Item, Script, Stop, Look, Put, value_then}

-- ---- the value of an item

-- The value that a declaration writes down for an item.
abbrev pub item_value : table.Declaration → Bytes → ℕ → (Value → Script) → Script
item_value d class i k =
    in_frame
    (record { body = Some d.at; variables = []; this = None; class = Some class; copy = Some class; arguments = none; item = Some i })
    d.at (Item i) (value_then (λ v. kept v k))

abbrev pub same_item : Option ℕ → ℕ → Bool
same_item None i = false
same_item (Some j) i = nat_eq i j

abbrev pub belongs_to : Option Declared → Declared → Bool
belongs_to None d = false
belongs_to (Some e) d = is_same_declared e d

-- whether the value of an item is being found
abbrev pub is_found_in : List Frame → Declared → ℕ → Bool
is_found_in [] d i = false
is_found_in (f ∷ fs) d i = (same_item f.item i && belongs_to f.body d) || is_found_in fs d i

abbrev pub value_of_item : Listed → Bytes → (Value → Script) → Script
value_of_item (d, None) class k = k Null
value_of_item (d, Some i) class k =
    Look (λ s. if is_found_in (s.here ∷ s.waiting) d.at i then Stop Declaration else item_value d class i k)

-- An item's value, which is kept under a key once it was found.
abbrev pub item_then : Bytes → Listed → Bytes → (Value → Script) → Script
item_then key l class k = Look (λ s. elim (found s.constants key) [
  | Some v ↦ k v
  | None ↦ value_of_item l class (λ v. Look (λ u. Put (record u { constants = (key, v) ∷ u.constants }) (k v)))
])

-- the keys of a class constant and of the value that a property begins with
abbrev pub constant_key : Bytes → Bytes → Bytes
constant_key class name = str_to_ascii_lowercase class ++ codes "::" ++ name

abbrev pub default_key : Bytes → Bytes → Bytes
default_key class name = str_to_ascii_lowercase class ++ codes "::$" ++ name

-- the value that a static property begins with, of its type
abbrev pub first_value : Tables → Listed → Bytes → (Value → Script) → Script
first_value t l class k = value_of_item l class (λ v. of_form t l.0.site (type_form l.0.kids) v (k v))

abbrev pub make_static : Bytes → Bytes → Value → (Cell → Script) → Script
make_static class name v k = Look (λ s.
    let c = next_cell (slot.StaticProperty name) s in
    Put (with_static class name c (with_cell (slot.StaticProperty name) v s)) (k c))

-- ---- all of a class

abbrev pub prepare_item : Tables → table.Declaration → Bytes → Bytes → ℕ → Script → Script
prepare_item t d class name i k =
    if is_constant d.kind then item_then (constant_key class name) (d, Some i) class (λ v. k)
    else (if has_modifier (codes "static") d.form
    then Look (λ s. if is_some (static_property_cell s.statics class name) then k
    else first_value t (d, Some i) class (λ v. make_static class name v (λ c. k)))
    else item_then (default_key class name) (d, Some i) class (λ v. of_form t d.site (type_form d.kids) v k))

-- the values that one declaration writes down
abbrev pub prepare_listed : Tables → table.Declaration → Bytes → List (Bytes × Option ℕ) → Script → Script
prepare_listed t d class [] k = k
prepare_listed t d class ((name, None) ∷ vs) k = prepare_listed t d class vs k
prepare_listed t d class ((name, Some i) ∷ vs) k = prepare_item t d class name i (prepare_listed t d class vs k)

-- those of a class's own members of one sort
abbrev pub prepare_own : (NodeKind → Bool) → Tables → table.Declaration → Tables → Script → Script
prepare_own sort t c [] k = k
prepare_own sort t c (d ∷ ds) k =
    if sort d.kind && belongs c d.of
    then prepare_listed t d (class_name c) (if is_constant d.kind then listed_constants 0 d.form else listed 0 d.form) (prepare_own sort t c ds k)
    else prepare_own sort t c ds k

abbrev pub prepare_constants : Tables → Tables → Script → Script
prepare_constants t [] k = k
prepare_constants t (c ∷ cs) k = prepare_own is_constant t c t (prepare_constants t cs k)

-- A class: its constants, those of its interfaces, and then its properties.
abbrev pub prepare_class : Tables → Store → table.Declaration → Script → Script
prepare_class t s c k =
    prepare_constants t (c ∷ filter (λ d. is_interface d.kind) (declared_line t s.declared (kin t s (class_name c))))
    (prepare_own is_property t c t k)

abbrev pub prepare_all : Tables → Store → Tables → Script → Script
prepare_all t s [] k = k
prepare_all t s (c ∷ cs) k = prepare_class t s c (prepare_all t s cs k)

-- the class of a name and its ancestors, the farthest first
abbrev pub prepared : Tables → Bytes → Script → Script
prepared t class k = Look (λ s. prepare_all t s (reverse (declared_line t s.declared (line t s class))) k)
