-- Class constants and static properties, found when they are first used; `instanceof`. (PHP manual, "Classes and Objects":
-- "Class Constants", "Static Keyword"; "Type Operators".)
use Rattle.std.specs.Prelude.{ℕ, ◌+◌, ◌-◌, Bool, false, not, ◌&&◌, ◌||◌, if◌then◌else◌, nat_eq, List, [], ◌∷◌, ◌++◌, codes, is_some, Option, Some, None}
use Rattle.std.specs.Str.{str_to_ascii_lowercase}
use Rattle.scope_names.specs.Slot.{Declared}
use Rattle.scope_names.specs.Slot as slot
use Rattle.php_meaning.specs.values.Value.{Value, Null, Truth, Text, Object, Cell, none}
use Rattle.php_meaning.specs.Cause.{Reference, Declaration, Error}
use Rattle.php_meaning.specs.runs.World.{Bytes, Frame, Store}
use Rattle.scope_names.specs.Form.{Form, kids, texts}
use Rattle.scope_names.specs.Words.{first_word, behind_word}
use Rattle.scope_names.specs.Sites.{Site}
use Rattle.php_meaning.specs.names.Tables.{Tables, is_same_declared}
use Rattle.php_meaning.specs.literals.Literals.{found, behind_backslash}
use Rattle.php_meaning.specs.runs.Stores.{same_name, next_cell, with_cell, with_static, static_property_cell, object_at}
use Rattle.php_meaning.specs.expressions.Expressions.{plain_name}
use Rattle.php_meaning.specs.classes.Lines.{line, kin, is_a, no_class, class_then}
use Rattle.php_meaning.specs.classes.Members.{declared_line, is_stringable, is_seen, Listed, own_static, constant_in, first_listed}
use Rattle.php_meaning.specs.classes.Types.{type_form, typing_of, of_form}
use Rattle.php_meaning.specs.runs.Script.{Typing, Untyped, InStatic, At, Script, Give, Stop, Look, Put, give, child_value, throws, still}
use Rattle.php_meaning.specs.classes.Preparing.{constant_key, item_then, first_value, make_static, prepared}
use Rattle.php_meaning.specs.classes.Making.{known_class}
use Rattle.php_meaning.specs.classes.Methods.{class_word, word_of_class}

-- ---- class constants and static properties, found when they are first used

abbrev pub find_constant : Listed → Bytes → Bytes → Script
find_constant l class name = item_then (constant_key class name) l class give

-- a member that a class, which may not be there, doesn't have
abbrev pub no_member : Tables → Store → Bytes → Script
no_member t s class = if is_some (known_class t s class) then throws Error else no_class t class

-- the classes and interfaces that the program declares, of all that a class is of
abbrev pub declared_kin : Tables → Store → Bytes → Tables
declared_kin t s class = declared_line t s.declared (kin t s class)

abbrev pub class_constant : Tables → Site → Form → Script
class_constant t site f = class_then site (class_word 0 f) (λ class. Look (λ s.
    if same_name (word_of_class f) (codes "class") then give (Text class)
    else (elim (constant_in t (declared_kin t s class) (word_of_class f)) [
      | None ↦ no_member t s class
      | Some l ↦ if is_seen t s site l.0.0.form l.1 then find_constant l.0 l.1 (word_of_class f) else throws Error
    ])))

-- The cell of a static property, made when it is first used; none, where it has a type and no value is written down.
abbrev pub find_static : Tables → Listed → Bytes → Bytes → Script → (Cell → Typing → Script) → Script
find_static t l class name unmade k = Look (λ s. elim (static_property_cell s.statics class name) [
  | Some c ↦ k c (typing_of l.0)
  | None ↦ (elim l.1 [
    | Some i ↦ first_value t l class (λ v. make_static class name v (λ c. k c (typing_of l.0)))
    | None ↦ (elim (type_form l.0.kids) [ None ↦ make_static class name Null (λ c. k c Untyped) | Some g ↦ unmade ])
  ])
])

-- a static property as code at a site means it: what comes where it isn't there or may not be used, and where it has no
-- value yet
abbrev pub static_property : Tables → Site → Form → (Script → Script) → (Listed → Bytes → Bytes → Script) → (Bytes → Bytes → Cell → Typing → Script) → Script
static_property t site f missing unmade k = class_then site (class_word 0 f) (λ class. Look (λ s.
    let name : Bytes = plain_name (word_of_class f) in
    elim (first_listed (own_static t) (declared_line t s.declared (line t s class)) name) [
      | None ↦ if is_some (known_class t s class) then missing (throws Error) else no_class t class
      | Some l ↦
          if is_seen t s site l.0.0.form l.1 then prepared t class (find_static t l.0 l.1 name (unmade l.0 l.1 name) (k l.1 name))
          else missing (throws Error)
    ]))

-- read, read where nothing is said of what isn't there, and as a location
abbrev pub static_value : Tables → Site → Form → Script
static_value t site f =
    static_property t site f (λ refused. refused) (λ l class name. Stop Reference) (λ class name c typing. Look (λ s. give (s.held c)))

abbrev pub static_quietly : Tables → Site → Form → Script
static_quietly t site f =
    static_property t site f (λ refused. give Null) (λ l class name. give Null) (λ class name c typing. Look (λ s. give (s.held c)))

abbrev pub static_location : Tables → Site → Form → Script
static_location t site f =
    static_property t site f (λ refused. refused)
    (λ l class name. Give (At (record { root = InStatic class name (typing_of l.0); offsets = [] })))
    (λ class name c typing. Give (At (record { root = InStatic class name typing; offsets = [] })))

-- ---- instanceof

abbrev pub is_object_of : Tables → Store → Value → Bytes → Bool
is_object_of t s (Object n) class = is_a t s (object_at s.objects n).class class
is_object_of t s v class = false

-- whether an object's class is of `Stringable`, in 8.x alone
abbrev pub is_text_object : Tables → Store → Value → Bool
is_text_object t s (Object n) = is_stringable t s (object_at s.objects n).class
is_text_object t s v = false

-- whether a value is an object of a class; of `Stringable` it is outside where the versions differ
abbrev pub instance_of_class : Tables → Value → Bytes → Script
instance_of_class t v class = Look (λ s.
    if same_name class (codes "Stringable") && is_text_object t s v then Stop Declaration else give (Truth (is_object_of t s v class)))

-- by the value of an expression: a class by its full name, or that of an object; anything else throws
abbrev pub instance_of_value : Tables → Value → Value → Script
instance_of_value t v (Object n) = Look (λ s. give (Truth (is_object_of t s v (object_at s.objects n).class)))
instance_of_value t v (Text name) = instance_of_class t v (behind_backslash name)
instance_of_value t v w = throws Error

abbrev pub instance_of : Tables → Site → Form → Script
instance_of t site f =
    if nat_eq (kids f) 1
    then child_value 0 (λ v. class_then site (first_word (behind_word (codes "instanceof") (texts f))) (λ class.
    instance_of_class t v class))
    else child_value 0 (λ v. child_value 1 (λ w. still 0 v (instance_of_value t v w)))
