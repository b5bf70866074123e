-- `new`: the properties of an object, its constructor, what an exception has from the start. (PHP manual, "Classes and
-- Objects": "Constructors and Destructors", "Exceptions".)
use Rattle.std.specs.Prelude.{ℕ, zero, suc, ◌-◌, ℤ, Bool, true, false, not, ◌&&◌, cond, if◌then◌else◌, List, [], ◌∷◌, reverse, length, codes, pos, is_some, Option, Some, None}
use Rattle.php_tree.specs.declared.version.Version.TheVariants.{V83}
use Rattle.scope_names.specs.Slot as slot
use Rattle.php_meaning.specs.values.Value.{Value, Null, Int, Text, Object, Entries, none, own, shared}
use Rattle.php_meaning.specs.Cause.{Call, Error}
use Rattle.php_meaning.specs.Differences.{ByVersion, Alike, Differs, OldConstructor, in_version}
use Rattle.php_meaning.specs.runs.World.{Bytes, Member, Store, with_object}
use Rattle.scope_names.specs.Form.{Form, kids, texts}
use Rattle.scope_names.specs.Words.{is_keyword, first_word, behind_word, before_word}
use Rattle.scope_names.specs.Sites.{Site}
use Rattle.php_meaning.specs.names.Tables.{Tables}
use Rattle.php_meaning.specs.names.Tables as table
use Rattle.php_meaning.specs.runs.Stores.{same_name, without_property, with_made}
use Rattle.php_meaning.specs.expressions.Assigning.{kept}
use Rattle.php_meaning.specs.calls.Bodies.{call, call_with, may_be_called, entries_then}
use Rattle.php_meaning.specs.classes.Lines.{is_interface, class_name, declared_class, builtin_class, line, is_in, no_class, class_then}
use Rattle.php_meaning.specs.classes.Members.{is_property, belongs, own_method, declared_line, has_modifier, may_call, listed}
use Rattle.php_meaning.specs.classes.Declaring.{is_abstract_class}
use Rattle.php_meaning.specs.classes.Preparing.{default_key, item_then, prepared}
use Rattle.php_meaning.specs.classes.Types.{typing_of}
use Rattle.php_meaning.specs.runs.Script.{Typing, Untyped, Given, Kid, Script, Stop, Look, Put, Run, give, value_then, asking, throws}
use Rattle.php_meaning.specs.classes.Properties.{is_nothing}

-- ---- new

abbrev pub property_owner : table.Declaration → Bytes → Option Bytes
property_owner d class = if has_modifier (codes "private") d.form then Some class else None

-- A property of an object gets its first value: none, where it has a type and no value is written down. It takes the place
-- of one that the class overrides.
abbrev pub make_empty : ℕ → Member → Bytes → Typing → Script → Script
make_empty n m name Untyped k = Look (λ s. Put (with_made n m (slot.Property name) Null s) k)
make_empty n m name typing k = Look (λ s. Put (without_property n m s) k)

-- the properties that one declaration lists, as those of an object
abbrev pub make_listed : Tables → ℕ → table.Declaration → Bytes → List (Bytes × Option ℕ) → Script → Script
make_listed t n d class [] k = k
make_listed t n d class ((name, None) ∷ vs) k =
    make_empty n (record { name = name; owner = property_owner d class }) name (typing_of d) (make_listed t n d class vs k)
make_listed t n d class ((name, Some i) ∷ vs) k =
    item_then (default_key class name) (d, Some i) class (λ v. kept v (λ w.
    Look (λ s. Put (with_made n (record { name = name; owner = property_owner d class }) (slot.Property name) w s)
    (make_listed t n d class vs k))))

-- the properties of one class
abbrev pub make_own : Tables → ℕ → table.Declaration → Tables → Script → Script
make_own t n c [] k = k
make_own t n c (d ∷ ds) k =
    if is_property d.kind && belongs c d.of && not (has_modifier (codes "static") d.form)
    then make_listed t n d (class_name c) (listed 0 d.form) (make_own t n c ds k)
    else make_own t n c ds k

-- the properties of some classes
abbrev pub make_all : Tables → ℕ → Tables → Script → Script
make_all t n [] k = k
make_all t n (c ∷ cs) k = make_own t n c t (make_all t n cs k)

-- The constructor of a class. In 7.4 a method that is named like its class is one, where the class stands in no
-- namespace and declares no `__construct` itself. (PHP manual, "Constructors and Destructors": "Old-style constructors".)
abbrev pub old_constructor : Tables → table.Declaration → Option table.Declaration
old_constructor t d = if is_nothing d.site.space then own_method t d (class_name d) else None

-- the constructor along a line, and its class
abbrev pub constructor : Tables → Tables → ByVersion (Option (table.Declaration × Bytes))
constructor t [] = Alike None
constructor t (d ∷ ds) = elim (own_method t d (codes "__construct")) [
  | Some m ↦ Alike (Some (m, class_name d))
  | None ↦ (elim (old_constructor t d) [
    | None ↦ constructor t ds
    | Some m ↦ Differs OldConstructor (Some (m, class_name d)) (in_version V83 (constructor t ds))
  ])
]

-- The arguments, if there are any written, and then the constructor; those of a class without one are evaluated too.
abbrev pub construct : ℕ → ℕ → Bytes → Option table.Declaration → Script
construct zero n class None = give (Object n)
construct (suc i) n class None = Run (Kid i (Given [])) (entries_then (λ es. give (Object n)))
construct zero n class (Some d) =
    if may_be_called d then call_with d (Some n) (Some class) (Some class) (value_then (λ v. give (Object n))) none else Stop Call
construct (suc i) n class (Some d) = call i d (Some n) (Some class) (Some class) (value_then (λ v. give (Object n)))

-- the text and the code of an exception, as its hidden properties
abbrev pub hidden : Bytes → Member
hidden name = record { name = name; owner = Some (codes "Throwable") }

abbrev pub with_hidden : ℕ → Bytes → Value → Store → Store
with_hidden n name v s = with_made n (hidden name) slot.Unnamed v s

-- the text and the code of an exception: those of its constructor, or none and 0
abbrev pub with_exception : ℕ → Value → Value → Store → Store
with_exception n message code s = with_hidden n (codes "code") code (with_hidden n (codes "message") message s)

-- The constructor of an exception takes a text and an int, and sets what it is given: no text, and the code 0, leave what is
-- there. With anything else it is outside: 8.x throws where 7.4 converts.
abbrev pub with_code : ℕ → ℤ → Store → Store
with_code n (pos zero) s = s
with_code n i s = with_hidden n (codes "code") (Int i) s

abbrev pub construct_exception : ℕ → Script → List Value → Script
construct_exception n k [] = k
construct_exception n k (Text t ∷ []) = Look (λ s. Put (with_hidden n (codes "message") (Text t) s) k)
construct_exception n k (Text t ∷ Int i ∷ []) = Look (λ s. Put (with_code n i (with_hidden n (codes "message") (Text t) s)) k)
construct_exception n k vs = Stop Call

abbrev pub values_of : Entries → List Value
values_of none = []
values_of (own k n w rest) = w ∷ values_of rest
values_of (shared k n c rest) = values_of rest

abbrev pub exception_arguments : ℕ → ℕ → Script → Script
exception_arguments zero n k = construct_exception n k []
exception_arguments (suc i) n k = Run (Kid i (Given [])) (entries_then (λ es. construct_exception n k (values_of es)))

abbrev pub as_exception : Bool → ℕ → Script → Script
as_exception true n k = Look (λ s. Put (with_exception n (Text []) (Int (pos 0)) s) k)
as_exception false n k = k

-- A new object of the classes of a line, with its properties from the farthest ancestor on. A constructor that code at a
-- site may not use throws before its arguments are evaluated.
abbrev pub make : Tables → Site → ℕ → ℕ → Bytes → Tables → Bool → Script
make t site count n class cs is_exception =
    make_all t n (reverse cs) (as_exception is_exception n (asking (constructor t cs) (λ m. elim m [
      | Some d ↦ Look (λ s. if may_call t s site true d then construct count n class (Some d.0) else throws Error)
      | None ↦ cond is_exception (exception_arguments count n (give (Object n))) (construct count n class None)
    ])))

-- the full name of a class that there is, as it is declared
abbrev pub known_class : Tables → Store → Bytes → Option Bytes
known_class t s name = elim (declared_class t s.declared name) [
  | Some d ↦ Some (class_name d)
  | None ↦ (elim (builtin_class name) [ Some r ↦ Some r.0 | None ↦ None ])
]

-- whether objects of a class are made: it is no interface and not abstract
abbrev pub is_made : Tables → Store → Bytes → Bool
is_made t s class = elim (declared_class t s.declared class) [
  | Some d ↦ not (is_interface d.kind) && not (is_abstract_class d)
  | None ↦ not (same_name class (codes "Throwable"))
]

-- the class that is named behind `new`; an anonymous one has no name
abbrev pub new_word : Form → Bytes
new_word f =
    let w = first_word (behind_word (codes "new") (before_word (codes "(") (texts f))) in
    if is_keyword (codes "class") w then [] else w

abbrev pub new_object : Tables → Site → Form → Script
new_object t site f = Look (λ s.
    if is_some s.here.item then Stop Call
    else class_then site (new_word f) (λ name. elim (known_class t s name) [
      | None ↦ no_class t name
      | Some class ↦
          if is_made t s class
          then prepared t class (Look (λ u. Put (with_object class u)
          (make t site (kids f) (length u.objects) class (declared_line t s.declared (line t s class)) (is_in (line t s class) (codes "Throwable")))))
          else throws Error
    ]))
