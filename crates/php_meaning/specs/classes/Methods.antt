-- Calls of methods. (PHP manual, "Classes and Objects": "Scope Resolution Operator (::)", "Static Keyword", "Visibility".)
use Rattle.std.specs.Prelude.{ℕ, ◌-◌, Bool, true, false, ◌&&◌, ◌||◌, cond, if◌then◌else◌, nat_eq, [], ◌∷◌, codes, is_some, Option, Some, None}
use Rattle.std.specs.Str.{str_to_ascii_lowercase}
use Rattle.php_meaning.specs.values.Value.{Null, Object, Entries, none}
use Rattle.php_meaning.specs.Cause.{NoRule, Call, Error}
use Rattle.php_meaning.specs.Differences.{Differs, StaticCall}
use Rattle.php_meaning.specs.runs.World.{Bytes, Store}
use Rattle.scope_names.specs.Form.{Form, kids, texts}
use Rattle.scope_names.specs.Words.{first_word, behind_word, before_word, last_part}
use Rattle.scope_names.specs.Sites.{Site}
use Rattle.php_meaning.specs.names.Tables.{Tables, is_same_declared}
use Rattle.php_meaning.specs.names.Tables as table
use Rattle.php_meaning.specs.runs.Stores.{same_name, object_at, cell_of}
use Rattle.php_meaning.specs.calls.Bodies.{function_word, entries_then, call}
use Rattle.php_meaning.specs.classes.Lines.{class_name, declared_class, line, is_in, is_a, no_class, class_then}
use Rattle.php_meaning.specs.classes.Members.{own_method, declared_line, method_in, has_modifier, may_call}
use Rattle.php_meaning.specs.classes.Declaring.{is_listed, final_methods}
use Rattle.php_meaning.specs.runs.Script.{Given, Kid, Script, Give, Stop, Look, Run, give, child_value, asking, throws}
use Rattle.php_meaning.specs.classes.Properties.{is_nothing, member_word}
use Rattle.php_meaning.specs.classes.Making.{constructor, exception_arguments, hidden, known_class}

-- ---- calls of methods

-- The text or the code of an exception, which is asked for without arguments; with some, 8.x throws.
abbrev pub exception_answer : Store → ℕ → Bytes → Script
exception_answer s n name = elim (cell_of n (hidden name) s) [ Some c ↦ give (s.held c) | None ↦ Stop NoRule ]

abbrev pub without_arguments : Script → Entries → Script
without_arguments k none = k
without_arguments k es = Stop Call

-- the private method of the class that code stands in, where the object is of that class
abbrev pub own_private : Tables → Store → Site → Bytes → Bytes → Option (table.Declaration × Bytes)
own_private t s site class name = elim site.class [
  | None ↦ None
  | Some c ↦ (elim (declared_class t s.declared c) [
    | None ↦ None
    | Some d ↦ (elim (own_method t d name) [
      | None ↦ None
      | Some m ↦ if has_modifier (codes "private") m.form && is_a t s class c then Some (m, class_name d) else None
    ])
  ])
]

-- the method of an object as code at a site means it
abbrev pub method_of : Tables → Store → Site → Bytes → Bytes → Option (table.Declaration × Bytes)
method_of t s site class name = elim (own_private t s site class name) [
  | Some m ↦ Some m
  | None ↦ method_in t (declared_line t s.declared (line t s class)) name
]

-- a method that no class of the program declares: two of exceptions have a meaning
abbrev pub builtin_method : Store → ℕ → Bytes → Bool → Script
builtin_method s n name is_exception =
    if is_exception && same_name name (codes "getMessage")
    then Run (Kid 1 (Given [])) (entries_then (without_arguments (exception_answer s n (codes "message"))))
    else (if is_exception && same_name name (codes "getCode")
    then Run (Kid 1 (Given [])) (entries_then (without_arguments (exception_answer s n (codes "code"))))
    else (if is_exception && is_listed (str_to_ascii_lowercase name) (codes "__tostring" ∷ codes "__wakeup" ∷ final_methods) then Stop NoRule
    else throws Error))

-- The class whose copy of a method runs: the object's class, or, where that one has another method of this name, the class that
-- declares it.
abbrev pub copy_for : Tables → Store → Bytes → table.Declaration × Bytes → Bytes
copy_for t s class m = elim (method_in t (declared_line t s.declared (line t s class)) (function_word m.0.form)) [
  | Some f ↦ if is_same_declared f.0.at m.0.at then class else m.1
  | None ↦ m.1
]

abbrev pub call_method : Tables → Site → Bytes → Store → ℕ → Bytes → Script
call_method t site name s n class = elim (method_of t s site class name) [
  | Some m ↦ (if may_call t s site false m
      then call 1 m.0 (if has_modifier (codes "static") m.0.form then None else Some n) (Some class) (Some (copy_for t s class m)) Give
      else throws Error)
  | None ↦ builtin_method s n name (is_in (line t s class) (codes "Throwable"))
]

-- the methods whose calls are outside: 8.x gives `__toString` a type that 7.4 doesn't
abbrev pub is_uncalled : Bytes → Bool
is_uncalled name = same_name name (codes "__toString")

-- No call starts in a value that a declaration writes down; one whose name an expression gives, and one of `__construct` or
-- `__toString`, are outside.
abbrev pub method_call : Tables → Site → Form → Script
method_call t site f = Look (λ st.
    if is_some st.here.item || is_nothing (member_word 2 f) || same_name (member_word 2 f) (codes "__construct")
    || is_uncalled (member_word 2 f) then Stop Call
    else child_value 0 (elim [
      | Object n ↦ Look (λ s. call_method t site (member_word 2 f) s n (object_at s.objects n).class)
      | _ ↦ throws Error
    ]))

-- The object that a static call of a method that isn't static runs in: that of the caller, where its class is fit. Without
-- one, 7.4 calls it all the same, and 8.3 throws. (RFC "Reclassify engine warnings", UPGRADING 8.0.)
abbrev pub fit_object : Tables → Store → Bytes → Option ℕ → Option ℕ
fit_object t s class None = None
fit_object t s class (Some n) = if is_a t s (object_at s.objects n).class class then Some n else None

-- The class that a static method is called by: `self` and `parent` pass on the one that the code was called by. (PHP manual,
-- "Late Static Bindings".)
abbrev pub called_by : Store → Bytes → Bytes → Option Bytes
called_by s word class =
    if same_name word (codes "self") || same_name word (codes "parent")
    then (elim s.here.class [ Some c ↦ Some c | None ↦ Some class ]) else Some class

abbrev pub call_static : Tables → Store → Bytes → table.Declaration → Bytes → Script
call_static t s word m class =
    if has_modifier (codes "static") m.form then call 0 m None (called_by s word class) (Some class) Give
    else (elim (fit_object t s class s.here.this) [
      | Some n ↦ call 0 m (Some n) (Some (object_at s.objects n).class) (Some class) Give
      | None ↦ asking (Differs StaticCall true false) (λ b. cond b (call 0 m None (called_by s word class) (Some class) Give) (throws Error))
    ])

-- A constructor that is called as a static method: that of the class, which for an exception is its own.
abbrev pub construct_again : Tables → Store → Bytes → Script
construct_again t s class =
    if is_in (line t s class) (codes "Throwable")
    then (elim (fit_object t s class s.here.this) [ Some n ↦ exception_arguments 1 n (give Null) | None ↦ Stop Call ])
    else throws Error

abbrev pub static_constructor : Tables → Site → Store → Bytes → Bytes → Script
static_constructor t site s word class =
    asking (constructor t (declared_line t s.declared (line t s class))) (λ m. elim m [
      | Some d ↦
          if has_modifier (codes "private") d.0.form then Stop Call
          else (if may_call t s site true d then call_static t s word d.0 class else throws Error)
      | None ↦ construct_again t s class
    ])

-- the last part of a class's name is a method's
abbrev pub is_named_like : Bytes → Bytes → Bool
is_named_like class name = same_name (last_part class) name

-- A static call of a method that isn't there is outside where it is named like its class: 7.4 may mean a constructor.
abbrev pub static_method : Tables → Site → Store → Bytes → Bytes → Bytes → Script
static_method t site s word class name = elim (method_in t (declared_line t s.declared (line t s class)) name) [
  | None ↦
      if is_named_like class name || (is_in (line t s class) (codes "Throwable") && is_listed (str_to_ascii_lowercase name) final_methods)
      then Stop Call else throws Error
  | Some m ↦ if may_call t s site false m then call_static t s word m.0 class else throws Error
]

-- the words before and behind `::`, with so many children; none where an expression stands for one of them
abbrev pub class_word : ℕ → Form → Bytes
class_word n f = if nat_eq (kids f) n then first_word (before_word (codes "::") (texts f)) else []

abbrev pub word_of_class : Form → Bytes
word_of_class f = first_word (behind_word (codes "::") (texts f))

abbrev pub static_call : Tables → Site → Form → Script
static_call t site f = Look (λ s.
    if is_some s.here.item || is_uncalled (word_of_class f) then Stop Call
    else class_then site (class_word 1 f) (λ name. elim (known_class t s name) [
      | None ↦ no_class t name
      | Some c ↦
          if same_name (word_of_class f) (codes "__construct") then static_constructor t site s (class_word 1 f) c
          else static_method t site s (class_word 1 f) c (word_of_class f)
    ]))
