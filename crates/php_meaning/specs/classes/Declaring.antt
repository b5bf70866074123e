-- Which declarations of classes and interfaces take place, and which declarations PHP compiles. It refuses the others; here they
-- are outside. (PHP manual, "Classes and Objects": "Object Inheritance", "Class Abstraction", "Object Interfaces", "Final
-- Keyword", "Visibility", "Class Constants", "Magic Methods"; "Exceptions"; RFC "Typed Properties 2.0".)
use Rattle.std.specs.Prelude.{ℕ, zero, suc, ◌+◌, Bool, true, false, not, ◌&&◌, ◌||◌, nat_le, if◌then◌else◌, List, [], ◌∷◌, ◌++◌, length, codes, filter, is_some, Option, Some, None}
use Rattle.std.specs.Str.{bytes_eq, str_to_ascii_lowercase}
use Rattle.php_tree.specs.declared.kind.NodeKind.{NodeKind}
use Rattle.php_tree.specs.declared.kind.NodeKind.TheVariants as kind
use Rattle.scope_names.specs.Slot.{Declared, Slot, StaticVariable}
use Rattle.scope_names.specs.Form.{Form, Word, Child, texts}
use Rattle.scope_names.specs.Words.{has_word, has_keyword, is_keyword, last_part}
use Rattle.scope_names.specs.Sites.{Site, declared_here, class_named, alias_of, or_else}
use Rattle.scope_names.specs.Imports.{OfClass, OfFunction}
use Rattle.php_meaning.specs.Cause.{Declaration}
use Rattle.php_meaning.specs.runs.World.{Bytes, Store}
use Rattle.php_meaning.specs.names.Tables.{Tables, declaration_at, is_same_declared}
use Rattle.php_meaning.specs.names.Tables as table
use Rattle.php_meaning.specs.names.Refused.{result_words, is_void}
use Rattle.php_meaning.specs.names.Reserved.{is_php_class, is_reserved_class, is_function_refused}
use Rattle.php_meaning.specs.literals.Literals.{name_of}
use Rattle.php_meaning.specs.runs.Stores.{same_name, is_everywhere}
use Rattle.php_meaning.specs.expressions.QuotedTexts.{is_filled}
use Rattle.php_meaning.specs.calls.Bodies.{function_word, function_name, is_function, variable_word, has_type, has_default, declare, has_body}
use Rattle.php_meaning.specs.classes.Lines.{
  is_class,
  is_interface,
  class_name,
  class_parent,
  declared_class,
  builtin_class,
  interfaces_of,
  listed_by,
  all_of,
  kin_within,
  line_within,
  is_in,
  is_early_class,
}
use Rattle.php_meaning.specs.classes.Members.{
  is_method,
  is_property,
  is_constant,
  belongs,
  declared_line,
  own_method,
  method_in,
  has_modifier,
  is_dollar,
  listed,
  listed_constants,
}
use Rattle.php_meaning.specs.runs.Script.{Script, Stop, Look, give}
use Rattle.php_meaning.specs.values.Value.{Null, Cell}

-- ---- small tests

-- whether something holds of each
abbrev pub each : {A : Type 0} → (A → Bool) → List A → Bool
each p [] = true
each p (x ∷ xs) = p x && each p xs

abbrev pub one_of : {A : Type 0} → (A → Bool) → List A → Bool
one_of p [] = false
one_of p (x ∷ xs) = p x || one_of p xs

abbrev pub is_listed : Bytes → List Bytes → Bool
is_listed name names = one_of (bytes_eq name) names

abbrev pub is_empty : {A : Type 0} → List A → Bool
is_empty [] = true
is_empty (x ∷ xs) = false

-- whether no name stands twice
abbrev pub is_distinct : List Bytes → Bool
is_distinct [] = true
is_distinct (n ∷ ns) = not (is_listed n ns) && is_distinct ns

-- ---- modifiers

-- the words before `class`
abbrev pub class_modifiers : List Bytes → List Bytes
class_modifiers [] = []
class_modifiers (w ∷ ws) = if is_keyword (codes "class") w then [] else w ∷ class_modifiers ws

abbrev pub is_abstract_class : table.Declaration → Bool
is_abstract_class d = has_keyword (codes "abstract") (class_modifiers (texts d.form))

abbrev pub is_final_class : table.Declaration → Bool
is_final_class d = has_keyword (codes "final") (class_modifiers (texts d.form))

abbrev pub has : Bytes → table.Declaration → Bool
has word e = has_modifier word e.form

-- how many see a member: more for `protected` than for `private`, and most for `public`
abbrev pub visibility : table.Declaration → ℕ
visibility e = if has (codes "private") e then 0 else (if has (codes "protected") e then 1 else 2)

abbrev pub one : Bool → ℕ
one true = 1
one false = 0

-- ---- members

-- the members of a class of its own
abbrev pub members_of : Tables → table.Declaration → Tables
members_of t d = filter (λ e. belongs d e.of) t

abbrev pub members_of_all : Tables → Tables → Tables
members_of_all t [] = []
members_of_all t (d ∷ ds) = members_of t d ++ members_of_all t ds

abbrev pub firsts : List (Bytes × Option ℕ) → List Bytes
firsts [] = []
firsts (v ∷ vs) = v.0 ∷ firsts vs

-- the names that a member's declaration declares; names of methods are told apart without case
abbrev pub names_of : table.Declaration → List Bytes
names_of e =
    if is_method e.kind then str_to_ascii_lowercase (function_word e.form) ∷ []
    else (if is_property e.kind then firsts (listed 0 e.form) else firsts (listed_constants 0 e.form))

-- the names of some members of one sort
abbrev pub names_of_all : (NodeKind → Bool) → Tables → List Bytes
names_of_all sort [] = []
names_of_all sort (e ∷ es) = if sort e.kind then names_of e ++ names_of_all sort es else names_of_all sort es

abbrev pub same_sort : table.Declaration → table.Declaration → Bool
same_sort e f =
    (is_method e.kind && is_method f.kind) || (is_property e.kind && is_property f.kind) || (is_constant e.kind && is_constant f.kind)

abbrev pub share_name : table.Declaration → table.Declaration → Bool
share_name e f = same_sort e f && one_of (λ n. is_listed n (names_of f)) (names_of e)

-- ---- types

-- the words of a type, by full names: `self` and `parent` stand for the classes that they name
abbrev pub builtin_types : List Bytes
builtin_types =
    codes "int" ∷ codes "float" ∷ codes "bool" ∷ codes "string" ∷ codes "array" ∷ codes "callable" ∷ codes "iterable"
    ∷ codes "object" ∷ codes "void" ∷ []

abbrev pub full_type : Site → Bytes → Bytes
full_type s name =
    if same_name name (codes "self") then or_else s.class []
    else (if same_name name (codes "parent") then or_else s.parent []
    else (if is_listed (str_to_ascii_lowercase name) builtin_types then name else class_named s name))

abbrev pub full_words : Site → List Bytes → List Bytes
full_words s [] = []
full_words s (w ∷ ws) = if bytes_eq w (codes "?") then w ∷ full_type s (name_of ws) ∷ [] else full_type s (name_of (w ∷ ws)) ∷ []

abbrev pub same_words : List Bytes → List Bytes → Bool
same_words [] [] = true
same_words (w ∷ ws) (v ∷ vs) = same_name w v && same_words ws vs
same_words ws vs = false

abbrev pub is_nullable_of : List Bytes → List Bytes → Bool
is_nullable_of (w ∷ ws) vs = bytes_eq w (codes "?") && same_words ws vs
is_nullable_of [] vs = false

-- whether each value of the first type is one of the second; a type is known by its name alone
abbrev pub is_within : List Bytes → List Bytes → Bool
is_within ws vs = same_words ws vs || is_nullable_of vs ws

-- the words in front of the first child
abbrev pub words_in_front : Form → List Bytes
words_in_front [] = []
words_in_front (Child ∷ f) = []
words_in_front (Word k w ∷ f) = w ∷ words_in_front f

-- the words of a parameter's type, which stand in front of its form in the tables
abbrev pub parameter_type : Form → List Bytes
parameter_type f = let ws = words_in_front f in if one_of is_dollar ws then [] else ws

-- ---- parameters

abbrev pub parameters_of : List (NodeKind × Form) → List Form
parameters_of [] = []
parameters_of ((kind.Param, f) ∷ ks) = f ∷ parameters_of ks
parameters_of (k ∷ ks) = parameters_of ks

abbrev pub is_variadic : Form → Bool
is_variadic f = has_word (codes "...") (texts f)

abbrev pub same_mark : Bytes → Form → Form → Bool
same_mark w e f = if has_word w (texts e) then has_word w (texts f) else not (has_word w (texts f))

-- how many parameters must be passed: all up to the last one without a default
abbrev pub required : ℕ → ℕ → List Form → ℕ
required i r [] = r
required i r (f ∷ fs) = required (suc i) (if has_default f || is_variadic f then r else suc i) fs

-- a parameter takes what the overridden one takes
abbrev pub takes_type : Site → Site → Form → Form → Bool
takes_type s u e f =
    let ws = full_words s (parameter_type e) in
    let vs = full_words u (parameter_type f) in
    same_words ws [] || (not (same_words vs []) && is_within vs ws)

abbrev pub takes_all : Site → Site → List Form → List Form → Bool
takes_all s u es [] = true
takes_all s u [] (f ∷ fs) = false
takes_all s u (e ∷ es) (f ∷ fs) =
    same_mark (codes "&") e f && (is_variadic e || not (is_variadic f)) && takes_type s u e f && takes_all s u es fs

-- a result is of the type of the overridden method's
abbrev pub gives_type : table.Declaration → table.Declaration → Bool
gives_type e f =
    let ws = full_words e.site (result_words e.kids) in
    let vs = full_words f.site (result_words f.kids) in
    same_words vs [] || (not (same_words ws []) && is_within ws vs)

-- ---- a member on its own

abbrev pub is_one_visibility : table.Declaration → Bool
is_one_visibility e = nat_le (one (has (codes "public") e) + one (has (codes "protected") e) + one (has (codes "private") e)) 1

-- a method of a class has a body unless it is abstract, which only a method of an abstract class may be
abbrev pub is_proper_method : table.Declaration → table.Declaration → Bool
is_proper_method d e =
    if is_interface d.kind
    then not (has_body e.form) && nat_le 2 (visibility e) && not (has (codes "final") e) && not (has (codes "abstract") e)
    else (if has (codes "abstract") e
    then is_abstract_class d && not (has_body e.form) && not (has (codes "private") e) && not (has (codes "final") e)
    else has_body e.form)

abbrev pub is_proper_property : table.Declaration → table.Declaration → Bool
is_proper_property d e = not (is_interface d.kind) && not (has (codes "abstract") e) && not (has (codes "final") e)

abbrev pub is_proper_constant : table.Declaration → table.Declaration → Bool
is_proper_constant d e =
    not (has (codes "abstract") e) && not (has (codes "final") e) && not (has (codes "static") e)
    && not (one_of (same_name (codes "class")) (names_of e)) && (not (is_interface d.kind) || nat_le 2 (visibility e))

-- a constructor is not static and has no type; `__toString` is a public method without parameters that gives a text
abbrev pub is_proper_constructor : table.Declaration → Bool
is_proper_constructor e = not (has (codes "static") e) && not (has_type e.form)

abbrev pub is_proper_to_text : table.Declaration → Bool
is_proper_to_text e =
    not (has (codes "static") e) && nat_le 2 (visibility e) && is_empty (parameters_of e.kids)
    && (not (has_type e.form) || same_words (result_words e.kids) (codes "string" ∷ []))

abbrev pub is_proper_magic : table.Declaration → Bool
is_proper_magic e =
    if same_name (function_word e.form) (codes "__construct") then is_proper_constructor e
    else (if same_name (function_word e.form) (codes "__toString") then is_proper_to_text e else true)

abbrev pub is_proper : table.Declaration → table.Declaration → Bool
is_proper d e =
    is_one_visibility e
    && (if is_method e.kind then is_proper_method d e && is_proper_magic e
    else (if is_property e.kind then is_proper_property d e else is_proper_constant d e))

abbrev pub same_static : table.Declaration → table.Declaration → Bool
same_static e f = if has (codes "static") e then has (codes "static") f else not (has (codes "static") f)

-- A method takes what the one that it overrides takes, and gives no more. (PHP manual, "Object Inheritance": "Signature
-- compatibility rules"; RFC "Always generate fatal error for incompatible method signatures". Of types that differ by their
-- names, PHP takes some; here they are outside.)
abbrev pub fits_signature : table.Declaration → table.Declaration → Bool
fits_signature e f =
    let es = parameters_of e.kids in
    let fs = parameters_of f.kids in
    takes_all e.site f.site es fs && nat_le (required 0 0 es) (required 0 0 fs) && gives_type e f
    && (has_word (codes "&") (texts e.form) || not (has_word (codes "&") (texts f.form)))

-- ---- a member against one that it overrides

-- a method may not override a final one, nor become abstract, nor be seen by fewer, nor take less; a constructor may, where the
-- other one has a body
abbrev pub overrides_method : table.Declaration → table.Declaration → Bool
overrides_method e f =
    not (has (codes "final") f) && same_static e f && (has_body e.form || not (has_body f.form))
    && (has (codes "private") f || (nat_le (visibility f) (visibility e) && fits_signature e f)
    || (same_name (function_word e.form) (codes "__construct") && has_body f.form))

abbrev pub overrides_property : table.Declaration → table.Declaration → Bool
overrides_property e f =
    has (codes "private") f
    || (same_static e f && nat_le (visibility f) (visibility e)
    && same_words (full_words e.site (result_words e.kids)) (full_words f.site (result_words f.kids)))

abbrev pub overrides_constant : table.Declaration → table.Declaration → Bool
overrides_constant e f = has (codes "private") f || nat_le (visibility f) (visibility e)

abbrev pub overrides : table.Declaration → table.Declaration → Bool
overrides e f =
    not (share_name e f)
    || (if is_method e.kind then overrides_method e f
    else (if is_property e.kind then overrides_property e f else overrides_constant e f))

-- ---- what a class is of

-- whether a class may extend another one, and whether it may implement an interface; each must be there
abbrev pub extends_well : Tables → List Declared → Option Bytes → Bool
extends_well t ds None = true
extends_well t ds (Some p) = elim (declared_class t ds p) [
  | Some d ↦ not (is_interface d.kind) && not (is_final_class d)
  | None ↦ is_some (builtin_class p) && not (same_name p (codes "Throwable"))
]

abbrev pub implements_well : Tables → List Declared → Bytes → Bool
implements_well t ds name = elim (declared_class t ds name) [
  | Some d ↦ is_interface d.kind
  | None ↦ same_name name (codes "Throwable")
]

-- all that a class is of, but itself, where it isn't declared yet
abbrev pub kin_above : Tables → List Declared → table.Declaration → List Bytes
kin_above t ds d = all_of (kin_within (11 + length ds) t ds) (listed_by (class_parent d) ++ interfaces_of d)

abbrev pub line_above : Tables → List Declared → table.Declaration → Tables
line_above t ds d = declared_line t ds (line_within (suc (11 + length ds)) t ds (class_parent d))

-- a class that isn't abstract has a body for each method that it is of
abbrev pub is_implemented : Tables → Tables → table.Declaration → Bool
is_implemented t line e =
    not (is_method e.kind) || has_body e.form
    || (elim (method_in t line (function_word e.form)) [ Some m ↦ has_body m.0.form && overrides_method m.0 e | None ↦ false ])

-- a constant of an interface isn't inherited beside another one
abbrev pub clashes : table.Declaration → table.Declaration → Bool
clashes e f = is_constant e.kind && share_name e f && not (is_same_declared e.at f.at)

-- the interfaces among some classes
abbrev pub only_interfaces : Tables → Tables
only_interfaces ds = filter (λ d. is_interface d.kind) ds

-- ---- exceptions

-- what an exception class has of its own: methods that are final, and properties, which are outside
abbrev pub final_methods : List Bytes
final_methods =
    codes "getmessage" ∷ codes "getprevious" ∷ codes "getcode" ∷ codes "getfile" ∷ codes "getline" ∷ codes "gettrace"
    ∷ codes "gettraceasstring" ∷ codes "getseverity" ∷ []

abbrev pub exception_properties : List Bytes
exception_properties =
    codes "message" ∷ codes "string" ∷ codes "code" ∷ codes "file" ∷ codes "line" ∷ codes "trace" ∷ codes "previous"
    ∷ codes "severity" ∷ []

abbrev pub meets : List Bytes → List Bytes → Bool
meets names others = one_of (λ n. is_listed n others) names

-- a class of exceptions is a child of Exception or Error, and declares nothing of theirs
abbrev pub is_proper_exception : Tables → table.Declaration → List Bytes → Bool
is_proper_exception t d names =
    not (is_in names (codes "Throwable"))
    || ((is_interface d.kind || is_in names (codes "Exception") || is_in names (codes "Error"))
    && not (meets (names_of_all is_method (members_of t d)) final_methods)
    && not (meets (names_of_all is_property (members_of t d)) exception_properties))

-- ---- what PHP refuses to compile

-- whether a declaration's own name is that of another one that its file imports
abbrev pub is_imported : Option Bytes → Bytes → Bool
is_imported None full = false
is_imported (Some other) full = not (same_name other full)

abbrev pub is_statics : NodeKind → Bool
is_statics kind.Statics = true
is_statics k = false

abbrev pub is_refused_file : NodeKind → Bool
is_refused_file kind.Empty = true
is_refused_file k = false

abbrev pub stands_in : Option Declared → Declared → Bool
stands_in None d = false
stands_in (Some b) d = is_same_declared b d

abbrev pub variables_of : List Bytes → List Bytes
variables_of ws = filter is_dollar ws

-- the variables that a function's `static` statements declare
abbrev pub statics_of : Tables → Declared → List Bytes
statics_of [] d = []
statics_of (e ∷ es) d =
    if is_statics e.kind && stands_in e.site.body d then variables_of (texts e.form) ++ statics_of es d else statics_of es d

abbrev pub only_last_variadic : List Form → Bool
only_last_variadic [] = true
only_last_variadic (f ∷ []) = not (is_variadic f && has_default f)
only_last_variadic (f ∷ g ∷ fs) = not (is_variadic f) && only_last_variadic (g ∷ fs)

abbrev pub parameter_names : List Form → List Bytes
parameter_names [] = []
parameter_names (f ∷ fs) = variable_word (texts f) ∷ parameter_names fs

-- A function's parameters have names of their own, none of which PHP fills by itself; a list of arguments comes last; a static
-- variable is declared once. (PHP manual, "Function parameters and arguments"; UPGRADING 8.3, static variables.)
abbrev pub is_compiled_function : Tables → table.Declaration → Bool
is_compiled_function t d =
    let fs = parameters_of d.kids in
    is_distinct (parameter_names fs)
    && each (λ n. not (is_filled n || is_everywhere n)) (parameter_names fs)
    && each (λ f. not (is_void (parameter_type f))) fs && only_last_variadic fs && is_distinct (statics_of t d.at)
    && (not (is_function d.kind)
    || (not (is_function_refused (function_name d)) && not (is_imported (alias_of d.site.imports OfFunction (function_word d.form)) (function_name d))))

abbrev pub has_distinct_names : Tables → Bool
has_distinct_names own =
    is_distinct (names_of_all is_method own) && is_distinct (names_of_all is_property own) && is_distinct (names_of_all is_constant own)

-- a method that is named like its class is its constructor in 7.4
abbrev pub is_proper_old : table.Declaration → table.Declaration → Bool
is_proper_old d e =
    not (is_method e.kind && bytes_eq d.site.space [] && same_name (function_word e.form) (class_name d)) || is_proper_constructor e

abbrev pub is_compiled_class : Tables → table.Declaration → Bool
is_compiled_class t d =
    let own = members_of t d in
    not (is_reserved_class (class_name d)) && not (is_imported (alias_of d.site.imports OfClass (last_part (class_name d))) (class_name d))
    && not (is_abstract_class d && is_final_class d) && has_distinct_names own && each (is_proper d) own
    && (is_interface d.kind || is_some (own_method t d (codes "__construct")) || each (is_proper_old d) own)

abbrev pub is_compiled : Tables → table.Declaration → Bool
is_compiled t d =
    if is_function d.kind || is_method d.kind then is_compiled_function t d
    else (if is_class d.kind then is_compiled_class t d else true)

-- whether PHP compiles a file: each declaration in it, wherever it stands, and its statements
abbrev pub is_compiled_file : Tables → Bytes → Tables → Bool
is_compiled_file t path ds =
    each (λ d. not (bytes_eq d.at.file path) || (is_compiled t d && not (is_refused_file d.kind))) ds

-- ---- classes

-- the methods that PHP calls by itself and that have no meaning here (PHP manual, "Magic Methods")
abbrev pub magic_methods : List Bytes
magic_methods =
    codes "__get" ∷ codes "__set" ∷ codes "__isset" ∷ codes "__unset" ∷ codes "__call" ∷ codes "__callstatic"
    ∷ codes "__invoke" ∷ codes "__clone" ∷ codes "__destruct" ∷ codes "__sleep" ∷ codes "__wakeup" ∷ codes "__serialize"
    ∷ codes "__unserialize" ∷ codes "__set_state" ∷ codes "__debuginfo" ∷ []

-- whether a class uses a trait
abbrev pub uses_trait : List (NodeKind × Form) → Bool
uses_trait [] = false
uses_trait ((kind.TraitUse, f) ∷ ks) = true
uses_trait (k ∷ ks) = uses_trait ks

-- whether PHP may have declared another class of this name when a file was started: one that stands unconditionally in it
abbrev pub is_awaited : Tables → List Bytes → table.Declaration → Bool
is_awaited t started d =
    one_of (λ e. is_class e.kind && e.is_top && is_listed e.at.file started && same_name (class_name e) (class_name d)
    && not (is_same_declared e.at d.at)) t

-- whether the name of a class is free: it is none of those that are there, in 8.3 at the latest
abbrev pub is_class_free : Tables → Store → table.Declaration → Bool
is_class_free t st d =
    not (is_some (declared_class t st.declared (class_name d)) || is_some (builtin_class (class_name d)) || is_php_class (class_name d)
    || is_awaited t st.started d)

-- Whether an ancestor's method has static variables already: in 7.4 a copy of the method begins with what they hold.
abbrev pub is_static_of : Tables → Tables → Slot × Option Bytes × Cell → Bool
is_static_of t line (StaticVariable d n, o, c) = elim (declaration_at t d) [
  | None ↦ false
  | Some e ↦ one_of (λ a. same_name (class_name a) (or_else e.site.class [])) line
]
is_static_of t line c = false

abbrev pub has_statics : Tables → Store → Tables → Bool
has_statics t st line = one_of (is_static_of t line) st.statics

abbrev pub is_class_fit : Tables → Store → table.Declaration → Bool
is_class_fit t st d =
    let ds = st.declared in
    let names = kin_above t ds d in
    let others = declared_line t ds names in
    let own = members_of t d in
    let all = own ++ members_of_all t others in
    is_class_free t st d && extends_well t ds (class_parent d) && each (implements_well t ds) (interfaces_of d)
    && not (uses_trait d.kids) && not (meets (names_of_all is_method own) magic_methods)
    && each (λ e. each (overrides e) (members_of_all t others)) own
    && (is_interface d.kind || is_abstract_class d || each (is_implemented t (d ∷ line_above t ds d)) all)
    && each (λ e. not (one_of (clashes e) all)) (members_of_all t (only_interfaces others))
    && is_proper_exception t d names && not (has_statics t st (line_above t ds d))

-- A class that stands unconditionally, has a parent that is there, and no interfaces: PHP binds it when it compiles the file, and
-- refuses the file where that can't be done. (PHP's source, `zend_try_early_bind`.)
abbrev pub may_be_bound : Tables → List Declared → table.Declaration → Bool
may_be_bound t ds d =
    is_class d.kind && d.is_top && is_empty (interfaces_of d)
    && (elim (class_parent d) [ None ↦ false | Some p ↦ is_some (declared_class t ds p) || is_some (builtin_class p) ])

-- the classes that stand unconditionally in a file, but one
abbrev pub tops_beside : table.Declaration → Tables → List Declared
tops_beside d [] = []
tops_beside d (e ∷ es) =
    if is_class e.kind && e.is_top && bytes_eq e.at.file d.at.file && not (is_same_declared e.at d.at) then e.at ∷ tops_beside d es
    else tops_beside d es

abbrev pub is_bound : Tables → Store → table.Declaration → Bool
is_bound t st d =
    let ds = tops_beside d t ++ st.declared in
    not (may_be_bound t ds d) || is_class_fit t (record st { declared = ds }) d

-- whether the classes of a file are bound that PHP binds when it compiles it
abbrev pub is_bound_file : Tables → Store → Bytes → Bool
is_bound_file t st path = each (λ d. not (bytes_eq d.at.file path) || is_bound t st d) t

-- a declaration that is reached: one that takes place when its file starts did so, and no other one takes place twice
abbrev pub reach_class : Tables → Site → Script
reach_class t s = elim (declaration_at t (declared_here s)) [
  | None ↦ Stop Declaration
  | Some d ↦
      if is_early_class d then give Null
      else Look (λ st. if is_class_fit t st d then declare d.at (give Null) else Stop Declaration)
]
