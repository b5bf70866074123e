-- Constants: what a name stands for, and how one is defined. (PHP manual, "Constants", `define`, "Name resolution rules";
-- RFC "Deprecate case-insensitive constants" and UPGRADING 8.0; RFC "Deprecate and remove bareword (unquoted) strings".)
use Rattle.std.specs.Prelude.{ℕ, suc, Bool, true, false, not, ◌&&◌, ◌||◌, ◌==◌, nat_le, cond, if◌then◌else◌, List, [], ◌∷◌, ◌++◌, codes, is_none, is_some, Option, Some, None}
use Rattle.std.specs.Str.{bytes_eq, str_to_ascii_lowercase}
use Rattle.builtin_tables.specs.declared.constant.ConstantValue.{ConstantValue}
use Rattle.builtin_tables.specs.declared.constant.ConstantValue.TheVariants as known
use Rattle.builtin_tables.specs.Constants as table
use Rattle.php_meaning.specs.values.Value.{Value, Null, Truth, Int, Text}
use Rattle.php_meaning.specs.Cause.{Declaration, Error}
use Rattle.php_meaning.specs.Differences.{Differs, UndefinedConstant}
use Rattle.php_meaning.specs.Differences as difference
use Rattle.php_tree.specs.declared.kind.NodeKind.{NodeKind}
use Rattle.php_tree.specs.declared.kind.NodeKind.TheVariants as kind
use Rattle.scope_names.specs.Form.{texts}
use Rattle.php_meaning.specs.literals.Literals.{found}
use Rattle.php_meaning.specs.names.Tables.{Tables}
use Rattle.php_meaning.specs.runs.World.{Bytes, Store}
use Rattle.scope_names.specs.Sites.{Site, candidates, in_space, alias_of}
use Rattle.scope_names.specs.Imports.{OfConstant}
use Rattle.scope_names.specs.Words.{is_keyword, is_end}
use Rattle.php_meaning.specs.names.Reserved.{is_constant_taken, is_php_constant}
use Rattle.php_meaning.specs.runs.Script.{Script, Stop, Look, Put, give, child_value, asking, throws}

-- ---- the constants that are there from the start

abbrev pub known_value : ConstantValue → Value
known_value known.Null = Null
known_value (known.Bool b) = Truth b
known_value (known.Int i) = Int i
known_value known.LineEnd = Text (10 ∷ [])

abbrev pub known_constant : Bytes → Option Value
known_constant name = elim (table.constant_named name) [ Some v ↦ Some (known_value v) | None ↦ None ]

-- ---- names

-- A name by which a constant is kept: its namespace is told apart without case, its last part with case.
abbrev pub key_from : Bytes → Bytes → Bytes
key_from part [] = part
key_from part (b ∷ bs) =
    if b == 92 then str_to_ascii_lowercase part ++ 92 ∷ key_from [] bs else key_from (part ++ b ∷ []) bs

abbrev pub constant_key : Bytes → Bytes
constant_key name = key_from [] name

-- whether this text is one of these
abbrev pub is_listed : List Bytes → Bytes → Bool
is_listed [] t = false
is_listed (u ∷ us) t = bytes_eq u t || is_listed us t

-- ---- what a name stands for

-- the constant of a name without case, of those that 7.4 defined so
abbrev pub without_case : Store → Bytes → Option Value
without_case s name =
    if is_listed s.any_case (str_to_ascii_lowercase name) then found s.constants (str_to_ascii_lowercase name) else None

-- the constant of one of these names, the first that is there
abbrev pub defined : Store → List Bytes → Option Value
defined s [] = None
defined s (n ∷ ns) = elim (found s.constants (constant_key n)) [
  | Some v ↦ Some v
  | None ↦ (elim (without_case s n) [ Some v ↦ Some v | None ↦ defined s ns ])
]

abbrev pub has_lower_case : Bytes → Bool
has_lower_case [] = false
has_lower_case (b ∷ bs) = (nat_le 97 b && nat_le b 122) || has_lower_case bs

-- its own text in 7.4; thrown at in 8.3
abbrev pub bare_word : Bytes → Script
bare_word name = asking (Differs UndefinedConstant true false) (λ b. cond b (give (Text name)) (throws Error))

-- the full names that the words of a `const` statement at a site define, as they are kept
abbrev pub names_by_const : Site → List Bytes → List Bytes
names_by_const s [] = []
names_by_const s (w ∷ ws) =
    if is_end w || bytes_eq w (codes "=") || is_keyword (codes "const") w then names_by_const s ws
    else constant_key (in_space s.space w) ∷ names_by_const s ws

abbrev pub names_by_define : List Bytes → List Bytes
names_by_define [] = []
names_by_define (w ∷ ws) = constant_key w ∷ names_by_define ws

abbrev pub names_defined : NodeKind → Site → List Bytes → List Bytes
names_defined kind.Const s ws = names_by_const s ws
names_defined kind.Call s ws = names_by_define ws
names_defined k s ws = []

-- whether the program defines a constant somewhere, reached or not
abbrev pub is_defined_somewhere : Tables → Bytes → Bool
is_defined_somewhere [] key = false
is_defined_somewhere (d ∷ ds) key = is_listed (names_defined d.kind d.site (texts d.form)) key || is_defined_somewhere ds key

-- A constant that is nowhere defined: where it is a bare name with a lower-case letter, outside of namespaces and not
-- imported, it is its own text in 7.4, and 8.3 throws. Any other one is outside, and so is one that PHP has, or that the program
-- defines, but not yet.
abbrev pub undefined : Tables → Site → List Bytes → Bytes → Script
undefined t s names name =
    if has_lower_case name && bytes_eq s.space [] && is_listed names name
    && is_none (alias_of s.imports OfConstant name) && not (is_php_constant name) && not (is_defined_somewhere t (constant_key name))
    then bare_word name else Stop Declaration

-- the constant from the start that one of these names is
abbrev pub from_start : List Bytes → Option Value
from_start [] = None
from_start (n ∷ ns) = elim (known_constant n) [ Some v ↦ Some v | None ↦ from_start ns ]

-- a constant that isn't known from its place or as a word of the language
abbrev pub constant_value : Tables → Site → Bytes → Script
constant_value t s name = Look (λ st. elim (defined st (candidates s OfConstant name)) [
  | Some v ↦ give v
  | None ↦ (elim (from_start (candidates s OfConstant name)) [ Some v ↦ give v | None ↦ undefined t s (candidates s OfConstant name) name ])
])

-- ---- definitions

-- the store with a constant
abbrev pub with_constant : Bytes → Value → Store → Store
with_constant key v s = record s { constants = (key, v) ∷ s.constants }

-- the store with a constant that is found without case
abbrev pub with_any_case : Bytes → Value → Store → Store
with_any_case name v s =
    record s { constants = (str_to_ascii_lowercase name, v) ∷ s.constants; any_case = str_to_ascii_lowercase name ∷ s.any_case }

-- whether another constant is imported under this name
abbrev is_imported : Site → Bytes → Bool
is_imported s w = elim (alias_of s.imports OfConstant w) [ None ↦ false | Some full ↦ not (bytes_eq full (in_space s.space w)) ]

-- Constants that a statement defines. One that is there already is outside, and so is one under whose name another is imported.
abbrev pub define_all : Site → ℕ → List Bytes → Script
define_all s i [] = give Null
define_all s i (w ∷ ws) =
    if is_end w || bytes_eq w (codes "=") || is_keyword (codes "const") w then define_all s i ws
    else child_value i (λ v. Look (λ st.
    if is_constant_taken (in_space s.space w) || is_imported s w || is_some (found st.constants (constant_key (in_space s.space w))) then Stop Declaration
    else Put (with_constant (constant_key (in_space s.space w)) v st) (define_all s (suc i) ws)))

-- whether `::` stands in a name
abbrev pub has_colons : Bytes → Bool
has_colons [] = false
has_colons (a ∷ []) = false
has_colons (a ∷ b ∷ bs) = (a == 58 && b == 58) || has_colons (b ∷ bs)

-- A constant under a key, where none is under it: true; else false, and nothing is defined.
abbrev pub define_at : Store → Bytes → (Store → Store) → Script
define_at s key define =
    if is_some (found s.constants key) then give (Truth false) else Put (define s) (give (Truth true))

abbrev pub define_with_case : Store → Bytes → Value → Script
define_with_case s name v = define_at s (constant_key name) (with_constant (constant_key name) v)

abbrev pub define_without_case : Store → Bytes → Value → Script
define_without_case s name v = define_at s (str_to_ascii_lowercase name) (with_any_case name v)

-- `define`. With true as third argument, 7.4 defines without case, and 8.3 with case. (UPGRADING 8.0, "Core".)
abbrev pub define : Store → Bytes → Value → Bool → Script
define s name v any_case =
    if has_colons name || is_constant_taken name then Stop Declaration
    else (if any_case
    then asking (Differs difference.Builtin true false) (λ b. cond b (define_without_case s name v) (define_with_case s name v))
    else define_with_case s name v)
