-- Calls of builtin functions. (PHP manual, "Functions", `get_class`, `define`; UPGRADING 8.0, removed functions.)
use Rattle.std.specs.Prelude.{ℕ, zero, suc, Bool, true, false, cond, if◌then◌else◌, List, [], ◌∷◌, pos, Option, Some, None, ◌||◌}
use Rattle.std.specs.Str.{bytes_eq}
use Rattle.builtin_tables.specs.declared.builtin.Builtin.{Builtin}
use Rattle.builtin_tables.specs.declared.builtin.Builtin.TheVariants as builtin
use Rattle.builtin_tables.specs.declared.kinds.Change.{Change}
use Rattle.builtin_tables.specs.declared.kinds.Change.TheVariants.{Same, PastEnd, Needle, Exchanged, ConstantCase, Removed}
use Rattle.builtin_tables.specs.Builtins.{builtin_rows, row_of}
use Rattle.builtin_tables.specs.Named as table
use Rattle.php_meaning.specs.values.Value.{Value, Null, Truth, Int, Text, IntKey, Arr, Entries, none, own, shared}
use Rattle.php_meaning.specs.Cause.{Call, Error, TypeError, Outcome, Gives, Came, Throws}
use Rattle.php_meaning.specs.Differences.{ByVersion, Differs}
use Rattle.php_meaning.specs.Differences as difference
use Rattle.php_meaning.specs.values.Arrays.{Own, behind}
use Rattle.php_meaning.specs.runs.World.{Bytes, Store}
use Rattle.scope_names.specs.Sites.{Site}
use Rattle.php_meaning.specs.runs.Stores.{cells_of}
use Rattle.php_meaning.specs.runs.Script.{Fresh, Handed, Kid, Script, Give, Stop, Look, Run, give, child_value, value_then, given, asking, comes, throws, still}
use Rattle.php_meaning.specs.builtins.Arguments.{takes}
use Rattle.php_meaning.specs.builtins.Answers.{answer}
use Rattle.php_meaning.specs.names.Constants.{define}
use Rattle.php_meaning.specs.names.Reserved.{has_php_function}

-- the builtin with one of these names, the first name first
abbrev pub builtin_named : List Bytes → Option Builtin
builtin_named [] = None
builtin_named (n ∷ ns) = elim (table.found builtin_rows n) [ Some b ↦ Some b | None ↦ builtin_named ns ]

-- ---- arguments

-- The values of the children from `i` on, behind those so far, as they are: a builtin copies nothing. A plain variable that a
-- later argument changed is outside: PHP reads it late for some builtins (`array_key_exists`), and at once for others.
abbrev pub handed : ℕ → ℕ → Entries → (Script → Script) → Script
handed i zero es stand = stand (Give (Fresh (Arr None i es)))
handed i (suc n) es stand = child_value i (λ v. handed (suc i) n (behind es (IntKey (pos i)) i (Own v)) (λ k. stand (still i v k)))

abbrev pub values_of_entries : Store → Entries → List Value
values_of_entries s none = []
values_of_entries s (own k n v rest) = v ∷ values_of_entries s rest
values_of_entries s (shared k n c rest) = s.held c ∷ values_of_entries s rest

-- the values that were passed
abbrev pub values_of : Store → Value → List Value
values_of s (Arr largest next es) = values_of_entries s es
values_of s v = []

-- ---- the functions that look at more than values

-- `get_class` without arguments: the class around the call; outside where there is none
abbrev pub class_around : Site → List Value → Script
class_around s [] = elim s.class [ Some name ↦ give (Text name) | None ↦ Stop Call ]
class_around s vs = Stop Call

abbrev pub define_of : Store → List Value → Script
define_of s (Text name ∷ v ∷ []) = define s name v false
define_of s (Text name ∷ v ∷ Truth b ∷ []) = define s name v b
define_of s vs = Stop Call

abbrev pub unless_refused : Store → Builtin → List Value → Script → Script
unless_refused s b vs k = if takes (cells_of s) (row_of b) vs then k else Stop Call

-- whether a file declared strict types
abbrev pub is_strict : List Bytes → Bytes → Bool
is_strict [] file = false
is_strict (f ∷ fs) file = bytes_eq f file || is_strict fs file

-- In a file of strict types an int as needle throws in 8.3, whose second parameter is a text. (UPGRADING 8.0, "Standard".)
abbrev pub by_strictness : Bool → List Value → ByVersion (Outcome Came) → ByVersion (Outcome Came)
by_strictness true (t ∷ Int i ∷ vs) (Differs point old new) = Differs point old (Gives (Throws TypeError))
by_strictness strict vs r = r

-- what a builtin does with the values that were passed
abbrev pub answering : Site → Store → Builtin → List Value → Script
answering s st builtin.GetClass vs = class_around s vs
answering s st builtin.Define vs = unless_refused st builtin.Define vs (define_of st vs)
answering s st builtin.Strpos vs = asking (by_strictness (is_strict st.strict s.file) vs (answer builtin.Strpos (cells_of st) vs)) (λ r. given r comes)
answering s st b vs = asking (answer b (cells_of st) vs) (λ r. given r comes)

-- ---- calls

abbrev pub is_removed : Change → Bool
is_removed Same = false
is_removed PastEnd = false
is_removed Needle = false
is_removed Exchanged = false
is_removed ConstantCase = false
is_removed Removed = true

-- the arguments of the child `i`, and then the builtin
abbrev pub call_there : Site → ℕ → Builtin → Script
call_there s i b = Run (Kid i Handed) (value_then (λ es. Look (λ st. answering s st b (values_of st es))))

-- A builtin is called, where there is one: what 8.3 has no more throws there before its arguments are evaluated, as what
-- neither version has. What PHP has beyond the profile, under one of the names that the call may mean, is outside.
abbrev pub call_builtin : Site → ℕ → List Bytes → Option Builtin → Script
call_builtin s i names None = if has_php_function names then Stop Call else throws Error
call_builtin s i names (Some b) =
    if is_removed (row_of b).change
    then asking (Differs difference.Builtin true false) (λ there. cond there (call_there s i b) (throws Error))
    else call_there s i b
