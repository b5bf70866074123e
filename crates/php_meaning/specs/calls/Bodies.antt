-- Scripts of functions: declaring, calling, parameters; and of the variables that a body shares. (PHP manual,
-- "Functions", "Variable scope".)
use Rattle.std.specs.Prelude.{ℕ, zero, suc, ◌-◌, Bool, true, false, not, ◌&&◌, ◌||◌, cond, if◌then◌else◌, List, [], ◌∷◌, ◌++◌, codes, pos, is_none, is_some, Option, Some, None}
use Rattle.std.specs.Str.{bytes_eq, str_to_ascii_lowercase}
use Rattle.php_tree.specs.declared.kind.NodeKind.{NodeKind}
use Rattle.php_tree.specs.declared.kind.NodeKind.TheVariants as kind
use Rattle.scope_names.specs.Slot.{Slot, Declared, StaticVariable}
use Rattle.php_meaning.specs.values.Value.{Value, Null, Truth, Text, Arr, Cell, Entries, IntKey, none, own, shared}
use Rattle.php_meaning.specs.Cause.{NoRule, Conversion, Declaration, Call, ArgumentCountError, TypeError}
use Rattle.php_meaning.specs.Differences.{ByVersion, Alike, Differs, StaticsOfChild}
use Rattle.php_meaning.specs.values.Arrays.{Own, Shared, behind}
use Rattle.php_meaning.specs.runs.World.{Bytes, Frame, Store}
use Rattle.scope_names.specs.Form.{Form, Word, Child, kids, texts}
use Rattle.scope_names.specs.Words.{has_word, is_keyword, is_end, first_word, behind_word}
use Rattle.scope_names.specs.Sites.{Site, in_space, declared_here}
use Rattle.php_meaning.specs.names.Tables.{Tables, declaration_at, is_same_declared}
use Rattle.php_meaning.specs.names.Tables as table
use Rattle.php_meaning.specs.names.Refused.{result_words, is_void}
use Rattle.php_meaning.specs.names.Reserved.{is_function_taken}
use Rattle.php_meaning.specs.runs.Stores.{same_name, next_cell, with_cell, variable_slot, with_variable, lending, given_back}
use Rattle.php_meaning.specs.literals.Literals.{found, behind_backslash}
use Rattle.php_meaning.specs.expressions.Expressions.{plain_name}
use Rattle.php_meaning.specs.expressions.Assigning.{Properties, kept_then, cell_then}
use Rattle.php_meaning.specs.runs.Script.{
  Return,
  Throw,
  Out,
  Fresh,
  Jump,
  Mode,
  Read,
  Name,
  Against,
  Given,
  Entered,
  Kid,
  There,
  Script,
  Give,
  Stop,
  Look,
  Put,
  Run,
  give,
  value_then,
  child_location,
  asking,
  throws,
}

-- ---- names of declarations

-- the name of a function or method: the word behind `function`, and behind `&`
abbrev pub behind_mark : List Bytes → Bytes
behind_mark [] = []
behind_mark (w ∷ ws) = if bytes_eq w (codes "&") then first_word ws else w

abbrev pub function_word : Form → Bytes
function_word f = behind_mark (behind_word (codes "function") (texts f))

abbrev pub function_name : table.Declaration → Bytes
function_name d = in_space d.site.space (function_word d.form)

abbrev pub is_function : NodeKind → Bool
is_function kind.Function = true
is_function k = false

-- the declared function with one of these names, the first name first
abbrev pub declared_function : Tables → List Declared → Bytes → Option table.Declaration
declared_function t [] name = None
declared_function t (d ∷ ds) name = elim (declaration_at t d) [
  | None ↦ declared_function t ds name
  | Some e ↦ if is_function e.kind && same_name (function_name e) name then Some e else declared_function t ds name
]

abbrev pub function_named : Tables → List Declared → List Bytes → Option table.Declaration
function_named t ds [] = None
function_named t ds (n ∷ ns) = elim (declared_function t ds n) [ Some d ↦ Some d | None ↦ function_named t ds ns ]

-- ---- declaring

abbrev pub is_declared : List Declared → Declared → Bool
is_declared [] d = false
is_declared (e ∷ es) d = is_same_declared e d || is_declared es d

abbrev pub declare : Declared → Script → Script
declare d k = Look (λ s. Put (record s { declared = d ∷ s.declared }) k)

-- a function that is reached: an unconditional one was declared when its file started
abbrev pub reach_function : Tables → Site → Script
reach_function t s = elim (declaration_at t (declared_here s)) [
  | None ↦ Stop Declaration
  | Some d ↦
      if d.is_top then give Null
      else Look (λ st.
      if is_some (declared_function t st.declared (function_name d)) || is_function_taken (function_name d)
      then Stop Declaration else declare d.at (give Null))
]

-- ---- calling

-- the variable of a parameter
abbrev pub is_dollar : ℕ → Bool
is_dollar b = bytes_eq (b ∷ []) (codes "$")

abbrev pub variable_word : List Bytes → Bytes
variable_word [] = []
variable_word ([] ∷ ws) = variable_word ws
variable_word ((b ∷ bs) ∷ ws) = cond (is_dollar b) bs (variable_word ws)

-- the slots of a declaration's parameters, where they are by reference
abbrev pub takers : Declared → List (NodeKind × Form) → List (Option Slot)
takers d [] = []
takers d ((kind.Param, f) ∷ ks) =
    cond (has_word (codes "&") (texts f)) (Some (variable_slot (Some d) (variable_word (texts f)))) None ∷ takers d ks
takers d (k ∷ ks) = takers d ks

-- The arguments, from the child `i` on, behind those so far: an array whose entries are shared where they are by reference. It
-- holds their cells until all are evaluated.
abbrev pub arguments : Properties → Site → ℕ → ℕ → List (Option Slot) → Entries → Script
arguments properties s i zero marks es = Look (λ st. Put (given_back es st) (Give (Fresh (Arr None i es))))
arguments properties s i (suc n) (Some taker ∷ marks) es =
    child_location i (λ l. cell_then properties s taker l (λ c. Look (λ st. Put (lending c st)
    (arguments properties s (suc i) n marks (behind es (IntKey (pos i)) i (Shared c))))))
arguments properties s i (suc n) (None ∷ marks) es =
    Run (Kid i Read) (kept_then (λ v. arguments properties s (suc i) n marks (behind es (IntKey (pos i)) i (Own v))))
arguments properties s i (suc n) [] es =
    Run (Kid i Read) (kept_then (λ v. arguments properties s (suc i) n [] (behind es (IntKey (pos i)) i (Own v))))

abbrev pub entries_then : (Entries → Script) → Out → Script
entries_then k (Fresh (Arr largest next es)) = k es
entries_then k (Jump w) = Give (Jump w)
entries_then k o = Stop NoRule

-- the body that ran is left
abbrev pub left : Store → Store
left s = elim s.waiting [ [] ↦ s | f ∷ fs ↦ record s { here = f; waiting = fs } ]

abbrev pub entered : Frame → Store → Store
entered f s = record s { here = f; waiting = s.here ∷ s.waiting }

-- a declaration runs in a frame of its own
abbrev pub in_frame : Frame → Declared → Mode → (Out → Script) → Script
in_frame f d m k = Look (λ s. Put (entered f s) (Run (There d m) (λ o. Look (λ u. Put (left u) (k o)))))

abbrev pub body_frame : Declared → Option ℕ → Option Bytes → Option Bytes → Entries → Frame
body_frame d this class copy es = record {
  body = Some d;
  variables = [];
  this = this;
  class = class;
  copy = copy;
  arguments = es;
  item = None;
}

-- a function, or a class's copy of a method, is called with these arguments
abbrev pub call_with : table.Declaration → Option ℕ → Option Bytes → Option Bytes → (Out → Script) → Entries → Script
call_with d this class copy k es = in_frame (body_frame d.at this class copy es) d.at Entered k

-- the words of some forms
abbrev pub all_words : List (NodeKind × Form) → List Bytes
all_words [] = []
all_words (k ∷ ks) = texts k.1 ++ all_words ks

-- whether it ends with a body: a method without one is abstract
abbrev pub has_body : Form → Bool
has_body [] = false
has_body (Child ∷ []) = true
has_body (Word k w ∷ []) = false
has_body (b ∷ c ∷ f) = has_body (c ∷ f)

-- whether calls of a function or method have a meaning: it has a body, returns no reference, and takes no list of arguments
abbrev pub may_be_called : table.Declaration → Bool
may_be_called d =
    has_body d.form && not (has_word (codes "&") (texts d.form)) && not (has_word (codes "...") (all_words d.kids))

-- The arguments of the child `i` are evaluated, and then a function or method is called. No call starts in a value that a
-- declaration writes down.
abbrev pub call : ℕ → table.Declaration → Option ℕ → Option Bytes → Option Bytes → (Out → Script) → Script
call i d this class copy k =
    Look (λ s. if is_some s.here.item || not (may_be_called d) then Stop Call else
    Run (Kid i (Given (takers d.at d.kids))) (entries_then (call_with d this class copy k)))

-- ---- bodies

abbrev pub has_type : Form → Bool
has_type f = has_word (codes ":") (texts f)

-- what a body came to, as the value of its call, or what comes where it has no `return`
abbrev pub returned : (Value → Script) → Script → Out → Script
returned k fallen (Jump (Return v)) = k v
returned k fallen (Jump (Throw n)) = Give (Jump (Throw n))
returned k fallen (Jump w) = Stop NoRule
returned k fallen o = fallen

-- A body without `return` comes to null. Where it has a type, only `void` takes that; any other one throws. (PHP manual,
-- "Type declarations": "Return only types"; RFC "Return types".)
abbrev pub without_return : Tables → Site → Form → Script
without_return t s f = elim (declaration_at t (declared_here s)) [
  | None ↦ Stop Declaration
  | Some d ↦ if not (has_type f) || is_void (result_words d.kids) then give Null else throws TypeError
]

-- a value that a type lets pass, as the child `i` says
abbrev pub checked : ℕ → Value → Script → Script
checked i v k = Run (Kid i (Against v)) (value_then (elim [ Truth true ↦ k | _ ↦ Stop Conversion ]))

-- The parameters in order, and then the body, the last child. What it returns was copied there, and moves from then on.
abbrev pub enter_body : Script → Form → ℕ → ℕ → Script
enter_body fallen f i zero =
    Run (Kid (kids f - 1) Read) (returned (λ v. if has_type f then checked i v (Give (Fresh v)) else Give (Fresh v)) fallen)
enter_body fallen f i (suc n) = Run (Kid i Entered) (value_then (λ v. enter_body fallen f (suc i) n))

abbrev pub body_script : Tables → Site → Form → Script
body_script t s f = enter_body (without_return t s f) f 0 (kids f - 1 - cond (has_type f) 1 0)

-- ---- parameters

-- a variable of the body with a value
abbrev pub with_local : Site → Bytes → Value → Store → Store
with_local s name v st =
    let slot = variable_slot s.body name in with_variable name (next_cell slot st) (with_cell slot v st)

abbrev pub has_default : Form → Bool
has_default f = has_word (codes "=") (texts f)

abbrev pub with_arguments : Entries → Store → Store
with_arguments es s = record s { here = record s.here { arguments = es } }

-- whether a type stands in front; a default of null makes it nullable, which only a run can tell
abbrev pub is_typed : Form → Bool
is_typed f = elim f [ Child ∷ g ↦ true | _ ↦ false ]

-- whether a name is that of the constant `null`
abbrev pub names_null : Value → Bool
names_null (Text t) = bytes_eq (str_to_ascii_lowercase (behind_backslash t)) (codes "null")
names_null v = false

-- null, which the type doesn't let pass: where the default is the constant `null` itself
abbrev pub if_null_default : Form → Script → Value → Script
if_null_default f k Null =
    if has_default f then Run (Kid (kids f - 1) Name) (value_then (λ n. cond (names_null n) k (Stop Conversion)))
    else Stop Conversion
if_null_default f k v = Stop Conversion

abbrev pub passed : Form → Value → Script → Script
passed f v k =
    if is_typed f then Run (Kid 0 (Against v)) (value_then (elim [ Truth true ↦ k | _ ↦ if_null_default f k v ])) else k

-- Whether a parameter that must be passed stands behind the one with this name. Such a default is none in 8.x. (UPGRADING
-- 8.0.)
abbrev pub is_before_required : Bool → Bytes → List (NodeKind × Form) → Bool
is_before_required is_behind name [] = false
is_before_required is_behind name ((kind.Param, f) ∷ ks) =
    (is_behind && not (has_default f) && not (has_word (codes "...") (texts f)))
    || is_before_required (is_behind || bytes_eq (variable_word (texts f)) name) name ks
is_before_required is_behind name (k ∷ ks) = is_before_required is_behind name ks

abbrev pub parameters_at : Tables → Option Declared → List (NodeKind × Form)
parameters_at t None = []
parameters_at t (Some d) = elim (declaration_at t d) [ None ↦ [] | Some e ↦ e.kids ]

-- the body's frame, in a value that a declaration writes down or not
abbrev pub with_item : Option ℕ → Store → Store
with_item i s = record s { here = record s.here { item = i } }

-- the default of a parameter, in which no call starts
abbrev pub default_then : Form → (Out → Script) → Script
default_then f k =
    Look (λ s. Put (with_item (Some 0) s) (Run (Kid (kids f - 1) Read) (λ o. Look (λ u. Put (with_item None u) (k o)))))

abbrev pub parameter : Tables → Site → Form → Store → Entries → Script
parameter t s f st (own k n v rest) =
    passed f v (Put (with_local s (variable_word (texts f)) v (with_arguments rest st)) (give Null))
parameter t s f st (shared k n c rest) =
    passed f (st.held c) (Put (with_variable (variable_word (texts f)) c (with_arguments rest st)) (give Null))
parameter t s f st none =
    if not (has_default f) then throws ArgumentCountError
    else (if is_before_required false (variable_word (texts f)) (parameters_at t s.body) then Stop Call
    else default_then f (kept_then (λ v. passed f v (Look (λ u. Put (with_local s (variable_word (texts f)) v u) (give Null))))))

-- ---- shared variables

-- the cell of a file's variable, made where there is none
abbrev pub file_variable : Bytes → (Cell → Script) → Script
file_variable name k = Look (λ s. elim (found s.globals name) [
  | Some c ↦ k c
  | None ↦
      let slot = variable_slot None name in
      let c = next_cell slot s in
      Put (record (with_cell slot Null s) { globals = (name, c) ∷ s.globals }) (k c)
])

abbrev pub global_all : ℕ → ℕ → Script
global_all i zero = give Null
global_all i (suc n) =
    Run (Kid i Name) (value_then (elim [
      | Text name ↦ file_variable name (λ c. Look (λ s. Put (with_variable name c s) (global_all (suc i) n)))
      | _ ↦ Stop NoRule
    ]))

-- Static variables: each is bound to its cell, which is made with its first value where there is none. A child class has a copy
-- of a method that it inherits, with static variables of its own in 7.4; in 8.3 they are the parent's. (UPGRADING 8.1.)
abbrev pub same_class : Option Bytes → Option Bytes → Bool
same_class None None = true
same_class (Some a) (Some b) = same_name a b
same_class a b = false

abbrev pub static_cell : List (Slot × Option Bytes × Cell) → Declared → Bytes → Option Bytes → Option Cell
static_cell [] d name class = None
static_cell ((StaticVariable e n, o, c) ∷ cs) d name class =
    if is_same_declared d e && bytes_eq n name && same_class o class then Some c else static_cell cs d name class
static_cell (c ∷ cs) d name class = static_cell cs d name class

abbrev pub static_owner : Site → Store → ByVersion (Option Bytes)
static_owner s st =
    if is_none s.body || same_class s.class st.here.copy then Alike s.class else Differs StaticsOfChild st.here.copy s.class

-- A static variable of a file's own code is outside where it is there: PHP makes new ones each time that the file is included.
abbrev pub unless_included : Site → Script → Script
unless_included s k = if is_none s.body then Stop Declaration else k

abbrev pub bind_static : Site → Bytes → ((Value → Script) → Script) → Script → Script
bind_static s name first k = Look (λ st. asking (static_owner s st) (λ class. elim (static_cell st.statics (declared_here s) name class) [
  | Some c ↦ unless_included s (Put (with_variable name c st) k)
  | None ↦ first (λ v. Look (λ u.
      let slot : Slot = StaticVariable (declared_here s) name in
      let c : Cell = next_cell slot u in
      Put (with_variable name c (record (with_cell slot v u) { statics = (slot, class, c) ∷ u.statics })) k))
]))

abbrev pub statics : Site → ℕ → Form → Script
statics s i [] = give Null
statics s i (Word _ w ∷ Word _ e ∷ Child ∷ f) =
    if bytes_eq e (codes "=")
    then bind_static s (plain_name w) (λ k. Run (Kid i Read) (kept_then k)) (statics s (suc i) f)
    else Stop NoRule
statics s i (Word _ w ∷ f) =
    if is_end w || is_keyword (codes "static") w then statics s i f
    else bind_static s (plain_name w) (λ k. k Null) (statics s i f)
statics s i (Child ∷ f) = Stop NoRule
