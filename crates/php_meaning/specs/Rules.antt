-- What each kind of node does. A rule sees the program's tables, where its node stands, its kind, how it is evaluated, and
-- its form: its own tokens and where the child nodes are, and nothing of what stands in them. A kind without a rule has no
-- meaning.
use Rattle.std.specs.Prelude.{
  ℕ,
  zero,
  suc,
  Bool,
  true,
  false,
  not,
  ◌&&◌,
  ◌||◌,
  nat_eq,
  nat_le,
  cond,
  if◌then◌else◌,
  List,
  [],
  ◌∷◌,
  ◌++◌,
  codes,
  pos,
  ℤ,
  filter,
  is_some,
  Option,
  Some,
  None,
}
use Rattle.std.specs.Str.{bytes_eq, str_to_ascii_lowercase}
use Rattle.php_tree.specs.declared.kind.NodeKind.{NodeKind}
use Rattle.php_tree.specs.declared.kind.NodeKind.TheVariants as kind
use Rattle.scope_names.specs.Slot.{Declared}
use Rattle.php_meaning.specs.values.Value.{Value, Null, Truth, Int, Text, Object, Arr}
use Rattle.php_meaning.specs.values.Value as entries
use Rattle.php_meaning.specs.Cause.{NoRule, Declaration, Call, Error}
use Rattle.php_meaning.specs.Differences.{Differs, UndefinedConstant}
use Rattle.php_meaning.specs.values.Convert.{to_text, to_truth, to_int, to_array}
use Rattle.php_meaning.specs.values.Arithmetic.{incremented, decremented, joined}
use Rattle.php_meaning.specs.literals.Literals.{int_literal, constant_named, found, name_of, behind_backslash}
use Rattle.php_meaning.specs.literals.TextLiterals.{text_literal}
use Rattle.php_meaning.specs.values.Offsets.{Strict}
use Rattle.php_meaning.specs.values.Identical.{is_same_int}
use Rattle.php_meaning.specs.values.Offsets as offsets
use Rattle.php_meaning.specs.runs.World.{Bytes, Store}
use Rattle.scope_names.specs.Form.{Form, texts, kids, Word, Child}
use Rattle.scope_names.specs.Words.{has_word, has_keyword, is_end, before_word, is_keyword}
use Rattle.scope_names.specs.Sites.{Site, candidates}
use Rattle.scope_names.specs.Imports.{OfFunction}
use Rattle.php_meaning.specs.names.Tables.{Tables}
use Rattle.php_meaning.specs.names.Tables as table
use Rattle.php_meaning.specs.runs.Stores.{cells_of}
use Rattle.php_meaning.specs.runs.Paths.{path_from}
use Rattle.php_meaning.specs.runs.Script.{
  Return,
  Throw,
  Break,
  Continue,
  Out,
  Fresh,
  At,
  Jump,
  Mode,
  Read,
  Quiet,
  Write,
  Unset,
  Name,
  Later,
  Left,
  Behind,
  Against,
  Into,
  Given,
  Handed,
  Entered,
  Item,
  InProperty,
  File,
  Script,
  Give,
  Stop,
  Finish,
  Look,
  Put,
  Echo,
  Run,
  Kid,
  give,
  child_value,
  given,
  asking,
  comes,
  value_then,
  throws,
  Top,
  Unchanged,
  Early,
  Found,
  FoundQuietly,
  Placed,
  Location,
  stands,
}
use Rattle.php_meaning.specs.expressions.Operators.{operation, binary, of_values, signs, prefix}
use Rattle.php_meaning.specs.expressions.Assigning.{numbered, Properties, kept_then, unset}
use Rattle.php_meaning.specs.expressions.Expressions.{
  plain_name,
  in_variable,
  variable_value,
  read_offset,
  offset_location,
  with_array,
  item,
  array_literal,
  variable_quietly,
  assign,
  assign_reference,
  operator_of,
  stepped,
  isset,
  empty_test,
  coalesce,
  both,
  either,
  unset_all,
  one_alone,
  compound_by,
  variable_still,
  early_offset,
  early_property,
  found_offset,
  found_object,
  placed_offset,
}
use Rattle.php_meaning.specs.literals.Nowdocs.{is_blank}
use Rattle.php_meaning.specs.expressions.QuotedTexts.{quoted_text, is_filled}
use Rattle.php_meaning.specs.statements.Loops.{while_pass, do_pass, for_first, for_later, foreach, foreach_pass, foreach_behind, switch, case_against, case_statements}
use Rattle.php_meaning.specs.calls.Bodies.{
  function_named,
  declared_function,
  function_name,
  is_function,
  reach_function,
  call,
  arguments,
  body_script,
  parameter,
  global_all,
  statics,
  declare,
}
use Rattle.php_meaning.specs.classes.Lines.{is_early_class}
use Rattle.php_meaning.specs.classes.Declaring.{is_class_fit, is_compiled_file, is_bound_file, reach_class}
use Rattle.php_meaning.specs.classes.Types.{type_against}
use Rattle.php_meaning.specs.names.Refused.{levels}
use Rattle.php_meaning.specs.names.Reserved.{is_function_taken}
use Rattle.php_meaning.specs.values.Bits.{complement}
use Rattle.php_meaning.specs.classes.Properties.{property_value, property_quietly, member_word, properties_at, unset_property}
use Rattle.php_meaning.specs.classes.Making.{new_object}
use Rattle.php_meaning.specs.classes.Methods.{method_call, static_call}
use Rattle.php_meaning.specs.classes.Statics.{class_constant, instance_of, static_value, static_quietly, static_location}
use Rattle.php_meaning.specs.classes.Exceptions.{throw_value, try_script}
use Rattle.php_meaning.specs.names.Constants.{constant_value, define_all}
use Rattle.php_meaning.specs.builtins.Calls.{handed, builtin_named, call_builtin}

-- the text of a node's first token of its own
abbrev pub first_text : List (List ℕ) → List ℕ
first_text [] = []
first_text (t ∷ ts) = t

-- ---- statements

-- the children one after another, as statements
abbrev pub run_all : ℕ → ℕ → Script
run_all i zero = give Null
run_all i (suc n) = Run (Kid i Read) (value_then (λ v. run_all (suc i) n))

-- the same of the statements of a file or of a namespace itself, where alone constants, uses and namespaces stand
abbrev pub run_top : ℕ → ℕ → Script
run_top i zero = give Null
run_top i (suc n) = Run (Kid i Top) (value_then (λ v. run_top (suc i) n))

-- the children one after another, each echoed (PHP manual, "echo")
abbrev pub echo_all : ℕ → ℕ → Script
echo_all i zero = give Null
echo_all i (suc n) = child_value i (λ v. given (to_text v) (λ bytes. Echo bytes (echo_all (suc i) n)))

-- an expression whose value is dropped
abbrev pub drop_value : Script
drop_value = child_value 0 (λ v. give Null)

-- conditions with a statement each, and maybe a last statement
abbrev pub choices : ℕ → ℕ → Script
choices i zero = give Null
choices i (suc zero) = Run (Kid i Read) Give
choices i (suc (suc n)) = child_value i (λ v. cond (to_truth v) (Run (Kid (suc i) Read) Give) (choices (suc (suc i)) n))

-- the statements up to the next word, one after another
abbrev pub statements : ℕ → Form → Script
statements i (Child ∷ f) = Run (Kid i Read) (value_then (λ v. statements (suc i) f))
statements i f = give Null

-- the statements behind a colon
abbrev pub behind_colon : ℕ → Form → Script
behind_colon i (Word k w ∷ f) = if bytes_eq w (codes ":") then statements i f else behind_colon i f
behind_colon i f = Stop NoRule

-- An `if` with colons, where the next child is a condition, or a statement that isn't chosen: the statements behind the first
-- condition that is true, or else behind `else`. (PHP manual, "Alternative syntax for control structures".)
abbrev pub alternatives : Bool → ℕ → Form → Script
alternatives is_condition i [] = give Null
alternatives true i (Child ∷ f) =
    child_value i (λ v. cond (to_truth v) (behind_colon (suc i) f) (alternatives false (suc i) f))
alternatives false i (Child ∷ f) = alternatives false (suc i) f
alternatives is_condition i (Word k w ∷ f) =
    if is_keyword (codes "else") w then behind_colon i f
    else alternatives (is_condition || is_keyword (codes "elseif") w) i f

-- whether directives are those that say how strict types are, and nothing else: what this meaning lets pass is of exactly
-- the type that is asked for (PHP manual, "declare"; others are outside)
abbrev pub are_strictness : List Bytes → Bool
are_strictness [] = true
are_strictness (w ∷ ws) =
    (is_keyword (codes "declare") w || is_keyword (codes "strict_types") w || bytes_eq w (codes "(") || bytes_eq w (codes "=")
    || bytes_eq w (codes ")")) && are_strictness ws

-- the file's types are strict, or not
abbrev pub with_strictness : Site → Script → Value → Script
with_strictness s k (Int i) =
    if is_same_int i (pos 1) then Look (λ st. Put (record st { strict = s.file ∷ st.strict }) k)
    else (if is_same_int i (pos 0) then k else Stop NoRule)
with_strictness s k v = Stop NoRule

-- a `declare` with one directive and the statement behind it
abbrev pub declared : Site → List Bytes → ℕ → Script
declared s ws (suc (suc zero)) = cond (are_strictness ws) (child_value 0 (with_strictness s (Run (Kid 1 Read) Give))) (Stop NoRule)
declared s ws n = Stop NoRule

abbrev pub return : ℕ → Script
return zero = Give (Jump (Return Null))
return (suc n) = Run (Kid 0 Read) (kept_then (λ v. Give (Jump (Return v))))

-- ---- constants

abbrev pub or_nothing : Option Bytes → Bytes
or_nothing None = []
or_nothing (Some b) = b

-- The constants that are known from their place. `__DIR__` stands for the folder of the file, from which includes go on: `.`
-- there.
abbrev pub constant_of_place : Site → Bytes → Option Value
constant_of_place s name =
    if bytes_eq name (codes "__dir__") then Some (Text (codes "."))
    else (if bytes_eq name (codes "__class__") then Some (Text (or_nothing s.class))
    else (if bytes_eq name (codes "__namespace__") then Some (Text s.space) else None))

-- the others that are known from their place have no meaning here (PHP manual, "Magic constants")
abbrev pub is_other_magic : Bytes → Bool
is_other_magic name =
    bytes_eq name (codes "__line__") || bytes_eq name (codes "__file__") || bytes_eq name (codes "__function__")
    || bytes_eq name (codes "__method__") || bytes_eq name (codes "__trait__")

abbrev pub other_constant : Tables → Site → Bytes → Script
other_constant t s name = elim (constant_of_place s (str_to_ascii_lowercase name)) [
  | Some v ↦ give v
  | None ↦ if is_other_magic (str_to_ascii_lowercase name) then Stop NoRule else constant_value t s name
]

-- the value of a constant
abbrev pub constant : Tables → Site → Bytes → Option Value → Script
constant t s name (Some v) = give v
constant t s name None = other_constant t s name

-- ---- expressions

-- the second child or the third one, by the truth of the first (PHP manual, "Ternary Operator")
abbrev pub ternary : ℕ → Script
ternary (suc (suc (suc zero))) = child_value 0 (λ v. cond (to_truth v) (Run (Kid 1 Read) Give) (Run (Kid 2 Read) Give))
ternary n = Stop NoRule

-- the first child's value where it is true, or else the second child (PHP manual, "Ternary Operator")
abbrev pub short_ternary : Script
short_ternary = child_value 0 (λ v. cond (to_truth v) (give v) (Run (Kid 1 Read) Give))

-- the operators on truths, and `??`
abbrev pub choosing : List (Bytes × Script)
choosing =
    (codes "&&", both) ∷ (codes "and", both) ∷ (codes "||", either) ∷ (codes "or", either) ∷ (codes "xor", one_alone)
    ∷ (codes "??", coalesce) ∷ []

abbrev pub other_binary : Bytes → Option Script → Script
other_binary op (Some s) = s
other_binary op None = Look (λ st. binary (operation (cells_of st) st.serials op))

abbrev pub operate : Bytes → Script
operate op = cond (bytes_eq (codes ".") op) (binary (Some (of_values joined))) (other_binary op (found choosing (str_to_ascii_lowercase op)))

abbrev pub negated : Script
negated = child_value 0 (λ v. give (Truth (not (to_truth v))))

abbrev pub one_operand : Properties → Site → Bytes → Script
one_operand properties s op =
    if bytes_eq op (codes "!") then negated
    else (if bytes_eq op (codes "@") then child_value 0 give
    else (if bytes_eq op (codes "~") then child_value 0 (λ v. given (complement v) give)
    else (if bytes_eq op (codes "++") then stepped properties s true incremented
    else (if bytes_eq op (codes "--") then stepped properties s true decremented
    else prefix (found signs op)))))

abbrev pub behind_operand : Properties → Site → Bytes → Script
behind_operand properties s op =
    if bytes_eq op (codes "++") then stepped properties s false incremented else stepped properties s false decremented

-- the word of a cast
abbrev pub cast_word : Bytes → Bytes
cast_word t = str_to_ascii_lowercase (filter (λ b. not (is_blank b)) t)

abbrev pub cast_to_int : Value → Script
cast_to_int v = given (to_int v) (λ i. give (Int i))

abbrev pub cast_to_truth : Value → Script
cast_to_truth v = give (Truth (to_truth v))

abbrev pub cast_to_text : Value → Script
cast_to_text v = given (to_text v) (λ t. give (Text t))

abbrev pub cast_to_array : Value → Script
cast_to_array v = Look (λ s. given (to_array s.serials v) (λ a. Put (numbered 1 s) (give a)))

-- the casts that have a rule; before another one nothing is evaluated
abbrev pub casts : List (Bytes × (Value → Script))
casts =
    (codes "(int)", cast_to_int) ∷ (codes "(integer)", cast_to_int)
    ∷ (codes "(bool)", cast_to_truth) ∷ (codes "(boolean)", cast_to_truth)
    ∷ (codes "(string)", cast_to_text) ∷ (codes "(array)", cast_to_array)
    ∷ (codes "(unset)", λ v. give Null) ∷ []

abbrev pub cast : Option (Value → Script) → Script
cast None = Stop NoRule
cast (Some k) = child_value 0 k

-- a cast that gave a value
abbrev pub cast_again : Option (Value → Script) → Script
cast_again None = Stop NoRule
cast_again (Some k) = Give stands

abbrev pub exit_with : Value → Script
exit_with (Int i) = Finish i
exit_with (Text t) = Echo t (Finish (pos 0))
exit_with v = Stop NoRule

abbrev pub exit : ℕ → Script
exit zero = Finish (pos 0)
exit (suc n) = child_value 0 exit_with

-- ---- calls of functions

abbrev pub call_named : Tables → Site → List Bytes → Script
call_named t s names = Look (λ st. elim (function_named t st.declared names) [
  | Some d ↦ call 0 d None None None Give
  | None ↦ if is_some st.here.item then Stop Call else call_builtin s 0 names (builtin_named names)
])

abbrev pub function_call : Tables → Site → Form → Script
function_call t s f = elim (before_word (codes "(") (texts f)) [
  | [] ↦ Stop NoRule
  | w ∷ ws ↦ call_named t s (candidates s OfFunction (name_of (w ∷ ws)))
]

-- ---- includes

abbrev pub included : Out → Script
included (Jump (Return v)) = Give (Fresh v)
included (Jump (Throw n)) = Give (Jump (Throw n))
included (Jump w) = Stop NoRule
included o = give (Int (pos 1))

abbrev pub is_started : List Bytes → Bytes → Bool
is_started [] path = false
is_started (p ∷ ps) path = bytes_eq p path || is_started ps path

abbrev pub is_once : Bytes → Bool
is_once w = bytes_eq (str_to_ascii_lowercase w) (codes "include_once") || bytes_eq (str_to_ascii_lowercase w) (codes "require_once")

abbrev pub include_path : Bytes → Bytes → Script
include_path w path = Look (λ st.
    if is_once w && is_started st.started path then give (Truth true) else Run (File path) included)

-- None starts in a value that a declaration writes down. In a method it is outside, since the code of the file would be code of
-- the method's class. (PHP manual, "include".)
abbrev pub include : Site → Bytes → Script
include s w = Look (λ st.
    if is_some st.here.item || is_some s.class then Stop Call
    else child_value 0 (λ v. given (to_text v) (λ t.
    elim (path_from s.file t) [ None ↦ Stop NoRule | Some path ↦ include_path w path ])))

-- ---- files

-- whether a declaration takes place when its file starts: an unconditional function, or a class without a parent and
-- without interfaces
abbrev pub is_early : table.Declaration → Bool
is_early d = (d.is_top && is_function d.kind) || is_early_class d

-- whether it can't take place: it is there already, or PHP refuses it
abbrev pub is_unfit : Tables → Store → table.Declaration → Bool
is_unfit t st d =
    if is_function d.kind then is_some (declared_function t st.declared (function_name d)) || is_function_taken (function_name d)
    else not (is_class_fit t st d)

-- the declarations of a file that take place when it starts, and then its statements
abbrev pub declare_early : Tables → Bytes → Tables → Script → Script
declare_early t path [] k = k
declare_early t path (d ∷ ds) k =
    if is_early d && bytes_eq d.at.file path
    then Look (λ s. if is_unfit t s d then Stop Declaration else declare d.at (declare_early t path ds k))
    else declare_early t path ds k

-- A file that PHP doesn't compile is outside from its start.
abbrev pub file_script : Tables → Bytes → ℕ → Script
file_script t path n =
    if is_compiled_file t path t
    then Look (λ s. if is_bound_file t s path then declare_early t path t (run_top 0 n) else Stop Declaration)
    else Stop Declaration

-- ---- rules

-- evaluated for its value
abbrev pub reading : Tables → Site → NodeKind → Form → Script
reading t s kind.Block f = run_all 0 (kids f)
reading t s kind.Empty f = give Null
reading t s kind.Html f = Echo (first_text (texts f)) (give Null)
reading t s kind.ExprStmt f = drop_value
reading t s kind.Echo f = echo_all 0 (kids f)
reading t s kind.Return f = return (kids f)
reading t s kind.If f = choices 0 (kids f)
reading t s kind.IfAlt f = alternatives true 0 f
reading t s kind.While f = while_pass f
reading t s kind.DoWhile f = do_pass
reading t s kind.For f = for_first f
reading t s kind.Foreach f = foreach (properties_at t s) s f
reading t s kind.Switch f = switch (kids f)
reading t s kind.Case f = case_statements f
reading t s kind.Break f = Give (Jump (Break (levels (texts f))))
reading t s kind.Continue f = Give (Jump (Continue (levels (texts f))))
reading t s kind.Global f = global_all 0 (kids f)
reading t s kind.Statics f = statics s 0 f
reading t s kind.Unset f = unset_all 0 (kids f)
reading t s kind.Throw f = throw_value t
reading t s kind.Try f = try_script t s f
reading t s kind.Function f = reach_function t s
reading t s kind.Class f = reach_class t s
reading t s kind.Interface f = reach_class t s
reading t s kind.Variable f = cond (nat_eq (kids f) 0) (variable_value (plain_name (first_text (texts f)))) (Stop NoRule)
reading t s kind.Number f = give (Int (int_literal (first_text (texts f))))
reading t s kind.Text f = given (text_literal (first_text (texts f))) (λ bytes. give (Text bytes))
reading t s kind.Quoted f = quoted_text f
reading t s kind.Constant f = constant t s (name_of (texts f)) (constant_named (texts f))
reading t s kind.ClassConstant f = class_constant t s f
reading t s kind.StaticProp f = static_value t s f
reading t s kind.InstanceOf f = instance_of t s f
reading t s kind.Array f = array_literal (kids f)
reading t s kind.Offset f = read_offset Found Strict f
reading t s kind.BraceOffset f = read_offset Found Strict f
reading t s kind.Prop f = child_value 0 (λ v. property_value t s v (member_word 1 f))
reading t s kind.Call f = function_call t s f
reading t s kind.MethodCall f = method_call t s f
reading t s kind.StaticCall f = static_call t s f
reading t s kind.New f = new_object t s f
reading t s kind.Isset f = isset 0 (kids f)
reading t s kind.EmptyTest f = empty_test
reading t s kind.Exit f = exit (kids f)
reading t s kind.Include f = include s (first_text (texts f))
reading t s kind.Binary f = operate (first_text (texts f))
reading t s kind.Prefix f = one_operand (properties_at t s) s (first_text (texts f))
reading t s kind.Postfix f = behind_operand (properties_at t s) s (first_text (texts f))
reading t s kind.Cast f = cast (found casts (cast_word (first_text (texts f))))
reading t s kind.Ternary f = ternary (kids f)
reading t s kind.ShortTernary f = short_ternary
reading t s kind.Assign f = assign (properties_at t s) s
reading t s kind.AssignRef f = assign_reference (properties_at t s) s
reading t s kind.CompoundAssign f = compound_by (properties_at t s) s (operator_of (first_text (texts f)))
reading t s kind.Print f = child_value 0 (λ v. given (to_text v) (λ bytes. Echo bytes (give (Int (pos 1)))))
reading t s k f = Stop NoRule

-- evaluated for its value where nothing is said of what isn't there
abbrev pub reading_quietly : Tables → Site → NodeKind → Form → Script
reading_quietly t s kind.Variable f =
    cond (nat_eq (kids f) 0) (variable_quietly (plain_name (first_text (texts f)))) (Stop NoRule)
reading_quietly t s kind.Offset f = read_offset FoundQuietly offsets.Quiet f
reading_quietly t s kind.BraceOffset f = read_offset FoundQuietly offsets.Quiet f
reading_quietly t s kind.Prop f = Run (Kid 0 Quiet) (value_then (λ v. property_quietly t s v (member_word 1 f) give))
reading_quietly t s kind.StaticProp f = static_quietly t s f
reading_quietly t s k f = reading t s k f

-- as a location
abbrev pub locating : Tables → Site → NodeKind → Form → Script
locating t s kind.Variable f =
    cond (nat_eq (kids f) 0 && not (is_filled (plain_name (first_text (texts f))))) (Give (At (in_variable (plain_name (first_text (texts f)))))) (Stop NoRule)
locating t s kind.Offset f = offset_location f (λ l. Give (At l))
locating t s kind.BraceOffset f = offset_location f (λ l. Give (At l))
locating t s kind.Prop f = child_value 0 (λ v. Give (At (record { root = InProperty v (member_word 1 f); offsets = [] })))
locating t s kind.StaticProp f = static_location t s f
locating t s k f = Stop NoRule

-- in all the other modes
abbrev pub running : Tables → Site → NodeKind → Mode → Form → Script
running t s kind.Variable Name f = cond (nat_eq (kids f) 0 && not (is_filled (plain_name (first_text (texts f))))) (give (Text (plain_name (first_text (texts f))))) (Stop NoRule)
running t s kind.Variable Unset f = cond (is_filled (plain_name (first_text (texts f)))) (Stop NoRule)
    (unset (properties_at t s) s (in_variable (plain_name (first_text (texts f)))) (give Null))
running t s kind.Constant Name f = give (Text (name_of (texts f)))
running t s kind.Prop Unset f = child_value 0 (λ v. unset_property t s v (member_word 1 f))
running t s kind.Offset Unset f = offset_location f (λ l. unset (properties_at t s) s l (give Null))
running t s kind.BraceOffset Unset f = offset_location f (λ l. unset (properties_at t s) s l (give Null))
running t s kind.While Later f = while_pass f
running t s kind.DoWhile Later f = do_pass
running t s kind.For Later f = for_later f
running t s kind.Foreach (Left es) f = foreach_pass (properties_at t s) s f es
running t s kind.Foreach (Behind c met) f = Look (λ st. foreach_behind (properties_at t s) s f c met (st.held c))
running t s kind.Case (Against v) f = case_against f v
running t s kind.TypeName (Against v) f = type_against t s (texts f) v
running t s kind.Item (Into a) f = with_array a (item (properties_at t s) s f)
running t s kind.Args (Given marks) f = cond (has_word (codes "...") (texts f)) (Stop NoRule) (arguments (properties_at t s) s 0 (kids f) marks entries.none)
running t s kind.Args Handed f = cond (has_word (codes "...") (texts f)) (Stop NoRule) (handed 0 (kids f) entries.none (λ k. k))
running t s kind.Function Entered f = body_script t s f
running t s kind.Method Entered f = body_script t s f
running t s kind.Param Entered f = Look (λ st. parameter t s f st st.here.arguments)
running t s kind.Property (Item i) f = Run (Kid i Read) Give
running t s kind.ClassConst (Item i) f = Run (Kid i Read) Give
running t s k m f = Stop NoRule

-- a statement of a file or of a namespace itself
abbrev pub at_top : Tables → Site → NodeKind → Form → Script
at_top t s kind.Const f = define_all s 0 (texts f)
at_top t s kind.Namespace f = run_top 0 (kids f)
at_top t s kind.Use f = give Null
at_top t s kind.Declare f = declared s (texts f) (kids f)
at_top t s k f = reading t s k f

-- What gave a value before. A plain variable has to hold it still, and what has no rule has none here either.
abbrev pub held_again : NodeKind → Value → Form → Script
held_again kind.Variable v f = cond (nat_eq (kids f) 0) (variable_still (plain_name (first_text (texts f))) v) (Stop NoRule)
held_again kind.Cast v f = cast_again (found casts (cast_word (first_text (texts f))))
held_again kind.Float v f = Stop NoRule
held_again kind.List v f = Stop NoRule
held_again kind.Closure v f = Stop NoRule
held_again kind.Arrow v f = Stop NoRule
held_again kind.EvalTest v f = Stop NoRule
held_again kind.Yield v f = Stop NoRule
held_again k v f = Give stands

-- as a base or a target: variables, offsets and properties are found later, and anything else is evaluated
abbrev pub evaluating_early : Tables → Site → NodeKind → Form → Script
evaluating_early t s kind.Variable f = cond (nat_eq (kids f) 0) (Give (At (in_variable (plain_name (first_text (texts f)))))) (Stop NoRule)
evaluating_early t s kind.StaticProp f = Give (At (in_variable []))
evaluating_early t s kind.Offset f = early_offset f
evaluating_early t s kind.BraceOffset f = early_offset f
evaluating_early t s kind.Prop f = early_property
evaluating_early t s k f = reading t s k f

-- found then: for its value
abbrev pub finding : Tables → Site → NodeKind → Location → Form → Script
finding t s kind.Variable l f = reading t s kind.Variable f
finding t s kind.StaticProp l f = reading t s kind.StaticProp f
finding t s kind.Offset l f = found_offset Found Strict l
finding t s kind.BraceOffset l f = found_offset Found Strict l
finding t s kind.Prop l f = found_object Found l (λ v. property_value t s v (member_word 1 f))
finding t s k l f = Stop NoRule

-- for its value where nothing is said of what isn't there
abbrev pub finding_quietly : Tables → Site → NodeKind → Location → Form → Script
finding_quietly t s kind.Variable l f = reading_quietly t s kind.Variable f
finding_quietly t s kind.StaticProp l f = reading_quietly t s kind.StaticProp f
finding_quietly t s kind.Offset l f = found_offset FoundQuietly offsets.Quiet l
finding_quietly t s kind.BraceOffset l f = found_offset FoundQuietly offsets.Quiet l
finding_quietly t s kind.Prop l f = found_object FoundQuietly l (λ v. property_quietly t s v (member_word 1 f) give)
finding_quietly t s k l f = Stop NoRule

-- as location
abbrev pub placing : Tables → Site → NodeKind → Location → Form → Script
placing t s kind.Variable l f = locating t s kind.Variable f
placing t s kind.StaticProp l f = locating t s kind.StaticProp f
placing t s kind.Offset l f = placed_offset l
placing t s kind.BraceOffset l f = placed_offset l
placing t s kind.Prop l f = found_object Found l (λ v. Give (At (record { root = InProperty v (member_word 1 f); offsets = [] })))
placing t s k l f = Stop NoRule

-- Parentheses are what stands in them, however they are evaluated.
abbrev pub rule : Tables → Site → NodeKind → Mode → Form → Script
rule t s kind.Paren m f = Run (Kid 0 m) Give
rule t s k Read f = reading t s k f
rule t s k Top f = at_top t s k f
rule t s k (Unchanged v) f = held_again k v f
rule t s k Early f = evaluating_early t s k f
rule t s k (Found l) f = finding t s k l f
rule t s k (FoundQuietly l) f = finding_quietly t s k l f
rule t s k (Placed l) f = placing t s k l f
rule t s k Quiet f = reading_quietly t s k f
rule t s k Write f = locating t s k f
rule t s k m f = running t s k m f
