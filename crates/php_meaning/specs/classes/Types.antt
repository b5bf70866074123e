-- Types of parameters, results and properties: a value of exactly that kind passes. (PHP manual, "Type declarations", "Typed
-- Properties". That any other value is outside is this project's own.)
use Rattle.std.specs.Prelude.{Bool, true, false, ◌||◌, if◌then◌else◌, List, [], ◌∷◌, codes, Option, Some, None}
use Rattle.std.specs.Str.{bytes_eq, str_to_ascii_lowercase}
use Rattle.php_tree.specs.declared.kind.NodeKind.{NodeKind}
use Rattle.php_tree.specs.declared.kind.NodeKind.TheVariants as kind
use Rattle.scope_names.specs.Slot.{Declared}
use Rattle.scope_names.specs.Form.{Form, texts}
use Rattle.scope_names.specs.Sites.{Site}
use Rattle.php_meaning.specs.values.Value.{Value, Null, Truth, Int, Text, Object, Arr}
use Rattle.php_meaning.specs.Cause.{Conversion}
use Rattle.php_meaning.specs.literals.Literals.{name_of}
use Rattle.php_meaning.specs.runs.World.{Bytes, Store}
use Rattle.php_meaning.specs.names.Tables.{Tables, declaration_at}
use Rattle.php_meaning.specs.names.Tables as table
use Rattle.php_meaning.specs.runs.Stores.{object_at}
use Rattle.php_meaning.specs.classes.Lines.{is_a, class_by}
use Rattle.php_meaning.specs.runs.Script.{Typing, Untyped, Typed, Script, Stop, Look, give}

-- whether a value is of a type: of exactly that kind, or null where the type is nullable
abbrev pub is_of : Tables → Store → Site → Bytes → Value → Bool
is_of t st s w (Int i) = bytes_eq (str_to_ascii_lowercase w) (codes "int")
is_of t st s w (Truth b) = bytes_eq (str_to_ascii_lowercase w) (codes "bool")
is_of t st s w (Text x) = bytes_eq (str_to_ascii_lowercase w) (codes "string")
is_of t st s w (Arr largest next es) = bytes_eq (str_to_ascii_lowercase w) (codes "array")
is_of t st s w Null = bytes_eq (str_to_ascii_lowercase w) (codes "void")
is_of t st s w (Object n) = is_a t st (object_at st.objects n).class (class_by s st w)

abbrev pub is_null : Value → Bool
is_null Null = true
is_null v = false

-- whether a value passes a type, by its words
abbrev pub passes : Tables → Store → Site → List Bytes → Value → Bool
passes t st s [] v = false
passes t st s (w ∷ ws) v =
    if bytes_eq w (codes "?") then is_null v || is_of t st s (name_of ws) v else is_of t st s (name_of (w ∷ ws)) v

abbrev pub type_against : Tables → Site → List Bytes → Value → Script
type_against t s ws v = Look (λ st. give (Truth (passes t st s ws v)))

-- ---- typed properties

-- the form of the type that a declaration writes down
abbrev pub type_form : List (NodeKind × Form) → Option Form
type_form [] = None
type_form ((kind.TypeName, f) ∷ ks) = Some f
type_form (k ∷ ks) = type_form ks

abbrev pub typing_of : table.Declaration → Typing
typing_of d = elim (type_form d.kids) [ Some f ↦ Typed d.at | None ↦ Untyped ]

-- a value of the type that a declaration writes down, and what then comes
abbrev pub of_form : Tables → Site → Option Form → Value → Script → Script
of_form t s None v k = k
of_form t s (Some f) v k = Look (λ st. if passes t st s (texts f) v then k else Stop Conversion)

abbrev pub of_type : Tables → Declared → Value → Script → Script
of_type t d v k = elim (declaration_at t d) [ None ↦ k | Some e ↦ of_form t e.site (type_form e.kids) v k ]
