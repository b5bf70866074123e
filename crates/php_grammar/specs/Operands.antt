-- How expressions begin (PHP manual, "Expressions", "Variables", "Name resolution rules").
use Rattle.std.specs.Prelude.{Bool, true, false, not, cond, List, [], ◌∷◌, drop, Option, Some, None}
use Rattle.php_tree.specs.declared.kind.NodeKind.TheVariants as k
use Rattle.php_tree.specs.declared.token.Token.{Token}
use Rattle.php_tree.specs.declared.version.Version.{Version}
use Rattle.php_tree.specs.declared.version.Version.TheVariants.{V74, V83}
use Rattle.php_terminals.specs.declared.terminal.Terminal.{Terminal}
use Rattle.php_terminals.specs.declared.terminal.Terminal.TheVariants as t
use Rattle.php_forms.specs.declared.item.Sort.TheVariants as s
use Rattle.php_forms.specs.declared.item.Group.TheVariants as g
use Rattle.php_forms.specs.declared.item.Item.{Item}
use Rattle.php_forms.specs.declared.item.Item.TheVariants.{Word, Node, Part, Repeats}
use Rattle.php_terminals.specs.Ahead.{behind_name, first_of, is_called, past_group, second_of}
use Rattle.php_forms.specs.Atoms.{atom_form}
use Rattle.php_forms.specs.Forms.{any, or_else}
use Rattle.php_forms.specs.Grammar.{Form}
use Rattle.php_terminals.specs.Marks.{begins_place, ends_item, goes_on, is_assign, is_double_colon, is_name_part, is_variable_start}

-- a variable that begins with `$`
abbrev pub dollar_form : Terminal → Form
dollar_form t.OpenBrace = (k.Variable, Word t.Dollar ∷ Word t.OpenBrace ∷ any ∷ Word t.CloseBrace ∷ [])
dollar_form _ = (k.Variable, Word t.Dollar ∷ Node s.SimpleVariable ∷ [])

-- a class by a name, and the member that begins here
abbrev pub static_name_form : List Token → Form
static_name_form member =
    cond (is_called member) (k.StaticCall, Part g.Name ∷ Word t.DoubleColon ∷ Part g.Member ∷ Word t.OpenParen ∷ Node s.Args ∷ Word t.CloseParen ∷ [])
    (cond (is_variable_start (first_of member)) (k.StaticProp, Part g.Name ∷ Word t.DoubleColon ∷ Part g.StaticMember ∷ [])
    (k.ClassConstant, Part g.Name ∷ Word t.DoubleColon ∷ Word t.AnyWord ∷ []))

abbrev pub name_by : Terminal → List Token → Form
name_by t.OpenParen rest = (k.Call, Part g.CalledName ∷ Word t.OpenParen ∷ Node s.Args ∷ Word t.CloseParen ∷ [])
name_by t.DoubleColon rest = static_name_form (drop 1 rest)
name_by _ rest = (k.Constant, Part g.Name ∷ [])

-- what begins with a name, by what stands behind it
abbrev pub name_form : List Token → Form
name_form rest = name_by (first_of rest) rest

-- the class `static`, and the member that begins here
abbrev pub static_member_form : List Token → Form
static_member_form member =
    cond (is_called member) (k.StaticCall, Word t.Static ∷ Word t.DoubleColon ∷ Part g.Member ∷ Word t.OpenParen ∷ Node s.Args ∷ Word t.CloseParen ∷ [])
    (cond (is_variable_start (first_of member)) (k.StaticProp, Word t.Static ∷ Word t.DoubleColon ∷ Part g.StaticMember ∷ [])
    (k.ClassConstant, Word t.Static ∷ Word t.DoubleColon ∷ Word t.AnyWord ∷ []))

abbrev pub static_by : Terminal → List Token → Option Form
static_by t.Function ts = Some (
  k.Closure,
  Word t.Static ∷ Word t.Function ∷ Part g.ByRef ∷ Word t.OpenParen
      ∷ Part g.Params ∷ Word t.CloseParen ∷ Part g.ClosureUse ∷ Part g.ReturnType ∷ Node s.Block ∷ [],
)
static_by t.Fn ts = Some (
  k.Arrow,
  Word t.Static ∷ Word t.Fn ∷ Part g.ByRef ∷ Word t.OpenParen ∷ Part g.Params
      ∷ Word t.CloseParen ∷ Part g.ReturnType ∷ Word t.DoubleArrow ∷ any ∷ [],
)
static_by t.DoubleColon ts = Some (static_member_form (drop 2 ts))
static_by _ ts = None

-- an expression that begins with `static`
abbrev pub static_operand : List Token → Option Form
static_operand ts = static_by (second_of ts) ts

-- `[`, as a list form where a test holds, else as an array
abbrev pub bracket_form : Bool → Form
bracket_form true = (k.List, Word t.OpenBracket ∷ Part g.ListHead ∷ Repeats g.ListMore ∷ Word t.CloseBracket ∷ [])
bracket_form false = (k.Array, Word t.OpenBracket ∷ Part g.ArrayItems ∷ Word t.CloseBracket ∷ [])

-- `list` with its items
abbrev pub list_word_form : Form
list_word_form = (k.List, Word t.List ∷ Word t.OpenParen ∷ Part g.ListHead ∷ Repeats g.ListMore ∷ Word t.CloseParen ∷ [])

-- what begins with `array`
abbrev pub array_word_form : Terminal → Option Form
array_word_form t.OpenParen = Some (k.Array, Word t.Array ∷ Word t.OpenParen ∷ Part g.ArrayItems ∷ Word t.CloseParen ∷ [])
array_word_form _ = None

-- `(real)` and `(unset)`, in 7.4 alone
abbrev pub old_cast_form : Version → Option Form
old_cast_form V74 = Some (k.Cast, Word t.OldCast ∷ Node (s.Operand 3) ∷ [])
old_cast_form V83 = None

-- an expression that begins with a name
abbrev pub named_form : List Token → Option Form
named_form ts = cond (is_name_part (first_of ts)) (Some (name_form (behind_name ts))) None

abbrev pub operand_by : Version → Terminal → List Token → Option Form
operand_by v t.Dollar ts = Some (dollar_form (second_of ts))
operand_by v t.Static ts = static_operand ts
operand_by v t.OpenBracket ts = Some (bracket_form (is_assign (first_of (past_group 0 ts))))
operand_by v t.Array ts = array_word_form (second_of ts)
operand_by v t.List ts = Some list_word_form
operand_by v t.OldCast ts = old_cast_form v
operand_by v _ ts = None

-- the form of an expression that its first token doesn't settle
abbrev pub chosen_operand : Version → List Token → Option Form
chosen_operand v ts = operand_by v (first_of ts) ts

-- the form of the expression that begins here, before any operator behind it
abbrev pub operand_form : Version → List Token → Option Form
operand_form v ts = or_else (or_else (named_form ts) (atom_form (first_of ts))) (chosen_operand v ts)

-- the form of a variable expression
abbrev pub place_form : Version → List Token → Option Form
place_form v ts = cond (begins_place (first_of ts)) (operand_form v ts) None

abbrev pub target_by : Terminal → List Token → Option Form
target_by t.OpenBracket ts = Some (bracket_form (not (goes_on (first_of (past_group 0 ts)))))
target_by t.List ts = Some list_word_form
target_by _ ts = None

-- a list form, or an array that goes on
abbrev pub target_list_form : List Token → Option Form
target_list_form ts = target_by (first_of ts) ts

-- the form of what a foreach or a list form writes
abbrev pub target_form : Version → List Token → Option Form
target_form v ts = or_else (target_list_form ts) (place_form v ts)

abbrev pub entry_by : Terminal → List Token → Option Form
entry_by t.OpenBracket ts = Some (bracket_form (ends_item (first_of (past_group 0 ts))))
entry_by _ ts = None

-- a list form in a list form, or an array that begins a key
abbrev pub entry_list_form : List Token → Option Form
entry_list_form ts = entry_by (first_of ts) ts

-- the form of the first expression of an item of a list form
abbrev pub entry_form : Version → List Token → Option Form
entry_form v ts = or_else (entry_list_form ts) (operand_form v ts)

abbrev pub simple_variable_by : Terminal → List Token → Option Form
simple_variable_by t.Variable ts = Some (k.Variable, Word t.Variable ∷ [])
simple_variable_by t.Dollar ts = Some (dollar_form (second_of ts))
simple_variable_by _ ts = None

-- the form of a variable, `$` before a variable, or `${` with an expression
abbrev pub simple_variable_form : List Token → Option Form
simple_variable_form ts = simple_variable_by (first_of ts) ts

-- a static property of the class `static`
abbrev pub static_prop_form : Terminal → Option Form
static_prop_form t.Static = Some (k.StaticProp, Word t.Static ∷ Word t.DoubleColon ∷ Part g.StaticMember ∷ [])
static_prop_form _ = None

-- a static property of a class by a name
abbrev pub named_prop_form : Terminal → Option Form
named_prop_form here = cond (is_name_part here) (Some (k.StaticProp, Part g.Name ∷ Word t.DoubleColon ∷ Part g.StaticMember ∷ [])) None

-- the form of an expression that names a class without a call
abbrev pub class_ref_form : List Token → Option Form
class_ref_form ts = or_else (or_else (named_prop_form (first_of ts)) (static_prop_form (first_of ts))) (simple_variable_form ts)

-- what `new` makes, where an expression names the class
abbrev pub created_ref : List Item
created_ref = Node s.ClassRef ∷ Part g.CtorArgs ∷ []

abbrev pub created_by : Terminal → List Token → List Item
created_by t.Class ts = Word t.Class ∷ Part g.CtorArgs ∷ Part g.Extends ∷ Part g.Implements ∷ Word t.OpenBrace ∷ Repeats g.Members ∷ Word t.CloseBrace ∷ []
created_by t.Static ts = cond (is_double_colon (second_of ts)) created_ref (Word t.Static ∷ Part g.CtorArgs ∷ [])
created_by _ ts = created_ref

-- what `new` makes: a class by a name alone, an anonymous one, or one that an expression names
abbrev pub created : List Token → List Item
created ts =
    cond (is_name_part (first_of ts)) (cond (is_double_colon (first_of (behind_name ts))) created_ref (Part g.Name ∷ Part g.CtorArgs ∷ []))
    (created_by (first_of ts) ts)

-- the class behind `instanceof`, where an expression names it
abbrev pub instance_expr : List Item
instance_expr = Node s.ClassRef ∷ []

abbrev pub instance_by : Terminal → List Token → List Item
instance_by t.Static ts = cond (is_double_colon (second_of ts)) instance_expr (Word t.Static ∷ [])
instance_by _ ts = instance_expr

-- the class behind `instanceof`
abbrev pub instance_ref : List Token → List Item
instance_ref ts =
    cond (is_name_part (first_of ts)) (cond (is_double_colon (first_of (behind_name ts))) instance_expr (Part g.Name ∷ []))
    (instance_by (first_of ts) ts)

abbrev pub yield_by : Option Form → List Item
yield_by None = []
yield_by (Some f) = Node (s.Operand 20) ∷ Part g.YieldTo ∷ []

-- the value of a `yield`, where an expression begins
abbrev pub yield_value : Version → List Token → List Item
yield_value v ts = yield_by (operand_form v ts)
