-- How statements and members begin (PHP manual, "Control Structures", "Functions", "Classes and Objects", "Namespaces").
use Rattle.std.specs.Prelude.{ℕ, Bool, cond, List, [], ◌∷◌, length, drop, take_while, Option, Some, None}
use Rattle.php_tree.specs.declared.kind.NodeKind.TheVariants as k
use Rattle.php_tree.specs.declared.token.Token.{Token}
use Rattle.php_tree.specs.declared.version.Version.{Version}
use Rattle.php_tree.specs.declared.version.Version.TheVariants.{V74, V83}
use Rattle.php_terminals.specs.declared.terminal.Terminal.{Terminal}
use Rattle.php_terminals.specs.declared.terminal.Terminal.TheVariants as t
use Rattle.php_forms.specs.declared.item.Sort.TheVariants as s
use Rattle.php_forms.specs.declared.item.Group.TheVariants as g
use Rattle.php_forms.specs.declared.item.Item.{Item}
use Rattle.php_forms.specs.declared.item.Item.TheVariants.{Word, Node, Part, Repeats}
use Rattle.php_terminals.specs.Classify.{is_any_label, is_modifier, terminal}
use Rattle.php_terminals.specs.Ahead.{first_of, past_group, second_of, third_of}
use Rattle.php_forms.specs.Forms.{any, or_else}
use Rattle.php_forms.specs.Grammar.{Form}
use Rattle.php_forms.specs.Statements.{simple_form}

-- an expression as a statement
abbrev pub expression_form : Form
expression_form = (k.ExprStmt, any ∷ Word t.Semi ∷ [])

-- an `if`, by what stands behind its condition
abbrev pub if_form : Terminal → Form
if_form t.Colon = (
  k.IfAlt,
  Word t.If ∷ Word t.OpenParen ∷ any ∷ Word t.CloseParen ∷ Word t.Colon ∷ Repeats g.Statements
      ∷ Repeats g.AltElseIfs ∷ Part g.AltElse ∷ Word t.EndIf ∷ Word t.Semi ∷ [],
)
if_form _ = (k.If, Word t.If ∷ Word t.OpenParen ∷ any ∷ Word t.CloseParen ∷ Node s.Statement ∷ Repeats g.ElseIfs ∷ Part g.ElsePart ∷ [])

-- what begins with `static`
abbrev pub static_form : Terminal → Form
static_form t.Variable = (k.Statics, Word t.Static ∷ Word t.Variable ∷ Part g.FirstValue ∷ Repeats g.MoreVariables ∷ Word t.Semi ∷ [])
static_form _ = expression_form

-- the name that `function` is followed by, where it isn't marked or is
abbrev pub name_of_function : Terminal → Terminal → Terminal
name_of_function t.Ampersand third = third
name_of_function second third = second

-- what begins with `function`: a function where a name follows, else a closure
abbrev pub function_form : Terminal → Terminal → Form
function_form second third = cond (is_any_label (name_of_function second third)) (
  k.Function,
  Word t.Function ∷ Part g.ByRef ∷ Word t.FunctionLabel ∷ Word t.OpenParen ∷ Part g.Params
      ∷ Word t.CloseParen ∷ Part g.ReturnType ∷ Node s.Block ∷ [],
) expression_form

-- what begins with `namespace`
abbrev pub namespace_form : Terminal → Form
namespace_form t.Backslash = expression_form
namespace_form _ = (k.Namespace, Word t.Namespace ∷ Part g.NamespaceBody ∷ [])

-- what begins with a label
abbrev pub label_form : Terminal → Form
label_form t.Colon = (k.LabelStmt, Word t.FreeLabel ∷ Word t.Colon ∷ [])
label_form _ = expression_form

abbrev pub chosen_by : Terminal → List Token → Option Form
chosen_by t.If ts = Some (if_form (first_of (past_group 0 (drop 1 ts))))
chosen_by t.Static ts = Some (static_form (second_of ts))
chosen_by t.Function ts = Some (function_form (second_of ts) (third_of ts))
chosen_by t.Namespace ts = Some (namespace_form (second_of ts))
chosen_by t.Label ts = Some (label_form (second_of ts))
chosen_by t.Match ts = Some (label_form (second_of ts))
chosen_by t.Readonly ts = Some (label_form (second_of ts))
chosen_by t.MixedOrNever ts = Some (label_form (second_of ts))
chosen_by _ ts = None

-- the form of a statement that its first token doesn't settle
abbrev pub chosen_form : List Token → Option Form
chosen_form ts = chosen_by (first_of ts) ts

-- the form of the statement that begins here
abbrev pub statement_form : List Token → Option Form
statement_form ts = or_else (chosen_form ts) (Some (simple_form (first_of ts)))

-- the form of a case
abbrev pub case_form : Terminal → Option Form
case_form t.Case = Some (k.Case, Word t.Case ∷ any ∷ Part g.CaseMark ∷ Repeats g.Statements ∷ [])
case_form t.Default = Some (k.Case, Word t.Default ∷ Part g.CaseMark ∷ Repeats g.Statements ∷ [])
case_form _ = None

-- whether a token is a modifier
abbrev pub is_some_modifier : Token → Bool
is_some_modifier x = is_modifier (terminal x)

-- how many modifiers there are here
abbrev pub modifiers_len : List Token → ℕ
modifiers_len ts = length (take_while is_some_modifier ts)

-- the class of the token behind the modifiers
abbrev pub behind_modifiers : List Token → Terminal
behind_modifiers ts = first_of (drop (modifiers_len ts) ts)

-- a member with modifiers
abbrev pub modified_form : Terminal → Form
modified_form t.Function = (
  k.Method,
  Repeats g.Modifiers ∷ Word t.Function ∷ Part g.ByRef ∷ Word t.AnyWord
      ∷ Word t.OpenParen ∷ Part g.Params ∷ Word t.CloseParen ∷ Part g.ReturnType ∷ Part g.MethodBody ∷ [],
)
modified_form t.Const = (k.ClassConst, Repeats g.Modifiers ∷ Word t.Const ∷ Word t.ConstantWord ∷ Word t.Assign ∷ any ∷ Repeats g.MoreClassConsts ∷ Word t.Semi ∷ [])
modified_form _ = (k.Property, Word t.Modifier ∷ Repeats g.Modifiers ∷ Part g.PropertyType ∷ Word t.Variable ∷ Part g.FirstValue ∷ Repeats g.MoreVariables ∷ Word t.Semi ∷ [])

-- a use of traits
abbrev pub trait_use_form : Terminal → Option Form
trait_use_form t.Use = Some (k.TraitUse, Word t.Use ∷ Part g.Name ∷ Repeats g.MoreNames ∷ Part g.TraitRules ∷ [])
trait_use_form _ = None

-- the form of the member that begins here
abbrev pub member_form : List Token → Option Form
member_form ts = or_else (trait_use_form (first_of ts)) (Some (modified_form (behind_modifiers ts)))

abbrev pub attribute_83 : Terminal → List Item
attribute_83 t.AttributeOpen = Word t.AttributeOpen ∷ Word t.AttributeName ∷ Word t.CloseBracket ∷ []
attribute_83 _ = []

-- the attribute before a class: 8.3 alone has one
abbrev pub attribute : Version → Terminal → List Item
attribute V74 first = []
attribute V83 first = attribute_83 first
