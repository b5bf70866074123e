-- How expressions go on (PHP manual, "Operator Precedence", "Ternary Operator", "Assignment Operators"; the RFCs
-- "Deprecate left-associative ternary operator" and "Deprecate curly brace syntax for accessing array elements").
use Rattle.std.specs.Prelude.{ℕ, Bool, not, cond, ◌&&◌, ◌||◌, nat_le, nat_lt, List, [], ◌∷◌, drop, Option, Some, None}
use Rattle.php_tree.specs.declared.kind.NodeKind.{NodeKind}
use Rattle.php_tree.specs.declared.kind.NodeKind.TheVariants as k
use Rattle.php_tree.specs.declared.token.Token.{Token}
use Rattle.php_tree.specs.declared.version.Version.{Version}
use Rattle.php_tree.specs.declared.version.Version.TheVariants.{V74, V83}
use Rattle.php_tree.specs.Tree.{Tree}
use Rattle.php_terminals.specs.declared.terminal.Terminal.{Terminal}
use Rattle.php_terminals.specs.declared.terminal.Terminal.TheVariants as t
use Rattle.php_forms.specs.declared.item.Sort.TheVariants as s
use Rattle.php_forms.specs.declared.item.Group.TheVariants as g
use Rattle.php_forms.specs.declared.item.Item.TheVariants.{Word, Node, Part}
use Rattle.php_terminals.specs.Ahead.{first_of, is_called, second_of}
use Rattle.php_grammar.specs.Bases.{is_callee, is_class_base, is_list, is_member_base, is_offset_base, is_short_ternary, is_target, is_variable, is_variable_expression}
use Rattle.php_grammar.specs.Edges.{edge}
use Rattle.php_forms.specs.Forms.{any, or_else, refused, when}
use Rattle.php_forms.specs.Grammar.{Form}
use Rattle.php_terminals.specs.Indents.{is_misindented}
use Rattle.php_grammar.specs.Levels.{binary_items, binary_level, left_limit}
use Rattle.php_terminals.specs.Marks.{is_double_arrow, is_variable_start}

-- an offset
abbrev pub offset_form : Form
offset_form = (k.Offset, Word t.OpenBracket ∷ Part g.OffsetKey ∷ Word t.CloseBracket ∷ [])

-- a brace behind an expression is an offset in 7.4 alone
abbrev pub brace_tail : Version → NodeKind → Option Form
brace_tail V74 kind = when (is_offset_base kind) (k.BraceOffset, Word t.OpenBrace ∷ any ∷ Word t.CloseBrace ∷ [])
brace_tail V83 kind = None

-- a property
abbrev pub prop_form : Form
prop_form = (k.Prop, Word t.Arrow ∷ Part g.Member ∷ [])

-- `->` and the member that begins here
abbrev pub member_tail : List Token → Form
member_tail member = cond (is_called member) (k.MethodCall, Word t.Arrow ∷ Part g.Member ∷ Word t.OpenParen ∷ Node s.Args ∷ Word t.CloseParen ∷ []) prop_form

-- a static property
abbrev pub static_prop_form : Form
static_prop_form = (k.StaticProp, Word t.DoubleColon ∷ Part g.StaticMember ∷ [])

-- `::` and the member that begins here
abbrev pub static_tail : List Token → Form
static_tail member =
    cond (is_called member) (k.StaticCall, Word t.DoubleColon ∷ Part g.Member ∷ Word t.OpenParen ∷ Node s.Args ∷ Word t.CloseParen ∷ [])
    (cond (is_variable_start (first_of member)) static_prop_form (k.ClassConstant, Word t.DoubleColon ∷ Word t.AnyWord ∷ []))

abbrev pub postfix_by : Version → NodeKind → Terminal → List Token → Option Form
postfix_by v kind t.OpenBracket ts = when (is_offset_base kind) offset_form
postfix_by v kind t.OpenBrace ts = brace_tail v kind
postfix_by v kind t.Arrow ts = when (is_member_base kind) (member_tail (drop 1 ts))
postfix_by v kind t.DoubleColon ts = when (is_class_base kind) (static_tail (drop 1 ts))
postfix_by v kind t.OpenParen ts = when (is_callee kind) (k.Call, Word t.OpenParen ∷ Node s.Args ∷ Word t.CloseParen ∷ [])
postfix_by v kind _ ts = None

-- an offset, a member or arguments behind a node
abbrev pub postfix_tail : Version → NodeKind → List Token → Option Form
postfix_tail v kind ts = postfix_by v kind (first_of ts) ts

-- `=` behind a node, whatever operators stand before it: only what may be written is assigned to, and a list form not
-- by reference
abbrev pub assign_tail : NodeKind → Terminal → Option Form
assign_tail kind t.Ampersand = when (is_target kind) (k.AssignRef, Word t.Assign ∷ Word t.Ampersand ∷ Node (s.Operand 19) ∷ [])
assign_tail kind _ = when (is_target kind || is_list kind) (k.Assign, Word t.Assign ∷ Node (s.Operand 19) ∷ [])

-- whether a ternary may stand behind an operand of an edge: in 7.4 it groups to the left, in 8.3 none is the left part of
-- another
abbrev pub left_fits : Version → ℕ → Bool
left_fits V74 left = nat_le left 18
left_fits V83 left = nat_le left 17

-- the same of a `?:`, which in 8.3 may stand behind another
abbrev pub short_left_fits : Version → ℕ → NodeKind → Bool
short_left_fits v left kind = left_fits v left || nat_le left 18 && is_short_ternary kind

-- `?` behind an operand; the middle part is any expression
abbrev pub ternary_tail : Version → ℕ → ℕ → NodeKind → Terminal → Option Form
ternary_tail v limit left kind t.Colon = when (nat_le 18 limit && short_left_fits v left kind) (k.ShortTernary, Word t.Question ∷ Word t.Colon ∷ Node (s.Operand 17) ∷ [])
ternary_tail v limit left kind _ = when (nat_le 18 limit && left_fits v left) (k.Ternary, Word t.Question ∷ any ∷ Word t.Colon ∷ Node (s.Operand 17) ∷ [])

-- an operator between two operands: its level may stand here, and the left operand's edge is tight enough
abbrev pub binary_tail : Version → ℕ → ℕ → Terminal → Option Form
binary_tail v limit left operator =
    when (nat_lt 0 (binary_level v operator) && nat_le (binary_level v operator) limit && nat_le left (left_limit v operator))
    (k.Binary, binary_items v operator)

abbrev pub operator_by : Version → ℕ → ℕ → NodeKind → Terminal → List Token → Option Form
operator_by v limit left kind t.Assign ts = assign_tail kind (second_of ts)
operator_by v limit left kind t.CompoundAssign ts = when (is_target kind) (k.CompoundAssign, Word t.CompoundAssign ∷ Node (s.Operand 19) ∷ [])
operator_by v limit left kind t.Step ts = when (is_target kind) (k.Postfix, Word t.Step ∷ [])
operator_by v limit left kind t.InstanceOf ts = when (nat_le 4 limit && nat_le left 4) (k.InstanceOf, Word t.InstanceOf ∷ Part g.InstanceRef ∷ [])
operator_by v limit left kind t.Question ts = ternary_tail v limit left kind (second_of ts)
operator_by v limit left kind _ ts = None

-- an operator with a form of its own behind a node
abbrev pub chosen_tail : Version → ℕ → ℕ → NodeKind → List Token → Option Form
chosen_tail v limit left kind ts = operator_by v limit left kind (first_of ts) ts

-- an operator behind a node, where operators of a level and tighter ones may stand, and the node is of an edge
abbrev pub operator_tail : Version → ℕ → ℕ → NodeKind → List Token → Option Form
operator_tail v limit left kind ts = or_else (chosen_tail v limit left kind ts) (binary_tail v limit left (first_of ts))

-- the edge of a left operand of a kind, which is of an edge: a list form is none, since it must be assigned to
abbrev pub left_by : NodeKind → ℕ → ℕ
left_by kind own = cond (is_list kind) 25 own

abbrev pub left_edge : Version → Tree → ℕ
left_edge v x = left_by x.0 (edge v x)

abbrev pub operand_by : Version → ℕ → NodeKind → ℕ → List Token → Option Form
operand_by v limit kind own ts = or_else (postfix_tail v kind ts) (operator_tail v limit (left_by kind own) kind ts)

-- what goes on behind an operand, where operators of a level and tighter ones may stand
abbrev pub operand_tail : Version → ℕ → Tree → List Token → Option Form
operand_tail v limit x ts = operand_by v limit x.0 (edge v x) ts

-- the node ends here where a test holds, and else is none
abbrev pub refused_unless : Bool → Option Form
refused_unless test = cond test None refused

abbrev pub read_by : Version → ℕ → NodeKind → ℕ → Bool → List Token → Option Form
read_by v limit kind own misindented ts = cond misindented refused (or_else (operand_by v limit kind own ts) (refused_unless (not (is_list kind))))

-- how an operand goes on; a list form must be assigned to
abbrev pub read_tail : Version → ℕ → Tree → List Token → Option Form
read_tail v limit x ts = read_by v limit x.0 (edge v x) (is_misindented x) ts

-- the end of the first expression of an item of a list form
abbrev pub entry_end : NodeKind → Terminal → Option Form
entry_end kind following = cond (is_double_arrow following) (refused_unless (not (is_list kind))) (refused_unless (is_target kind || is_list kind))

abbrev pub entry_by : Version → NodeKind → ℕ → Bool → List Token → Option Form
entry_by v kind own misindented ts = cond misindented refused (or_else (operand_by v 24 kind own ts) (entry_end kind (first_of ts)))

-- how the first expression of an item of a list form goes on: it ends as a key before `=>`, or as a target
abbrev pub entry_tail : Version → Tree → List Token → Option Form
entry_tail v x ts = entry_by v x.0 (edge v x) (is_misindented x) ts

abbrev pub place_by : Version → NodeKind → Bool → List Token → Option Form
place_by v kind misindented ts = cond misindented refused (or_else (postfix_tail v kind ts) (refused_unless (is_target kind)))

-- how a variable expression goes on
abbrev pub place_tail : Version → Tree → List Token → Option Form
place_tail v x ts = place_by v x.0 (is_misindented x) ts

abbrev pub target_by : Version → NodeKind → Bool → List Token → Option Form
target_by v kind misindented ts = cond (is_list kind) None (place_by v kind misindented ts)

-- how a target goes on: a list form ends
abbrev pub target_tail : Version → Tree → List Token → Option Form
target_tail v x ts = target_by v x.0 (is_misindented x) ts

-- how a variable expression in a quoted text goes on: with offsets, members and calls, and with no operator; a constant of
-- a class is no variable
abbrev pub embedded_tail : Version → NodeKind → List Token → Option Form
embedded_tail v kind ts = or_else (postfix_tail v kind ts) (refused_unless (is_variable_expression kind))

abbrev pub class_ref_by : Version → NodeKind → Terminal → List Token → Option Form
class_ref_by v kind t.OpenBracket ts = Some offset_form
class_ref_by v kind t.OpenBrace ts = brace_tail v kind
class_ref_by v kind t.Arrow ts = Some prop_form
class_ref_by v kind t.DoubleColon ts = when (is_variable_start (second_of ts)) static_prop_form
class_ref_by v kind _ ts = None

-- how an expression that names a class goes on: without a call
abbrev pub class_ref_tail : Version → NodeKind → List Token → Option Form
class_ref_tail v kind ts = class_ref_by v kind (first_of ts) ts

abbrev pub interpolated_by : NodeKind → Terminal → Option Form
interpolated_by kind t.OpenBracket = when (is_variable kind) (k.Offset, Word t.OpenBracket ∷ Part g.SimpleKey ∷ Word t.CloseBracket ∷ [])
interpolated_by kind t.Arrow = when (is_variable kind) (k.Prop, Word t.Arrow ∷ Word t.AnyLabel ∷ [])
interpolated_by kind _ = None

-- how a variable in a quoted text goes on: by one simple offset or property
abbrev pub interpolated_tail : NodeKind → List Token → Option Form
interpolated_tail kind ts = interpolated_by kind (first_of ts)
