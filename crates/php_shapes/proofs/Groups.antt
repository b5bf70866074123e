-- Groups of the tables that stand once: each choice of parts is one of the rule.
use Rattle.std.proofs.Common.{[]}
use Rattle.php_tree.specs.declared.kind.NodeKind.TheVariants as k
use Rattle.php_tree.specs.declared.version.Version.{Version}
use Rattle.php_tree.specs.declared.version.Version.TheVariants.{V74, V83}
use Rattle.php_terminals.specs.declared.terminal.Terminal.{Terminal}
use Rattle.php_terminals.specs.declared.terminal.Terminal.TheVariants as t
use Rattle.php_forms.specs.Atoms as fa
use Rattle.php_forms.specs.Declarations as fd
use Rattle.php_forms.specs.Lists as fl
use Rattle.php_forms.specs.Names as fn
use Rattle.php_forms.specs.Quoted as fq
use Rattle.php_forms.specs.Statements as fs
use Rattle.php_shapes.specs.Atoms as at
use Rattle.php_shapes.specs.Names as na
use Rattle.php_shapes.specs.Namespaces as ns
use Rattle.php_shapes.specs.Quoted as qu
use Rattle.php_shapes.specs.Statements as st
use Rattle.php_shapes.specs.Notation.{nothing, word, kind, place, ◌~◌, ◌|||◌, many, maybe, expr, commas, commas_last, parens, brackets, braces}
use Rattle.php_shapes.specs.Places.{TargetOrList}
use Rattle.php_shapes.proofs.Entries.{entries, flat}
use Rattle.php_shapes.proofs.Sequences.{Gives, absent, one, other, present, second, whole}

-- ---- names

pub name_once : (v : Version) → Gives v (entries v (fn.name v)) (na.name v)
name_once V74 = whole V74 (na.name V74)
name_once V83 = whole V83 (na.name V83)

pub called_name_once : (v : Version) → Gives v (entries v (fn.called_name v)) (na.called_name v)
called_name_once V74 = whole V74 (na.called_name V74)
called_name_once V83 = whole V83 (na.called_name V83)

pub namespace_name_once : (v : Version) → Gives v (entries v (fn.namespace_name v)) (na.namespace_name v)
namespace_name_once V74 = whole V74 (na.namespace_name V74)
namespace_name_once V83 = whole V83 (na.namespace_name V83)

pub imported_name_once : (v : Version) → Gives v (entries v (fn.imported_name v)) (na.imported_name v)
imported_name_once V74 = whole V74 (na.imported_name V74)
imported_name_once V83 = whole V83 (na.imported_name V83)

pub imported_class_once : (v : Version) → Gives v (entries v (fn.imported_class v)) (na.imported_class v)
imported_class_once V74 = whole V74 (na.imported_class V74)
imported_class_once V83 = whole V83 (na.imported_class V83)

pub grouped_name_once : (v : Version) → Gives v (entries v (fn.grouped_name v)) (na.grouped_name v)
grouped_name_once V74 = whole V74 (na.grouped_name V74)
grouped_name_once V83 = whole V83 (na.grouped_name V83)

pub grouped_class_once : (v : Version) → Gives v (entries v (fn.grouped_class v)) (na.grouped_class v)
grouped_class_once V74 = whole V74 (na.grouped_class V74)
grouped_class_once V83 = whole V83 (na.grouped_class V83)

pub name_lead_once : (v : Version) (x : Terminal) → Gives v (entries v (fn.name_lead x)) (nothing ||| word t.Backslash ||| word t.Namespace ~ word t.Backslash)
name_lead_once v t.Backslash = other v (flat (word t.Backslash) []) (nothing)
    (word t.Backslash ||| word t.Namespace ~ word t.Backslash)
    (one v (word t.Backslash) (word t.Namespace ~ word t.Backslash))
name_lead_once v t.Namespace = other v (flat (word t.Namespace ~ word t.Backslash) []) (nothing)
    (word t.Backslash ||| word t.Namespace ~ word t.Backslash)
    (second v (word t.Backslash) (word t.Namespace ~ word t.Backslash))
name_lead_once v _ = absent v (word t.Backslash ||| word t.Namespace ~ word t.Backslash)

pub root_lead_once : (v : Version) (x : Terminal) → Gives v (entries v (fn.root_lead x)) (maybe (word t.Backslash))
root_lead_once v t.Backslash = present v (word t.Backslash)
root_lead_once v _ = absent v (word t.Backslash)

-- ---- statements

pub alt_else_once : (v : Version) (x : Terminal) → Gives v (entries v (fs.alt_else x)) (maybe (word t.Else ~ word t.Colon ~ st.statements))
alt_else_once v t.Else = present v (word t.Else ~ word t.Colon ~ st.statements)
alt_else_once v _ = absent v (word t.Else ~ word t.Colon ~ st.statements)

pub while_body_once : (v : Version) (x : Terminal) → Gives v (entries v (fs.while_body x)) (st.statement ||| word t.Colon ~ st.statements ~ word t.EndWhile ~ word t.Semi)
while_body_once v t.Colon = second v (st.statement) (word t.Colon ~ st.statements ~ word t.EndWhile ~ word t.Semi)
while_body_once v _ = one v (st.statement) (word t.Colon ~ st.statements ~ word t.EndWhile ~ word t.Semi)

pub for_body_once : (v : Version) (x : Terminal) → Gives v (entries v (fs.for_body x)) (st.statement ||| word t.Colon ~ st.statements ~ word t.EndFor ~ word t.Semi)
for_body_once v t.Colon = second v (st.statement) (word t.Colon ~ st.statements ~ word t.EndFor ~ word t.Semi)
for_body_once v _ = one v (st.statement) (word t.Colon ~ st.statements ~ word t.EndFor ~ word t.Semi)

pub foreach_body_once : (v : Version) (x : Terminal) → Gives v (entries v (fs.foreach_body x)) (st.statement ||| word t.Colon ~ st.statements ~ word t.EndForeach ~ word t.Semi)
foreach_body_once v t.Colon = second v (st.statement) (word t.Colon ~ st.statements ~ word t.EndForeach ~ word t.Semi)
foreach_body_once v _ = one v (st.statement) (word t.Colon ~ st.statements ~ word t.EndForeach ~ word t.Semi)

pub declare_body_once : (v : Version) (x : Terminal) → Gives v (entries v (fs.declare_body x)) (st.statement ||| word t.Colon ~ st.statements ~ word t.EndDeclare ~ word t.Semi)
declare_body_once v t.Colon = second v (st.statement) (word t.Colon ~ st.statements ~ word t.EndDeclare ~ word t.Semi)
declare_body_once v _ = one v (st.statement) (word t.Colon ~ st.statements ~ word t.EndDeclare ~ word t.Semi)

pub switch_body_once : (v : Version) (x : Terminal) → Gives v (entries v (fs.switch_body x)) (braces st.cases ||| word t.Colon ~ st.cases ~ word t.EndSwitch ~ word t.Semi)
switch_body_once v t.OpenBrace = one v (braces st.cases) (word t.Colon ~ st.cases ~ word t.EndSwitch ~ word t.Semi)
switch_body_once v _ = second v (braces st.cases) (word t.Colon ~ st.cases ~ word t.EndSwitch ~ word t.Semi)

pub first_semi_once : (v : Version) (x : Terminal) → Gives v (entries v (fs.first_semi x)) (maybe (word t.Semi))
first_semi_once v t.Semi = present v (word t.Semi)
first_semi_once v _ = absent v (word t.Semi)

pub case_mark_once : (v : Version) (x : Terminal) → Gives v (entries v (fs.case_mark x)) (word t.Colon ||| word t.Semi)
case_mark_once v t.Colon = one v (word t.Colon) (word t.Semi)
case_mark_once v _ = second v (word t.Colon) (word t.Semi)

pub return_value_once : (v : Version) (x : Terminal) → Gives v (entries v (fs.return_value x)) (maybe (expr))
return_value_once v t.Semi = absent v (expr)
return_value_once v _ = present v (expr)

pub exprs_once : (v : Version) (x : Terminal) → Gives v (entries v (fs.exprs x)) (maybe (commas expr))
exprs_once v t.Semi = absent v (commas expr)
exprs_once v t.CloseParen = absent v (commas expr)
exprs_once v _ = present v (commas expr)

pub foreach_target_once : (v : Version) (x : Terminal) → Gives v (entries v (fs.foreach_target x))
    (word t.Ampersand ~ place TargetOrList ||| place TargetOrList ~ maybe
    (word t.DoubleArrow ~ at.by_ref ~ place TargetOrList))
foreach_target_once v t.Ampersand = one v (word t.Ampersand ~ place TargetOrList) (place TargetOrList ~ maybe (word t.DoubleArrow ~ at.by_ref ~ place TargetOrList))
foreach_target_once v _ = second v (word t.Ampersand ~ place TargetOrList) (place TargetOrList ~ maybe (word t.DoubleArrow ~ at.by_ref ~ place TargetOrList))

pub foreach_value_once : (v : Version) (x : Terminal) → Gives v (entries v (fs.foreach_value x)) (maybe (word t.DoubleArrow ~ at.by_ref ~ place TargetOrList))
foreach_value_once v t.DoubleArrow = present v (word t.DoubleArrow ~ at.by_ref ~ place TargetOrList)
foreach_value_once v _ = absent v (word t.DoubleArrow ~ at.by_ref ~ place TargetOrList)

pub loop_count_once : (v : Version) (x : Terminal) → Gives v (entries v (fs.loop_count x)) (maybe (word t.Int))
loop_count_once v t.Int = present v (word t.Int)
loop_count_once v _ = absent v (word t.Int)

pub handlers_once : (v : Version) (x : Terminal) → Gives v (entries v (fs.handlers x)) (st.finally_part ||| st.catch_part v ~ many (st.catch_part v) ~ maybe st.finally_part)
handlers_once v t.Finally = one v (st.finally_part) (st.catch_part v ~ many (st.catch_part v) ~ maybe st.finally_part)
handlers_once v _ = second v (st.finally_part) (st.catch_part v ~ many (st.catch_part v) ~ maybe st.finally_part)

pub finally_part_once : (v : Version) (x : Terminal) → Gives v (entries v (fs.finally_part x)) (maybe (st.finally_part))
finally_part_once v t.Finally = present v (st.finally_part)
finally_part_once v _ = absent v (st.finally_part)

-- ---- declarations

pub by_ref_once : (v : Version) (x : Terminal) → Gives v (entries v (fd.by_ref x)) (maybe (word t.Ampersand))
by_ref_once v t.Ampersand = present v (word t.Ampersand)
by_ref_once v _ = absent v (word t.Ampersand)

pub first_value_once : (v : Version) (x : Terminal) → Gives v (entries v (fd.first_value x)) (maybe (word t.Assign ~ expr))
first_value_once v t.Assign = present v (word t.Assign ~ expr)
first_value_once v _ = absent v (word t.Assign ~ expr)

pub params_once : (v : Version) (x : Terminal) → Gives v (entries v (fd.params x)) (maybe (commas (kind k.Param)))
params_once v t.CloseParen = absent v (commas (kind k.Param))
params_once v _ = present v (commas (kind k.Param))

pub param_type_once : (v : Version) (x : Terminal) → Gives v (entries v (fd.param_type x)) (maybe (kind k.TypeName))
param_type_once v t.Variable = absent v (kind k.TypeName)
param_type_once v t.Ampersand = absent v (kind k.TypeName)
param_type_once v t.Ellipsis = absent v (kind k.TypeName)
param_type_once v _ = present v (kind k.TypeName)

pub variadic_once : (v : Version) (x : Terminal) → Gives v (entries v (fd.variadic x)) (maybe (word t.Ellipsis))
variadic_once v t.Ellipsis = present v (word t.Ellipsis)
variadic_once v _ = absent v (word t.Ellipsis)

pub return_type_once : (v : Version) (x : Terminal) → Gives v (entries v (fd.return_type x)) (maybe (word t.Colon ~ kind k.TypeName))
return_type_once v t.Colon = present v (word t.Colon ~ kind k.TypeName)
return_type_once v _ = absent v (word t.Colon ~ kind k.TypeName)

pub nullable_once : (v : Version) (x : Terminal) → Gives v (entries v (fd.nullable x)) (maybe (word t.Question))
nullable_once v t.Question = present v (word t.Question)
nullable_once v _ = absent v (word t.Question)

pub type_word_once : (v : Version) (x : Terminal) → Gives v (entries v (fd.type_word x)) (word t.Array ||| word t.Callable ||| na.name v)
type_word_once v t.Array = one v (word t.Array) (word t.Callable ||| na.name v)
type_word_once v t.Callable = other v (flat (word t.Callable) []) (word t.Array) (word t.Callable ||| na.name v) (one v (word t.Callable) (na.name v))
type_word_once v _ = other v (flat (na.name v) []) (word t.Array) (word t.Callable ||| na.name v) (second v (word t.Callable) (na.name v))

pub extends_once : (v : Version) (x : Terminal) → Gives v (entries v (fd.extends x)) (maybe (word t.Extends ~ na.name v))
extends_once v t.Extends = present v (word t.Extends ~ na.name v)
extends_once v _ = absent v (word t.Extends ~ na.name v)

pub parents_once : (v : Version) (x : Terminal) → Gives v (entries v (fd.parents x)) (maybe (word t.Extends ~ na.names v))
parents_once v t.Extends = present v (word t.Extends ~ na.names v)
parents_once v _ = absent v (word t.Extends ~ na.names v)

pub implements_once : (v : Version) (x : Terminal) → Gives v (entries v (fd.implements x)) (maybe (word t.Implements ~ na.names v))
implements_once v t.Implements = present v (word t.Implements ~ na.names v)
implements_once v _ = absent v (word t.Implements ~ na.names v)

pub property_type_once : (v : Version) (x : Terminal) → Gives v (entries v (fd.property_type x)) (maybe (kind k.TypeName))
property_type_once v t.Variable = absent v (kind k.TypeName)
property_type_once v _ = present v (kind k.TypeName)

pub method_body_once : (v : Version) (x : Terminal) → Gives v (entries v (fd.method_body x)) (kind k.Block ||| word t.Semi)
method_body_once v t.OpenBrace = one v (kind k.Block) (word t.Semi)
method_body_once v _ = second v (kind k.Block) (word t.Semi)

pub namespace_body_once : (v : Version) (x : Terminal) → Gives v (entries v (fd.namespace_body x))
    (braces st.statements ||| na.namespace_name v ~ (braces st.statements ||| word t.Semi))
namespace_body_once v t.OpenBrace = one v (braces st.statements) (na.namespace_name v ~ (braces st.statements ||| word t.Semi))
namespace_body_once v _ = second v (braces st.statements) (na.namespace_name v ~ (braces st.statements ||| word t.Semi))

pub namespace_rest_once : (v : Version) (x : Terminal) → Gives v (entries v (fd.namespace_rest x)) (braces st.statements ||| word t.Semi)
namespace_rest_once v t.OpenBrace = one v (braces st.statements) (word t.Semi)
namespace_rest_once v _ = second v (braces st.statements) (word t.Semi)

pub use_rest_once : (v : Version) (x : Terminal) → Gives v (entries v (fd.use_rest x))
    (ns.alias ~ many (word t.Comma ~ ns.imported v) ||| word t.Backslash ~ braces
    (commas_last (ns.grouped_of_kind v)))
use_rest_once v t.Backslash = second v (ns.alias ~ many (word t.Comma ~ ns.imported v)) (word t.Backslash ~ braces (commas_last (ns.grouped_of_kind v)))
use_rest_once v _ = one v (ns.alias ~ many (word t.Comma ~ ns.imported v)) (word t.Backslash ~ braces (commas_last (ns.grouped_of_kind v)))

pub alias_once : (v : Version) (x : Terminal) → Gives v (entries v (fd.alias x)) (maybe (word t.As ~ word t.FreeLabel))
alias_once v t.As = present v (word t.As ~ word t.FreeLabel)
alias_once v _ = absent v (word t.As ~ word t.FreeLabel)

pub grouped_once : (v : Version) (x : Terminal) → Gives v (entries v (fd.grouped x)) (ns.grouped v ||| word t.Function ~ ns.grouped v ||| word t.Const ~ ns.grouped v)
grouped_once v t.Function = other v (flat (word t.Function ~ ns.grouped v) []) (ns.grouped v)
    (word t.Function ~ ns.grouped v ||| word t.Const ~ ns.grouped v)
    (one v (word t.Function ~ ns.grouped v) (word t.Const ~ ns.grouped v))
grouped_once v t.Const = other v (flat (word t.Const ~ ns.grouped v) []) (ns.grouped v)
    (word t.Function ~ ns.grouped v ||| word t.Const ~ ns.grouped v)
    (second v (word t.Function ~ ns.grouped v) (word t.Const ~ ns.grouped v))
grouped_once v _ = one v (ns.grouped v) (word t.Function ~ ns.grouped v ||| word t.Const ~ ns.grouped v)

-- ---- arguments, arrays and lists

pub arg_list_once : (v : Version) (x : Terminal) → Gives v (entries v (fl.arg_list x)) (maybe (commas_last (maybe (word t.Ellipsis) ~ expr)))
arg_list_once v t.CloseParen = absent v (commas_last (maybe (word t.Ellipsis) ~ expr))
arg_list_once v _ = present v (commas_last (maybe (word t.Ellipsis) ~ expr))

pub array_items_once : (v : Version) (x : Terminal) → Gives v (entries v (fl.array_items x)) (maybe (commas_last (kind k.Item)))
array_items_once v t.CloseParen = absent v (commas_last (kind k.Item))
array_items_once v t.CloseBracket = absent v (commas_last (kind k.Item))
array_items_once v _ = present v (commas_last (kind k.Item))

pub item_value_once : (v : Version) (x : Terminal) → Gives v (entries v (fl.item_value x)) (maybe (word t.DoubleArrow ~ at.by_ref ~ expr))
item_value_once v t.DoubleArrow = present v (word t.DoubleArrow ~ at.by_ref ~ expr)
item_value_once v _ = absent v (word t.DoubleArrow ~ at.by_ref ~ expr)

pub list_head_once : (v : Version) (x : Terminal) → Gives v (entries v (fl.list_head x)) (maybe (at.list_item))
list_head_once v t.Comma = absent v (at.list_item)
list_head_once v t.CloseParen = absent v (at.list_item)
list_head_once v t.CloseBracket = absent v (at.list_item)
list_head_once v _ = present v (at.list_item)

-- ---- quoted texts

pub named_key_once : (v : Version) (x : Terminal) → Gives v (entries v (fq.named_key x)) (maybe (brackets expr))
named_key_once v t.OpenBracket = present v (brackets expr)
named_key_once v _ = absent v (brackets expr)

pub simple_key_once : (v : Version) (x : Terminal) → Gives v (entries v (fq.simple_key x)) (word t.AnyLabel ||| word t.Int ||| word t.Minus ~ word t.Int ||| qu.plain_variable)
simple_key_once v t.Label = one v (word t.AnyLabel) (word t.Int ||| word t.Minus ~ word t.Int ||| qu.plain_variable)
simple_key_once v t.Match = one v (word t.AnyLabel) (word t.Int ||| word t.Minus ~ word t.Int ||| qu.plain_variable)
simple_key_once v t.Readonly = one v (word t.AnyLabel) (word t.Int ||| word t.Minus ~ word t.Int ||| qu.plain_variable)
simple_key_once v t.MixedOrNever = one v (word t.AnyLabel) (word t.Int ||| word t.Minus ~ word t.Int ||| qu.plain_variable)
simple_key_once v t.Int = other v (flat (word t.Int) []) (word t.AnyLabel)
    (word t.Int ||| word t.Minus ~ word t.Int ||| qu.plain_variable)
    (one v (word t.Int) (word t.Minus ~ word t.Int ||| qu.plain_variable))
simple_key_once v t.Minus = other v (flat (word t.Minus ~ word t.Int) []) (word t.AnyLabel)
    (word t.Int ||| word t.Minus ~ word t.Int ||| qu.plain_variable)
    (other v (flat (word t.Minus ~ word t.Int) []) (word t.Int) (word t.Minus ~ word t.Int ||| qu.plain_variable)
    (one v (word t.Minus ~ word t.Int) (qu.plain_variable)))
simple_key_once v _ = other v (flat (qu.plain_variable) []) (word t.AnyLabel)
    (word t.Int ||| word t.Minus ~ word t.Int ||| qu.plain_variable)
    (other v (flat (qu.plain_variable) []) (word t.Int) (word t.Minus ~ word t.Int ||| qu.plain_variable)
    (second v (word t.Minus ~ word t.Int) (qu.plain_variable)))

-- ---- expressions

pub exit_value_once : (v : Version) (x : Terminal) → Gives v (entries v (fa.exit_value x)) (maybe (parens (maybe expr)))
exit_value_once v t.OpenParen = present v (parens (maybe expr))
exit_value_once v _ = absent v (parens (maybe expr))

pub exit_code_once : (v : Version) (x : Terminal) → Gives v (entries v (fa.exit_code x)) (maybe (expr))
exit_code_once v t.CloseParen = absent v (expr)
exit_code_once v _ = present v (expr)

pub closure_use_once : (v : Version) (x : Terminal) → Gives v (entries v (fa.closure_use x)) (maybe (word t.Use ~ parens (commas (at.by_ref ~ word t.Variable))))
closure_use_once v t.Use = present v (word t.Use ~ parens (commas (at.by_ref ~ word t.Variable)))
closure_use_once v _ = absent v (word t.Use ~ parens (commas (at.by_ref ~ word t.Variable)))

pub ctor_args_once : (v : Version) (x : Terminal) → Gives v (entries v (fa.ctor_args x)) (maybe (parens (kind k.Args)))
ctor_args_once v t.OpenParen = present v (parens (kind k.Args))
ctor_args_once v _ = absent v (parens (kind k.Args))

pub offset_key_once : (v : Version) (x : Terminal) → Gives v (entries v (fa.offset_key x)) (maybe (expr))
offset_key_once v t.CloseBracket = absent v (expr)
offset_key_once v _ = present v (expr)

pub member_once : (v : Version) (x : Terminal) → Gives v (entries v (fa.member x)) (kind k.Variable ||| braces expr ||| word t.AnyWord)
member_once v t.Variable = one v (kind k.Variable) (braces expr ||| word t.AnyWord)
member_once v t.Dollar = one v (kind k.Variable) (braces expr ||| word t.AnyWord)
member_once v t.OpenBrace = other v (flat (braces expr) []) (kind k.Variable) (braces expr ||| word t.AnyWord) (one v (braces expr) (word t.AnyWord))
member_once v _ = other v (flat (word t.AnyWord) []) (kind k.Variable) (braces expr ||| word t.AnyWord) (second v (braces expr) (word t.AnyWord))
