-- No group of the grammar leads back to itself other than through a node.
use Rattle.std.proofs.Common.{◌≡◌, ℕ, Bool, true, false, not, cond, ◌&&◌, ◌||◌, List, drop, Option, Some, None, nat_le, nat_lt, subst, arith}
use Rattle.std.specs.Prelude.{IfSome}
use Rattle.php_tree.specs.declared.kind.NodeKind.{NodeKind}
use Rattle.php_tree.specs.declared.token.Token.{Token}
use Rattle.php_tree.specs.declared.version.Version.{Version}
use Rattle.php_tree.specs.declared.version.Version.TheVariants.{V74, V83}
use Rattle.php_tree.specs.Tree.{Tree}
use Rattle.php_terminals.specs.declared.terminal.Terminal.{Terminal}
use Rattle.php_terminals.specs.declared.terminal.Terminal.TheVariants as t
use Rattle.php_forms.specs.declared.item.Sort.{Sort}
use Rattle.php_forms.specs.declared.item.Sort.TheVariants as s
use Rattle.php_forms.specs.declared.item.Group.{Group}
use Rattle.php_forms.specs.declared.item.Group.TheVariants as g
use Rattle.php_forms.specs.declared.item.Item.{Item}
use Rattle.php_terminals.specs.Ahead.{behind_name, first_of, is_called, past_group, second_of, third_of}
use Rattle.php_grammar.specs.Bases.{is_callee, is_class_base, is_list, is_member_base, is_offset_base, is_target, is_variable, is_variable_expression}
use Rattle.php_terminals.specs.Classify.{is_any_label}
use Rattle.php_forms.specs.Forms.{or_else, refused, when}
use Rattle.php_forms.specs.Grammar.{Form, IsNested, Ranked}
use Rattle.php_forms.specs.Heads.{
  attribute,
  attribute_83,
  behind_modifiers,
  case_form,
  chosen_by,
  chosen_form,
  function_form,
  if_form,
  label_form,
  modified_form,
  name_of_function,
  namespace_form,
  static_form,
  trait_use_form,
}
use Rattle.php_terminals.specs.Indents.{is_misindented}
use Rattle.php_grammar.specs.Levels.{binary_items, binary_level, dot_items, left_limit}
use Rattle.php_terminals.specs.Marks.{begins_place, ends_item, goes_on, is_assign, is_double_arrow, is_double_colon, is_name_part, is_variable_start}
use Rattle.php_grammar.specs.Operands.{
  array_word_form,
  bracket_form,
  chosen_operand,
  class_ref_form,
  created,
  created_by,
  dollar_form,
  entry_by,
  entry_list_form,
  instance_by,
  instance_ref,
  name_by,
  name_form,
  named_form,
  named_prop_form,
  old_cast_form,
  operand_by,
  operand_form,
  place_form,
  simple_variable_by,
  simple_variable_form,
  static_by,
  static_member_form,
  static_name_form,
  static_prop_form,
  target_by,
  target_list_form,
  yield_by,
}
use Rattle.php_grammar.specs.Tables.{form, parts, php, plain_variable_form, tail}
use Rattle.php_grammar.specs.Tails.{
  assign_tail,
  binary_tail,
  brace_tail,
  chosen_tail,
  class_ref_by,
  embedded_tail,
  entry_end,
  entry_tail,
  interpolated_by,
  left_edge,
  left_fits,
  member_tail,
  operand_tail,
  operator_by,
  operator_tail,
  place_tail,
  postfix_by,
  postfix_tail,
  read_tail,
  refused_unless,
  short_left_fits,
  static_tail,
  target_tail,
  ternary_tail,
}
use Rattle.php_forms.specs.Atoms.{atom_form, closure_use, ctor_args, exit_code, exit_value, member, more_used, offset_key, static_member, yield_to}
use Rattle.php_forms.specs.Declarations.{
  alias,
  by_ref,
  class_alias,
  class_grouped,
  class_modifiers,
  class_use_rest,
  extends,
  first_value,
  grouped,
  implements,
  members,
  method_body,
  modifiers,
  more_class_consts,
  more_class_grouped,
  more_class_grouped_last,
  more_class_uses,
  more_consts,
  more_grouped,
  more_grouped_last,
  more_params,
  more_uses,
  more_variables,
  namespace_body,
  namespace_rest,
  nullable,
  param_type,
  params,
  parents,
  property_type,
  return_type,
  trait_rules,
  type_word,
  use_body,
  use_rest,
  used_class,
  used_grouped,
  variadic,
}
use Rattle.php_forms.specs.Lists.{
  arg_list,
  array_items,
  entry_value,
  item_form,
  item_value,
  list_head,
  list_item_form,
  list_more,
  more_args,
  more_args_last,
  more_items,
  more_items_last,
}
use Rattle.php_forms.specs.Names.{
  called_name,
  grouped_class,
  grouped_name,
  imported_class,
  imported_name,
  more_names,
  name,
  name_lead,
  name_more,
  name_more_label,
  namespace_name,
  root_lead,
}
use Rattle.php_forms.specs.Quoted.{named_key, quoted_parts, quoted_parts_name, simple_key}
use Rattle.php_forms.specs.Statements.{
  alt_else,
  alt_else_ifs,
  case_mark,
  cases,
  catches,
  caught_names,
  declare_body,
  else_ifs,
  else_part,
  exprs,
  finally_part,
  first_semi,
  for_body,
  foreach_body,
  foreach_target,
  foreach_value,
  handlers,
  loop_count,
  more_directives,
  more_exprs,
  more_globals,
  more_unset,
  more_unset_last,
  return_value,
  simple_form,
  statements,
  switch_body,
  while_body,
}

-- how deep groups stand in a group
abbrev pub rank : Group → ℕ
rank g.Name = 1
rank g.CalledName = 1
rank g.NamespaceName = 1
rank g.MoreNames = 2
rank g.ImportedName = 1
rank g.ImportedClass = 1
rank g.GroupedName = 1
rank g.GroupedClass = 1
rank g.AltElseIfs = 1
rank g.AltElse = 1
rank g.WhileBody = 1
rank g.ForBody = 1
rank g.ForeachBody = 1
rank g.DeclareBody = 1
rank g.SwitchBody = 1
rank g.Exprs = 1
rank g.ForeachTarget = 2
rank g.ForeachValue = 1
rank g.Handlers = 4
rank g.Catches = 3
rank g.CaughtNames = 2
rank g.MoreVariables = 1
rank g.Params = 1
rank g.TypeWord = 2
rank g.Extends = 2
rank g.Parents = 3
rank g.Implements = 3
rank g.NamespaceBody = 2
rank g.NamespaceRest = 1
rank g.UseBody = 6
rank g.UseRest = 4
rank g.MoreUses = 2
rank g.Grouped = 2
rank g.MoreGrouped = 3
rank g.ClassUseRest = 5
rank g.MoreClassUses = 3
rank g.ClassGrouped = 3
rank g.MoreClassGrouped = 4
rank g.UsedClass = 2
rank g.UsedGrouped = 2
rank g.ArgList = 2
rank g.MoreArgs = 1
rank g.ArrayItems = 1
rank g.ItemValue = 1
rank g.ListMore = 1
rank g.EntryValue = 1
rank g.QuotedParts = 1
rank g.ExitValue = 1
rank g.ClosureUse = 2
rank g.MoreUsed = 1
rank g.YieldValue = 1
rank g.Created = 4
rank g.InstanceRef = 2
rank _ = 0

abbrev Nested : Form → Type 0
Nested f = IsNested rank 7 f.1

-- ---- groups and forms that tokens choose

name_nested : (v : Version) → IsNested rank 1 (name v)
name_nested V74 = (omega arith, (omega arith, tt))
name_nested V83 = tt

called_name_nested : (v : Version) → IsNested rank 1 (called_name v)
called_name_nested V74 = (omega arith, (omega arith, tt))
called_name_nested V83 = tt

namespace_name_nested : (v : Version) → IsNested rank 1 (namespace_name v)
namespace_name_nested V74 = (omega arith, tt)
namespace_name_nested V83 = tt

name_lead_nested : (x : Terminal) → IsNested rank 0 (name_lead x)
name_lead_nested t.Backslash = tt
name_lead_nested t.Namespace = tt
name_lead_nested _ = tt

name_more_label_nested : (x : Terminal) → IsNested rank 0 (name_more_label x)
name_more_label_nested t.Label = tt
name_more_label_nested t.Match = tt
name_more_label_nested t.Readonly = tt
name_more_label_nested t.MixedOrNever = tt
name_more_label_nested _ = tt

name_more_nested : (x following : Terminal) → IsNested rank 0 (name_more x following)
name_more_nested t.Backslash following = name_more_label_nested following
name_more_nested _ following = tt

more_names_nested : (x : Terminal) → IsNested rank 2 (more_names x)
more_names_nested t.Comma = (omega arith, tt)
more_names_nested _ = tt

imported_name_nested : (v : Version) → IsNested rank 1 (imported_name v)
imported_name_nested V74 = (omega arith, (omega arith, tt))
imported_name_nested V83 = tt

imported_class_nested : (v : Version) → IsNested rank 1 (imported_class v)
imported_class_nested V74 = (omega arith, (omega arith, tt))
imported_class_nested V83 = tt

grouped_name_nested : (v : Version) → IsNested rank 1 (grouped_name v)
grouped_name_nested V74 = (omega arith, tt)
grouped_name_nested V83 = tt

grouped_class_nested : (v : Version) → IsNested rank 1 (grouped_class v)
grouped_class_nested V74 = (omega arith, tt)
grouped_class_nested V83 = tt

root_lead_nested : (x : Terminal) → IsNested rank 0 (root_lead x)
root_lead_nested t.Backslash = tt
root_lead_nested _ = tt

statements_nested : (x : Terminal) → IsNested rank 0 (statements x)
statements_nested t.CloseBrace = tt
statements_nested t.End = tt
statements_nested t.Case = tt
statements_nested t.Default = tt
statements_nested t.Else = tt
statements_nested t.ElseIf = tt
statements_nested t.EndDeclare = tt
statements_nested t.EndFor = tt
statements_nested t.EndForeach = tt
statements_nested t.EndIf = tt
statements_nested t.EndSwitch = tt
statements_nested t.EndWhile = tt
statements_nested _ = tt

else_ifs_nested : (x : Terminal) → IsNested rank 0 (else_ifs x)
else_ifs_nested t.ElseIf = tt
else_ifs_nested _ = tt

else_part_nested : (x : Terminal) → IsNested rank 0 (else_part x)
else_part_nested t.Else = tt
else_part_nested _ = tt

alt_else_ifs_nested : (x : Terminal) → IsNested rank 1 (alt_else_ifs x)
alt_else_ifs_nested t.ElseIf = (omega arith, tt)
alt_else_ifs_nested _ = tt

alt_else_nested : (x : Terminal) → IsNested rank 1 (alt_else x)
alt_else_nested t.Else = (omega arith, tt)
alt_else_nested _ = tt

while_body_nested : (x : Terminal) → IsNested rank 1 (while_body x)
while_body_nested t.Colon = (omega arith, tt)
while_body_nested _ = tt

for_body_nested : (x : Terminal) → IsNested rank 1 (for_body x)
for_body_nested t.Colon = (omega arith, tt)
for_body_nested _ = tt

foreach_body_nested : (x : Terminal) → IsNested rank 1 (foreach_body x)
foreach_body_nested t.Colon = (omega arith, tt)
foreach_body_nested _ = tt

declare_body_nested : (x : Terminal) → IsNested rank 1 (declare_body x)
declare_body_nested t.Colon = (omega arith, tt)
declare_body_nested _ = tt

switch_body_nested : (x : Terminal) → IsNested rank 1 (switch_body x)
switch_body_nested t.OpenBrace = (omega arith, (omega arith, tt))
switch_body_nested _ = (omega arith, (omega arith, tt))

first_semi_nested : (x : Terminal) → IsNested rank 0 (first_semi x)
first_semi_nested t.Semi = tt
first_semi_nested _ = tt

cases_nested : (x : Terminal) → IsNested rank 0 (cases x)
cases_nested t.Case = tt
cases_nested t.Default = tt
cases_nested _ = tt

case_mark_nested : (x : Terminal) → IsNested rank 0 (case_mark x)
case_mark_nested t.Colon = tt
case_mark_nested _ = tt

more_exprs_nested : (x : Terminal) → IsNested rank 0 (more_exprs x)
more_exprs_nested t.Comma = tt
more_exprs_nested _ = tt

return_value_nested : (x : Terminal) → IsNested rank 0 (return_value x)
return_value_nested t.Semi = tt
return_value_nested _ = tt

exprs_nested : (x : Terminal) → IsNested rank 1 (exprs x)
exprs_nested t.Semi = tt
exprs_nested t.CloseParen = tt
exprs_nested _ = (omega arith, tt)

foreach_target_nested : (x : Terminal) → IsNested rank 2 (foreach_target x)
foreach_target_nested t.Ampersand = tt
foreach_target_nested _ = (omega arith, tt)

foreach_value_nested : (x : Terminal) → IsNested rank 1 (foreach_value x)
foreach_value_nested t.DoubleArrow = (omega arith, tt)
foreach_value_nested _ = tt

loop_count_nested : (x : Terminal) → IsNested rank 0 (loop_count x)
loop_count_nested t.Int = tt
loop_count_nested _ = tt

more_globals_nested : (x : Terminal) → IsNested rank 0 (more_globals x)
more_globals_nested t.Comma = tt
more_globals_nested _ = tt

handlers_nested : (x : Terminal) → IsNested rank 4 (handlers x)
handlers_nested t.Finally = tt
handlers_nested _ = (omega arith, (omega arith, (omega arith, (omega arith, tt))))

catches_nested : (x : Terminal) → IsNested rank 3 (catches x)
catches_nested t.Catch = (omega arith, (omega arith, tt))
catches_nested _ = tt

caught_names_nested : (x : Terminal) → IsNested rank 2 (caught_names x)
caught_names_nested t.Bar = (omega arith, tt)
caught_names_nested _ = tt

finally_part_nested : (x : Terminal) → IsNested rank 0 (finally_part x)
finally_part_nested t.Finally = tt
finally_part_nested _ = tt

more_directives_nested : (x : Terminal) → IsNested rank 0 (more_directives x)
more_directives_nested t.Comma = tt
more_directives_nested _ = tt

more_unset_last_nested : (x : Terminal) → IsNested rank 0 (more_unset_last x)
more_unset_last_nested t.CloseParen = tt
more_unset_last_nested _ = tt

more_unset_nested : (x following : Terminal) → IsNested rank 0 (more_unset x following)
more_unset_nested t.Comma following = more_unset_last_nested following
more_unset_nested _ following = tt

by_ref_nested : (x : Terminal) → IsNested rank 0 (by_ref x)
by_ref_nested t.Ampersand = tt
by_ref_nested _ = tt

first_value_nested : (x : Terminal) → IsNested rank 0 (first_value x)
first_value_nested t.Assign = tt
first_value_nested _ = tt

more_variables_nested : (x : Terminal) → IsNested rank 1 (more_variables x)
more_variables_nested t.Comma = (omega arith, tt)
more_variables_nested _ = tt

params_nested : (x : Terminal) → IsNested rank 1 (params x)
params_nested t.CloseParen = tt
params_nested _ = (omega arith, tt)

more_params_nested : (x : Terminal) → IsNested rank 0 (more_params x)
more_params_nested t.Comma = tt
more_params_nested _ = tt

param_type_nested : (x : Terminal) → IsNested rank 0 (param_type x)
param_type_nested t.Variable = tt
param_type_nested t.Ampersand = tt
param_type_nested t.Ellipsis = tt
param_type_nested _ = tt

variadic_nested : (x : Terminal) → IsNested rank 0 (variadic x)
variadic_nested t.Ellipsis = tt
variadic_nested _ = tt

return_type_nested : (x : Terminal) → IsNested rank 0 (return_type x)
return_type_nested t.Colon = tt
return_type_nested _ = tt

nullable_nested : (x : Terminal) → IsNested rank 0 (nullable x)
nullable_nested t.Question = tt
nullable_nested _ = tt

type_word_nested : (x : Terminal) → IsNested rank 2 (type_word x)
type_word_nested t.Array = tt
type_word_nested t.Callable = tt
type_word_nested _ = (omega arith, tt)

class_modifiers_nested : (x : Terminal) → IsNested rank 0 (class_modifiers x)
class_modifiers_nested t.ClassModifier = tt
class_modifiers_nested _ = tt

extends_nested : (x : Terminal) → IsNested rank 2 (extends x)
extends_nested t.Extends = (omega arith, tt)
extends_nested _ = tt

parents_nested : (x : Terminal) → IsNested rank 3 (parents x)
parents_nested t.Extends = (omega arith, (omega arith, tt))
parents_nested _ = tt

implements_nested : (x : Terminal) → IsNested rank 3 (implements x)
implements_nested t.Implements = (omega arith, (omega arith, tt))
implements_nested _ = tt

members_nested : (x : Terminal) → IsNested rank 0 (members x)
members_nested t.CloseBrace = tt
members_nested t.End = tt
members_nested _ = tt

modifiers_nested : (x : Terminal) → IsNested rank 0 (modifiers x)
modifiers_nested t.ClassModifier = tt
modifiers_nested t.Visibility = tt
modifiers_nested t.Static = tt
modifiers_nested _ = tt

property_type_nested : (x : Terminal) → IsNested rank 0 (property_type x)
property_type_nested t.Variable = tt
property_type_nested _ = tt

method_body_nested : (x : Terminal) → IsNested rank 0 (method_body x)
method_body_nested t.OpenBrace = tt
method_body_nested _ = tt

more_class_consts_nested : (x : Terminal) → IsNested rank 0 (more_class_consts x)
more_class_consts_nested t.Comma = tt
more_class_consts_nested _ = tt

trait_rules_nested : (x : Terminal) → IsNested rank 0 (trait_rules x)
trait_rules_nested t.OpenBrace = tt
trait_rules_nested _ = tt

more_consts_nested : (x : Terminal) → IsNested rank 0 (more_consts x)
more_consts_nested t.Comma = tt
more_consts_nested _ = tt

namespace_body_nested : (x : Terminal) → IsNested rank 2 (namespace_body x)
namespace_body_nested t.OpenBrace = (omega arith, tt)
namespace_body_nested _ = (omega arith, (omega arith, tt))

namespace_rest_nested : (x : Terminal) → IsNested rank 1 (namespace_rest x)
namespace_rest_nested t.OpenBrace = (omega arith, tt)
namespace_rest_nested _ = tt

use_body_nested : (x : Terminal) → IsNested rank 6 (use_body x)
use_body_nested t.Function = (omega arith, (omega arith, tt))
use_body_nested t.Const = (omega arith, (omega arith, tt))
use_body_nested _ = (omega arith, (omega arith, tt))

use_rest_nested : (x : Terminal) → IsNested rank 4 (use_rest x)
use_rest_nested t.Backslash = (omega arith, (omega arith, tt))
use_rest_nested _ = (omega arith, (omega arith, tt))

more_uses_nested : (x : Terminal) → IsNested rank 2 (more_uses x)
more_uses_nested t.Comma = (omega arith, (omega arith, tt))
more_uses_nested _ = tt

alias_nested : (x : Terminal) → IsNested rank 0 (alias x)
alias_nested t.As = tt
alias_nested _ = tt

grouped_nested : (x : Terminal) → IsNested rank 2 (grouped x)
grouped_nested t.Function = (omega arith, (omega arith, tt))
grouped_nested t.Const = (omega arith, (omega arith, tt))
grouped_nested _ = (omega arith, (omega arith, tt))

more_grouped_last_nested : (x : Terminal) → IsNested rank 3 (more_grouped_last x)
more_grouped_last_nested t.CloseBrace = tt
more_grouped_last_nested _ = (omega arith, tt)

more_grouped_nested : (x following : Terminal) → IsNested rank 3 (more_grouped x following)
more_grouped_nested t.Comma following = more_grouped_last_nested following
more_grouped_nested _ following = tt

class_use_rest_nested : (x : Terminal) → IsNested rank 5 (class_use_rest x)
class_use_rest_nested t.Backslash = (omega arith, (omega arith, tt))
class_use_rest_nested _ = (omega arith, (omega arith, tt))

more_class_uses_nested : (x : Terminal) → IsNested rank 3 (more_class_uses x)
more_class_uses_nested t.Comma = (omega arith, (omega arith, tt))
more_class_uses_nested _ = tt

class_alias_nested : (x : Terminal) → IsNested rank 0 (class_alias x)
class_alias_nested t.As = tt
class_alias_nested _ = tt

class_grouped_nested : (x : Terminal) → IsNested rank 3 (class_grouped x)
class_grouped_nested t.Function = (omega arith, (omega arith, tt))
class_grouped_nested t.Const = (omega arith, (omega arith, tt))
class_grouped_nested _ = (omega arith, (omega arith, tt))

more_class_grouped_last_nested : (x : Terminal) → IsNested rank 4 (more_class_grouped_last x)
more_class_grouped_last_nested t.CloseBrace = tt
more_class_grouped_last_nested _ = (omega arith, tt)

more_class_grouped_nested : (x following : Terminal) → IsNested rank 4 (more_class_grouped x following)
more_class_grouped_nested t.Comma following = more_class_grouped_last_nested following
more_class_grouped_nested _ following = tt

used_class_nested : (x : Terminal) → IsNested rank 2 (used_class x)
used_class_nested t.As = (omega arith, tt)
used_class_nested t.Backslash = (omega arith, tt)
used_class_nested _ = (omega arith, tt)

used_grouped_nested : (x : Terminal) → IsNested rank 2 (used_grouped x)
used_grouped_nested t.As = (omega arith, tt)
used_grouped_nested _ = (omega arith, tt)

arg_list_nested : (x : Terminal) → IsNested rank 2 (arg_list x)
arg_list_nested t.CloseParen = tt
arg_list_nested _ = (omega arith, (omega arith, tt))

more_args_last_nested : (x : Terminal) → IsNested rank 1 (more_args_last x)
more_args_last_nested t.CloseParen = tt
more_args_last_nested _ = (omega arith, tt)

more_args_nested : (x following : Terminal) → IsNested rank 1 (more_args x following)
more_args_nested t.Comma following = more_args_last_nested following
more_args_nested _ following = tt

array_items_nested : (x : Terminal) → IsNested rank 1 (array_items x)
array_items_nested t.CloseParen = tt
array_items_nested t.CloseBracket = tt
array_items_nested _ = (omega arith, tt)

more_items_last_nested : (x : Terminal) → IsNested rank 0 (more_items_last x)
more_items_last_nested t.CloseParen = tt
more_items_last_nested t.CloseBracket = tt
more_items_last_nested _ = tt

more_items_nested : (x following : Terminal) → IsNested rank 0 (more_items x following)
more_items_nested t.Comma following = more_items_last_nested following
more_items_nested _ following = tt

item_value_nested : (x : Terminal) → IsNested rank 1 (item_value x)
item_value_nested t.DoubleArrow = (omega arith, tt)
item_value_nested _ = tt

list_head_nested : (x : Terminal) → IsNested rank 0 (list_head x)
list_head_nested t.Comma = tt
list_head_nested t.CloseParen = tt
list_head_nested t.CloseBracket = tt
list_head_nested _ = tt

list_more_nested : (x : Terminal) → IsNested rank 1 (list_more x)
list_more_nested t.Comma = (omega arith, tt)
list_more_nested _ = tt

entry_value_nested : (x : Terminal) → IsNested rank 1 (entry_value x)
entry_value_nested t.DoubleArrow = (omega arith, tt)
entry_value_nested _ = tt

quoted_parts_name_nested : (x : Terminal) → IsNested rank 1 (quoted_parts_name x)
quoted_parts_name_nested t.VarName = (omega arith, tt)
quoted_parts_name_nested _ = tt

quoted_parts_nested : (x following : Terminal) → IsNested rank 1 (quoted_parts x following)
quoted_parts_nested t.Piece following = tt
quoted_parts_nested t.Variable following = tt
quoted_parts_nested t.CurlyOpen following = tt
quoted_parts_nested t.DollarBrace following = quoted_parts_name_nested following
quoted_parts_nested _ following = tt

named_key_nested : (x : Terminal) → IsNested rank 0 (named_key x)
named_key_nested t.OpenBracket = tt
named_key_nested _ = tt

simple_key_nested : (x : Terminal) → IsNested rank 0 (simple_key x)
simple_key_nested t.Label = tt
simple_key_nested t.Match = tt
simple_key_nested t.Readonly = tt
simple_key_nested t.MixedOrNever = tt
simple_key_nested t.Int = tt
simple_key_nested t.Minus = tt
simple_key_nested _ = tt

exit_value_nested : (x : Terminal) → IsNested rank 1 (exit_value x)
exit_value_nested t.OpenParen = (omega arith, tt)
exit_value_nested _ = tt

exit_code_nested : (x : Terminal) → IsNested rank 0 (exit_code x)
exit_code_nested t.CloseParen = tt
exit_code_nested _ = tt

yield_to_nested : (x : Terminal) → IsNested rank 0 (yield_to x)
yield_to_nested t.DoubleArrow = tt
yield_to_nested _ = tt

closure_use_nested : (x : Terminal) → IsNested rank 2 (closure_use x)
closure_use_nested t.Use = (omega arith, (omega arith, tt))
closure_use_nested _ = tt

more_used_nested : (x : Terminal) → IsNested rank 1 (more_used x)
more_used_nested t.Comma = (omega arith, tt)
more_used_nested _ = tt

ctor_args_nested : (x : Terminal) → IsNested rank 0 (ctor_args x)
ctor_args_nested t.OpenParen = tt
ctor_args_nested _ = tt

offset_key_nested : (x : Terminal) → IsNested rank 0 (offset_key x)
offset_key_nested t.CloseBracket = tt
offset_key_nested _ = tt

member_nested : (x : Terminal) → IsNested rank 0 (member x)
member_nested t.Variable = tt
member_nested t.Dollar = tt
member_nested t.OpenBrace = tt
member_nested _ = tt

static_member_nested : (x : Terminal) → IsNested rank 0 (static_member x)
static_member_nested t.Variable = tt
static_member_nested _ = tt

simple_form_nested : (x : Terminal) → Nested (simple_form x)
simple_form_nested t.OpenBrace = (omega arith, tt)
simple_form_nested t.Semi = tt
simple_form_nested t.Echo = (omega arith, tt)
simple_form_nested t.InlineHtml = tt
simple_form_nested t.Return = (omega arith, tt)
simple_form_nested t.While = (omega arith, tt)
simple_form_nested t.Do = tt
simple_form_nested t.For = (omega arith, (omega arith, (omega arith, (omega arith, tt))))
simple_form_nested t.Foreach = (omega arith, (omega arith, tt))
simple_form_nested t.Switch = (omega arith, tt)
simple_form_nested t.Break = (omega arith, tt)
simple_form_nested t.Continue = (omega arith, tt)
simple_form_nested t.Global = (omega arith, tt)
simple_form_nested t.Unset = (omega arith, tt)
simple_form_nested t.Throw = tt
simple_form_nested t.Try = (omega arith, tt)
simple_form_nested t.Declare = (omega arith, (omega arith, tt))
simple_form_nested t.Goto = tt
simple_form_nested t.Class = (omega arith, (omega arith, (omega arith, (omega arith, (omega arith, tt)))))
simple_form_nested t.ClassModifier = (omega arith, (omega arith, (omega arith, (omega arith, (omega arith, tt)))))
simple_form_nested t.AttributeOpen = (omega arith, (omega arith, (omega arith, (omega arith, (omega arith, tt)))))
simple_form_nested t.Interface = (omega arith, (omega arith, tt))
simple_form_nested t.Trait = (omega arith, tt)
simple_form_nested t.Use = (omega arith, tt)
simple_form_nested t.Const = (omega arith, tt)
simple_form_nested _ = tt

item_form_nested : (x : Terminal) → Nested (item_form x)
item_form_nested t.Ampersand = tt
item_form_nested t.Ellipsis = tt
item_form_nested _ = (omega arith, tt)

list_item_form_nested : (x : Terminal) → Nested (list_item_form x)
list_item_form_nested t.Ampersand = tt
list_item_form_nested _ = (omega arith, tt)

atom_form_nested : (x : Terminal) → IfSome (atom_form x) Nested
atom_form_nested t.Variable = tt
atom_form_nested t.Int = tt
atom_form_nested t.Float = tt
atom_form_nested t.Text = tt
atom_form_nested t.QuoteOpen = (omega arith, tt)
atom_form_nested t.OpenParen = tt
atom_form_nested t.New = (omega arith, tt)
atom_form_nested t.Clone = tt
atom_form_nested t.Plus = tt
atom_form_nested t.Minus = tt
atom_form_nested t.Tight = tt
atom_form_nested t.Not = tt
atom_form_nested t.Step = tt
atom_form_nested t.Cast = tt
atom_form_nested t.Print = tt
atom_form_nested t.Yield = (omega arith, tt)
atom_form_nested t.YieldFrom = tt
atom_form_nested t.Include = tt
atom_form_nested t.Isset = (omega arith, tt)
atom_form_nested t.Empty = tt
atom_form_nested t.Exit = (omega arith, tt)
atom_form_nested t.Eval = tt
atom_form_nested t.Function = (omega arith, (omega arith, (omega arith, (omega arith, tt))))
atom_form_nested t.Fn = (omega arith, (omega arith, (omega arith, tt)))
atom_form_nested _ = tt

-- ---- forms that tests choose

cond_form : (b : Bool) (f g : Form) → Nested f → Nested g → Nested (cond b f g)
cond_form true f g p q = p
cond_form false f g p q = q

cond_items : (n : ℕ) (b : Bool) (is js : List Item) → IsNested rank n is → IsNested rank n js → IsNested rank n (cond b is js)
cond_items n true is js p q = p
cond_items n false is js p q = q

cond_option : (b : Bool) (o q : Option Form) → IfSome o Nested → IfSome q Nested → IfSome (cond b o q) Nested
cond_option true o q p r = p
cond_option false o q p r = r

when_nested : (b : Bool) (f : Form) → Nested f → IfSome (when b f) Nested
when_nested true f p = p
when_nested false f p = tt

or_else_nested : (o q : Option Form) → IfSome o Nested → IfSome q Nested → IfSome (or_else o q) Nested
or_else_nested None q p r = r
or_else_nested (Some f) q p r = p

-- ---- statements and members

if_form_nested : (x : Terminal) → Nested (if_form x)
if_form_nested t.Colon = (omega arith, (omega arith, (omega arith, tt)))
if_form_nested _ = (omega arith, (omega arith, tt))

static_form_nested : (x : Terminal) → Nested (static_form x)
static_form_nested t.Variable = (omega arith, (omega arith, tt))
static_form_nested _ = tt

function_form_nested : (x y : Terminal) → Nested (function_form x y)
function_form_nested x y = cond_form (is_any_label (name_of_function x y)) _ _ (omega arith, (omega arith, (omega arith, tt))) tt

namespace_form_nested : (x : Terminal) → Nested (namespace_form x)
namespace_form_nested t.Backslash = tt
namespace_form_nested _ = (omega arith, tt)

label_form_nested : (x : Terminal) → Nested (label_form x)
label_form_nested t.Colon = tt
label_form_nested _ = tt

statement_nested : (x : Terminal) (ts : List Token) → IfSome (chosen_by x ts) Nested
statement_nested t.If ts = if_form_nested (first_of (past_group 0 (drop 1 ts)))
statement_nested t.Static ts = static_form_nested (second_of ts)
statement_nested t.Function ts = function_form_nested (second_of ts) (third_of ts)
statement_nested t.Namespace ts = namespace_form_nested (second_of ts)
statement_nested t.Label ts = label_form_nested (second_of ts)
statement_nested t.Match ts = label_form_nested (second_of ts)
statement_nested t.Readonly ts = label_form_nested (second_of ts)
statement_nested t.MixedOrNever ts = label_form_nested (second_of ts)
statement_nested _ ts = tt

case_form_nested : (x : Terminal) → IfSome (case_form x) Nested
case_form_nested t.Case = (omega arith, (omega arith, tt))
case_form_nested t.Default = (omega arith, (omega arith, tt))
case_form_nested _ = tt

modified_nested : (x : Terminal) → Nested (modified_form x)
modified_nested t.Function = (omega arith, (omega arith, (omega arith, (omega arith, (omega arith, tt)))))
modified_nested t.Const = (omega arith, (omega arith, tt))
modified_nested _ = (omega arith, (omega arith, (omega arith, (omega arith, tt))))

trait_use_nested : (x : Terminal) → IfSome (trait_use_form x) Nested
trait_use_nested t.Use = (omega arith, (omega arith, (omega arith, tt)))
trait_use_nested _ = tt

attribute_83_nested : (x : Terminal) → IsNested rank 0 (attribute_83 x)
attribute_83_nested t.AttributeOpen = tt
attribute_83_nested _ = tt

attribute_nested : (v : Version) (x : Terminal) → IsNested rank 0 (attribute v x)
attribute_nested V74 x = tt
attribute_nested V83 x = attribute_83_nested x

-- ---- expressions

dollar_form_nested : (x : Terminal) → Nested (dollar_form x)
dollar_form_nested t.OpenBrace = tt
dollar_form_nested _ = tt

static_name_nested : (ts : List Token) → Nested (static_name_form ts)
static_name_nested ts = cond_form (is_called ts) _ _ (omega arith, (omega arith, tt))
    (cond_form (is_variable_start (first_of ts)) _ _ (omega arith, (omega arith, tt)) (omega arith, tt))

name_nested_by : (x : Terminal) (ts : List Token) → Nested (name_by x ts)
name_nested_by t.OpenParen ts = (omega arith, tt)
name_nested_by t.DoubleColon ts = static_name_nested (drop 1 ts)
name_nested_by _ ts = (omega arith, tt)

static_class_nested : (ts : List Token) → Nested (static_member_form ts)
static_class_nested ts = cond_form (is_called ts) _ _ (omega arith, tt) (cond_form (is_variable_start (first_of ts)) _ _ (omega arith, tt) tt)

static_nested : (x : Terminal) (ts : List Token) → IfSome (static_by x ts) Nested
static_nested t.Function ts = (omega arith, (omega arith, (omega arith, (omega arith, tt))))
static_nested t.Fn ts = (omega arith, (omega arith, (omega arith, tt)))
static_nested t.DoubleColon ts = static_class_nested (drop 2 ts)
static_nested _ ts = tt

bracket_nested : (b : Bool) → Nested (bracket_form b)
bracket_nested true = (omega arith, (omega arith, tt))
bracket_nested false = (omega arith, tt)

array_word_nested : (x : Terminal) → IfSome (array_word_form x) Nested
array_word_nested t.OpenParen = (omega arith, tt)
array_word_nested _ = tt

old_cast_nested : (v : Version) → IfSome (old_cast_form v) Nested
old_cast_nested V74 = tt
old_cast_nested V83 = tt

operand_by_nested : (v : Version) (x : Terminal) (ts : List Token) → IfSome (operand_by v x ts) Nested
operand_by_nested v t.Dollar ts = dollar_form_nested (second_of ts)
operand_by_nested v t.Static ts = static_nested (second_of ts) ts
operand_by_nested v t.OpenBracket ts = bracket_nested (is_assign (first_of (past_group 0 ts)))
operand_by_nested v t.Array ts = array_word_nested (second_of ts)
operand_by_nested v t.List ts = (omega arith, (omega arith, tt))
operand_by_nested v t.OldCast ts = old_cast_nested v
operand_by_nested v _ ts = tt

named_nested : (ts : List Token) → IfSome (named_form ts) Nested
named_nested ts = cond_option (is_name_part (first_of ts)) (Some (name_form (behind_name ts))) None (name_nested_by (first_of (behind_name ts)) (behind_name ts)) tt

operand_nested : (v : Version) (ts : List Token) → IfSome (operand_form v ts) Nested
operand_nested v ts =
    or_else_nested (or_else (named_form ts) (atom_form (first_of ts))) (chosen_operand v ts)
    (or_else_nested (named_form ts) (atom_form (first_of ts)) (named_nested ts) (atom_form_nested (first_of ts))) (operand_by_nested v (first_of ts) ts)

place_nested : (v : Version) (ts : List Token) → IfSome (place_form v ts) Nested
place_nested v ts = cond_option (begins_place (first_of ts)) (operand_form v ts) None (operand_nested v ts) tt

target_by_nested : (x : Terminal) (ts : List Token) → IfSome (target_by x ts) Nested
target_by_nested t.OpenBracket ts = bracket_nested (not (goes_on (first_of (past_group 0 ts))))
target_by_nested t.List ts = (omega arith, (omega arith, tt))
target_by_nested _ ts = tt

entry_by_nested : (x : Terminal) (ts : List Token) → IfSome (entry_by x ts) Nested
entry_by_nested t.OpenBracket ts = bracket_nested (ends_item (first_of (past_group 0 ts)))
entry_by_nested _ ts = tt

simple_variable_nested : (x : Terminal) (ts : List Token) → IfSome (simple_variable_by x ts) Nested
simple_variable_nested t.Variable ts = tt
simple_variable_nested t.Dollar ts = dollar_form_nested (second_of ts)
simple_variable_nested _ ts = tt

static_prop_nested : (x : Terminal) → IfSome (static_prop_form x) Nested
static_prop_nested t.Static = (omega arith, tt)
static_prop_nested _ = tt

named_prop_nested : (x : Terminal) → IfSome (named_prop_form x) Nested
named_prop_nested x = when_nested (is_name_part x) _ (omega arith, (omega arith, tt))

class_ref_nested : (ts : List Token) → IfSome (class_ref_form ts) Nested
class_ref_nested ts =
    or_else_nested (or_else (named_prop_form (first_of ts)) (static_prop_form (first_of ts))) (simple_variable_form ts)
    (or_else_nested (named_prop_form (first_of ts)) (static_prop_form (first_of ts)) (named_prop_nested (first_of ts)) (static_prop_nested (first_of ts)))
    (simple_variable_nested (first_of ts) ts)

created_nested_by : (x : Terminal) (ts : List Token) → IsNested rank 4 (created_by x ts)
created_nested_by t.Class ts = (omega arith, (omega arith, (omega arith, (omega arith, tt))))
created_nested_by t.Static ts = cond_items 4 (is_double_colon (second_of ts)) _ _ (omega arith, tt) (omega arith, tt)
created_nested_by _ ts = (omega arith, tt)

created_nested : (ts : List Token) → IsNested rank 4 (created ts)
created_nested ts =
    cond_items 4 (is_name_part (first_of ts)) _ _ (cond_items 4 (is_double_colon (first_of (behind_name ts))) _ _ (omega arith, tt) (omega arith, (omega arith, tt)))
    (created_nested_by (first_of ts) ts)

instance_nested_by : (x : Terminal) (ts : List Token) → IsNested rank 2 (instance_by x ts)
instance_nested_by t.Static ts = cond_items 2 (is_double_colon (second_of ts)) _ _ tt tt
instance_nested_by _ ts = tt

instance_nested : (ts : List Token) → IsNested rank 2 (instance_ref ts)
instance_nested ts =
    cond_items 2 (is_name_part (first_of ts)) _ _ (cond_items 2 (is_double_colon (first_of (behind_name ts))) _ _ tt (omega arith, tt))
    (instance_nested_by (first_of ts) ts)

yield_nested_by : (o : Option Form) → IsNested rank 1 (yield_by o)
yield_nested_by None = tt
yield_nested_by (Some f) = (omega arith, tt)

-- ---- what goes on behind a node

brace_tail_nested : (v : Version) (k : NodeKind) → IfSome (brace_tail v k) Nested
brace_tail_nested V74 k = when_nested (is_offset_base k) _ tt
brace_tail_nested V83 k = tt

member_tail_nested : (ts : List Token) → Nested (member_tail ts)
member_tail_nested ts = cond_form (is_called ts) _ _ (omega arith, tt) (omega arith, tt)

static_tail_nested : (ts : List Token) → Nested (static_tail ts)
static_tail_nested ts = cond_form (is_called ts) _ _ (omega arith, tt) (cond_form (is_variable_start (first_of ts)) _ _ (omega arith, tt) tt)

postfix_nested : (v : Version) (k : NodeKind) (x : Terminal) (ts : List Token) → IfSome (postfix_by v k x ts) Nested
postfix_nested v k t.OpenBracket ts = when_nested (is_offset_base k) _ (omega arith, tt)
postfix_nested v k t.OpenBrace ts = brace_tail_nested v k
postfix_nested v k t.Arrow ts = when_nested (is_member_base k) _ (member_tail_nested (drop 1 ts))
postfix_nested v k t.DoubleColon ts = when_nested (is_class_base k) _ (static_tail_nested (drop 1 ts))
postfix_nested v k t.OpenParen ts = when_nested (is_callee k) _ tt
postfix_nested v k _ ts = tt

assign_nested : (k : NodeKind) (x : Terminal) → IfSome (assign_tail k x) Nested
assign_nested k t.Ampersand = when_nested (is_target k) _ tt
assign_nested k _ = when_nested (is_target k || is_list k) _ tt

ternary_nested : (v : Version) (limit left : ℕ) (k : NodeKind) (x : Terminal) → IfSome (ternary_tail v limit left k x) Nested
ternary_nested v limit left k t.Colon = when_nested (nat_le 18 limit && short_left_fits v left k) _ tt
ternary_nested v limit left k _ = when_nested (nat_le 18 limit && left_fits v left) _ tt

dot_items_nested : (v : Version) → IsNested rank 7 (dot_items v)
dot_items_nested V74 = tt
dot_items_nested V83 = tt

binary_items_nested : (v : Version) (x : Terminal) → IsNested rank 7 (binary_items v x)
binary_items_nested v t.Dot = dot_items_nested v
binary_items_nested v _ = tt

operator_nested : (v : Version) (limit left : ℕ) (k : NodeKind) (x : Terminal) (ts : List Token) → IfSome (operator_by v limit left k x ts) Nested
operator_nested v limit left k t.Assign ts = assign_nested k (second_of ts)
operator_nested v limit left k t.CompoundAssign ts = when_nested (is_target k) _ tt
operator_nested v limit left k t.Step ts = when_nested (is_target k) _ tt
operator_nested v limit left k t.InstanceOf ts = when_nested (nat_le 4 limit && nat_le left 4) _ (omega arith, tt)
operator_nested v limit left k t.Question ts = ternary_nested v limit left k (second_of ts)
operator_nested v limit left k _ ts = tt

binary_tail_nested : (v : Version) (limit left : ℕ) (x : Terminal) → IfSome (binary_tail v limit left x) Nested
binary_tail_nested v limit left x = when_nested (nat_lt 0 (binary_level v x) && nat_le (binary_level v x) limit && nat_le left (left_limit v x)) _ (binary_items_nested v x)

operator_tail_nested : (v : Version) (limit left : ℕ) (k : NodeKind) (ts : List Token) → IfSome (operator_tail v limit left k ts) Nested
operator_tail_nested v limit left k ts = or_else_nested (chosen_tail v limit left k ts)
    (binary_tail v limit left (first_of ts)) (operator_nested v limit left k (first_of ts) ts)
    (binary_tail_nested v limit left (first_of ts))

operand_tail_nested : (v : Version) (limit : ℕ) (x : Tree) (ts : List Token) → IfSome (operand_tail v limit x ts) Nested
operand_tail_nested v limit x ts =
    or_else_nested (postfix_tail v x.0 ts) (operator_tail v limit (left_edge v x) x.0 ts)
    (postfix_nested v x.0 (first_of ts) ts) (operator_tail_nested v limit (left_edge v x) x.0 ts)

refused_nested : (b : Bool) → IfSome (refused_unless b) Nested
refused_nested true = tt
refused_nested false = tt

read_tail_nested : (v : Version) (limit : ℕ) (x : Tree) (ts : List Token) → IfSome (read_tail v limit x ts) Nested
read_tail_nested v limit x ts =
    cond_option (is_misindented x) refused (or_else (operand_tail v limit x ts) (refused_unless (not (is_list x.0))))
    tt (or_else_nested (operand_tail v limit x ts) (refused_unless (not (is_list x.0)))
    (operand_tail_nested v limit x ts) (refused_nested (not (is_list x.0))))

entry_tail_nested : (v : Version) (x : Tree) (ts : List Token) → IfSome (entry_tail v x ts) Nested
entry_tail_nested v x ts =
    cond_option (is_misindented x) refused (or_else (operand_tail v 24 x ts) (entry_end x.0 (first_of ts))) tt
    (or_else_nested (operand_tail v 24 x ts) (entry_end x.0 (first_of ts)) (operand_tail_nested v 24 x ts)
    (cond_option (is_double_arrow (first_of ts)) (refused_unless (not (is_list x.0)))
    (refused_unless (is_target x.0 || is_list x.0)) (refused_nested (not (is_list x.0)))
    (refused_nested (is_target x.0 || is_list x.0))))

place_tail_nested : (v : Version) (x : Tree) (ts : List Token) → IfSome (place_tail v x ts) Nested
place_tail_nested v x ts =
    cond_option (is_misindented x) refused (or_else (postfix_tail v x.0 ts) (refused_unless (is_target x.0))) tt
    (or_else_nested (postfix_tail v x.0 ts) (refused_unless (is_target x.0))
    (postfix_nested v x.0 (first_of ts) ts) (refused_nested (is_target x.0)))

target_tail_nested : (v : Version) (x : Tree) (ts : List Token) → IfSome (target_tail v x ts) Nested
target_tail_nested v x ts = cond_option (is_list x.0) None (place_tail v x ts) tt (place_tail_nested v x ts)

class_ref_tail_nested : (v : Version) (k : NodeKind) (x : Terminal) (ts : List Token) → IfSome (class_ref_by v k x ts) Nested
class_ref_tail_nested v k t.OpenBracket ts = (omega arith, tt)
class_ref_tail_nested v k t.OpenBrace ts = brace_tail_nested v k
class_ref_tail_nested v k t.Arrow ts = (omega arith, tt)
class_ref_tail_nested v k t.DoubleColon ts = when_nested (is_variable_start (second_of ts)) _ (omega arith, tt)
class_ref_tail_nested v k _ ts = tt

embedded_nested : (v : Version) (k : NodeKind) (ts : List Token) → IfSome (embedded_tail v k ts) Nested
embedded_nested v k ts =
    or_else_nested (postfix_tail v k ts) (refused_unless (is_variable_expression k)) (postfix_nested v k (first_of ts) ts)
    (refused_nested (is_variable_expression k))

interpolated_nested : (k : NodeKind) (x : Terminal) → IfSome (interpolated_by k x) Nested
interpolated_nested k t.OpenBracket = when_nested (is_variable k) _ (omega arith, tt)
interpolated_nested k t.Arrow = when_nested (is_variable k) _ tt
interpolated_nested k _ = tt

-- ---- the tables

plain_variable_nested : (x : Terminal) → IfSome (plain_variable_form x) Nested
plain_variable_nested t.Variable = tt
plain_variable_nested _ = tt

form_nested : (v : Version) (o : Sort) (ts : List Token) → IfSome (form v o ts) Nested
form_nested v s.Statement ts = or_else_nested (chosen_form ts) (Some (simple_form (first_of ts))) (statement_nested (first_of ts) ts) (simple_form_nested (first_of ts))
form_nested v s.Block ts = (omega arith, tt)
form_nested v s.Case ts = case_form_nested (first_of ts)
form_nested v s.Member ts = or_else_nested (trait_use_form (first_of ts)) (Some (modified_form (behind_modifiers ts)))
    (trait_use_nested (first_of ts)) (modified_nested (behind_modifiers ts))
form_nested v s.Param ts = (omega arith, (omega arith, (omega arith, (omega arith, tt))))
form_nested v s.TypeName ts = (omega arith, (omega arith, tt))
form_nested v s.Args ts = (omega arith, tt)
form_nested v s.Item ts = item_form_nested (first_of ts)
form_nested v s.ListItem ts = list_item_form_nested (first_of ts)
form_nested v (s.Operand limit) ts = operand_nested v ts
form_nested v s.Entry ts = or_else_nested (entry_list_form ts) (operand_form v ts) (entry_by_nested (first_of ts) ts) (operand_nested v ts)
form_nested v s.Target ts = or_else_nested (target_list_form ts) (place_form v ts) (target_by_nested (first_of ts) ts) (place_nested v ts)
form_nested v s.Place ts = place_nested v ts
form_nested v s.SimpleVariable ts = simple_variable_nested (first_of ts) ts
form_nested v s.PlainVariable ts = plain_variable_nested (first_of ts)
form_nested v s.ClassRef ts = class_ref_nested ts
form_nested v s.Interpolated ts = plain_variable_nested (first_of ts)
form_nested v s.Embedded ts = simple_variable_nested (first_of ts) ts

tail_nested : (v : Version) (o : Sort) (x : Tree) (ts : List Token) → IfSome (tail v o x ts) Nested
tail_nested v (s.Operand limit) x ts = read_tail_nested v limit x ts
tail_nested v s.Entry x ts = entry_tail_nested v x ts
tail_nested v s.Target x ts = target_tail_nested v x ts
tail_nested v s.Place x ts = place_tail_nested v x ts
tail_nested v s.ClassRef x ts = class_ref_tail_nested v x.0 (first_of ts) ts
tail_nested v s.Interpolated x ts = interpolated_nested x.0 (first_of ts)
tail_nested v s.Embedded x ts = embedded_nested v x.0 ts
tail_nested v _ x ts = tt

parts_nested : (v : Version) (group : Group) (ts : List Token) → IsNested rank (rank group) (parts v group ts)
parts_nested v g.Name ts = name_nested v
parts_nested v g.CalledName ts = called_name_nested v
parts_nested v g.NamespaceName ts = namespace_name_nested v
parts_nested v g.NameLead ts = name_lead_nested (first_of ts)
parts_nested v g.NameMore ts = name_more_nested (first_of ts) (second_of ts)
parts_nested v g.MoreNames ts = more_names_nested (first_of ts)
parts_nested v g.ImportedName ts = imported_name_nested v
parts_nested v g.ImportedClass ts = imported_class_nested v
parts_nested v g.GroupedName ts = grouped_name_nested v
parts_nested v g.GroupedClass ts = grouped_class_nested v
parts_nested v g.RootLead ts = root_lead_nested (first_of ts)
parts_nested v g.Statements ts = statements_nested (first_of ts)
parts_nested v g.ElseIfs ts = else_ifs_nested (first_of ts)
parts_nested v g.ElsePart ts = else_part_nested (first_of ts)
parts_nested v g.AltElseIfs ts = alt_else_ifs_nested (first_of ts)
parts_nested v g.AltElse ts = alt_else_nested (first_of ts)
parts_nested v g.WhileBody ts = while_body_nested (first_of ts)
parts_nested v g.ForBody ts = for_body_nested (first_of ts)
parts_nested v g.ForeachBody ts = foreach_body_nested (first_of ts)
parts_nested v g.DeclareBody ts = declare_body_nested (first_of ts)
parts_nested v g.SwitchBody ts = switch_body_nested (first_of ts)
parts_nested v g.FirstSemi ts = first_semi_nested (first_of ts)
parts_nested v g.Cases ts = cases_nested (first_of ts)
parts_nested v g.CaseMark ts = case_mark_nested (first_of ts)
parts_nested v g.MoreExprs ts = more_exprs_nested (first_of ts)
parts_nested v g.ReturnValue ts = return_value_nested (first_of ts)
parts_nested v g.Exprs ts = exprs_nested (first_of ts)
parts_nested v g.ForeachTarget ts = foreach_target_nested (first_of ts)
parts_nested v g.ForeachValue ts = foreach_value_nested (first_of ts)
parts_nested v g.LoopCount ts = loop_count_nested (first_of ts)
parts_nested v g.MoreGlobals ts = more_globals_nested (first_of ts)
parts_nested v g.Handlers ts = handlers_nested (first_of ts)
parts_nested v g.Catches ts = catches_nested (first_of ts)
parts_nested v g.CaughtNames ts = caught_names_nested (first_of ts)
parts_nested v g.FinallyPart ts = finally_part_nested (first_of ts)
parts_nested v g.MoreDirectives ts = more_directives_nested (first_of ts)
parts_nested v g.MoreUnset ts = more_unset_nested (first_of ts) (second_of ts)
parts_nested v g.ByRef ts = by_ref_nested (first_of ts)
parts_nested v g.FirstValue ts = first_value_nested (first_of ts)
parts_nested v g.MoreVariables ts = more_variables_nested (first_of ts)
parts_nested v g.Params ts = params_nested (first_of ts)
parts_nested v g.MoreParams ts = more_params_nested (first_of ts)
parts_nested v g.ParamType ts = param_type_nested (first_of ts)
parts_nested v g.Variadic ts = variadic_nested (first_of ts)
parts_nested v g.ReturnType ts = return_type_nested (first_of ts)
parts_nested v g.Nullable ts = nullable_nested (first_of ts)
parts_nested v g.TypeWord ts = type_word_nested (first_of ts)
parts_nested v g.ClassModifiers ts = class_modifiers_nested (first_of ts)
parts_nested v g.Extends ts = extends_nested (first_of ts)
parts_nested v g.Parents ts = parents_nested (first_of ts)
parts_nested v g.Implements ts = implements_nested (first_of ts)
parts_nested v g.Members ts = members_nested (first_of ts)
parts_nested v g.Modifiers ts = modifiers_nested (first_of ts)
parts_nested v g.PropertyType ts = property_type_nested (first_of ts)
parts_nested v g.MethodBody ts = method_body_nested (first_of ts)
parts_nested v g.MoreClassConsts ts = more_class_consts_nested (first_of ts)
parts_nested v g.TraitRules ts = trait_rules_nested (first_of ts)
parts_nested v g.MoreConsts ts = more_consts_nested (first_of ts)
parts_nested v g.NamespaceBody ts = namespace_body_nested (first_of ts)
parts_nested v g.NamespaceRest ts = namespace_rest_nested (first_of ts)
parts_nested v g.UseBody ts = use_body_nested (first_of ts)
parts_nested v g.UseRest ts = use_rest_nested (first_of ts)
parts_nested v g.MoreUses ts = more_uses_nested (first_of ts)
parts_nested v g.Alias ts = alias_nested (first_of ts)
parts_nested v g.Grouped ts = grouped_nested (first_of ts)
parts_nested v g.MoreGrouped ts = more_grouped_nested (first_of ts) (second_of ts)
parts_nested v g.ClassUseRest ts = class_use_rest_nested (first_of ts)
parts_nested v g.MoreClassUses ts = more_class_uses_nested (first_of ts)
parts_nested v g.ClassAlias ts = class_alias_nested (first_of ts)
parts_nested v g.ClassGrouped ts = class_grouped_nested (first_of ts)
parts_nested v g.MoreClassGrouped ts = more_class_grouped_nested (first_of ts) (second_of ts)
parts_nested v g.UsedClass ts = used_class_nested (second_of ts)
parts_nested v g.UsedGrouped ts = used_grouped_nested (second_of ts)
parts_nested v g.ArgList ts = arg_list_nested (first_of ts)
parts_nested v g.MoreArgs ts = more_args_nested (first_of ts) (second_of ts)
parts_nested v g.ArrayItems ts = array_items_nested (first_of ts)
parts_nested v g.MoreItems ts = more_items_nested (first_of ts) (second_of ts)
parts_nested v g.ItemValue ts = item_value_nested (first_of ts)
parts_nested v g.ListHead ts = list_head_nested (first_of ts)
parts_nested v g.ListMore ts = list_more_nested (first_of ts)
parts_nested v g.EntryValue ts = entry_value_nested (first_of ts)
parts_nested v g.QuotedParts ts = quoted_parts_nested (first_of ts) (second_of ts)
parts_nested v g.NamedKey ts = named_key_nested (first_of ts)
parts_nested v g.SimpleKey ts = simple_key_nested (first_of ts)
parts_nested v g.ExitValue ts = exit_value_nested (first_of ts)
parts_nested v g.ExitCode ts = exit_code_nested (first_of ts)
parts_nested v g.YieldTo ts = yield_to_nested (first_of ts)
parts_nested v g.ClosureUse ts = closure_use_nested (first_of ts)
parts_nested v g.MoreUsed ts = more_used_nested (first_of ts)
parts_nested v g.CtorArgs ts = ctor_args_nested (first_of ts)
parts_nested v g.OffsetKey ts = offset_key_nested (first_of ts)
parts_nested v g.Member ts = member_nested (first_of ts)
parts_nested v g.StaticMember ts = static_member_nested (first_of ts)
parts_nested v g.YieldValue ts = yield_nested_by (operand_form v ts)
parts_nested v g.Created ts = created_nested ts
parts_nested v g.InstanceRef ts = instance_nested ts
parts_nested v g.Attribute ts = attribute_nested v (first_of ts)

from_some : (o : Option Form) (f : Form) → IfSome o Nested → o ≡ Some f → Nested f
from_some None f h e = absurd cc
from_some (Some g) f h e = let P : Option Form → Type 0 = λ o. IfSome o Nested in subst P e h

-- No group of the grammar leads back to itself other than through a node.
pub php_ranked : (v : Version) → Ranked (php v) 7 rank
php_ranked v = record {
  forms = λ o ts f e. from_some (form v o ts) f (form_nested v o ts) e;
  tails = λ o x ts f e. from_some (tail v o x ts) f (tail_nested v o x ts) e;
  groups = parts_nested v;
}
