-- Groups of the tables: the parts that the next tokens choose are what the group stands for.
use Rattle.std.proofs.Common.{◌≡◌, ◌<◌, false, List, [], ◌++◌, length, refl}
use Rattle.php_tree.specs.declared.kind.NodeKind.TheVariants as k
use Rattle.php_tree.specs.declared.token.Token.{Token}
use Rattle.php_tree.specs.declared.version.Version.{Version}
use Rattle.php_tree.specs.Tree.{Forest, none, ◌+++◌, leaves}
use Rattle.php_terminals.specs.declared.terminal.Terminal.{Terminal}
use Rattle.php_terminals.specs.declared.terminal.Terminal.TheVariants as t
use Rattle.php_terminals.specs.Ahead.{first_of, second_of}
use Rattle.php_forms.specs.declared.item.Group.{Group}
use Rattle.php_forms.specs.declared.item.Group.TheVariants as g
use Rattle.php_forms.specs.Statements.{else_ifs}
use Rattle.php_grammar.specs.Operands.{operand_form}
use Rattle.php_grammar.specs.Tables.{parts}
use Rattle.php_shapes.specs.Atoms as at
use Rattle.php_shapes.specs.Declarations as de
use Rattle.php_shapes.specs.Names as na
use Rattle.php_shapes.specs.Namespaces as ns
use Rattle.php_shapes.specs.Quoted as qu
use Rattle.php_shapes.specs.Statements as st
use Rattle.php_shapes.specs.Notation.{word, kind, place, ◌~◌, maybe, expr}
use Rattle.php_shapes.specs.Places.{Member}
use Rattle.php_shapes.specs.Shapes.{is_nothing, is_both, is_first, no_more}
use Rattle.php_shapes.proofs.Entries.{Meet, Meets, else_if_rule, entries, is_else_if, once, repeats}
use Rattle.php_shapes.proofs.Groups.{
  alias_once,
  alt_else_once,
  arg_list_once,
  array_items_once,
  by_ref_once,
  called_name_once,
  case_mark_once,
  closure_use_once,
  ctor_args_once,
  declare_body_once,
  exit_code_once,
  exit_value_once,
  exprs_once,
  extends_once,
  finally_part_once,
  first_semi_once,
  first_value_once,
  for_body_once,
  foreach_body_once,
  foreach_target_once,
  foreach_value_once,
  grouped_class_once,
  grouped_name_once,
  grouped_once,
  handlers_once,
  implements_once,
  imported_class_once,
  imported_name_once,
  item_value_once,
  list_head_once,
  loop_count_once,
  member_once,
  method_body_once,
  name_lead_once,
  name_once,
  named_key_once,
  namespace_body_once,
  namespace_name_once,
  namespace_rest_once,
  nullable_once,
  offset_key_once,
  param_type_once,
  params_once,
  parents_once,
  property_type_once,
  return_type_once,
  return_value_once,
  root_lead_once,
  simple_key_once,
  switch_body_once,
  type_word_once,
  use_rest_once,
  variadic_once,
  while_body_once,
}
use Rattle.php_shapes.proofs.Repeats.{
  alt_else_ifs_repeat,
  cases_repeat,
  catches_repeat,
  caught_names_repeat,
  class_modifiers_repeat,
  comma_again,
  else_ifs_repeat,
  list_more_repeat,
  members_repeat,
  modifiers_repeat,
  more_args_repeat,
  more_class_consts_repeat,
  more_class_grouped_repeat,
  more_consts_repeat,
  more_directives_repeat,
  more_exprs_repeat,
  more_globals_repeat,
  more_grouped_repeat,
  more_items_repeat,
  more_names_repeat,
  more_params_repeat,
  more_unset_repeat,
  more_used_repeat,
  more_uses_repeat,
  more_variables_repeat,
  name_more_repeat,
  once_again,
  quoted_parts_repeat,
  statements_repeat,
}
use Rattle.php_shapes.proofs.Told.{attribute_once, created_once, else_part_once, instance_ref_once, static_member_once, trait_rules_once, yield_to_once, yield_value_once}
use Rattle.php_shapes.proofs.Uses.{
  class_alias_once,
  class_grouped_once,
  class_use_rest_once,
  entry_value_once,
  more_class_uses_repeat,
  use_body_once,
  used_class_once,
  used_grouped_once,
}

no_else_if : (x : Terminal) → else_ifs x ≡ [] → is_else_if x ≡ false
no_else_if t.ElseIf e = absurd cc
no_else_if _ e = refl

-- a group that stands once
pub once_meets : (v : Version) (g : Group) (h : Forest) (ts : List Token) → Meet v (entries v (parts v g (leaves h ++ ts))) h ts → Meets v (once v g) h ts
once_meets v g.Name h ts m = name_once v h ts m
once_meets v g.CalledName h ts m = called_name_once v h ts m
once_meets v g.NamespaceName h ts m = namespace_name_once v h ts m
once_meets v g.ImportedName h ts m = imported_name_once v h ts m
once_meets v g.ImportedClass h ts m = imported_class_once v h ts m
once_meets v g.GroupedName h ts m = grouped_name_once v h ts m
once_meets v g.GroupedClass h ts m = grouped_class_once v h ts m
once_meets v g.NameLead h ts m = name_lead_once v (first_of (leaves h ++ ts)) h ts m
once_meets v g.RootLead h ts m = root_lead_once v (first_of (leaves h ++ ts)) h ts m
once_meets v g.AltElse h ts m = alt_else_once v (first_of (leaves h ++ ts)) h ts m
once_meets v g.WhileBody h ts m = while_body_once v (first_of (leaves h ++ ts)) h ts m
once_meets v g.ForBody h ts m = for_body_once v (first_of (leaves h ++ ts)) h ts m
once_meets v g.ForeachBody h ts m = foreach_body_once v (first_of (leaves h ++ ts)) h ts m
once_meets v g.DeclareBody h ts m = declare_body_once v (first_of (leaves h ++ ts)) h ts m
once_meets v g.SwitchBody h ts m = switch_body_once v (first_of (leaves h ++ ts)) h ts m
once_meets v g.FirstSemi h ts m = first_semi_once v (first_of (leaves h ++ ts)) h ts m
once_meets v g.CaseMark h ts m = case_mark_once v (first_of (leaves h ++ ts)) h ts m
once_meets v g.ReturnValue h ts m = return_value_once v (first_of (leaves h ++ ts)) h ts m
once_meets v g.Exprs h ts m = exprs_once v (first_of (leaves h ++ ts)) h ts m
once_meets v g.ForeachTarget h ts m = foreach_target_once v (first_of (leaves h ++ ts)) h ts m
once_meets v g.ForeachValue h ts m = foreach_value_once v (first_of (leaves h ++ ts)) h ts m
once_meets v g.LoopCount h ts m = loop_count_once v (first_of (leaves h ++ ts)) h ts m
once_meets v g.Handlers h ts m = handlers_once v (first_of (leaves h ++ ts)) h ts m
once_meets v g.FinallyPart h ts m = finally_part_once v (first_of (leaves h ++ ts)) h ts m
once_meets v g.ByRef h ts m = by_ref_once v (first_of (leaves h ++ ts)) h ts m
once_meets v g.FirstValue h ts m = first_value_once v (first_of (leaves h ++ ts)) h ts m
once_meets v g.Params h ts m = params_once v (first_of (leaves h ++ ts)) h ts m
once_meets v g.ParamType h ts m = param_type_once v (first_of (leaves h ++ ts)) h ts m
once_meets v g.Variadic h ts m = variadic_once v (first_of (leaves h ++ ts)) h ts m
once_meets v g.ReturnType h ts m = return_type_once v (first_of (leaves h ++ ts)) h ts m
once_meets v g.Nullable h ts m = nullable_once v (first_of (leaves h ++ ts)) h ts m
once_meets v g.TypeWord h ts m = type_word_once v (first_of (leaves h ++ ts)) h ts m
once_meets v g.Extends h ts m = extends_once v (first_of (leaves h ++ ts)) h ts m
once_meets v g.Parents h ts m = parents_once v (first_of (leaves h ++ ts)) h ts m
once_meets v g.Implements h ts m = implements_once v (first_of (leaves h ++ ts)) h ts m
once_meets v g.PropertyType h ts m = property_type_once v (first_of (leaves h ++ ts)) h ts m
once_meets v g.MethodBody h ts m = method_body_once v (first_of (leaves h ++ ts)) h ts m
once_meets v g.TraitRules h ts m = trait_rules_once v (first_of (leaves h ++ ts)) h ts m
once_meets v g.NamespaceBody h ts m = namespace_body_once v (first_of (leaves h ++ ts)) h ts m
once_meets v g.NamespaceRest h ts m = namespace_rest_once v (first_of (leaves h ++ ts)) h ts m
once_meets v g.UseBody h ts m = use_body_once v (first_of (leaves h ++ ts)) h ts m
once_meets v g.UseRest h ts m = use_rest_once v (first_of (leaves h ++ ts)) h ts m
once_meets v g.Alias h ts m = alias_once v (first_of (leaves h ++ ts)) h ts m
once_meets v g.Grouped h ts m = grouped_once v (first_of (leaves h ++ ts)) h ts m
once_meets v g.ClassAlias h ts m = class_alias_once v (first_of (leaves h ++ ts)) h ts m
once_meets v g.ClassGrouped h ts m = class_grouped_once v (first_of (leaves h ++ ts)) h ts m
once_meets v g.ArgList h ts m = arg_list_once v (first_of (leaves h ++ ts)) h ts m
once_meets v g.ArrayItems h ts m = array_items_once v (first_of (leaves h ++ ts)) h ts m
once_meets v g.ItemValue h ts m = item_value_once v (first_of (leaves h ++ ts)) h ts m
once_meets v g.ListHead h ts m = list_head_once v (first_of (leaves h ++ ts)) h ts m
once_meets v g.EntryValue h ts m = entry_value_once v (first_of (leaves h ++ ts)) h ts m
once_meets v g.NamedKey h ts m = named_key_once v (first_of (leaves h ++ ts)) h ts m
once_meets v g.SimpleKey h ts m = simple_key_once v (first_of (leaves h ++ ts)) h ts m
once_meets v g.ExitValue h ts m = exit_value_once v (first_of (leaves h ++ ts)) h ts m
once_meets v g.ExitCode h ts m = exit_code_once v (first_of (leaves h ++ ts)) h ts m
once_meets v g.ClosureUse h ts m = closure_use_once v (first_of (leaves h ++ ts)) h ts m
once_meets v g.CtorArgs h ts m = ctor_args_once v (first_of (leaves h ++ ts)) h ts m
once_meets v g.OffsetKey h ts m = offset_key_once v (first_of (leaves h ++ ts)) h ts m
once_meets v g.Member h ts m = member_once v (first_of (leaves h ++ ts)) h ts m
once_meets v g.Attribute h ts m = attribute_once v (first_of (leaves h ++ ts)) h ts m
once_meets v g.ElsePart h ts m = else_part_once v (first_of (leaves h ++ ts)) h ts refl m
once_meets v g.YieldTo h ts m = yield_to_once v (first_of (leaves h ++ ts)) h ts refl m
once_meets v g.StaticMember h ts m = static_member_once v (first_of (leaves h ++ ts)) h ts refl m
once_meets v g.ClassUseRest h ts m = class_use_rest_once v (first_of (leaves h ++ ts)) h ts refl m
once_meets v g.UsedClass h ts m = used_class_once v (second_of (leaves h ++ ts)) h ts refl m
once_meets v g.UsedGrouped h ts m = used_grouped_once v (second_of (leaves h ++ ts)) h ts refl m
once_meets v g.YieldValue h ts m = yield_value_once v (operand_form v (leaves h ++ ts)) h ts m
once_meets v g.Created h ts m = created_once v (leaves h ++ ts) h ts m
once_meets v g.InstanceRef h ts m = instance_ref_once v (leaves h ++ ts) h ts m
once_meets v _ h ts m = tt

-- no repeat of a group that stands any number of times
pub stop_meets : (v : Version) (g : Group) (rest : List Token) → parts v g rest ≡ [] → Meets v (repeats v g) none rest
stop_meets v g.NameMore rest e = no_more
stop_meets v g.MoreNames rest e = no_more
stop_meets v g.Statements rest e = no_more
stop_meets v g.ElseIfs rest e = (no_more, no_else_if (first_of rest) e)
stop_meets v g.AltElseIfs rest e = no_more
stop_meets v g.Cases rest e = no_more
stop_meets v g.MoreExprs rest e = no_more
stop_meets v g.MoreGlobals rest e = no_more
stop_meets v g.Catches rest e = no_more
stop_meets v g.CaughtNames rest e = no_more
stop_meets v g.MoreDirectives rest e = no_more
stop_meets v g.MoreUnset rest e = is_both no_more (is_first is_nothing) refl
stop_meets v g.MoreVariables rest e = no_more
stop_meets v g.MoreParams rest e = no_more
stop_meets v g.ClassModifiers rest e = no_more
stop_meets v g.Members rest e = no_more
stop_meets v g.Modifiers rest e = no_more
stop_meets v g.MoreClassConsts rest e = no_more
stop_meets v g.MoreConsts rest e = no_more
stop_meets v g.MoreUses rest e = no_more
stop_meets v g.MoreGrouped rest e = is_both no_more (is_first is_nothing) refl
stop_meets v g.MoreClassUses rest e = λ guard. no_more
stop_meets v g.MoreClassGrouped rest e = is_both no_more (is_first is_nothing) refl
stop_meets v g.MoreArgs rest e = is_both no_more (is_first is_nothing) refl
stop_meets v g.MoreItems rest e = is_both no_more (is_first is_nothing) refl
stop_meets v g.ListMore rest e = no_more
stop_meets v g.QuotedParts rest e = no_more
stop_meets v g.MoreUsed rest e = no_more
stop_meets v _ rest e = tt

-- one repeat more of such a group
pub repeat_meets : (v : Version) (g : Group) (h f : Forest) (rest : List Token)
    → Meet v (entries v (parts v g (leaves h ++ (leaves f ++ rest)))) h (leaves f ++ rest) → 0 < length (leaves h)
    → Meets v (repeats v g) f rest → Meets v (repeats v g) (h +++ f) rest
repeat_meets v g.NameMore h f rest m has p = once_again v (word t.Backslash ~ word t.AnyLabel) h f
    (name_more_repeat v (first_of (leaves h ++ (leaves f ++ rest))) (second_of (leaves h ++ (leaves f ++ rest))) h
    (leaves f ++ rest) m has) p
repeat_meets v g.MoreNames h f rest m has p = once_again v (word t.Comma ~ na.name v) h f (more_names_repeat v (first_of (leaves h ++ (leaves f ++ rest))) h (leaves f ++ rest) m has) p
repeat_meets v g.Statements h f rest m has p = once_again v (st.statement) h f (statements_repeat v (first_of (leaves h ++ (leaves f ++ rest))) h (leaves f ++ rest) m has) p
repeat_meets v g.ElseIfs h f rest m has p = (once_again v else_if_rule h f (else_ifs_repeat v (first_of (leaves h ++ (leaves f ++ rest))) h (leaves f ++ rest) m has) p.0, p.1)
repeat_meets v g.AltElseIfs h f rest m has p =
    once_again v (word t.ElseIf ~ st.condition ~ word t.Colon ~ st.statements) h f
    (alt_else_ifs_repeat v (first_of (leaves h ++ (leaves f ++ rest))) h (leaves f ++ rest) m has) p
repeat_meets v g.Cases h f rest m has p = once_again v (kind k.Case) h f (cases_repeat v (first_of (leaves h ++ (leaves f ++ rest))) h (leaves f ++ rest) m has) p
repeat_meets v g.MoreExprs h f rest m has p = once_again v (word t.Comma ~ expr) h f (more_exprs_repeat v (first_of (leaves h ++ (leaves f ++ rest))) h (leaves f ++ rest) m has) p
repeat_meets v g.MoreGlobals h f rest m has p = once_again v (word t.Comma ~ kind k.Variable) h f
    (more_globals_repeat v (first_of (leaves h ++ (leaves f ++ rest))) h (leaves f ++ rest) m has) p
repeat_meets v g.Catches h f rest m has p = once_again v (st.catch_part v) h f (catches_repeat v (first_of (leaves h ++ (leaves f ++ rest))) h (leaves f ++ rest) m has) p
repeat_meets v g.CaughtNames h f rest m has p = once_again v (word t.Bar ~ na.name v) h f
    (caught_names_repeat v (first_of (leaves h ++ (leaves f ++ rest))) h (leaves f ++ rest) m has) p
repeat_meets v g.MoreDirectives h f rest m has p = once_again v (word t.Comma ~ word t.FreeLabel ~ word t.Assign ~ expr)
    h f (more_directives_repeat v (first_of (leaves h ++ (leaves f ++ rest))) h (leaves f ++ rest) m has) p
repeat_meets v g.MoreUnset h f rest m has p = comma_again v (expr) h f rest
    (more_unset_repeat v (first_of (leaves h ++ (leaves f ++ rest))) (second_of (leaves h ++ (leaves f ++ rest))) h
    (leaves f ++ rest) refl m has) p
repeat_meets v g.MoreVariables h f rest m has p = once_again v (word t.Comma ~ st.declared_variable) h f
    (more_variables_repeat v (first_of (leaves h ++ (leaves f ++ rest))) h (leaves f ++ rest) m has) p
repeat_meets v g.MoreParams h f rest m has p = once_again v (word t.Comma ~ kind k.Param) h f
    (more_params_repeat v (first_of (leaves h ++ (leaves f ++ rest))) h (leaves f ++ rest) m has) p
repeat_meets v g.ClassModifiers h f rest m has p = once_again v (word t.ClassModifier) h f
    (class_modifiers_repeat v (first_of (leaves h ++ (leaves f ++ rest))) h (leaves f ++ rest) m has) p
repeat_meets v g.Members h f rest m has p = once_again v (place Member) h f (members_repeat v (first_of (leaves h ++ (leaves f ++ rest))) h (leaves f ++ rest) m has) p
repeat_meets v g.Modifiers h f rest m has p = once_again v (word t.Modifier) h f (modifiers_repeat v (first_of (leaves h ++ (leaves f ++ rest))) h (leaves f ++ rest) m has) p
repeat_meets v g.MoreClassConsts h f rest m has p = once_again v (word t.Comma ~ de.constant_of t.ConstantWord) h f
    (more_class_consts_repeat v (first_of (leaves h ++ (leaves f ++ rest))) h (leaves f ++ rest) m has) p
repeat_meets v g.MoreConsts h f rest m has p = once_again v (word t.Comma ~ de.constant_of t.FreeLabel) h f
    (more_consts_repeat v (first_of (leaves h ++ (leaves f ++ rest))) h (leaves f ++ rest) m has) p
repeat_meets v g.MoreUses h f rest m has p = once_again v (word t.Comma ~ ns.imported v) h f
    (more_uses_repeat v (first_of (leaves h ++ (leaves f ++ rest))) h (leaves f ++ rest) m has) p
repeat_meets v g.MoreGrouped h f rest m has p = comma_again v (ns.grouped_of_kind v) h f rest
    (more_grouped_repeat v (first_of (leaves h ++ (leaves f ++ rest))) (second_of (leaves h ++ (leaves f ++ rest))) h
    (leaves f ++ rest) refl m has) p
repeat_meets v g.MoreClassUses h f rest m has p = more_class_uses_repeat v (first_of (leaves h ++ (leaves f ++ rest))) h f rest m has p
repeat_meets v g.MoreClassGrouped h f rest m has p = comma_again v (ns.grouped_as_class v) h f rest
    (more_class_grouped_repeat v (first_of (leaves h ++ (leaves f ++ rest)))
    (second_of (leaves h ++ (leaves f ++ rest))) h (leaves f ++ rest) refl m has) p
repeat_meets v g.MoreArgs h f rest m has p = comma_again v (maybe (word t.Ellipsis) ~ expr) h f rest
    (more_args_repeat v (first_of (leaves h ++ (leaves f ++ rest))) (second_of (leaves h ++ (leaves f ++ rest))) h
    (leaves f ++ rest) refl m has) p
repeat_meets v g.MoreItems h f rest m has p = comma_again v (kind k.Item) h f rest
    (more_items_repeat v (first_of (leaves h ++ (leaves f ++ rest))) (second_of (leaves h ++ (leaves f ++ rest))) h
    (leaves f ++ rest) refl m has) p
repeat_meets v g.ListMore h f rest m has p = once_again v (word t.Comma ~ maybe at.list_item) h f
    (list_more_repeat v (first_of (leaves h ++ (leaves f ++ rest))) h (leaves f ++ rest) m has) p
repeat_meets v g.QuotedParts h f rest m has p = once_again v (qu.quoted_part) h f
    (quoted_parts_repeat v (first_of (leaves h ++ (leaves f ++ rest))) (second_of (leaves h ++ (leaves f ++ rest))) h
    (leaves f ++ rest) m has) p
repeat_meets v g.MoreUsed h f rest m has p = once_again v (word t.Comma ~ at.by_ref ~ word t.Variable) h f
    (more_used_repeat v (first_of (leaves h ++ (leaves f ++ rest))) h (leaves f ++ rest) m has) p
repeat_meets v _ h f rest m has p = tt
