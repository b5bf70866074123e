-- The items of groups, by the class of the next token, or of the next two.
use Rattle.std.proofs.Common.{◌≡◌, Bool, true, false, List, [], refl}
use Rattle.php_tree.specs.declared.version.Version.{Version}
use Rattle.php_tree.specs.declared.token.Token.{Token}
use Rattle.php_terminals.specs.declared.terminal.Terminal.{Terminal}
use Rattle.php_forms.specs.declared.item.Group.{Group}
use Rattle.php_forms.specs.declared.item.Group.TheVariants as g
use Rattle.php_forms.specs.declared.item.Item.{Item}
use Rattle.php_terminals.specs.Ahead.{first_of, second_of}
use Rattle.php_grammar.specs.Tables.{parts}
use Rattle.php_forms.specs.Names.{called_name, grouped_class, grouped_name, imported_class, imported_name, more_names, name, name_lead, name_more, namespace_name, root_lead}
use Rattle.php_forms.specs.Statements.{
  alt_else,
  alt_else_ifs,
  case_mark,
  cases,
  catches,
  caught_names,
  declare_body,
  else_ifs,
  else_part,
  exprs,
  finally_part,
  first_semi,
  for_body,
  foreach_body,
  foreach_target,
  foreach_value,
  handlers,
  loop_count,
  more_directives,
  more_exprs,
  more_globals,
  more_unset,
  return_value,
  statements,
  switch_body,
  while_body,
}
use Rattle.php_forms.specs.Declarations.{
  alias,
  by_ref,
  class_alias,
  class_grouped,
  class_modifiers,
  class_use_rest,
  extends,
  first_value,
  grouped,
  implements,
  members,
  method_body,
  modifiers,
  more_class_consts,
  more_class_grouped,
  more_class_uses,
  more_consts,
  more_grouped,
  more_params,
  more_uses,
  more_variables,
  namespace_body,
  namespace_rest,
  nullable,
  param_type,
  params,
  parents,
  property_type,
  return_type,
  trait_rules,
  type_word,
  use_body,
  use_rest,
  variadic,
}
use Rattle.php_forms.specs.Lists.{arg_list, array_items, entry_value, item_value, list_head, list_more, more_args, more_items}
use Rattle.php_forms.specs.Quoted.{named_key, quoted_parts, simple_key}
use Rattle.php_forms.specs.Atoms.{closure_use, ctor_args, exit_code, exit_value, member, more_used, offset_key, static_member, yield_to}
use Rattle.php_forms.specs.Heads.{attribute}

-- whether a group has the same items whatever comes
abbrev pub is_fixed : Group → Bool
is_fixed g.Name = true
is_fixed g.CalledName = true
is_fixed g.NamespaceName = true
is_fixed g.ImportedName = true
is_fixed g.ImportedClass = true
is_fixed g.GroupedName = true
is_fixed g.GroupedClass = true
is_fixed _ = false

-- whether the next token alone chooses the items of a group
abbrev pub looks_once : Group → Bool
looks_once g.UsedClass = false
looks_once g.UsedGrouped = false
looks_once g.YieldValue = false
looks_once g.Created = false
looks_once g.InstanceRef = false
looks_once g.NameMore = false
looks_once g.MoreUnset = false
looks_once g.MoreGrouped = false
looks_once g.MoreClassGrouped = false
looks_once g.MoreArgs = false
looks_once g.MoreItems = false
looks_once g.QuotedParts = false
looks_once _ = true

-- the items that the class of the next token chooses
abbrev pub parts_by : Version → Group → Terminal → List Item
parts_by v g.Name c = name v
parts_by v g.CalledName c = called_name v
parts_by v g.NamespaceName c = namespace_name v
parts_by v g.NameLead c = name_lead c
parts_by v g.MoreNames c = more_names c
parts_by v g.ImportedName c = imported_name v
parts_by v g.ImportedClass c = imported_class v
parts_by v g.GroupedName c = grouped_name v
parts_by v g.GroupedClass c = grouped_class v
parts_by v g.RootLead c = root_lead c
parts_by v g.Statements c = statements c
parts_by v g.ElseIfs c = else_ifs c
parts_by v g.ElsePart c = else_part c
parts_by v g.AltElseIfs c = alt_else_ifs c
parts_by v g.AltElse c = alt_else c
parts_by v g.WhileBody c = while_body c
parts_by v g.ForBody c = for_body c
parts_by v g.ForeachBody c = foreach_body c
parts_by v g.DeclareBody c = declare_body c
parts_by v g.SwitchBody c = switch_body c
parts_by v g.FirstSemi c = first_semi c
parts_by v g.Cases c = cases c
parts_by v g.CaseMark c = case_mark c
parts_by v g.MoreExprs c = more_exprs c
parts_by v g.ReturnValue c = return_value c
parts_by v g.Exprs c = exprs c
parts_by v g.ForeachTarget c = foreach_target c
parts_by v g.ForeachValue c = foreach_value c
parts_by v g.LoopCount c = loop_count c
parts_by v g.MoreGlobals c = more_globals c
parts_by v g.Handlers c = handlers c
parts_by v g.Catches c = catches c
parts_by v g.CaughtNames c = caught_names c
parts_by v g.FinallyPart c = finally_part c
parts_by v g.MoreDirectives c = more_directives c
parts_by v g.ByRef c = by_ref c
parts_by v g.FirstValue c = first_value c
parts_by v g.MoreVariables c = more_variables c
parts_by v g.Params c = params c
parts_by v g.MoreParams c = more_params c
parts_by v g.ParamType c = param_type c
parts_by v g.Variadic c = variadic c
parts_by v g.ReturnType c = return_type c
parts_by v g.Nullable c = nullable c
parts_by v g.TypeWord c = type_word c
parts_by v g.ClassModifiers c = class_modifiers c
parts_by v g.Extends c = extends c
parts_by v g.Parents c = parents c
parts_by v g.Implements c = implements c
parts_by v g.Members c = members c
parts_by v g.Modifiers c = modifiers c
parts_by v g.PropertyType c = property_type c
parts_by v g.MethodBody c = method_body c
parts_by v g.MoreClassConsts c = more_class_consts c
parts_by v g.TraitRules c = trait_rules c
parts_by v g.MoreConsts c = more_consts c
parts_by v g.NamespaceBody c = namespace_body c
parts_by v g.NamespaceRest c = namespace_rest c
parts_by v g.UseBody c = use_body c
parts_by v g.UseRest c = use_rest c
parts_by v g.MoreUses c = more_uses c
parts_by v g.Alias c = alias c
parts_by v g.Grouped c = grouped c
parts_by v g.ClassUseRest c = class_use_rest c
parts_by v g.MoreClassUses c = more_class_uses c
parts_by v g.ClassAlias c = class_alias c
parts_by v g.ClassGrouped c = class_grouped c
parts_by v g.ArgList c = arg_list c
parts_by v g.ArrayItems c = array_items c
parts_by v g.ItemValue c = item_value c
parts_by v g.ListHead c = list_head c
parts_by v g.ListMore c = list_more c
parts_by v g.EntryValue c = entry_value c
parts_by v g.NamedKey c = named_key c
parts_by v g.SimpleKey c = simple_key c
parts_by v g.ExitValue c = exit_value c
parts_by v g.ExitCode c = exit_code c
parts_by v g.YieldTo c = yield_to c
parts_by v g.ClosureUse c = closure_use c
parts_by v g.MoreUsed c = more_used c
parts_by v g.CtorArgs c = ctor_args c
parts_by v g.OffsetKey c = offset_key c
parts_by v g.Member c = member c
parts_by v g.StaticMember c = static_member c
parts_by v g.Attribute c = attribute v c
parts_by v _ c = []

pub parts_are : (v : Version) (group : Group) (ts : List Token) → looks_once group ≡ true → parts v group ts ≡ parts_by v group (first_of ts)
parts_are v g.Name ts e = refl
parts_are v g.CalledName ts e = refl
parts_are v g.NamespaceName ts e = refl
parts_are v g.NameLead ts e = refl
parts_are v g.MoreNames ts e = refl
parts_are v g.ImportedName ts e = refl
parts_are v g.ImportedClass ts e = refl
parts_are v g.GroupedName ts e = refl
parts_are v g.GroupedClass ts e = refl
parts_are v g.RootLead ts e = refl
parts_are v g.Statements ts e = refl
parts_are v g.ElseIfs ts e = refl
parts_are v g.ElsePart ts e = refl
parts_are v g.AltElseIfs ts e = refl
parts_are v g.AltElse ts e = refl
parts_are v g.WhileBody ts e = refl
parts_are v g.ForBody ts e = refl
parts_are v g.ForeachBody ts e = refl
parts_are v g.DeclareBody ts e = refl
parts_are v g.SwitchBody ts e = refl
parts_are v g.FirstSemi ts e = refl
parts_are v g.Cases ts e = refl
parts_are v g.CaseMark ts e = refl
parts_are v g.MoreExprs ts e = refl
parts_are v g.ReturnValue ts e = refl
parts_are v g.Exprs ts e = refl
parts_are v g.ForeachTarget ts e = refl
parts_are v g.ForeachValue ts e = refl
parts_are v g.LoopCount ts e = refl
parts_are v g.MoreGlobals ts e = refl
parts_are v g.Handlers ts e = refl
parts_are v g.Catches ts e = refl
parts_are v g.CaughtNames ts e = refl
parts_are v g.FinallyPart ts e = refl
parts_are v g.MoreDirectives ts e = refl
parts_are v g.ByRef ts e = refl
parts_are v g.FirstValue ts e = refl
parts_are v g.MoreVariables ts e = refl
parts_are v g.Params ts e = refl
parts_are v g.MoreParams ts e = refl
parts_are v g.ParamType ts e = refl
parts_are v g.Variadic ts e = refl
parts_are v g.ReturnType ts e = refl
parts_are v g.Nullable ts e = refl
parts_are v g.TypeWord ts e = refl
parts_are v g.ClassModifiers ts e = refl
parts_are v g.Extends ts e = refl
parts_are v g.Parents ts e = refl
parts_are v g.Implements ts e = refl
parts_are v g.Members ts e = refl
parts_are v g.Modifiers ts e = refl
parts_are v g.PropertyType ts e = refl
parts_are v g.MethodBody ts e = refl
parts_are v g.MoreClassConsts ts e = refl
parts_are v g.TraitRules ts e = refl
parts_are v g.MoreConsts ts e = refl
parts_are v g.NamespaceBody ts e = refl
parts_are v g.NamespaceRest ts e = refl
parts_are v g.UseBody ts e = refl
parts_are v g.UseRest ts e = refl
parts_are v g.MoreUses ts e = refl
parts_are v g.Alias ts e = refl
parts_are v g.Grouped ts e = refl
parts_are v g.ClassUseRest ts e = refl
parts_are v g.MoreClassUses ts e = refl
parts_are v g.ClassAlias ts e = refl
parts_are v g.ClassGrouped ts e = refl
parts_are v g.ArgList ts e = refl
parts_are v g.ArrayItems ts e = refl
parts_are v g.ItemValue ts e = refl
parts_are v g.ListHead ts e = refl
parts_are v g.ListMore ts e = refl
parts_are v g.EntryValue ts e = refl
parts_are v g.NamedKey ts e = refl
parts_are v g.SimpleKey ts e = refl
parts_are v g.ExitValue ts e = refl
parts_are v g.ExitCode ts e = refl
parts_are v g.YieldTo ts e = refl
parts_are v g.ClosureUse ts e = refl
parts_are v g.MoreUsed ts e = refl
parts_are v g.CtorArgs ts e = refl
parts_are v g.OffsetKey ts e = refl
parts_are v g.Member ts e = refl
parts_are v g.StaticMember ts e = refl
parts_are v g.Attribute ts e = refl
parts_are v g.UsedClass ts e = absurd cc
parts_are v g.UsedGrouped ts e = absurd cc
parts_are v g.YieldValue ts e = absurd cc
parts_are v g.Created ts e = absurd cc
parts_are v g.InstanceRef ts e = absurd cc
parts_are v g.NameMore ts e = absurd cc
parts_are v g.MoreUnset ts e = absurd cc
parts_are v g.MoreGrouped ts e = absurd cc
parts_are v g.MoreClassGrouped ts e = absurd cc
parts_are v g.MoreArgs ts e = absurd cc
parts_are v g.MoreItems ts e = absurd cc
parts_are v g.QuotedParts ts e = absurd cc

-- whether the next two tokens choose the items of a group
abbrev pub looks_twice : Group → Bool
looks_twice g.NameMore = true
looks_twice g.MoreUnset = true
looks_twice g.MoreGrouped = true
looks_twice g.MoreClassGrouped = true
looks_twice g.MoreArgs = true
looks_twice g.MoreItems = true
looks_twice g.QuotedParts = true
looks_twice _ = false

-- the items that the classes of the next two tokens choose
abbrev pub parts_by_two : Version → Group → Terminal → Terminal → List Item
parts_by_two v g.NameMore c d = name_more c d
parts_by_two v g.MoreUnset c d = more_unset c d
parts_by_two v g.MoreGrouped c d = more_grouped c d
parts_by_two v g.MoreClassGrouped c d = more_class_grouped c d
parts_by_two v g.MoreArgs c d = more_args c d
parts_by_two v g.MoreItems c d = more_items c d
parts_by_two v g.QuotedParts c d = quoted_parts c d
parts_by_two v _ c d = []

pub parts_are_two : (v : Version) (group : Group) (ts : List Token) → looks_twice group ≡ true → parts v group ts ≡ parts_by_two v group (first_of ts) (second_of ts)
parts_are_two v g.NameMore ts e = refl
parts_are_two v g.MoreUnset ts e = refl
parts_are_two v g.MoreGrouped ts e = refl
parts_are_two v g.MoreClassGrouped ts e = refl
parts_are_two v g.MoreArgs ts e = refl
parts_are_two v g.MoreItems ts e = refl
parts_are_two v g.QuotedParts ts e = refl
parts_are_two v g.Name ts e = absurd cc
parts_are_two v g.CalledName ts e = absurd cc
parts_are_two v g.NamespaceName ts e = absurd cc
parts_are_two v g.NameLead ts e = absurd cc
parts_are_two v g.MoreNames ts e = absurd cc
parts_are_two v g.ImportedName ts e = absurd cc
parts_are_two v g.ImportedClass ts e = absurd cc
parts_are_two v g.GroupedName ts e = absurd cc
parts_are_two v g.GroupedClass ts e = absurd cc
parts_are_two v g.RootLead ts e = absurd cc
parts_are_two v g.Statements ts e = absurd cc
parts_are_two v g.ElseIfs ts e = absurd cc
parts_are_two v g.ElsePart ts e = absurd cc
parts_are_two v g.AltElseIfs ts e = absurd cc
parts_are_two v g.AltElse ts e = absurd cc
parts_are_two v g.WhileBody ts e = absurd cc
parts_are_two v g.ForBody ts e = absurd cc
parts_are_two v g.ForeachBody ts e = absurd cc
parts_are_two v g.DeclareBody ts e = absurd cc
parts_are_two v g.SwitchBody ts e = absurd cc
parts_are_two v g.FirstSemi ts e = absurd cc
parts_are_two v g.Cases ts e = absurd cc
parts_are_two v g.CaseMark ts e = absurd cc
parts_are_two v g.MoreExprs ts e = absurd cc
parts_are_two v g.ReturnValue ts e = absurd cc
parts_are_two v g.Exprs ts e = absurd cc
parts_are_two v g.ForeachTarget ts e = absurd cc
parts_are_two v g.ForeachValue ts e = absurd cc
parts_are_two v g.LoopCount ts e = absurd cc
parts_are_two v g.MoreGlobals ts e = absurd cc
parts_are_two v g.Handlers ts e = absurd cc
parts_are_two v g.Catches ts e = absurd cc
parts_are_two v g.CaughtNames ts e = absurd cc
parts_are_two v g.FinallyPart ts e = absurd cc
parts_are_two v g.MoreDirectives ts e = absurd cc
parts_are_two v g.ByRef ts e = absurd cc
parts_are_two v g.FirstValue ts e = absurd cc
parts_are_two v g.MoreVariables ts e = absurd cc
parts_are_two v g.Params ts e = absurd cc
parts_are_two v g.MoreParams ts e = absurd cc
parts_are_two v g.ParamType ts e = absurd cc
parts_are_two v g.Variadic ts e = absurd cc
parts_are_two v g.ReturnType ts e = absurd cc
parts_are_two v g.Nullable ts e = absurd cc
parts_are_two v g.TypeWord ts e = absurd cc
parts_are_two v g.ClassModifiers ts e = absurd cc
parts_are_two v g.Extends ts e = absurd cc
parts_are_two v g.Parents ts e = absurd cc
parts_are_two v g.Implements ts e = absurd cc
parts_are_two v g.Members ts e = absurd cc
parts_are_two v g.Modifiers ts e = absurd cc
parts_are_two v g.PropertyType ts e = absurd cc
parts_are_two v g.MethodBody ts e = absurd cc
parts_are_two v g.MoreClassConsts ts e = absurd cc
parts_are_two v g.TraitRules ts e = absurd cc
parts_are_two v g.MoreConsts ts e = absurd cc
parts_are_two v g.NamespaceBody ts e = absurd cc
parts_are_two v g.NamespaceRest ts e = absurd cc
parts_are_two v g.UseBody ts e = absurd cc
parts_are_two v g.UseRest ts e = absurd cc
parts_are_two v g.MoreUses ts e = absurd cc
parts_are_two v g.Alias ts e = absurd cc
parts_are_two v g.Grouped ts e = absurd cc
parts_are_two v g.ClassUseRest ts e = absurd cc
parts_are_two v g.MoreClassUses ts e = absurd cc
parts_are_two v g.ClassAlias ts e = absurd cc
parts_are_two v g.ClassGrouped ts e = absurd cc
parts_are_two v g.ArgList ts e = absurd cc
parts_are_two v g.ArrayItems ts e = absurd cc
parts_are_two v g.ItemValue ts e = absurd cc
parts_are_two v g.ListHead ts e = absurd cc
parts_are_two v g.ListMore ts e = absurd cc
parts_are_two v g.EntryValue ts e = absurd cc
parts_are_two v g.NamedKey ts e = absurd cc
parts_are_two v g.SimpleKey ts e = absurd cc
parts_are_two v g.ExitValue ts e = absurd cc
parts_are_two v g.ExitCode ts e = absurd cc
parts_are_two v g.YieldTo ts e = absurd cc
parts_are_two v g.ClosureUse ts e = absurd cc
parts_are_two v g.MoreUsed ts e = absurd cc
parts_are_two v g.CtorArgs ts e = absurd cc
parts_are_two v g.OffsetKey ts e = absurd cc
parts_are_two v g.Member ts e = absurd cc
parts_are_two v g.StaticMember ts e = absurd cc
parts_are_two v g.Attribute ts e = absurd cc
parts_are_two v g.UsedClass ts e = absurd cc
parts_are_two v g.UsedGrouped ts e = absurd cc
parts_are_two v g.YieldValue ts e = absurd cc
parts_are_two v g.Created ts e = absurd cc
parts_are_two v g.InstanceRef ts e = absurd cc
