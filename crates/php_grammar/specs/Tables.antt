-- The tables of the grammar of both versions.
use Rattle.std.specs.Prelude.{ℕ, Bool, List, [], ◌∷◌, Option, Some, None}
use Rattle.php_tree.specs.declared.kind.NodeKind.{NodeKind}
use Rattle.php_tree.specs.declared.kind.NodeKind.TheVariants as k
use Rattle.php_tree.specs.declared.token.Token.{Token}
use Rattle.php_tree.specs.declared.version.Version.{Version}
use Rattle.php_tree.specs.Tree.{Tree}
use Rattle.php_terminals.specs.declared.terminal.Terminal.{Terminal}
use Rattle.php_terminals.specs.declared.terminal.Terminal.TheVariants as t
use Rattle.php_forms.specs.declared.item.Sort.{Sort}
use Rattle.php_forms.specs.declared.item.Sort.TheVariants as s
use Rattle.php_forms.specs.declared.item.Group.{Group}
use Rattle.php_forms.specs.declared.item.Group.TheVariants as g
use Rattle.php_forms.specs.declared.item.Item.{Item}
use Rattle.php_forms.specs.declared.item.Item.TheVariants.{Word, Part, Repeats}
use Rattle.php_grammar.specs.Accepts.{accepts}
use Rattle.php_terminals.specs.Ahead.{first_of, second_of, spanned}
use Rattle.php_forms.specs.Names.{called_name, grouped_class, grouped_name, imported_class, imported_name, more_names, name, name_lead, name_more, namespace_name, root_lead}
use Rattle.php_forms.specs.Statements.{
  alt_else,
  alt_else_ifs,
  case_mark,
  cases,
  catches,
  caught_names,
  declare_body,
  else_ifs,
  else_part,
  exprs,
  finally_part,
  first_semi,
  for_body,
  foreach_body,
  foreach_target,
  foreach_value,
  handlers,
  loop_count,
  more_directives,
  more_exprs,
  more_globals,
  more_unset,
  return_value,
  statements,
  switch_body,
  while_body,
}
use Rattle.php_forms.specs.Declarations.{
  alias,
  by_ref,
  class_alias,
  class_grouped,
  class_modifiers,
  class_use_rest,
  extends,
  first_value,
  grouped,
  implements,
  members,
  method_body,
  modifiers,
  more_class_consts,
  more_class_grouped,
  more_class_uses,
  more_consts,
  more_grouped,
  more_params,
  more_uses,
  more_variables,
  namespace_body,
  namespace_rest,
  nullable,
  param_type,
  params,
  parents,
  property_type,
  return_type,
  trait_rules,
  type_word,
  use_body,
  use_rest,
  used_class,
  used_grouped,
  variadic,
}
use Rattle.php_forms.specs.Lists.{arg_list, array_items, entry_value, item_form, item_value, list_head, list_item_form, list_more, more_args, more_items}
use Rattle.php_forms.specs.Quoted.{named_key, quoted_parts, simple_key}
use Rattle.php_forms.specs.Atoms.{closure_use, ctor_args, exit_code, exit_value, member, more_used, offset_key, static_member, yield_to}
use Rattle.php_forms.specs.Grammar.{Form, Tables}
use Rattle.php_forms.specs.Heads.{attribute, case_form, member_form, statement_form}
use Rattle.php_grammar.specs.Operands.{class_ref_form, created, entry_form, instance_ref, operand_form, place_form, simple_variable_form, target_form, yield_value}
use Rattle.php_grammar.specs.Edges.{edge}
use Rattle.php_grammar.specs.Tails.{class_ref_tail, embedded_tail, entry_by, interpolated_tail, place_by, read_by, target_by}
use Rattle.php_terminals.specs.Indents.{is_misindented}

-- a variable alone
abbrev pub plain_variable_form : Terminal → Option Form
plain_variable_form t.Variable = Some (k.Variable, Word t.Variable ∷ [])
plain_variable_form _ = None

-- the form with which a node of a sort begins, or none where the tokens begin none
abbrev pub form : Version → Sort → List Token → Option Form
form v s.Statement ts = statement_form ts
form v s.Block ts = Some (k.Block, Word t.OpenBrace ∷ Repeats g.Statements ∷ Word t.CloseBrace ∷ [])
form v s.Case ts = case_form (first_of ts)
form v s.Member ts = member_form ts
form v s.Param ts = Some (k.Param, Part g.ParamType ∷ Part g.ByRef ∷ Part g.Variadic ∷ Word t.Variable ∷ Part g.FirstValue ∷ [])
form v s.TypeName ts = Some (k.TypeName, Part g.Nullable ∷ Part g.TypeWord ∷ [])
form v s.Args ts = Some (k.Args, Part g.ArgList ∷ [])
form v s.Item ts = Some (item_form (first_of ts))
form v s.ListItem ts = Some (list_item_form (first_of ts))
form v (s.Operand limit) ts = operand_form v ts
form v s.Entry ts = entry_form v ts
form v s.Target ts = target_form v ts
form v s.Place ts = place_form v ts
form v s.SimpleVariable ts = simple_variable_form ts
form v s.PlainVariable ts = plain_variable_form (first_of ts)
form v s.ClassRef ts = class_ref_form ts
form v s.Interpolated ts = plain_variable_form (first_of ts)
form v s.Embedded ts = simple_variable_form ts

-- the items of a group, or none where it isn't there
abbrev pub parts : Version → Group → List Token → List Item
parts v g.Name ts = name v
parts v g.CalledName ts = called_name v
parts v g.NamespaceName ts = namespace_name v
parts v g.NameLead ts = name_lead (first_of ts)
parts v g.NameMore ts = name_more (first_of ts) (second_of ts)
parts v g.MoreNames ts = more_names (first_of ts)
parts v g.ImportedName ts = imported_name v
parts v g.ImportedClass ts = imported_class v
parts v g.GroupedName ts = grouped_name v
parts v g.GroupedClass ts = grouped_class v
parts v g.RootLead ts = root_lead (first_of ts)
parts v g.Statements ts = statements (first_of ts)
parts v g.ElseIfs ts = else_ifs (first_of ts)
parts v g.ElsePart ts = else_part (first_of ts)
parts v g.AltElseIfs ts = alt_else_ifs (first_of ts)
parts v g.AltElse ts = alt_else (first_of ts)
parts v g.WhileBody ts = while_body (first_of ts)
parts v g.ForBody ts = for_body (first_of ts)
parts v g.ForeachBody ts = foreach_body (first_of ts)
parts v g.DeclareBody ts = declare_body (first_of ts)
parts v g.SwitchBody ts = switch_body (first_of ts)
parts v g.FirstSemi ts = first_semi (first_of ts)
parts v g.Cases ts = cases (first_of ts)
parts v g.CaseMark ts = case_mark (first_of ts)
parts v g.MoreExprs ts = more_exprs (first_of ts)
parts v g.ReturnValue ts = return_value (first_of ts)
parts v g.Exprs ts = exprs (first_of ts)
parts v g.ForeachTarget ts = foreach_target (first_of ts)
parts v g.ForeachValue ts = foreach_value (first_of ts)
parts v g.LoopCount ts = loop_count (first_of ts)
parts v g.MoreGlobals ts = more_globals (first_of ts)
parts v g.Handlers ts = handlers (first_of ts)
parts v g.Catches ts = catches (first_of ts)
parts v g.CaughtNames ts = caught_names (first_of ts)
parts v g.FinallyPart ts = finally_part (first_of ts)
parts v g.MoreDirectives ts = more_directives (first_of ts)
parts v g.MoreUnset ts = more_unset (first_of ts) (second_of ts)
parts v g.ByRef ts = by_ref (first_of ts)
parts v g.FirstValue ts = first_value (first_of ts)
parts v g.MoreVariables ts = more_variables (first_of ts)
parts v g.Params ts = params (first_of ts)
parts v g.MoreParams ts = more_params (first_of ts)
parts v g.ParamType ts = param_type (first_of ts)
parts v g.Variadic ts = variadic (first_of ts)
parts v g.ReturnType ts = return_type (first_of ts)
parts v g.Nullable ts = nullable (first_of ts)
parts v g.TypeWord ts = type_word (first_of ts)
parts v g.ClassModifiers ts = class_modifiers (first_of ts)
parts v g.Extends ts = extends (first_of ts)
parts v g.Parents ts = parents (first_of ts)
parts v g.Implements ts = implements (first_of ts)
parts v g.Members ts = members (first_of ts)
parts v g.Modifiers ts = modifiers (first_of ts)
parts v g.PropertyType ts = property_type (first_of ts)
parts v g.MethodBody ts = method_body (first_of ts)
parts v g.MoreClassConsts ts = more_class_consts (first_of ts)
parts v g.TraitRules ts = trait_rules (first_of ts)
parts v g.MoreConsts ts = more_consts (first_of ts)
parts v g.NamespaceBody ts = namespace_body (first_of ts)
parts v g.NamespaceRest ts = namespace_rest (first_of ts)
parts v g.UseBody ts = use_body (first_of ts)
parts v g.UseRest ts = use_rest (first_of ts)
parts v g.MoreUses ts = more_uses (first_of ts)
parts v g.Alias ts = alias (first_of ts)
parts v g.Grouped ts = grouped (first_of ts)
parts v g.MoreGrouped ts = more_grouped (first_of ts) (second_of ts)
parts v g.ClassUseRest ts = class_use_rest (first_of ts)
parts v g.MoreClassUses ts = more_class_uses (first_of ts)
parts v g.ClassAlias ts = class_alias (first_of ts)
parts v g.ClassGrouped ts = class_grouped (first_of ts)
parts v g.MoreClassGrouped ts = more_class_grouped (first_of ts) (second_of ts)
parts v g.UsedClass ts = used_class (second_of ts)
parts v g.UsedGrouped ts = used_grouped (second_of ts)
parts v g.ArgList ts = arg_list (first_of ts)
parts v g.MoreArgs ts = more_args (first_of ts) (second_of ts)
parts v g.ArrayItems ts = array_items (first_of ts)
parts v g.MoreItems ts = more_items (first_of ts) (second_of ts)
parts v g.ItemValue ts = item_value (first_of ts)
parts v g.ListHead ts = list_head (first_of ts)
parts v g.ListMore ts = list_more (first_of ts)
parts v g.EntryValue ts = entry_value (first_of ts)
parts v g.QuotedParts ts = quoted_parts (first_of ts) (second_of ts)
parts v g.NamedKey ts = named_key (first_of ts)
parts v g.SimpleKey ts = simple_key (first_of ts)
parts v g.ExitValue ts = exit_value (first_of ts)
parts v g.ExitCode ts = exit_code (first_of ts)
parts v g.YieldTo ts = yield_to (first_of ts)
parts v g.ClosureUse ts = closure_use (first_of ts)
parts v g.MoreUsed ts = more_used (first_of ts)
parts v g.CtorArgs ts = ctor_args (first_of ts)
parts v g.OffsetKey ts = offset_key (first_of ts)
parts v g.Member ts = member (first_of ts)
parts v g.StaticMember ts = static_member (first_of ts)
parts v g.YieldValue ts = yield_value v ts
parts v g.Created ts = created ts
parts v g.InstanceRef ts = instance_ref ts
parts v g.Attribute ts = attribute v (first_of ts)

-- the form that goes on behind a node of a kind, which has an edge and may be misindented
abbrev pub tail_by : Version → Sort → NodeKind → ℕ → Bool → List Token → Option Form
tail_by v (s.Operand limit) kind own misindented ts = read_by v limit kind own misindented ts
tail_by v s.Entry kind own misindented ts = entry_by v kind own misindented ts
tail_by v s.Target kind own misindented ts = target_by v kind misindented ts
tail_by v s.Place kind own misindented ts = place_by v kind misindented ts
tail_by v s.ClassRef kind own misindented ts = class_ref_tail v kind ts
tail_by v s.Interpolated kind own misindented ts = interpolated_tail kind ts
tail_by v s.Embedded kind own misindented ts = embedded_tail v kind ts
tail_by v _ kind own misindented ts = None

-- the form that goes on behind a node, or none where the node ends
abbrev pub tail : Version → Sort → Tree → List Token → Option Form
tail v sort x ts = tail_by v sort x.0 (edge v x) (is_misindented x) ts

-- how many tokens a span takes: those before the brace that closes none among them
abbrev pub span : List Token → ℕ
span ts = spanned 0 ts

-- the grammar of a version
abbrev pub php : Version → Tables
php v = record { accepts = accepts v; form = form v; parts = parts v; span = span; tail = tail v }
