-- The form of each kind of node, in both versions.
use Rattle.php_tree.specs.declared.kind.NodeKind.{NodeKind}
use Rattle.php_tree.specs.declared.kind.NodeKind.TheVariants as k
use Rattle.php_tree.specs.declared.version.Version.{Version}
use Rattle.php_terminals.specs.declared.terminal.Terminal.TheVariants as t
use Rattle.php_shapes.specs.Atoms.{array, arrow, closure, exit, isset, item, list, new, variable}
use Rattle.php_shapes.specs.Declarations.{
  class_const,
  class_declaration,
  const_declaration,
  function,
  interface_declaration,
  method,
  param,
  property,
  trait_declaration,
  trait_use,
  type_name,
}
use Rattle.php_shapes.specs.Names.{name}
use Rattle.php_shapes.specs.Namespaces.{namespace_declaration, use_declaration}
use Rattle.php_shapes.specs.Notation.{Rule, word, ◌~◌, expr, parens}
use Rattle.php_shapes.specs.Operators.{assign, assign_ref, binary, cast, compound_assign, include, instance_of, postfix, prefix, print, short_ternary, ternary, yield}
use Rattle.php_shapes.specs.Postfixes.{arguments, brace_offset, call, class_constant, method_call, offset, prop, static_call, static_prop}
use Rattle.php_shapes.specs.Quoted.{quoted}
use Rattle.php_shapes.specs.Statements.{
  block,
  case_of,
  declare_statement,
  do_while,
  echo,
  for_loop,
  foreach_loop,
  global,
  goto_statement,
  if_colons,
  if_else,
  jump,
  label,
  return,
  statics,
  switch,
  throw,
  try_statement,
  unset,
  while_loop,
}

-- what the parts of a node of a kind are
abbrev pub form : Version → NodeKind → Rule
form v k.Block = block
form v k.Empty = word t.Semi
form v k.ExprStmt = expr ~ word t.Semi
form v k.Echo = echo
form v k.Html = word t.InlineHtml
form v k.Return = return
form v k.If = if_else
form v k.IfAlt = if_colons
form v k.While = while_loop
form v k.DoWhile = do_while
form v k.For = for_loop
form v k.Foreach = foreach_loop
form v k.Switch = switch
form v k.Case = case_of
form v k.Break = jump t.Break
form v k.Continue = jump t.Continue
form v k.Global = global
form v k.Statics = statics
form v k.Unset = unset
form v k.Throw = throw
form v k.Try = try_statement v
form v k.Function = function
form v k.Param = param
form v k.TypeName = type_name v
form v k.Class = class_declaration v
form v k.Interface = interface_declaration v
form v k.Trait = trait_declaration
form v k.Property = property
form v k.ClassConst = class_const
form v k.Method = method
form v k.TraitUse = trait_use v
form v k.Const = const_declaration
form v k.Namespace = namespace_declaration v
form v k.Use = use_declaration v
form v k.Declare = declare_statement
form v k.Goto = goto_statement
form v k.LabelStmt = label
form v k.Variable = variable
form v k.Number = word t.Int
form v k.Float = word t.Float
form v k.Text = word t.Text
form v k.Quoted = quoted
form v k.Constant = name v
form v k.ClassConstant = class_constant v
form v k.Array = array
form v k.Item = item
form v k.List = list
form v k.Paren = parens expr
form v k.Offset = offset
form v k.BraceOffset = brace_offset v
form v k.Prop = prop
form v k.StaticProp = static_prop v
form v k.Call = call v
form v k.MethodCall = method_call
form v k.StaticCall = static_call v
form v k.Args = arguments
form v k.New = new v
form v k.Isset = isset
form v k.EmptyTest = word t.Empty ~ parens expr
form v k.Exit = exit
form v k.Closure = closure
form v k.Arrow = arrow
form v k.Include = include
form v k.EvalTest = word t.Eval ~ parens expr
form v k.Binary = binary v
form v k.Prefix = prefix
form v k.Postfix = postfix
form v k.Cast = cast v
form v k.Ternary = ternary v
form v k.ShortTernary = short_ternary v
form v k.Assign = assign
form v k.AssignRef = assign_ref
form v k.CompoundAssign = compound_assign
form v k.InstanceOf = instance_of v
form v k.Print = print
form v k.Yield = yield
