-- Where nodes may stand: by their kinds, and by the levels of operators (PHP manual, "Operator Precedence").
use Rattle.std.specs.Prelude.{ℕ, Bool, true, false, ◌&&◌, ◌||◌, nat_le}
use Rattle.php_tree.specs.declared.kind.NodeKind.{NodeKind}
use Rattle.php_tree.specs.declared.kind.NodeKind.TheVariants as k
use Rattle.php_tree.specs.declared.version.Version.{Version}
use Rattle.php_tree.specs.Tree.{Forest, Tree, none, leaf, node}
use Rattle.php_grammar.specs.Bases.{is_callee, is_class_base, is_list, is_member_base, is_offset_base, is_short_ternary, is_target, is_variable, is_variable_expression}
use Rattle.php_grammar.specs.Edges.{edge}
use Rattle.php_grammar.specs.Levels.{level}

-- A place for a node.
pub data Place : Type 0 where
  -- a statement
  Statement : Place
  -- a member of a class, an interface or a trait
  Member : Place
  -- the right operand of an operator: its own operator is of this level or a tighter one, or it is a prefix or an
  -- assignment, which may stand behind any operator
  Operand : ℕ → Place
  -- the left operand of an operator: no operator that reaches to its end is looser than this level
  Left : ℕ → Place
  -- a `?:` that is the left operand of another
  LeftShort : Place
  -- what may stand before `[`, and in 7.4 before `{`
  OffsetBase : Place
  -- what may stand before `->`
  MemberBase : Place
  -- what may stand before `::`
  ClassBase : Place
  -- what may stand before arguments
  Callee : Place
  -- what may be written
  Target : Place
  -- what may be written, or a list form
  TargetOrList : Place
  -- an expression that names a class, with no call in it outside of brackets and braces
  ClassName : Place
  -- a variable expression in braces in a quoted text
  Embedded : Place

-- whether a kind is a statement's
abbrev pub is_statement : NodeKind → Bool
is_statement k.Block = true
is_statement k.Empty = true
is_statement k.ExprStmt = true
is_statement k.Echo = true
is_statement k.Html = true
is_statement k.Return = true
is_statement k.If = true
is_statement k.IfAlt = true
is_statement k.While = true
is_statement k.DoWhile = true
is_statement k.For = true
is_statement k.Foreach = true
is_statement k.Switch = true
is_statement k.Break = true
is_statement k.Continue = true
is_statement k.Global = true
is_statement k.Statics = true
is_statement k.Unset = true
is_statement k.Throw = true
is_statement k.Try = true
is_statement k.Function = true
is_statement k.Class = true
is_statement k.Interface = true
is_statement k.Trait = true
is_statement k.Const = true
is_statement k.Namespace = true
is_statement k.Use = true
is_statement k.Declare = true
is_statement k.Goto = true
is_statement k.LabelStmt = true
is_statement _ = false

-- whether a kind is a member's
abbrev pub is_member : NodeKind → Bool
is_member k.Property = true
is_member k.ClassConst = true
is_member k.Method = true
is_member k.TraitUse = true
is_member _ = false

-- whether a kind is an expression's; a list form is none, since it must be assigned to
abbrev pub is_expression : NodeKind → Bool
is_expression k.Variable = true
is_expression k.Number = true
is_expression k.Float = true
is_expression k.Text = true
is_expression k.Quoted = true
is_expression k.Constant = true
is_expression k.ClassConstant = true
is_expression k.Array = true
is_expression k.Paren = true
is_expression k.Offset = true
is_expression k.BraceOffset = true
is_expression k.Prop = true
is_expression k.StaticProp = true
is_expression k.Call = true
is_expression k.MethodCall = true
is_expression k.StaticCall = true
is_expression k.New = true
is_expression k.Isset = true
is_expression k.EmptyTest = true
is_expression k.Exit = true
is_expression k.Closure = true
is_expression k.Arrow = true
is_expression k.Include = true
is_expression k.EvalTest = true
is_expression k.Binary = true
is_expression k.Prefix = true
is_expression k.Postfix = true
is_expression k.Cast = true
is_expression k.Ternary = true
is_expression k.ShortTernary = true
is_expression k.Assign = true
is_expression k.AssignRef = true
is_expression k.CompoundAssign = true
is_expression k.InstanceOf = true
is_expression k.Print = true
is_expression k.Yield = true
is_expression _ = false

-- whether a kind is that of a prefix or an assignment, which may stand behind any operator
abbrev pub is_prefix : NodeKind → Bool
is_prefix k.Prefix = true
is_prefix k.Cast = true
is_prefix k.Print = true
is_prefix k.Yield = true
is_prefix k.Include = true
is_prefix k.Arrow = true
is_prefix k.Assign = true
is_prefix k.AssignRef = true
is_prefix k.CompoundAssign = true
is_prefix _ = false

-- whether a kind is that of a variable, an offset or a property
abbrev pub is_class_name : NodeKind → Bool
is_class_name k.Variable = true
is_class_name k.Offset = true
is_class_name k.BraceOffset = true
is_class_name k.Prop = true
is_class_name k.StaticProp = true
is_class_name _ = false

-- whether parts begin with no node, or with one that is a variable, an offset or a property, and so are the nodes that
-- it begins with
abbrev pub begins_with_class_name : Forest → Bool
begins_with_class_name none = true
begins_with_class_name (leaf x f) = true
begins_with_class_name (node j b f) = is_class_name j && begins_with_class_name b

-- whether a kind is that of an offset, a member or a call
abbrev pub is_postfixed : NodeKind → Bool
is_postfixed k.Offset = true
is_postfixed k.BraceOffset = true
is_postfixed k.Prop = true
is_postfixed k.StaticProp = true
is_postfixed k.ClassConstant = true
is_postfixed k.Call = true
is_postfixed k.MethodCall = true
is_postfixed k.StaticCall = true
is_postfixed _ = false

-- whether parts begin with a variable, or with an offset, a member or a call that does
abbrev pub begins_with_variable : Forest → Bool
begins_with_variable none = false
begins_with_variable (leaf x f) = false
begins_with_variable (node j b f) = is_variable j || is_postfixed j && begins_with_variable b

-- whether a node may stand at a place
abbrev pub may_stand : Version → Place → Tree → Bool
may_stand v Statement x = is_statement x.0
may_stand v Member x = is_member x.0
may_stand v (Operand limit) x = is_expression x.0 && (nat_le (level v x) limit || is_prefix x.0)
may_stand v (Left limit) x = is_expression x.0 && nat_le (edge v x) limit
may_stand v LeftShort x = is_short_ternary x.0 && nat_le (edge v x) 18
may_stand v OffsetBase x = is_offset_base x.0
may_stand v MemberBase x = is_member_base x.0
may_stand v ClassBase x = is_class_base x.0
may_stand v Callee x = is_callee x.0
may_stand v Target x = is_target x.0
may_stand v TargetOrList x = is_target x.0 || is_list x.0
may_stand v ClassName x = is_class_name x.0 && begins_with_class_name x.1
may_stand v Embedded x = is_variable_expression x.0 && begins_with_variable (node x.0 x.1 none)
