-- Which nodes may stand before what (PHP language specification, "Expressions": primary and postfix expressions).
use Rattle.std.specs.Prelude.{Bool, true, false}
use Rattle.php_tree.specs.declared.kind.NodeKind.{NodeKind}
use Rattle.php_tree.specs.declared.kind.NodeKind.TheVariants as k
use Rattle.php_grammar.specs.declared.bases.Role.{Role}
use Rattle.php_grammar.specs.declared.bases.Role.TheVariants as r

-- the role of a node
abbrev pub role_of : NodeKind → Role
role_of k.Variable = r.Variable
role_of k.Offset = r.Element
role_of k.BraceOffset = r.Element
role_of k.Prop = r.Property
role_of k.StaticProp = r.Property
role_of k.Call = r.Call
role_of k.MethodCall = r.Call
role_of k.StaticCall = r.Call
role_of k.Array = r.Literal
role_of k.Text = r.Literal
role_of k.Constant = r.Constant
role_of k.ClassConstant = r.Constant
role_of k.Paren = r.Paren
role_of k.List = r.List
role_of k.ShortTernary = r.ShortTernary
role_of _ = r.Other

-- a node that may stand before an offset
abbrev pub is_offset_base_role : Role → Bool
is_offset_base_role r.Variable = true
is_offset_base_role r.Element = true
is_offset_base_role r.Property = true
is_offset_base_role r.Call = true
is_offset_base_role r.Literal = true
is_offset_base_role r.Constant = true
is_offset_base_role r.Paren = true
is_offset_base_role _ = false

abbrev pub is_offset_base : NodeKind → Bool
is_offset_base kind = is_offset_base_role (role_of kind)

-- a node that may stand before `->`
abbrev pub is_member_base_role : Role → Bool
is_member_base_role r.Variable = true
is_member_base_role r.Element = true
is_member_base_role r.Property = true
is_member_base_role r.Call = true
is_member_base_role r.Literal = true
is_member_base_role r.Paren = true
is_member_base_role _ = false

abbrev pub is_member_base : NodeKind → Bool
is_member_base kind = is_member_base_role (role_of kind)

-- a node that may stand before arguments
abbrev pub is_callee_role : Role → Bool
is_callee_role r.Variable = true
is_callee_role r.Element = true
is_callee_role r.Call = true
is_callee_role r.Literal = true
is_callee_role r.Paren = true
is_callee_role _ = false

abbrev pub is_callee : NodeKind → Bool
is_callee kind = is_callee_role (role_of kind)

-- a node that may stand before `::`
abbrev pub is_class_base_role : Role → Bool
is_class_base_role r.Variable = true
is_class_base_role r.Element = true
is_class_base_role r.Property = true
is_class_base_role r.Call = true
is_class_base_role r.Paren = true
is_class_base_role _ = false

abbrev pub is_class_base : NodeKind → Bool
is_class_base kind = is_class_base_role (role_of kind)

-- a node that may be written
abbrev pub is_target_role : Role → Bool
is_target_role r.Variable = true
is_target_role r.Element = true
is_target_role r.Property = true
is_target_role _ = false

abbrev pub is_target : NodeKind → Bool
is_target kind = is_target_role (role_of kind)

-- a list form
abbrev pub is_list_role : Role → Bool
is_list_role r.List = true
is_list_role _ = false

abbrev pub is_list : NodeKind → Bool
is_list kind = is_list_role (role_of kind)

-- a `?:`
abbrev pub is_short_ternary_role : Role → Bool
is_short_ternary_role r.ShortTernary = true
is_short_ternary_role _ = false

abbrev pub is_short_ternary : NodeKind → Bool
is_short_ternary kind = is_short_ternary_role (role_of kind)

-- a variable expression (`variable` in PHP's grammar, `zend_language_parser.y`)
abbrev pub is_variable_expression_role : Role → Bool
is_variable_expression_role r.Variable = true
is_variable_expression_role r.Element = true
is_variable_expression_role r.Property = true
is_variable_expression_role r.Call = true
is_variable_expression_role _ = false

abbrev pub is_variable_expression : NodeKind → Bool
is_variable_expression kind = is_variable_expression_role (role_of kind)

-- a variable
abbrev pub is_variable_role : Role → Bool
is_variable_role r.Variable = true
is_variable_role _ = false

abbrev pub is_variable : NodeKind → Bool
is_variable kind = is_variable_role (role_of kind)
