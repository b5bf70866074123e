-- Where kinds of nodes have the names that they use.
use Rattle.std.specs.Prelude.{List, []}
use Rattle.php_tree.specs.declared.kind.NodeKind.{NodeKind}
use Rattle.php_tree.specs.declared.kind.NodeKind.TheVariants as kind
use Rattle.scope_names.specs.Form.{Form}
use Rattle.scope_names.specs.Sites.{Site}
use Rattle.node_names.specs.Compared.{Use}
use Rattle.node_names.specs.Uses.{plain_uses, uses}
use Rattle.node_facts.specs.declared.use_role.UseRole.{UseRole}
use Rattle.node_facts.specs.declared.use_role.UseRole.TheVariants as role

abbrev pub class_role : NodeKind → UseRole
class_role kind.Class = role.Class
class_role kind.Interface = role.Interface
class_role kind.New = role.Classes
class_role kind.Try = role.Classes
class_role kind.InstanceOf = role.Classes
class_role kind.TypeName = role.TypeName
class_role k = role.Nothing

abbrev pub other_role : NodeKind → UseRole
other_role kind.Call = role.Call
other_role kind.Constant = role.Constant
other_role kind.ClassConstant = role.ClassConstant
other_role kind.StaticCall = role.StaticCall
other_role kind.StaticProp = role.StaticProp
other_role kind.Prop = role.Prop
other_role kind.MethodCall = role.MethodCall
other_role kind.Use = role.Import
other_role k = role.Nothing

-- this role, or else that one
abbrev pub role_or : UseRole → UseRole → UseRole
role_or role.Nothing s = s
role_or role.Class s = role.Class
role_or role.Interface s = role.Interface
role_or role.Classes s = role.Classes
role_or role.TypeName s = role.TypeName
role_or role.Call s = role.Call
role_or role.Constant s = role.Constant
role_or role.ClassConstant s = role.ClassConstant
role_or role.StaticCall s = role.StaticCall
role_or role.StaticProp s = role.StaticProp
role_or role.Prop s = role.Prop
role_or role.MethodCall s = role.MethodCall
role_or role.Import s = role.Import

abbrev pub use_role : NodeKind → UseRole
use_role k = role_or (class_role k) (other_role k)

-- what a node of a role uses
abbrev pub uses_by : UseRole → Form → Site → List Use
uses_by role.Class f s = plain_uses kind.Class f s
uses_by role.Interface f s = plain_uses kind.Interface f s
uses_by role.Classes f s = plain_uses kind.New f s
uses_by role.TypeName f s = plain_uses kind.TypeName f s
uses_by role.Call f s = plain_uses kind.Call f s
uses_by role.Constant f s = plain_uses kind.Constant f s
uses_by role.ClassConstant f s = plain_uses kind.ClassConstant f s
uses_by role.StaticCall f s = plain_uses kind.StaticCall f s
uses_by role.StaticProp f s = plain_uses kind.StaticProp f s
uses_by role.Prop f s = plain_uses kind.Prop f s
uses_by role.MethodCall f s = plain_uses kind.MethodCall f s
uses_by role.Import f s = uses kind.Use f s
uses_by role.Nothing f s = []
