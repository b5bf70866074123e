-- What a kind of node is to the names of its file.
use Rattle.std.specs.Prelude.{Bool, true, false, List, [], ◌++◌}
use Rattle.php_tree.specs.declared.kind.NodeKind.{NodeKind}
use Rattle.php_tree.specs.declared.kind.NodeKind.TheVariants as kind
use Rattle.php_tree.specs.Tree.{Forest}
use Rattle.scope_names.specs.Form.{Form, form, texts}
use Rattle.scope_names.specs.Sites.{Site, as_space, names_beside}
use Rattle.node_names.specs.Declares.{declares}
use Rattle.node_names.specs.Facts.{extends, includes}
use Rattle.file_declarations.specs.declared.node_ref.NodeRef.{NodeRef}
use Rattle.file_declarations.specs.declared.role.Role.{Role}
use Rattle.file_declarations.specs.declared.role.Role.TheVariants as role
use Rattle.file_declarations.specs.declared.told.Told.{Told}
use Rattle.file_declarations.specs.Told.{declared_told, extends_told, path_told}

abbrev pub role_of : NodeKind → Role
role_of kind.Function = role.Declares
role_of kind.Class = role.Class
role_of kind.Interface = role.Interface
role_of kind.Property = role.Declares
role_of kind.ClassConst = role.Declares
role_of kind.Method = role.Declares
role_of kind.Const = role.Declares
role_of kind.Namespace = role.Namespace
role_of kind.Use = role.Use
role_of kind.Include = role.Includes
role_of k = role.Plain

-- what a class or an interface tells
abbrev pub class_told : NodeKind → NodeRef → Bool → Form → Site → List Told
class_told k at top f s = declared_told at top (declares k f s) ++ extends_told (declares k f s) (extends k f s)

-- what a node of a role tells
abbrev pub told_by : Role → NodeRef → Bool → NodeKind → Forest → Site → List Told
told_by role.Declares at top k c s = declared_told at top (declares k (form c) s)
told_by role.Class at top k c s = class_told kind.Class at top (form c) s
told_by role.Interface at top k c s = class_told kind.Interface at top (form c) s
told_by role.Includes at top k c s = path_told at.file (includes kind.Include c s)
told_by role.Namespace at top k c s = []
told_by role.Use at top k c s = []
told_by role.Plain at top k c s = []

-- whether a node opens a namespace
abbrev pub is_space : NodeKind → Bool
is_space kind.Namespace = true
is_space k = false

-- where what follows it stands
abbrev pub beside_by : Role → Form → Site → Site
beside_by role.Declares f s = s
beside_by role.Class f s = s
beside_by role.Interface f s = s
beside_by role.Includes f s = s
beside_by role.Namespace f s = names_beside kind.Namespace f s
beside_by role.Use f s = names_beside kind.Use f s
beside_by role.Plain f s = s
