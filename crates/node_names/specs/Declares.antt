-- What names a node declares. (PHP manual, "User-defined functions", "Classes and Objects", "Constants".)
use Rattle.std.specs.Prelude.{ℕ, codes, List, [], map, None}
use Rattle.php_tree.specs.declared.kind.NodeKind.{NodeKind}
use Rattle.php_tree.specs.declared.kind.NodeKind.TheVariants as kind
use Rattle.scope_names.specs.Form.{Form}
use Rattle.scope_names.specs.Sites.{Site, in_space}
use Rattle.node_names.specs.declared.name_sort.NameSort.TheVariants as sort
use Rattle.node_names.specs.declared.name.Name.{Name}
use Rattle.node_names.specs.Compared.{names_of}
use Rattle.node_names.specs.Spelled.{spelled_names, spelled_variables, behind_keyword, first_member, first_of, without_ampersand, before_equals}

-- the class that is declared behind a keyword, in a namespace
abbrev pub class_behind : List ℕ → Form → List ℕ → List Name
class_behind keyword f space =
    names_of sort.Class (map (in_space space) (first_of (spelled_names (behind_keyword keyword f))))

-- The names that a node of a form declares at a site, in the order of the source. An anonymous class declares none, and a
-- call of `define` is a call.
abbrev pub declares : NodeKind → Form → Site → List Name
declares kind.Function f s = names_of sort.Function (map (in_space s.space) (first_of (spelled_names f)))
declares kind.Class f s = class_behind (codes "class") f s.space
declares kind.Interface f s = class_behind (codes "interface") f s.space
declares kind.Const f s = names_of sort.Constant (map (in_space s.space) (spelled_names f))
declares kind.Method f s =
    names_of sort.Method (first_member (without_ampersand (behind_keyword (codes "function") f)))
declares kind.ClassConst f s = names_of sort.ClassConstant (before_equals None f)
declares kind.Property f s = names_of sort.Property (spelled_variables f)
declares k f s = []
