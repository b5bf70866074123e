-- Names of functions, classes, constants and namespaces.
use Rattle.std.specs.Prelude.{List, [], ◌∷◌}
use Rattle.php_tree.specs.declared.version.Version.{Version}
use Rattle.php_tree.specs.declared.version.Version.TheVariants.{V74, V83}
use Rattle.php_terminals.specs.declared.terminal.Terminal.{Terminal}
use Rattle.php_terminals.specs.declared.terminal.Terminal.TheVariants as t
use Rattle.php_forms.specs.declared.item.Group.TheVariants as g
use Rattle.php_forms.specs.declared.item.Item.{Item}
use Rattle.php_forms.specs.declared.item.Item.TheVariants.{Word, Part, Repeats}

-- a name
abbrev pub name : Version → List Item
name V74 = Part g.NameLead ∷ Word t.AnyLabel ∷ Repeats g.NameMore ∷ []
name V83 = Word t.NameToken ∷ []

-- the name of a function that is called
abbrev pub called_name : Version → List Item
called_name V74 = Part g.NameLead ∷ Word t.AnyLabel ∷ Repeats g.NameMore ∷ []
called_name V83 = Word t.CalledName ∷ []

-- the name of a namespace
abbrev pub namespace_name : Version → List Item
namespace_name V74 = Word t.AnyLabel ∷ Repeats g.NameMore ∷ []
namespace_name V83 = Word t.NamespaceToken ∷ []

-- what a name may begin with, in 7.4
abbrev pub name_lead : Terminal → List Item
name_lead t.Backslash = Word t.Backslash ∷ []
name_lead t.Namespace = Word t.Namespace ∷ Word t.Backslash ∷ []
name_lead _ = []

-- behind a backslash of a name
abbrev pub name_more_label : Terminal → List Item
name_more_label t.Label = Word t.Backslash ∷ Word t.AnyLabel ∷ []
name_more_label t.Match = Word t.Backslash ∷ Word t.AnyLabel ∷ []
name_more_label t.Readonly = Word t.Backslash ∷ Word t.AnyLabel ∷ []
name_more_label t.MixedOrNever = Word t.Backslash ∷ Word t.AnyLabel ∷ []
name_more_label _ = []

-- the further parts of a name, in 7.4
abbrev pub name_more : Terminal → Terminal → List Item
name_more t.Backslash following = name_more_label following
name_more _ following = []

-- the other names of a list
abbrev pub more_names : Terminal → List Item
more_names t.Comma = Word t.Comma ∷ Part g.Name ∷ []
more_names _ = []

-- a name in a use of functions or constants
abbrev pub imported_name : Version → List Item
imported_name V74 = Part g.RootLead ∷ Word t.AnyLabel ∷ Repeats g.NameMore ∷ []
imported_name V83 = Word t.ImportedName ∷ []

-- a name in a use that it gives to a class
abbrev pub imported_class : Version → List Item
imported_class V74 = Part g.RootLead ∷ Word t.AnyLabel ∷ Repeats g.NameMore ∷ []
imported_class V83 = Word t.ImportedClass ∷ []

-- a name in braces in a use of functions or constants
abbrev pub grouped_name : Version → List Item
grouped_name V74 = Word t.AnyLabel ∷ Repeats g.NameMore ∷ []
grouped_name V83 = Word t.GroupedName ∷ []

-- a name in braces in a use that it gives to a class
abbrev pub grouped_class : Version → List Item
grouped_class V74 = Word t.AnyLabel ∷ Repeats g.NameMore ∷ []
grouped_class V83 = Word t.GroupedClass ∷ []

-- the backslash that a name in a use may begin with, in 7.4
abbrev pub root_lead : Terminal → List Item
root_lead t.Backslash = Word t.Backslash ∷ []
root_lead _ = []
