-- Names of functions, classes, constants and namespaces (PHP manual, "Name resolution rules"; RFC "Treat namespaced names
-- as single token"). In 7.4 a name is several tokens, in 8.3 one.
use Rattle.php_tree.specs.declared.version.Version.{Version}
use Rattle.php_tree.specs.declared.version.Version.TheVariants.{V74, V83}
use Rattle.php_terminals.specs.declared.terminal.Terminal.TheVariants as t
use Rattle.php_shapes.specs.Notation.{Rule, nothing, word, ◌~◌, ◌|||◌, many, maybe, commas}

-- the further parts of a name
abbrev pub more_of_name : Rule
more_of_name = many (word t.Backslash ~ word t.AnyLabel)

-- what a name may begin with
abbrev pub lead_of_name : Rule
lead_of_name = nothing ||| word t.Backslash ||| word t.Namespace ~ word t.Backslash

-- a name
abbrev pub name : Version → Rule
name V74 = lead_of_name ~ word t.AnyLabel ~ more_of_name
name V83 = word t.NameToken

-- the name of a function that is called
abbrev pub called_name : Version → Rule
called_name V74 = lead_of_name ~ word t.AnyLabel ~ more_of_name
called_name V83 = word t.CalledName

-- the name of a namespace
abbrev pub namespace_name : Version → Rule
namespace_name V74 = word t.AnyLabel ~ more_of_name
namespace_name V83 = word t.NamespaceToken

-- a name in a use of functions or constants, or one that a use gives an alias
abbrev pub imported_name : Version → Rule
imported_name V74 = maybe (word t.Backslash) ~ word t.AnyLabel ~ more_of_name
imported_name V83 = word t.ImportedName

-- a name in a use that it gives to a class
abbrev pub imported_class : Version → Rule
imported_class V74 = maybe (word t.Backslash) ~ word t.AnyLabel ~ more_of_name
imported_class V83 = word t.ImportedClass

-- the same two in the braces of a use
abbrev pub grouped_name : Version → Rule
grouped_name V74 = word t.AnyLabel ~ more_of_name
grouped_name V83 = word t.GroupedName

abbrev pub grouped_class : Version → Rule
grouped_class V74 = word t.AnyLabel ~ more_of_name
grouped_class V83 = word t.GroupedClass

-- names with commas between
abbrev pub names : Version → Rule
names v = commas (name v)
