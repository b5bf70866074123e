-- Namespaces and uses (PHP manual, "Namespaces", "Using namespaces: Aliasing/Importing"; RFC "Group Use Declarations").
use Rattle.php_tree.specs.declared.version.Version.{Version}
use Rattle.php_terminals.specs.declared.terminal.Terminal.TheVariants as t
use Rattle.php_shapes.specs.Names.{grouped_class, grouped_name, imported_class, imported_name, namespace_name}
use Rattle.php_shapes.specs.Notation.{Rule, word, ◌~◌, ◌|||◌, maybe, commas, commas_last, braces}
use Rattle.php_shapes.specs.Statements.{statements}

-- a namespace
abbrev pub namespace_declaration : Version → Rule
namespace_declaration v =
    word t.Namespace
    ~ (braces statements ||| namespace_name v ~ (braces statements ||| word t.Semi))

-- the alias of a function or a constant
abbrev pub alias : Rule
alias = maybe (word t.As ~ word t.FreeLabel)

-- a function or a constant
abbrev pub imported : Version → Rule
imported v = imported_name v ~ alias

-- a class or a namespace: a name with an alias is no class of that name
abbrev pub imported_as_class : Version → Rule
imported_as_class v = imported_class v ||| imported_name v ~ word t.As ~ word t.ClassLabel

-- in braces: a function or a constant
abbrev pub grouped : Version → Rule
grouped v = grouped_name v ~ alias

-- in braces: a function or a constant, told by its word or by that of the whole use
abbrev pub grouped_of_kind : Version → Rule
grouped_of_kind v = grouped v ||| word t.Function ~ grouped v ||| word t.Const ~ grouped v

-- in braces: a class or a namespace, or a function or a constant with its word
abbrev pub grouped_as_class : Version → Rule
grouped_as_class v =
    grouped_class v
    ||| grouped_name v ~ word t.As ~ word t.ClassLabel
    ||| word t.Function ~ grouped v
    ||| word t.Const ~ grouped v

-- names in braces behind a name and a backslash
abbrev pub in_group : Version → Rule → Rule
in_group v names = imported_name v ~ word t.Backslash ~ braces (commas_last names)

-- a use
abbrev pub use_declaration : Version → Rule
use_declaration v =
    word t.Use
    ~ ((word t.Function ||| word t.Const) ~ (commas (imported v) ||| in_group v (grouped_of_kind v))
    ||| commas (imported_as_class v)
    ||| in_group v (grouped_as_class v))
    ~ word t.Semi
