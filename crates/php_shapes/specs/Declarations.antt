-- Functions, classes and constants (PHP manual, "Functions", "Classes and Objects", "Constants", "Type declarations"; the
-- RFC "Deprecate dynamic properties").
use Rattle.php_tree.specs.declared.kind.NodeKind.TheVariants as k
use Rattle.php_tree.specs.declared.version.Version.{Version}
use Rattle.php_tree.specs.declared.version.Version.TheVariants.{V74, V83}
use Rattle.php_terminals.specs.declared.terminal.Terminal.{Terminal}
use Rattle.php_terminals.specs.declared.terminal.Terminal.TheVariants as t
use Rattle.php_shapes.specs.Atoms.{by_ref, inheritance, members, params, return_type}
use Rattle.php_shapes.specs.Names.{name, names}
use Rattle.php_shapes.specs.Notation.{Rule, nothing, word, kind, tokens, ◌~◌, ◌|||◌, many, maybe, expr, commas, braces}
use Rattle.php_shapes.specs.Statements.{declared_variable}

-- a function
abbrev pub function : Rule
function = word t.Function ~ by_ref ~ word t.FunctionLabel ~ params ~ return_type ~ kind k.Block

-- a parameter
abbrev pub param : Rule
param = maybe (kind k.TypeName) ~ by_ref ~ maybe (word t.Ellipsis) ~ declared_variable

-- a type
abbrev pub type_name : Version → Rule
type_name v = maybe (word t.Question) ~ (word t.Array ||| word t.Callable ||| name v)

-- the attribute that a class may have, in 8.3 alone
abbrev pub attribute : Version → Rule
attribute V74 = nothing
attribute V83 = maybe (word t.AttributeOpen ~ word t.AttributeName ~ word t.CloseBracket)

-- a class
abbrev pub class_declaration : Version → Rule
class_declaration v =
    attribute v ~ many (word t.ClassModifier) ~ word t.Class ~ word t.ClassLabel ~ inheritance v ~ members

-- an interface
abbrev pub interface_declaration : Version → Rule
interface_declaration v = word t.Interface ~ word t.ClassLabel ~ maybe (word t.Extends ~ names v) ~ members

-- a trait
abbrev pub trait_declaration : Rule
trait_declaration = word t.Trait ~ word t.ClassLabel ~ members

-- a property; `var` counts as a modifier
abbrev pub property : Rule
property =
    word t.Modifier ~ many (word t.Modifier) ~ maybe (kind k.TypeName) ~ commas declared_variable ~ word t.Semi

-- a name and its value
abbrev pub constant_of : Terminal → Rule
constant_of label = word label ~ word t.Assign ~ expr

-- constants of a class
abbrev pub class_const : Rule
class_const = many (word t.Modifier) ~ word t.Const ~ commas (constant_of t.ConstantWord) ~ word t.Semi

-- constants
abbrev pub const_declaration : Rule
const_declaration = word t.Const ~ commas (constant_of t.FreeLabel) ~ word t.Semi

-- a method
abbrev pub method : Rule
method =
    many (word t.Modifier) ~ word t.Function ~ by_ref ~ word t.AnyWord ~ params ~ return_type
    ~ (kind k.Block ||| word t.Semi)

-- a use of traits, with any tokens between its braces, each bracket with one that closes it
abbrev pub trait_use : Version → Rule
trait_use v = word t.Use ~ names v ~ (word t.Semi ||| braces tokens)
