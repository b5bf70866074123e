-- Expressions without operators (PHP language specification, "Primary Expressions"; PHP manual, "Variable variables",
-- "Arrays", "list", "Anonymous functions", "Arrow Functions").
use Rattle.php_tree.specs.declared.kind.NodeKind.TheVariants as k
use Rattle.php_tree.specs.declared.version.Version.{Version}
use Rattle.php_terminals.specs.declared.terminal.Terminal.TheVariants as t
use Rattle.php_shapes.specs.Names.{name, names}
use Rattle.php_shapes.specs.Notation.{Rule, word, kind, place, inside, ◌~◌, ◌|||◌, many, maybe, expr, commas, commas_last, parens, brackets, braces}
use Rattle.php_shapes.specs.Places.{Member, ClassName, TargetOrList}

-- a variable that begins with `$`
abbrev pub dollar_variable : Rule
dollar_variable = word t.Dollar ~ (braces expr ||| kind k.Variable)

-- a variable
abbrev pub variable : Rule
variable = word t.Variable ||| dollar_variable

-- the mark of a reference
abbrev pub by_ref : Rule
by_ref = maybe (word t.Ampersand)

-- an item of an array
abbrev pub item : Rule
item =
    word t.Ampersand ~ expr
    ||| word t.Ellipsis ~ expr
    ||| expr ~ maybe (word t.DoubleArrow ~ by_ref ~ expr)

-- the items of an array
abbrev pub items : Rule
items = maybe (commas_last (kind k.Item))

-- an array
abbrev pub array : Rule
array = brackets items ||| word t.Array ~ parens items

-- an item of a list form
abbrev pub list_item : Rule
list_item =
    inside k.Item
    (word t.Ampersand ~ place TargetOrList
    ||| place TargetOrList
    ||| expr ~ word t.DoubleArrow ~ by_ref ~ place TargetOrList)

-- a list form; its items may be missing
abbrev pub list : Rule
list = brackets (commas (maybe list_item)) ||| word t.List ~ parens (commas (maybe list_item))

-- the members of a class
abbrev pub members : Rule
members = braces (many (place Member))

-- the arguments of a `new`
abbrev pub new_arguments : Rule
new_arguments = maybe (parens (kind k.Args))

-- the class that a class extends, and the interfaces that it implements
abbrev pub inheritance : Version → Rule
inheritance v = maybe (word t.Extends ~ name v) ~ maybe (word t.Implements ~ names v)

-- `new`: of a class by name, of `static`, of one that an expression names, or of an anonymous one
abbrev pub new : Version → Rule
new v =
    word t.New
    ~ ((name v ||| word t.Static ||| place ClassName) ~ new_arguments
    ||| word t.Class ~ new_arguments ~ inheritance v ~ members)

-- `isset`
abbrev pub isset : Rule
isset = word t.Isset ~ parens (commas_last expr)

-- `exit`
abbrev pub exit : Rule
exit = word t.Exit ~ maybe (parens (maybe expr))

-- the parameters of a function
abbrev pub params : Rule
params = parens (maybe (commas (kind k.Param)))

-- the type of what a function returns
abbrev pub return_type : Rule
return_type = maybe (word t.Colon ~ kind k.TypeName)

-- the variables that a closure takes along
abbrev pub closure_use : Rule
closure_use = maybe (word t.Use ~ parens (commas (by_ref ~ word t.Variable)))

-- a closure
abbrev pub closure : Rule
closure = maybe (word t.Static) ~ word t.Function ~ by_ref ~ params ~ closure_use ~ return_type ~ kind k.Block

-- an arrow function
abbrev pub arrow : Rule
arrow = maybe (word t.Static) ~ word t.Fn ~ by_ref ~ params ~ return_type ~ word t.DoubleArrow ~ expr
