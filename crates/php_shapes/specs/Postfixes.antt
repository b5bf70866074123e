-- Offsets, members and calls (PHP language specification, "Postfix Operators"; RFCs "Deprecate curly brace syntax for
-- accessing array elements" and "Argument unpacking").
use Rattle.php_tree.specs.declared.kind.NodeKind.TheVariants as k
use Rattle.php_tree.specs.declared.version.Version.{Version}
use Rattle.php_tree.specs.declared.version.Version.TheVariants.{V74, V83}
use Rattle.php_terminals.specs.declared.terminal.Terminal.TheVariants as t
use Rattle.php_shapes.specs.Atoms.{dollar_variable}
use Rattle.php_shapes.specs.Names.{called_name, name}
use Rattle.php_shapes.specs.Notation.{Rule, word, kind, place, inside, ◌~◌, ◌|||◌, maybe, expr, commas_last, parens, brackets, braces}
use Rattle.php_shapes.specs.Places.{OffsetBase, MemberBase, ClassBase, Callee}

-- an offset
abbrev pub offset : Rule
offset = place OffsetBase ~ brackets (maybe expr)

-- an offset in braces, in 7.4 alone
abbrev pub brace_offset : Version → Rule
brace_offset V74 = place OffsetBase ~ braces expr
brace_offset V83 = word t.Never

-- the name of a member: a variable, an expression in braces, or any word
abbrev pub member : Rule
member = kind k.Variable ||| braces expr ||| word t.AnyWord

-- the name of a static property: a variable, as a token, or one that begins with `$`
abbrev pub static_member : Rule
static_member = word t.Variable ||| inside k.Variable dollar_variable

-- a class before `::`
abbrev pub class_before : Version → Rule
class_before v = name v ||| word t.Static ||| place ClassBase

-- arguments of a call in parentheses
abbrev pub called : Rule
called = parens (kind k.Args)

-- a property
abbrev pub prop : Rule
prop = place MemberBase ~ word t.Arrow ~ member

-- a call of a method
abbrev pub method_call : Rule
method_call = place MemberBase ~ word t.Arrow ~ member ~ called

-- a static property
abbrev pub static_prop : Version → Rule
static_prop v = class_before v ~ word t.DoubleColon ~ static_member

-- a call of a static method
abbrev pub static_call : Version → Rule
static_call v = class_before v ~ word t.DoubleColon ~ member ~ called

-- a constant of a class
abbrev pub class_constant : Version → Rule
class_constant v = class_before v ~ word t.DoubleColon ~ word t.AnyWord

-- a call of a function
abbrev pub call : Version → Rule
call v = (called_name v ||| place Callee) ~ called

-- the arguments of a call
abbrev pub arguments : Rule
arguments = maybe (commas_last (maybe (word t.Ellipsis) ~ expr))
