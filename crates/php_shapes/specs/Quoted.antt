-- Quoted texts: double quotes, heredocs and backticks (PHP manual, "Strings: Variable interpolation").
use Rattle.php_tree.specs.declared.kind.NodeKind.TheVariants as k
use Rattle.php_terminals.specs.declared.terminal.Terminal.TheVariants as t
use Rattle.php_shapes.specs.Notation.{Rule, word, place, inside, ◌~◌, ◌|||◌, many, maybe, expr, brackets}
use Rattle.php_shapes.specs.Places.{Embedded}

-- a variable by its token alone
abbrev pub plain_variable : Rule
plain_variable = inside k.Variable (word t.Variable)

-- a simple offset
abbrev pub simple_key : Rule
simple_key = word t.AnyLabel ||| word t.Int ||| word t.Minus ~ word t.Int ||| plain_variable

-- a variable, or one with a simple offset or property
abbrev pub interpolated : Rule
interpolated =
    plain_variable
    ||| inside k.Offset (plain_variable ~ brackets simple_key)
    ||| inside k.Prop (plain_variable ~ word t.Arrow ~ word t.AnyLabel)

-- a part of a quoted text
abbrev pub quoted_part : Rule
quoted_part =
    word t.Piece
    ||| interpolated
    ||| word t.CurlyOpen ~ place Embedded ~ word t.CloseBrace
    ||| word t.DollarBrace ~ word t.VarName ~ maybe (brackets expr) ~ word t.CloseBrace
    ||| word t.DollarBrace ~ expr ~ word t.CloseBrace

-- a quoted text
abbrev pub quoted : Rule
quoted = word t.QuoteOpen ~ many quoted_part ~ word t.QuotedEnd
