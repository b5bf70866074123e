-- Operators (PHP manual, "Operator Precedence"; RFCs "Change the precedence of the concatenation operator" and "Deprecate
-- left-associative ternary operator"). Level 1 is the tightest.
use Rattle.std.specs.Prelude.{ℕ, ◌-◌}
use Rattle.php_tree.specs.declared.version.Version.{Version}
use Rattle.php_tree.specs.declared.version.Version.TheVariants.{V74, V83}
use Rattle.php_terminals.specs.declared.terminal.Terminal.{Terminal}
use Rattle.php_terminals.specs.declared.terminal.Terminal.TheVariants as t
use Rattle.php_shapes.specs.Names.{name}
use Rattle.php_shapes.specs.Notation.{Rule, word, place, ◌~◌, ◌|||◌, maybe, expr}
use Rattle.php_shapes.specs.Places.{Operand, Left, LeftShort, Target, TargetOrList, ClassName}

-- An operator of a level that groups to the left: of two of a level the left one is the operand of the right one.
abbrev pub to_the_left : Terminal → ℕ → Rule
to_the_left operator level = place (Left level) ~ word operator ~ place (Operand (level - 1))

-- An operator of a level that groups to the right.
abbrev pub to_the_right : Terminal → ℕ → Rule
to_the_right operator level = place (Left (level - 1)) ~ word operator ~ place (Operand level)

-- An operator of a level of which two never stand beside each other.
abbrev pub alone : Terminal → ℕ → Rule
alone operator level = place (Left (level - 1)) ~ word operator ~ place (Operand (level - 1))

-- the level of `.`: 7.4 has it with `+` and `-`, 8.3 behind the shifts
abbrev pub dot_level : Version → ℕ
dot_level V74 = 7
dot_level V83 = 9

-- an operator between two operands
abbrev pub binary : Version → Rule
binary v =
    to_the_right t.Power 2
    ||| to_the_left t.Factor 6
    ||| to_the_left t.Plus 7
    ||| to_the_left t.Minus 7
    ||| to_the_left t.Shift 8
    ||| to_the_left t.Dot (dot_level v)
    ||| alone t.Order 10
    ||| alone t.Equality 11
    ||| to_the_left t.Ampersand 12
    ||| to_the_left t.Caret 13
    ||| to_the_left t.Bar 14
    ||| to_the_left t.BooleanAnd 15
    ||| to_the_left t.BooleanOr 16
    ||| to_the_right t.Coalesce 17
    ||| to_the_left t.And 21
    ||| to_the_left t.Xor 22
    ||| to_the_left t.Or 23

-- the loosest level of what stands before the `?` of level 18: 7.4 groups to the left, 8.3 not at all
abbrev pub before_ternary : Version → ℕ
before_ternary V74 = 18
before_ternary V83 = 17

-- a ternary; its middle part is any expression
abbrev pub ternary : Version → Rule
ternary v = place (Left (before_ternary v)) ~ word t.Question ~ expr ~ word t.Colon ~ place (Operand 17)

-- a `?:`, which both versions group to the left behind another
abbrev pub short_ternary : Version → Rule
short_ternary v = (place (Left (before_ternary v)) ||| place LeftShort) ~ word t.Question ~ word t.Colon ~ place (Operand 17)

-- an assignment: what is written may stand behind a tighter operator
abbrev pub assign : Rule
assign = place TargetOrList ~ word t.Assign ~ place (Operand 19)

-- an assignment by reference
abbrev pub assign_ref : Rule
assign_ref = place Target ~ word t.Assign ~ word t.Ampersand ~ place (Operand 19)

-- an assignment with an operator
abbrev pub compound_assign : Rule
compound_assign = place Target ~ word t.CompoundAssign ~ place (Operand 19)

-- a prefix; `++` and `--` take what may be written
abbrev pub prefix : Rule
prefix =
    word t.Clone ~ place (Operand 1)
    ||| word t.SignOrTight ~ place (Operand 3)
    ||| word t.Not ~ place (Operand 5)
    ||| word t.Step ~ place Target

-- `++` or `--` behind what may be written
abbrev pub postfix : Rule
postfix = place Target ~ word t.Step

-- `(real)` and `(unset)` are casts in 7.4 alone
abbrev pub cast : Version → Rule
cast V74 = (word t.Cast ||| word t.OldCast) ~ place (Operand 3)
cast V83 = word t.Cast ~ place (Operand 3)

-- `instanceof`, of level 4; it groups to the left
abbrev pub instance_of : Version → Rule
instance_of v = place (Left 4) ~ word t.InstanceOf ~ (name v ||| word t.Static ||| place ClassName)

-- `print`
abbrev pub print : Rule
print = word t.Print ~ place (Operand 20)

-- `yield`, with a value, or with a key and a value; `yield from`
abbrev pub yield : Rule
yield =
    word t.Yield
    ||| word t.Yield ~ place (Operand 20) ~ maybe (word t.DoubleArrow ~ place (Operand 20))
    ||| word t.YieldFrom ~ place (Operand 20)

-- `include`, `require` and their `_once` forms
abbrev pub include : Rule
include = word t.Include ~ expr
