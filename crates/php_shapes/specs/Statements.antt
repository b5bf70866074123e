-- Statements (PHP manual, "Control Structures", "Variable scope", "Exceptions", "goto"; PHP language specification,
-- "Statements").
use Rattle.php_tree.specs.declared.kind.NodeKind.TheVariants as k
use Rattle.php_tree.specs.declared.version.Version.{Version}
use Rattle.php_terminals.specs.declared.terminal.Terminal.{Terminal}
use Rattle.php_terminals.specs.declared.terminal.Terminal.TheVariants as t
use Rattle.php_shapes.specs.Atoms.{by_ref}
use Rattle.php_shapes.specs.Names.{name}
use Rattle.php_shapes.specs.Notation.{Rule, word, kind, place, ◌~◌, ◌|||◌, many, maybe, expr, commas, commas_last, parens, braces}
use Rattle.php_shapes.specs.Places.{Statement, TargetOrList}

-- a statement
abbrev pub statement : Rule
statement = place Statement

-- any number of statements
abbrev pub statements : Rule
statements = many statement

-- a block
abbrev pub block : Rule
block = braces statements

-- the body of a loop or a `declare`: a statement, or statements up to a word
abbrev pub body : Terminal → Rule
body last = statement ||| word t.Colon ~ statements ~ word last ~ word t.Semi

-- `echo`
abbrev pub echo : Rule
echo = word t.Echo ~ commas expr ~ word t.Semi

-- `return`
abbrev pub return : Rule
return = word t.Return ~ maybe expr ~ word t.Semi

-- a condition in parentheses
abbrev pub condition : Rule
condition = parens expr

-- `if`
abbrev pub if_else : Rule
if_else =
    word t.If ~ condition ~ statement
    ~ many (word t.ElseIf ~ condition ~ statement)
    ~ maybe (word t.Else ~ statement)

-- `if` with colons
abbrev pub if_colons : Rule
if_colons =
    word t.If ~ condition ~ word t.Colon ~ statements
    ~ many (word t.ElseIf ~ condition ~ word t.Colon ~ statements)
    ~ maybe (word t.Else ~ word t.Colon ~ statements)
    ~ word t.EndIf ~ word t.Semi

-- `while`
abbrev pub while_loop : Rule
while_loop = word t.While ~ condition ~ body t.EndWhile

-- `do`
abbrev pub do_while : Rule
do_while = word t.Do ~ statement ~ word t.While ~ condition ~ word t.Semi

-- `for`
abbrev pub for_loop : Rule
for_loop =
    word t.For
    ~ parens (maybe (commas expr) ~ word t.Semi ~ maybe (commas expr) ~ word t.Semi ~ maybe (commas expr))
    ~ body t.EndFor

-- what a `foreach` writes: a value, or a key and a value
abbrev pub foreach_target : Rule
foreach_target =
    word t.Ampersand ~ place TargetOrList
    ||| place TargetOrList ~ maybe (word t.DoubleArrow ~ by_ref ~ place TargetOrList)

-- `foreach`
abbrev pub foreach_loop : Rule
foreach_loop = word t.Foreach ~ parens (expr ~ word t.As ~ foreach_target) ~ body t.EndForeach

-- the cases of a `switch`, which may begin with a semicolon
abbrev pub cases : Rule
cases = maybe (word t.Semi) ~ many (kind k.Case)

-- `switch`
abbrev pub switch : Rule
switch = word t.Switch ~ condition ~ (braces cases ||| word t.Colon ~ cases ~ word t.EndSwitch ~ word t.Semi)

-- a case of a `switch`
abbrev pub case_of : Rule
case_of = (word t.Case ~ expr ||| word t.Default) ~ (word t.Colon ||| word t.Semi) ~ statements

-- `break` or `continue`
abbrev pub jump : Terminal → Rule
jump keyword = word keyword ~ maybe (word t.Int) ~ word t.Semi

-- `global`
abbrev pub global : Rule
global = word t.Global ~ commas (kind k.Variable) ~ word t.Semi

-- a variable, which may have a first value
abbrev pub declared_variable : Rule
declared_variable = word t.Variable ~ maybe (word t.Assign ~ expr)

-- static variables
abbrev pub statics : Rule
statics = word t.Static ~ commas declared_variable ~ word t.Semi

-- `unset`
abbrev pub unset : Rule
unset = word t.Unset ~ parens (commas_last expr) ~ word t.Semi

-- `throw`
abbrev pub throw : Rule
throw = word t.Throw ~ expr ~ word t.Semi

-- a `catch`
abbrev pub catch_part : Version → Rule
catch_part v =
    word t.Catch
    ~ parens (name v ~ many (word t.Bar ~ name v) ~ word t.Variable)
    ~ kind k.Block

-- `finally`
abbrev pub finally_part : Rule
finally_part = word t.Finally ~ kind k.Block

-- `try`: it has a `catch` or a `finally`
abbrev pub try_statement : Version → Rule
try_statement v = word t.Try ~ kind k.Block ~ (finally_part ||| catch_part v ~ many (catch_part v) ~ maybe finally_part)

-- `declare`
abbrev pub declare_statement : Rule
declare_statement = word t.Declare ~ parens (commas (word t.FreeLabel ~ word t.Assign ~ expr)) ~ body t.EndDeclare

-- `goto`
abbrev pub goto_statement : Rule
goto_statement = word t.Goto ~ word t.FreeLabel ~ word t.Semi

-- a label to which a `goto` goes
abbrev pub label : Rule
label = word t.FreeLabel ~ word t.Colon
