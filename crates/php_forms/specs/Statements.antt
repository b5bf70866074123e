-- Statements.
use Rattle.std.specs.Prelude.{List, [], ◌∷◌}
use Rattle.php_tree.specs.declared.kind.NodeKind.TheVariants as k
use Rattle.php_terminals.specs.declared.terminal.Terminal.{Terminal}
use Rattle.php_terminals.specs.declared.terminal.Terminal.TheVariants as t
use Rattle.php_forms.specs.declared.item.Sort.TheVariants as s
use Rattle.php_forms.specs.declared.item.Group.TheVariants as g
use Rattle.php_forms.specs.declared.item.Item.{Item}
use Rattle.php_forms.specs.declared.item.Item.TheVariants.{Word, Node, Part, Repeats}
use Rattle.php_forms.specs.Forms.{any}
use Rattle.php_forms.specs.Grammar.{Form}

-- statements, up to a word or a brace that ends them
abbrev pub statements : Terminal → List Item
statements t.CloseBrace = []
statements t.End = []
statements t.Case = []
statements t.Default = []
statements t.Else = []
statements t.ElseIf = []
statements t.EndDeclare = []
statements t.EndFor = []
statements t.EndForeach = []
statements t.EndIf = []
statements t.EndSwitch = []
statements t.EndWhile = []
statements _ = Node s.Statement ∷ []

-- the `elseif` parts of an `if`
abbrev pub else_ifs : Terminal → List Item
else_ifs t.ElseIf = Word t.ElseIf ∷ Word t.OpenParen ∷ any ∷ Word t.CloseParen ∷ Node s.Statement ∷ []
else_ifs _ = []

-- the `else` of an `if`: it belongs to the nearest one
abbrev pub else_part : Terminal → List Item
else_part t.Else = Word t.Else ∷ Node s.Statement ∷ []
else_part _ = []

-- the `elseif` parts of an `if` with colons
abbrev pub alt_else_ifs : Terminal → List Item
alt_else_ifs t.ElseIf = Word t.ElseIf ∷ Word t.OpenParen ∷ any ∷ Word t.CloseParen ∷ Word t.Colon ∷ Repeats g.Statements ∷ []
alt_else_ifs _ = []

-- the `else` of an `if` with colons
abbrev pub alt_else : Terminal → List Item
alt_else t.Else = Word t.Else ∷ Word t.Colon ∷ Repeats g.Statements ∷ []
alt_else _ = []

-- the body of a `while`
abbrev pub while_body : Terminal → List Item
while_body t.Colon = Word t.Colon ∷ Repeats g.Statements ∷ Word t.EndWhile ∷ Word t.Semi ∷ []
while_body _ = Node s.Statement ∷ []

-- the body of a `for`
abbrev pub for_body : Terminal → List Item
for_body t.Colon = Word t.Colon ∷ Repeats g.Statements ∷ Word t.EndFor ∷ Word t.Semi ∷ []
for_body _ = Node s.Statement ∷ []

-- the body of a `foreach`
abbrev pub foreach_body : Terminal → List Item
foreach_body t.Colon = Word t.Colon ∷ Repeats g.Statements ∷ Word t.EndForeach ∷ Word t.Semi ∷ []
foreach_body _ = Node s.Statement ∷ []

-- the body of a `declare`
abbrev pub declare_body : Terminal → List Item
declare_body t.Colon = Word t.Colon ∷ Repeats g.Statements ∷ Word t.EndDeclare ∷ Word t.Semi ∷ []
declare_body _ = Node s.Statement ∷ []

-- the cases of a `switch`
abbrev pub switch_body : Terminal → List Item
switch_body t.OpenBrace = Word t.OpenBrace ∷ Part g.FirstSemi ∷ Repeats g.Cases ∷ Word t.CloseBrace ∷ []
switch_body _ = Word t.Colon ∷ Part g.FirstSemi ∷ Repeats g.Cases ∷ Word t.EndSwitch ∷ Word t.Semi ∷ []

-- the semicolon before the first case
abbrev pub first_semi : Terminal → List Item
first_semi t.Semi = Word t.Semi ∷ []
first_semi _ = []

-- the cases
abbrev pub cases : Terminal → List Item
cases t.Case = Node s.Case ∷ []
cases t.Default = Node s.Case ∷ []
cases _ = []

-- the mark behind a case
abbrev pub case_mark : Terminal → List Item
case_mark t.Colon = Word t.Colon ∷ []
case_mark _ = Word t.Semi ∷ []

-- the other expressions of a list
abbrev pub more_exprs : Terminal → List Item
more_exprs t.Comma = Word t.Comma ∷ any ∷ []
more_exprs _ = []

-- the value of a `return`
abbrev pub return_value : Terminal → List Item
return_value t.Semi = []
return_value _ = any ∷ []

-- the expressions of a part of a `for`
abbrev pub exprs : Terminal → List Item
exprs t.Semi = []
exprs t.CloseParen = []
exprs _ = any ∷ Repeats g.MoreExprs ∷ []

-- what a `foreach` writes
abbrev pub foreach_target : Terminal → List Item
foreach_target t.Ampersand = Word t.Ampersand ∷ Node s.Target ∷ []
foreach_target _ = Node s.Target ∷ Part g.ForeachValue ∷ []

-- the value behind the key of a `foreach`
abbrev pub foreach_value : Terminal → List Item
foreach_value t.DoubleArrow = Word t.DoubleArrow ∷ Part g.ByRef ∷ Node s.Target ∷ []
foreach_value _ = []

-- the number of loops of a `break` or `continue`
abbrev pub loop_count : Terminal → List Item
loop_count t.Int = Word t.Int ∷ []
loop_count _ = []

-- the other variables of a `global`
abbrev pub more_globals : Terminal → List Item
more_globals t.Comma = Word t.Comma ∷ Node s.SimpleVariable ∷ []
more_globals _ = []

-- the `catch` parts and the `finally` of a `try`: there is at least one
abbrev pub handlers : Terminal → List Item
handlers t.Finally = Word t.Finally ∷ Node s.Block ∷ []
handlers _ = Word t.Catch ∷ Word t.OpenParen ∷ Part g.Name ∷ Repeats g.CaughtNames ∷ Word t.Variable ∷ Word t.CloseParen ∷ Node s.Block ∷ Repeats g.Catches ∷ Part g.FinallyPart ∷ []

-- the other `catch` parts
abbrev pub catches : Terminal → List Item
catches t.Catch = Word t.Catch ∷ Word t.OpenParen ∷ Part g.Name ∷ Repeats g.CaughtNames ∷ Word t.Variable ∷ Word t.CloseParen ∷ Node s.Block ∷ []
catches _ = []

-- the other names of a `catch`
abbrev pub caught_names : Terminal → List Item
caught_names t.Bar = Word t.Bar ∷ Part g.Name ∷ []
caught_names _ = []

-- the `finally`
abbrev pub finally_part : Terminal → List Item
finally_part t.Finally = Word t.Finally ∷ Node s.Block ∷ []
finally_part _ = []

-- the other directives of a `declare`
abbrev pub more_directives : Terminal → List Item
more_directives t.Comma = Word t.Comma ∷ Word t.FreeLabel ∷ Word t.Assign ∷ any ∷ []
more_directives _ = []

-- behind a comma of an `unset` or `isset`
abbrev pub more_unset_last : Terminal → List Item
more_unset_last t.CloseParen = Word t.Comma ∷ []
more_unset_last _ = Word t.Comma ∷ any ∷ []

-- the other expressions of an `unset` or `isset`, which may end with a comma
abbrev pub more_unset : Terminal → Terminal → List Item
more_unset t.Comma following = more_unset_last following
more_unset _ following = []

-- the form of a statement that its first token settles
abbrev pub simple_form : Terminal → Form
simple_form t.OpenBrace = (k.Block, Word t.OpenBrace ∷ Repeats g.Statements ∷ Word t.CloseBrace ∷ [])
simple_form t.Semi = (k.Empty, Word t.Semi ∷ [])
simple_form t.Echo = (k.Echo, Word t.Echo ∷ any ∷ Repeats g.MoreExprs ∷ Word t.Semi ∷ [])
simple_form t.InlineHtml = (k.Html, Word t.InlineHtml ∷ [])
simple_form t.Return = (k.Return, Word t.Return ∷ Part g.ReturnValue ∷ Word t.Semi ∷ [])
simple_form t.While = (k.While, Word t.While ∷ Word t.OpenParen ∷ any ∷ Word t.CloseParen ∷ Part g.WhileBody ∷ [])
simple_form t.Do = (k.DoWhile, Word t.Do ∷ Node s.Statement ∷ Word t.While ∷ Word t.OpenParen ∷ any ∷ Word t.CloseParen ∷ Word t.Semi ∷ [])
simple_form t.For = (k.For, Word t.For ∷ Word t.OpenParen ∷ Part g.Exprs ∷ Word t.Semi ∷ Part g.Exprs ∷ Word t.Semi ∷ Part g.Exprs ∷ Word t.CloseParen ∷ Part g.ForBody ∷ [])
simple_form t.Foreach = (k.Foreach, Word t.Foreach ∷ Word t.OpenParen ∷ any ∷ Word t.As ∷ Part g.ForeachTarget ∷ Word t.CloseParen ∷ Part g.ForeachBody ∷ [])
simple_form t.Switch = (k.Switch, Word t.Switch ∷ Word t.OpenParen ∷ any ∷ Word t.CloseParen ∷ Part g.SwitchBody ∷ [])
simple_form t.Break = (k.Break, Word t.Break ∷ Part g.LoopCount ∷ Word t.Semi ∷ [])
simple_form t.Continue = (k.Continue, Word t.Continue ∷ Part g.LoopCount ∷ Word t.Semi ∷ [])
simple_form t.Global = (k.Global, Word t.Global ∷ Node s.SimpleVariable ∷ Repeats g.MoreGlobals ∷ Word t.Semi ∷ [])
simple_form t.Unset = (k.Unset, Word t.Unset ∷ Word t.OpenParen ∷ any ∷ Repeats g.MoreUnset ∷ Word t.CloseParen ∷ Word t.Semi ∷ [])
simple_form t.Throw = (k.Throw, Word t.Throw ∷ any ∷ Word t.Semi ∷ [])
simple_form t.Try = (k.Try, Word t.Try ∷ Node s.Block ∷ Part g.Handlers ∷ [])
simple_form t.Declare = (
  k.Declare,
  Word t.Declare ∷ Word t.OpenParen ∷ Word t.FreeLabel ∷ Word t.Assign ∷ any
      ∷ Repeats g.MoreDirectives ∷ Word t.CloseParen ∷ Part g.DeclareBody ∷ [],
)
simple_form t.Goto = (k.Goto, Word t.Goto ∷ Word t.FreeLabel ∷ Word t.Semi ∷ [])
simple_form t.Class = (
  k.Class,
  Part g.Attribute ∷ Repeats g.ClassModifiers ∷ Word t.Class ∷ Word t.ClassLabel
      ∷ Part g.Extends ∷ Part g.Implements ∷ Word t.OpenBrace ∷ Repeats g.Members ∷ Word t.CloseBrace ∷ [],
)
simple_form t.ClassModifier = (
  k.Class,
  Part g.Attribute ∷ Repeats g.ClassModifiers ∷ Word t.Class ∷ Word t.ClassLabel
      ∷ Part g.Extends ∷ Part g.Implements ∷ Word t.OpenBrace ∷ Repeats g.Members ∷ Word t.CloseBrace ∷ [],
)
simple_form t.AttributeOpen = (
  k.Class,
  Part g.Attribute ∷ Repeats g.ClassModifiers ∷ Word t.Class ∷ Word t.ClassLabel
      ∷ Part g.Extends ∷ Part g.Implements ∷ Word t.OpenBrace ∷ Repeats g.Members ∷ Word t.CloseBrace ∷ [],
)
simple_form t.Interface = (k.Interface, Word t.Interface ∷ Word t.ClassLabel ∷ Part g.Parents ∷ Word t.OpenBrace ∷ Repeats g.Members ∷ Word t.CloseBrace ∷ [])
simple_form t.Trait = (k.Trait, Word t.Trait ∷ Word t.ClassLabel ∷ Word t.OpenBrace ∷ Repeats g.Members ∷ Word t.CloseBrace ∷ [])
simple_form t.Use = (k.Use, Word t.Use ∷ Part g.UseBody ∷ Word t.Semi ∷ [])
simple_form t.Const = (k.Const, Word t.Const ∷ Word t.FreeLabel ∷ Word t.Assign ∷ any ∷ Repeats g.MoreConsts ∷ Word t.Semi ∷ [])
simple_form _ = (k.ExprStmt, any ∷ Word t.Semi ∷ [])
