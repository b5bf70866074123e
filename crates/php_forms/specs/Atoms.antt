-- How expressions begin.
use Rattle.std.specs.Prelude.{List, [], ◌∷◌, Option, Some, None}
use Rattle.php_tree.specs.declared.kind.NodeKind.TheVariants as k
use Rattle.php_terminals.specs.declared.terminal.Terminal.{Terminal}
use Rattle.php_terminals.specs.declared.terminal.Terminal.TheVariants as t
use Rattle.php_forms.specs.declared.item.Sort.TheVariants as s
use Rattle.php_forms.specs.declared.item.Group.TheVariants as g
use Rattle.php_forms.specs.declared.item.Item.{Item}
use Rattle.php_forms.specs.declared.item.Item.TheVariants.{Word, Node, Part, Repeats}
use Rattle.php_forms.specs.Forms.{any}
use Rattle.php_forms.specs.Grammar.{Form}

-- the value of an `exit`
abbrev pub exit_value : Terminal → List Item
exit_value t.OpenParen = Word t.OpenParen ∷ Part g.ExitCode ∷ Word t.CloseParen ∷ []
exit_value _ = []

-- the value of an `exit` in its parentheses
abbrev pub exit_code : Terminal → List Item
exit_code t.CloseParen = []
exit_code _ = any ∷ []

-- the value behind the key of a `yield`
abbrev pub yield_to : Terminal → List Item
yield_to t.DoubleArrow = Word t.DoubleArrow ∷ Node (s.Operand 20) ∷ []
yield_to _ = []

-- the variables that a closure takes along
abbrev pub closure_use : Terminal → List Item
closure_use t.Use = Word t.Use ∷ Word t.OpenParen ∷ Part g.ByRef ∷ Word t.Variable ∷ Repeats g.MoreUsed ∷ Word t.CloseParen ∷ []
closure_use _ = []

-- the other variables that a closure takes along
abbrev pub more_used : Terminal → List Item
more_used t.Comma = Word t.Comma ∷ Part g.ByRef ∷ Word t.Variable ∷ []
more_used _ = []

-- the arguments of a `new`
abbrev pub ctor_args : Terminal → List Item
ctor_args t.OpenParen = Word t.OpenParen ∷ Node s.Args ∷ Word t.CloseParen ∷ []
ctor_args _ = []

-- the key of an offset
abbrev pub offset_key : Terminal → List Item
offset_key t.CloseBracket = []
offset_key _ = any ∷ []

-- a member: a variable, an expression in braces, or a word
abbrev pub member : Terminal → List Item
member t.Variable = Node s.SimpleVariable ∷ []
member t.Dollar = Node s.SimpleVariable ∷ []
member t.OpenBrace = Word t.OpenBrace ∷ any ∷ Word t.CloseBrace ∷ []
member _ = Word t.AnyWord ∷ []

-- a static property
abbrev pub static_member : Terminal → List Item
static_member t.Variable = Word t.Variable ∷ []
static_member _ = Node s.SimpleVariable ∷ []

-- the form of an expression that its first token settles
abbrev pub atom_form : Terminal → Option Form
atom_form t.Variable = Some (k.Variable, Word t.Variable ∷ [])
atom_form t.Int = Some (k.Number, Word t.Int ∷ [])
atom_form t.Float = Some (k.Float, Word t.Float ∷ [])
atom_form t.Text = Some (k.Text, Word t.Text ∷ [])
atom_form t.QuoteOpen = Some (k.Quoted, Word t.QuoteOpen ∷ Repeats g.QuotedParts ∷ Word t.QuotedEnd ∷ [])
atom_form t.OpenParen = Some (k.Paren, Word t.OpenParen ∷ any ∷ Word t.CloseParen ∷ [])
atom_form t.New = Some (k.New, Word t.New ∷ Part g.Created ∷ [])
atom_form t.Clone = Some (k.Prefix, Word t.Clone ∷ Node (s.Operand 1) ∷ [])
atom_form t.Plus = Some (k.Prefix, Word t.SignOrTight ∷ Node (s.Operand 3) ∷ [])
atom_form t.Minus = Some (k.Prefix, Word t.SignOrTight ∷ Node (s.Operand 3) ∷ [])
atom_form t.Tight = Some (k.Prefix, Word t.SignOrTight ∷ Node (s.Operand 3) ∷ [])
atom_form t.Not = Some (k.Prefix, Word t.Not ∷ Node (s.Operand 5) ∷ [])
atom_form t.Step = Some (k.Prefix, Word t.Step ∷ Node s.Place ∷ [])
atom_form t.Cast = Some (k.Cast, Word t.Cast ∷ Node (s.Operand 3) ∷ [])
atom_form t.Print = Some (k.Print, Word t.Print ∷ Node (s.Operand 20) ∷ [])
atom_form t.Yield = Some (k.Yield, Word t.Yield ∷ Part g.YieldValue ∷ [])
atom_form t.YieldFrom = Some (k.Yield, Word t.YieldFrom ∷ Node (s.Operand 20) ∷ [])
atom_form t.Include = Some (k.Include, Word t.Include ∷ any ∷ [])
atom_form t.Isset = Some (k.Isset, Word t.Isset ∷ Word t.OpenParen ∷ any ∷ Repeats g.MoreUnset ∷ Word t.CloseParen ∷ [])
atom_form t.Empty = Some (k.EmptyTest, Word t.Empty ∷ Word t.OpenParen ∷ any ∷ Word t.CloseParen ∷ [])
atom_form t.Exit = Some (k.Exit, Word t.Exit ∷ Part g.ExitValue ∷ [])
atom_form t.Eval = Some (k.EvalTest, Word t.Eval ∷ Word t.OpenParen ∷ any ∷ Word t.CloseParen ∷ [])
atom_form t.Function = Some (
  k.Closure,
  Word t.Function ∷ Part g.ByRef ∷ Word t.OpenParen ∷ Part g.Params
      ∷ Word t.CloseParen ∷ Part g.ClosureUse ∷ Part g.ReturnType ∷ Node s.Block ∷ [],
)
atom_form t.Fn = Some (k.Arrow, Word t.Fn ∷ Part g.ByRef ∷ Word t.OpenParen ∷ Part g.Params ∷ Word t.CloseParen ∷ Part g.ReturnType ∷ Word t.DoubleArrow ∷ any ∷ [])
atom_form _ = None
