-- The parts of a node, as evaluation meets them: the words of the node's own, and the expressions and statements inside it by
-- their numbers in preorder. Parts of an expression that are none themselves (an item, arguments, a list) are looked through.
use Rattle.std.specs.Prelude.{ℕ, suc, ◌+◌, Bool, true, false, ◌||◌, if◌then◌else◌, List, [], ◌∷◌, ◌++◌}
use Rattle.std.specs.Str.{str_eq_ignore_ascii_case}
use Rattle.php_tree.specs.declared.kind.NodeKind.{NodeKind}
use Rattle.php_tree.specs.declared.kind.NodeKind.TheVariants as kind
use Rattle.php_tree.specs.Tree.{Forest, none, leaf, node, count}
use Rattle.program_points.specs.declared.kinds.Sort.{Sort}
use Rattle.program_points.specs.declared.kinds.Sort.TheVariants as sort

-- what a kind of node is to evaluation: a statement, an expression, a part of one that is looked through, or another node
abbrev pub sort_of : NodeKind → Sort
sort_of kind.Block = sort.Statement
sort_of kind.Empty = sort.Statement
sort_of kind.ExprStmt = sort.Statement
sort_of kind.Echo = sort.Statement
sort_of kind.Html = sort.Statement
sort_of kind.Return = sort.Statement
sort_of kind.If = sort.Statement
sort_of kind.IfAlt = sort.Statement
sort_of kind.While = sort.Statement
sort_of kind.DoWhile = sort.Statement
sort_of kind.For = sort.Statement
sort_of kind.Foreach = sort.Statement
sort_of kind.Switch = sort.Statement
sort_of kind.Break = sort.Statement
sort_of kind.Continue = sort.Statement
sort_of kind.Global = sort.Statement
sort_of kind.Statics = sort.Statement
sort_of kind.Unset = sort.Statement
sort_of kind.Throw = sort.Statement
sort_of kind.Try = sort.Statement
sort_of kind.Function = sort.Statement
sort_of kind.Class = sort.Statement
sort_of kind.Interface = sort.Statement
sort_of kind.Trait = sort.Statement
sort_of kind.Const = sort.Statement
sort_of kind.Namespace = sort.Statement
sort_of kind.Use = sort.Statement
sort_of kind.Declare = sort.Statement
sort_of kind.Goto = sort.Statement
sort_of kind.LabelStmt = sort.Statement
sort_of kind.Variable = sort.Expression
sort_of kind.Number = sort.Expression
sort_of kind.Float = sort.Expression
sort_of kind.Text = sort.Expression
sort_of kind.Quoted = sort.Expression
sort_of kind.Constant = sort.Expression
sort_of kind.ClassConstant = sort.Expression
sort_of kind.Array = sort.Expression
sort_of kind.Paren = sort.Expression
sort_of kind.Offset = sort.Expression
sort_of kind.BraceOffset = sort.Expression
sort_of kind.Prop = sort.Expression
sort_of kind.StaticProp = sort.Expression
sort_of kind.Call = sort.Expression
sort_of kind.MethodCall = sort.Expression
sort_of kind.StaticCall = sort.Expression
sort_of kind.New = sort.Expression
sort_of kind.Isset = sort.Expression
sort_of kind.EmptyTest = sort.Expression
sort_of kind.Exit = sort.Expression
sort_of kind.Closure = sort.Expression
sort_of kind.Arrow = sort.Expression
sort_of kind.Include = sort.Expression
sort_of kind.EvalTest = sort.Expression
sort_of kind.Binary = sort.Expression
sort_of kind.Prefix = sort.Expression
sort_of kind.Postfix = sort.Expression
sort_of kind.Cast = sort.Expression
sort_of kind.Ternary = sort.Expression
sort_of kind.ShortTernary = sort.Expression
sort_of kind.Assign = sort.Expression
sort_of kind.AssignRef = sort.Expression
sort_of kind.CompoundAssign = sort.Expression
sort_of kind.InstanceOf = sort.Expression
sort_of kind.Print = sort.Expression
sort_of kind.Yield = sort.Expression
sort_of kind.Item = sort.LookedThrough
sort_of kind.List = sort.LookedThrough
sort_of kind.Args = sort.LookedThrough
sort_of k = sort.Other

-- statements and expressions have points
abbrev pub is_evaluated : Sort → Bool
is_evaluated sort.Statement = true
is_evaluated sort.Expression = true
is_evaluated sort.LookedThrough = false
is_evaluated sort.Other = false

-- whether a node has points
abbrev pub has_points : NodeKind → Bool
has_points k = is_evaluated (sort_of k)

-- whether a node is a case of a `switch`
abbrev pub is_case : NodeKind → Bool
is_case kind.Case = true
is_case k = false

-- In order: a word; an expression; a statement; another node with its pieces; each before further ones.
pub data Pieces : Type 0 where
  end : Pieces
  word : List ℕ → Pieces → Pieces
  expr : ℕ → Pieces → Pieces
  stmt : ℕ → Pieces → Pieces
  other : NodeKind → ℕ → Pieces → Pieces → Pieces

-- some pieces, and then others
abbrev pub and_then : Pieces → Pieces → Pieces
and_then end qs = qs
and_then (word t ps) qs = word t (and_then ps qs)
and_then (expr n ps) qs = expr n (and_then ps qs)
and_then (stmt n ps) qs = stmt n (and_then ps qs)
and_then (other k n inner ps) qs = other k n inner (and_then ps qs)

-- pieces without their words
abbrev pub without_words : Pieces → Pieces
without_words end = end
without_words (word t ps) = without_words ps
without_words (expr n ps) = expr n (without_words ps)
without_words (stmt n ps) = stmt n (without_words ps)
without_words (other k n inner ps) = other k n inner (without_words ps)

-- a node before other pieces, by its sort, its kind, its number and its own pieces
abbrev pub piece_by : Sort → NodeKind → ℕ → Pieces → Pieces → Pieces
piece_by sort.Statement k n inner more = stmt n more
piece_by sort.Expression k n inner more = expr n more
piece_by sort.LookedThrough k n inner more = and_then (without_words inner) more
piece_by sort.Other k n inner more = other k n inner more

-- the same by its kind
abbrev pub piece_before : NodeKind → ℕ → Pieces → Pieces → Pieces
piece_before k n inner more = piece_by (sort_of k) k n inner more

-- the pieces of a forest whose first node has a number
abbrev pub pieces : ℕ → Forest → Pieces
pieces n none = end
pieces n (leaf t f) = word t.text (pieces n f)
pieces n (node k c f) = piece_before k n (pieces (suc n) c) (pieces (suc n + count c) f)

-- ---- among pieces

-- words are compared without case
abbrev pub is_word : List ℕ → List ℕ → Bool
is_word = str_eq_ignore_ascii_case

-- the expressions
abbrev pub exprs : Pieces → List ℕ
exprs end = []
exprs (word t ps) = exprs ps
exprs (expr n ps) = n ∷ exprs ps
exprs (stmt n ps) = exprs ps
exprs (other k n inner ps) = exprs ps

-- the statements
abbrev pub stmts : Pieces → List ℕ
stmts end = []
stmts (word t ps) = stmts ps
stmts (expr n ps) = stmts ps
stmts (stmt n ps) = n ∷ stmts ps
stmts (other k n inner ps) = stmts ps

-- both, in order
abbrev pub steps : Pieces → List ℕ
steps end = []
steps (word t ps) = steps ps
steps (expr n ps) = n ∷ steps ps
steps (stmt n ps) = n ∷ steps ps
steps (other k n inner ps) = steps ps

-- what stands before a word
abbrev pub up_to : List ℕ → Pieces → Pieces
up_to w end = end
up_to w (word t ps) = if is_word w t then end else word t (up_to w ps)
up_to w (expr n ps) = expr n (up_to w ps)
up_to w (stmt n ps) = stmt n (up_to w ps)
up_to w (other k n inner ps) = other k n inner (up_to w ps)

-- what stands behind it
abbrev pub behind : List ℕ → Pieces → Pieces
behind w end = end
behind w (word t ps) = if is_word w t then ps else behind w ps
behind w (expr n ps) = behind w ps
behind w (stmt n ps) = behind w ps
behind w (other k n inner ps) = behind w ps

-- whether a word is among them
abbrev pub has_word : List ℕ → Pieces → Bool
has_word w end = false
has_word w (word t ps) = is_word w t || has_word w ps
has_word w (expr n ps) = has_word w ps
has_word w (stmt n ps) = has_word w ps
has_word w (other k n inner ps) = has_word w ps

-- whether a node is a parameter
abbrev pub is_param : NodeKind → Bool
is_param kind.Param = true
is_param k = false

-- the expression that a parameter has as its default
abbrev pub default_of : NodeKind → Pieces → List ℕ
default_of k inner = if is_param k then exprs inner else []

-- the defaults of the parameters that have one
abbrev pub defaults : Pieces → List ℕ
defaults end = []
defaults (word t ps) = defaults ps
defaults (expr n ps) = defaults ps
defaults (stmt n ps) = defaults ps
defaults (other k n inner ps) = default_of k inner ++ defaults ps
