-- What it is to read a node at the front of tokens.
use Rattle.std.specs.Prelude.{◌≡◌, ℕ, ◌<◌, ◌≤◌, List, [], ◌∷◌, ◌++◌, Result, Ok, Err}
use Rattle.php_tree.specs.declared.token.Token.{Token}
use Rattle.php_rows.specs.declared.row.Row.{Row}
use Rattle.php_rows.specs.Rows.{Grew, IsRowOf}
use Rattle.php_exprs.specs.declared.build.Closed.{Closed}
use Rattle.php_exprs.specs.Built.{AddedNode, IsClosed, behind}
use Rattle.php_tree.specs.Tree.{Forest, Tree, alone, leaves, depth}
use Rattle.php_tree.specs.declared.version.Version.{Version}
use Rattle.php_forms.specs.declared.item.Sort.{Sort}
use Rattle.php_exprs.specs.declared.fault.ParseFault.{ParseFault}
use Rattle.php_exprs.specs.declared.fault.ParseFault.TheVariants.{NotInGrammar, Memory}
use Rattle.php_forms.specs.declared.item.Group.TheVariants.{Statements}
use Rattle.php_forms.specs.declared.item.Item.TheVariants.{Repeats}
use Rattle.php_forms.specs.Grammar.{Spells, Walks}
use Rattle.php_grammar.specs.Tables.{php}

-- The tokens are those of the tree and then the rest, and the tree is less than d deep.
pub record Reads (v : Version) (s : Sort) (d : ℕ) (tokens : List Token) (tree : Tree) (rest : List Token) : Type 0 where
  pub spells : Spells (php v) s tree rest
  pub text : tokens ≡ leaves tree.1 ++ rest
  pub low : depth tree.1 < d

-- A tree at the front of the tokens that are still to be read was read, and stands at the end of the row.
pub record ReadsNode (v : Version) (s : Sort) (d : ℕ) (all : List Token) (old new : Row) (closed : Closed) (tree : Tree) : Type 0 where
  pub reads : Reads v s d (behind all old) tree (behind all new)
  pub added : AddedNode all old new tree
  pub told : IsClosed v closed tree

-- The answer is this tree and rest, unless memory ran out.
abbrev pub Answers : Result Closed ParseFault → List Token → Row → Row → Tree → List Token → Type 0
Answers (Ok c) all old new tree rest = Grew old new (alone tree) × (behind all new ≡ rest)
Answers (Err NotInGrammar) all old new tree rest = ⊥
Answers (Err Memory) all old new tree rest = Unit {0}

-- The tokens are those of these statements and then the rest, and each statement is at most d deep.
pub record ReadsStatements (v : Version) (d : ℕ) (tokens : List Token) (f : Forest) (rest : List Token) : Type 0 where
  pub walks : Walks (php v) (Repeats Statements ∷ []) f rest
  pub text : tokens ≡ leaves f ++ rest
  pub low : depth f ≤ d

-- A row is made of these statements, which are so deep, and the tokens behind them are still to be read.
pub record IsListed (all : List Token) (row : Row) (deep : ℕ) (f : Forest) (rest : List Token) : Type 0 where
  pub made : IsRowOf row f
  pub depth_is : deep ≡ depth f
  pub left : behind all row ≡ rest

-- The answer is these statements and rest, unless memory ran out.
abbrev pub AnswersStatements : Result (Row × ℕ) ParseFault → List Token → Forest → List Token → Type 0
AnswersStatements (Ok x) all f rest = IsListed all x.0 x.1 f rest
AnswersStatements (Err NotInGrammar) all f rest = ⊥
AnswersStatements (Err Memory) all f rest = Unit {0}
