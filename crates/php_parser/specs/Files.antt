-- What it is to be the tree of a file.
use Rattle.std.specs.Prelude.{◌≡◌, ℕ, ◌≤◌, Bool, true, false, List, [], ◌∷◌, Result, Ok, Err}
use Rattle.php_tree.specs.declared.file.FileTree.{FileTree}
use Rattle.php_tree.specs.declared.token.Token.{Token}
use Rattle.php_rows.specs.declared.file.RowTree.{RowTree}
use Rattle.php_rows.specs.declared.row.Row.{Row}
use Rattle.php_rows.specs.File.{file_in}
use Rattle.php_rows.specs.Rows.{IsWhole}
use Rattle.php_tree.specs.declared.version.Version.{Version}
use Rattle.php_tree.specs.declared.version.Version.TheVariants.{V74, V83}
use Rattle.php_tree.specs.Tree.{File, depth, file_leaves}
use Rattle.php_tree.specs.Whole.{file}
use Rattle.php_forms.specs.declared.item.Group.TheVariants.{Statements}
use Rattle.php_forms.specs.declared.item.Item.TheVariants.{Repeats}
use Rattle.php_forms.specs.Grammar.{Walks}
use Rattle.php_grammar.specs.Tables.{php}
use Rattle.php_exprs.specs.declared.fault.ParseFault.{ParseFault}
use Rattle.php_exprs.specs.declared.fault.ParseFault.TheVariants.{NotInGrammar, Memory}
use Rattle.php_parser.specs.Ends.{is_end}

-- how deep nodes may stand in one another
abbrev pub bound : Version → ℕ
bound V74 = 500
bound V83 = 1500

-- whether there is one token, the end of a file
abbrev pub ends_file : List Token → Bool
ends_file [] = false
ends_file (t ∷ []) = is_end t.kind
ends_file (t ∷ u ∷ ts) = false

-- The tree is one of the grammar, its tokens are these, and it is within the bound.
pub record ReadsFile (v : Version) (tokens : List Token) (f : File) : Type 0 where
  pub walks : Walks (php v) (Repeats Statements ∷ []) f.statements (f.end ∷ [])
  pub text : tokens ≡ file_leaves f
  pub ends : is_end f.end.kind ≡ true
  pub low : depth f.statements ≤ bound v

-- The answer is this tree, unless memory ran out.
abbrev pub Answers : Result FileTree ParseFault → File → Type 0
Answers (Ok tree) f = file tree ≡ f
Answers (Err NotInGrammar) f = ⊥
Answers (Err Memory) f = Unit {0}

-- the same of a row
abbrev pub AnswersRow : Result RowTree ParseFault → File → Type 0
AnswersRow (Ok tree) f = file_in tree ≡ f
AnswersRow (Err NotInGrammar) f = ⊥
AnswersRow (Err Memory) f = Unit {0}

-- the same of a row of statements, which are so deep
abbrev pub AnswersWhole : Result (Row × ℕ) ParseFault → List Token → File → Type 0
AnswersWhole (Ok x) tokens f = IsWhole tokens x.0 x.1 f.statements f.end
AnswersWhole (Err NotInGrammar) tokens f = ⊥
AnswersWhole (Err Memory) tokens f = Unit {0}
