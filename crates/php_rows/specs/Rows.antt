-- What is read so far, in a row.
use Rattle.std.specs.Prelude.{◌≡◌, ◌≤◌, ℕ, ◌+◌, List, [], ◌∷◌, ◌++◌, drop, length}
use Rattle.php_tree.specs.declared.kind.NodeKind.{NodeKind}
use Rattle.php_tree.specs.declared.token.Token.{Token}
use Rattle.php_tree.specs.Tree.{Forest, none, node, ◌+++◌, depth, leaves}
use Rattle.php_terminals.specs.declared.tokens.Tokens.{Tokens}
use Rattle.php_terminals.specs.Tokens.{tokens_in}
use Rattle.php_rows.specs.declared.flat.Flat.{Flat}
use Rattle.php_rows.specs.declared.row.Row.{Row}
use Rattle.php_rows.specs.Flatten.{flatten, tokens}

-- a forest was read behind what was read before
pub record Grew (old new : Row) (f : Forest) : Type 0 where
  pub nodes : new.nodes.items ≡ old.nodes.items ++ flatten old.at f
  pub at : new.at ≡ old.at + tokens f

-- a node with a number is read so far that a forest is its parts
pub record IsOpen (old new : Row) (from : ℕ) (f : Forest) : Type 0 where
  pub hole : Flat
  pub first : hole.first ≡ old.at
  pub place : length old.nodes.items ≡ from
  pub nodes : new.nodes.items ≡ old.nodes.items ++ hole ∷ flatten old.at f
  pub at : new.at ≡ old.at + tokens f

-- The row is made of a forest, which has these tokens but the last one, and is so deep.
pub record IsWhole (ts : List Token) (row : Row) (n : ℕ) (f : Forest) (last : Token) : Type 0 where
  pub nodes : row.nodes.items ≡ flatten 0 f
  pub text : ts ≡ leaves f ++ last ∷ []
  pub deep : n ≡ depth f

-- how many nodes there are
abbrev pub nodes_read : Row → ℕ
nodes_read row = length row.nodes.items

-- A node with a number is the last one of a row, among these tokens.
pub record IsInner (before : Row) (from : ℕ) (row : Row) (all : Tokens) (k : NodeKind) (f : Forest) (rest : List Token) : Type 0 where
  pub grew : Grew before row (node k f none)
  pub place : length before.nodes.items ≡ from
  pub text : drop before.at (tokens_in all) ≡ leaves f ++ rest
  pub within : row.at ≤ length all.marks.now

-- the row is that of a forest, whose first token is the first one
abbrev pub IsRowOf : Row → Forest → Type 0
IsRowOf row f = row.nodes.items ≡ flatten 0 f
