-- What is read so far, and the nodes that were read.
use Rattle.std.specs.Prelude.{◌≡◌, ◌≤◌, ℕ, suc, max, List, ◌++◌, drop, length}
use Rattle.php_tree.specs.declared.token.Token.{Token}
use Rattle.php_tree.specs.declared.version.Version.{Version}
use Rattle.php_tree.specs.Tree.{Forest, Tree, none, node, depth, leaves}
use Rattle.php_terminals.specs.Indents.{is_misindented}
use Rattle.php_grammar.specs.Edges.{edge, edge_from}
use Rattle.php_rows.specs.declared.row.Row.{Row}
use Rattle.php_rows.specs.Rows.{Grew, IsOpen}
use Rattle.php_exprs.specs.declared.build.Closed.{Closed}
use Rattle.php_exprs.specs.declared.build.Reach.{Reach}

-- the tokens that are still to be read
abbrev pub behind : List Token → Row → List Token
behind all row = drop row.at all

-- a row, and what is known of the parts of its innermost node
abbrev pub State : Type 0
State = Row × Reach

-- Parts were read behind what was read before, and their tokens are those between.
pub record Added (v : Version) (all : List Token) (old new : State) (f : Forest) : Type 0 where
  pub grew : Grew old.0 new.0 f
  pub text : behind all old.0 ≡ leaves f ++ behind all new.0
  pub within : new.0.at ≤ length all
  pub deep : new.1.deep ≡ max old.1.deep (depth f)
  pub edge : new.1.edge ≡ edge_from v old.1.edge f

-- A node was read behind what was read before, and its tokens are those between.
pub record AddedNode (all : List Token) (old new : Row) (x : Tree) : Type 0 where
  pub grew : Grew old new (node x.0 x.1 none)
  pub text : behind all old ≡ leaves x.1 ++ behind all new
  pub within : new.at ≤ length all

-- what the grammar asks of a node
pub record IsClosed (v : Version) (c : Closed) (x : Tree) : Type 0 where
  pub kind : c.kind ≡ x.0
  pub deep : c.deep ≡ suc (depth x.1)
  pub edge : c.edge ≡ edge v x
  pub misindented : c.misindented ≡ is_misindented x

-- a node with a number has all of its parts
pub record IsReady (v : Version) (all : List Token) (before now : Row) (from : ℕ) (reach : Reach) (f : Forest) : Type 0 where
  pub opened : IsOpen before now from f
  pub text : behind all before ≡ leaves f ++ behind all now
  pub within : now.at ≤ length all
  pub deep : reach.deep ≡ depth f
  pub edge : reach.edge ≡ edge_from v 0 f
