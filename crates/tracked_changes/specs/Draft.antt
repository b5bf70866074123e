-- A new tree with its changes tracked: the source, the edits and the rewritten tree are all read off it.
use Rattle.std.specs.Prelude.{ℕ, List, [], ◌∷◌, ◌++◌}
use Rattle.php_tree.specs.declared.token.Token.{Token}
use Rattle.php_tree.specs.declared.token.TokenKind.{TokenKind}
use Rattle.php_tree.specs.declared.kind.NodeKind.{NodeKind}
use Rattle.php_tree.specs.Tree.{Forest, none, leaf, node, File}
use Rattle.php_tree.specs.Places.{placed_file}
use Rattle.tracked_changes.specs.Pieces.{Piece, kept, before, after}

-- a token of the new tree: its kind, its trivia and its text
pub record NewToken : Type 0 where
  pub kind : TokenKind
  pub lead : List Piece
  pub text : List Piece

-- Parts of the new tree in order. `new_leaf` is a token and what follows it; `new_node` is a node by its kind and its own
-- parts, and what follows it.
pub data Draft : Type 0 where
  no_more : Draft
  new_leaf : NewToken → Draft → Draft
  new_node : NodeKind → Draft → Draft → Draft

-- one draft, and then another
infixr 5 ◌then◌
abbrev pub ◌then◌ : Draft → Draft → Draft
no_more then e = e
(new_leaf t d) then e = new_leaf t (d then e)
(new_node k c d) then e = new_node k c (d then e)

-- a whole file: its statements, and the token at its end
pub record FileDraft : Type 0 where
  pub statements : Draft
  pub end : NewToken

-- ---- the pieces, in the order of the file

abbrev pub token_pieces : NewToken → List Piece
token_pieces t = t.lead ++ t.text

abbrev pub pieces : Draft → List Piece
pieces no_more = []
pieces (new_leaf t d) = token_pieces t ++ pieces d
pieces (new_node k c d) = pieces c ++ pieces d

abbrev pub file_pieces : FileDraft → List Piece
file_pieces d = pieces d.statements ++ token_pieces d.end

-- the bytes of the source
abbrev pub source : FileDraft → List ℕ
source d = before (file_pieces d)

-- ---- the rewritten tree

-- a token once the changes are made; its place is set with those of the whole file
abbrev pub rewritten_token : NewToken → Token
rewritten_token t = record { kind = t.kind; lead = after t.lead; text = after t.text; start = 0 }

abbrev pub rewritten : Draft → Forest
rewritten no_more = none
rewritten (new_leaf t d) = leaf (rewritten_token t) (rewritten d)
rewritten (new_node k c d) = node k (rewritten c) (rewritten d)

-- the rewritten file, each token in its place
abbrev pub rewritten_file : FileDraft → File
rewritten_file d = placed_file (record { statements = rewritten d.statements; end = rewritten_token d.end })

-- ---- trees as they stand

abbrev pub unchanged_token : Token → NewToken
unchanged_token t = record { kind = t.kind; lead = kept t.lead ∷ []; text = kept t.text ∷ [] }

-- a forest as it stands, each byte kept
abbrev pub unchanged : Forest → Draft
unchanged none = no_more
unchanged (leaf t f) = new_leaf (unchanged_token t) (unchanged f)
unchanged (node k c f) = new_node k (unchanged c) (unchanged f)

abbrev pub unchanged_file : File → FileDraft
unchanged_file f = record { statements = unchanged f.statements; end = unchanged_token f.end }
