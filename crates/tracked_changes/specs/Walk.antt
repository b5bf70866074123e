-- Drafts made by a walk over a tree: each token, and each node once its parts are done.
use Rattle.std.specs.Prelude.{◌≡◌, ℕ, suc, ◌+◌}
use Rattle.php_tree.specs.declared.token.Token.{Token}
use Rattle.php_tree.specs.declared.kind.NodeKind.{NodeKind}
use Rattle.php_tree.specs.Tree.{Forest, none, leaf, node, Tree, File, count, token_bytes, file_printed}
use Rattle.tracked_changes.specs.Pieces.{before}
use Rattle.tracked_changes.specs.Draft.{NewToken, Draft, no_more, new_leaf, new_node, ◌then◌, FileDraft, token_pieces, pieces, source}

-- a node of a draft: its kind and its parts
abbrev pub NewTree : Type 0
NewTree = NodeKind × Draft

-- a node alone
abbrev pub new_alone : NewTree → Draft
new_alone t = new_node t.0 t.1 no_more

-- What is made of each token; and of each node, by its number in preorder and as it stands in the source, once its parts
-- are done.
pub record Rewriting : Type 0 where
  pub of_token : Token → NewToken
  pub of_node : ℕ → Tree → NewTree → NewTree

-- the draft of a forest whose first node has the number `id`
abbrev pub drafted : Rewriting → ℕ → Forest → Draft
drafted r id none = no_more
drafted r id (leaf t f) = new_leaf (r.of_token t) (drafted r id f)
drafted r id (node k c f) =
    new_alone (r.of_node id (k, c) (k, drafted r (suc id) c)) then drafted r (suc (id + count c)) f

-- the draft of a file
abbrev pub drafted_file : Rewriting → File → FileDraft
drafted_file r f = record { statements = drafted r 0 f.statements; end = r.of_token f.end }

-- a change of nodes keeps the source's bytes
abbrev pub NodesKeepBytes : (NewTree → NewTree) → Type 0
NodesKeepBytes change = (t : NewTree) → before (pieces (change t).1) ≡ before (pieces t.1)

-- a change of tokens keeps the source's bytes
abbrev pub TokensKeepBytes : (Token → NewToken) → Type 0
TokensKeepBytes change = (t : Token) → before (token_pieces (change t)) ≡ token_bytes t

-- Where no change of a token or a node loses a byte of the source, the draft's source is the file, printed.
abbrev pub WalksKeepTheSource : Type 0
WalksKeepTheSource = (r : Rewriting) (f : File)
    → TokensKeepBytes r.of_token → ((id : ℕ) (t : Tree) → NodesKeepBytes (r.of_node id t))
    → source (drafted_file r f) ≡ file_printed f
