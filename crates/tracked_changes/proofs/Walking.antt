-- A walk that keeps the bytes of each token and node keeps those of the file.
use Rattle.std.proofs.Common.{◌≡◌, ℕ, suc, ◌+◌, ◌++◌, refl, ap, sym, ◌∙◌, append_assoc, append-nil}
use Rattle.php_tree.specs.Tree.{Forest, none, leaf, node, Tree, ◌+++◌, count, printed}
use Rattle.tracked_changes.specs.Pieces.{before}
use Rattle.tracked_changes.specs.Draft.{Draft, no_more, new_leaf, new_node, ◌then◌, token_pieces, pieces, rewritten_token, rewritten}
use Rattle.tracked_changes.specs.Walk.{Rewriting, drafted, NodesKeepBytes, TokensKeepBytes, WalksKeepTheSource}
use Rattle.tracked_changes.proofs.Joining.{before-append}

pub pieces-then : (d e : Draft) → pieces (d then e) ≡ pieces d ++ pieces e
pieces-then no_more e = refl
pieces-then (new_leaf t d) e = ap (λ x. token_pieces t ++ x) (pieces-then d e) ∙ sym (append_assoc (token_pieces t) (pieces d) (pieces e))
pieces-then (new_node k c d) e = ap (λ x. pieces c ++ x) (pieces-then d e) ∙ sym (append_assoc (pieces c) (pieces d) (pieces e))

pub rewritten-then : (d e : Draft) → rewritten (d then e) ≡ rewritten d +++ rewritten e
rewritten-then no_more e = refl
rewritten-then (new_leaf t d) e = ap (λ x. leaf (rewritten_token t) x) (rewritten-then d e)
rewritten-then (new_node k c d) e = ap (λ x. node k (rewritten c) x) (rewritten-then d e)

module _ (r : Rewriting) (tokens : TokensKeepBytes r.of_token) (nodes : (id : ℕ) (t : Tree) → NodesKeepBytes (r.of_node id t)) where
  pub before-drafted : (id : ℕ) (f : Forest) → before (pieces (drafted r id f)) ≡ printed f
  before-drafted id none = refl
  before-drafted id (leaf t f) =
      before-append (token_pieces (r.of_token t)) (pieces (drafted r id f)) ∙ rw (tokens t, before-drafted id f) refl
  before-drafted id (node k c f) =
      let here : Draft = (r.of_node id (k, c) (k, drafted r (suc id) c)).1 in
      let rest : Draft = drafted r (suc (id + count c)) f in
      ap before (pieces-then (new_node (r.of_node id (k, c) (k, drafted r (suc id) c)).0 here no_more) rest)
      ∙ ap (λ x. before (x ++ pieces rest)) (append-nil (pieces here))
      ∙ before-append (pieces here) (pieces rest)
      ∙ ap (λ x. x ++ before (pieces rest)) (nodes id (k, c) (k, drafted r (suc id) c) ∙ before-drafted (suc id) c)
      ∙ ap (λ x. printed c ++ x) (before-drafted (suc (id + count c)) f)

pub walks_keep_the_source : WalksKeepTheSource
walks_keep_the_source r f tokens nodes =
    before-append (pieces (drafted r 0 f.statements)) (token_pieces (r.of_token f.end))
    ∙ rw (before-drafted r tokens nodes 0 f.statements, tokens f.end) refl
