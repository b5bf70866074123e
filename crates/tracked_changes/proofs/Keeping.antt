-- Changes that keep the source's bytes, part by part.
use Rattle.std.proofs.Common.{◌≡◌, ℕ, Bool, true, false, if◌then◌else◌, List, [], ◌∷◌, ◌++◌, ap, sym, ◌∙◌, append-nil}
use Rattle.php_tree.specs.declared.token.TokenKind.{TokenKind}
use Rattle.php_tree.specs.declared.kind.NodeKind.{NodeKind}
use Rattle.tracked_changes.specs.Pieces.{changed, before}
use Rattle.tracked_changes.specs.Draft.{NewToken, Draft, new_leaf, new_node, token_pieces, pieces}
use Rattle.tracked_changes.specs.Tokens.{retexted}
use Rattle.tracked_changes.proofs.Joining.{before-append}

-- two tokens, and two drafts, have the same bytes in the source
abbrev pub SameToken : NewToken → NewToken → Type 0
SameToken t u = before (token_pieces t) ≡ before (token_pieces u)

abbrev pub SameBytes : Draft → Draft → Type 0
SameBytes d e = before (pieces d) ≡ before (pieces e)

pub same_leaf : (t u : NewToken) (d e : Draft) → SameToken t u → SameBytes d e → SameBytes (new_leaf t d) (new_leaf u e)
same_leaf t u d e h k =
    before-append (token_pieces t) (pieces d) ∙ ap (λ x. x ++ before (pieces d)) h ∙ ap (λ x. before (token_pieces u) ++ x) k
    ∙ sym (before-append (token_pieces u) (pieces e))

pub same_node : (k l : NodeKind) (c b d e : Draft) → SameBytes c b → SameBytes d e → SameBytes (new_node k c d) (new_node l b e)
same_node k l c b d e h g =
    before-append (pieces c) (pieces d) ∙ ap (λ x. x ++ before (pieces d)) h ∙ ap (λ x. before (pieces b) ++ x) g
    ∙ sym (before-append (pieces b) (pieces e))

pub same_if : (b : Bool) (x y t : NewToken) → SameToken x t → SameToken y t → SameToken (if b then x else y) t
same_if true x y t h k = h
same_if false x y t h k = k

pub same_draft_if : (b : Bool) (x y d : Draft) → SameBytes x d → SameBytes y d → SameBytes (if b then x else y) d
same_draft_if true x y d h k = h
same_draft_if false x y d h k = k

pub retexted_keeps : (kind : TokenKind) (text : List ℕ) (t : NewToken) → SameToken (retexted kind text t) t
retexted_keeps kind text t =
    before-append t.lead (changed (before t.text) text ∷ []) ∙ ap (λ x. before t.lead ++ x) (append-nil (before t.text))
    ∙ sym (before-append t.lead t.text)
