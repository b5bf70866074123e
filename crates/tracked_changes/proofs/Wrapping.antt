-- Parentheses as drafts are the parentheses of trees.
use Rattle.std.proofs.Common.{◌≡◌, ℕ, suc, ◌+◌, Bool, true, false, ◌&&◌, cond, codes, List, [], ◌∷◌, ◌++◌, map, refl, ap, sym, ◌∙◌, append_assoc, append-nil}
use Rattle.std.proofs.lemmas.List.{map-append}
use Rattle.php_tree.specs.declared.token.Token.{Token}
use Rattle.php_tree.specs.declared.kind.NodeKind.{NodeKind}
use Rattle.php_tree.specs.Tree.{Forest, none, leaf, node, Tree, ◌+++◌, alone, leaves, count}
use Rattle.tracked_changes.specs.patches.Patches.{Patches, Wrapping, InParens}
use Rattle.tracked_changes.specs.patches.Rewritten as patched
use Rattle.tracked_changes.proofs.patches.Leads.{none_append, lead_append, filled_append}
use Rattle.tracked_changes.specs.Pieces.{Piece, changed, before, after}
use Rattle.tracked_changes.specs.Draft.{Draft, no_more, new_leaf, new_node, pieces, rewritten}
use Rattle.tracked_changes.specs.Walk.{NewTree, new_alone, NodesKeepBytes, drafted}
use Rattle.tracked_changes.specs.Leads.{holds_none, first_lead, without_lead}
use Rattle.tracked_changes.specs.Parens.{in_parens, in_wrappings, wrapping, ParensStandRound, WrappingIsRewritten}
use Rattle.tracked_changes.proofs.Joining.{before-append}
use Rattle.tracked_changes.proofs.Unchanged.{before_token, unplaced_token, unplaced, placed-unplaced, end_of-unplaced}
use Rattle.tracked_changes.proofs.Walking.{rewritten-then, walks_keep_the_source}

-- ---- the first trivia

both_of : (a b : Bool) → (a && b) ≡ true → (a ≡ true) × (b ≡ true)
both_of true b h = (refl, h)
both_of false b h = cc

pub no_pieces : (d : Draft) → holds_none d ≡ true → pieces d ≡ []
no_pieces no_more h = refl
no_pieces (new_leaf t d) h = cc
no_pieces (new_node k c d) h =
    let both = both_of (holds_none c) (holds_none d) h in
    rw (no_pieces c both.0, no_pieces d both.1) refl

split_node : (b : Bool) (k : NodeKind) (c d : Draft) → holds_none c ≡ b
    → pieces c ≡ first_lead c ++ pieces (without_lead c) → pieces d ≡ first_lead d ++ pieces (without_lead d)
    → pieces c ++ pieces d ≡ cond b (first_lead d) (first_lead c) ++ pieces (cond b (new_node k c (without_lead d)) (new_node k (without_lead c) d))
split_node true k c d e g h = rw (no_pieces c e) h
split_node false k c d e g h = ap (λ x. x ++ pieces d) g ∙ append_assoc (first_lead c) (pieces (without_lead c)) (pieces d)

-- a draft is its first trivia and the rest
pub pieces-without_lead : (d : Draft) → pieces d ≡ first_lead d ++ pieces (without_lead d)
pieces-without_lead no_more = refl
pieces-without_lead (new_leaf t d) = append_assoc t.lead t.text (pieces d)
pieces-without_lead (new_node k c d) = split_node (holds_none c) k c d refl (pieces-without_lead c) (pieces-without_lead d)

-- ---- the source's bytes

pub parens_keep_bytes : NodesKeepBytes in_parens
parens_keep_bytes t =
    let lead : List Piece = first_lead t.1 in
    let rest : List Piece = pieces (without_lead t.1) in
    let opening : List Piece = changed [] (codes "(") ∷ [] in
    let closing : List Piece = changed [] (codes ")") ∷ [] in
    before-append (lead ++ opening) (rest ++ closing)
    ∙ rw (before-append lead opening, before-append rest closing, append-nil (before lead), append-nil (before rest)) refl
    ∙ sym (before-append lead rest)
    ∙ ap before (sym (pieces-without_lead t.1))

pub wrappings_keep_bytes : (ws : List Wrapping) → NodesKeepBytes (in_wrappings ws)
wrappings_keep_bytes [] t = refl
wrappings_keep_bytes (InParens ∷ ws) t = parens_keep_bytes (in_wrappings ws t) ∙ wrappings_keep_bytes ws t

-- ---- the rewritten tree

has_none_node : (b : Bool) (c d : Draft) → holds_none c ≡ b
    → patched.has_none (leaves (rewritten c)) ≡ holds_none c → patched.has_none (leaves (rewritten d)) ≡ holds_none d
    → patched.has_none (leaves (rewritten c) ++ leaves (rewritten d)) ≡ (b && holds_none d)
has_none_node true c d e g h = ap patched.has_none (none_append (leaves (rewritten c)) (leaves (rewritten d)) (g ∙ e)) ∙ h
has_none_node false c d e g h = filled_append (leaves (rewritten c)) (leaves (rewritten d)) (g ∙ e)

pub none_is_none : (d : Draft) → patched.has_none (leaves (rewritten d)) ≡ holds_none d
none_is_none no_more = refl
none_is_none (new_leaf t d) = refl
none_is_none (new_node k c d) = has_none_node (holds_none c) c d refl (none_is_none c) (none_is_none d)

lead_node : (b : Bool) (c d : Draft) → holds_none c ≡ b
    → patched.first_lead (leaves (rewritten c)) ≡ after (first_lead c) → patched.first_lead (leaves (rewritten d)) ≡ after (first_lead d)
    → patched.first_lead (leaves (rewritten c) ++ leaves (rewritten d)) ≡ after (cond b (first_lead d) (first_lead c))
lead_node true c d e g h = ap patched.first_lead (none_append (leaves (rewritten c)) (leaves (rewritten d)) (none_is_none c ∙ e)) ∙ h
lead_node false c d e g h = lead_append (leaves (rewritten c)) (leaves (rewritten d)) (none_is_none c ∙ e) ∙ g

pub lead_is_lead : (d : Draft) → patched.first_lead (leaves (rewritten d)) ≡ after (first_lead d)
lead_is_lead no_more = refl
lead_is_lead (new_leaf t d) = refl
lead_is_lead (new_node k c d) = lead_node (holds_none c) c d refl (lead_is_lead c) (lead_is_lead d)

bare_node : (b : Bool) (k : NodeKind) (c d : Draft) → holds_none c ≡ b
    → patched.without_lead (rewritten c) ≡ rewritten (without_lead c) → patched.without_lead (rewritten d) ≡ rewritten (without_lead d)
    → cond b (node k (rewritten c) (patched.without_lead (rewritten d))) (node k (patched.without_lead (rewritten c)) (rewritten d))
    ≡ rewritten (cond b (new_node k c (without_lead d)) (new_node k (without_lead c) d))
bare_node true k c d e g h = ap (λ x. node k (rewritten c) x) h
bare_node false k c d e g h = ap (λ x. node k x (rewritten d)) g

pub bare_is_bare : (d : Draft) → patched.without_lead (rewritten d) ≡ rewritten (without_lead d)
bare_is_bare no_more = refl
bare_is_bare (new_leaf t d) = refl
bare_is_bare (new_node k c d) =
    ap (λ b. cond b (node k (rewritten c) (patched.without_lead (rewritten d))) (node k (patched.without_lead (rewritten c)) (rewritten d))) (none_is_none c)
    ∙ bare_node (holds_none c) k c d refl (bare_is_bare c) (bare_is_bare d)

-- a node of a draft, once the changes are made
abbrev pub rewritten_tree : NewTree → Tree
rewritten_tree t = (t.0, rewritten t.1)

pub paren_is_paren : (t : NewTree) → rewritten_tree (in_parens t) ≡ patched.in_parens (rewritten_tree t)
paren_is_paren t = rw (lead_is_lead t.1, bare_is_bare t.1) refl

pub wrapped_is_wrapped : (ws : List Wrapping) (t : NewTree) → rewritten_tree (in_wrappings ws t) ≡ patched.wrapped ws (rewritten_tree t)
wrapped_is_wrapped [] t = refl
wrapped_is_wrapped (InParens ∷ ws) t = paren_is_paren (in_wrappings ws t) ∙ ap patched.in_parens (wrapped_is_wrapped ws t)

pub parens_stand_round : ParensStandRound
parens_stand_round = (parens_keep_bytes, λ t. ap alone (paren_is_paren t))

-- ---- places don't matter to wrappings

pub leaves-unplaced : (f : Forest) → leaves (unplaced f) ≡ map unplaced_token (leaves f)
leaves-unplaced none = refl
leaves-unplaced (leaf t f) = ap (λ ts. unplaced_token t ∷ ts) (leaves-unplaced f)
leaves-unplaced (node k c f) = rw (leaves-unplaced c, leaves-unplaced f) (sym (map-append unplaced_token (leaves c) (leaves f)))

pub same_none : (ts : List Token) → patched.has_none (map unplaced_token ts) ≡ patched.has_none ts
same_none [] = refl
same_none (t ∷ ts) = refl

pub same_lead : (ts : List Token) → patched.first_lead (map unplaced_token ts) ≡ patched.first_lead ts
same_lead [] = refl
same_lead (t ∷ ts) = refl

bare_cases : (b : Bool) (k : NodeKind) (c f : Forest)
    → patched.without_lead (unplaced c) ≡ unplaced (patched.without_lead c) → patched.without_lead (unplaced f) ≡ unplaced (patched.without_lead f)
    → cond b (node k (unplaced c) (patched.without_lead (unplaced f))) (node k (patched.without_lead (unplaced c)) (unplaced f))
    ≡ unplaced (cond b (node k c (patched.without_lead f)) (node k (patched.without_lead c) f))
bare_cases true k c f g h = ap (λ x. node k (unplaced c) x) h
bare_cases false k c f g h = ap (λ x. node k x (unplaced f)) g

bare_unplaced : (f : Forest) → patched.without_lead (unplaced f) ≡ unplaced (patched.without_lead f)
bare_unplaced none = refl
bare_unplaced (leaf t f) = refl
bare_unplaced (node k c f) =
    ap (λ b. cond b (node k (unplaced c) (patched.without_lead (unplaced f))) (node k (patched.without_lead (unplaced c)) (unplaced f)))
    (ap patched.has_none (leaves-unplaced c) ∙ same_none (leaves c))
    ∙ bare_cases (patched.has_none (leaves c)) k c f (bare_unplaced c) (bare_unplaced f)

-- a tree without places
abbrev pub unplaced_tree : Tree → Tree
unplaced_tree t = (t.0, unplaced t.1)

wrapped_unplaced : (ws : List Wrapping) (t : Tree) → patched.wrapped ws (unplaced_tree t) ≡ unplaced_tree (patched.wrapped ws t)
wrapped_unplaced [] t = refl
wrapped_unplaced (InParens ∷ ws) t =
    let inner : Tree = patched.wrapped ws t in
    ap patched.in_parens (wrapped_unplaced ws t)
    ∙ rw (leaves-unplaced inner.1, same_lead (leaves inner.1), bare_unplaced inner.1) refl

unplaced-append : (f g : Forest) → unplaced (f +++ g) ≡ unplaced f +++ unplaced g
unplaced-append none g = refl
unplaced-append (leaf t f) g = ap (λ x. leaf (unplaced_token t) x) (unplaced-append f g)
unplaced-append (node k c f) g = ap (λ x. node k (unplaced c) x) (unplaced-append f g)

-- ---- whole forests

pub rewritten_is_rewritten : (p : Patches) (id : ℕ) (f : Forest) → rewritten (drafted (wrapping p) id f) ≡ unplaced (patched.rewritten p id f)
rewritten_is_rewritten p id none = refl
rewritten_is_rewritten p id (leaf t f) = rw (append-nil t.lead, append-nil t.text, rewritten_is_rewritten p id f) refl
rewritten_is_rewritten p id (node k c f) =
    let here : NewTree = in_wrappings (p id) (k, drafted (wrapping p) (suc id) c) in
    let rest : Draft = drafted (wrapping p) (suc (id + count c)) f in
    let old : Tree = patched.wrapped (p id) (k, patched.rewritten p (suc id) c) in
    let same : rewritten_tree here ≡ unplaced_tree old =
    wrapped_is_wrapped (p id) (k, drafted (wrapping p) (suc id) c)
    ∙ ap (λ x. patched.wrapped (p id) (k, x)) (rewritten_is_rewritten p (suc id) c)
    ∙ wrapped_unplaced (p id) (k, patched.rewritten p (suc id) c) in
    rewritten-then (new_alone here) rest
    ∙ ap (λ x. alone x +++ rewritten rest) same
    ∙ ap (λ x. alone (unplaced_tree old) +++ x) (rewritten_is_rewritten p (suc (id + count c)) f)
    ∙ sym (unplaced-append (alone old) (patched.rewritten p (suc (id + count c)) f))

pub wrapping_is_rewritten : WrappingIsRewritten
wrapping_is_rewritten p f = record {
  bytes = walks_keep_the_source (wrapping p) f before_token (λ id t. wrappings_keep_bytes (p id));
  tree =
      let all : Forest = patched.rewritten p 0 f.statements in
      rw (rewritten_is_rewritten p 0 f.statements, append-nil f.end.lead, append-nil f.end.text, placed-unplaced 0 all, end_of-unplaced 0 all) refl;
}
