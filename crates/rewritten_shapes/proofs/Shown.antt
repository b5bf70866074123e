-- The new tree of a draft, without trivia and places.
use Rattle.std.proofs.Common.{◌≡◌, ℕ, Bool, true, false, not, cond, ◌&&◌, ◌||◌, if◌then◌else◌, codes, List, [], ◌∷◌, Option, refl, ap, ◌∙◌}
use Rattle.php_tree.specs.declared.kind.NodeKind.{NodeKind}
use Rattle.php_tree.specs.declared.kind.NodeKind.TheVariants as kind
use Rattle.php_tree.specs.declared.token.Token.{Token}
use Rattle.php_tree.specs.declared.token.TokenKind.TheVariants as token
use Rattle.php_tree.specs.Tree.{Forest, Tree, none, leaf, node, ◌+++◌}
use Rattle.tracked_changes.specs.patches.Patches.{Wrapping, InParens}
use Rattle.tracked_changes.specs.Pieces.{after, before}
use Rattle.tracked_changes.specs.Draft.{NewToken, Draft, no_more, new_leaf, new_node, ◌then◌, rewritten}
use Rattle.tracked_changes.specs.Leads.{holds_none, without_lead}
use Rattle.tracked_changes.specs.Parens.{in_wrappings}
use Rattle.tracked_changes.specs.Walk.{NewTree}
use Rattle.syntax_rules.specs.Around.{Around, within}
use Rattle.syntax_rules.specs.Rewritten as all
use Rattle.syntax_rules.specs.SplitName.{
  apart,
  in_front,
  is_backslash,
  is_label,
  is_name,
  is_namespace,
  is_nothing,
  is_one,
  keyword_behind,
  keyword_last,
  one_name,
  space_before,
  begins_root,
  whole_names,
}
use Rattle.rewritten_shapes.proofs.Bare.{bare}
use Rattle.rewritten_shapes.proofs.Tabled.{changed, written}

-- ---- tokens and forests

abbrev pub shown_token : NewToken → Token
shown_token t = record { kind = t.kind; lead = []; text = after t.text; start = 0 }

abbrev pub shown : Draft → Forest
shown no_more = none
shown (new_leaf t d) = leaf (shown_token t) (shown d)
shown (new_node k c d) = node k (shown c) (shown d)

pub bare_rewritten : (d : Draft) → bare (rewritten d) ≡ shown d
bare_rewritten no_more = refl
bare_rewritten (new_leaf t d) = ap (leaf (shown_token t)) (bare_rewritten d)
bare_rewritten (new_node k c d) = rw (bare_rewritten c, bare_rewritten d) refl

same_if : {A : Type 0} (b : Bool) (x y : A) (f : A → Token) → f x ≡ f y → f (if b then x else y) ≡ f y
same_if true x y f e = e
same_if false x y f e = refl

shown_space : (b : Bool) (t : NewToken) → shown_token (space_before b t) ≡ shown_token t
shown_space b t =
    same_if (b && is_name t.kind && begins_root (before t.text) && is_nothing (before t.lead)) _ t shown_token refl

pub shown_apart : (b : Bool) (d : Draft) → shown (apart b d) ≡ shown d
shown_apart b no_more = refl
shown_apart b (new_leaf t d) = rw (shown_space b t, shown_apart (keyword_behind b t) d) refl
shown_apart b (new_node k c d) = rw (shown_apart b c, shown_apart (keyword_last b c) d) refl

-- ---- names made whole

abbrev pub names_whole : Draft → Draft
names_whole d = whole_names true d

-- the new tree of parts
abbrev pub new_parts : (Bool → Option Around) → Bool → Forest → Forest
new_parts a b f = shown (names_whole (written a b f))

-- a draft with its names whole, in front of one whose names are
abbrev pub glued : Draft → Draft → Draft
glued no_more e = e
glued (new_leaf t d) e = in_front true t (glued d e)
glued (new_node k c d) e = new_node k (names_whole c) (glued d e)

pub whole_then : (d e : Draft) → names_whole (d then e) ≡ glued d (names_whole e)
whole_then no_more e = refl
whole_then (new_leaf t d) e = ap (in_front true t) (whole_then d e)
whole_then (new_node k c d) e = ap (new_node k (names_whole c)) (whole_then d e)

-- a token that joins no token behind it
abbrev pub is_shut : NewToken → Bool
is_shut t = not (is_backslash t || (is_label t.kind || is_namespace t))

-- a token that is joined to none before it
abbrev pub is_fresh : NewToken → Bool
is_fresh t = not (is_label t.kind || is_name t.kind)

shut_alone : (a b c d e f : Bool) → not (a || (b || c)) ≡ true → ((a && d) || ((b || c) && e && f)) ≡ false
shut_alone true b c d e f h = cc
shut_alone false true c d e f h = cc
shut_alone false false true d e f h = cc
shut_alone false false false d e f h = refl

pub shut_is_one : (t u : NewToken) → is_shut t ≡ true → is_one t u ≡ false
shut_is_one t u h =
    shut_alone (is_backslash t) (is_label t.kind) (is_namespace t)
    (is_label u.kind || (is_name u.kind && not (begins_root (before u.text)))) (is_name u.kind)
    (begins_root (before u.text)) h

fresh_alone : (a b c d : Bool) → not (b || c) ≡ true → ((a && (b || (c && d))) || (a && c && d)) ≡ false
fresh_alone a true c d h = cc
fresh_alone a false true d h = cc
fresh_alone true false false d h = refl
fresh_alone false false false d h = refl

fresh_by : (a n b c d : Bool) → not (b || c) ≡ true → ((a && (b || (c && not d))) || (n && c && d)) ≡ false
fresh_by a n true c d h = cc
fresh_by a n false true d h = cc
fresh_by true true false false d h = refl
fresh_by true false false false d h = refl
fresh_by false true false false d h = refl
fresh_by false false false false d h = refl

pub fresh_is_one : (t u : NewToken) → is_fresh u ≡ true → is_one t u ≡ false
fresh_is_one t u h = fresh_by (is_backslash t) (is_label t.kind || is_namespace t) (is_label u.kind) (is_name u.kind) (begins_root (before u.text)) h

if_false : {A : Type 0} (b d : Bool) (x y : A) → b ≡ false → (if b && d then x else y) ≡ y
if_false true d x y e = cc
if_false false d x y e = refl

-- a token in front that joins nothing
pub apart_leaf : (t u : NewToken) (d : Draft) → is_one t u ≡ false → in_front true t (new_leaf u d) ≡ new_leaf t (new_leaf u d)
apart_leaf t u d e = if_false (is_one t u) true (new_leaf (one_name t u) d) (new_leaf t (new_leaf u d)) e

pub shut_front : (t : NewToken) (d : Draft) → is_shut t ≡ true → in_front true t d ≡ new_leaf t d
shut_front t no_more h = refl
shut_front t (new_node k c d) h = refl
shut_front t (new_leaf u d) h = apart_leaf t u d (shut_is_one t u h)

-- whether a draft begins with no label and no name
abbrev pub begins_fresh : Draft → Bool
begins_fresh no_more = true
begins_fresh (new_leaf t d) = is_fresh t
begins_fresh (new_node k c d) = true

pub fresh_front : (t : NewToken) (d : Draft) → begins_fresh d ≡ true → in_front true t d ≡ new_leaf t d
fresh_front t no_more h = refl
fresh_front t (new_node k c d) h = refl
fresh_front t (new_leaf u d) h = apart_leaf t u d (fresh_is_one t u h)

-- whether a draft ends in a token that joins nothing, or in a node; where there is none, this
abbrev pub ends_shut : Bool → Draft → Bool
ends_shut b no_more = b
ends_shut b (new_leaf t d) = ends_shut (is_shut t) d
ends_shut b (new_node k c d) = ends_shut true d

-- a token in front of two drafts
front_then_if : (b : Bool) (t u : NewToken) (d e : Draft)
    → (if b && true then new_leaf (one_name t u) (d then e) else new_leaf t (new_leaf u (d then e))) ≡
    ((if b && true then new_leaf (one_name t u) d else new_leaf t (new_leaf u d)) then e)
front_then_if true t u d e = refl
front_then_if false t u d e = refl

front_then : (t : NewToken) (d e : Draft) → in_front true t e ≡ new_leaf t e → in_front true t (d then e) ≡ (in_front true t d then e)
front_then t no_more e h = h
front_then t (new_node k c d) e h = refl
front_then t (new_leaf u d) e h = front_then_if (is_one t u) t u d e

front_more : (t : NewToken) (d e : Draft) → (d ≡ no_more → ⊥) → in_front true t (d then e) ≡ (in_front true t d then e)
front_more t no_more e h = absurd (h refl)
front_more t (new_node k c d) e h = refl
front_more t (new_leaf u d) e h = front_then_if (is_one t u) t u d e

-- where nothing is joined, names of two drafts are whole where those of each are
pub glued_fresh : (d e : Draft) → begins_fresh e ≡ true → glued d e ≡ (names_whole d then e)
glued_fresh no_more e h = refl
glued_fresh (new_leaf t d) e h = ap (in_front true t) (glued_fresh d e h) ∙ front_then t (names_whole d) e (fresh_front t e h)
glued_fresh (new_node k c d) e h = ap (new_node k (names_whole c)) (glued_fresh d e h)

some_front : (t : NewToken) (d : Draft) → in_front true t d ≡ no_more → ⊥
some_front t no_more e = cc
some_front t (new_node k c d) e = cc
some_front t (new_leaf u d) e = go (is_one t u && true) e
  where
    go : (b : Bool) → (if b then new_leaf (one_name t u) d else new_leaf t (new_leaf u d)) ≡ no_more → ⊥
    go true e = cc
    go false e = cc

pub whole_some : (d : Draft) → names_whole d ≡ no_more → d ≡ no_more
whole_some no_more e = refl
whole_some (new_leaf t d) e = absurd (some_front t (names_whole d) e)
whole_some (new_node k c d) e = absurd cc

pub glued_shut : (b : Bool) (d e : Draft) → ends_shut b d ≡ true → glued d e ≡ (names_whole d then e)
glued_shut b no_more e h = refl
glued_shut b (new_node k c d) e h = ap (new_node k (names_whole c)) (glued_shut true d e h)
glued_shut b (new_leaf t no_more) e h = shut_front t e h
glued_shut b (new_leaf t (new_leaf u d)) e h =
    ap (in_front true t) (glued_shut (is_shut t) (new_leaf u d) e h)
    ∙ front_more t (names_whole (new_leaf u d)) e (λ z. some_front u (names_whole d) z)
glued_shut b (new_leaf t (new_node k c d)) e h = ap (in_front true t) (glued_shut (is_shut t) (new_node k c d) e h)

pub shown_then : (d e : Draft) → shown (d then e) ≡ shown d +++ shown e
shown_then no_more e = refl
shown_then (new_leaf t d) e = ap (leaf (shown_token t)) (shown_then d e)
shown_then (new_node k c d) e = ap (node k (shown c)) (shown_then d e)

-- ---- the first trivia

front_lead_if : (b : Bool) (t u : NewToken) (d : Draft) → shown
    (if b then new_leaf (one_name (record t { lead = [] }) u) d else new_leaf (record t { lead = [] }) (new_leaf u d))
    ≡ shown (if b then new_leaf (one_name t u) d else new_leaf t (new_leaf u d))
front_lead_if true t u d = refl
front_lead_if false t u d = refl

front_lead : (t : NewToken) (d : Draft) → shown (in_front true (record t { lead = [] }) d) ≡ shown (in_front true t d)
front_lead t no_more = refl
front_lead t (new_node k c d) = refl
front_lead t (new_leaf u d) = front_lead_if (is_one t u && true) t u d

node_lead : (b : Bool) (k : NodeKind) (c d : Draft) → shown (names_whole (without_lead c)) ≡ shown (names_whole c)
    → shown (names_whole (without_lead d)) ≡ shown (names_whole d)
    → shown (names_whole (cond b (new_node k c (without_lead d)) (new_node k (without_lead c) d))) ≡ node k
    (shown (names_whole c)) (shown (names_whole d))
node_lead true k c d p q = ap (node k (shown (names_whole c))) q
node_lead false k c d p q = ap (λ (x : Forest). node k x (shown (names_whole d))) p

pub shown_lead : (d : Draft) → shown (names_whole (without_lead d)) ≡ shown (names_whole d)
shown_lead no_more = refl
shown_lead (new_leaf t d) = front_lead t (names_whole d)
shown_lead (new_node k c d) = node_lead (holds_none c) k c d (shown_lead c) (shown_lead d)

-- ---- nodes

abbrev pub shown_tree : NewTree → Tree
shown_tree t = (t.0, shown (names_whole t.1))

abbrev pub op_token : List ℕ → Token
op_token text = record { kind = token.Op; lead = []; text = text; start = 0 }

-- a node in parentheses
abbrev pub in_paren : Tree → Tree
in_paren x = (kind.Paren, leaf (op_token (codes "(")) (node x.0 x.1 (leaf (op_token (codes ")")) none)))

abbrev pub wrapped : List Wrapping → Tree → Tree
wrapped [] x = x
wrapped (InParens ∷ ws) x = in_paren (wrapped ws x)

pub shown_wrapped : (ws : List Wrapping) (t : NewTree) → shown_tree (in_wrappings ws t) ≡ wrapped ws (shown_tree t)
shown_wrapped [] t = refl
shown_wrapped (InParens ∷ ws) t =
    ap (λ (f : Forest). in_paren ((in_wrappings ws t).0, f)) (shown_lead (in_wrappings ws t).1) ∙ ap in_paren (shown_wrapped ws t)

-- what a node becomes, in its place and without parentheses
abbrev pub changed_tree : NodeKind → Forest → Tree
changed_tree k c = shown_tree (changed (k, c) (k, written (within k c) true c))

-- what a node becomes
abbrev pub new_tree : Option Around → NodeKind → Forest → Tree
new_tree a k c = shown_tree (in_wrappings (all.wrapping a (k, c)) (changed (k, c) (k, written (within k c) true c)))

pub new_tree_is : (a : Option Around) (k : NodeKind) (c : Forest) → new_tree a k c ≡ wrapped (all.wrapping a (k, c)) (changed_tree k c)
new_tree_is a k c = shown_wrapped (all.wrapping a (k, c)) (changed (k, c) (k, written (within k c) true c))

pub node_parts : (a : Bool → Option Around) (b : Bool) (k : NodeKind) (c f : Forest)
    → new_parts a b (node k c f) ≡ node (new_tree (a b) k c).0 (new_tree (a b) k c).1 (new_parts a false f)
node_parts a b k c f = refl
