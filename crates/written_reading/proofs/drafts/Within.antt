-- Where names keep to the states that may come, each stands within one node.
use Rattle.std.proofs.Common.{◌≡◌, ℕ, Bool, true, false, not, ◌&&◌, ◌||◌, ◌==◌, nat_eq, if◌then◌else◌, codes, List, [], ◌∷◌, ◌++◌, refl, sym, ap, ◌∙◌, append_assoc}
use Rattle.std.specs.Char.{to_ascii_lowercase}
use Rattle.std.specs.Str.{bytes_eq, str_to_ascii_lowercase}
use Rattle.std.proofs.lemmas.Bool.{eqb-true, and_from, false_from_ne_true}
use Rattle.std.proofs.lemmas.Slice.Eq.{bytes_eq-Decides}
use Rattle.php_tree.specs.declared.token.TokenKind.{TokenKind}
use Rattle.php_tree.specs.declared.token.TokenKind.TheVariants as kind
use Rattle.php_spellings.specs.Bytes.{begins, is_letter}
use Rattle.tracked_changes.specs.Pieces.{Piece, before, old_bytes}
use Rattle.tracked_changes.specs.Draft.{NewToken, Draft, no_more, new_leaf, new_node}
use Rattle.syntax_rules.specs.SplitName.{begins_root, deleted, is_backslash, is_keyword, is_label, is_name, is_namespace, is_one, is_op, one_name}
use Rattle.rewritten_shapes.specs.Laws.{is_namespace_word}
use Rattle.written_tokens.specs.tokens.Drafted.{all_whole, before_all, begins_node, joins, last_joins, names_within}
use Rattle.written_tokens.specs.tokens.Written.{draft_tokens}
use Rattle.rewritten_shapes.specs.paired.Names.{
  Part,
  State,
  bad,
  blank,
  calm,
  edge,
  edged,
  failed,
  key,
  keyed,
  label,
  mark,
  other,
  part_by,
  root,
  rooted,
  rooted_key,
  space,
  step,
  worded,
}
use Rattle.rewritten_shapes.proofs.paired.Asked.{no_clash}
use Rattle.rewritten_shapes.proofs.paired.States.{all_are}
use Rattle.written_reading.specs.drafts.Drafts.{new_part, run_draft}
use Rattle.written_reading.proofs.drafts.Order.{below_same, below_trans, by_below, edge_above, edge_below, edge_twice, is_below, step_below}

-- ---- tokens in order

abbrev pub run_list : State → List NewToken → State
run_list s [] = s
run_list s (t ∷ ts) = run_list (step s (new_part t)) ts

abbrev pub is_ok : State → Bool
is_ok failed = false
is_ok _ = true

list_join : (s : State) (ts us : List NewToken) → run_list s (ts ++ us) ≡ run_list (run_list s ts) us
list_join s [] us = refl
list_join s (t ∷ ts) us = list_join (step s (new_part t)) ts us

pub list_below : (d : Draft) (u s : State) → is_below u s ≡ true → is_below (run_list u (draft_tokens d)) (run_draft s d) ≡ true
list_below no_more u s h = h
list_below (new_leaf t d) u s h = list_below d (step u (new_part t)) (step s (new_part t)) (step_below u s (new_part t) h)
list_below (new_node k c d) u s h =
    let first = list_below c u (edge s) (below_trans u s (edge s) h (edge_above s)) in
    ap (λ (z : State). is_below z (run_draft (edge (run_draft (edge s) c)) d)) (list_join u (draft_tokens c) (draft_tokens d))
    ∙ list_below d (run_list u (draft_tokens c)) (edge (run_draft (edge s) c))
    (below_trans (run_list u (draft_tokens c)) (run_draft (edge s) c) (edge (run_draft (edge s) c)) first (edge_above (run_draft (edge s) c)))

list_failed : (ts : List NewToken) → run_list failed ts ≡ failed
list_failed [] = refl
list_failed (t ∷ ts) = list_failed ts

draft_failed : (d : Draft) → run_draft failed d ≡ failed
draft_failed no_more = refl
draft_failed (new_leaf t d) = draft_failed d
draft_failed (new_node k c d) = ap (λ (s : State). run_draft (edge s) d) (draft_failed c) ∙ draft_failed d

pub ok_below : (u s : State) → is_below u s ≡ true → is_ok s ≡ true → is_ok u ≡ true
ok_below u s h e = implied_ok (is_ok s) (is_ok u) (by_below (λ u s. not (is_ok s) || is_ok u) refl u s h) e
  where
    implied_ok : (a b : Bool) → (not a || b) ≡ true → a ≡ true → b ≡ true
    implied_ok true b e h = e
    implied_ok false b e h = absurd cc

-- what fails goes on failing
no_list : (s : State) (ts : List NewToken) → s ≡ failed → is_ok (run_list s ts) ≡ true → ⊥
no_list s ts e h = no_clash (ap is_ok (ap (λ (z : State). run_list z ts) e ∙ list_failed ts)) h

-- ---- parts by kinds and texts

abbrev pub is_label_part : Part → Bool
is_label_part label = true
is_label_part space = true
is_label_part _ = false

-- whether a token can't go on with a name
abbrev pub is_loose : Part → Bool
is_loose key = true
is_loose mark = true
is_loose other = true
is_loose _ = false

loose_by : (sort : TokenKind) (text : List ℕ) → is_loose (part_by sort text) ≡ true
    → ((is_op sort && bytes_eq text (codes "\\")) ≡ false) ×
    ((is_label sort || (is_keyword sort && bytes_eq (str_to_ascii_lowercase text) (codes "namespace"))) ≡ false)
loose_by kind.Label [] e = absurd cc
loose_by kind.Label (b ∷ bs) e = absurd (go (b == 92) e)
  where
    go : (c : Bool) → is_loose (if c then bad else label) ≡ true → ⊥
    go true h = cc
    go false h = cc
loose_by kind.Keyword text e = (refl, go (is_namespace_word text) e)
  where
    go : (c : Bool) → is_loose (if c then space else key) ≡ true → c ≡ false
    go true h = absurd cc
    go false h = refl
loose_by kind.Op text e = (go (bytes_eq text (codes "\\")) e, refl)
  where
    go : (c : Bool) → is_loose (if c then root else (if begins is_letter text then other else mark)) ≡ true → c ≡ false
    go true h = absurd cc
    go false h = refl
loose_by kind.Name text e = absurd cc
loose_by _ text e = (refl, refl)

both_false : (a b c d e : Bool) → a ≡ false → b ≡ false → ((a && c) || ((b && d) && e)) ≡ false
both_false true b c d e p q = cc
both_false false true c d e p q = cc
both_false false false c d e p q = refl

pub loose_one : (t u : NewToken) → is_loose (new_part t) ≡ true → is_one t u ≡ false
loose_one t u h =
    let w = loose_by t.kind (before t.text) h in
    both_false (is_backslash t) (is_label t.kind || is_namespace t)
    (is_label u.kind || (is_name u.kind && not (begins_root (before u.text)))) (is_name u.kind)
    (begins_root (before u.text)) w.0 w.1

-- a label or `namespace`, or a label without a text: it is no `\`
no_root_by : (sort : TokenKind) (text : List ℕ) → is_label sort ≡ true → (is_op sort && bytes_eq text (codes "\\")) ≡ false
no_root_by kind.Label text e = refl
no_root_by _ text e = absurd cc

-- ---- what is first of whole names

abbrev rooted_front : List NewToken → Bool
rooted_front [] = false
rooted_front (u ∷ us) = is_name u.kind && begins_root (before u.text)

abbrev is_root : Part → Bool
is_root root = true
is_root _ = false

abbrev first_root : List NewToken → Bool
first_root [] = false
first_root (u ∷ us) = is_root (new_part u)

before_append : (ps qs : List Piece) → before (ps ++ qs) ≡ before ps ++ before qs
before_append [] qs = refl
before_append (p ∷ ps) qs = ap (λ (l : List ℕ). old_bytes p ++ l) (before_append ps qs) ∙ sym (append_assoc (old_bytes p) (before ps) (before qs))

pub one_text : (t u : NewToken) → before (one_name t u).text ≡ before t.text ++ (before (deleted (before u.lead)) ++ before u.text)
one_text t u =
    before_append (t.text ++ deleted (before u.lead)) u.text
    ∙ ap (λ (l : List ℕ). l ++ before u.text) (before_append t.text (deleted (before u.lead)))
    ∙ append_assoc (before t.text) (before (deleted (before u.lead))) (before u.text)

-- a text that begins with another byte than `\`
abbrev pub is_plain_text : List ℕ → Bool
is_plain_text [] = false
is_plain_text (b ∷ bs) = not (b == 92)

pub plain_front : (text rest : List ℕ) → is_plain_text text ≡ true → begins_root (text ++ rest) ≡ false
plain_front [] rest e = absurd cc
plain_front (b ∷ bs) rest e = go (b == 92) e
  where
    go : (c : Bool) → not c ≡ true → c ≡ false
    go true h = absurd cc
    go false h = refl

head_of : List ℕ → ℕ
head_of [] = 0
head_of (y ∷ ys) = y

space_text : (text : List ℕ) → bytes_eq (str_to_ascii_lowercase text) (codes "namespace") ≡ true → is_plain_text text ≡ true
unfolding head_of
space_text [] e = absurd cc
space_text (b ∷ bs) e = go (b == 92) refl
  where
    go : (c : Bool) → (b == 92) ≡ c → not c ≡ true
    go true d =
        let same : to_ascii_lowercase b ≡ 110 = ap head_of ((bytes_eq-Decides (str_to_ascii_lowercase (b ∷ bs)) (codes "namespace")).0 e) in
        absurd (no_clash (ap (λ (y : ℕ). nat_eq (to_ascii_lowercase y) 110) (eqb-true b 92 d)) (ap (λ (y : ℕ). nat_eq y 110) same))
    go false d = refl

pub label_text : (sort : TokenKind) (text : List ℕ) → is_label_part (part_by sort text) ≡ true → (is_plain_text text ≡ true) × (is_name sort ≡ false)
label_text kind.Label [] e = absurd cc
label_text kind.Label (b ∷ bs) e = (go (b == 92) e, refl)
  where
    go : (c : Bool) → is_label_part (if c then bad else label) ≡ true → not c ≡ true
    go true h = absurd cc
    go false h = refl
label_text kind.Keyword text e = (go (is_namespace_word text) refl e, refl)
  where
    go : (c : Bool) → is_namespace_word text ≡ c → is_label_part (if c then space else key) ≡ true → is_plain_text text ≡ true
    go true d h = space_text text d
    go false d h = absurd cc
label_text kind.Op text e = absurd (go (bytes_eq text (codes "\\")) (begins is_letter text) e)
  where
    go : (c d : Bool) → is_label_part (if c then root else (if d then other else mark)) ≡ true → ⊥
    go true d h = cc
    go false true h = cc
    go false false h = cc
label_text kind.Name text e = absurd cc
label_text _ text e = absurd cc

loose_name : (sort : TokenKind) (text : List ℕ) → is_loose (part_by sort text) ≡ true → is_name sort ≡ false
loose_name kind.Name text e = absurd cc
loose_name _ text e = refl

blank_name : (sort : TokenKind) (text : List ℕ) → part_by sort text ≡ blank → is_name sort ≡ false
blank_name kind.Name text e = absurd cc
blank_name _ text e = refl

if_front : (t u : NewToken) (us : List NewToken) (b : Bool) → is_name t.kind ≡ false → rooted_front (if b then one_name t u ∷ us else t ∷ u ∷ us) ≡ true → b ≡ true
if_front t u us true n h = refl
if_front t u us false n h = absurd (no_clash (ap (λ (c : Bool). c && begins_root (before t.text)) n) h)

label_front : (t : NewToken) (ws : List NewToken) → is_label_part (new_part t) ≡ true → rooted_front (before_all t ws) ≡ true → ⊥
label_front t [] e h = no_clash (ap (λ (c : Bool). c && begins_root (before t.text)) (label_text t.kind (before t.text) e).1) h
label_front t (u ∷ us) e h = go (is_one t u) refl
  where
    w : (is_plain_text (before t.text) ≡ true) × (is_name t.kind ≡ false)
    w = label_text t.kind (before t.text) e

    go : (b : Bool) → is_one t u ≡ b → ⊥
    go true d =
        no_clash (ap begins_root (one_text t u) ∙ plain_front (before t.text) (before (deleted (before u.lead)) ++ before u.text) (label_text t.kind (before t.text) e).0)
        (sym (ap (λ (b : Bool). rooted_front (if b then one_name t u ∷ us else t ∷ u ∷ us)) d) ∙ h)
    go false d =
        no_clash (ap (λ (c : Bool). c && begins_root (before t.text)) (label_text t.kind (before t.text) e).1)
        (sym (ap (λ (b : Bool). rooted_front (if b then one_name t u ∷ us else t ∷ u ∷ us)) d) ∙ h)

loose_front : (t : NewToken) (ws : List NewToken) → is_loose (new_part t) ≡ true → rooted_front (before_all t ws) ≡ true → ⊥
loose_front t [] e h = no_clash (ap (λ (c : Bool). c && begins_root (before t.text)) (loose_name t.kind (before t.text) e)) h
loose_front t (u ∷ us) e h =
    no_clash (ap (λ (c : Bool). c && begins_root (before t.text)) (loose_name t.kind (before t.text) e))
    (sym (ap (λ (b : Bool). rooted_front (if b then one_name t u ∷ us else t ∷ u ∷ us)) (loose_one t u e)) ∙ h)

-- a label without a text is one with what follows only where a name with `\` in front does
and_last : (a b : Bool) → (a && b) ≡ true → b ≡ true
and_last true b e = e
and_last false b e = absurd cc

named_by : (a c l n r w : Bool) → a ≡ false → ((a && c) || ((l && n) && r)) ≡ true → (n && r) ≡ true
named_by true c l n r w p e = absurd cc
named_by false c true n r w p e = e
named_by false c false n r w p e = absurd cc

joined_root : (t : NewToken) (ws : List NewToken) → is_backslash t ≡ false → joins t ws ≡ true → rooted_front ws ≡ true
joined_root t [] e h = absurd cc
joined_root t (u ∷ us) e h =
    named_by (is_backslash t) (is_label u.kind || (is_name u.kind && not (begins_root (before u.text))))
    (is_label t.kind || is_namespace t) (is_name u.kind) (begins_root (before u.text)) true e h

blank_root : (sort : TokenKind) (text : List ℕ) → part_by sort text ≡ blank → (is_op sort && bytes_eq text (codes "\\")) ≡ false
blank_root kind.Op text e = absurd (go (bytes_eq text (codes "\\")) (begins is_letter text) e)
  where
    go : (c d : Bool) → (if c then root else (if d then other else mark)) ≡ blank → ⊥
    go true d h = cc
    go false true h = cc
    go false false h = cc
blank_root _ text e = refl

label_root : (sort : TokenKind) (text : List ℕ) → is_label_part (part_by sort text) ≡ true → (is_op sort && bytes_eq text (codes "\\")) ≡ false
label_root kind.Op text e = absurd (go (bytes_eq text (codes "\\")) (begins is_letter text) e)
  where
    go : (c d : Bool) → is_label_part (if c then root else (if d then other else mark)) ≡ true → ⊥
    go true d h = cc
    go false true h = cc
    go false false h = cc
label_root _ text e = refl

blank_front : (t : NewToken) (ws : List NewToken) → new_part t ≡ blank → rooted_front (before_all t ws) ≡ true → rooted_front ws ≡ true
blank_front t [] e h = absurd (no_clash (ap (λ (c : Bool). c && begins_root (before t.text)) (blank_name t.kind (before t.text) e)) h)
blank_front t (u ∷ us) e h =
    joined_root t (u ∷ us) (blank_root t.kind (before t.text) e) (if_front t u us (is_one t u) (blank_name t.kind (before t.text) e) h)

-- at an edge no `\` may come
abbrev is_at_edge : State → Bool
is_at_edge edged = true
is_at_edge failed = true
is_at_edge _ = false

no_root_there : (s : State) (ts : List NewToken) → is_at_edge s ≡ true → first_root ts ≡ true → is_ok (run_list s ts) ≡ true → ⊥
no_root_there s [] e f h = absurd cc
no_root_there s (t ∷ ts) e f h = no_list (step s (new_part t)) ts (go s (new_part t) e f) h
  where
    go : (s : State) (p : Part) → is_at_edge s ≡ true → is_root p ≡ true → step s p ≡ failed
    go edged root e f = refl
    go failed p e f = refl
    go edged _ e f = absurd cc
    go _ p e f = absurd cc

after_blank : (s : State) → is_at_edge (step s blank) ≡ true
after_blank s = all_are (λ s. is_at_edge (step s blank)) refl s

after_bad : (s : State) → step s bad ≡ failed
after_bad failed = refl
after_bad calm = refl
after_bad keyed = refl
after_bad rooted = refl
after_bad rooted_key = refl
after_bad worded = refl
after_bad edged = refl

abbrev RootFirst : List NewToken → Type 0
RootFirst ts = (s : State) → is_ok (run_list s ts) ≡ true → rooted_front (all_whole ts) ≡ true → first_root ts ≡ true

front_by : (t : NewToken) (ts : List NewToken) (p : Part) → new_part t ≡ p → RootFirst ts → RootFirst (t ∷ ts)
front_by t ts root e ih s o h = ap is_root e
front_by t ts label e ih s o h = absurd (label_front t (all_whole ts) (ap is_label_part e) h)
front_by t ts space e ih s o h = absurd (label_front t (all_whole ts) (ap is_label_part e) h)
front_by t ts key e ih s o h = absurd (loose_front t (all_whole ts) (ap is_loose e) h)
front_by t ts mark e ih s o h = absurd (loose_front t (all_whole ts) (ap is_loose e) h)
front_by t ts other e ih s o h = absurd (loose_front t (all_whole ts) (ap is_loose e) h)
front_by t ts blank e ih s o h =
    absurd (no_root_there (step s (new_part t)) ts (ap (λ (p : Part). is_at_edge (step s p)) e ∙ after_blank s)
    (ih (step s (new_part t)) o (blank_front t (all_whole ts) e h)) o)
front_by t ts bad e ih s o h = absurd (no_list (step s (new_part t)) ts (ap (step s) e ∙ after_bad s) o)

pub root_first : (ts : List NewToken) → RootFirst ts
root_first [] s o h = absurd cc
root_first (t ∷ ts) s o h = front_by t ts (new_part t) refl (root_first ts) s o h

-- ---- edges

edge_root : (s : State) → edge (step s root) ≡ failed
edge_root failed = refl
edge_root calm = refl
edge_root keyed = refl
edge_root rooted = refl
edge_root rooted_key = refl
edge_root worded = refl
edge_root edged = refl

edge_label : (s : State) → is_at_edge (edge (step s label)) ≡ true
edge_label s = all_are (λ s. is_at_edge (edge (step s label))) refl s

edge_space : (s : State) → is_at_edge (edge (step s space)) ≡ true
edge_space s = all_are (λ s. is_at_edge (edge (step s space))) refl s

edge_blank : (s : State) → is_at_edge (edge (step s blank)) ≡ true
edge_blank s = all_are (λ s. is_at_edge (edge (step s blank))) refl s

pub loose_join : (t : NewToken) (ws : List NewToken) → is_loose (new_part t) ≡ true → joins t ws ≡ true → ⊥
loose_join t [] e h = cc
loose_join t (u ∷ us) e h = no_clash (loose_one t u e) h

apart_by : (t : NewToken) (us : List NewToken) (s : State) (p : Part) → new_part t ≡ p → is_ok (run_list (edge (step s (new_part t))) us) ≡ true → joins t (all_whole us) ≡ true → ⊥
apart_by t us s root e o h = no_list (edge (step s (new_part t))) us (ap (λ (p : Part). edge (step s p)) e ∙ edge_root s) o
apart_by t us s label e o h =
    no_root_there (edge (step s (new_part t))) us (ap (λ (p : Part). is_at_edge (edge (step s p))) e ∙ edge_label s)
    (root_first us (edge (step s (new_part t))) o (joined_root t (all_whole us) (label_root t.kind (before t.text) (ap is_label_part e)) h)) o
apart_by t us s space e o h =
    no_root_there (edge (step s (new_part t))) us (ap (λ (p : Part). is_at_edge (edge (step s p))) e ∙ edge_space s)
    (root_first us (edge (step s (new_part t))) o (joined_root t (all_whole us) (label_root t.kind (before t.text) (ap is_label_part e)) h)) o
apart_by t us s blank e o h =
    no_root_there (edge (step s (new_part t))) us (ap (λ (p : Part). is_at_edge (edge (step s p))) e ∙ edge_blank s)
    (root_first us (edge (step s (new_part t))) o (joined_root t (all_whole us) (blank_root t.kind (before t.text) e) h)) o
apart_by t us s bad e o h = no_list (edge (step s (new_part t))) us (ap (λ (p : Part). edge (step s p)) e ∙ ap edge (after_bad s)) o
apart_by t us s key e o h = loose_join t (all_whole us) (ap is_loose e) h
apart_by t us s mark e o h = loose_join t (all_whole us) (ap is_loose e) h
apart_by t us s other e o h = loose_join t (all_whole us) (ap is_loose e) h

-- no name goes past an edge
apart_there : (t : NewToken) (us : List NewToken) (s : State) → is_ok (run_list (edge (step s (new_part t))) us) ≡ true → joins t (all_whole us) ≡ false
apart_there t us s o = false_from_ne_true (joins t (all_whole us)) (λ h. apart_by t us s (new_part t) refl o h)

last_apart : (ts us : List NewToken) (s : State) → is_ok (run_list (edge (run_list s ts)) us) ≡ true → last_joins ts (all_whole us) ≡ false
last_apart [] us s o = refl
last_apart (t ∷ []) us s o = apart_there t us s o
last_apart (t ∷ u ∷ ts) us s o = last_apart (u ∷ ts) us (step s (new_part t)) o

-- a node begins at an edge
node_edge : (d : Draft) (s : State) → begins_node d ≡ true → run_draft (edge s) d ≡ run_draft s d
node_edge no_more s e = absurd cc
node_edge (new_leaf t d) s e = absurd cc
node_edge (new_node k c d) s e = ap (λ (z : State). run_draft (edge (run_draft z c)) d) (edge_twice s)

ok_list : (d : Draft) (s : State) → is_ok (run_draft s d) ≡ true → is_ok (run_list s (draft_tokens d)) ≡ true
ok_list d s o = ok_below (run_list s (draft_tokens d)) (run_draft s d) (list_below d s s (below_same s)) o

leaf_apart : (t : NewToken) (d : Draft) (s : State) (b : Bool) → begins_node d ≡ b
    → is_ok (run_draft (step s (new_part t)) d) ≡ true → not (b && joins t (all_whole (draft_tokens d))) ≡ true
leaf_apart t d s false e o = refl
leaf_apart t d s true e o =
    ap not (apart_there t (draft_tokens d) s (ok_list d (edge (step s (new_part t))) (ap is_ok (node_edge d (step s (new_part t)) e) ∙ o)))

ok_front : (s : State) (c d : Draft) → is_ok (run_draft (edge (run_draft s c)) d) ≡ true → is_ok (run_draft s c) ≡ true
ok_front s c d o = go (run_draft s c) o
  where
    go : (u : State) → is_ok (run_draft (edge u) d) ≡ true → is_ok u ≡ true
    go failed o = absurd (no_clash (ap is_ok (draft_failed d)) o)
    go _ o = refl

pub ok_within : (d : Draft) (s : State) → is_ok (run_draft s d) ≡ true → names_within d ≡ true
ok_within no_more s o = refl
ok_within (new_leaf t d) s o =
    and_from (not (begins_node d && joins t (all_whole (draft_tokens d)))) (names_within d)
    (leaf_apart t d s (begins_node d) refl o) (ok_within d (step s (new_part t)) o)
ok_within (new_node k c d) s o =
    and_from (not (last_joins (draft_tokens c) (all_whole (draft_tokens d)))) (names_within c && names_within d)
    (ap not (last_apart (draft_tokens c) (draft_tokens d) (edge s)
    (ok_below (run_list (edge (run_list (edge s) (draft_tokens c))) (draft_tokens d)) (run_draft (edge (run_draft (edge s) c)) d)
    (list_below d (edge (run_list (edge s) (draft_tokens c))) (edge (run_draft (edge s) c))
    (edge_below (run_list (edge s) (draft_tokens c)) (run_draft (edge s) c) (list_below c (edge s) (edge s) (below_same (edge s))))) o)))
    (and_from (names_within c) (names_within d) (ok_within c (edge s) (ok_front (edge s) c d o)) (ok_within d (edge (run_draft (edge s) c)) o))
