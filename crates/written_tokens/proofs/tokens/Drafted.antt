-- The rule on names, on a draft's tokens in order.
use Rattle.std.proofs.Common.{◌≡◌, Bool, true, false, cond, not, ◌&&◌, List, [], ◌∷◌, ◌++◌, refl, sym, ap, ◌∙◌}
use Rattle.std.proofs.lemmas.Bool.{and_parts, not-true}
use Rattle.tracked_changes.specs.Draft.{NewToken, Draft, no_more, new_leaf, new_node}
use Rattle.syntax_rules.specs.SplitName.{is_one, one_name, in_front, whole_names, space_before, keyword_behind, keyword_last, apart}
use Rattle.written_tokens.specs.tokens.Written.{draft_tokens}
use Rattle.written_tokens.specs.tokens.Drafted.{before_all, all_whole, all_spaced, joins, last_joins, begins_node, names_within, NamesInOrder}

-- ---- names apart from keywords

last_behind : Bool → List NewToken → Bool
last_behind behind [] = behind
last_behind behind (t ∷ ts) = last_behind (keyword_behind behind t) ts

last_append : (behind : Bool) (ts us : List NewToken) → last_behind behind (ts ++ us) ≡ last_behind (last_behind behind ts) us
unfolding last_behind
last_append behind [] us = refl
last_append behind (t ∷ ts) us = last_append (keyword_behind behind t) ts us

last_drafted : (behind : Bool) (d : Draft) → keyword_last behind d ≡ last_behind behind (draft_tokens d)
unfolding last_behind
last_drafted behind no_more = refl
last_drafted behind (new_leaf t d) = last_drafted (keyword_behind behind t) d
last_drafted behind (new_node k c d) =
    ap (λ (b : Bool). keyword_last b d) (last_drafted behind c)
    ∙ last_drafted (last_behind behind (draft_tokens c)) d
    ∙ sym (last_append behind (draft_tokens c) (draft_tokens d))

spaced_append : (behind : Bool) (ts us : List NewToken) → all_spaced behind (ts ++ us) ≡ all_spaced behind ts ++ all_spaced (last_behind behind ts) us
unfolding last_behind
spaced_append behind [] us = refl
spaced_append behind (t ∷ ts) us = ap (λ (l : List NewToken). space_before behind t ∷ l) (spaced_append (keyword_behind behind t) ts us)

spaced_drafted : (behind : Bool) (d : Draft) → draft_tokens (apart behind d) ≡ all_spaced behind (draft_tokens d)
spaced_drafted behind no_more = refl
spaced_drafted behind (new_leaf t d) = ap (λ (l : List NewToken). space_before behind t ∷ l) (spaced_drafted (keyword_behind behind t) d)
spaced_drafted behind (new_node k c d) =
    ap (λ (l : List NewToken). l ++ draft_tokens (apart (keyword_last behind c) d)) (spaced_drafted behind c)
    ∙ ap (λ (l : List NewToken). all_spaced behind (draft_tokens c) ++ l) (spaced_drafted (keyword_last behind c) d)
    ∙ ap (λ (b : Bool). all_spaced behind (draft_tokens c) ++ all_spaced b (draft_tokens d)) (last_drafted behind c)
    ∙ sym (spaced_append behind (draft_tokens c) (draft_tokens d))

-- ---- whole names

apart_alone : (t : NewToken) (us : List NewToken) → joins t us ≡ false → before_all t us ≡ t ∷ us
apart_alone t [] h = refl
apart_alone t (u ∷ us) h = rw h refl

front_by : (t u v : NewToken) (us ws : List NewToken) (x : Bool)
    → before_all t (cond x (one_name u v ∷ us) (u ∷ v ∷ us) ++ ws) ≡ before_all t
    (cond x (one_name u v ∷ us) (u ∷ v ∷ us)) ++ ws
front_by t u v us ws true = by_test (is_one t (one_name u v))
  where
    by_test : (y : Bool) → cond y (one_name t (one_name u v) ∷ (us ++ ws)) (t ∷ one_name u v ∷ (us ++ ws)) ≡ cond y (one_name t (one_name u v) ∷ us) (t ∷ one_name u v ∷ us) ++ ws
    by_test true = refl
    by_test false = refl
front_by t u v us ws false = by_test (is_one t u)
  where
    by_test : (y : Bool) → cond y (one_name t u ∷ v ∷ (us ++ ws)) (t ∷ u ∷ v ∷ (us ++ ws)) ≡ cond y (one_name t u ∷ v ∷ us) (t ∷ u ∷ v ∷ us) ++ ws
    by_test true = refl
    by_test false = refl

front_one : (t u : NewToken) (ws : List NewToken) (y : Bool) → cond y (one_name t u ∷ ws) (t ∷ u ∷ ws) ≡ cond y (one_name t u ∷ []) (t ∷ u ∷ []) ++ ws
front_one t u ws true = refl
front_one t u ws false = refl

front_append : (t u : NewToken) (us ws : List NewToken) → before_all t (before_all u us ++ ws) ≡ before_all t (before_all u us) ++ ws
front_append t u [] ws = front_one t u ws (is_one t u)
front_append t u (v ∷ us) ws = front_by t u v us ws (is_one u v)

whole_append : (ts us : List NewToken) → last_joins ts (all_whole us) ≡ false → all_whole (ts ++ us) ≡ all_whole ts ++ all_whole us
whole_append [] us h = refl
whole_append (t ∷ []) us h = apart_alone t (all_whole us) h
whole_append (t ∷ u ∷ ts) us h =
    ap (before_all t) (whole_append (u ∷ ts) us h)
    ∙ front_append t u (all_whole ts) (all_whole us)

-- a draft that begins with a token, or is none
front_leaf : (t u : NewToken) (d : Draft) (x : Bool) → draft_tokens
    (cond x (new_leaf (one_name t u) d) (new_leaf t (new_leaf u d))) ≡ cond x (one_name t u ∷ draft_tokens d)
    (t ∷ u ∷ draft_tokens d)
front_leaf t u d true = refl
front_leaf t u d false = refl

and_true : (x : Bool) → (x && true) ≡ x
and_true true = refl
and_true false = refl

front_drafted : (t : NewToken) (d : Draft) → (begins_node d && joins t (draft_tokens d)) ≡ false → draft_tokens (in_front true t d) ≡ before_all t (draft_tokens d)
front_drafted t no_more h = refl
front_drafted t (new_leaf u d) h =
    ap (λ (x : Bool). draft_tokens (cond x (new_leaf (one_name t u) d) (new_leaf t (new_leaf u d)))) (and_true (is_one t u))
    ∙ front_leaf t u d (is_one t u)
front_drafted t (new_node k c d) h = sym (apart_alone t (draft_tokens (new_node k c d)) h)

node_front_by : (t u : NewToken) (d : Draft) (x : Bool) → begins_node (cond x (new_leaf (one_name t u) d) (new_leaf t (new_leaf u d))) ≡ false
node_front_by t u d true = refl
node_front_by t u d false = refl

node_front : (t : NewToken) (d : Draft) → begins_node (in_front true t d) ≡ false
node_front t no_more = refl
node_front t (new_leaf u d) = node_front_by t u d (is_one t u && true)
node_front t (new_node k c d) = refl

node_whole : (d : Draft) → begins_node (whole_names true d) ≡ begins_node d
node_whole no_more = refl
node_whole (new_leaf t d) = node_front t (whole_names true d)
node_whole (new_node k c d) = refl

whole_drafted : (d : Draft) → names_within d ≡ true → draft_tokens (whole_names true d) ≡ all_whole (draft_tokens d)
whole_drafted no_more h = refl
whole_drafted (new_leaf t d) h =
    let (one, more) = and_parts (not (begins_node d && joins t (all_whole (draft_tokens d)))) (names_within d) h in
    let ih = whole_drafted d more in
    let none : (begins_node (whole_names true d) && joins t (draft_tokens (whole_names true d))) ≡ false =
    rw (node_whole d, ih) (not-true (begins_node d && joins t (all_whole (draft_tokens d))) one) in
    front_drafted t (whole_names true d) none ∙ ap (before_all t) ih
whole_drafted (new_node k c d) h =
    let (one, more) = and_parts (not (last_joins (draft_tokens c) (all_whole (draft_tokens d)))) (names_within c && names_within d) h in
    let (first, rest) = and_parts (names_within c) (names_within d) more in
    ap (λ (l : List NewToken). l ++ draft_tokens (whole_names true d)) (whole_drafted c first)
    ∙ ap (λ (l : List NewToken). all_whole (draft_tokens c) ++ l) (whole_drafted d rest)
    ∙ sym (whole_append (draft_tokens c) (draft_tokens d) (not-true (last_joins (draft_tokens c) (all_whole (draft_tokens d))) one))

pub names_in_order : NamesInOrder
names_in_order d h = spaced_drafted false (whole_names true d) ∙ ap (all_spaced false) (whole_drafted d h)
