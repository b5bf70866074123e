-- How the parts of a rule begin and end, so that names of two rules beside each other stay apart.
use Rattle.std.proofs.Common.{◌⊎◌, inl, inr, ◌≡◌, Bool, true, false, not, ◌&&◌, ◌||◌, if◌then◌else◌, Option, refl, sym, ap, ◌∙◌}
use Rattle.std.proofs.lemmas.Bool.{and_from, or_left, or_right}
use Rattle.php_tree.specs.declared.kind.NodeKind.{NodeKind}
use Rattle.php_tree.specs.declared.version.Version.{Version}
use Rattle.php_tree.specs.declared.version.Version.TheVariants.{V74}
use Rattle.php_tree.specs.Tree.{Forest, none, leaf, node, ◌+++◌}
use Rattle.php_terminals.specs.Classify.{terminal}
use Rattle.php_shapes.specs.Notation.{Rule, nothing, word, kind, place, inside, ◌~◌, ◌|||◌, many, tokens}
use Rattle.php_shapes.specs.Shapes.{Fits, is_nothing, is_word, is_kind, is_place, is_inside, is_both, is_first, is_second, no_more, once_more, is_tokens}
use Rattle.tracked_changes.specs.Draft.{no_more, new_leaf, new_node, ◌then◌}
use Rattle.syntax_rules.specs.Around.{Around, within}
use Rattle.syntax_rules.specs.Rewritten as all
use Rattle.tracked_changes.specs.Parens.{in_wrappings}
use Rattle.tracked_changes.specs.Walk.{NewTree}
use Rattle.syntax_rules.specs.HashComment.{hash_comment}
use Rattle.rewritten_shapes.proofs.Calm.{asks_calm, calm_asked, calm_fresh, calm_shut, is_calm}
use Rattle.rewritten_shapes.proofs.Shown.{begins_fresh, ends_shut, glued_fresh, glued_shut, is_shut, names_whole, new_parts, shown, shown_then, shut_front, whole_then}
use Rattle.rewritten_shapes.proofs.Tabled.{changed, written}

-- ---- booleans

pub and_left : (a b : Bool) → (a && b) ≡ true → a ≡ true
and_left true b e = refl
and_left false b e = cc

pub and_right : (a b : Bool) → (a && b) ≡ true → b ≡ true
and_right true b e = e
and_right false b e = cc

-- ---- parts

-- whether parts begin with a node, or with a token that is no part of a name
abbrev pub begins_calm : Forest → Bool
begins_calm none = true
begins_calm (leaf x f) = is_calm (terminal x)
begins_calm (node k c f) = true

-- whether parts end so; where there are none, this
abbrev pub ends_calm : Bool → Forest → Bool
ends_calm e none = e
ends_calm e (leaf x f) = ends_calm (is_calm (terminal x)) f
ends_calm e (node k c f) = ends_calm true f

ends_join : (e : Bool) (g h : Forest) → ends_calm e (g +++ h) ≡ ends_calm (ends_calm e g) h
ends_join e none h = refl
ends_join e (leaf x g) h = ends_join (is_calm (terminal x)) g h
ends_join e (node k c g) h = ends_join true g h

ends_any : (e d : Bool) (f : Forest) → (f ≡ none → ⊥) → ends_calm e f ≡ ends_calm d f
ends_any e d none h = absurd (h refl)
ends_any e d (leaf x f) h = refl
ends_any e d (node k c f) h = refl

begins_join : (g h : Forest) → begins_calm g ≡ true → (g ≡ none → begins_calm h ≡ true) → begins_calm (g +++ h) ≡ true
begins_join none h p q = q refl
begins_join (leaf x g) h p q = p
begins_join (node k c g) h p q = refl

-- ---- rules

-- whether a rule may have no part
abbrev pub may_be_empty : Rule → Bool
may_be_empty nothing = true
may_be_empty (word c) = false
may_be_empty (kind k) = false
may_be_empty (place p) = false
may_be_empty (inside k r) = false
may_be_empty (r ~ s) = may_be_empty r && may_be_empty s
may_be_empty (r ||| s) = may_be_empty r || may_be_empty s
may_be_empty (many r) = true
may_be_empty tokens = true

abbrev pub starts_apart : Rule → Bool
starts_apart nothing = true
starts_apart (word c) = asks_calm c
starts_apart (kind k) = true
starts_apart (place p) = true
starts_apart (inside k r) = true
starts_apart (r ~ s) = starts_apart r && (not (may_be_empty r) || starts_apart s)
starts_apart (r ||| s) = starts_apart r && starts_apart s
starts_apart (many r) = starts_apart r
starts_apart tokens = false

abbrev pub stops_apart : Rule → Bool
stops_apart nothing = true
stops_apart (word c) = asks_calm c
stops_apart (kind k) = true
stops_apart (place p) = true
stops_apart (inside k r) = true
stops_apart (r ~ s) = stops_apart s && (not (may_be_empty s) || stops_apart r)
stops_apart (r ||| s) = stops_apart r && stops_apart s
stops_apart (many r) = stops_apart r
stops_apart tokens = false

join_none : (g h : Forest) → g +++ h ≡ none → (g ≡ none) × (h ≡ none)
join_none none h e = (refl, e)
join_none (leaf x g) h e = absurd cc
join_none (node k c g) h e = absurd cc

pub empty_rule : (v : Version) {r : Rule} {f : Forest} → Fits v r f → f ≡ none → may_be_empty r ≡ true
empty_rule v is_nothing e = refl
empty_rule v (is_word p) e = absurd cc
empty_rule v (is_kind n) e = absurd cc
empty_rule v (is_place m n) e = absurd cc
empty_rule v (is_inside x near) e = absurd cc
empty_rule v (is_both {r} {s} {f} {g} {h} x y d) e =
    let z = join_none g h (sym d ∙ e) in
    and_from (may_be_empty r) (may_be_empty s) (empty_rule v x z.0) (empty_rule v y z.1)
empty_rule v (is_first {r} {s} x) e = or_left (may_be_empty r) (may_be_empty s) (empty_rule v x e)
empty_rule v (is_second {r} {s} x) e = or_right (may_be_empty r) (may_be_empty s) (empty_rule v x e)
empty_rule v no_more e = refl
empty_rule v (once_more x y d) e = refl
empty_rule v (is_tokens b) e = refl

else_other : (a b : Bool) → (not a || b) ≡ true → a ≡ true → b ≡ true
else_other true b h e = h
else_other false b h e = cc

pub starts_calm : {r : Rule} {f : Forest} → Fits V74 r f → starts_apart r ≡ true → begins_calm f ≡ true
starts_calm is_nothing h = refl
starts_calm (is_word {c} {x} p) h = calm_asked c x h p
starts_calm (is_kind n) h = refl
starts_calm (is_place m n) h = refl
starts_calm (is_inside x near) h = refl
starts_calm (is_both {r} {s} {f} {g} {h} x y d) e =
    ap begins_calm d
    ∙ begins_join g h (starts_calm x (and_left (starts_apart r) (not (may_be_empty r) || starts_apart s) e))
    (λ z. starts_calm y (else_other (may_be_empty r) (starts_apart s) (and_right (starts_apart r) (not (may_be_empty r) || starts_apart s) e) (empty_rule V74 x z)))
starts_calm (is_first {r} {s} x) h = starts_calm x (and_left (starts_apart r) (starts_apart s) h)
starts_calm (is_second {r} {s} x) h = starts_calm x (and_right (starts_apart r) (starts_apart s) h)
starts_calm no_more h = refl
starts_calm (once_more {r} {f} {g} {h} x y d) e = ap begins_calm d ∙ begins_join g h (starts_calm x e) (λ z. starts_calm y e)
starts_calm (is_tokens b) h = cc

pub false_true : (a b : Bool) → (not a || b) ≡ true → (a ≡ true → ⊥) ⊎ (b ≡ true)
false_true true b h = inr h
false_true false b h = inl (λ e. absurd cc)

stops_by : (f g h : Forest) (r s : Rule) → f ≡ g +++ h → Fits V74 s h → ends_calm true h ≡ true → (may_be_empty s ≡ true → ⊥) ⊎ (ends_calm true g ≡ true) → ends_calm true f ≡ true
stops_by f g h r s d y e (inl n) = ap (ends_calm true) d ∙ ends_join true g h ∙ ends_any (ends_calm true g) true h (λ z. n (empty_rule V74 y z)) ∙ e
stops_by f g h r s d y e (inr n) = ap (ends_calm true) d ∙ ends_join true g h ∙ ap (λ (b : Bool). ends_calm b h) n ∙ e

pub map_right : {A B C : Type 0} → (B → C) → A ⊎ B → A ⊎ C
map_right f (inl a) = inl a
map_right f (inr b) = inr (f b)

pub stops_calm : {r : Rule} {f : Forest} → Fits V74 r f → stops_apart r ≡ true → ends_calm true f ≡ true
stops_calm is_nothing h = refl
stops_calm (is_word {c} {x} p) h = calm_asked c x h p
stops_calm (is_kind n) h = refl
stops_calm (is_place m n) h = refl
stops_calm (is_inside x near) h = refl
stops_calm (is_both {r} {s} {f} {g} {h} x y d) e =
    stops_by f g h r s d y (stops_calm y (and_left (stops_apart s) (not (may_be_empty s) || stops_apart r) e))
    (map_right (λ z. stops_calm x z) (false_true (may_be_empty s) (stops_apart r) (and_right (stops_apart s) (not (may_be_empty s) || stops_apart r) e)))
stops_calm (is_first {r} {s} x) h = stops_calm x (and_left (stops_apart r) (stops_apart s) h)
stops_calm (is_second {r} {s} x) h = stops_calm x (and_right (stops_apart r) (stops_apart s) h)
stops_calm no_more h = refl
stops_calm (once_more {r} {f} {g} {h} x y d) e =
    ap (ends_calm true) d ∙ ends_join true g h ∙ ap (λ (b : Bool). ends_calm b h) (stops_calm x e) ∙ stops_calm y e
stops_calm (is_tokens b) h = cc

-- ---- the new parts of two rules

-- whether the next part is the first of its node
abbrev pub still_first : Bool → Forest → Bool
still_first b none = b
still_first b (leaf x f) = false
still_first b (node k c f) = false

after_first : (b : Bool) (f : Forest) → still_first false f ≡ false
after_first b none = refl
after_first b (leaf x f) = refl
after_first b (node k c f) = refl

-- what is made of a node
abbrev made : Option Around → NodeKind → Forest → NewTree
made a k c = in_wrappings (all.wrapping a (k, c)) (changed (k, c) (k, written (within k c) true c))

pub written_none : (a : Bool → Option Around) (b : Bool) (g h : Forest) → written a b (g +++ h) ≡ (written a b g then written a (still_first b g) h)
written_none a b none h = refl
written_none a b (leaf x g) h =
    ap (new_leaf (hash_comment x)) (written_none a false g h ∙ ap (λ (z : Bool). written a false g then written a z h) (after_first b g))
written_none a b (node k c g) h =
    ap (new_node (made (a b) k c).0 (made (a b) k c).1) (written_none a false g h ∙ ap (λ (z : Bool). written a false g then written a z h) (after_first b g))

ends_written : (a : Bool → Option Around) (b e d : Bool) (f : Forest) → (e ≡ true → d ≡ true) → ends_calm e f ≡ true → ends_shut d (written a b f) ≡ true
ends_written a b e d none p h = p h
ends_written a b e d (leaf x f) p h = ends_written a false (is_calm (terminal x)) (is_shut (hash_comment x)) f (calm_shut x) h
ends_written a b e d (node k c f) p h = ends_written a false true true f (λ z. z) h

begins_written : (a : Bool → Option Around) (b : Bool) (f : Forest) → begins_calm f ≡ true → begins_fresh (names_whole (written a b f)) ≡ true
begins_written a b none h = refl
begins_written a b (leaf x f) h = ap begins_fresh (shut_front (hash_comment x) (names_whole (written a false f)) (calm_shut x h)) ∙ calm_fresh x h
begins_written a b (node k c f) h = refl

pub apart_drafts : (a : Bool → Option Around) (b : Bool) (g h : Forest) → (ends_calm true g ≡ true)
    ⊎ (begins_calm h ≡ true) → names_whole (written a b (g +++ h)) ≡
    (names_whole (written a b g) then names_whole (written a (still_first b g) h))
apart_drafts a b g h (inl e) =
    ap names_whole (written_none a b g h)
    ∙ whole_then (written a b g) (written a (still_first b g) h)
    ∙ glued_shut true (written a b g) (names_whole (written a (still_first b g) h)) (ends_written a b true true g (λ z. z) e)
apart_drafts a b g h (inr e) =
    ap names_whole (written_none a b g h)
    ∙ whole_then (written a b g) (written a (still_first b g) h)
    ∙ glued_fresh (written a b g) (names_whole (written a (still_first b g) h)) (begins_written a (still_first b g) h e)

pub apart_parts : (a : Bool → Option Around) (b : Bool) (g h : Forest) → (ends_calm true g ≡ true)
    ⊎ (begins_calm h ≡ true) → new_parts a b (g +++ h) ≡ new_parts a b g +++ new_parts a (still_first b g) h
apart_parts a b g h e = ap shown (apart_drafts a b g h e) ∙ shown_then (names_whole (written a b g)) (names_whole (written a (still_first b g) h))

-- whether names of two rules stay apart
abbrev pub stay_apart : Rule → Rule → Bool
stay_apart r s = stops_apart r || starts_apart s

pub are_apart : {r s : Rule} {g h : Forest} → Fits V74 r g → Fits V74 s h → stay_apart r s ≡ true → (ends_calm true g ≡ true) ⊎ (begins_calm h ≡ true)
are_apart {r} {s} {g} {h} x y e = go (stops_apart r) (starts_apart s) e (λ d. stops_calm x d) (λ d. starts_calm y d)
  where
    go : (b d : Bool) → (b || d) ≡ true → (b ≡ true → ends_calm true g ≡ true) → (d ≡ true → begins_calm h ≡ true) → (ends_calm true g ≡ true) ⊎ (begins_calm h ≡ true)
    go true d e p q = inl (p refl)
    go false d e p q = inr (q e)
