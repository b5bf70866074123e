-- The tokens of a node's own, with its names whole, are those of its new parts.
use Rattle.std.proofs.Common.{◌≡◌, ℕ, Bool, true, false, not, ◌&&◌, ◌||◌, if◌then◌else◌, List, [], ◌∷◌, ◌++◌, Option, refl, sym, ap, ◌∙◌, append-nil}
use Rattle.std.specs.Str.{bytes_eq, str_to_ascii_lowercase}
use Rattle.std.specs.Prelude.{codes}
use Rattle.php_tree.specs.declared.kind.NodeKind.TheVariants.{Empty}
use Rattle.php_tree.specs.declared.token.TokenKind.{TokenKind}
use Rattle.php_tree.specs.Tree.{Forest, none, leaf, node}
use Rattle.php_terminals.specs.Classify.{terminal}
use Rattle.php_terminals.specs.declared.terminal.Terminal.{Terminal}
use Rattle.tracked_changes.specs.Pieces.{Piece, after, before, changed}
use Rattle.tracked_changes.specs.Draft.{NewToken, Draft, no_more, new_leaf, new_node, unchanged}
use Rattle.tracked_changes.proofs.Joining.{after-append, before-append}
use Rattle.syntax_rules.specs.Around.{Around}
use Rattle.syntax_rules.specs.HashComment.{Standing, begins_hash, moved, outside, spaced}
use Rattle.syntax_rules.specs.SplitName.{begins_root, deleted, in_front, is_keyword, is_label, is_name, is_one, is_op, one_name, whole_names}
use Rattle.rewritten_shapes.specs.RefusedWords.{declares, has, has_before, in_class, is_any_of_them, is_keyword_now, named}
use Rattle.rewritten_shapes.proofs.Shown.{bare_rewritten, names_whole, new_parts, shown, shown_token}
use Rattle.rewritten_shapes.proofs.Bare.{bare, bare_token}
use Rattle.rewritten_shapes.proofs.Tabled.{written}

-- tokens that are the same but for changes of their trivia
record Same (t u : NewToken) : Type 0 where
  kind : t.kind ≡ u.kind
  before_ : before t.text ≡ before u.text
  after_ : after t.text ≡ after u.text
  lead : before t.lead ≡ before u.lead

abbrev AreSame : Draft → Draft → Type 0
AreSame no_more no_more = Unit {0}
AreSame no_more (new_leaf u e) = ⊥
AreSame no_more (new_node j b e) = ⊥
AreSame (new_leaf t d) no_more = ⊥
AreSame (new_leaf t d) (new_leaf u e) = Same t u × AreSame d e
AreSame (new_leaf t d) (new_node j b e) = ⊥
AreSame (new_node k c d) no_more = ⊥
AreSame (new_node k c d) (new_leaf u e) = ⊥
AreSame (new_node k c d) (new_node j b e) = AreSame d e

one_by : TokenKind → List ℕ → TokenKind → List ℕ → Bool
one_by k t l u =
    ((is_op k && bytes_eq t (codes "\\")) && (is_label l || (is_name l && not (begins_root u))))
    || ((is_label k || (is_keyword k && bytes_eq (str_to_ascii_lowercase t) (codes "namespace"))) && is_name l && begins_root u)

one_same : (t t2 u u2 : NewToken) → Same t t2 → Same u u2 → is_one t u ≡ is_one t2 u2
unfolding one_by
one_same t t2 u u2 p q =
    ap (λ (k : TokenKind). one_by k (before t.text) u.kind (before u.text)) p.kind
    ∙ ap (λ (x : List ℕ). one_by t2.kind x u.kind (before u.text)) p.before_
    ∙ ap (λ (k : TokenKind). one_by t2.kind (before t2.text) k (before u.text)) q.kind
    ∙ ap (λ (x : List ℕ). one_by t2.kind (before t2.text) u2.kind x) q.before_

joined_same : (t t2 u u2 : NewToken) → Same t t2 → Same u u2 → Same (one_name t u) (one_name t2 u2)
joined_same t t2 u u2 p q = record {
  kind = refl;
  before_ =
      before-append (t.text ++ deleted (before u.lead)) u.text ∙ ap (λ x. x ++ before u.text) (before-append t.text (deleted (before u.lead)))
      ∙ rw (p.before_, q.before_, q.lead) refl
      ∙ sym (before-append (t2.text ++ deleted (before u2.lead)) u2.text ∙ ap (λ x. x ++ before u2.text) (before-append t2.text (deleted (before u2.lead))));
  after_ =
      after-append (t.text ++ deleted (before u.lead)) u.text ∙ ap (λ x. x ++ after u.text) (after-append t.text (deleted (before u.lead)))
      ∙ rw (p.after_, q.after_, q.lead) refl
      ∙ sym (after-append (t2.text ++ deleted (before u2.lead)) u2.text ∙ ap (λ x. x ++ after u2.text) (after-append t2.text (deleted (before u2.lead))));
  lead = p.lead;
}

front_if : (b c : Bool) (t t2 u u2 : NewToken) (d e : Draft) → b ≡ c → Same t t2 → Same u u2 → AreSame d e
    → AreSame (if b && true then new_leaf (one_name t u) d else new_leaf t (new_leaf u d)) (if c && true then new_leaf (one_name t2 u2) e else new_leaf t2 (new_leaf u2 e))
front_if true true t t2 u u2 d e h p q r = (joined_same t t2 u u2 p q, r)
front_if false false t t2 u u2 d e h p q r = (p, (q, r))
front_if true false t t2 u u2 d e h p q r = absurd cc
front_if false true t t2 u u2 d e h p q r = absurd cc

front_same : (t t2 : NewToken) (d e : Draft) → Same t t2 → AreSame d e → AreSame (in_front true t d) (in_front true t2 e)
front_same t t2 no_more no_more p q = (p, tt)
front_same t t2 no_more (new_leaf u e) p q = absurd q
front_same t t2 no_more (new_node j b e) p q = absurd q
front_same t t2 (new_leaf u d) no_more p q = absurd q
front_same t t2 (new_leaf u d) (new_leaf u2 e) p q = front_if (is_one t u) (is_one t2 u2) t t2 u u2 d e (one_same t t2 u u2 p q.0) p q.0 q.1
front_same t t2 (new_leaf u d) (new_node j b e) p q = absurd q
front_same t t2 (new_node k c d) no_more p q = absurd q
front_same t t2 (new_node k c d) (new_leaf u e) p q = absurd q
front_same t t2 (new_node k c d) (new_node j b e) p q = (p, q)

whole_same : (d e : Draft) → AreSame d e → AreSame (names_whole d) (names_whole e)
whole_same no_more no_more p = tt
whole_same no_more (new_leaf u e) p = absurd p
whole_same no_more (new_node j b e) p = absurd p
whole_same (new_leaf t d) no_more p = absurd p
whole_same (new_leaf t d) (new_leaf u e) p = front_same t u (names_whole d) (names_whole e) p.0 (whole_same d e p.1)
whole_same (new_leaf t d) (new_node j b e) p = absurd p
whole_same (new_node k c d) no_more p = absurd p
whole_same (new_node k c d) (new_leaf u e) p = absurd p
whole_same (new_node k c d) (new_node j b e) p = whole_same d e p

put_in_keeps : (b : Bool) (text : List ℕ) (rest : List Piece) → before ((if b then changed [] text ∷ [] else []) ++ rest) ≡ before rest
put_in_keeps true text rest = refl
put_in_keeps false text rest = refl

spaced_keeps : (s : Standing) (lead : List ℕ) → before (spaced s lead) ≡ lead
spaced_keeps s [] = refl
spaced_keeps s (b ∷ bs) =
    ap (λ x. b ∷ x) (put_in_keeps (begins_hash s b bs) (codes " ") (spaced (moved s b bs) bs) ∙ spaced_keeps (moved s b bs) bs)

written_same : (a : Bool → Option Around) (b : Bool) (f : Forest) → AreSame (unchanged f) (written a b f)
written_same a b none = tt
written_same a b (leaf x f) = (record { kind = refl; before_ = refl; after_ = refl; lead = append-nil x.lead ∙ sym (spaced_keeps outside x.lead) }, written_same a false f)
written_same a b (node k c f) = written_same a false f

-- parts without what stands in their nodes
abbrev pub own : Forest → Forest
own none = none
own (leaf x f) = leaf (bare_token x) (own f)
own (node k c f) = node Empty none (own f)

same_token : (t u : NewToken) → Same t u → shown_token t ≡ shown_token u
same_token t u p = rw (p.kind, p.after_) refl

same_own : (d e : Draft) → AreSame d e → own (shown d) ≡ own (shown e)
same_own no_more no_more p = refl
same_own no_more (new_leaf u e) p = absurd p
same_own no_more (new_node j b e) p = absurd p
same_own (new_leaf t d) no_more p = absurd p
same_own (new_leaf t d) (new_leaf u e) p = rw (same_token t u p.0, same_own d e p.1) refl
same_own (new_leaf t d) (new_node j b e) p = absurd p
same_own (new_node k c d) no_more p = absurd p
same_own (new_node k c d) (new_leaf u e) p = absurd p
same_own (new_node k c d) (new_node j b e) p = ap (node Empty none) (same_own d e p)

own_bare : (f : Forest) → own (bare f) ≡ own f
own_bare none = refl
own_bare (leaf x f) = ap (leaf (bare_token x)) (own_bare f)
own_bare (node k c f) = ap (node Empty none) (own_bare f)

pub named_own : (a : Bool → Option Around) (b : Bool) (c : Forest) → own (named c) ≡ own (new_parts a b c)
named_own a b c =
    sym (own_bare (named c)) ∙ ap own (bare_rewritten (whole_names true (unchanged c)))
    ∙ same_own (names_whole (unchanged c)) (names_whole (written a b c)) (whole_same (unchanged c) (written a b c) (written_same a b c))

has_own : (p : Terminal → Bool) (f : Forest) → has p f ≡ has p (own f)
has_own p none = refl
has_own p (leaf x f) = ap (λ (y : Bool). p (terminal x) || y) (has_own p f)
has_own p (node k c f) = has_own p f

-- a node's words are those of its new parts
pub has_new : (p : Terminal → Bool) (a : Bool → Option Around) (b : Bool) (c : Forest) → has p (named c) ≡ has p (new_parts a b c)
has_new p a b c = has_own p (named c) ∙ ap (has p) (named_own a b c) ∙ sym (has_own p (new_parts a b c))

before_own : (p : Terminal → Bool) (f : Forest) → has_before p f ≡ has_before p (own f)
before_own p none = refl
before_own p (leaf x f) = ap (λ (y : Bool). if p (terminal x) then false else (is_keyword_now (terminal x) || y)) (before_own p f)
before_own p (node k c f) = before_own p f

pub before_new : (p : Terminal → Bool) (a : Bool → Option Around) (b : Bool) (c : Forest) → has_before p (named c) ≡ has_before p (new_parts a b c)
before_new p a b c = before_own p (named c) ∙ ap (has_before p) (named_own a b c) ∙ sym (before_own p (new_parts a b c))

class_own : (b : Bool) (f : Forest) → in_class b f ≡ in_class b (own f)
class_own b none = refl
class_own b (leaf x f) = ap (λ (y : Bool). (if b then is_any_of_them (terminal x) else is_keyword_now (terminal x)) || y) (class_own (declares (terminal x)) f)
class_own b (node k c f) = class_own false f

pub class_new : (a : Bool → Option Around) (b : Bool) (c : Forest) → in_class false (named c) ≡ in_class false (new_parts a b c)
class_new a b c = class_own false (named c) ∙ ap (in_class false) (named_own a b c) ∙ sym (class_own false (new_parts a b c))
