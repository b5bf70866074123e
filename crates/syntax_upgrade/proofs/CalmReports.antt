-- Nothing is reported of parts that no rule touches.
use Rattle.std.proofs.lemmas.Bool.{and_parts, and_right, not-true, or_parts}
use Rattle.std.proofs.Common.{◌≡◌, ℕ, zero, suc, Bool, true, false, not, ◌&&◌, ◌||◌, if◌then◌else◌, List, [], ◌∷◌, ◌++◌, None, refl, ap, ◌∙◌, append-nil}
use Rattle.php_tree.specs.declared.kind.NodeKind.{NodeKind}
use Rattle.php_tree.specs.declared.token.Token.{Token}
use Rattle.php_tree.specs.Tree.{Forest, none, leaf, node, leaves}
use Rattle.php_tree.specs.Places.{behind, end_of}
use Rattle.php_terminals.specs.declared.terminal.Terminal.{Terminal}
use Rattle.php_terminals.specs.Classify.{terminal}
use Rattle.syntax_upgrade.specs.Calm.{AreCalm, IsCalm, is_calm_kind, is_edited_kind, last_class}
use Rattle.syntax_upgrade.specs.Found.{Report}
use Rattle.syntax_upgrade.specs.Labels.{Labels, label_next, labels_in}
use Rattle.syntax_upgrade.specs.NodeRule.{NodeRule, all_of, has_sought, is_reported_kind, is_reported_token, is_sought, needs_token}
use Rattle.syntax_upgrade.specs.node_rules.{node_rules}
use Rattle.syntax_upgrade.specs.Reports.{at_node, reports_in}
use Rattle.syntax_upgrade.specs.ReservedName.{Standing, at_first, next, past_node, refused_if}
use Rattle.syntax_upgrade.proofs.CalmDrafts.{and_none}
use Rattle.syntax_upgrade.proofs.QuietNodes.{not_doubtful, not_doubtful_last}

-- ---- words and nodes

none_if : (b c : Bool) (at : ℕ) (x : Token) (rs : List Report) → c ≡ false → refused_if (b && c) at x ++ rs ≡ rs
none_if b c at x rs e = rw (e, and_none b) refl

-- no token among the own parts of a node is one that these rules look for
abbrev NoneSought : List NodeRule → Forest → Type 0
NoneSought rules none = Unit {0}
NoneSought rules (leaf x f) = (is_reported_token rules x ≡ false) × NoneSought rules f
NoneSought rules (node k c f) = NoneSought rules f

none_sought : (f : Forest) → AreCalm f → NoneSought node_rules f
none_sought none h = tt
none_sought (leaf x f) h = (h.0.unreported, none_sought f h.1)
none_sought (node k c f) h = none_sought f h.1.1

first_sought : (rule : NodeRule) (rules : List NodeRule) (f : Forest) → NoneSought (rule ∷ rules) f → has_sought rule.looks_for f ≡ false
first_sought rule rules none h = refl
first_sought rule rules (leaf x f) h =
    rw ((or_parts (is_sought rule.looks_for x) (is_reported_token rules x) h.0).0) (first_sought rule rules f h.1)
first_sought rule rules (node k c f) h = first_sought rule rules f h

rest_sought : (rule : NodeRule) (rules : List NodeRule) (f : Forest) → NoneSought (rule ∷ rules) f → NoneSought rules f
rest_sought rule rules none h = tt
rest_sought rule rules (leaf x f) h =
    ((or_parts (is_sought rule.looks_for x) (is_reported_token rules x) h.0).1, rest_sought rule rules f h.1)
rest_sought rule rules (node k c f) h = rest_sought rule rules f h

-- by its kind it is none, and where a token is needed there is none
passed_by : (looks needs has : Bool) (rs : List Report) → (not needs && looks) ≡ false → has ≡ false
    → (if looks && (not needs || has) then rs else []) ≡ []
passed_by looks true has rs h e = rw (and_right looks has e) refl
passed_by looks false has rs h e = rw h refl

-- of a node of a kind that no rule looks at whatever stands in it, and in which no token is looked for, none says anything
pub rules_pass : (rules : List NodeRule) (k : NodeKind) (c : Forest) (at : ℕ) → is_reported_kind rules k ≡ false → NoneSought rules c
    → all_of rules at (k, c) ≡ []
rules_pass [] k c at h i = refl
rules_pass (rule ∷ rules) k c at h i =
    let e = or_parts (not (needs_token rule.looks_for) && rule.looks_at k) (is_reported_kind rules k) h in
    ap (λ (rs : List Report). rs ++ all_of rules at (k, c))
    (passed_by (rule.looks_at k) (needs_token rule.looks_for) (has_sought rule.looks_for c) (rule.says at (k, c)) e.0 (first_sought rule rules c i))
    ∙ rules_pass rules k c at e.1 (rest_sought rule rules c i)

not_reported : (k : NodeKind) → is_calm_kind k ≡ true → is_reported_kind node_rules k ≡ false
not_reported k h = not-true (is_reported_kind node_rules k) ((and_parts (not (is_edited_kind k)) _ h).1)

no_nodes : (k : NodeKind) (c : Forest) (at : ℕ) → is_calm_kind k ≡ true → AreCalm c → at_node at (k, c) ≡ []
no_nodes k c at h i = rules_pass node_rules k c at (not_reported k h) (none_sought c i)

pub nothing_found : (k : NodeKind) (s : Standing) (more at : ℕ) (f : Forest) → AreCalm f → reports_in k s more at f ≡ []
nothing_found k s more at none h = refl
nothing_found k s zero at (leaf x f) h =
    none_if _ _ at x _ (not_doubtful k s (terminal x) (next f) h.0.sure)
    ∙ nothing_found k _ _ (behind at x) f h.1
nothing_found k s (suc more) at (leaf x f) h =
    none_if _ _ at x _ (not_doubtful_last k s (terminal x) (next f) h.0.sure)
    ∙ nothing_found k _ _ (behind at x) f h.1
nothing_found k s more at (node j b f) h =
    ap (λ (rs : List Report). (rs ++ at_node at (j, b)) ++ reports_in k (past_node s) zero (end_of at b) f) (nothing_found j at_first zero at b h.1.0)
    ∙ ap (λ (rs : List Report). rs ++ reports_in k (past_node s) zero (end_of at b) f) (no_nodes j b at h.0 h.1.0)
    ∙ nothing_found k (past_node s) zero (end_of at b) f h.1.1

-- ---- labels

pub class_append : (c : Terminal) (xs ys : List Token) → last_class (last_class c xs) ys ≡ last_class c (xs ++ ys)
class_append c [] ys = refl
class_append c (x ∷ xs) ys = class_append (terminal x) xs ys

abbrev held_none : Terminal → List Report → Labels
held_none c rs = record { before = c; held = None; found = rs }

label_passed : (at : ℕ) (x : Token) (c : Terminal) (rs : List Report) → IsCalm x → label_next at x (held_none c rs) ≡ held_none (terminal x) rs
label_passed at x c rs h = rw (h.no_enum, append-nil rs) refl

pub labels_passed : (at : ℕ) (f : Forest) (c : Terminal) (rs : List Report) → AreCalm f
    → labels_in at f (held_none c rs) ≡ held_none (last_class c (leaves f)) rs
labels_passed at none c rs h = refl
labels_passed at (leaf x f) c rs h =
    ap (labels_in (behind at x) f) (label_passed at x c rs h.0) ∙ labels_passed (behind at x) f (terminal x) rs h.1
labels_passed at (node k b f) c rs h =
    ap (labels_in (end_of at b) f) (labels_passed at b c rs h.1.0)
    ∙ labels_passed (end_of at b) f (last_class c (leaves b)) rs h.1.1
    ∙ ap (λ (d : Terminal). held_none d rs) (class_append c (leaves b) (leaves f))
