-- A cast `(unset)` of a plain variable: its two tokens, and no report.
use Rattle.std.proofs.Common.{◌≡◌, ℕ, zero, true, false, Bool, ◌&&◌, if◌then◌else◌, List, [], ◌++◌, Some, refl, ap, sym, ◌∙◌, codes}
use Rattle.std.specs.Str.{bytes_eq}
use Rattle.std.proofs.lemmas.Bool.{false≢true}
use Rattle.php_tree.specs.declared.kind.NodeKind.{NodeKind}
use Rattle.php_tree.specs.declared.kind.NodeKind.TheVariants as kind
use Rattle.php_tree.specs.declared.token.Token.{Token}
use Rattle.php_tree.specs.Tree.{Forest, none, leaf, node, Tree}
use Rattle.php_tree.specs.Places.{behind, end_of}
use Rattle.syntax_rules.specs.declared.rules.Rules.{Rules}
use Rattle.syntax_rules.specs.Casts.{bare, first_text, is_cast}
use Rattle.syntax_rules.specs.UnsetCast.{is_edited}
use Rattle.syntax_upgrade.specs.Found.{Report}
use Rattle.syntax_upgrade.specs.Labels.{Labels, label_next, labels_in}
use Rattle.syntax_rules.specs.Around.{within}
use Rattle.syntax_rules.specs.Together.{token_by}
use Rattle.syntax_upgrade.specs.NamesWalked.{Head}
use Rattle.syntax_upgrade.specs.OffPlaces.{Off, first_off, inside_off, null_off, off_in}
use Rattle.syntax_upgrade.specs.Parts.{others}
use Rattle.syntax_upgrade.specs.Reports.{reports_in}
use Rattle.syntax_upgrade.specs.ReservedName.{at_first}
use Rattle.syntax_upgrade.specs.UnsetCast.{unset_in}
use Rattle.syntax_upgrade.proofs.Nulls.{is_null, shape, these, these_tokens}
use Rattle.syntax_upgrade.proofs.QuietNodes.{quiet_leaf}
use Rattle.syntax_upgrade.proofs.Tokens.{and_first}

cast_kind : (k : NodeKind) → is_cast k ≡ true → k ≡ kind.Cast
cast_kind kind.Cast h = refl
cast_kind k h = absurd (false≢true h)

pub unset_shape : (r : Rules) (t : Tree) (x v : Token) → Some (x, v) ≡ unset_in r t → t.1 ≡ these x v
unset_shape r t x v h = shape t.1 x v (these_tokens r t x v (sym h)).1

unset_kind : (r : Rules) (t : Tree) (x v : Token) → Some (x, v) ≡ unset_in r t → t.0 ≡ kind.Cast
unset_kind r t x v h =
    cast_kind t.0 (and_first (is_cast t.0) (bytes_eq (bare (first_text t.1)) (codes "(unset)")) (these_tokens r t x v (sym h)).0)

none_in : (at : ℕ) (x v : Token) → reports_in kind.Cast at_first zero at (these x v) ≡ []
none_in at x v =
    sym (quiet_leaf kind.Cast refl at_first zero at x (node kind.Variable (leaf v none) none))
    ∙ ap (λ (rs : List Report). (rs ++ []) ++ []) (sym (quiet_leaf kind.Variable refl at_first zero (behind at x) v none))

pub unset_found : (r : Rules) (t : Tree) (x v : Token) (at : ℕ) → Some (x, v) ≡ unset_in r t → reports_in t.0 at_first zero at t.1 ≡ []
unset_found r t x v at h =
    ap (λ (f : Forest). reports_in t.0 at_first zero at f) (unset_shape r t x v h)
    ∙ ap (λ (k : NodeKind). reports_in k at_first zero at (these x v)) (unset_kind r t x v h)
    ∙ none_in at x v

pub unset_labels : (r : Rules) (t : Tree) (x v : Token) (at : ℕ) (s : Labels) → Some (x, v) ≡ unset_in r t
    → label_next (behind at x) v (label_next at x s) ≡ labels_in at t.1 s
unset_labels r t x v at s h = ap (λ (f : Forest). labels_in at f s) (sym (unset_shape r t x v h))

pub unset_end : (r : Rules) (t : Tree) (x v : Token) (at : ℕ) → Some (x, v) ≡ unset_in r t → behind (behind at x) v ≡ end_of at t.1
unset_end r t x v at h = ap (λ (f : Forest). end_of at f) (sym (unset_shape r t x v h))

abbrev single : Rules → Token → Head
single r x = record { more = zero; token = token_by r x }

where_edited : (b : Bool) (p q : Off) → b ≡ true → (if b then p else q) ≡ p
where_edited true p q h = refl
where_edited false p q h = absurd (false≢true h)

pub unset_off : (r : Rules) (t : Tree) (x v : Token) (at : ℕ) (g : Forest) (s : Off) → Some (x, v) ≡ unset_in r t → g ≡ others t.1
    → first_off r at x (single r x) g s ≡ inside_off r at t s
unset_off r t x v at g s h e =
    ap (λ (f : Forest). first_off r at x (single r x) f s) (e ∙ ap others (unset_shape r t x v h))
    ∙ sym (where_edited (r.unset_casts && is_edited t) (null_off r at t.1 s) (off_in r (within t.0 t.1) true zero at t.1 s) (is_null r t x v (sym h))
    ∙ ap (λ (f : Forest). null_off r at f s) (unset_shape r t x v h))

not_where : (b : Bool) (p q : Off) → b ≡ false → (if b then p else q) ≡ q
not_where true p q h = absurd (false≢true (sym h))
not_where false p q h = refl

pub not_null : (r : Rules) (n : Tree) (at : ℕ) (s : Off) → (r.unset_casts && is_edited n) ≡ false
    → inside_off r at n s ≡ off_in r (within n.0 n.1) true zero at n.1 s
not_null r n at s h = not_where (r.unset_casts && is_edited n) (null_off r at n.1 s) (off_in r (within n.0 n.1) true zero at n.1 s) h
