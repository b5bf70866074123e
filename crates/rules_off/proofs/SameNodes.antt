-- Nodes that are no place of a rule that is off: each rule set makes the same of them.
use Rattle.std.proofs.Common.{◌≡◌, Bool, true, false, not, ◌&&◌, if◌then◌else◌, ◌++◌, Option, refl, ap, sym, ◌∙◌, codes}
use Rattle.std.specs.Str.{bytes_eq}
use Rattle.std.proofs.lemmas.Slice.Eq.{bytes_eq-Decides}
use Rattle.php_tree.specs.declared.kind.NodeKind.{NodeKind}
use Rattle.php_tree.specs.declared.kind.NodeKind.TheVariants as kind
use Rattle.php_tree.specs.Tree.{Tree}
use Rattle.tracked_changes.specs.Draft.{Draft, no_more, new_leaf, new_node}
use Rattle.tracked_changes.specs.Walk.{NewTree}
use Rattle.syntax_rules.specs.declared.rules.Rules.{Rules}
use Rattle.syntax_rules.specs.Around.{Around}
use Rattle.syntax_rules.specs.BraceOffset.{brace_offset, is_brace_offset}
use Rattle.syntax_rules.specs.Casts.{bare, first_text, is_cast}
use Rattle.syntax_rules.specs.DollarBrace.{begins_dollar_brace, dollar_brace, is_dollar_brace, is_piece, parts}
use Rattle.syntax_rules.specs.DotPrecedence.{is_regrouped}
use Rattle.syntax_rules.specs.InContext.{is_nested, parens_if}
use Rattle.syntax_rules.specs.RealCast.{is_real_cast, real_cast}
use Rattle.syntax_rules.specs.Rewritten.{wrapping_by}
use Rattle.syntax_rules.specs.Together.{every_rule, is_quoted, node_by}
use Rattle.syntax_rules.specs.UnsetCast.{is_edited, is_unset_cast, unset_cast}
use Rattle.syntax_rules.proofs.InContext.{wrapping_by_is}
use Rattle.syntax_upgrade.specs.OffPlaces.{Off}
use Rattle.syntax_upgrade.proofs.Tokens.{and_first, and_second}
use Rattle.rules_off.proofs.Found.{NodeSeen}

-- a rule that is off has no place here
pub on_here : (on is_place : Bool) → (not on && is_place) ≡ false → (on && is_place) ≡ is_place
on_here true is_place h = refl
on_here false is_place h = sym h

pub wrapping_same : (r : Rules) (a : Option Around) (n : Tree) (s : Off) → NodeSeen r a n s → wrapping_by r a n ≡ wrapping_by every_rule a n
wrapping_same r a n s h =
    wrapping_by_is r a n
    ∙ ap (λ (x : Bool). parens_if x ++ parens_if (r.dot_operands && is_regrouped a n)) (on_here r.nested_ternaries (is_nested a n.0) h.nested)
    ∙ ap (λ (x : Bool). parens_if (is_nested a n.0) ++ parens_if x) (on_here r.dot_operands (is_regrouped a n) h.regrouped)
    ∙ sym (wrapping_by_is every_rule a n)

-- ---- a quoted text without `${`

abbrev pub Dollarless : Draft → Type 0
Dollarless no_more = Unit {0}
Dollarless (new_leaf t d) = (is_dollar_brace t.kind ≡ false) × Dollarless d
Dollarless (new_node k c d) = Dollarless d

none_begins : (d : Draft) → Dollarless d → begins_dollar_brace d ≡ false
none_begins no_more h = refl
none_begins (new_leaf t d) h = h.0
none_begins (new_node k c d) h = refl

and_none : (b : Bool) → (b && false) ≡ false
and_none true = refl
and_none false = refl

parts_same : (d : Draft) → Dollarless d → parts d ≡ d
parts_same no_more h = refl
parts_same (new_leaf t d) h = rw (none_begins d h.1, h.0, and_none (is_piece t.kind)) (ap (new_leaf t) (parts_same d h.1))
parts_same (new_node k c d) h = ap (new_node k c) (parts_same d h)

dollar_if : (on quoted : Bool) (t : NewTree) → (on ≡ false → quoted ≡ true → Dollarless t.1) → (if on && quoted then dollar_brace t else t) ≡ (if quoted then dollar_brace t else t)
dollar_if true quoted t h = refl
dollar_if false true t h = ap (λ (d : Draft). (t.0, d)) (sym (parts_same t.1 (h refl refl)))
dollar_if false false t h = refl

-- ---- a node

abbrev changed_by : Bool → Bool → Bool → NewTree → NewTree → NewTree
changed_by brace real unset t rest = if brace then brace_offset t else (if real then real_cast t else (if unset then unset_cast t else rest))

pub changed_same : (r : Rules) (a : Option Around) (n : Tree) (s : Off) (t : NewTree) → NodeSeen r a n s
    → (r.dollar_braces ≡ false → Dollarless t.1) → node_by r n t ≡ node_by every_rule n t
changed_same r a n s t h d =
    let rest : NewTree = if r.dollar_braces && is_quoted n.0 then dollar_brace t else t in
    ap (λ (x : Bool). changed_by x (r.real_casts && is_real_cast n) (r.unset_casts && is_edited n) t rest)
    (on_here r.brace_offsets (is_brace_offset n.0) h.brace)
    ∙ ap (λ (x : Bool). changed_by (is_brace_offset n.0) x (r.unset_casts && is_edited n) t rest) (on_here r.real_casts (is_real_cast n) h.real)
    ∙ ap (λ (x : Bool). changed_by (is_brace_offset n.0) (is_real_cast n) x t rest) (on_here r.unset_casts (is_edited n) h.unset)
    ∙ ap (changed_by (is_brace_offset n.0) (is_real_cast n) (is_edited n) t) (dollar_if r.dollar_braces (is_quoted n.0) t (λ e q. d e))

-- ---- a cast `(unset)` that is edited

cast_no_brace : (k : NodeKind) → is_cast k ≡ true → is_brace_offset k ≡ false
cast_no_brace kind.Cast h = refl
cast_no_brace k h = absurd cc

edited_real : (n : Tree) → is_edited n ≡ true → is_real_cast n ≡ false
edited_real n h =
    let u : is_unset_cast n ≡ true = and_first (is_unset_cast n) _ h in
    let text : bare (first_text n.1) ≡ codes "(unset)" = (bytes_eq-Decides (bare (first_text n.1)) (codes "(unset)")).0
    (and_second (is_cast n.0) (bytes_eq (bare (first_text n.1)) (codes "(unset)")) u) in
    rw text (and_none (is_cast n.0))

pub edited_is : (r : Rules) (n : Tree) (t : NewTree) → (r.unset_casts && is_edited n) ≡ true → node_by r n t ≡ unset_cast t
edited_is r n t h =
    let e : is_edited n ≡ true = and_second r.unset_casts (is_edited n) h in
    let brace : is_brace_offset n.0 ≡ false = cast_no_brace n.0 (and_first (is_cast n.0) _ (and_first (is_unset_cast n) _ e)) in
    rw (brace, edited_real n e, and_none r.brace_offsets, and_none r.real_casts, h) refl
