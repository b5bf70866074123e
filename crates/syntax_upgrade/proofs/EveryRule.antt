-- Where every rule is on, none has a place.
use Rattle.std.proofs.Common.{◌≡◌, ℕ, zero, suc, Bool, true, false, if◌then◌else◌, List, [], ◌++◌, Option, refl, ap, ◌∙◌, append-nil}
use Rattle.php_tree.specs.Tree.{Forest, none, leaf, node, File}
use Rattle.php_tree.specs.Places.{behind, end_of}
use Rattle.syntax_rules.specs.Around.{Around, at_top, within}
use Rattle.syntax_rules.specs.Together.{every_rule}
use Rattle.syntax_rules.specs.UnsetCast.{is_edited}
use Rattle.syntax_upgrade.specs.Found.{Report}
use Rattle.syntax_upgrade.specs.Reports.{reports, reports_by}
use Rattle.syntax_upgrade.specs.OffPlaces.{Off, null_off, off_in, off_reports}

abbrev none_behind : List Report → Off
none_behind g = record { behind = false; found = g }

-- nothing put behind what is found
once : (g : List Report) → none_behind (g ++ []) ≡ none_behind g
once g = ap none_behind (append-nil g)

five : (g : List Report) → none_behind (((((g ++ []) ++ []) ++ []) ++ []) ++ []) ≡ none_behind g
five g = simp append-nil refl

null_none : (at : ℕ) (f : Forest) (g : List Report) → null_off every_rule at f (none_behind g) ≡ none_behind g
null_none at none g = refl
null_none at (leaf x f) g = once (g ++ []) ∙ once g
null_none at (node k c f) g = refl

where_on : (b : Bool) (p q s : Off) → p ≡ s → q ≡ s → (if b then p else q) ≡ s
where_on true p q s h i = h
where_on false p q s h i = i

nothing_off : (around : Bool → Option Around) (i : Bool) (n at : ℕ) (f : Forest) (g : List Report)
    → off_in every_rule around i n at f (none_behind g) ≡ none_behind g
nothing_off around i n at none g = refl
nothing_off around i zero at (leaf x f) g =
    ap (off_in every_rule around false zero (behind at x) f) (once (g ++ []) ∙ once g)
    ∙ nothing_off around false zero (behind at x) f g
nothing_off around i (suc n) at (leaf x f) g = nothing_off around false n (behind at x) f g
nothing_off around i n at (node k c f) g =
    let inner : Off = none_behind g in
    ap (λ (s : Off). off_in every_rule around false zero (end_of at c) f
    (record { behind = s.behind; found = ((((s.found ++ []) ++ []) ++ []) ++ []) ++ [] }))
    (where_on (is_edited (k, c)) (null_off every_rule at c inner) (off_in every_rule (within k c) true zero at c inner) inner
    (null_none at c g) (nothing_off (within k c) true zero at c g))
    ∙ ap (off_in every_rule around false zero (end_of at c) f) (five g)
    ∙ nothing_off around false zero (end_of at c) f g

pub every_rule_is_on : (f : File) → off_reports every_rule f ≡ []
every_rule_is_on f =
    ap (λ (s : Off). s.found ++ []) (nothing_off at_top true zero 0 f.statements [])

-- The reports are then those of undecided places.
pub every_rule_reports : (f : File) → reports_by every_rule f ≡ reports f
every_rule_reports f = ap (λ (rs : List Report). reports f ++ rs) (every_rule_is_on f) ∙ append-nil (reports f)
