-- Nodes that the rules on syntax leave as they are, but for what stands in them.
use Rattle.std.proofs.Common.{◌≡◌, Bool, true, false, ◌&&◌, if◌then◌else◌, List, [], ◌∷◌, ◌++◌, Option, Some, None, refl, ap, ◌∙◌}
use Rattle.std.specs.Str.{bytes_eq}
use Rattle.std.specs.Prelude.{codes}
use Rattle.php_tree.specs.declared.kind.NodeKind.{NodeKind}
use Rattle.php_tree.specs.declared.kind.NodeKind.TheVariants as k
use Rattle.php_tree.specs.Tree.{Forest}
use Rattle.tracked_changes.specs.patches.Patches.{Wrapping, InParens}
use Rattle.tracked_changes.specs.Walk.{NewTree}
use Rattle.syntax_rules.specs.Around.{Around, kind_if_first, operator_of, within}
use Rattle.syntax_rules.specs.DotPrecedence.{around_dot, is_binary, is_regrouped, takes_apart}
use Rattle.syntax_rules.specs.NestedTernary as nested
use Rattle.syntax_rules.specs.Rewritten as all
use Rattle.rewritten_shapes.proofs.Shown.{new_parts, new_tree, new_tree_is, shown_tree, wrapped, changed_tree}
use Rattle.rewritten_shapes.proofs.Tabled.{changed, written}

-- whether no rule puts a node of the kind in parentheses
abbrev pub is_unwrapped : NodeKind → Bool
is_unwrapped k.Binary = false
is_unwrapped k.Ternary = false
is_unwrapped k.ShortTernary = false
is_unwrapped _ = true

-- whether no rule changes a node of the kind at all
abbrev pub is_simple : NodeKind → Bool
is_simple k.Binary = false
is_simple k.Ternary = false
is_simple k.ShortTernary = false
is_simple k.BraceOffset = false
is_simple k.Cast = false
is_simple k.Quoted = false
is_simple _ = true

no_nests : (o k : NodeKind) → is_unwrapped k ≡ true → nested.nests o k ≡ false
no_nests k.Ternary k.Ternary e = cc
no_nests k.Ternary k.ShortTernary e = cc
no_nests k.Ternary _ e = refl
no_nests k.ShortTernary k.Ternary e = cc
no_nests k.ShortTernary _ e = refl
no_nests _ k e = refl

none_around : (o : Option NodeKind) (k : NodeKind) → is_unwrapped k ≡ true → nested.around o k ≡ []
none_around None k e = refl
none_around (Some o) k e = ap (λ (b : Bool). if b then InParens ∷ [] else []) (no_nests o k e)

no_binary : (k : NodeKind) → is_unwrapped k ≡ true → is_binary k ≡ false
no_binary k.Binary e = cc
no_binary _ e = refl

regrouped_not : (a : Option Around) (k : NodeKind) (c : Forest) → is_unwrapped k ≡ true → is_regrouped a (k, c) ≡ false
regrouped_not None k c e = refl
regrouped_not (Some a) k c e = ap (λ (b : Bool). (b && bytes_eq (operator_of c) (codes ".")) && takes_apart a) (no_binary k e)

pub unwrapped_is : (a : Option Around) (k : NodeKind) (c : Forest) → is_unwrapped k ≡ true → all.wrapping a (k, c) ≡ []
unwrapped_is a k c e =
    ap (λ (ws : List Wrapping). ws ++ around_dot a (k, c)) (none_around (kind_if_first a) k e)
    ∙ ap (λ (b : Bool). if b then InParens ∷ [] else []) (regrouped_not a k c e)

pub unwrapped_tree : (a : Option Around) (k : NodeKind) (c : Forest) → is_unwrapped k ≡ true → new_tree a k c ≡ changed_tree k c
unwrapped_tree a k c e = new_tree_is a k c ∙ ap (λ (ws : List Wrapping). wrapped ws (changed_tree k c)) (unwrapped_is a k c e)

pub simple_unwrapped : (k : NodeKind) → is_simple k ≡ true → is_unwrapped k ≡ true
simple_unwrapped k.Binary e = cc
simple_unwrapped k.Ternary e = cc
simple_unwrapped k.ShortTernary e = cc
simple_unwrapped _ e = refl

simple_changed : (k : NodeKind) (c : Forest) (t : NewTree) → is_simple k ≡ true → changed (k, c) t ≡ t
simple_changed k.BraceOffset c t e = cc
simple_changed k.Cast c t e = cc
simple_changed k.Quoted c t e = cc
simple_changed _ c t e = refl

pub simple_tree : (a : Option Around) (k : NodeKind) (c : Forest) → is_simple k ≡ true → new_tree a k c ≡ (k, new_parts (within k c) true c)
simple_tree a k c e =
    unwrapped_tree a k c (simple_unwrapped k e) ∙ ap shown_tree (simple_changed k c (k, written (within k c) true c) e)
