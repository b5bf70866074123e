-- The node that parts begin with.
use Rattle.std.proofs.Common.{◌≡◌, Bool, true, false, not, ◌&&◌, ◌||◌, refl, sym, ap, ◌∙◌, subst}
use Rattle.std.proofs.lemmas.Bool.{and_parts}
use Rattle.php_tree.specs.declared.kind.NodeKind.{NodeKind}
use Rattle.php_tree.specs.declared.kind.NodeKind.TheVariants as k
use Rattle.php_tree.specs.declared.token.Token.{Token}
use Rattle.php_tree.specs.declared.version.Version.{Version}
use Rattle.php_tree.specs.declared.version.Version.TheVariants.{V74, V83}
use Rattle.php_tree.specs.Tree.{Forest, none, leaf, node, ◌+++◌}
use Rattle.php_shapes.specs.Forms.{form}
use Rattle.php_shapes.specs.Notation.{Rule, nothing, word, kind, place, inside, ◌~◌, ◌|||◌, many, tokens}
use Rattle.php_shapes.specs.Places.{is_postfixed}
use Rattle.php_shapes.specs.Shapes.{
  Fits,
  IsNode,
  is_balanced,
  is_nothing,
  is_word,
  is_kind,
  is_place,
  is_inside,
  is_both,
  is_first,
  is_second,
  no_more,
  once_more,
  is_tokens,
}
use Rattle.php_shapes.proofs.ReadFirst.{nullable, rule_begins}
use Rattle.php_shapes.proofs.ReadMatch.{false_true}

-- no node that a rule gives parts of its own comes first
abbrev pub has_plain_front : Rule → Bool
has_plain_front nothing = true
has_plain_front (word w) = true
has_plain_front (kind j) = true
has_plain_front (place p) = true
has_plain_front (inside j r) = false
has_plain_front (r ~ q) = has_plain_front r && (not (nullable r) || has_plain_front q)
has_plain_front (r ||| q) = has_plain_front r && has_plain_front q
has_plain_front (many r) = has_plain_front r
has_plain_front tokens = true

same_node : (v : Version) (j i : NodeKind) (a b g f : Forest) → node j a g ≡ node i b f → IsNode v j a → IsNode v i b
same_node v j i a b g f e x =
    let s : j ≡ i = cc in
    let d : a ≡ b = cc in
    subst (λ (l : NodeKind). IsNode v l b) s (subst (IsNode v j) d x)

no_leaf : (z : Token) (g : Forest) (i : NodeKind) (b f : Forest) → leaf z g ≡ node i b f → ⊥
no_leaf z g i b f e = cc

second_plain : (a b : Bool) → a ≡ true → (not a || b) ≡ true → b ≡ true
second_plain true b e h = h
second_plain false b e h = absurd (false_true e)

-- The node that parts begin with has the shape.
pub front_node : (v : Version) {r : Rule} {c : Forest} → Fits v r c → has_plain_front r ≡ true → (i : NodeKind) (b f : Forest) → c ≡ node i b f → IsNode v i b
front_node v is_nothing h i b f e = absurd cc
front_node v (is_word a) h i b f e = absurd cc
front_node v (is_kind {k = j} {c = d} x) h i b f e = same_node v j i d b none f e x
front_node v (is_place {k = j} {c = d} m x) h i b f e = same_node v j i d b none f e x
front_node v (is_inside x near) h i b f e = absurd (false_true h)
front_node v (is_first {r = r} {s = q} x) h i b f e = front_node v x ((and_parts (has_plain_front r) (has_plain_front q) h).0) i b f e
front_node v (is_second {r = r} {s = q} x) h i b f e = front_node v x ((and_parts (has_plain_front r) (has_plain_front q) h).1) i b f e
front_node v (is_both {r = r} {s = q} {g = none} {h = d} x y at) h i b f e =
    front_node v y (second_plain (nullable r) (has_plain_front q) (rule_begins v x) ((and_parts (has_plain_front r) (not (nullable r) || has_plain_front q) h).1)) i b f (sym at ∙ e)
front_node v (is_both {g = leaf z g} {h = d} x y at) h i b f e = absurd (no_leaf z (g +++ d) i b f (sym at ∙ e))
front_node v (is_both {r = r} {s = q} {g = node j a g} {h = d} x y at) h i b f e =
    same_node v j i a b (g +++ d) f (sym at ∙ e)
    (front_node v x ((and_parts (has_plain_front r) (not (nullable r) || has_plain_front q) h).0) j a g refl)
front_node v no_more h i b f e = absurd cc
front_node v (once_more {r = r} {g = none} {h = d} x y at) h i b f e = front_node v y h i b f (sym at ∙ e)
front_node v (once_more {g = leaf z g} {h = d} x y at) h i b f e = absurd (no_leaf z (g +++ d) i b f (sym at ∙ e))
front_node v (once_more {r = r} {g = node j a g} {h = d} x y at) h i b f e =
    same_node v j i a b (g +++ d) f (sym at ∙ e) (front_node v x h j a g refl)
front_node v (is_tokens b') h i b f e = absurd (false_true (ap (is_balanced 0) (sym e) ∙ b'))

-- so has each offset, member and call
pub postfixed_forms : (v : Version) (j : NodeKind) → is_postfixed j ≡ true → has_plain_front (form v j) ≡ true
postfixed_forms V74 k.Offset e = refl
postfixed_forms V74 k.BraceOffset e = refl
postfixed_forms V74 k.Prop e = refl
postfixed_forms V74 k.StaticProp e = refl
postfixed_forms V74 k.ClassConstant e = refl
postfixed_forms V74 k.Call e = refl
postfixed_forms V74 k.MethodCall e = refl
postfixed_forms V74 k.StaticCall e = refl
postfixed_forms V74 other e = absurd (false_true e)
postfixed_forms V83 k.Offset e = refl
postfixed_forms V83 k.BraceOffset e = refl
postfixed_forms V83 k.Prop e = refl
postfixed_forms V83 k.StaticProp e = refl
postfixed_forms V83 k.ClassConstant e = refl
postfixed_forms V83 k.Call e = refl
postfixed_forms V83 k.MethodCall e = refl
postfixed_forms V83 k.StaticCall e = refl
postfixed_forms V83 other e = absurd (false_true e)
