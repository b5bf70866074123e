-- Nodes at whose end no operator stands, so that their edge is their level.
use Rattle.std.proofs.Common.{◌≡◌, ℕ, ◌+◌, ◌-◌, nat_eq, Bool, true, false, not, cond, ◌&&◌, ◌||◌, ◌⊎◌, inl, inr, refl, ap, ◌∙◌, arith}
use Rattle.php_tree.specs.declared.kind.NodeKind.{NodeKind}
use Rattle.php_tree.specs.declared.kind.NodeKind.TheVariants as k
use Rattle.php_tree.specs.declared.version.Version.TheVariants.{V83}
use Rattle.php_tree.specs.Tree.{Forest, none, leaf, node, ◌+++◌}
use Rattle.php_terminals.specs.Classify.{terminal}
use Rattle.php_terminals.specs.Marks.{closes, opens}
use Rattle.php_grammar.specs.Bases.{is_target}
use Rattle.php_grammar.specs.Edges.{edge_from}
use Rattle.php_grammar.specs.Levels.{level}
use Rattle.php_shapes.specs.Forms.{form}
use Rattle.php_shapes.specs.Notation.{Rule, nothing, word, kind, place, inside, ◌~◌, ◌|||◌, many, tokens}
use Rattle.php_shapes.specs.Places.{Place, Target, ClassName, begins_with_class_name, is_class_name, may_stand}
use Rattle.php_shapes.specs.Shapes.{
  Fits,
  IsNode,
  is_balanced,
  is_nothing,
  is_word,
  is_kind,
  is_place,
  is_inside,
  is_both,
  is_first,
  is_second,
  no_more,
  once_more,
  is_tokens,
  is_node,
}
use Rattle.rewritten_shapes.proofs.Like.{edges_join}
use Rattle.rewritten_shapes.proofs.Sides.{and_left, and_right, empty_rule, false_true, map_right, may_be_empty}

-- whether a kind of no level is one at whose end no operator stands
abbrev pub is_flat : NodeKind → Bool
is_flat k.Block = true
is_flat k.Variable = true
is_flat k.Number = true
is_flat k.Float = true
is_flat k.Text = true
is_flat k.Quoted = true
is_flat k.Constant = true
is_flat k.ClassConstant = true
is_flat k.Array = true
is_flat k.Paren = true
is_flat k.Offset = true
is_flat k.BraceOffset = true
is_flat k.Prop = true
is_flat k.StaticProp = true
is_flat k.Call = true
is_flat k.MethodCall = true
is_flat k.StaticCall = true
is_flat k.New = true
is_flat k.Isset = true
is_flat k.EmptyTest = true
is_flat k.Exit = true
is_flat k.Closure = true
is_flat k.EvalTest = true
is_flat k.Postfix = true
is_flat _ = false

flat_level : (k : NodeKind) (c : Forest) → is_flat k ≡ true → level V83 (k, c) ≡ 0
flat_level k.Binary c e = cc
flat_level k.Prefix c e = cc
flat_level k.Cast c e = cc
flat_level k.InstanceOf c e = cc
flat_level k.Ternary c e = cc
flat_level k.ShortTernary c e = cc
flat_level k.Assign c e = cc
flat_level k.AssignRef c e = cc
flat_level k.CompoundAssign c e = cc
flat_level k.Print c e = cc
flat_level k.Yield c e = cc
flat_level k.Include c e = cc
flat_level k.Arrow c e = cc
flat_level _ c e = refl

abbrev flat_place : Place → Bool
flat_place Target = true
flat_place ClassName = true
flat_place _ = false

-- whether a rule ends in a token, or in such a node
abbrev pub stops_flat : Rule → Bool
stops_flat nothing = true
stops_flat (word c) = true
stops_flat (kind k) = is_flat k
stops_flat (place p) = flat_place p
stops_flat (inside k r) = is_flat k && stops_flat r
stops_flat (r ~ s) = stops_flat s && (not (may_be_empty s) || stops_flat r)
stops_flat (r ||| s) = stops_flat r && stops_flat s
stops_flat (many r) = stops_flat r
stops_flat tokens = true

form_flat : (k : NodeKind) → is_flat k ≡ true → stops_flat (form V83 k) ≡ true
form_flat k.Block e = refl
form_flat k.Variable e = refl
form_flat k.Number e = refl
form_flat k.Float e = refl
form_flat k.Text e = refl
form_flat k.Quoted e = refl
form_flat k.Constant e = refl
form_flat k.ClassConstant e = refl
form_flat k.Array e = refl
form_flat k.Paren e = refl
form_flat k.Offset e = refl
form_flat k.BraceOffset e = refl
form_flat k.Prop e = refl
form_flat k.StaticProp e = refl
form_flat k.Call e = refl
form_flat k.MethodCall e = refl
form_flat k.StaticCall e = refl
form_flat k.New e = refl
form_flat k.Isset e = refl
form_flat k.EmptyTest e = refl
form_flat k.Exit e = refl
form_flat k.Closure e = refl
form_flat k.EvalTest e = refl
form_flat k.Postfix e = refl
form_flat _ e = cc

target_flat : (k : NodeKind) → is_target k ≡ true → is_flat k ≡ true
target_flat k.Variable e = refl
target_flat k.Offset e = refl
target_flat k.BraceOffset e = refl
target_flat k.Prop e = refl
target_flat k.StaticProp e = refl
target_flat _ e = cc

class_name_flat : (k : NodeKind) → is_class_name k ≡ true → is_flat k ≡ true
class_name_flat k.Variable e = refl
class_name_flat k.Offset e = refl
class_name_flat k.BraceOffset e = refl
class_name_flat k.Prop e = refl
class_name_flat k.StaticProp e = refl
class_name_flat _ e = cc

place_flat : (p : Place) (k : NodeKind) (c : Forest) → flat_place p ≡ true → may_stand V83 p (k, c) ≡ true → is_flat k ≡ true
place_flat Target k c e m = target_flat k m
place_flat ClassName k c e m = class_name_flat k (and_left (is_class_name k) (begins_with_class_name c) m)
place_flat _ k c e m = cc

edge_any : (e d : ℕ) (f : Forest) → (f ≡ none → ⊥) → edge_from V83 e f ≡ edge_from V83 d f
edge_any e d none h = absurd (h refl)
edge_any e d (leaf x f) h = refl
edge_any e d (node k c f) h = refl

node_flat : (k : NodeKind) (c : Forest) → is_flat k ≡ true → edge_from V83 0 c ≡ 0 → edge_from V83 0 (node k c none) ≡ 0
node_flat k c e d = let z = flat_level k c e in omega (arith, z, d)

both_flat : (f g h : Forest) (r s : Rule) → f ≡ g +++ h → Fits V83 s h → edge_from V83 0 h ≡ 0 → (may_be_empty s ≡ true → ⊥) ⊎ (edge_from V83 0 g ≡ 0) → edge_from V83 0 f ≡ 0
both_flat f g h r s d y e (inl n) = ap (edge_from V83 0) d ∙ edges_join V83 0 g h ∙ edge_any (edge_from V83 0 g) 0 h (λ z. n (empty_rule V83 y z)) ∙ e
both_flat f g h r s d y e (inr n) = ap (edge_from V83 0) d ∙ edges_join V83 0 g h ∙ ap (λ (m : ℕ). edge_from V83 m h) n ∙ e

token_flat : (a b : Bool) (n : ℕ) (f : Forest) → cond a (is_balanced (n + 1) f)
    (cond b (not (nat_eq n 0) && is_balanced (n - 1) f) (is_balanced n f)) ≡ true
    → (is_balanced (n + 1) f ≡ true → edge_from V83 0 f ≡ 0) → (is_balanced (n - 1) f ≡ true → edge_from V83 0 f ≡ 0)
    → (is_balanced n f ≡ true → edge_from V83 0 f ≡ 0) → edge_from V83 0 f ≡ 0
token_flat true b n f e p q r = p e
token_flat false true n f e p q r = q (and_right (not (nat_eq n 0)) (is_balanced (n - 1) f) e)
token_flat false false n f e p q r = r e

tokens_flat : (n : ℕ) (f : Forest) → is_balanced n f ≡ true → edge_from V83 0 f ≡ 0
tokens_flat n none e = refl
tokens_flat n (node k c f) e = cc
tokens_flat n (leaf x f) e = token_flat (opens (terminal x)) (closes (terminal x)) n f e (tokens_flat (n + 1) f) (tokens_flat (n - 1) f) (tokens_flat n f)

mutual
  pub flat_fits : {r : Rule} {f : Forest} → Fits V83 r f → stops_flat r ≡ true → edge_from V83 0 f ≡ 0
  flat_fits is_nothing e = refl
  flat_fits (is_word p) e = refl
  flat_fits (is_kind {k} {c} n) e = node_flat k c e (flat_node n e)
  flat_fits (is_place {p} {k} {c} m n) e = let z = place_flat p k c e m in node_flat k c z (flat_node n z)
  flat_fits (is_inside {k} {r} {c} x near) e = node_flat k c (and_left (is_flat k) (stops_flat r) e) (flat_fits x (and_right (is_flat k) (stops_flat r) e))
  flat_fits (is_both {r} {s} {f} {g} {h} x y d) e =
      both_flat f g h r s d y (flat_fits y (and_left (stops_flat s) (not (may_be_empty s) || stops_flat r) e))
      (map_right (λ z. flat_fits x z) (false_true (may_be_empty s) (stops_flat r) (and_right (stops_flat s) (not (may_be_empty s) || stops_flat r) e)))
  flat_fits (is_first {r} {s} x) e = flat_fits x (and_left (stops_flat r) (stops_flat s) e)
  flat_fits (is_second {r} {s} x) e = flat_fits x (and_right (stops_flat r) (stops_flat s) e)
  flat_fits no_more e = refl
  flat_fits (once_more {r} {f} {g} {h} x y d) e =
      ap (edge_from V83 0) d ∙ edges_join V83 0 g h ∙ ap (λ (m : ℕ). edge_from V83 m h) (flat_fits x e) ∙ flat_fits y e
  flat_fits (is_tokens {f} b) e = tokens_flat 0 f b

  flat_node : {k : NodeKind} {c : Forest} → IsNode V83 k c → is_flat k ≡ true → edge_from V83 0 c ≡ 0
  flat_node (is_node {k} {c} x near fine) e = flat_fits x (form_flat k e)
