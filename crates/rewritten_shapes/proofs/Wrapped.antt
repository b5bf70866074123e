-- Nodes in parentheses.
use Rattle.std.proofs.Common.{◌≡◌, max, Bool, true, false, not, ◌&&◌, ◌||◌, nat_le, codes, List, [], ◌∷◌, refl, sym, ap, ◌∙◌, subst, arith}
use Rattle.std.proofs.lemmas.Bool.{and_from}
use Rattle.php_tree.specs.declared.kind.NodeKind.{NodeKind}
use Rattle.php_tree.specs.declared.kind.NodeKind.TheVariants as k
use Rattle.php_tree.specs.declared.kind.NodeKind.TheVariants.{Paren}
use Rattle.php_tree.specs.declared.version.Version.TheVariants.{V74, V83}
use Rattle.php_tree.specs.Tree.{Forest, Tree, none, node}
use Rattle.php_terminals.specs.declared.terminal.Terminal.{Terminal}
use Rattle.php_terminals.specs.declared.terminal.Terminal.TheVariants as t
use Rattle.php_terminals.specs.Classify.{terminal}
use Rattle.php_terminals.specs.Words.{operators}
use Rattle.php_grammar.specs.Accepts.{accepts}
use Rattle.php_grammar.specs.Edges.{edge, edge_from}
use Rattle.php_grammar.specs.Levels.{binary_level, level, middle_leaf}
use Rattle.php_shapes.specs.Nearest.{arrows_are_nearest, elses_are_nearest, ends_in_if, ends_in_yield, goes_on_if, is_nearest, is_open_if, is_open_yield, is_to}
use Rattle.php_shapes.specs.Places.{Operand, begins_with_variable, is_class_name, is_expression, is_prefix, may_stand}
use Rattle.php_shapes.specs.Shapes.{IsNode, is_both, is_node, is_place, is_word}
use Rattle.tracked_changes.specs.patches.Patches.{Wrapping, InParens}
use Rattle.rewritten_shapes.proofs.Kept.{Good, becomes_paren, edge_is, is_bare}
use Rattle.rewritten_shapes.proofs.Like.{Below, below_zero}
use Rattle.rewritten_shapes.proofs.Same.{lines_fine}
use Rattle.rewritten_shapes.proofs.Shown.{in_paren, op_token, wrapped}

-- ---- any expression may stand between parentheses

binary_low : (x : Terminal) → nat_le (binary_level V83 x) 24 ≡ true
binary_low t.Power = refl
binary_low t.Factor = refl
binary_low t.Plus = refl
binary_low t.Minus = refl
binary_low t.Shift = refl
binary_low t.Order = refl
binary_low t.Equality = refl
binary_low t.Ampersand = refl
binary_low t.Caret = refl
binary_low t.Bar = refl
binary_low t.BooleanAnd = refl
binary_low t.BooleanOr = refl
binary_low t.Coalesce = refl
binary_low t.And = refl
binary_low t.Xor = refl
binary_low t.Or = refl
binary_low t.Dot = refl
binary_low _ = refl

or_true : (b : Bool) → (b || true) ≡ true
or_true true = refl
or_true false = refl

anywhere : (j : NodeKind) (b : Forest) → is_expression j ≡ true → (nat_le (level V83 (j, b)) 24 || is_prefix j) ≡ true
anywhere k.Binary b e = ap (λ (z : Bool). z || false) (binary_low (middle_leaf (k.Binary, b)))
anywhere k.Prefix b e = or_true (nat_le (level V83 (k.Prefix, b)) 24)
anywhere k.Yield b e = or_true (nat_le (level V83 (k.Yield, b)) 24)
anywhere _ b e = refl

pub expression_stands : (j : NodeKind) (b : Forest) → is_expression j ≡ true → may_stand V83 (Operand 24) (j, b) ≡ true
expression_stands j b e = ap (λ (z : Bool). z && (nat_le (level V83 (j, b)) 24 || is_prefix j)) e ∙ anywhere j b e

-- ---- parentheses

pub opens_paren : accepts V83 t.OpenParen (op_token (codes "(")) ≡ true
unfolding operators
opens_paren = refl

pub closes_paren : accepts V83 t.CloseParen (op_token (codes ")")) ≡ true
unfolding operators
closes_paren = refl

no_else : goes_on_if (terminal (op_token (codes ")"))) ≡ false
unfolding operators
no_else = refl

no_to : is_to (terminal (op_token (codes ")"))) ≡ false
unfolding operators
no_to = refl

not_both : (b c : Bool) → c ≡ false → (not (b && c) && true) ≡ true
not_both true true e = absurd cc
not_both true false e = refl
not_both false c e = refl

pub paren_near : (x : Tree) → is_nearest (in_paren x).1 ≡ true
paren_near x =
    and_from (elses_are_nearest false (in_paren x).1) (arrows_are_nearest false (in_paren x).1)
    (not_both (is_open_if x.0 x.1 || ends_in_if false x.1) (goes_on_if (terminal (op_token (codes ")")))) no_else)
    (not_both (is_open_yield x.0 x.1 || ends_in_yield false x.1) (is_to (terminal (op_token (codes ")")))) no_to)

pub paren_shaped : (x : Tree) → is_expression x.0 ≡ true → IsNode V83 x.0 x.1 → IsNode V83 Paren (in_paren x).1
paren_shaped x e n =
    is_node (is_both (is_word opens_paren) (is_both (is_place (expression_stands x.0 x.1 e) n) (is_word closes_paren) refl) refl)
    (paren_near x) (lines_fine Paren (in_paren x).1 refl)

pub paren_edge : (x : Tree) → edge V83 (in_paren x) ≡ 0
paren_edge x = edge_is V83 Paren (in_paren x).1 ∙ omega arith

bare_class : (k : NodeKind) → is_bare k ≡ true → is_class_name k ≡ false
bare_class k.Binary e = refl
bare_class k.Ternary e = refl
bare_class k.ShortTernary e = refl
bare_class k.Cast e = refl
bare_class _ e = absurd cc

bare_leads : (k : NodeKind) (c : Forest) → is_bare k ≡ true → begins_with_variable (node k c none) ≡ true → ⊥
bare_leads k.Binary c e d = cc
bare_leads k.Ternary c e d = cc
bare_leads k.ShortTernary c e d = cc
bare_leads k.Cast c e d = cc
bare_leads _ c e d = cc

bare_expression : (k : NodeKind) → is_bare k ≡ true → is_expression k ≡ true
bare_expression k.Binary e = refl
bare_expression k.Ternary e = refl
bare_expression k.ShortTernary e = refl
bare_expression k.Cast e = refl
bare_expression _ e = cc

and_false : (a b : Bool) → a ≡ false → (a && b) ≡ true → ⊥
and_false true b e d = cc
and_false false b e d = cc

-- a node of parentheses is good for any expression that stands before nothing
pub paren_good : (k : NodeKind) (c f : Forest) → is_bare k ≡ true → IsNode V83 Paren f → ends_in_if false f ≡ false
    → ends_in_yield false f ≡ false → edge V83 (Paren, f) ≡ 0 → Good k c (Paren, f)
paren_good k c f e n i y z = record {
  shaped = n;
  like = record {
    ifs = λ d. absurd (let w : false ≡ true = sym i ∙ d in cc);
    yields = λ d. absurd (let w : false ≡ true = sym y ∙ d in cc);
    edges = subst (λ m. Below m (max (level V74 (k, c)) (edge_from V74 0 c))) (sym (sym (edge_is V83 Paren f) ∙ z)) (below_zero (max (level V74 (k, c)) (edge_from V74 0 c)));
    begins = λ d. absurd (and_false (is_class_name k) _ (bare_class k e) d);
    leads = λ d. absurd (bare_leads k c e d);
  };
  becomes = becomes_paren k e;
  levels = below_zero (level V74 (k, c));
  dot_level = λ d. omega arith;
  dots = λ a b d. omega (arith, z);
  ternaries = λ a b d. omega (arith, z);
}

pub in_paren_good : (k : NodeKind) (c : Forest) (x : Tree) → is_bare k ≡ true → Good k c x → Good k c (in_paren x)
in_paren_good k c x e g =
    paren_good k c (in_paren x).1 e (paren_shaped x (g.becomes.expression (bare_expression k e)) g.shaped) refl refl (paren_edge x)

pub wrapped_good : (k : NodeKind) (c : Forest) (ws : List Wrapping) (x : Tree) → is_bare k ≡ true → Good k c x → Good k c (wrapped ws x)
wrapped_good k c [] x e g = g
wrapped_good k c (InParens ∷ ws) x e g = in_paren_good k c (wrapped ws x) e (wrapped_good k c ws x e g)
