-- Nodes of kinds whose forms are the same in both versions.
use Rattle.std.proofs.Common.{◌≡◌, ℕ, ◌≤◌, max, Bool, true, false, not, ◌⊎◌, inl, inr, Option, refl, sym, ap, ◌∙◌, subst, arith}
use Rattle.php_tree.specs.declared.kind.NodeKind.{NodeKind}
use Rattle.php_tree.specs.declared.kind.NodeKind.TheVariants as k
use Rattle.php_tree.specs.declared.version.Version.TheVariants.{V74, V83}
use Rattle.php_tree.specs.Tree.{Forest, none, leaf, node}
use Rattle.php_terminals.specs.declared.terminal.Terminal.TheVariants as t
use Rattle.php_terminals.specs.Indents.{is_misindented, literal_fits}
use Rattle.php_grammar.specs.Edges.{edge, edge_from}
use Rattle.php_grammar.specs.Levels.{level}
use Rattle.php_shapes.specs.Forms.{form}
use Rattle.php_shapes.specs.Nearest.{is_nearest}
use Rattle.php_shapes.specs.Notation.{Rule, word}
use Rattle.php_shapes.specs.Places.{is_expression}
use Rattle.php_shapes.specs.Shapes.{Fits, IsNode, is_node, is_word}
use Rattle.syntax_rules.specs.Around.{Around, within}
use Rattle.rewritten_shapes.proofs.Calm.{shown_is}
use Rattle.rewritten_shapes.proofs.Flat.{flat_fits, stops_flat}
use Rattle.rewritten_shapes.proofs.Kept.{AllGood, Good, Kept, becomes_same, edge_is, is_settled, kept, settled_level, settled_like, steady}
use Rattle.rewritten_shapes.proofs.Like.{Below, below_same, like_nearest}
use Rattle.rewritten_shapes.proofs.Shown.{new_parts, new_tree}
use Rattle.rewritten_shapes.proofs.Simple.{is_simple, simple_tree}

-- ---- the ends of expressions

-- an expression of the kind ends in a token, or in a node with no operator at its end, or its level is loose
abbrev Ends : NodeKind → Forest → Type 0
Ends k c = ((stops_flat (form V83 k) ≡ true) × (level V74 (k, c) ≤ 17)) ⊎ (19 ≤ level V74 (k, c))

ends_of : (k : NodeKind) (c : Forest) → is_simple k ≡ true → is_settled k ≡ true → is_expression k ≡ true → Ends k c
ends_of k.Variable c e d x = inl (refl, omega arith)
ends_of k.Number c e d x = inl (refl, omega arith)
ends_of k.Float c e d x = inl (refl, omega arith)
ends_of k.Text c e d x = inl (refl, omega arith)
ends_of k.Constant c e d x = inl (refl, omega arith)
ends_of k.ClassConstant c e d x = inl (refl, omega arith)
ends_of k.Array c e d x = inl (refl, omega arith)
ends_of k.Paren c e d x = inl (refl, omega arith)
ends_of k.Offset c e d x = inl (refl, omega arith)
ends_of k.Prop c e d x = inl (refl, omega arith)
ends_of k.StaticProp c e d x = inl (refl, omega arith)
ends_of k.Call c e d x = inl (refl, omega arith)
ends_of k.MethodCall c e d x = inl (refl, omega arith)
ends_of k.StaticCall c e d x = inl (refl, omega arith)
ends_of k.New c e d x = inl (refl, omega arith)
ends_of k.Isset c e d x = inl (refl, omega arith)
ends_of k.EmptyTest c e d x = inl (refl, omega arith)
ends_of k.Exit c e d x = inl (refl, omega arith)
ends_of k.Closure c e d x = inl (refl, omega arith)
ends_of k.EvalTest c e d x = inl (refl, omega arith)
ends_of k.Postfix c e d x = inl (refl, omega arith)
ends_of k.InstanceOf c e d x = inl (refl, omega arith)
ends_of k.Assign c e d x = inr (omega arith)
ends_of k.AssignRef c e d x = inr (omega arith)
ends_of k.CompoundAssign c e d x = inr (omega arith)
ends_of k.Print c e d x = inr (omega arith)
ends_of k.Include c e d x = inr (omega arith)
ends_of k.Arrow c e d x = inr (omega arith)
ends_of k.Binary c e d x = absurd cc
ends_of k.Prefix c e d x = absurd cc
ends_of k.Yield c e d x = absurd cc
ends_of k.Ternary c e d x = absurd cc
ends_of k.ShortTernary c e d x = absurd cc
ends_of k.BraceOffset c e d x = absurd cc
ends_of k.Cast c e d x = absurd cc
ends_of k.Quoted c e d x = absurd cc
ends_of _ c e d x = absurd cc

-- ---- nodes whose parts keep their shape

-- a node without rules of its own is good where its parts have the shape
pub assemble : (a : Option Around) (k : NodeKind) (c : Forest) → is_simple k ≡ true → is_settled k ≡ true
    → Kept (form V83 k) c (new_parts (within k c) true c) → is_nearest c ≡ true
    → is_misindented (k, new_parts (within k c) true c) ≡ false → Good k c (new_tree a k c)
assemble a k c s d p near fine =
    let b = new_parts (within k c) true c in
    let same : level V83 (k, b) ≡ level V74 (k, c) = settled_level k c b d in
    let new : edge V83 (k, b) ≡ max (level V83 (k, b)) (edge_from V83 0 b) = edge_is V83 k b in
    let old : edge V74 (k, c) ≡ max (level V74 (k, c)) (edge_from V74 0 c) = edge_is V74 k c in
    subst (Good k c) (sym (simple_tree a k c s))
    (record {
      shaped = is_node p.fits (like_nearest c b p.like near) fine;
      like = settled_like k c b d p.like;
      becomes = becomes_same k;
      levels = subst (λ (n : ℕ). Below n (level V74 (k, c))) (sym same) (below_same (level V74 (k, c)));
      dot_level = λ z. omega (arith, same);
      dots = λ x z h. elim (ends_of k c s d x) [
        | inl y ↦ let flat : edge_from V83 0 b ≡ 0 = flat_fits p.fits y.0 in omega (arith, same, new, old, flat)
        | inr y ↦ absurd (omega (arith, y, old, h))
      ];
      ternaries = λ x z h. elim (ends_of k c s d x) [
        | inl y ↦ let flat : edge_from V83 0 b ≡ 0 = flat_fits p.fits y.0 in omega (arith, same, new, y.1, flat)
        | inr y ↦ absurd (omega (arith, y, old, h))
      ];
    })

-- ---- kinds of the same form

abbrev pub has_same_form : NodeKind → Bool
has_same_form k.Block = true
has_same_form k.Empty = true
has_same_form k.ExprStmt = true
has_same_form k.Echo = true
has_same_form k.Html = true
has_same_form k.Return = true
has_same_form k.If = true
has_same_form k.IfAlt = true
has_same_form k.While = true
has_same_form k.DoWhile = true
has_same_form k.For = true
has_same_form k.Foreach = true
has_same_form k.Switch = true
has_same_form k.Case = true
has_same_form k.Break = true
has_same_form k.Continue = true
has_same_form k.Global = true
has_same_form k.Statics = true
has_same_form k.Unset = true
has_same_form k.Throw = true
has_same_form k.Param = true
has_same_form k.Property = true
has_same_form k.ClassConst = true
has_same_form k.Method = true
has_same_form k.Variable = true
has_same_form k.Number = true
has_same_form k.Float = true
has_same_form k.Text = true
has_same_form k.Array = true
has_same_form k.Item = true
has_same_form k.List = true
has_same_form k.Paren = true
has_same_form k.Offset = true
has_same_form k.Prop = true
has_same_form k.MethodCall = true
has_same_form k.Args = true
has_same_form k.Isset = true
has_same_form k.EmptyTest = true
has_same_form k.Exit = true
has_same_form k.Closure = true
has_same_form k.Arrow = true
has_same_form k.Include = true
has_same_form k.EvalTest = true
has_same_form k.Postfix = true
has_same_form k.Assign = true
has_same_form k.AssignRef = true
has_same_form k.CompoundAssign = true
has_same_form k.Print = true
has_same_form _ = false

same_form : (k : NodeKind) → has_same_form k ≡ true → form V74 k ≡ form V83 k
same_form k.Block e = refl
same_form k.Empty e = refl
same_form k.ExprStmt e = refl
same_form k.Echo e = refl
same_form k.Html e = refl
same_form k.Return e = refl
same_form k.If e = refl
same_form k.IfAlt e = refl
same_form k.While e = refl
same_form k.DoWhile e = refl
same_form k.For e = refl
same_form k.Foreach e = refl
same_form k.Switch e = refl
same_form k.Case e = refl
same_form k.Break e = refl
same_form k.Continue e = refl
same_form k.Global e = refl
same_form k.Statics e = refl
same_form k.Unset e = refl
same_form k.Throw e = refl
same_form k.Param e = refl
same_form k.Property e = refl
same_form k.ClassConst e = refl
same_form k.Method e = refl
same_form k.Variable e = refl
same_form k.Number e = refl
same_form k.Float e = refl
same_form k.Text e = refl
same_form k.Array e = refl
same_form k.Item e = refl
same_form k.List e = refl
same_form k.Paren e = refl
same_form k.Offset e = refl
same_form k.Prop e = refl
same_form k.MethodCall e = refl
same_form k.Args e = refl
same_form k.Isset e = refl
same_form k.EmptyTest e = refl
same_form k.Exit e = refl
same_form k.Closure e = refl
same_form k.Arrow e = refl
same_form k.Include e = refl
same_form k.EvalTest e = refl
same_form k.Postfix e = refl
same_form k.Assign e = refl
same_form k.AssignRef e = refl
same_form k.CompoundAssign e = refl
same_form k.Print e = refl
same_form _ e = absurd cc

steady_form : (k : NodeKind) → has_same_form k ≡ true → steady (form V74 k) ≡ true
steady_form k.Block e = refl
steady_form k.Empty e = refl
steady_form k.ExprStmt e = refl
steady_form k.Echo e = refl
steady_form k.Html e = refl
steady_form k.Return e = refl
steady_form k.If e = refl
steady_form k.IfAlt e = refl
steady_form k.While e = refl
steady_form k.DoWhile e = refl
steady_form k.For e = refl
steady_form k.Foreach e = refl
steady_form k.Switch e = refl
steady_form k.Case e = refl
steady_form k.Break e = refl
steady_form k.Continue e = refl
steady_form k.Global e = refl
steady_form k.Statics e = refl
steady_form k.Unset e = refl
steady_form k.Throw e = refl
steady_form k.Param e = refl
steady_form k.Property e = refl
steady_form k.ClassConst e = refl
steady_form k.Method e = refl
steady_form k.Variable e = refl
steady_form k.Number e = refl
steady_form k.Float e = refl
steady_form k.Text e = refl
steady_form k.Array e = refl
steady_form k.Item e = refl
steady_form k.List e = refl
steady_form k.Paren e = refl
steady_form k.Offset e = refl
steady_form k.Prop e = refl
steady_form k.MethodCall e = refl
steady_form k.Args e = refl
steady_form k.Isset e = refl
steady_form k.EmptyTest e = refl
steady_form k.Exit e = refl
steady_form k.Closure e = refl
steady_form k.Arrow e = refl
steady_form k.Include e = refl
steady_form k.EvalTest e = refl
steady_form k.Postfix e = refl
steady_form k.Assign e = refl
steady_form k.AssignRef e = refl
steady_form k.CompoundAssign e = refl
steady_form k.Print e = refl
steady_form _ e = cc

same_simple : (k : NodeKind) → has_same_form k ≡ true → is_simple k ≡ true
same_simple k.Block e = refl
same_simple k.Empty e = refl
same_simple k.ExprStmt e = refl
same_simple k.Echo e = refl
same_simple k.Html e = refl
same_simple k.Return e = refl
same_simple k.If e = refl
same_simple k.IfAlt e = refl
same_simple k.While e = refl
same_simple k.DoWhile e = refl
same_simple k.For e = refl
same_simple k.Foreach e = refl
same_simple k.Switch e = refl
same_simple k.Case e = refl
same_simple k.Break e = refl
same_simple k.Continue e = refl
same_simple k.Global e = refl
same_simple k.Statics e = refl
same_simple k.Unset e = refl
same_simple k.Throw e = refl
same_simple k.Param e = refl
same_simple k.Property e = refl
same_simple k.ClassConst e = refl
same_simple k.Method e = refl
same_simple k.Variable e = refl
same_simple k.Number e = refl
same_simple k.Float e = refl
same_simple k.Text e = refl
same_simple k.Array e = refl
same_simple k.Item e = refl
same_simple k.List e = refl
same_simple k.Paren e = refl
same_simple k.Offset e = refl
same_simple k.Prop e = refl
same_simple k.MethodCall e = refl
same_simple k.Args e = refl
same_simple k.Isset e = refl
same_simple k.EmptyTest e = refl
same_simple k.Exit e = refl
same_simple k.Closure e = refl
same_simple k.Arrow e = refl
same_simple k.Include e = refl
same_simple k.EvalTest e = refl
same_simple k.Postfix e = refl
same_simple k.Assign e = refl
same_simple k.AssignRef e = refl
same_simple k.CompoundAssign e = refl
same_simple k.Print e = refl
same_simple _ e = cc

same_settled : (k : NodeKind) → has_same_form k ≡ true → is_settled k ≡ true
same_settled k.Block e = refl
same_settled k.Empty e = refl
same_settled k.ExprStmt e = refl
same_settled k.Echo e = refl
same_settled k.Html e = refl
same_settled k.Return e = refl
same_settled k.If e = refl
same_settled k.IfAlt e = refl
same_settled k.While e = refl
same_settled k.DoWhile e = refl
same_settled k.For e = refl
same_settled k.Foreach e = refl
same_settled k.Switch e = refl
same_settled k.Case e = refl
same_settled k.Break e = refl
same_settled k.Continue e = refl
same_settled k.Global e = refl
same_settled k.Statics e = refl
same_settled k.Unset e = refl
same_settled k.Throw e = refl
same_settled k.Param e = refl
same_settled k.Property e = refl
same_settled k.ClassConst e = refl
same_settled k.Method e = refl
same_settled k.Variable e = refl
same_settled k.Number e = refl
same_settled k.Float e = refl
same_settled k.Text e = refl
same_settled k.Array e = refl
same_settled k.Item e = refl
same_settled k.List e = refl
same_settled k.Paren e = refl
same_settled k.Offset e = refl
same_settled k.Prop e = refl
same_settled k.MethodCall e = refl
same_settled k.Args e = refl
same_settled k.Isset e = refl
same_settled k.EmptyTest e = refl
same_settled k.Exit e = refl
same_settled k.Closure e = refl
same_settled k.Arrow e = refl
same_settled k.Include e = refl
same_settled k.EvalTest e = refl
same_settled k.Postfix e = refl
same_settled k.Assign e = refl
same_settled k.AssignRef e = refl
same_settled k.CompoundAssign e = refl
same_settled k.Print e = refl
same_settled _ e = cc

-- the lines of a nowdoc stay
text_fine : (c : Forest) → Fits V74 (word t.Text) c → is_misindented (k.Text, c) ≡ false → is_misindented (k.Text, new_parts (within k.Text c) true c) ≡ false
unfolding is_misindented
text_fine none p e = elim p [ ]
text_fine (leaf x (leaf y f)) p e = elim p [ ]
text_fine (leaf x (node j b f)) p e = elim p [ ]
text_fine (node j b f) p e = elim p [ ]
text_fine (leaf x none) (is_word p) e = ap (λ y. not (literal_fits (leaf y none))) (shown_is x) ∙ e

-- only texts have lines with an indentation
abbrev pub has_no_lines : NodeKind → Bool
has_no_lines k.Quoted = false
has_no_lines k.Text = false
has_no_lines _ = true

pub lines_fine : (k : NodeKind) (b : Forest) → has_no_lines k ≡ true → is_misindented (k, b) ≡ false
unfolding is_misindented
lines_fine k.Quoted b e = absurd cc
lines_fine k.Text b e = absurd cc
lines_fine _ b e = refl

fine_same : (k : NodeKind) (c : Forest) → has_same_form k ≡ true → Fits V74 (form V74 k) c
    → is_misindented (k, c) ≡ false → is_misindented (k, new_parts (within k c) true c) ≡ false
fine_same k.Text c e x d = text_fine c x d
fine_same k.Block c e x d = lines_fine k.Block (new_parts (within k.Block c) true c) refl
fine_same k.Empty c e x d = lines_fine k.Empty (new_parts (within k.Empty c) true c) refl
fine_same k.ExprStmt c e x d = lines_fine k.ExprStmt (new_parts (within k.ExprStmt c) true c) refl
fine_same k.Echo c e x d = lines_fine k.Echo (new_parts (within k.Echo c) true c) refl
fine_same k.Html c e x d = lines_fine k.Html (new_parts (within k.Html c) true c) refl
fine_same k.Return c e x d = lines_fine k.Return (new_parts (within k.Return c) true c) refl
fine_same k.If c e x d = lines_fine k.If (new_parts (within k.If c) true c) refl
fine_same k.IfAlt c e x d = lines_fine k.IfAlt (new_parts (within k.IfAlt c) true c) refl
fine_same k.While c e x d = lines_fine k.While (new_parts (within k.While c) true c) refl
fine_same k.DoWhile c e x d = lines_fine k.DoWhile (new_parts (within k.DoWhile c) true c) refl
fine_same k.For c e x d = lines_fine k.For (new_parts (within k.For c) true c) refl
fine_same k.Foreach c e x d = lines_fine k.Foreach (new_parts (within k.Foreach c) true c) refl
fine_same k.Switch c e x d = lines_fine k.Switch (new_parts (within k.Switch c) true c) refl
fine_same k.Case c e x d = lines_fine k.Case (new_parts (within k.Case c) true c) refl
fine_same k.Break c e x d = lines_fine k.Break (new_parts (within k.Break c) true c) refl
fine_same k.Continue c e x d = lines_fine k.Continue (new_parts (within k.Continue c) true c) refl
fine_same k.Global c e x d = lines_fine k.Global (new_parts (within k.Global c) true c) refl
fine_same k.Statics c e x d = lines_fine k.Statics (new_parts (within k.Statics c) true c) refl
fine_same k.Unset c e x d = lines_fine k.Unset (new_parts (within k.Unset c) true c) refl
fine_same k.Throw c e x d = lines_fine k.Throw (new_parts (within k.Throw c) true c) refl
fine_same k.Param c e x d = lines_fine k.Param (new_parts (within k.Param c) true c) refl
fine_same k.Property c e x d = lines_fine k.Property (new_parts (within k.Property c) true c) refl
fine_same k.ClassConst c e x d = lines_fine k.ClassConst (new_parts (within k.ClassConst c) true c) refl
fine_same k.Method c e x d = lines_fine k.Method (new_parts (within k.Method c) true c) refl
fine_same k.Variable c e x d = lines_fine k.Variable (new_parts (within k.Variable c) true c) refl
fine_same k.Number c e x d = lines_fine k.Number (new_parts (within k.Number c) true c) refl
fine_same k.Float c e x d = lines_fine k.Float (new_parts (within k.Float c) true c) refl
fine_same k.Array c e x d = lines_fine k.Array (new_parts (within k.Array c) true c) refl
fine_same k.Item c e x d = lines_fine k.Item (new_parts (within k.Item c) true c) refl
fine_same k.List c e x d = lines_fine k.List (new_parts (within k.List c) true c) refl
fine_same k.Paren c e x d = lines_fine k.Paren (new_parts (within k.Paren c) true c) refl
fine_same k.Offset c e x d = lines_fine k.Offset (new_parts (within k.Offset c) true c) refl
fine_same k.Prop c e x d = lines_fine k.Prop (new_parts (within k.Prop c) true c) refl
fine_same k.MethodCall c e x d = lines_fine k.MethodCall (new_parts (within k.MethodCall c) true c) refl
fine_same k.Args c e x d = lines_fine k.Args (new_parts (within k.Args c) true c) refl
fine_same k.Isset c e x d = lines_fine k.Isset (new_parts (within k.Isset c) true c) refl
fine_same k.EmptyTest c e x d = lines_fine k.EmptyTest (new_parts (within k.EmptyTest c) true c) refl
fine_same k.Exit c e x d = lines_fine k.Exit (new_parts (within k.Exit c) true c) refl
fine_same k.Closure c e x d = lines_fine k.Closure (new_parts (within k.Closure c) true c) refl
fine_same k.Arrow c e x d = lines_fine k.Arrow (new_parts (within k.Arrow c) true c) refl
fine_same k.Include c e x d = lines_fine k.Include (new_parts (within k.Include c) true c) refl
fine_same k.EvalTest c e x d = lines_fine k.EvalTest (new_parts (within k.EvalTest c) true c) refl
fine_same k.Postfix c e x d = lines_fine k.Postfix (new_parts (within k.Postfix c) true c) refl
fine_same k.Assign c e x d = lines_fine k.Assign (new_parts (within k.Assign c) true c) refl
fine_same k.AssignRef c e x d = lines_fine k.AssignRef (new_parts (within k.AssignRef c) true c) refl
fine_same k.CompoundAssign c e x d = lines_fine k.CompoundAssign (new_parts (within k.CompoundAssign c) true c) refl
fine_same k.Print c e x d = lines_fine k.Print (new_parts (within k.Print c) true c) refl
fine_same _ c e x d = absurd cc

pub good_same : (a : Option Around) (k : NodeKind) (c : Forest) → has_same_form k ≡ true → AllGood c → IsNode V74 k c → Good k c (new_tree a k c)
good_same a k c e w (is_node x near fine) =
    assemble a k c (same_simple k e) (same_settled k e)
    (subst (λ (r : Rule). Kept r c (new_parts (within k c) true c)) (same_form k e) (kept x (steady_form k e) w (within k c) true))
    near (fine_same k c e x fine)
