-- The whole: each node of a file becomes a good one, so the rewritten file has the shape.
use Rattle.std.proofs.Common.{◌≡◌, true, false, Option, refl, sym, ap, ◌∙◌}
use Rattle.php_tree.specs.declared.kind.NodeKind.{NodeKind}
use Rattle.php_tree.specs.declared.kind.NodeKind.TheVariants as k
use Rattle.php_tree.specs.declared.version.Version.TheVariants.{V74, V83}
use Rattle.php_tree.specs.Tree.{Forest, none, leaf, node}
use Rattle.php_shapes.specs.Shapes.{IsNode}
use Rattle.tracked_changes.specs.Draft as draft
use Rattle.tracked_changes.specs.Walk.{drafted}
use Rattle.syntax_rules.specs.Around.{Around, at_top}
use Rattle.syntax_rules.specs.Rewritten.{patches, rewritten}
use Rattle.syntax_rules.specs.SplitName.{apart, whole_names}
use Rattle.syntax_rules.specs.Together.{all_on, rewriting}
use Rattle.syntax_rules.specs.UnsetCast.{is_undecided}
use Rattle.rewritten_shapes.specs.Laws.{AreSpelled, NoneReported, RewrittenHasShape}
use Rattle.rewritten_shapes.specs.RefusedWords.{has_refused}
use Rattle.rewritten_shapes.proofs.Bare.{bare, bare_placed, unbare}
use Rattle.rewritten_shapes.proofs.Binaries.{good_binary}
use Rattle.rewritten_shapes.proofs.Braces.{good_brace, good_cast}
use Rattle.rewritten_shapes.proofs.Classes.{good_class, good_class_constant, good_interface, good_static_call, good_static_prop, good_trait}
use Rattle.rewritten_shapes.proofs.Named.{
  good_call,
  good_const,
  good_constant,
  good_declare,
  good_function,
  good_goto,
  good_instanceof,
  good_labelstmt,
  good_new,
  good_try,
  good_typename,
}
use Rattle.rewritten_shapes.proofs.Kept.{AllGood, Good, kept}
use Rattle.rewritten_shapes.proofs.QuotedTexts.{good_quoted}
use Rattle.rewritten_shapes.proofs.Same.{good_same}
use Rattle.rewritten_shapes.proofs.Spaces.{good_namespace}
use Rattle.rewritten_shapes.proofs.Shown.{bare_rewritten, new_parts, new_tree, shown, shown_apart, names_whole}
use Rattle.rewritten_shapes.proofs.Tabled.{drafted_is}
use Rattle.rewritten_shapes.proofs.Traits.{good_trait_use}
use Rattle.rewritten_shapes.proofs.Unaries.{good_prefix, good_short, good_ternary, good_yield}
use Rattle.rewritten_shapes.proofs.Uses.{good_use}

good_node : (a : Option Around) (k : NodeKind) (c : Forest) → AreSpelled c → is_undecided (k, c) ≡ false
    → has_refused k c ≡ false → AllGood c → IsNode V74 k c → Good k c (new_tree a k c)
good_node a k.Block c s u r w n = good_same a k.Block c refl w n
good_node a k.Empty c s u r w n = good_same a k.Empty c refl w n
good_node a k.ExprStmt c s u r w n = good_same a k.ExprStmt c refl w n
good_node a k.Echo c s u r w n = good_same a k.Echo c refl w n
good_node a k.Html c s u r w n = good_same a k.Html c refl w n
good_node a k.Return c s u r w n = good_same a k.Return c refl w n
good_node a k.If c s u r w n = good_same a k.If c refl w n
good_node a k.IfAlt c s u r w n = good_same a k.IfAlt c refl w n
good_node a k.While c s u r w n = good_same a k.While c refl w n
good_node a k.DoWhile c s u r w n = good_same a k.DoWhile c refl w n
good_node a k.For c s u r w n = good_same a k.For c refl w n
good_node a k.Foreach c s u r w n = good_same a k.Foreach c refl w n
good_node a k.Switch c s u r w n = good_same a k.Switch c refl w n
good_node a k.Case c s u r w n = good_same a k.Case c refl w n
good_node a k.Break c s u r w n = good_same a k.Break c refl w n
good_node a k.Continue c s u r w n = good_same a k.Continue c refl w n
good_node a k.Global c s u r w n = good_same a k.Global c refl w n
good_node a k.Statics c s u r w n = good_same a k.Statics c refl w n
good_node a k.Unset c s u r w n = good_same a k.Unset c refl w n
good_node a k.Throw c s u r w n = good_same a k.Throw c refl w n
good_node a k.Param c s u r w n = good_same a k.Param c refl w n
good_node a k.Property c s u r w n = good_same a k.Property c refl w n
good_node a k.ClassConst c s u r w n = good_same a k.ClassConst c refl w n
good_node a k.Method c s u r w n = good_same a k.Method c refl w n
good_node a k.Variable c s u r w n = good_same a k.Variable c refl w n
good_node a k.Number c s u r w n = good_same a k.Number c refl w n
good_node a k.Float c s u r w n = good_same a k.Float c refl w n
good_node a k.Text c s u r w n = good_same a k.Text c refl w n
good_node a k.Array c s u r w n = good_same a k.Array c refl w n
good_node a k.Item c s u r w n = good_same a k.Item c refl w n
good_node a k.List c s u r w n = good_same a k.List c refl w n
good_node a k.Paren c s u r w n = good_same a k.Paren c refl w n
good_node a k.Offset c s u r w n = good_same a k.Offset c refl w n
good_node a k.Prop c s u r w n = good_same a k.Prop c refl w n
good_node a k.MethodCall c s u r w n = good_same a k.MethodCall c refl w n
good_node a k.Args c s u r w n = good_same a k.Args c refl w n
good_node a k.Isset c s u r w n = good_same a k.Isset c refl w n
good_node a k.EmptyTest c s u r w n = good_same a k.EmptyTest c refl w n
good_node a k.Exit c s u r w n = good_same a k.Exit c refl w n
good_node a k.Closure c s u r w n = good_same a k.Closure c refl w n
good_node a k.Arrow c s u r w n = good_same a k.Arrow c refl w n
good_node a k.Include c s u r w n = good_same a k.Include c refl w n
good_node a k.EvalTest c s u r w n = good_same a k.EvalTest c refl w n
good_node a k.Postfix c s u r w n = good_same a k.Postfix c refl w n
good_node a k.Assign c s u r w n = good_same a k.Assign c refl w n
good_node a k.AssignRef c s u r w n = good_same a k.AssignRef c refl w n
good_node a k.CompoundAssign c s u r w n = good_same a k.CompoundAssign c refl w n
good_node a k.Print c s u r w n = good_same a k.Print c refl w n
good_node a k.Try c s u r w n = good_try a c r s w n
good_node a k.Function c s u r w n = good_function a c r s w n
good_node a k.TypeName c s u r w n = good_typename a c r s w n
good_node a k.Class c s u r w n = good_class a c r s w n
good_node a k.Interface c s u r w n = good_interface a c r s w n
good_node a k.Trait c s u r w n = good_trait a c r s w n
good_node a k.TraitUse c s u r w n = good_trait_use a c r s w n
good_node a k.Const c s u r w n = good_const a c r s w n
good_node a k.Namespace c s u r w n = good_namespace a c s w n
good_node a k.Use c s u r w n = good_use a c s r w n
good_node a k.Declare c s u r w n = good_declare a c r s w n
good_node a k.Goto c s u r w n = good_goto a c r s w n
good_node a k.LabelStmt c s u r w n = good_labelstmt a c r s w n
good_node a k.Constant c s u r w n = good_constant a c r s w n
good_node a k.ClassConstant c s u r w n = good_class_constant a c r s w n
good_node a k.StaticProp c s u r w n = good_static_prop a c r s w n
good_node a k.Call c s u r w n = good_call a c r s w n
good_node a k.StaticCall c s u r w n = good_static_call a c r s w n
good_node a k.New c s u r w n = good_new a c r s w n
good_node a k.InstanceOf c s u r w n = good_instanceof a c r s w n
good_node a k.Quoted c s u r w n = good_quoted a c w n
good_node a k.Binary c s u r w n = good_binary a c w n
good_node a k.Prefix c s u r w n = good_prefix a c w n
good_node a k.Yield c s u r w n = good_yield a c w n
good_node a k.Ternary c s u r w n = good_ternary a c w n
good_node a k.ShortTernary c s u r w n = good_short a c w n
good_node a k.BraceOffset c s u r w n = good_brace a c w n
good_node a k.Cast c s u r w n = good_cast a c s u w n

all_good : (f : Forest) → AreSpelled f → NoneReported f → AllGood f
all_good none s r = tt
all_good (leaf x f) s r = all_good f s.1 r
all_good (node k c f) s r =
    let inside = all_good c s.0 r.2 in
    ((λ a n. good_node a k c s.0 r.0 r.1 inside n), inside, all_good f s.1 r.3)

-- the rewritten file has the shape
pub rewritten_has_shape : RewrittenHasShape
rewritten_has_shape f shape s r =
    let d = drafted (rewriting (all_on (patches f.statements))) 0 f.statements in
    let new = kept shape.shaped refl (all_good f.statements s r) at_top true in
    let same : new_parts at_top true f.statements ≡ bare (rewritten f).statements =
    sym (ap (λ (x : draft.Draft). shown (names_whole x)) (drafted_is f.statements))
    ∙ sym (shown_apart false (names_whole d)) ∙ sym (bare_rewritten (apart false (whole_names true d)))
    ∙ sym (bare_placed 0 (draft.rewritten (apart false (whole_names true d)))) in
    record { shaped = unbare V83 new.fits (rewritten f).statements same; ends = shape.ends }
