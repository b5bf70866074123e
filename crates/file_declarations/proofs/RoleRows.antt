-- What a node tells, and where its children and what follows it stand, by its role.
use Rattle.std.proofs.Common.{◌≡◌, Bool, true, false, List, [], ◌∷◌, ◌++◌, refl, append-nil, ◌∙◌, ap, sym}
use Rattle.php_tree.specs.declared.kind.NodeKind.{NodeKind}
use Rattle.php_tree.specs.declared.kind.NodeKind.TheVariants as kind
use Rattle.php_tree.specs.Tree.{Forest}
use Rattle.std.proofs.lemmas.Bool.{true≢false}
use Rattle.scope_names.specs.Form.{Form, form, texts}
use Rattle.scope_names.specs.Sites.{Site, as_space, names_beside}
use Rattle.node_names.specs.declared.name.Name.{Name}
use Rattle.node_names.specs.Declares.{declares}
use Rattle.node_names.specs.Facts.{extends, includes}
use Rattle.file_declarations.specs.declared.node_ref.NodeRef.{NodeRef}
use Rattle.file_declarations.specs.declared.told.Told.{Told}
use Rattle.file_declarations.specs.Told.{told_at, declared_told, extends_told, scope_within}
use Rattle.file_declarations.specs.Roles.{role_of, told_by, beside_by, is_space}

-- no class is extended
no_parents : (ns : List Name) → extends_told ns [] ≡ []
no_parents [] = refl
no_parents (n ∷ ns) = no_parents ns

declares_alone : (at : NodeRef) (top : Bool) (k : NodeKind) (c : Forest) (s : Site) → extends k (form c) s ≡ [] →
    declared_told at top (declares k (form c) s) ++ extends_told (declares k (form c) s) (extends k (form c) s) ++ []
    ≡ declared_told at top (declares k (form c) s)
declares_alone at top k c s e =
    append-nil (declared_told at top (declares k (form c) s) ++ extends_told (declares k (form c) s) (extends k (form c) s))
    ∙ ap (λ (ts : List Told). declared_told at top (declares k (form c) s) ++ ts) (ap (λ ps. extends_told (declares k (form c) s) ps) e ∙ no_parents (declares k (form c) s))
    ∙ append-nil (declared_told at top (declares k (form c) s))

pub told_is : (at : NodeRef) (top : Bool) (k : NodeKind) (c : Forest) (s : Site) → told_at at top k c s ≡ told_by (role_of k) at top k c s
told_is at top kind.Block c s = refl
told_is at top kind.Empty c s = refl
told_is at top kind.ExprStmt c s = refl
told_is at top kind.Echo c s = refl
told_is at top kind.Html c s = refl
told_is at top kind.Return c s = refl
told_is at top kind.If c s = refl
told_is at top kind.IfAlt c s = refl
told_is at top kind.While c s = refl
told_is at top kind.DoWhile c s = refl
told_is at top kind.For c s = refl
told_is at top kind.Foreach c s = refl
told_is at top kind.Switch c s = refl
told_is at top kind.Case c s = refl
told_is at top kind.Break c s = refl
told_is at top kind.Continue c s = refl
told_is at top kind.Global c s = refl
told_is at top kind.Statics c s = refl
told_is at top kind.Unset c s = refl
told_is at top kind.Throw c s = refl
told_is at top kind.Try c s = refl
told_is at top kind.Function c s = declares_alone at top kind.Function c s refl
told_is at top kind.Param c s = refl
told_is at top kind.TypeName c s = refl
told_is at top kind.Class c s = append-nil (declared_told at top (declares kind.Class (form c) s) ++ extends_told (declares kind.Class (form c) s) (extends kind.Class (form c) s))
told_is at top kind.Interface c s =
    append-nil (declared_told at top (declares kind.Interface (form c) s)
    ++ extends_told (declares kind.Interface (form c) s) (extends kind.Interface (form c) s))
told_is at top kind.Trait c s = refl
told_is at top kind.Property c s = declares_alone at top kind.Property c s refl
told_is at top kind.ClassConst c s = declares_alone at top kind.ClassConst c s refl
told_is at top kind.Method c s = declares_alone at top kind.Method c s refl
told_is at top kind.TraitUse c s = refl
told_is at top kind.Const c s = declares_alone at top kind.Const c s refl
told_is at top kind.Namespace c s = refl
told_is at top kind.Use c s = refl
told_is at top kind.Declare c s = refl
told_is at top kind.Goto c s = refl
told_is at top kind.LabelStmt c s = refl
told_is at top kind.Variable c s = refl
told_is at top kind.Number c s = refl
told_is at top kind.Float c s = refl
told_is at top kind.Text c s = refl
told_is at top kind.Quoted c s = refl
told_is at top kind.Constant c s = refl
told_is at top kind.ClassConstant c s = refl
told_is at top kind.Array c s = refl
told_is at top kind.Item c s = refl
told_is at top kind.List c s = refl
told_is at top kind.Paren c s = refl
told_is at top kind.Offset c s = refl
told_is at top kind.BraceOffset c s = refl
told_is at top kind.Prop c s = refl
told_is at top kind.StaticProp c s = refl
told_is at top kind.Call c s = refl
told_is at top kind.MethodCall c s = refl
told_is at top kind.StaticCall c s = refl
told_is at top kind.Args c s = refl
told_is at top kind.New c s = refl
told_is at top kind.Isset c s = refl
told_is at top kind.EmptyTest c s = refl
told_is at top kind.Exit c s = refl
told_is at top kind.Closure c s = refl
told_is at top kind.Arrow c s = refl
told_is at top kind.Include c s = refl
told_is at top kind.EvalTest c s = refl
told_is at top kind.Binary c s = refl
told_is at top kind.Prefix c s = refl
told_is at top kind.Postfix c s = refl
told_is at top kind.Cast c s = refl
told_is at top kind.Ternary c s = refl
told_is at top kind.ShortTernary c s = refl
told_is at top kind.Assign c s = refl
told_is at top kind.AssignRef c s = refl
told_is at top kind.CompoundAssign c s = refl
told_is at top kind.InstanceOf c s = refl
told_is at top kind.Print c s = refl
told_is at top kind.Yield c s = refl

pub within_other : (k : NodeKind) (f : Form) (s : Site) → is_space k ≡ false → scope_within k f s ≡ s
within_other kind.Block f s e = refl
within_other kind.Empty f s e = refl
within_other kind.ExprStmt f s e = refl
within_other kind.Echo f s e = refl
within_other kind.Html f s e = refl
within_other kind.Return f s e = refl
within_other kind.If f s e = refl
within_other kind.IfAlt f s e = refl
within_other kind.While f s e = refl
within_other kind.DoWhile f s e = refl
within_other kind.For f s e = refl
within_other kind.Foreach f s e = refl
within_other kind.Switch f s e = refl
within_other kind.Case f s e = refl
within_other kind.Break f s e = refl
within_other kind.Continue f s e = refl
within_other kind.Global f s e = refl
within_other kind.Statics f s e = refl
within_other kind.Unset f s e = refl
within_other kind.Throw f s e = refl
within_other kind.Try f s e = refl
within_other kind.Function f s e = refl
within_other kind.Param f s e = refl
within_other kind.TypeName f s e = refl
within_other kind.Class f s e = refl
within_other kind.Interface f s e = refl
within_other kind.Trait f s e = refl
within_other kind.Property f s e = refl
within_other kind.ClassConst f s e = refl
within_other kind.Method f s e = refl
within_other kind.TraitUse f s e = refl
within_other kind.Const f s e = refl
within_other kind.Namespace f s e = absurd (true≢false e)
within_other kind.Use f s e = refl
within_other kind.Declare f s e = refl
within_other kind.Goto f s e = refl
within_other kind.LabelStmt f s e = refl
within_other kind.Variable f s e = refl
within_other kind.Number f s e = refl
within_other kind.Float f s e = refl
within_other kind.Text f s e = refl
within_other kind.Quoted f s e = refl
within_other kind.Constant f s e = refl
within_other kind.ClassConstant f s e = refl
within_other kind.Array f s e = refl
within_other kind.Item f s e = refl
within_other kind.List f s e = refl
within_other kind.Paren f s e = refl
within_other kind.Offset f s e = refl
within_other kind.BraceOffset f s e = refl
within_other kind.Prop f s e = refl
within_other kind.StaticProp f s e = refl
within_other kind.Call f s e = refl
within_other kind.MethodCall f s e = refl
within_other kind.StaticCall f s e = refl
within_other kind.Args f s e = refl
within_other kind.New f s e = refl
within_other kind.Isset f s e = refl
within_other kind.EmptyTest f s e = refl
within_other kind.Exit f s e = refl
within_other kind.Closure f s e = refl
within_other kind.Arrow f s e = refl
within_other kind.Include f s e = refl
within_other kind.EvalTest f s e = refl
within_other kind.Binary f s e = refl
within_other kind.Prefix f s e = refl
within_other kind.Postfix f s e = refl
within_other kind.Cast f s e = refl
within_other kind.Ternary f s e = refl
within_other kind.ShortTernary f s e = refl
within_other kind.Assign f s e = refl
within_other kind.AssignRef f s e = refl
within_other kind.CompoundAssign f s e = refl
within_other kind.InstanceOf f s e = refl
within_other kind.Print f s e = refl
within_other kind.Yield f s e = refl

pub within_space : (k : NodeKind) (f : Form) (s : Site) → is_space k ≡ true → scope_within k f s ≡ as_space (texts f) s
within_space kind.Block f s e = absurd (true≢false (sym e))
within_space kind.Empty f s e = absurd (true≢false (sym e))
within_space kind.ExprStmt f s e = absurd (true≢false (sym e))
within_space kind.Echo f s e = absurd (true≢false (sym e))
within_space kind.Html f s e = absurd (true≢false (sym e))
within_space kind.Return f s e = absurd (true≢false (sym e))
within_space kind.If f s e = absurd (true≢false (sym e))
within_space kind.IfAlt f s e = absurd (true≢false (sym e))
within_space kind.While f s e = absurd (true≢false (sym e))
within_space kind.DoWhile f s e = absurd (true≢false (sym e))
within_space kind.For f s e = absurd (true≢false (sym e))
within_space kind.Foreach f s e = absurd (true≢false (sym e))
within_space kind.Switch f s e = absurd (true≢false (sym e))
within_space kind.Case f s e = absurd (true≢false (sym e))
within_space kind.Break f s e = absurd (true≢false (sym e))
within_space kind.Continue f s e = absurd (true≢false (sym e))
within_space kind.Global f s e = absurd (true≢false (sym e))
within_space kind.Statics f s e = absurd (true≢false (sym e))
within_space kind.Unset f s e = absurd (true≢false (sym e))
within_space kind.Throw f s e = absurd (true≢false (sym e))
within_space kind.Try f s e = absurd (true≢false (sym e))
within_space kind.Function f s e = absurd (true≢false (sym e))
within_space kind.Param f s e = absurd (true≢false (sym e))
within_space kind.TypeName f s e = absurd (true≢false (sym e))
within_space kind.Class f s e = absurd (true≢false (sym e))
within_space kind.Interface f s e = absurd (true≢false (sym e))
within_space kind.Trait f s e = absurd (true≢false (sym e))
within_space kind.Property f s e = absurd (true≢false (sym e))
within_space kind.ClassConst f s e = absurd (true≢false (sym e))
within_space kind.Method f s e = absurd (true≢false (sym e))
within_space kind.TraitUse f s e = absurd (true≢false (sym e))
within_space kind.Const f s e = absurd (true≢false (sym e))
within_space kind.Namespace f s e = refl
within_space kind.Use f s e = absurd (true≢false (sym e))
within_space kind.Declare f s e = absurd (true≢false (sym e))
within_space kind.Goto f s e = absurd (true≢false (sym e))
within_space kind.LabelStmt f s e = absurd (true≢false (sym e))
within_space kind.Variable f s e = absurd (true≢false (sym e))
within_space kind.Number f s e = absurd (true≢false (sym e))
within_space kind.Float f s e = absurd (true≢false (sym e))
within_space kind.Text f s e = absurd (true≢false (sym e))
within_space kind.Quoted f s e = absurd (true≢false (sym e))
within_space kind.Constant f s e = absurd (true≢false (sym e))
within_space kind.ClassConstant f s e = absurd (true≢false (sym e))
within_space kind.Array f s e = absurd (true≢false (sym e))
within_space kind.Item f s e = absurd (true≢false (sym e))
within_space kind.List f s e = absurd (true≢false (sym e))
within_space kind.Paren f s e = absurd (true≢false (sym e))
within_space kind.Offset f s e = absurd (true≢false (sym e))
within_space kind.BraceOffset f s e = absurd (true≢false (sym e))
within_space kind.Prop f s e = absurd (true≢false (sym e))
within_space kind.StaticProp f s e = absurd (true≢false (sym e))
within_space kind.Call f s e = absurd (true≢false (sym e))
within_space kind.MethodCall f s e = absurd (true≢false (sym e))
within_space kind.StaticCall f s e = absurd (true≢false (sym e))
within_space kind.Args f s e = absurd (true≢false (sym e))
within_space kind.New f s e = absurd (true≢false (sym e))
within_space kind.Isset f s e = absurd (true≢false (sym e))
within_space kind.EmptyTest f s e = absurd (true≢false (sym e))
within_space kind.Exit f s e = absurd (true≢false (sym e))
within_space kind.Closure f s e = absurd (true≢false (sym e))
within_space kind.Arrow f s e = absurd (true≢false (sym e))
within_space kind.Include f s e = absurd (true≢false (sym e))
within_space kind.EvalTest f s e = absurd (true≢false (sym e))
within_space kind.Binary f s e = absurd (true≢false (sym e))
within_space kind.Prefix f s e = absurd (true≢false (sym e))
within_space kind.Postfix f s e = absurd (true≢false (sym e))
within_space kind.Cast f s e = absurd (true≢false (sym e))
within_space kind.Ternary f s e = absurd (true≢false (sym e))
within_space kind.ShortTernary f s e = absurd (true≢false (sym e))
within_space kind.Assign f s e = absurd (true≢false (sym e))
within_space kind.AssignRef f s e = absurd (true≢false (sym e))
within_space kind.CompoundAssign f s e = absurd (true≢false (sym e))
within_space kind.InstanceOf f s e = absurd (true≢false (sym e))
within_space kind.Print f s e = absurd (true≢false (sym e))
within_space kind.Yield f s e = absurd (true≢false (sym e))

pub beside_is : (k : NodeKind) (f : Form) (s : Site) → names_beside k f s ≡ beside_by (role_of k) f s
beside_is kind.Block f s = refl
beside_is kind.Empty f s = refl
beside_is kind.ExprStmt f s = refl
beside_is kind.Echo f s = refl
beside_is kind.Html f s = refl
beside_is kind.Return f s = refl
beside_is kind.If f s = refl
beside_is kind.IfAlt f s = refl
beside_is kind.While f s = refl
beside_is kind.DoWhile f s = refl
beside_is kind.For f s = refl
beside_is kind.Foreach f s = refl
beside_is kind.Switch f s = refl
beside_is kind.Case f s = refl
beside_is kind.Break f s = refl
beside_is kind.Continue f s = refl
beside_is kind.Global f s = refl
beside_is kind.Statics f s = refl
beside_is kind.Unset f s = refl
beside_is kind.Throw f s = refl
beside_is kind.Try f s = refl
beside_is kind.Function f s = refl
beside_is kind.Param f s = refl
beside_is kind.TypeName f s = refl
beside_is kind.Class f s = refl
beside_is kind.Interface f s = refl
beside_is kind.Trait f s = refl
beside_is kind.Property f s = refl
beside_is kind.ClassConst f s = refl
beside_is kind.Method f s = refl
beside_is kind.TraitUse f s = refl
beside_is kind.Const f s = refl
beside_is kind.Namespace f s = refl
beside_is kind.Use f s = refl
beside_is kind.Declare f s = refl
beside_is kind.Goto f s = refl
beside_is kind.LabelStmt f s = refl
beside_is kind.Variable f s = refl
beside_is kind.Number f s = refl
beside_is kind.Float f s = refl
beside_is kind.Text f s = refl
beside_is kind.Quoted f s = refl
beside_is kind.Constant f s = refl
beside_is kind.ClassConstant f s = refl
beside_is kind.Array f s = refl
beside_is kind.Item f s = refl
beside_is kind.List f s = refl
beside_is kind.Paren f s = refl
beside_is kind.Offset f s = refl
beside_is kind.BraceOffset f s = refl
beside_is kind.Prop f s = refl
beside_is kind.StaticProp f s = refl
beside_is kind.Call f s = refl
beside_is kind.MethodCall f s = refl
beside_is kind.StaticCall f s = refl
beside_is kind.Args f s = refl
beside_is kind.New f s = refl
beside_is kind.Isset f s = refl
beside_is kind.EmptyTest f s = refl
beside_is kind.Exit f s = refl
beside_is kind.Closure f s = refl
beside_is kind.Arrow f s = refl
beside_is kind.Include f s = refl
beside_is kind.EvalTest f s = refl
beside_is kind.Binary f s = refl
beside_is kind.Prefix f s = refl
beside_is kind.Postfix f s = refl
beside_is kind.Cast f s = refl
beside_is kind.Ternary f s = refl
beside_is kind.ShortTernary f s = refl
beside_is kind.Assign f s = refl
beside_is kind.AssignRef f s = refl
beside_is kind.CompoundAssign f s = refl
beside_is kind.InstanceOf f s = refl
beside_is kind.Print f s = refl
beside_is kind.Yield f s = refl
