-- What a file tells is what the facts of its nodes tell: of where a node stands, only the file, the namespace and the
-- imports count.
use Rattle.std.specs.Prelude.{codes}
use Rattle.std.proofs.Common.{
  ◌≡◌,
  ℕ,
  suc,
  ◌+◌,
  Bool,
  true,
  false,
  ◌&&◌,
  List,
  [],
  ◌∷◌,
  ◌++◌,
  Option,
  Some,
  None,
  length,
  refl,
  sym,
  ap,
  subst,
  ◌∙◌,
  append_assoc,
  length-append,
  arith,
}
use Rattle.php_tree.specs.declared.kind.NodeKind.{NodeKind}
use Rattle.php_tree.specs.declared.kind.NodeKind.TheVariants as kind
use Rattle.php_tree.specs.Tree.{Forest, none, leaf, node, count}
use Rattle.scope_names.specs.Form.{Form, form, texts}
use Rattle.scope_names.specs.Words.{has_word, word_behind, is_keyword, first_word, drop_first}
use Rattle.scope_names.specs.Sites.{Site, within, beside, names_beside, class_named, in_member, in_new, in_body}
use Rattle.node_names.specs.Declares.{declares}
use Rattle.node_names.specs.Facts.{Fact, fact, facts, extends, includes, keeps_top, class_texts, class_text}
use Rattle.node_names.specs.Spelled.{behind_first, behind_keyword, spelled_names}
use Rattle.node_names.specs.Slots.{Standing, stands_within, stands_beside}
use Rattle.file_declarations.specs.declared.told.Told.{Told}
use Rattle.file_declarations.specs.Told.{told, told_at, declared_told, extends_told, path_told, scope_within}
use Rattle.file_declarations.specs.FactsTold.{fact_told, facts_told}

-- the same site, as far as the names of its file go
abbrev pub slim : Site → Site
slim s = record {
  file = s.file;
  number = 0;
  body = None;
  space = s.space;
  imports = s.imports;
  class = None;
  parent = None;
  members = None;
}

declares_slim : (k : NodeKind) (f : Form) (s : Site) → declares k f (slim s) ≡ declares k f s
declares_slim kind.Block f s = refl
declares_slim kind.Empty f s = refl
declares_slim kind.ExprStmt f s = refl
declares_slim kind.Echo f s = refl
declares_slim kind.Html f s = refl
declares_slim kind.Return f s = refl
declares_slim kind.If f s = refl
declares_slim kind.IfAlt f s = refl
declares_slim kind.While f s = refl
declares_slim kind.DoWhile f s = refl
declares_slim kind.For f s = refl
declares_slim kind.Foreach f s = refl
declares_slim kind.Switch f s = refl
declares_slim kind.Case f s = refl
declares_slim kind.Break f s = refl
declares_slim kind.Continue f s = refl
declares_slim kind.Global f s = refl
declares_slim kind.Statics f s = refl
declares_slim kind.Unset f s = refl
declares_slim kind.Throw f s = refl
declares_slim kind.Try f s = refl
declares_slim kind.Function f s = refl
declares_slim kind.Param f s = refl
declares_slim kind.TypeName f s = refl
declares_slim kind.Class f s = refl
declares_slim kind.Interface f s = refl
declares_slim kind.Trait f s = refl
declares_slim kind.Property f s = refl
declares_slim kind.ClassConst f s = refl
declares_slim kind.Method f s = refl
declares_slim kind.TraitUse f s = refl
declares_slim kind.Const f s = refl
declares_slim kind.Namespace f s = refl
declares_slim kind.Use f s = refl
declares_slim kind.Declare f s = refl
declares_slim kind.Goto f s = refl
declares_slim kind.LabelStmt f s = refl
declares_slim kind.Variable f s = refl
declares_slim kind.Number f s = refl
declares_slim kind.Float f s = refl
declares_slim kind.Text f s = refl
declares_slim kind.Quoted f s = refl
declares_slim kind.Constant f s = refl
declares_slim kind.ClassConstant f s = refl
declares_slim kind.Array f s = refl
declares_slim kind.Item f s = refl
declares_slim kind.List f s = refl
declares_slim kind.Paren f s = refl
declares_slim kind.Offset f s = refl
declares_slim kind.BraceOffset f s = refl
declares_slim kind.Prop f s = refl
declares_slim kind.StaticProp f s = refl
declares_slim kind.Call f s = refl
declares_slim kind.MethodCall f s = refl
declares_slim kind.StaticCall f s = refl
declares_slim kind.Args f s = refl
declares_slim kind.New f s = refl
declares_slim kind.Isset f s = refl
declares_slim kind.EmptyTest f s = refl
declares_slim kind.Exit f s = refl
declares_slim kind.Closure f s = refl
declares_slim kind.Arrow f s = refl
declares_slim kind.Include f s = refl
declares_slim kind.EvalTest f s = refl
declares_slim kind.Binary f s = refl
declares_slim kind.Prefix f s = refl
declares_slim kind.Postfix f s = refl
declares_slim kind.Cast f s = refl
declares_slim kind.Ternary f s = refl
declares_slim kind.ShortTernary f s = refl
declares_slim kind.Assign f s = refl
declares_slim kind.AssignRef f s = refl
declares_slim kind.CompoundAssign f s = refl
declares_slim kind.InstanceOf f s = refl
declares_slim kind.Print f s = refl
declares_slim kind.Yield f s = refl

classes_slim : (s : Site) (ws : List (List ℕ)) → class_texts (slim s) ws ≡ class_texts s ws
classes_slim s [] = refl
classes_slim s (w ∷ ws) = ap (λ (ts : List (List ℕ)). class_text (class_named s w) ∷ ts) (classes_slim s ws)

extends_slim : (k : NodeKind) (f : Form) (s : Site) → extends k f (slim s) ≡ extends k f s
extends_slim kind.Block f s = refl
extends_slim kind.Empty f s = refl
extends_slim kind.ExprStmt f s = refl
extends_slim kind.Echo f s = refl
extends_slim kind.Html f s = refl
extends_slim kind.Return f s = refl
extends_slim kind.If f s = refl
extends_slim kind.IfAlt f s = refl
extends_slim kind.While f s = refl
extends_slim kind.DoWhile f s = refl
extends_slim kind.For f s = refl
extends_slim kind.Foreach f s = refl
extends_slim kind.Switch f s = refl
extends_slim kind.Case f s = refl
extends_slim kind.Break f s = refl
extends_slim kind.Continue f s = refl
extends_slim kind.Global f s = refl
extends_slim kind.Statics f s = refl
extends_slim kind.Unset f s = refl
extends_slim kind.Throw f s = refl
extends_slim kind.Try f s = refl
extends_slim kind.Function f s = refl
extends_slim kind.Param f s = refl
extends_slim kind.TypeName f s = refl
extends_slim kind.Class f s = refl
extends_slim kind.Interface f s = classes_slim s (behind_first (spelled_names (behind_keyword (codes "interface") f)))
extends_slim kind.Trait f s = refl
extends_slim kind.Property f s = refl
extends_slim kind.ClassConst f s = refl
extends_slim kind.Method f s = refl
extends_slim kind.TraitUse f s = refl
extends_slim kind.Const f s = refl
extends_slim kind.Namespace f s = refl
extends_slim kind.Use f s = refl
extends_slim kind.Declare f s = refl
extends_slim kind.Goto f s = refl
extends_slim kind.LabelStmt f s = refl
extends_slim kind.Variable f s = refl
extends_slim kind.Number f s = refl
extends_slim kind.Float f s = refl
extends_slim kind.Text f s = refl
extends_slim kind.Quoted f s = refl
extends_slim kind.Constant f s = refl
extends_slim kind.ClassConstant f s = refl
extends_slim kind.Array f s = refl
extends_slim kind.Item f s = refl
extends_slim kind.List f s = refl
extends_slim kind.Paren f s = refl
extends_slim kind.Offset f s = refl
extends_slim kind.BraceOffset f s = refl
extends_slim kind.Prop f s = refl
extends_slim kind.StaticProp f s = refl
extends_slim kind.Call f s = refl
extends_slim kind.MethodCall f s = refl
extends_slim kind.StaticCall f s = refl
extends_slim kind.Args f s = refl
extends_slim kind.New f s = refl
extends_slim kind.Isset f s = refl
extends_slim kind.EmptyTest f s = refl
extends_slim kind.Exit f s = refl
extends_slim kind.Closure f s = refl
extends_slim kind.Arrow f s = refl
extends_slim kind.Include f s = refl
extends_slim kind.EvalTest f s = refl
extends_slim kind.Binary f s = refl
extends_slim kind.Prefix f s = refl
extends_slim kind.Postfix f s = refl
extends_slim kind.Cast f s = refl
extends_slim kind.Ternary f s = refl
extends_slim kind.ShortTernary f s = refl
extends_slim kind.Assign f s = refl
extends_slim kind.AssignRef f s = refl
extends_slim kind.CompoundAssign f s = refl
extends_slim kind.InstanceOf f s = refl
extends_slim kind.Print f s = refl
extends_slim kind.Yield f s = refl

includes_slim : (k : NodeKind) (c : Forest) (s : Site) → includes k c (slim s) ≡ includes k c s
includes_slim kind.Block c s = refl
includes_slim kind.Empty c s = refl
includes_slim kind.ExprStmt c s = refl
includes_slim kind.Echo c s = refl
includes_slim kind.Html c s = refl
includes_slim kind.Return c s = refl
includes_slim kind.If c s = refl
includes_slim kind.IfAlt c s = refl
includes_slim kind.While c s = refl
includes_slim kind.DoWhile c s = refl
includes_slim kind.For c s = refl
includes_slim kind.Foreach c s = refl
includes_slim kind.Switch c s = refl
includes_slim kind.Case c s = refl
includes_slim kind.Break c s = refl
includes_slim kind.Continue c s = refl
includes_slim kind.Global c s = refl
includes_slim kind.Statics c s = refl
includes_slim kind.Unset c s = refl
includes_slim kind.Throw c s = refl
includes_slim kind.Try c s = refl
includes_slim kind.Function c s = refl
includes_slim kind.Param c s = refl
includes_slim kind.TypeName c s = refl
includes_slim kind.Class c s = refl
includes_slim kind.Interface c s = refl
includes_slim kind.Trait c s = refl
includes_slim kind.Property c s = refl
includes_slim kind.ClassConst c s = refl
includes_slim kind.Method c s = refl
includes_slim kind.TraitUse c s = refl
includes_slim kind.Const c s = refl
includes_slim kind.Namespace c s = refl
includes_slim kind.Use c s = refl
includes_slim kind.Declare c s = refl
includes_slim kind.Goto c s = refl
includes_slim kind.LabelStmt c s = refl
includes_slim kind.Variable c s = refl
includes_slim kind.Number c s = refl
includes_slim kind.Float c s = refl
includes_slim kind.Text c s = refl
includes_slim kind.Quoted c s = refl
includes_slim kind.Constant c s = refl
includes_slim kind.ClassConstant c s = refl
includes_slim kind.Array c s = refl
includes_slim kind.Item c s = refl
includes_slim kind.List c s = refl
includes_slim kind.Paren c s = refl
includes_slim kind.Offset c s = refl
includes_slim kind.BraceOffset c s = refl
includes_slim kind.Prop c s = refl
includes_slim kind.StaticProp c s = refl
includes_slim kind.Call c s = refl
includes_slim kind.MethodCall c s = refl
includes_slim kind.StaticCall c s = refl
includes_slim kind.Args c s = refl
includes_slim kind.New c s = refl
includes_slim kind.Isset c s = refl
includes_slim kind.EmptyTest c s = refl
includes_slim kind.Exit c s = refl
includes_slim kind.Closure c s = refl
includes_slim kind.Arrow c s = refl
includes_slim kind.Include c s = refl
includes_slim kind.EvalTest c s = refl
includes_slim kind.Binary c s = refl
includes_slim kind.Prefix c s = refl
includes_slim kind.Postfix c s = refl
includes_slim kind.Cast c s = refl
includes_slim kind.Ternary c s = refl
includes_slim kind.ShortTernary c s = refl
includes_slim kind.Assign c s = refl
includes_slim kind.AssignRef c s = refl
includes_slim kind.CompoundAssign c s = refl
includes_slim kind.InstanceOf c s = refl
includes_slim kind.Print c s = refl
includes_slim kind.Yield c s = refl

member_slim : (o : Option (Option (List ℕ))) (s : Site) → s.members ≡ o → slim (in_member s) ≡ slim s
member_slim None s e = rw e refl
member_slim (Some p) s e = rw e refl

new_slim : (b : Bool) (f : Form) (s : Site) → is_keyword (codes "class") (first_word (drop_first (texts f))) ≡ b → slim (in_new (texts f) s) ≡ slim s
new_slim true f s e = rw e refl
new_slim false f s e = rw e refl

within_slim : (k : NodeKind) (c : Forest) (s : Site) → slim (within k c s) ≡ scope_within k (form c) (slim s)
within_slim kind.Block c s = refl
within_slim kind.Empty c s = refl
within_slim kind.ExprStmt c s = refl
within_slim kind.Echo c s = refl
within_slim kind.Html c s = refl
within_slim kind.Return c s = refl
within_slim kind.If c s = refl
within_slim kind.IfAlt c s = refl
within_slim kind.While c s = refl
within_slim kind.DoWhile c s = refl
within_slim kind.For c s = refl
within_slim kind.Foreach c s = refl
within_slim kind.Switch c s = refl
within_slim kind.Case c s = refl
within_slim kind.Break c s = refl
within_slim kind.Continue c s = refl
within_slim kind.Global c s = refl
within_slim kind.Statics c s = refl
within_slim kind.Unset c s = refl
within_slim kind.Throw c s = refl
within_slim kind.Try c s = refl
within_slim kind.Function c s = refl
within_slim kind.Param c s = refl
within_slim kind.TypeName c s = refl
within_slim kind.Class c s = refl
within_slim kind.Interface c s = refl
within_slim kind.Trait c s = refl
within_slim kind.Property c s = member_slim s.members s refl
within_slim kind.ClassConst c s = member_slim s.members s refl
within_slim kind.Method c s = member_slim s.members (in_body s) refl
within_slim kind.TraitUse c s = refl
within_slim kind.Const c s = refl
within_slim kind.Namespace c s = refl
within_slim kind.Use c s = refl
within_slim kind.Declare c s = refl
within_slim kind.Goto c s = refl
within_slim kind.LabelStmt c s = refl
within_slim kind.Variable c s = refl
within_slim kind.Number c s = refl
within_slim kind.Float c s = refl
within_slim kind.Text c s = refl
within_slim kind.Quoted c s = refl
within_slim kind.Constant c s = refl
within_slim kind.ClassConstant c s = refl
within_slim kind.Array c s = refl
within_slim kind.Item c s = refl
within_slim kind.List c s = refl
within_slim kind.Paren c s = refl
within_slim kind.Offset c s = refl
within_slim kind.BraceOffset c s = refl
within_slim kind.Prop c s = refl
within_slim kind.StaticProp c s = refl
within_slim kind.Call c s = refl
within_slim kind.MethodCall c s = refl
within_slim kind.StaticCall c s = refl
within_slim kind.Args c s = refl
within_slim kind.New c s = new_slim (is_keyword (codes "class") (first_word (drop_first (texts (form c))))) (form c) s refl
within_slim kind.Isset c s = refl
within_slim kind.EmptyTest c s = refl
within_slim kind.Exit c s = refl
within_slim kind.Closure c s = refl
within_slim kind.Arrow c s = refl
within_slim kind.Include c s = refl
within_slim kind.EvalTest c s = refl
within_slim kind.Binary c s = refl
within_slim kind.Prefix c s = refl
within_slim kind.Postfix c s = refl
within_slim kind.Cast c s = refl
within_slim kind.Ternary c s = refl
within_slim kind.ShortTernary c s = refl
within_slim kind.Assign c s = refl
within_slim kind.AssignRef c s = refl
within_slim kind.CompoundAssign c s = refl
within_slim kind.InstanceOf c s = refl
within_slim kind.Print c s = refl
within_slim kind.Yield c s = refl

space_slim : (b : Bool) (f : Form) (s : Site) → has_word (codes "{") (texts f) ≡ b → slim (names_beside kind.Namespace f s) ≡ names_beside kind.Namespace f (slim s)
space_slim true f s e = rw e refl
space_slim false f s e = rw e refl

beside_form : (k : NodeKind) (f : Form) (s : Site) → slim (names_beside k f s) ≡ names_beside k f (slim s)
beside_form kind.Block f s = refl
beside_form kind.Empty f s = refl
beside_form kind.ExprStmt f s = refl
beside_form kind.Echo f s = refl
beside_form kind.Html f s = refl
beside_form kind.Return f s = refl
beside_form kind.If f s = refl
beside_form kind.IfAlt f s = refl
beside_form kind.While f s = refl
beside_form kind.DoWhile f s = refl
beside_form kind.For f s = refl
beside_form kind.Foreach f s = refl
beside_form kind.Switch f s = refl
beside_form kind.Case f s = refl
beside_form kind.Break f s = refl
beside_form kind.Continue f s = refl
beside_form kind.Global f s = refl
beside_form kind.Statics f s = refl
beside_form kind.Unset f s = refl
beside_form kind.Throw f s = refl
beside_form kind.Try f s = refl
beside_form kind.Function f s = refl
beside_form kind.Param f s = refl
beside_form kind.TypeName f s = refl
beside_form kind.Class f s = refl
beside_form kind.Interface f s = refl
beside_form kind.Trait f s = refl
beside_form kind.Property f s = refl
beside_form kind.ClassConst f s = refl
beside_form kind.Method f s = refl
beside_form kind.TraitUse f s = refl
beside_form kind.Const f s = refl
beside_form kind.Namespace f s = space_slim (has_word (codes "{") (texts f)) f s refl
beside_form kind.Use f s = refl
beside_form kind.Declare f s = refl
beside_form kind.Goto f s = refl
beside_form kind.LabelStmt f s = refl
beside_form kind.Variable f s = refl
beside_form kind.Number f s = refl
beside_form kind.Float f s = refl
beside_form kind.Text f s = refl
beside_form kind.Quoted f s = refl
beside_form kind.Constant f s = refl
beside_form kind.ClassConstant f s = refl
beside_form kind.Array f s = refl
beside_form kind.Item f s = refl
beside_form kind.List f s = refl
beside_form kind.Paren f s = refl
beside_form kind.Offset f s = refl
beside_form kind.BraceOffset f s = refl
beside_form kind.Prop f s = refl
beside_form kind.StaticProp f s = refl
beside_form kind.Call f s = refl
beside_form kind.MethodCall f s = refl
beside_form kind.StaticCall f s = refl
beside_form kind.Args f s = refl
beside_form kind.New f s = refl
beside_form kind.Isset f s = refl
beside_form kind.EmptyTest f s = refl
beside_form kind.Exit f s = refl
beside_form kind.Closure f s = refl
beside_form kind.Arrow f s = refl
beside_form kind.Include f s = refl
beside_form kind.EvalTest f s = refl
beside_form kind.Binary f s = refl
beside_form kind.Prefix f s = refl
beside_form kind.Postfix f s = refl
beside_form kind.Cast f s = refl
beside_form kind.Ternary f s = refl
beside_form kind.ShortTernary f s = refl
beside_form kind.Assign f s = refl
beside_form kind.AssignRef f s = refl
beside_form kind.CompoundAssign f s = refl
beside_form kind.InstanceOf f s = refl
beside_form kind.Print f s = refl
beside_form kind.Yield f s = refl

beside_slim : (k : NodeKind) (c : Forest) (s : Site) → slim (beside k c s) ≡ names_beside k (form c) (slim s)
beside_slim k c s = beside_form k (form c) s

-- ---- a whole forest

count_facts : (p : Standing) (top : Bool) (f : Forest) → length (facts p top f) ≡ count f
count_facts p top none = refl
count_facts p top (leaf t f) = count_facts p top f
count_facts p top (node k c f) =
    omega (
      arith,
      length-append (facts (stands_within k c p) (keeps_top k && top) c) (facts (stands_beside k c p) top f),
      count_facts (stands_within k c p) (keeps_top k && top) c,
      count_facts (stands_beside k c p) top f,
    )

told_at_number : (f m n : ℕ) (xs : List Fact) → m ≡ n → facts_told f m xs ≡ facts_told f n xs
told_at_number f m n xs e = ap (λ (k : ℕ). facts_told f k xs) e

told_append : (f n : ℕ) (xs ys : List Fact) → facts_told f n (xs ++ ys) ≡ facts_told f n xs ++ facts_told f (n + length xs) ys
told_append f n [] ys = told_at_number f n (n + length {A = Fact} []) ys (omega arith)
told_append f n (x ∷ xs) ys =
    ap (λ (ts : List Told). fact_told f n x ++ ts)
    (told_append f (suc n) xs ys ∙ ap (λ (ts : List Told). facts_told f (suc n) xs ++ ts)
    (told_at_number f (suc n + length xs) (n + length (x ∷ xs)) ys (omega arith)))
    ∙ sym (append_assoc (fact_told f n x) (facts_told f (suc n) xs) (facts_told f (n + length (x ∷ xs)) ys))

at_slim : (f n : ℕ) (top : Bool) (k : NodeKind) (c : Forest) (p : Standing) →
    told_at (record { file = f; node = n }) top k c (slim p.site) ≡ fact_told f n (fact k c p top)
at_slim f n top k c p = rw (declares_slim k (form c) p.site, extends_slim k (form c) p.site, includes_slim k c p.site) refl

pub told_facts : (f n : ℕ) (p : Standing) (top : Bool) (g : Forest) → told f n (slim p.site) top g ≡ facts_told f n (facts p top g)
told_facts f n p top none = refl
told_facts f n p top (leaf t g) = told_facts f n p top g
told_facts f n p top (node k c g) =
    ap (λ (ts : List Told). ts ++ told f (suc n) (scope_within k (form c) (slim p.site)) (keeps_top k && top) c
    ++ told f (suc n + count c) (names_beside k (form c) (slim p.site)) top g) (at_slim f n top k c p)
    ∙ append_assoc (fact_told f n (fact k c p top))
    (told f (suc n) (scope_within k (form c) (slim p.site)) (keeps_top k && top) c)
    (told f (suc n + count c) (names_beside k (form c) (slim p.site)) top g)
    ∙ ap (λ (ts : List Told). fact_told f n (fact k c p top) ++ ts) (
    ap (λ (s : Site). told f (suc n) s (keeps_top k && top) c ++ told f (suc n + count c) (names_beside k (form c) (slim p.site)) top g) (sym (within_slim k c p.site))
    ∙ ap (λ (s : Site). told f (suc n) (slim (within k c p.site)) (keeps_top k && top) c ++ told f (suc n + count c) s top g) (sym (beside_slim k c p.site))
    ∙ ap (λ (ts : List Told). ts ++ told f (suc n + count c) (slim (beside k c p.site)) top g) (told_facts f (suc n) (stands_within k c p) (keeps_top k && top) c)
    ∙ ap (λ (ts : List Told). facts_told f (suc n) (facts (stands_within k c p) (keeps_top k && top) c) ++ ts) (told_facts f (suc n + count c) (stands_beside k c p) top g)
    ∙ ap (λ (m : ℕ). facts_told f (suc n) (facts (stands_within k c p) (keeps_top k && top) c)
    ++ facts_told f (suc n + m) (facts (stands_beside k c p) top g))
    (sym (count_facts (stands_within k c p) (keeps_top k && top) c))
    ∙ sym (told_append f (suc n) (facts (stands_within k c p) (keeps_top k && top) c) (facts (stands_beside k c p) top g)))
