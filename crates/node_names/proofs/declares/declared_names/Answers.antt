use Rattle.std.proofs.Common.{◌≡◌}
use Rattle.php_tree.specs.declared.kind.NodeKind.TheVariants as kinds
use Rattle.scope_names.specs.Sites.{Site}
use Rattle.node_names.specs.Declares.{declares}
use Rattle.node_names.specs.Seen.{form_of}
use Rattle.node_names.proofs.ResultLemmas.{ok_then}
use Rattle.node_names.proofs.declares.declared_names.Goals as goal

pub returns-in-Method : goal.returns-in-Method
returns-in-Method c =
    ok_then c.method.result
    (λ ns. (s : Site) → ns.items ≡ declares kinds.Method (form_of c.args.form.now) s)
    (λ ns. (s : Site) → s.space ≡ c.args.space.now → ns.items ≡ declares c.args.kind (form_of c.args.form.now) s)
    (λ ns h. λ s e. rw c.in-Method.is (h s)) c.method.ensures

pub returns-in-ClassConst : goal.returns-in-ClassConst
returns-in-ClassConst c =
    ok_then c.class_constants.result
    (λ ns. (s : Site) → ns.items ≡ declares kinds.ClassConst (form_of c.args.form.now) s)
    (λ ns. (s : Site) → s.space ≡ c.args.space.now → ns.items ≡ declares c.args.kind (form_of c.args.form.now) s)
    (λ ns h. λ s e. rw c.in-ClassConst.is (h s)) c.class_constants.ensures

pub returns-in-Property : goal.returns-in-Property
returns-in-Property c =
    ok_then c.properties.result
    (λ ns. (s : Site) → ns.items ≡ declares kinds.Property (form_of c.args.form.now) s)
    (λ ns. (s : Site) → s.space ≡ c.args.space.now → ns.items ≡ declares c.args.kind (form_of c.args.form.now) s)
    (λ ns h. λ s e. rw c.in-Property.is (h s)) c.properties.ensures
