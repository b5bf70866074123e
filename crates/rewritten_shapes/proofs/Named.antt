-- Nodes with names, and with labels that 8.3 narrows.
use Rattle.std.proofs.Common.{◌≡◌, true, false, Option, refl, sym, ◌∙◌, subst}
use Rattle.php_tree.specs.declared.kind.NodeKind.{NodeKind}
use Rattle.php_tree.specs.declared.kind.NodeKind.TheVariants as k
use Rattle.php_tree.specs.declared.version.Version.TheVariants.{V74, V83}
use Rattle.php_tree.specs.Tree.{Forest}
use Rattle.php_terminals.specs.declared.terminal.Terminal.TheVariants as t
use Rattle.php_shapes.specs.Atoms as at
use Rattle.php_shapes.specs.Forms.{form}
use Rattle.php_shapes.specs.Notation.{Rule, nothing, word, kind, place, ◌~◌, maybe, expr}
use Rattle.php_shapes.specs.Places.{Callee, ClassName, Left}
use Rattle.php_shapes.specs.Postfixes as po
use Rattle.php_shapes.specs.Shapes.{Fits, IsNode, is_node}
use Rattle.php_shapes.specs.Statements as st
use Rattle.syntax_rules.specs.Around.{Around, within}
use Rattle.rewritten_shapes.specs.Laws.{AreSpelled}
use Rattle.rewritten_shapes.specs.RefusedWords.{has, has_refused, named}
use Rattle.rewritten_shapes.proofs.Bilingual.{Both, Which, a_called, a_label, a_name, alike, both_kept, either, keywords, match_alone, new, next, old, reads, test, times}
use Rattle.rewritten_shapes.proofs.Kept.{AllGood, Good, Kept, is_settled}
use Rattle.rewritten_shapes.proofs.Own.{has_new}
use Rattle.rewritten_shapes.proofs.Same.{assemble, lines_fine, has_no_lines}
use Rattle.rewritten_shapes.proofs.Shown.{new_parts, new_tree}
use Rattle.rewritten_shapes.proofs.Simple.{is_simple}

-- a rule or nothing, and a rule with commas
abbrev pub may : Both → Both
may r = either (alike nothing) r

abbrev pub listed : Both → Both
listed r = next r (times (next (alike (word t.Comma)) r))

-- ---- forms in both versions

abbrev function : Both
function = next (alike (word t.Function)) (next (alike at.by_ref) (next (a_label t.FunctionLabel) (alike (at.params ~ at.return_type ~ kind k.Block))))

abbrev call : Both
call = next (either a_called (alike (place Callee))) (alike po.called)

abbrev type_name : Both
type_name = next (alike (maybe (word t.Question))) (either (alike (word t.Array)) (either (alike (word t.Callable)) a_name))

abbrev pub inheritance : Both
inheritance = next (may (next (alike (word t.Extends)) a_name)) (may (next (alike (word t.Implements)) (listed a_name)))

abbrev new_form : Both
new_form =
    next (alike (word t.New))
    (either (next (either a_name (either (alike (word t.Static)) (alike (place ClassName)))) (alike at.new_arguments))
    (next (alike (word t.Class)) (next (alike at.new_arguments) (next inheritance (alike at.members)))))

abbrev instance_of : Both
instance_of = next (alike (place (Left 4))) (next (alike (word t.InstanceOf)) (either a_name (either (alike (word t.Static)) (alike (place ClassName)))))

abbrev catch_part : Both
catch_part =
    next (alike (word t.Catch))
    (next (next (alike (word t.OpenParen)) (next (next a_name (next (times (next (alike (word t.Bar)) a_name)) (alike (word t.Variable)))) (alike (word t.CloseParen))))
    (alike (kind k.Block)))

abbrev try_form : Both
try_form =
    next (alike (word t.Try)) (next (alike (kind k.Block))
    (either (alike st.finally_part) (next catch_part (next (times catch_part) (alike (maybe st.finally_part))))))

abbrev constants : Both
constants = next (alike (word t.Const)) (next (listed (next (a_label t.FreeLabel) (alike (word t.Assign ~ expr)))) (alike (word t.Semi)))

abbrev goto_form : Both
goto_form = next (alike (word t.Goto)) (next (a_label t.FreeLabel) (alike (word t.Semi)))

abbrev label_form : Both
label_form = next (a_label t.FreeLabel) (alike (word t.Colon))

abbrev declare_form : Both
declare_form =
    next (alike (word t.Declare))
    (next (next (alike (word t.OpenParen)) (next (listed (next (a_label t.FreeLabel) (alike (word t.Assign ~ expr)))) (alike (word t.CloseParen)))) (alike (st.body t.EndDeclare)))

-- ---- nodes

-- a node whose form is one in both versions
both_good : (w : Which) (r : Both) (a : Option Around) (k : NodeKind) (c : Forest) → reads w r ≡ true
    → form V74 k ≡ old r → form V83 k ≡ new r → is_simple k ≡ true → is_settled k ≡ true → has_no_lines k ≡ true
    → has (test w) (named c) ≡ false → AreSpelled c → AllGood c → IsNode V74 k c → Good k c (new_tree a k c)
both_good w r a k c e f g s d l h sp al (is_node x near fine) =
    let b = new_parts (within k c) true c in
    let free : has (test w) b ≡ false = sym (has_new (test w) (within k c) true c) ∙ h in
    let kept : Kept (new r) c b = both_kept w r e c (subst (λ (q : Rule). Fits V74 q c) f x) sp al (within k c) true free in
    assemble a k c s d (subst (λ (q : Rule). Kept q c b) (sym g) kept) near (lines_fine k b l)

pub good_function : (a : Option Around) (c : Forest) → has_refused k.Function c ≡ false → AreSpelled c → AllGood c
    → IsNode V74 k.Function c → Good k.Function c (new_tree a k.Function c)
good_function a c h s w n = both_good match_alone function a k.Function c refl refl refl refl refl refl h s w n

pub good_call : (a : Option Around) (c : Forest) → has_refused k.Call c ≡ false → AreSpelled c → AllGood c → IsNode V74 k.Call c → Good k.Call c (new_tree a k.Call c)
good_call a c h s w n = both_good match_alone call a k.Call c refl refl refl refl refl refl h s w n

pub good_constant : (a : Option Around) (c : Forest) → has_refused k.Constant c ≡ false → AreSpelled c → AllGood c
    → IsNode V74 k.Constant c → Good k.Constant c (new_tree a k.Constant c)
good_constant a c h s w n = both_good keywords a_name a k.Constant c refl refl refl refl refl refl h s w n

pub good_typename : (a : Option Around) (c : Forest) → has_refused k.TypeName c ≡ false → AreSpelled c → AllGood c
    → IsNode V74 k.TypeName c → Good k.TypeName c (new_tree a k.TypeName c)
good_typename a c h s w n = both_good keywords type_name a k.TypeName c refl refl refl refl refl refl h s w n

pub good_new : (a : Option Around) (c : Forest) → has_refused k.New c ≡ false → AreSpelled c → AllGood c → IsNode V74 k.New c → Good k.New c (new_tree a k.New c)
good_new a c h s w n = both_good keywords new_form a k.New c refl refl refl refl refl refl h s w n

pub good_instanceof : (a : Option Around) (c : Forest) → has_refused k.InstanceOf c ≡ false → AreSpelled c → AllGood c
    → IsNode V74 k.InstanceOf c → Good k.InstanceOf c (new_tree a k.InstanceOf c)
good_instanceof a c h s w n = both_good keywords instance_of a k.InstanceOf c refl refl refl refl refl refl h s w n

pub good_try : (a : Option Around) (c : Forest) → has_refused k.Try c ≡ false → AreSpelled c → AllGood c → IsNode V74 k.Try c → Good k.Try c (new_tree a k.Try c)
good_try a c h s w n = both_good keywords try_form a k.Try c refl refl refl refl refl refl h s w n

pub good_const : (a : Option Around) (c : Forest) → has_refused k.Const c ≡ false → AreSpelled c → AllGood c → IsNode V74 k.Const c → Good k.Const c (new_tree a k.Const c)
good_const a c h s w n = both_good keywords constants a k.Const c refl refl refl refl refl refl h s w n

pub good_goto : (a : Option Around) (c : Forest) → has_refused k.Goto c ≡ false → AreSpelled c → AllGood c → IsNode V74 k.Goto c → Good k.Goto c (new_tree a k.Goto c)
good_goto a c h s w n = both_good keywords goto_form a k.Goto c refl refl refl refl refl refl h s w n

pub good_labelstmt : (a : Option Around) (c : Forest) → has_refused k.LabelStmt c ≡ false → AreSpelled c → AllGood c
    → IsNode V74 k.LabelStmt c → Good k.LabelStmt c (new_tree a k.LabelStmt c)
good_labelstmt a c h s w n = both_good keywords label_form a k.LabelStmt c refl refl refl refl refl refl h s w n

pub good_declare : (a : Option Around) (c : Forest) → has_refused k.Declare c ≡ false → AreSpelled c → AllGood c
    → IsNode V74 k.Declare c → Good k.Declare c (new_tree a k.Declare c)
good_declare a c h s w n = both_good keywords declare_form a k.Declare c refl refl refl refl refl refl h s w n
