-- How nodes of each sort go on: as their kind's form says.
use Rattle.std.proofs.Common.{◌≡◌, ℕ, Bool, true, false, not, ◌&&◌, ◌||◌, List, ◌++◌, drop, Option, Some, None, refl, sym, ap, ◌∙◌, subst}
use Rattle.std.specs.Prelude.{IfSome}
use Rattle.std.proofs.lemmas.Bool.{or_right}
use Rattle.php_tree.specs.declared.kind.NodeKind.{NodeKind}
use Rattle.php_tree.specs.declared.kind.NodeKind.TheVariants as k
use Rattle.php_tree.specs.declared.token.Token.{Token}
use Rattle.php_tree.specs.declared.version.Version.{Version}
use Rattle.php_tree.specs.declared.version.Version.TheVariants.{V74, V83}
use Rattle.php_tree.specs.Tree.{Forest, none, node, leaves}
use Rattle.php_terminals.specs.declared.terminal.Terminal.{Terminal}
use Rattle.php_terminals.specs.declared.terminal.Terminal.TheVariants as t
use Rattle.php_terminals.specs.Ahead.{first_of, is_called}
use Rattle.php_terminals.specs.Indents.{is_misindented}
use Rattle.php_terminals.specs.Marks.{is_double_arrow, is_variable_start}
use Rattle.php_forms.specs.declared.item.Item.{Item}
use Rattle.php_forms.specs.declared.item.Sort.{Sort}
use Rattle.php_forms.specs.declared.item.Sort.TheVariants as s
use Rattle.php_forms.specs.Forms.{or_else, refused}
use Rattle.php_forms.specs.Grammar.{Form}
use Rattle.php_grammar.specs.Bases.{is_callee, is_class_base, is_list, is_member_base, is_offset_base, is_target, is_variable, is_variable_expression}
use Rattle.php_grammar.specs.Tables as ft
use Rattle.php_grammar.specs.Tails as ta
use Rattle.php_shapes.specs.Postfixes as po
use Rattle.php_shapes.specs.Quoted as qu
use Rattle.php_shapes.specs.Forms.{form}
use Rattle.php_shapes.specs.Nearest.{is_nearest}
use Rattle.php_shapes.specs.Notation.{Rule, word, place, ◌~◌, maybe, expr, brackets, braces}
use Rattle.php_shapes.specs.Places.{MemberBase, OffsetBase, begins_with_class_name, begins_with_variable, is_class_name, is_postfixed}
use Rattle.php_shapes.specs.Shapes.{Fits, IsNode, is_node, is_place, is_inside, is_both, is_first, is_second}
use Rattle.php_shapes.proofs.Entries.{Meet, entries}
use Rattle.php_shapes.proofs.Sequences.{Gives, whole}
use Rattle.php_shapes.proofs.Follows.{false_is}
use Rattle.php_shapes.proofs.Standing.{Closed, Stands, cond_form, cond_option, is_operand, is_quiet, or_else_form, quiet, quiet_fine, when_form}
use Rattle.php_shapes.proofs.Never.{no_such}
use Rattle.php_shapes.proofs.Operations.{GrowsOn, operator_grows}
use Rattle.php_shapes.proofs.Additions.{Adds, postfix_adds}

-- Each node that goes on with such a form stands at a place of the sort.
pub record GoesOn (v : Version) (s : Sort) (j : NodeKind) (b : Forest) (ts : List Token) (fm : Form) : Type 0 where
  pub goes : (f : Forest) (rest : List Token) → ts ≡ leaves f ++ rest → Meet v (entries v fm.1) f rest → Stands v s fm.0 (node j b f) × Closed fm.0 (node j b f) rest

-- ---- forms that no tokens have

pub refused_goes : (v : Version) (s : Sort) (j : NodeKind) (b : Forest) (ts : List Token) → IfSome refused (GoesOn v s j b ts)
refused_goes v s j b ts = record { goes = λ f rest same m. absurd (no_such v f (whole v (word t.Never) f rest m)) }

pub refused_unless_goes : (v : Version) (s : Sort) (j : NodeKind) (b : Forest) (ts : List Token) (test : Bool) → IfSome (ta.refused_unless test) (GoesOn v s j b ts)
refused_unless_goes v s j b ts true = tt
refused_unless_goes v s j b ts false = refused_goes v s j b ts

pub each : (P Q : Form → Type 0) → ((fm : Form) → P fm → Q fm) → (o : Option Form) → IfSome o P → IfSome o Q
each P Q f None p = tt
each P Q f (Some fm) p = f fm p

-- ---- operands

pub add_operand : (v : Version) (limit : ℕ) (j : NodeKind) (b : Forest) (ts : List Token) (fm : Form) → Adds v j b fm → GrowsOn v limit j b ts fm
add_operand v limit j b ts fm a = record {
  grows = λ f rest same m.
      let x = a.adds f rest m in
      record { fits = x.fits; operand = x.operand; tight = x.tight limit; shut = x.shut };
}

pub operand_grows : (v : Version) (limit : ℕ) (j : NodeKind) (b : Forest) → IsNode v j b → is_operand j ≡ true
    → (ts : List Token) → IfSome (ta.operand_tail v limit (j, b) ts) (GrowsOn v limit j b ts)
operand_grows v limit j b n o ts =
    or_else_form (GrowsOn v limit j b ts) (ta.postfix_tail v j ts) (ta.operator_tail v limit (ta.left_edge v (j, b)) j ts)
    (each (Adds v j b) (GrowsOn v limit j b ts) (add_operand v limit j b ts) (ta.postfix_tail v j ts) (postfix_adds v j b n ts))
    (operator_grows v limit j b n o ts)

pub as_operand : (v : Version) (limit : ℕ) (j : NodeKind) (b : Forest) (ts : List Token) (fm : Form) → GrowsOn v limit j b ts fm → GoesOn v (s.Operand limit) j b ts fm
as_operand v limit j b ts fm g = record { goes = λ f rest same m. let x = g.grows f rest same m in ((x.fits, x.operand, x.tight), x.shut) }

pub as_entry : (v : Version) (j : NodeKind) (b : Forest) (ts : List Token) (fm : Form) → GrowsOn v 24 j b ts fm → GoesOn v s.Entry j b ts fm
as_entry v j b ts fm g = record { goes = λ f rest same m. let x = g.grows f rest same m in ((x.fits, x.operand, x.tight), x.shut) }

pub as_place : (v : Version) (j : NodeKind) (b : Forest) (ts : List Token) (fm : Form) → Adds v j b fm → GoesOn v s.Place j b ts fm
as_place v j b ts fm a = record { goes = λ f rest same m. let x = a.adds f rest m in (x.fits, x.shut) }

pub as_target : (v : Version) (j : NodeKind) (b : Forest) (ts : List Token) (fm : Form) → Adds v j b fm → GoesOn v s.Target j b ts fm
as_target v j b ts fm a = record { goes = λ f rest same m. let x = a.adds f rest m in (x.fits, x.shut) }

pub read_goes : (v : Version) (limit : ℕ) (j : NodeKind) (b : Forest) (ts : List Token) → Fits v (form v j) b
    → is_nearest b ≡ true → is_operand j ≡ true → IfSome (ta.read_tail v limit (j, b) ts)
    (GoesOn v (s.Operand limit) j b ts)
read_goes v limit j b ts p near o =
    let P = GoesOn v (s.Operand limit) j b ts in
    cond_option P (is_misindented (j, b)) refused (or_else (ta.operand_tail v limit (j, b) ts) (ta.refused_unless (not (is_list j))))
    (λ e. refused_goes v (s.Operand limit) j b ts)
    (λ e. or_else_form P (ta.operand_tail v limit (j, b) ts) (ta.refused_unless (not (is_list j)))
    (each (GrowsOn v limit j b ts) P (as_operand v limit j b ts) (ta.operand_tail v limit (j, b) ts) (operand_grows v limit j b (is_node p near e) o ts))
    (refused_unless_goes v (s.Operand limit) j b ts (not (is_list j))))

pub entry_end_goes : (v : Version) (j : NodeKind) (b : Forest) (ts : List Token) (x : Terminal) → IfSome (ta.entry_end j x) (GoesOn v s.Entry j b ts)
entry_end_goes v j b ts x =
    cond_option (GoesOn v s.Entry j b ts) (is_double_arrow x) (ta.refused_unless (not (is_list j))) (ta.refused_unless (is_target j || is_list j))
    (λ e. refused_unless_goes v s.Entry j b ts (not (is_list j))) (λ e. refused_unless_goes v s.Entry j b ts (is_target j || is_list j))

pub entry_goes : (v : Version) (j : NodeKind) (b : Forest) (ts : List Token) → Fits v (form v j) b
    → is_nearest b ≡ true → is_operand j ≡ true → IfSome (ta.entry_tail v (j, b) ts) (GoesOn v s.Entry j b ts)
entry_goes v j b ts p near o =
    let P = GoesOn v s.Entry j b ts in
    cond_option P (is_misindented (j, b)) refused (or_else (ta.operand_tail v 24 (j, b) ts) (ta.entry_end j (first_of ts)))
    (λ e. refused_goes v s.Entry j b ts)
    (λ e. or_else_form P (ta.operand_tail v 24 (j, b) ts) (ta.entry_end j (first_of ts))
    (each (GrowsOn v 24 j b ts) P (as_entry v j b ts) (ta.operand_tail v 24 (j, b) ts) (operand_grows v 24 j b (is_node p near e) o ts))
    (entry_end_goes v j b ts (first_of ts)))

pub place_goes : (v : Version) (s : Sort) (j : NodeKind) (b : Forest) (ts : List Token)
    → ((fm : Form) → Adds v j b fm → GoesOn v s j b ts fm) → Fits v (form v j) b → is_nearest b ≡ true
    → IfSome (ta.place_tail v (j, b) ts) (GoesOn v s j b ts)
place_goes v s j b ts into p near =
    let P = GoesOn v s j b ts in
    cond_option P (is_misindented (j, b)) refused (or_else (ta.postfix_tail v j ts) (ta.refused_unless (is_target j)))
    (λ e. refused_goes v s j b ts)
    (λ e. or_else_form P (ta.postfix_tail v j ts) (ta.refused_unless (is_target j))
    (each (Adds v j b) P into (ta.postfix_tail v j ts) (postfix_adds v j b (is_node p near e) ts))
    (refused_unless_goes v s j b ts (is_target j)))

-- ---- what names a class

pub class_offset : (j : NodeKind) → is_class_name j ≡ true → is_offset_base j ≡ true
class_offset k.Variable e = refl
class_offset k.Offset e = refl
class_offset k.BraceOffset e = refl
class_offset k.Prop e = refl
class_offset k.StaticProp e = refl
class_offset _ e = false_is e

pub class_member : (j : NodeKind) → is_class_name j ≡ true → is_member_base j ≡ true
class_member k.Variable e = refl
class_member k.Offset e = refl
class_member k.BraceOffset e = refl
class_member k.Prop e = refl
class_member k.StaticProp e = refl
class_member _ e = false_is e

pub class_static : (j : NodeKind) → is_class_name j ≡ true → is_class_base j ≡ true
class_static k.Variable e = refl
class_static k.Offset e = refl
class_static k.BraceOffset e = refl
class_static k.Prop e = refl
class_static k.StaticProp e = refl
class_static _ e = false_is e

pub first_true : (b c : Bool) → (b && c) ≡ true → b ≡ true
first_true true c e = refl
first_true false c e = false_is e

module _ (v : Version) (j : NodeKind) (b : Forest) (ts : List Token) (n : IsNode v j b) (w : is_class_name j && begins_with_class_name b ≡ true) where
  named : (k : NodeKind) (is : List Item) (a r : Rule) → is_quiet k ≡ true → is_class_name k ≡ true
      → Fits v a (node j b none) → ((c : Forest) → Fits v (a ~ r) c → Fits v (form v k) c) → Gives v (entries v is) r
      → GoesOn v s.ClassRef j b ts (k, is)
  named k is a r q d p into gives = record {
    goes = λ f rest same m. (
      (
        record { fits = into (node j b f) (is_both p (gives f rest m) refl); fine = quiet_fine k (node j b f) q },
        ap (λ (y : Bool). y && (is_class_name j && begins_with_class_name b)) d ∙ w,
      ),
      quiet k (node j b f) rest q,
    );
  }

  is_class : is_class_name j ≡ true
  is_class = first_true (is_class_name j) (begins_with_class_name b) w

  class_offset_goes : GoesOn v s.ClassRef j b ts ta.offset_form
  class_offset_goes = named k.Offset _ (place OffsetBase) (brackets (maybe expr)) refl refl (is_place (class_offset j is_class) n) (λ c p. p) (whole v (brackets (maybe expr)))

  class_prop_goes : GoesOn v s.ClassRef j b ts ta.prop_form
  class_prop_goes = named k.Prop _ (place MemberBase) (word t.Arrow ~ po.member) refl refl (is_place (class_member j is_class) n) (λ c p. p) (whole v (word t.Arrow ~ po.member))

  class_static_goes : GoesOn v s.ClassRef j b ts ta.static_prop_form
  class_static_goes = named k.StaticProp _ (po.class_before v) (word t.DoubleColon ~ po.static_member) refl refl
      (is_second (is_second (is_place (class_static j is_class) n))) (λ c p. p)
      (whole v (word t.DoubleColon ~ po.static_member))

pub class_brace_goes : (v : Version) (j : NodeKind) (b : Forest) (ts : List Token) → IsNode v j b → is_class_name j
    && begins_with_class_name b ≡ true → IfSome (ta.brace_tail v j) (GoesOn v s.ClassRef j b ts)
class_brace_goes V74 j b ts n w =
    when_form (GoesOn V74 s.ClassRef j b ts) (is_offset_base j) _
    (λ d. named V74 j b ts n w k.BraceOffset _ (place OffsetBase) (braces expr) refl refl (is_place d n)
    (λ c p. p) (whole V74 (braces expr)))
class_brace_goes V83 j b ts n w = tt

pub class_goes : (v : Version) (j : NodeKind) (b : Forest) (ts : List Token) → IsNode v j b → is_class_name j
    && begins_with_class_name b ≡ true → (x : Terminal) (us : List Token)
    → IfSome (ta.class_ref_by v j x us) (GoesOn v s.ClassRef j b ts)
class_goes v j b ts n w t.OpenBracket us = class_offset_goes v j b ts n w
class_goes v j b ts n w t.OpenBrace us = class_brace_goes v j b ts n w
class_goes v j b ts n w t.Arrow us = class_prop_goes v j b ts n w
class_goes v j b ts n w t.DoubleColon us = when_form (GoesOn v s.ClassRef j b ts) (is_variable_start (first_of (drop 1 us))) _ (λ d. class_static_goes v j b ts n w)
class_goes v j b ts n w _ us = tt

-- ---- variables in quoted texts

pub plain_is : (v : Version) (j : NodeKind) (b : Forest) → (j ≡ k.Variable) × Fits v (word t.Variable) b → is_nearest b ≡ true → Fits v qu.plain_variable (node j b none)
plain_is v j b p near = subst (λ (i : NodeKind). Fits v qu.plain_variable (node i b none)) (sym p.0) (is_inside p.1 near)

pub interpolated_goes : (v : Version) (j : NodeKind) (b : Forest) (ts : List Token)
    → (is_variable j ≡ true → (j ≡ k.Variable) × Fits v (word t.Variable) b) → is_nearest b ≡ true → (x : Terminal)
    → IfSome (ta.interpolated_by j x) (GoesOn v s.Interpolated j b ts)
interpolated_goes v j b ts p near t.OpenBracket =
    when_form (GoesOn v s.Interpolated j b ts) (is_variable j) _ (λ w.
    record {
      goes = λ f rest same m. (
        (
          λ d. is_second (is_first (is_inside (is_both (plain_is v j b (p w) near)
              (whole v (brackets qu.simple_key) f rest m) refl) d)),
          λ d. false_is d,
        ),
        quiet k.Offset (node j b f) rest refl,
      );
    })
interpolated_goes v j b ts p near t.Arrow =
    when_form (GoesOn v s.Interpolated j b ts) (is_variable j) _ (λ w.
    record {
      goes = λ f rest same m. (
        (
          λ d. is_second (is_second (is_inside (is_both (plain_is v j b (p w) near)
              (whole v (word t.Arrow ~ word t.AnyLabel) f rest m) refl) d)),
          λ d. false_is d,
        ),
        quiet k.Prop (node j b f) rest refl,
      );
    })
interpolated_goes v j b ts p near _ = tt

-- ---- variable expressions in quoted texts

abbrev Postfixed : Form → Type 0
Postfixed fm = is_postfixed fm.0 ≡ true

static_tail_postfixed : (ts : List Token) → Postfixed (ta.static_tail ts)
static_tail_postfixed ts =
    cond_form Postfixed (is_called ts) _ _ refl (cond_form Postfixed (is_variable_start (first_of ts)) _ _ refl refl)

brace_postfixed : (v : Version) (j : NodeKind) → IfSome (ta.brace_tail v j) Postfixed
brace_postfixed V74 j = when_form Postfixed (is_offset_base j) _ (λ e. refl)
brace_postfixed V83 j = tt

-- what goes on behind a base is an offset, a member or a call
postfix_kinds : (v : Version) (j : NodeKind) (x : Terminal) (ts : List Token) → IfSome (ta.postfix_by v j x ts) Postfixed
postfix_kinds v j t.OpenBracket ts = when_form Postfixed (is_offset_base j) _ (λ e. refl)
postfix_kinds v j t.OpenBrace ts = brace_postfixed v j
postfix_kinds v j t.Arrow ts = when_form Postfixed (is_member_base j) _ (λ e. cond_form Postfixed (is_called (drop 1 ts)) _ _ refl refl)
postfix_kinds v j t.DoubleColon ts = when_form Postfixed (is_class_base j) _ (λ e. static_tail_postfixed (drop 1 ts))
postfix_kinds v j t.OpenParen ts = when_form Postfixed (is_callee j) _ (λ e. refl)
postfix_kinds v j _ ts = tt

postfixed_quiet : (j : NodeKind) → is_postfixed j ≡ true → is_quiet j ≡ true
postfixed_quiet k.If e = false_is e
postfixed_quiet k.Yield e = false_is e
postfixed_quiet k.Text e = false_is e
postfixed_quiet k.Quoted e = false_is e
postfixed_quiet _ e = refl

as_embedded : (v : Version) (j : NodeKind) (b : Forest) (ts : List Token) → begins_with_variable (node j b none) ≡ true → (fm : Form) → Adds v j b fm
    → Postfixed fm → GoesOn v s.Embedded j b ts fm
as_embedded v j b ts w fm a p = record {
  goes = λ f rest same m.
      let x = a.adds f rest m in (
        (
          record { fits = x.fits; fine = quiet_fine fm.0 (node j b f) (postfixed_quiet fm.0 p) },
          or_right (is_variable fm.0) _ (ap (λ (y : Bool). y && begins_with_variable (node j b none)) p ∙ w),
        ),
        x.shut,
      );
}

both_each : (P Q R : Form → Type 0) → ((fm : Form) → P fm → Q fm → R fm) → (o : Option Form) → IfSome o P → IfSome o Q → IfSome o R
both_each P Q R f None p q = tt
both_each P Q R f (Some fm) p q = f fm p q

pub embedded_goes : (v : Version) (j : NodeKind) (b : Forest) (ts : List Token) → IsNode v j b → begins_with_variable (node j b none) ≡ true
    → IfSome (ta.embedded_tail v j ts) (GoesOn v s.Embedded j b ts)
embedded_goes v j b ts n w =
    let P = GoesOn v s.Embedded j b ts in
    or_else_form P (ta.postfix_tail v j ts) (ta.refused_unless (is_variable_expression j))
    (both_each (Adds v j b) Postfixed P (as_embedded v j b ts w) (ta.postfix_tail v j ts) (postfix_adds v j b n ts)
    (postfix_kinds v j (first_of ts) ts))
    (refused_unless_goes v s.Embedded j b ts (is_variable_expression j))

-- A node of each sort goes on as its kind's form says.
pub goes_good : (v : Version) (s : Sort) (j : NodeKind) (b : Forest) (ts : List Token) → Stands v s j b → is_nearest b ≡ true → IfSome (ft.tail v s (j, b) ts) (GoesOn v s j b ts)
goes_good v (s.Operand limit) j b ts p near = read_goes v limit j b ts p.0 near p.1
goes_good v s.Entry j b ts p near = entry_goes v j b ts p.0 near p.1
goes_good v s.Target j b ts p near = cond_option (GoesOn v s.Target j b ts) (is_list j) None
    (ta.place_tail v (j, b) ts) (λ e. tt) (λ e. place_goes v s.Target j b ts (as_target v j b ts) p near)
goes_good v s.Place j b ts p near = place_goes v s.Place j b ts (as_place v j b ts) p near
goes_good v s.ClassRef j b ts p near = class_goes v j b ts (is_node p.0.fits near p.0.fine) p.1 (first_of ts) ts
goes_good v s.Interpolated j b ts p near = interpolated_goes v j b ts p.1 near (first_of ts)
goes_good v s.Embedded j b ts p near = embedded_goes v j b ts (is_node p.0.fits near p.0.fine) p.1
goes_good v _ j b ts p near = tt
