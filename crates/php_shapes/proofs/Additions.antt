-- Offsets, members and calls behind a node: each form of the tables is the form of its kind.
use Rattle.std.proofs.Common.{◌≡◌, true, List, [], ◌∷◌, drop, refl}
use Rattle.std.specs.Prelude.{IfSome}
use Rattle.php_tree.specs.declared.kind.NodeKind.{NodeKind}
use Rattle.php_tree.specs.declared.kind.NodeKind.TheVariants as k
use Rattle.php_tree.specs.declared.token.Token.{Token}
use Rattle.php_tree.specs.declared.version.Version.{Version}
use Rattle.php_tree.specs.declared.version.Version.TheVariants.{V74, V83}
use Rattle.php_tree.specs.Tree.{Forest, none, node}
use Rattle.php_terminals.specs.declared.terminal.Terminal.{Terminal}
use Rattle.php_terminals.specs.declared.terminal.Terminal.TheVariants as t
use Rattle.php_terminals.specs.Ahead.{first_of, is_called}
use Rattle.php_terminals.specs.Marks.{is_variable_start}
use Rattle.php_forms.specs.declared.item.Item.{Item}
use Rattle.php_forms.specs.declared.item.Item.TheVariants.{Word, Node}
use Rattle.php_forms.specs.declared.item.Sort.TheVariants as s
use Rattle.php_forms.specs.Grammar.{Form}
use Rattle.php_grammar.specs.Bases.{is_callee, is_class_base, is_member_base, is_offset_base}
use Rattle.php_grammar.specs.Levels.{level}
use Rattle.php_grammar.specs.Tails as ta
use Rattle.php_shapes.specs.Names as na
use Rattle.php_shapes.specs.Postfixes as po
use Rattle.php_shapes.specs.Forms.{form}
use Rattle.php_shapes.specs.Notation.{Rule, word, place, ◌~◌, ◌|||◌, maybe, expr, brackets, braces}
use Rattle.php_shapes.specs.Places.{Callee, MemberBase, OffsetBase, is_prefix}
use Rattle.php_shapes.specs.Shapes.{Fits, IsNode, is_place, is_both, is_second}
use Rattle.php_shapes.proofs.Entries.{Meet, entries}
use Rattle.php_shapes.proofs.Sequences.{Gives, whole}
use Rattle.php_shapes.proofs.Standing.{closed, cond_form, is_closed, is_operand, when_form}
use Rattle.php_shapes.proofs.Heads.{Headed, zero_tight}

-- ---- offsets, members and calls

-- Each node that goes on with such a form is an expression of each level.
pub record Adds (v : Version) (j : NodeKind) (b : Forest) (fm : Form) : Type 0 where
  pub adds : (f : Forest) (rest : List Token) → Meet v (entries v fm.1) f rest → Headed v fm.0 (node j b f) rest

module _ (v : Version) (j : NodeKind) (b : Forest) (n : IsNode v j b) where
  added : (k : NodeKind) (is : List Item) (a r : Rule) → is_operand k ≡ true → is_closed k ≡ true
      → ((c : Forest) → level v (k, c) ≡ 0) → Fits v a (node j b none)
      → ((c : Forest) → Fits v (a ~ r) c → Fits v (form v k) c) → Gives v (entries v is) r → Adds v j b (k, is)
  added k is a r o e low w into gives = record {
    adds = λ f rest m.
        record {
          fits = into (node j b f) (is_both w (gives f rest m) refl);
          operand = o;
          tight = λ limit. zero_tight (level v (k, node j b f)) limit (is_prefix k) (low (node j b f));
          shut = closed k (node j b f) rest e;
        };
  }

  class_base : is_class_base j ≡ true → Fits v (po.class_before v) (node j b none)
  class_base w = is_second (is_second (is_place w n))

  offset_adds : is_offset_base j ≡ true → Adds v j b ta.offset_form
  offset_adds w = added k.Offset _ (place OffsetBase) (brackets (maybe expr)) refl refl (λ c. refl) (is_place w n) (λ c p. p) (whole v (brackets (maybe expr)))

  member_adds : is_member_base j ≡ true → (ts : List Token) → Adds v j b (ta.member_tail ts)
  member_adds w ts =
      cond_form (Adds v j b) (is_called ts) _ _
      (added k.MethodCall _ (place MemberBase) (word t.Arrow ~ po.member ~ po.called) refl refl (λ c. refl)
      (is_place w n) (λ c p. p) (whole v (word t.Arrow ~ po.member ~ po.called)))
      (added k.Prop _ (place MemberBase) (word t.Arrow ~ po.member) refl refl (λ c. refl) (is_place w n) (λ c p. p) (whole v (word t.Arrow ~ po.member)))

  static_adds : is_class_base j ≡ true → (ts : List Token) → Adds v j b (ta.static_tail ts)
  static_adds w ts =
      cond_form (Adds v j b) (is_called ts) _ _
      (added k.StaticCall _ (po.class_before v) (word t.DoubleColon ~ po.member ~ po.called) refl refl (λ c. refl)
      (class_base w) (λ c p. p) (whole v (word t.DoubleColon ~ po.member ~ po.called)))
      (cond_form (Adds v j b) (is_variable_start (first_of ts)) _ _
      (added k.StaticProp _ (po.class_before v) (word t.DoubleColon ~ po.static_member) refl refl (λ c. refl)
      (class_base w) (λ c p. p) (whole v (word t.DoubleColon ~ po.static_member)))
      (added k.ClassConstant _ (po.class_before v) (word t.DoubleColon ~ word t.AnyWord) refl refl (λ c. refl)
      (class_base w) (λ c p. p) (whole v (word t.DoubleColon ~ word t.AnyWord))))

  call_adds : is_callee j ≡ true → Adds v j b (k.Call, Word t.OpenParen ∷ Node s.Args ∷ Word t.CloseParen ∷ [])
  call_adds w = added k.Call _ (na.called_name v ||| place Callee) po.called refl refl (λ c. refl) (is_second (is_place w n)) (λ c p. p) (whole v po.called)

pub brace_adds : (v : Version) (j : NodeKind) (b : Forest) → IsNode v j b → IfSome (ta.brace_tail v j) (Adds v j b)
brace_adds V74 j b n =
    when_form (Adds V74 j b) (is_offset_base j) _
    (λ w. added V74 j b n k.BraceOffset _ (place OffsetBase) (braces expr) refl refl (λ c. refl) (is_place w n)
    (λ c p. p) (whole V74 (braces expr)))
brace_adds V83 j b n = tt

pub postfix_by_adds : (v : Version) (j : NodeKind) (b : Forest) → IsNode v j b → (x : Terminal) (ts : List Token) → IfSome (ta.postfix_by v j x ts) (Adds v j b)
postfix_by_adds v j b n t.OpenBracket ts = when_form (Adds v j b) (is_offset_base j) _ (λ w. offset_adds v j b n w)
postfix_by_adds v j b n t.OpenBrace ts = brace_adds v j b n
postfix_by_adds v j b n t.Arrow ts = when_form (Adds v j b) (is_member_base j) _ (λ w. member_adds v j b n w (drop 1 ts))
postfix_by_adds v j b n t.DoubleColon ts = when_form (Adds v j b) (is_class_base j) _ (λ w. static_adds v j b n w (drop 1 ts))
postfix_by_adds v j b n t.OpenParen ts = when_form (Adds v j b) (is_callee j) _ (λ w. call_adds v j b n w)
postfix_by_adds v j b n _ ts = tt

pub postfix_adds : (v : Version) (j : NodeKind) (b : Forest) → IsNode v j b → (ts : List Token) → IfSome (ta.postfix_tail v j ts) (Adds v j b)
postfix_adds v j b n ts = postfix_by_adds v j b n (first_of ts) ts
