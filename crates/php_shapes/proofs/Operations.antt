-- Operators behind an operand: each form of the tables is that of its kind, where the operand's edge is tight enough.
use Rattle.std.proofs.Common.{◌≡◌, ℕ, ◌≤◌, Bool, true, false, cond, ◌&&◌, ◌||◌, nat_le, nat_lt, List, ◌++◌, refl, sym, ap, ◌∙◌, subst, arith}
use Rattle.std.specs.Prelude.{IfSome}
use Rattle.std.proofs.lemmas.Bool.{leb-true, or_left, or_right}
use Rattle.php_tree.specs.declared.kind.NodeKind.{NodeKind}
use Rattle.php_tree.specs.declared.kind.NodeKind.TheVariants as k
use Rattle.php_tree.specs.declared.token.Token.{Token}
use Rattle.php_tree.specs.declared.version.Version.{Version}
use Rattle.php_tree.specs.declared.version.Version.TheVariants.{V74, V83}
use Rattle.php_tree.specs.Tree.{Forest, none, node, ◌+++◌, leaves}
use Rattle.php_terminals.specs.declared.terminal.Terminal.{Terminal}
use Rattle.php_terminals.specs.declared.terminal.Terminal.TheVariants as t
use Rattle.php_terminals.specs.Ahead.{first_of, second_of}
use Rattle.php_terminals.specs.Classify.{terminal}
use Rattle.php_forms.specs.declared.item.Item.{Item}
use Rattle.php_forms.specs.Grammar.{Form}
use Rattle.php_grammar.specs.Accepts.{accepts, same_class}
use Rattle.php_grammar.specs.Bases.{is_list, is_short_ternary, is_target}
use Rattle.php_grammar.specs.Edges.{edge}
use Rattle.php_grammar.specs.Levels.{binary_items, binary_level, left_limit, level, with_right}
use Rattle.php_grammar.specs.Tails as ta
use Rattle.php_shapes.specs.Names as na
use Rattle.php_shapes.specs.Operators as op
use Rattle.php_shapes.specs.Forms.{form}
use Rattle.php_shapes.specs.Notation.{Rule, word, place, ◌~◌, ◌|||◌, expr}
use Rattle.php_shapes.specs.Places.{ClassName, Left, LeftShort, Operand, Place, Target, TargetOrList, is_expression, is_prefix, may_stand}
use Rattle.php_shapes.specs.Shapes.{Fits, IsNode, is_word, is_place, is_both, is_first, is_second}
use Rattle.php_shapes.proofs.Entries.{Meet, entries}
use Rattle.php_shapes.proofs.Sequences.{Gives, whole}
use Rattle.php_shapes.proofs.Follows.{false_is}
use Rattle.php_shapes.proofs.Standing.{Closed, closed, is_closed, is_operand, is_tight, or_else_form, when_form}
use Rattle.php_shapes.proofs.Heads.{zero_tight}

-- An expression of a level that has grown.
pub record Grown (v : Version) (limit : ℕ) (k : NodeKind) (c : Forest) (rest : List Token) : Type 0 where
  pub fits : Fits v (form v k) c
  pub operand : is_operand k ≡ true
  pub tight : is_tight v limit k c ≡ true
  pub shut : Closed k c rest

-- Each node that goes on with such a form is an expression of the level.
pub record GrowsOn (v : Version) (limit : ℕ) (j : NodeKind) (b : Forest) (ts : List Token) (fm : Form) : Type 0 where
  pub grows : (f : Forest) (rest : List Token) → ts ≡ leaves f ++ rest → Meet v (entries v fm.1) f rest → Grown v limit fm.0 (node j b f) rest

pub and_left : (b c : Bool) → (b && c) ≡ true → b ≡ true
and_left true c e = refl
and_left false c e = false_is e

pub and_right : (b c : Bool) → (b && c) ≡ true → c ≡ true
and_right true c e = e
and_right false c e = false_is e

-- an operand that is no list form is an expression
pub is_no_list : (b c : Bool) → (b || c) ≡ true → c ≡ false → b ≡ true
is_no_list true c e d = refl
is_no_list false c e d = false_is (sym d ∙ e)

too_loose : (n : ℕ) → n ≤ 24 → nat_le 25 n ≡ true → false ≡ true
too_loose n le e = absurd (omega (arith, leb-true 25 n e))

-- a left operand: its edge is tight enough, and it is no list form
module _ (v : Version) (j : NodeKind) (b : Forest) (o : is_operand j ≡ true) where
  edge_fits : (n : ℕ) → n ≤ 24 → nat_le (ta.left_edge v (j, b)) n ≡ true → (is_expression j && nat_le (edge v (j, b)) n) ≡ true
  edge_fits n le e = go (is_list j) refl e
    where
      go : (l : Bool) → is_list j ≡ l → nat_le (cond l 25 (edge v (j, b))) n ≡ true → (is_expression j && nat_le (edge v (j, b)) n) ≡ true
      go true d e = false_is (too_loose n le e)
      go false d e = ap (λ (y : Bool). y && nat_le (edge v (j, b)) n) (is_no_list (is_expression j) (is_list j) o d) ∙ e

  short_fits : (is_short : is_short_ternary j ≡ true) → nat_le (ta.left_edge v (j, b)) 18 ≡ true → may_stand v LeftShort (j, b) ≡ true
  short_fits short e = ap (λ (y : Bool). y && nat_le (edge v (j, b)) 18) short ∙ and_right (is_expression j) (nat_le (edge v (j, b)) 18) (edge_fits 18 (omega arith) e)

module _ (v : Version) (limit : ℕ) (j : NodeKind) (b : Forest) (n : IsNode v j b) (o : is_operand j ≡ true) (ts : List Token) where
  abbrev On : Form → Type 0
  On = GrowsOn v limit j b ts

  -- an assignment, which may stand behind any operator
  assigned : (k : NodeKind) (is : List Item) (p : Place) (r : Rule) → is_operand k ≡ true → is_closed k ≡ true
      → is_prefix k ≡ true → may_stand v p (j, b) ≡ true
      → ((c : Forest) → Fits v (place p ~ r) c → Fits v (form v k) c) → Gives v (entries v is) r → On (k, is)
  assigned k is p r q e d w into gives = record {
    grows = λ f rest same m.
        record {
          fits = into (node j b f) (is_both (is_place w n) (gives f rest m) refl);
          operand = q;
          tight = or_right (nat_le (level v (k, node j b f)) limit) (is_prefix k) d;
          shut = closed k (node j b f) rest e;
        };
  }

  assign_grows : (x : Terminal) → IfSome (ta.assign_tail j x) On
  assign_grows t.Ampersand =
      when_form On (is_target j) _ (λ w. assigned k.AssignRef _ Target
      (word t.Assign ~ word t.Ampersand ~ place (Operand 19)) refl refl refl w (λ c p. p)
      (whole v (word t.Assign ~ word t.Ampersand ~ place (Operand 19))))
  assign_grows _ =
      when_form On (is_target j || is_list j) _
      (λ w. assigned k.Assign _ TargetOrList (word t.Assign ~ place (Operand 19)) refl refl refl w (λ c p. p)
      (whole v (word t.Assign ~ place (Operand 19))))

  step_grows : IfSome (ta.operator_by v limit (ta.left_edge v (j, b)) j t.Step ts) On
  step_grows =
      when_form On (is_target j) _ (λ w.
      record {
        grows = λ f rest same m.
            record {
              fits = is_both (is_place w n) (whole v (word t.Step) f rest m) refl;
              operand = refl;
              tight = zero_tight (level v (k.Postfix, node j b f)) limit false refl;
              shut = closed k.Postfix (node j b f) rest refl;
            };
      })

  -- an operator of a level
  levelled : (k : NodeKind) (is : List Item) (a r : Rule) → is_operand k ≡ true → is_closed k ≡ true
      → ((f : Forest) → nat_le (level v (k, node j b f)) limit ≡ true) → Fits v a (node j b none)
      → ((c : Forest) → Fits v (a ~ r) c → Fits v (form v k) c) → Gives v (entries v is) r → On (k, is)
  levelled k is a r q e d w into gives = record {
    grows = λ f rest same m.
        record {
          fits = into (node j b f) (is_both w (gives f rest m) refl);
          operand = q;
          tight = or_left (nat_le (level v (k, node j b f)) limit) (is_prefix k) (d f);
          shut = closed k (node j b f) rest e;
        };
  }

  instance_grows : IfSome (ta.operator_by v limit (ta.left_edge v (j, b)) j t.InstanceOf ts) On
  instance_grows =
      when_form On (nat_le 4 limit && nat_le (ta.left_edge v (j, b)) 4) _ (λ w.
      levelled k.InstanceOf _ (place (Left 4)) (word t.InstanceOf ~ (na.name v ||| word t.Static ||| place ClassName)) refl refl
      (λ f. and_left (nat_le 4 limit) (nat_le (ta.left_edge v (j, b)) 4) w)
      (is_place (edge_fits v j b o 4 (omega arith) (and_right (nat_le 4 limit) (nat_le (ta.left_edge v (j, b)) 4) w)) n)
      (λ c p. p) (whole v (word t.InstanceOf ~ (na.name v ||| word t.Static ||| place ClassName))))

-- ---- ternaries

before_fits : (v : Version) (j : NodeKind) (b : Forest) → IsNode v j b → is_operand j ≡ true
    → ta.left_fits v (ta.left_edge v (j, b)) ≡ true → Fits v (place (Left (op.before_ternary v))) (node j b none)
before_fits V74 j b n o e = is_place (edge_fits V74 j b o 18 (omega arith) e) n
before_fits V83 j b n o e = is_place (edge_fits V83 j b o 17 (omega arith) e) n

short_before : (v : Version) (j : NodeKind) (b : Forest) → IsNode v j b → is_operand j ≡ true
    → ta.short_left_fits v (ta.left_edge v (j, b)) j ≡ true → Fits v
    (place (Left (op.before_ternary v)) ||| place LeftShort) (node j b none)
short_before v j b n o e = go (ta.left_fits v (ta.left_edge v (j, b))) refl e
  where
    go : (l : Bool) → ta.left_fits v (ta.left_edge v (j, b)) ≡ l
        → (l || nat_le (ta.left_edge v (j, b)) 18 && is_short_ternary j) ≡ true
        → Fits v (place (Left (op.before_ternary v)) ||| place LeftShort) (node j b none)
    go true d e = is_first (before_fits v j b n o d)
    go false d e =
        is_second (is_place (short_fits v j b o (and_right (nat_le (ta.left_edge v (j, b)) 18) (is_short_ternary j) e)
        (and_left (nat_le (ta.left_edge v (j, b)) 18) (is_short_ternary j) e)) n)

ternary_grows : (v : Version) (limit : ℕ) (j : NodeKind) (b : Forest) (n : IsNode v j b) (o : is_operand j ≡ true)
    (ts : List Token) (x : Terminal) → IfSome (ta.ternary_tail v limit (ta.left_edge v (j, b)) j x)
    (GrowsOn v limit j b ts)
ternary_grows v limit j b n o ts t.Colon =
    when_form (GrowsOn v limit j b ts) (nat_le 18 limit && ta.short_left_fits v (ta.left_edge v (j, b)) j) _ (λ w.
    levelled v limit j b n o ts k.ShortTernary _ (place (Left (op.before_ternary v)) ||| place LeftShort) (word t.Question ~ word t.Colon ~ place (Operand 17)) refl refl
    (λ f. and_left (nat_le 18 limit) (ta.short_left_fits v (ta.left_edge v (j, b)) j) w)
    (short_before v j b n o (and_right (nat_le 18 limit) (ta.short_left_fits v (ta.left_edge v (j, b)) j) w))
    (λ c p. p) (whole v (word t.Question ~ word t.Colon ~ place (Operand 17))))
ternary_grows v limit j b n o ts _ =
    when_form (GrowsOn v limit j b ts) (nat_le 18 limit && ta.left_fits v (ta.left_edge v (j, b))) _ (λ w.
    levelled v limit j b n o ts k.Ternary _ (place (Left (op.before_ternary v))) (word t.Question ~ expr ~ word t.Colon ~ place (Operand 17)) refl refl
    (λ f. and_left (nat_le 18 limit) (ta.left_fits v (ta.left_edge v (j, b))) w)
    (before_fits v j b n o (and_right (nat_le 18 limit) (ta.left_fits v (ta.left_edge v (j, b))) w))
    (λ c p. p) (whole v (word t.Question ~ expr ~ word t.Colon ~ place (Operand 17))))

chosen_grows : (v : Version) (limit : ℕ) (j : NodeKind) (b : Forest) (n : IsNode v j b) (o : is_operand j ≡ true)
    (ts : List Token) (x : Terminal) → IfSome (ta.operator_by v limit (ta.left_edge v (j, b)) j x ts)
    (GrowsOn v limit j b ts)
chosen_grows v limit j b n o ts t.Assign = assign_grows v limit j b n o ts (second_of ts)
chosen_grows v limit j b n o ts t.CompoundAssign =
    when_form (GrowsOn v limit j b ts) (is_target j) _
    (λ w. assigned v limit j b n o ts k.CompoundAssign _ Target (word t.CompoundAssign ~ place (Operand 19)) refl
    refl refl w (λ c p. p) (whole v (word t.CompoundAssign ~ place (Operand 19))))
chosen_grows v limit j b n o ts t.Step = step_grows v limit j b n o ts
chosen_grows v limit j b n o ts t.InstanceOf = instance_grows v limit j b n o ts
chosen_grows v limit j b n o ts t.Question = ternary_grows v limit j b n o ts (second_of ts)
chosen_grows v limit j b n o ts _ = tt

-- ---- operators between two operands

module _ (v : Version) (limit : ℕ) (j : NodeKind) (b : Forest) (n : IsNode v j b) (o : is_operand j ≡ true) (ts : List Token) where
  -- the operator, and the operand behind it
  right_of : (operator : Terminal) (r : ℕ) (f : Forest) (rest : List Token)
      → ((x : Token) → terminal x ≡ operator → accepts v operator x ≡ true) → first_of ts ≡ operator → ts ≡ leaves f
      ++ rest → Meet v (entries v (with_right r)) f rest → Fits v (word operator ~ place (Operand r)) f
      × (binary_level v operator ≡ level v (k.Binary, node j b f))
  right_of operator r f rest takes first same m = go m.0 m.1 m.2 (whole v (place (Operand r)) m.1 rest m.3) m.4
    where
      go : (h i : Forest) → Fits v (word t.BinaryOperator) h → Fits v (place (Operand r)) i → f ≡ h +++ i
          → Fits v (word operator ~ place (Operand r)) f × (binary_level v operator ≡ level v (k.Binary, node j b f))
      go h i (is_word {x} p) q e =
          let is : terminal x ≡ operator = sym (ap (λ (y : Forest). first_of (leaves y ++ rest)) e) ∙ sym (ap first_of same) ∙ first in
          (is_both (is_word (takes x is)) q e, ap (binary_level v) (sym is) ∙ ap (λ (y : Forest). level v (k.Binary, node j b y)) (sym e))

  between : (operator : Terminal) (l r : ℕ) → l ≤ 24
      → ((x : Token) → terminal x ≡ operator → accepts v operator x ≡ true) → first_of ts ≡ operator
      → nat_le (binary_level v operator) limit ≡ true → nat_le (ta.left_edge v (j, b)) l ≡ true
      → ((c : Forest) → Fits v (place (Left l) ~ word operator ~ place (Operand r)) c → Fits v (op.binary v) c)
      → GrowsOn v limit j b ts (k.Binary, with_right r)
  between operator l r le takes first low left into = record {
    grows = λ f rest same m.
        let q = right_of operator r f rest takes first same m in
        record {
          fits = into (node j b f) (is_both (is_place (edge_fits v j b o l le left) n) q.0 refl);
          operand = refl;
          tight = or_left (nat_le (level v (k.Binary, node j b f)) limit) false (ap (λ (y : ℕ). nat_le y limit) (sym q.1) ∙ low);
          shut = closed k.Binary (node j b f) rest refl;
        };
  }

  -- the test of an operator
  abbrev Test : Terminal → Bool
  Test operator = nat_lt 0 (binary_level v operator) && nat_le (binary_level v operator) limit && nat_le (ta.left_edge v (j, b)) (left_limit v operator)

  low_by : (operator : Terminal) → Test operator ≡ true → nat_le (binary_level v operator) limit ≡ true
  low_by operator w =
      and_right (nat_lt 0 (binary_level v operator)) (nat_le (binary_level v operator) limit)
      (and_left (nat_lt 0 (binary_level v operator) && nat_le (binary_level v operator) limit) (nat_le (ta.left_edge v (j, b)) (left_limit v operator)) w)

  left_by : (operator : Terminal) → Test operator ≡ true → nat_le (ta.left_edge v (j, b)) (left_limit v operator) ≡ true
  left_by operator w =
      and_right (nat_lt 0 (binary_level v operator) && nat_le (binary_level v operator) limit) (nat_le (ta.left_edge v (j, b)) (left_limit v operator)) w

  same_takes : (operator : Terminal) → same_class operator operator ≡ true → (x : Token) → terminal x ≡ operator → same_class operator (terminal x) ≡ true
  same_takes operator e x d = subst (λ (own : Terminal). same_class operator own ≡ true) (sym d) e

dot_grows : (v : Version) (limit : ℕ) (j : NodeKind) (b : Forest) (n : IsNode v j b) (o : is_operand j ≡ true)
    (ts : List Token) → first_of ts ≡ t.Dot → Test v limit j b n o ts t.Dot ≡ true
    → GrowsOn v limit j b ts (k.Binary, binary_items v t.Dot)
dot_grows V74 limit j b n o ts first w = between V74 limit j b n o ts t.Dot 7 6 (omega arith)
    (same_takes V74 limit j b n o ts t.Dot refl) first (low_by V74 limit j b n o ts t.Dot w)
    (left_by V74 limit j b n o ts t.Dot w) (λ c p. is_second
    (is_second (is_second (is_second (is_second (is_first p))))))
dot_grows V83 limit j b n o ts first w = between V83 limit j b n o ts t.Dot 9 8 (omega arith)
    (same_takes V83 limit j b n o ts t.Dot refl) first (low_by V83 limit j b n o ts t.Dot w)
    (left_by V83 limit j b n o ts t.Dot w) (λ c p. is_second
    (is_second (is_second (is_second (is_second (is_first p))))))

binary_grows : (v : Version) (limit : ℕ) (j : NodeKind) (b : Forest) (n : IsNode v j b) (o : is_operand j ≡ true)
    (ts : List Token) (operator : Terminal) → first_of ts ≡ operator → Test v limit j b n o ts operator ≡ true
    → GrowsOn v limit j b ts (k.Binary, binary_items v operator)
binary_grows v limit j b n o ts t.Power first w = between v limit j b n o ts t.Power 1 2 (omega arith)
    (same_takes v limit j b n o ts t.Power refl) first (low_by v limit j b n o ts t.Power w)
    (left_by v limit j b n o ts t.Power w) (λ c p. is_first p)
binary_grows v limit j b n o ts t.Factor first w = between v limit j b n o ts t.Factor 6 5 (omega arith)
    (same_takes v limit j b n o ts t.Factor refl) first (low_by v limit j b n o ts t.Factor w)
    (left_by v limit j b n o ts t.Factor w) (λ c p. is_second (is_first p))
binary_grows v limit j b n o ts t.Plus first w = between v limit j b n o ts t.Plus 7 6 (omega arith)
    (same_takes v limit j b n o ts t.Plus refl) first (low_by v limit j b n o ts t.Plus w)
    (left_by v limit j b n o ts t.Plus w) (λ c p. is_second (is_second (is_first p)))
binary_grows v limit j b n o ts t.Minus first w = between v limit j b n o ts t.Minus 7 6 (omega arith)
    (same_takes v limit j b n o ts t.Minus refl) first (low_by v limit j b n o ts t.Minus w)
    (left_by v limit j b n o ts t.Minus w) (λ c p. is_second (is_second (is_second (is_first p))))
binary_grows v limit j b n o ts t.Shift first w = between v limit j b n o ts t.Shift 8 7 (omega arith)
    (same_takes v limit j b n o ts t.Shift refl) first (low_by v limit j b n o ts t.Shift w)
    (left_by v limit j b n o ts t.Shift w) (λ c p. is_second (is_second (is_second (is_second (is_first p)))))
binary_grows v limit j b n o ts t.Dot first w = dot_grows v limit j b n o ts first w
binary_grows v limit j b n o ts t.Order first w = between v limit j b n o ts t.Order 9 9 (omega arith)
    (same_takes v limit j b n o ts t.Order refl) first (low_by v limit j b n o ts t.Order w)
    (left_by v limit j b n o ts t.Order w) (λ c p. is_second
    (is_second (is_second (is_second (is_second (is_second (is_first p)))))))
binary_grows v limit j b n o ts t.Equality first w = between v limit j b n o ts t.Equality 10 10 (omega arith)
    (same_takes v limit j b n o ts t.Equality refl) first (low_by v limit j b n o ts t.Equality w)
    (left_by v limit j b n o ts t.Equality w)
    (λ c p. is_second (is_second (is_second (is_second (is_second (is_second (is_second (is_first p))))))))
binary_grows v limit j b n o ts t.Ampersand first w = between v limit j b n o ts t.Ampersand 12 11 (omega arith)
    (same_takes v limit j b n o ts t.Ampersand refl) first (low_by v limit j b n o ts t.Ampersand w)
    (left_by v limit j b n o ts t.Ampersand w)
    (λ c p. is_second (is_second (is_second (is_second (is_second
    (is_second (is_second (is_second (is_first p)))))))))
binary_grows v limit j b n o ts t.Caret first w = between v limit j b n o ts t.Caret 13 12 (omega arith)
    (same_takes v limit j b n o ts t.Caret refl) first (low_by v limit j b n o ts t.Caret w)
    (left_by v limit j b n o ts t.Caret w) (λ c p. is_second
    (is_second (is_second (is_second (is_second (is_second (is_second (is_second (is_second (is_first p))))))))))
binary_grows v limit j b n o ts t.Bar first w = between v limit j b n o ts t.Bar 14 13 (omega arith)
    (same_takes v limit j b n o ts t.Bar refl) first (low_by v limit j b n o ts t.Bar w)
    (left_by v limit j b n o ts t.Bar w) (λ c p. is_second (is_second
    (is_second (is_second (is_second (is_second (is_second (is_second (is_second (is_second (is_first p)))))))))))
binary_grows v limit j b n o ts t.BooleanAnd first w = between v limit j b n o ts t.BooleanAnd 15 14 (omega arith)
    (same_takes v limit j b n o ts t.BooleanAnd refl) first (low_by v limit j b n o ts t.BooleanAnd w)
    (left_by v limit j b n o ts t.BooleanAnd w)
    (λ c p. is_second (is_second (is_second (is_second (is_second
    (is_second (is_second (is_second (is_second (is_second (is_second (is_first p))))))))))))
binary_grows v limit j b n o ts t.BooleanOr first w = between v limit j b n o ts t.BooleanOr 16 15 (omega arith)
    (same_takes v limit j b n o ts t.BooleanOr refl) first (low_by v limit j b n o ts t.BooleanOr w)
    (left_by v limit j b n o ts t.BooleanOr w)
    (λ c p. is_second (is_second (is_second (is_second (is_second
    (is_second (is_second (is_second (is_second (is_second (is_second (is_second (is_first p)))))))))))))
binary_grows v limit j b n o ts t.Coalesce first w = between v limit j b n o ts t.Coalesce 16 17 (omega arith)
    (same_takes v limit j b n o ts t.Coalesce refl) first (low_by v limit j b n o ts t.Coalesce w)
    (left_by v limit j b n o ts t.Coalesce w)
    (λ c p. is_second (is_second (is_second (is_second (is_second
    (is_second (is_second (is_second (is_second (is_second (is_second (is_second (is_second (is_first p))))))))))))))
binary_grows v limit j b n o ts t.And first w = between v limit j b n o ts t.And 21 20 (omega arith)
    (same_takes v limit j b n o ts t.And refl) first (low_by v limit j b n o ts t.And w)
    (left_by v limit j b n o ts t.And w) (λ c p. is_second (is_second
    (is_second (is_second (is_second (is_second (is_second (is_second
    (is_second (is_second (is_second (is_second (is_second (is_second (is_first p)))))))))))))))
binary_grows v limit j b n o ts t.Xor first w = between v limit j b n o ts t.Xor 22 21 (omega arith)
    (same_takes v limit j b n o ts t.Xor refl) first (low_by v limit j b n o ts t.Xor w)
    (left_by v limit j b n o ts t.Xor w) (λ c p. is_second (is_second
    (is_second (is_second (is_second (is_second (is_second (is_second
    (is_second (is_second (is_second (is_second (is_second (is_second (is_second (is_first p))))))))))))))))
binary_grows v limit j b n o ts t.Or first w = between v limit j b n o ts t.Or 23 22 (omega arith)
    (same_takes v limit j b n o ts t.Or refl) first (low_by v limit j b n o ts t.Or w)
    (left_by v limit j b n o ts t.Or w) (λ c p. is_second (is_second
    (is_second (is_second (is_second (is_second (is_second (is_second
    (is_second (is_second (is_second (is_second (is_second (is_second (is_second (is_second p))))))))))))))))
binary_grows v limit j b n o ts _ first w = false_is w

-- An operator behind an operand.
pub operator_grows : (v : Version) (limit : ℕ) (j : NodeKind) (b : Forest) → IsNode v j b → is_operand j ≡ true
    → (ts : List Token) → IfSome (ta.operator_tail v limit (ta.left_edge v (j, b)) j ts) (GrowsOn v limit j b ts)
operator_grows v limit j b n o ts =
    or_else_form (GrowsOn v limit j b ts) (ta.chosen_tail v limit (ta.left_edge v (j, b)) j ts) (ta.binary_tail v limit (ta.left_edge v (j, b)) (first_of ts))
    (chosen_grows v limit j b n o ts (first_of ts))
    (when_form (GrowsOn v limit j b ts) (Test v limit j b n o ts (first_of ts))
    (k.Binary, binary_items v (first_of ts)) (λ w. binary_grows v limit j b n o ts (first_of ts) refl w))
