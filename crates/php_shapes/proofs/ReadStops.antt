-- Where expressions end: no form goes on behind them.
use Rattle.std.proofs.Common.{◌≡◌, ℕ, ◌<◌, ◌≤◌, max, Bool, true, false, not, ◌&&◌, ◌||◌, List, ◌⊎◌, inl, inr, Option, None, refl, sym, ◌∙◌, nat_le, nat_lt, arith}
use Rattle.std.proofs.lemmas.Bool.{le-leb, lt-leb, lt-ltb, ltb-true, or_left, or_right, and_from}
use Rattle.php_tree.specs.declared.kind.NodeKind.{NodeKind}
use Rattle.php_tree.specs.declared.token.Token.{Token}
use Rattle.php_tree.specs.declared.version.Version.{Version}
use Rattle.php_tree.specs.Tree.{Forest, Tree, none, leaf, node, ◌+++◌}
use Rattle.php_terminals.specs.declared.terminal.Terminal.{Terminal}
use Rattle.php_terminals.specs.declared.terminal.Terminal.TheVariants as t
use Rattle.php_terminals.specs.Ahead.{first_of, second_of}
use Rattle.php_terminals.specs.Indents.{is_misindented}
use Rattle.php_forms.specs.Forms.{or_else}
use Rattle.php_forms.specs.Grammar.{Form}
use Rattle.php_grammar.specs.Bases.{is_list}
use Rattle.php_grammar.specs.Edges.{edge, edge_from}
use Rattle.php_grammar.specs.Levels.{binary_level, left_limit, level}
use Rattle.php_grammar.specs.Tails.{
  binary_tail,
  left_edge,
  operand_tail,
  operator_by,
  operator_tail,
  postfix_by,
  postfix_tail,
  chosen_tail,
  read_tail,
  refused_unless,
  ternary_tail,
}
use Rattle.php_shapes.specs.Nearest.{ends_in_yield, is_open_yield, is_to}
use Rattle.php_shapes.specs.Shapes.{IsNode, is_node}
use Rattle.php_shapes.proofs.ReadClasses.{for_all}
use Rattle.php_shapes.proofs.ReadEnds.{behind_level, behind_limit, Behind, closes_expression, Ends, is_open_for_arrow}
use Rattle.php_shapes.proofs.ReadMatch.{false_true, where_is, where_it}

pub straight : (v : Version) (j : NodeKind) (c : Forest) → IsNode v j c → is_misindented (j, c) ≡ false
straight v j c (is_node x near e) = e

-- a class before which each expression ends
abbrev pub ends_all : Terminal → Bool
ends_all c = closes_expression c || is_to c

pub closed_postfix : (v : Version) (j : NodeKind) (c : Terminal) (ts : List Token) → ends_all c ≡ true → postfix_by v j c ts ≡ None
closed_postfix v j t.OpenBracket ts e = absurd (false_true e)
closed_postfix v j t.OpenBrace ts e = absurd (false_true e)
closed_postfix v j t.Arrow ts e = absurd (false_true e)
closed_postfix v j t.DoubleColon ts e = absurd (false_true e)
closed_postfix v j t.OpenParen ts e = absurd (false_true e)
closed_postfix v j c ts e = refl

pub closed_chosen : (v : Version) (m left : ℕ) (j : NodeKind) (c : Terminal) (ts : List Token) → ends_all c ≡ true → operator_by v m left j c ts ≡ None
closed_chosen v m left j t.Assign ts e = absurd (false_true e)
closed_chosen v m left j t.CompoundAssign ts e = absurd (false_true e)
closed_chosen v m left j t.Step ts e = absurd (false_true e)
closed_chosen v m left j t.InstanceOf ts e = absurd (false_true e)
closed_chosen v m left j t.Question ts e = absurd (false_true e)
closed_chosen v m left j c ts e = refl

closed_level : (v : Version) (c : Terminal) → ends_all c ≡ true → nat_lt 0 (binary_level v c) ≡ false
closed_level v t.Power e = absurd (false_true e)
closed_level v t.Factor e = absurd (false_true e)
closed_level v t.Plus e = absurd (false_true e)
closed_level v t.Minus e = absurd (false_true e)
closed_level v t.Shift e = absurd (false_true e)
closed_level v t.Order e = absurd (false_true e)
closed_level v t.Equality e = absurd (false_true e)
closed_level v t.Ampersand e = absurd (false_true e)
closed_level v t.Caret e = absurd (false_true e)
closed_level v t.Bar e = absurd (false_true e)
closed_level v t.BooleanAnd e = absurd (false_true e)
closed_level v t.BooleanOr e = absurd (false_true e)
closed_level v t.Coalesce e = absurd (false_true e)
closed_level v t.And e = absurd (false_true e)
closed_level v t.Xor e = absurd (false_true e)
closed_level v t.Or e = absurd (false_true e)
closed_level v t.Dot e = absurd (false_true e)
closed_level v c e = refl

closed_binary : (v : Version) (m left : ℕ) (c : Terminal) → ends_all c ≡ true → binary_tail v m left c ≡ None
closed_binary v m left c e = rw (closed_level v c e) refl

-- an operator that is too loose
pub loose_postfix : (v : Version) (j : NodeKind) (c : Terminal) (ts : List Token) → 0 < behind_level v c → postfix_by v j c ts ≡ None
loose_postfix v j t.OpenBracket ts e = absurd (omega arith)
loose_postfix v j t.OpenBrace ts e = absurd (omega arith)
loose_postfix v j t.Arrow ts e = absurd (omega arith)
loose_postfix v j t.DoubleColon ts e = absurd (omega arith)
loose_postfix v j t.OpenParen ts e = absurd (omega arith)
loose_postfix v j c ts e = refl

le_false : (a b : ℕ) → b < a → nat_le a b ≡ false
le_false a b lt = lt-leb a b lt

pub le_true : (a b : ℕ) → a ≤ b → nat_le a b ≡ true
le_true a b lt = le-leb a b lt

pub lt_true : (a b : ℕ) → a < b → nat_lt a b ≡ true
lt_true a b lt = lt-ltb a b lt

pub le_trans3 : (a b c : ℕ) → a ≤ b → b ≤ c → a ≤ c
le_trans3 a b c h g = omega arith

lt_of : (x : Bool) (a b : ℕ) → nat_lt a b ≡ x → x ≡ true → a < b
lt_of x a b e h = ltb-true a b (e ∙ h)

and_false : (a c : Bool) → (a && false && c) ≡ false
and_false true c = refl
and_false false c = refl

question : (v : Version) (m left : ℕ) (j : NodeKind) (d : Terminal) → m < 18 → ternary_tail v m left j d ≡ None
question v m left j t.Colon lt = rw (le_false 18 m lt) refl
question v m left j d lt = rw (le_false 18 m lt) refl

loose_chosen : (v : Version) (m left : ℕ) (j : NodeKind) (c : Terminal) (ts : List Token) → m < behind_level v c → operator_by v m left j c ts ≡ None
loose_chosen v m left j t.Assign ts e = absurd (omega arith)
loose_chosen v m left j t.CompoundAssign ts e = absurd (omega arith)
loose_chosen v m left j t.Step ts e = absurd (omega arith)
loose_chosen v m left j t.InstanceOf ts e = rw (le_false 4 m e) refl
loose_chosen v m left j t.Question ts e = question v m left j (second_of ts) e
loose_chosen v m left j c ts e = refl

loose_level : (v : Version) (m : ℕ) (c : Terminal) → m < behind_level v c → nat_le (binary_level v c) m ≡ false ⊎ nat_lt 0 (binary_level v c) ≡ false
loose_level v m t.InstanceOf e = inr refl
loose_level v m t.Question e = inr refl
loose_level v m c e = inl (le_false (binary_level v c) m e)

loose_binary : (v : Version) (m left : ℕ) (c : Terminal) → m < behind_level v c → binary_tail v m left c ≡ None
loose_binary v m left c e = elim (loose_level v m c e) [
  | inl h ↦ rw (h, and_false (nat_lt 0 (binary_level v c)) (nat_le left (left_limit v c))) refl
  | inr h ↦ rw h refl
]

pub none_else : (a b : Option Form) → a ≡ None → b ≡ None → or_else a b ≡ None
none_else a b e f = rw (e, f) refl

read_none : (v : Version) (m : ℕ) (x : Tree) (ts : List Token) → is_misindented x ≡ false → is_list x.0 ≡ false → operand_tail v m x ts ≡ None → read_tail v m x ts ≡ None
read_none v m x ts a b h = rw a (none_else (operand_tail v m x ts) (refused_unless (not (is_list x.0))) h (rw b refl))

pub positive : (m n : ℕ) → m < n → 0 < n
positive m n lt = omega arith

pub all_closed : (v : Version) (m : ℕ) (x : Tree) (ts : List Token) → ends_all (first_of ts) ≡ true → operand_tail v m x ts ≡ None
all_closed v m x ts h = none_else (postfix_tail v x.0 ts) (operator_tail v m (left_edge v x) x.0 ts)
    (closed_postfix v x.0 (first_of ts) ts h)
    (none_else (chosen_tail v m (left_edge v x) x.0 ts) (binary_tail v m (left_edge v x) (first_of ts))
    (closed_chosen v m (left_edge v x) x.0 (first_of ts) ts h) (closed_binary v m (left_edge v x) (first_of ts) h))

all_loose : (v : Version) (m : ℕ) (x : Tree) (ts : List Token) → m < behind_level v (first_of ts) → operand_tail v m x ts ≡ None
all_loose v m x ts h = none_else (postfix_tail v x.0 ts) (operator_tail v m (left_edge v x) x.0 ts)
    (loose_postfix v x.0 (first_of ts) ts (positive m (behind_level v (first_of ts)) h))
    (none_else (chosen_tail v m (left_edge v x) x.0 ts) (binary_tail v m (left_edge v x) (first_of ts))
    (loose_chosen v m (left_edge v x) x.0 (first_of ts) ts h) (loose_binary v m (left_edge v x) (first_of ts) h))

-- An expression ends before such a token.
pub ends_here : (v : Version) (m : ℕ) (x : Tree) (ts : List Token) → is_misindented x ≡ false → is_list x.0 ≡ false → Ends v m x (first_of ts) → read_tail v m x ts ≡ None
ends_here v m x ts straight_ no_list e =
    read_none v m x ts straight_ no_list
    (elim e [
      | inl h ↦ all_closed v m x ts (or_left (closes_expression (first_of ts)) (is_to (first_of ts)) h)
      | inr h ↦ elim h [
        | inl g ↦ all_closed v m x ts (or_right (closes_expression (first_of ts)) (is_to (first_of ts)) g.0)
        | inr g ↦ all_loose v m x ts g.1
      ]
    ])

-- ---- the last operand of a node

edge_last : (v : Version) (e : ℕ) (g : Forest) (j : NodeKind) (b : Forest) → edge_from v e (g +++ node j b none) ≡ max (level v (j, b)) (edge_from v 0 b)
edge_last v e none j b = refl
edge_last v e (leaf x g) j b = edge_last v 0 g j b
edge_last v e (node i a g) j b = edge_last v (max (level v (i, a)) (edge_from v 0 a)) g j b

pub edge_of_last : (v : Version) (k0 : NodeKind) (g : Forest) (j : NodeKind) (b : Forest) → edge v (j, b) ≤ edge v (k0, g +++ node j b none)
unfolding edge
edge_of_last v k0 g j b = omega (arith, edge_last v 0 g j b)

pub level_of_node : (v : Version) (x : Tree) → level v x ≤ edge v x
unfolding edge
level_of_node v x = omega arith

arrow_last : (before : Bool) (g : Forest) (j : NodeKind) (b : Forest) → ends_in_yield before (g +++ node j b none) ≡ (is_open_yield j b || ends_in_yield false b)
arrow_last before none j b = refl
arrow_last before (leaf x g) j b = arrow_last false g j b
arrow_last before (node i a g) j b = arrow_last (is_open_yield i a || ends_in_yield false a) g j b

or_false : (a b : Bool) → (a || b) ≡ false → b ≡ false
or_false true b h = absurd (false_true (sym h))
or_false false b h = h

pub arrow_of_last : (k0 : NodeKind) (g : Forest) (j : NodeKind) (b : Forest) → is_open_for_arrow (k0, g +++ node j b none) ≡ false → is_open_for_arrow (j, b) ≡ false
arrow_of_last k0 g j b h = sym (arrow_last false g j b) ∙ or_false (is_open_yield k0 (g +++ node j b none)) (ends_in_yield false (g +++ node j b none)) h

-- no operator that an expression of a level is left of may stand in its last operand
abbrev pub looser : Version → ℕ → ℕ → Bool
looser v p m = for_all (λ c. where_it (nat_le p (behind_limit v c) && nat_lt 0 (behind_level v c)) (nat_lt m (behind_level v c)))

-- What an expression stands before, its last operand does.
pub last_ends : (v : Version) (p m : ℕ) (k0 : NodeKind) (g : Forest) (j : NodeKind) (b : Forest) (c : Terminal)
    → looser v p m ≡ true → p ≤ level v (k0, g +++ node j b none) → Behind v (k0, g +++ node j b none) c
    → Ends v m (j, b) c
last_ends v p m k0 g j b c t le e = elim e [
  | inl h ↦ inl h
  | inr h ↦ elim h [
    | inl q ↦ inr (inl (q.0, arrow_of_last k0 g j b q.1))
    | inr q ↦ inr (inr (
      le_trans3 (edge v (j, b)) (edge v (k0, g +++ node j b none)) (behind_limit v c)
          (edge_of_last v k0 g j b) q.0,
      lt_of (nat_lt m (behind_level v c)) m (behind_level v c) refl
          (where_is (λ d. nat_le p (behind_limit v d) && nat_lt 0 (behind_level v d)) (λ d. nat_lt m (behind_level v d))
          c t (and_from (nat_le p (behind_limit v c)) (nat_lt 0 (behind_level v c))
          (le_true p (behind_limit v c) (le_trans3 p (level v (k0, g +++ node j b none)) (behind_limit v c) le
          (le_trans3 (level v (k0, g +++ node j b none)) (edge v (k0, g +++ node j b none)) (behind_limit v c)
          (level_of_node v (k0, g +++ node j b none)) q.0))) (lt_true 0 (behind_level v c) q.1))),
    ))
  ]
]
