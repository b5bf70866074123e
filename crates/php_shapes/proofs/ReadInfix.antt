-- Operators between two operands.
use Rattle.std.proofs.Common.{
  ◌≡◌,
  ℕ,
  ◌<◌,
  ◌≤◌,
  Bool,
  true,
  false,
  ◌||◌,
  List,
  [],
  ◌∷◌,
  ◌++◌,
  inl,
  inr,
  Option,
  Some,
  None,
  refl,
  sym,
  ap,
  ◌∙◌,
  subst,
  nat_eq,
  nat_le,
  nat_lt,
  arith,
}
use Rattle.std.proofs.lemmas.Bool.{leb-true, lt-ltb, or_left, and_parts}
use Rattle.php_tree.specs.declared.kind.NodeKind.{NodeKind}
use Rattle.php_tree.specs.declared.kind.NodeKind.TheVariants as k
use Rattle.php_tree.specs.declared.token.Token.{Token}
use Rattle.php_tree.specs.declared.version.Version.{Version}
use Rattle.php_tree.specs.declared.version.Version.TheVariants.{V74, V83}
use Rattle.php_tree.specs.Tree.{Forest, Tree, none, leaf, node, ◌+++◌, leaves, count}
use Rattle.php_terminals.specs.declared.terminal.Terminal.{Terminal}
use Rattle.php_terminals.specs.declared.terminal.Terminal.TheVariants as t
use Rattle.php_terminals.specs.Classify.{terminal}
use Rattle.php_terminals.specs.Ahead.{first_of}
use Rattle.php_forms.specs.declared.item.Sort.TheVariants as s
use Rattle.php_forms.specs.declared.item.Item.TheVariants.{Word, Node}
use Rattle.php_forms.specs.Forms.{or_else}
use Rattle.php_forms.specs.Grammar.{Form, Walks, Grows, onward, word as a_word}
use Rattle.php_grammar.specs.Accepts.{accepts, same_class}
use Rattle.php_grammar.specs.Bases.{is_list}
use Rattle.php_grammar.specs.Edges.{edge}
use Rattle.php_grammar.specs.Levels.{binary_items, binary_level, left_limit, level}
use Rattle.php_grammar.specs.Tables.{php}
use Rattle.php_grammar.specs.Tails.{binary_tail, chosen_tail, left_edge, operand_tail, operator_by, postfix_by, postfix_tail, read_tail}
use Rattle.php_shapes.specs.Notation.{word, place, ◌~◌}
use Rattle.php_shapes.specs.Operators.{binary}
use Rattle.php_shapes.specs.Places.{Operand, Left, is_expression, is_prefix, may_stand}
use Rattle.php_shapes.specs.Shapes.{Fits, is_first, is_second, IsNode}
use Rattle.php_shapes.proofs.ReadClasses.{could, for_all, pinned, whenever}
use Rattle.php_shapes.proofs.ReadEnds.{behind_level, behind_limit, Below}
use Rattle.php_shapes.proofs.ReadMatch.{both_is, false_true, nodes_count, place_is, word_is}
use Rattle.php_shapes.proofs.ReadOperands.{Before, ends_its_chain, FitsLevel, Grown, last_operand, only_behind}
use Rattle.php_shapes.proofs.ReadStops.{le_trans3, le_true, level_of_node, looser, straight}

pub not_list : (j : NodeKind) → is_expression j ≡ true → is_list j ≡ false
not_list k.List e = absurd (false_true e)
not_list other e = refl

pub tail_is : (v : Version) (m : ℕ) (i : NodeKind) (b : Forest) (ts : List Token) (f : Form) → IsNode v i b → operand_tail v m (i, b) ts ≡ Some f → read_tail v m (i, b) ts ≡ Some f
tail_is v m i b ts f x e = rw (straight v i b x, e) refl

pub third_tail : (a b c : Option Form) (f : Form) → a ≡ None → b ≡ None → c ≡ Some f → or_else a (or_else b c) ≡ Some f
third_tail a b c f p q r = rw (p, q, r) refl

pub second_tail : (a b c : Option Form) (f : Form) → a ≡ None → b ≡ Some f → or_else a (or_else b c) ≡ Some f
second_tail a b c f p q = rw (p, q) refl

pub first_tail : (a b : Option Form) (f : Form) → a ≡ Some f → or_else a b ≡ Some f
first_tail a b f p = rw p refl

-- what is asked of an operator
pub record IsInfix (v : Version) (op : Terminal) (l p q : ℕ) : Type 0 where
  pub no_postfix : (j : NodeKind) (ts : List Token) → postfix_by v j op ts ≡ None
  pub no_chosen : (m left : ℕ) (j : NodeKind) (ts : List Token) → operator_by v m left j op ts ≡ None
  pub at_level : binary_level v op ≡ p
  pub at_limit : left_limit v op ≡ l
  pub behind_p : behind_level v op ≡ p
  pub behind_l : behind_limit v op ≡ l
  pub items : binary_items v op ≡ Word t.BinaryOperator ∷ Node (s.Operand q) ∷ []
  pub low : l ≤ p
  pub some : 0 < p
  pub free : looser v p q ≡ true
  pub same : nat_eq q q ≡ true
  pub alone_ : for_all (λ c. whenever (could v op c) (same_class op c)) ≡ true
  pub takes : (x : Token) → terminal x ≡ op → accepts v t.BinaryOperator x ≡ true

le_refl : (n : ℕ) → n ≤ n
le_refl n = omega arith

lt_true0 : (p : ℕ) → 0 < p → nat_lt 0 p ≡ true
lt_true0 p lt = lt-ltb 0 p lt

binary_is : (v : Version) (op : Terminal) (l p q : ℕ) (m left : ℕ) → IsInfix v op l p q → p ≤ m → left ≤ l
    → binary_tail v m left op ≡ Some (k.Binary, Word t.BinaryOperator ∷ Node (s.Operand q) ∷ [])
binary_is v op l p q m left i pm ll = rw (i.items, i.at_level, i.at_limit, lt_true0 p i.some, le_true p m pm, le_true left l ll) refl

binary_chain : (v : Version) → ends_its_chain v k.Binary ≡ true
unfolding for_all
binary_chain V74 = refl
binary_chain V83 = refl

fits_binary : (v : Version) (m p : ℕ) (x : Tree) → x.0 ≡ k.Binary → level v x ≡ p → FitsLevel v m x → p ≤ m
fits_binary v m p x j e h = elim h [ inl le ↦ subst (λ (z : ℕ). z ≤ m) e le | inr pre ↦ absurd (false_true (subst (λ (z : NodeKind). is_prefix z ≡ true) j pre)) ]

pub left_of : (v : Version) (l : ℕ) (i : NodeKind) (b : Forest) → may_stand v (Left l) (i, b) ≡ true → (is_expression i ≡ true) × (edge v (i, b) ≤ l)
left_of v l i b h = let q : (is_expression i ≡ true) × (nat_le (edge v (i, b)) l ≡ true) =
    and_parts (is_expression i) (nat_le (edge v (i, b)) l) h in (q.0, leb-true (edge v (i, b)) l q.1)

pub left_edge_is : (v : Version) (i : NodeKind) (b : Forest) → is_list i ≡ false → left_edge v (i, b) ≡ edge v (i, b)
left_edge_is v i b e = rw e refl

infix_at : (v : Version) (n : ℕ) → Below v n → Grown v n → (m : ℕ) (op : Terminal) (l p q : ℕ) → IsInfix v op l p q
    → (i : NodeKind) (b : Forest) (x : Token) (i' : NodeKind) (b' : Forest) (c : Forest) (rest : List Token)
    → c ≡ node i b (leaf x (node i' b' none)) → may_stand v (Left l) (i, b) ≡ true → IsNode v i b
    → accepts v op x ≡ true → may_stand v (Operand q) (i', b') ≡ true → IsNode v i' b' → count c ≤ n
    → FitsLevel v m (k.Binary, c) → Before v (k.Binary, c) (first_of rest)
    → Grows (php v) (s.Operand m) k.Binary c rest
infix_at v n below grown m op l p q is i b x i' b' c rest at st nd acc st' nd' le fl h =
    let f : Forest = leaf x (node i' b' none) in
    let ts : List Token = leaves f ++ rest in
    let tx : terminal x ≡ op = pinned v op x is.alone_ acc in
    let lq : (is_expression i ≡ true) × (edge v (i, b) ≤ l) = left_of v l i b st in
    let nl : is_list i ≡ false = not_list i lq.0 in
    let lp : level v (k.Binary, node i b f) ≡ p = ap (binary_level v) tx ∙ is.at_level in
    let pm : p ≤ m = fits_binary v m p (k.Binary, node i b f) refl lp (subst (λ (z : Forest). FitsLevel v m (k.Binary, z)) at fl) in
    let two : (count b < n) × (count f ≤ n) = nodes_count i b f n (subst (λ (z : Forest). count z ≤ n) at le) in
    let left : Grows (php v) (s.Operand m) i b ts = grown.operand m i b ts two.0
    (or_left (is_expression i) (is_list i) lq.0)
    (inl (le_trans3 (level v (i, b)) (edge v (i, b)) m (level_of_node v (i, b))
    (le_trans3 (edge v (i, b)) l m lq.1 (le_trans3 l p m is.low pm)))) nd
    (inl (
      nl,
      inr (inr (
        subst (λ (z : ℕ). edge v (i, b) ≤ z) (sym (ap (behind_limit v) tx ∙ is.behind_l)) lq.1,
        subst (λ (z : ℕ). 0 < z) (sym (ap (behind_level v) tx ∙ is.behind_p)) is.some,
      )),
    )) in
    let tail : read_tail v m (i, b) ts ≡ Some (k.Binary, Word t.BinaryOperator ∷ Node (s.Operand q) ∷ []) =
    tail_is v m i b ts (k.Binary, Word t.BinaryOperator ∷ Node (s.Operand q) ∷ []) nd
    (third_tail (postfix_tail v i ts) (chosen_tail v m (left_edge v (i, b)) i ts)
    (binary_tail v m (left_edge v (i, b)) (first_of ts))
    (k.Binary, Word t.BinaryOperator ∷ Node (s.Operand q) ∷ [])
    (subst (λ (z : Terminal). postfix_by v i z ts ≡ None) (sym tx) (is.no_postfix i ts))
    (subst (λ (z : Terminal). operator_by v m (left_edge v (i, b)) i z ts ≡ None) (sym tx) (is.no_chosen m (left_edge v (i, b)) i ts))
    (subst (λ (z : Terminal). binary_tail v m (left_edge v (i, b)) z ≡ Some
    (k.Binary, Word t.BinaryOperator ∷ Node (s.Operand q) ∷ [])) (sym tx)
    (binary_is v op l p q m (left_edge v (i, b)) is pm
    (subst (λ (z : ℕ). z ≤ l) (sym (left_edge_is v i b nl)) lq.1)))) in
    let right : Walks (php v) (Node (s.Operand q) ∷ []) (node i' b' none) rest =
    last_operand v n below p q k.Binary (node i b (leaf x none)) i' b' rest is.free is.same
    (subst (λ (z : ℕ). p ≤ z) (sym lp) (le_refl p)) ((nodes_count i' b' none n two.1).0) st' nd'
    (only_behind v k.Binary (node i b f) (first_of rest) (binary_chain v)
    (subst (λ (z : Forest). Before v (k.Binary, z) (first_of rest)) at h)) in
    subst (λ (z : Forest). Grows (php v) (s.Operand m) k.Binary z rest) (sym at)
    (onward left tail (a_word (is.takes x tx) right))

pub infix_grows : (v : Version) (n : ℕ) → Below v n → Grown v n → (m : ℕ) (op : Terminal) (l p q : ℕ)
    → IsInfix v op l p q → (c : Forest) (rest : List Token) → Fits v (place (Left l) ~ word op ~ place (Operand q)) c
    → count c ≤ n → FitsLevel v m (k.Binary, c) → Before v (k.Binary, c) (first_of rest)
    → Grows (php v) (s.Operand m) k.Binary c rest
infix_grows v n below grown m op l p q is c rest x le fl h =
    let o : (g1 : Forest) × (g2 : Forest) × Fits v (place (Left l)) g1 × Fits v (word op ~ place (Operand q)) g2
    × (c ≡ g1 +++ g2) = both_is v (place (Left l)) (word op ~ place (Operand q)) c x in
    let a : (i : NodeKind) × (b : Forest) × (o.0 ≡ node i b none) × (may_stand v (Left l) (i, b) ≡ true) × IsNode v i b = place_is v (Left l) o.0 o.2 in
    let o2 : (g1 : Forest) × (g2 : Forest) × Fits v (word op) g1 × Fits v (place (Operand q)) g2 × (o.1 ≡ g1 +++ g2) = both_is v (word op) (place (Operand q)) o.1 o.3 in
    let u : (y : Token) × (o2.0 ≡ leaf y none) × (accepts v op y ≡ true) = word_is v op o2.0 o2.2 in
    let w : (i : NodeKind) × (b : Forest) × (o2.1 ≡ node i b none) × (may_stand v (Operand q) (i, b) ≡ true) × IsNode v i b = place_is v (Operand q) o2.1 o2.3 in
    let at : c ≡ node a.0 a.1 (leaf u.0 (node w.0 w.1 none)) = o.4 ∙ ap (λ (z : Forest). z +++ o.1) a.2
    ∙ ap (λ (z : Forest). node a.0 a.1 z)
    (o2.4 ∙ ap (λ (z : Forest). z +++ o2.1) u.1 ∙ ap (λ (z : Forest). leaf u.0 z) w.2) in
    infix_at v n below grown m op l p q is a.0 a.1 u.0 w.0 w.1 c rest at a.3 a.4 u.2 w.3 w.4 le fl h

infix_Power : (v : Version) → IsInfix v t.Power 1 2 2
unfolding for_all
infix_Power V74 = record {
  no_postfix = λ j ts. refl;
  no_chosen = λ m left j ts. refl;
  at_level = refl;
  at_limit = refl;
  behind_p = refl;
  behind_l = refl;
  items = refl;
  low = omega arith;
  some = omega arith;
  free = refl;
  same = refl;
  alone_ = refl;
  takes = λ x e. rw e refl;
}
infix_Power V83 = record {
  no_postfix = λ j ts. refl;
  no_chosen = λ m left j ts. refl;
  at_level = refl;
  at_limit = refl;
  behind_p = refl;
  behind_l = refl;
  items = refl;
  low = omega arith;
  some = omega arith;
  free = refl;
  same = refl;
  alone_ = refl;
  takes = λ x e. rw e refl;
}

infix_Factor : (v : Version) → IsInfix v t.Factor 6 6 5
unfolding for_all
infix_Factor V74 = record {
  no_postfix = λ j ts. refl;
  no_chosen = λ m left j ts. refl;
  at_level = refl;
  at_limit = refl;
  behind_p = refl;
  behind_l = refl;
  items = refl;
  low = omega arith;
  some = omega arith;
  free = refl;
  same = refl;
  alone_ = refl;
  takes = λ x e. rw e refl;
}
infix_Factor V83 = record {
  no_postfix = λ j ts. refl;
  no_chosen = λ m left j ts. refl;
  at_level = refl;
  at_limit = refl;
  behind_p = refl;
  behind_l = refl;
  items = refl;
  low = omega arith;
  some = omega arith;
  free = refl;
  same = refl;
  alone_ = refl;
  takes = λ x e. rw e refl;
}

infix_Plus : (v : Version) → IsInfix v t.Plus 7 7 6
unfolding for_all
infix_Plus V74 = record {
  no_postfix = λ j ts. refl;
  no_chosen = λ m left j ts. refl;
  at_level = refl;
  at_limit = refl;
  behind_p = refl;
  behind_l = refl;
  items = refl;
  low = omega arith;
  some = omega arith;
  free = refl;
  same = refl;
  alone_ = refl;
  takes = λ x e. rw e refl;
}
infix_Plus V83 = record {
  no_postfix = λ j ts. refl;
  no_chosen = λ m left j ts. refl;
  at_level = refl;
  at_limit = refl;
  behind_p = refl;
  behind_l = refl;
  items = refl;
  low = omega arith;
  some = omega arith;
  free = refl;
  same = refl;
  alone_ = refl;
  takes = λ x e. rw e refl;
}

infix_Minus : (v : Version) → IsInfix v t.Minus 7 7 6
unfolding for_all
infix_Minus V74 = record {
  no_postfix = λ j ts. refl;
  no_chosen = λ m left j ts. refl;
  at_level = refl;
  at_limit = refl;
  behind_p = refl;
  behind_l = refl;
  items = refl;
  low = omega arith;
  some = omega arith;
  free = refl;
  same = refl;
  alone_ = refl;
  takes = λ x e. rw e refl;
}
infix_Minus V83 = record {
  no_postfix = λ j ts. refl;
  no_chosen = λ m left j ts. refl;
  at_level = refl;
  at_limit = refl;
  behind_p = refl;
  behind_l = refl;
  items = refl;
  low = omega arith;
  some = omega arith;
  free = refl;
  same = refl;
  alone_ = refl;
  takes = λ x e. rw e refl;
}

infix_Shift : (v : Version) → IsInfix v t.Shift 8 8 7
unfolding for_all
infix_Shift V74 = record {
  no_postfix = λ j ts. refl;
  no_chosen = λ m left j ts. refl;
  at_level = refl;
  at_limit = refl;
  behind_p = refl;
  behind_l = refl;
  items = refl;
  low = omega arith;
  some = omega arith;
  free = refl;
  same = refl;
  alone_ = refl;
  takes = λ x e. rw e refl;
}
infix_Shift V83 = record {
  no_postfix = λ j ts. refl;
  no_chosen = λ m left j ts. refl;
  at_level = refl;
  at_limit = refl;
  behind_p = refl;
  behind_l = refl;
  items = refl;
  low = omega arith;
  some = omega arith;
  free = refl;
  same = refl;
  alone_ = refl;
  takes = λ x e. rw e refl;
}

infix_Dot_V74 : IsInfix V74 t.Dot 7 7 6
unfolding for_all
infix_Dot_V74 = record {
  no_postfix = λ j ts. refl;
  no_chosen = λ m left j ts. refl;
  at_level = refl;
  at_limit = refl;
  behind_p = refl;
  behind_l = refl;
  items = refl;
  low = omega arith;
  some = omega arith;
  free = refl;
  same = refl;
  alone_ = refl;
  takes = λ x e. rw e refl;
}

infix_Dot_V83 : IsInfix V83 t.Dot 9 9 8
unfolding for_all
infix_Dot_V83 = record {
  no_postfix = λ j ts. refl;
  no_chosen = λ m left j ts. refl;
  at_level = refl;
  at_limit = refl;
  behind_p = refl;
  behind_l = refl;
  items = refl;
  low = omega arith;
  some = omega arith;
  free = refl;
  same = refl;
  alone_ = refl;
  takes = λ x e. rw e refl;
}

infix_Order : (v : Version) → IsInfix v t.Order 9 10 9
unfolding for_all
infix_Order V74 = record {
  no_postfix = λ j ts. refl;
  no_chosen = λ m left j ts. refl;
  at_level = refl;
  at_limit = refl;
  behind_p = refl;
  behind_l = refl;
  items = refl;
  low = omega arith;
  some = omega arith;
  free = refl;
  same = refl;
  alone_ = refl;
  takes = λ x e. rw e refl;
}
infix_Order V83 = record {
  no_postfix = λ j ts. refl;
  no_chosen = λ m left j ts. refl;
  at_level = refl;
  at_limit = refl;
  behind_p = refl;
  behind_l = refl;
  items = refl;
  low = omega arith;
  some = omega arith;
  free = refl;
  same = refl;
  alone_ = refl;
  takes = λ x e. rw e refl;
}

infix_Equality : (v : Version) → IsInfix v t.Equality 10 11 10
unfolding for_all
infix_Equality V74 = record {
  no_postfix = λ j ts. refl;
  no_chosen = λ m left j ts. refl;
  at_level = refl;
  at_limit = refl;
  behind_p = refl;
  behind_l = refl;
  items = refl;
  low = omega arith;
  some = omega arith;
  free = refl;
  same = refl;
  alone_ = refl;
  takes = λ x e. rw e refl;
}
infix_Equality V83 = record {
  no_postfix = λ j ts. refl;
  no_chosen = λ m left j ts. refl;
  at_level = refl;
  at_limit = refl;
  behind_p = refl;
  behind_l = refl;
  items = refl;
  low = omega arith;
  some = omega arith;
  free = refl;
  same = refl;
  alone_ = refl;
  takes = λ x e. rw e refl;
}

infix_Ampersand : (v : Version) → IsInfix v t.Ampersand 12 12 11
unfolding for_all
infix_Ampersand V74 = record {
  no_postfix = λ j ts. refl;
  no_chosen = λ m left j ts. refl;
  at_level = refl;
  at_limit = refl;
  behind_p = refl;
  behind_l = refl;
  items = refl;
  low = omega arith;
  some = omega arith;
  free = refl;
  same = refl;
  alone_ = refl;
  takes = λ x e. rw e refl;
}
infix_Ampersand V83 = record {
  no_postfix = λ j ts. refl;
  no_chosen = λ m left j ts. refl;
  at_level = refl;
  at_limit = refl;
  behind_p = refl;
  behind_l = refl;
  items = refl;
  low = omega arith;
  some = omega arith;
  free = refl;
  same = refl;
  alone_ = refl;
  takes = λ x e. rw e refl;
}

infix_Caret : (v : Version) → IsInfix v t.Caret 13 13 12
unfolding for_all
infix_Caret V74 = record {
  no_postfix = λ j ts. refl;
  no_chosen = λ m left j ts. refl;
  at_level = refl;
  at_limit = refl;
  behind_p = refl;
  behind_l = refl;
  items = refl;
  low = omega arith;
  some = omega arith;
  free = refl;
  same = refl;
  alone_ = refl;
  takes = λ x e. rw e refl;
}
infix_Caret V83 = record {
  no_postfix = λ j ts. refl;
  no_chosen = λ m left j ts. refl;
  at_level = refl;
  at_limit = refl;
  behind_p = refl;
  behind_l = refl;
  items = refl;
  low = omega arith;
  some = omega arith;
  free = refl;
  same = refl;
  alone_ = refl;
  takes = λ x e. rw e refl;
}

infix_Bar : (v : Version) → IsInfix v t.Bar 14 14 13
unfolding for_all
infix_Bar V74 = record {
  no_postfix = λ j ts. refl;
  no_chosen = λ m left j ts. refl;
  at_level = refl;
  at_limit = refl;
  behind_p = refl;
  behind_l = refl;
  items = refl;
  low = omega arith;
  some = omega arith;
  free = refl;
  same = refl;
  alone_ = refl;
  takes = λ x e. rw e refl;
}
infix_Bar V83 = record {
  no_postfix = λ j ts. refl;
  no_chosen = λ m left j ts. refl;
  at_level = refl;
  at_limit = refl;
  behind_p = refl;
  behind_l = refl;
  items = refl;
  low = omega arith;
  some = omega arith;
  free = refl;
  same = refl;
  alone_ = refl;
  takes = λ x e. rw e refl;
}

infix_BooleanAnd : (v : Version) → IsInfix v t.BooleanAnd 15 15 14
unfolding for_all
infix_BooleanAnd V74 = record {
  no_postfix = λ j ts. refl;
  no_chosen = λ m left j ts. refl;
  at_level = refl;
  at_limit = refl;
  behind_p = refl;
  behind_l = refl;
  items = refl;
  low = omega arith;
  some = omega arith;
  free = refl;
  same = refl;
  alone_ = refl;
  takes = λ x e. rw e refl;
}
infix_BooleanAnd V83 = record {
  no_postfix = λ j ts. refl;
  no_chosen = λ m left j ts. refl;
  at_level = refl;
  at_limit = refl;
  behind_p = refl;
  behind_l = refl;
  items = refl;
  low = omega arith;
  some = omega arith;
  free = refl;
  same = refl;
  alone_ = refl;
  takes = λ x e. rw e refl;
}

infix_BooleanOr : (v : Version) → IsInfix v t.BooleanOr 16 16 15
unfolding for_all
infix_BooleanOr V74 = record {
  no_postfix = λ j ts. refl;
  no_chosen = λ m left j ts. refl;
  at_level = refl;
  at_limit = refl;
  behind_p = refl;
  behind_l = refl;
  items = refl;
  low = omega arith;
  some = omega arith;
  free = refl;
  same = refl;
  alone_ = refl;
  takes = λ x e. rw e refl;
}
infix_BooleanOr V83 = record {
  no_postfix = λ j ts. refl;
  no_chosen = λ m left j ts. refl;
  at_level = refl;
  at_limit = refl;
  behind_p = refl;
  behind_l = refl;
  items = refl;
  low = omega arith;
  some = omega arith;
  free = refl;
  same = refl;
  alone_ = refl;
  takes = λ x e. rw e refl;
}

infix_Coalesce : (v : Version) → IsInfix v t.Coalesce 16 17 17
unfolding for_all
infix_Coalesce V74 = record {
  no_postfix = λ j ts. refl;
  no_chosen = λ m left j ts. refl;
  at_level = refl;
  at_limit = refl;
  behind_p = refl;
  behind_l = refl;
  items = refl;
  low = omega arith;
  some = omega arith;
  free = refl;
  same = refl;
  alone_ = refl;
  takes = λ x e. rw e refl;
}
infix_Coalesce V83 = record {
  no_postfix = λ j ts. refl;
  no_chosen = λ m left j ts. refl;
  at_level = refl;
  at_limit = refl;
  behind_p = refl;
  behind_l = refl;
  items = refl;
  low = omega arith;
  some = omega arith;
  free = refl;
  same = refl;
  alone_ = refl;
  takes = λ x e. rw e refl;
}

infix_And : (v : Version) → IsInfix v t.And 21 21 20
unfolding for_all
infix_And V74 = record {
  no_postfix = λ j ts. refl;
  no_chosen = λ m left j ts. refl;
  at_level = refl;
  at_limit = refl;
  behind_p = refl;
  behind_l = refl;
  items = refl;
  low = omega arith;
  some = omega arith;
  free = refl;
  same = refl;
  alone_ = refl;
  takes = λ x e. rw e refl;
}
infix_And V83 = record {
  no_postfix = λ j ts. refl;
  no_chosen = λ m left j ts. refl;
  at_level = refl;
  at_limit = refl;
  behind_p = refl;
  behind_l = refl;
  items = refl;
  low = omega arith;
  some = omega arith;
  free = refl;
  same = refl;
  alone_ = refl;
  takes = λ x e. rw e refl;
}

infix_Xor : (v : Version) → IsInfix v t.Xor 22 22 21
unfolding for_all
infix_Xor V74 = record {
  no_postfix = λ j ts. refl;
  no_chosen = λ m left j ts. refl;
  at_level = refl;
  at_limit = refl;
  behind_p = refl;
  behind_l = refl;
  items = refl;
  low = omega arith;
  some = omega arith;
  free = refl;
  same = refl;
  alone_ = refl;
  takes = λ x e. rw e refl;
}
infix_Xor V83 = record {
  no_postfix = λ j ts. refl;
  no_chosen = λ m left j ts. refl;
  at_level = refl;
  at_limit = refl;
  behind_p = refl;
  behind_l = refl;
  items = refl;
  low = omega arith;
  some = omega arith;
  free = refl;
  same = refl;
  alone_ = refl;
  takes = λ x e. rw e refl;
}

infix_Or : (v : Version) → IsInfix v t.Or 23 23 22
unfolding for_all
infix_Or V74 = record {
  no_postfix = λ j ts. refl;
  no_chosen = λ m left j ts. refl;
  at_level = refl;
  at_limit = refl;
  behind_p = refl;
  behind_l = refl;
  items = refl;
  low = omega arith;
  some = omega arith;
  free = refl;
  same = refl;
  alone_ = refl;
  takes = λ x e. rw e refl;
}
infix_Or V83 = record {
  no_postfix = λ j ts. refl;
  no_chosen = λ m left j ts. refl;
  at_level = refl;
  at_limit = refl;
  behind_p = refl;
  behind_l = refl;
  items = refl;
  low = omega arith;
  some = omega arith;
  free = refl;
  same = refl;
  alone_ = refl;
  takes = λ x e. rw e refl;
}

pub binaries_grow : (v : Version) (n : ℕ) → Below v n → Grown v n → (m : ℕ) (c : Forest) (rest : List Token)
    → Fits v (binary v) c → count c ≤ n → FitsLevel v m (k.Binary, c) → Before v (k.Binary, c) (first_of rest)
    → Grows (php v) (s.Operand m) k.Binary c rest
binaries_grow v n below grown m c rest (is_first x) le fl h = infix_grows v n below grown m t.Power 1 2 2 (infix_Power v) c rest x le fl h
binaries_grow v n below grown m c rest (is_second (is_first x)) le fl h = infix_grows v n below grown m t.Factor 6 6 5 (infix_Factor v) c rest x le fl h
binaries_grow v n below grown m c rest (is_second (is_second (is_first x))) le fl h = infix_grows v n below grown m t.Plus 7 7 6 (infix_Plus v) c rest x le fl h
binaries_grow v n below grown m c rest (is_second (is_second (is_second (is_first x)))) le fl h = infix_grows v n below grown m t.Minus 7 7 6 (infix_Minus v) c rest x le fl h
binaries_grow v n below grown m c rest (is_second (is_second (is_second (is_second (is_first x))))) le fl h =
    infix_grows v n below grown m t.Shift 8 8 7 (infix_Shift v) c rest x le fl h
binaries_grow V74 n below grown m c rest (is_second (is_second (is_second (is_second (is_second (is_first x)))))) le
    fl h = infix_grows V74 n below grown m t.Dot 7 7 6 infix_Dot_V74 c rest x le fl h
binaries_grow V83 n below grown m c rest (is_second (is_second (is_second (is_second (is_second (is_first x)))))) le
    fl h = infix_grows V83 n below grown m t.Dot 9 9 8 infix_Dot_V83 c rest x le fl h
binaries_grow v n below grown m c rest (is_second (is_second
    (is_second (is_second (is_second (is_second (is_first x))))))) le fl h =
    infix_grows v n below grown m t.Order 9 10 9 (infix_Order v) c rest x le fl h
binaries_grow v n below grown m c rest (is_second (is_second
    (is_second (is_second (is_second (is_second (is_second (is_first x)))))))) le fl h =
    infix_grows v n below grown m t.Equality 10 11 10 (infix_Equality v) c rest x le fl h
binaries_grow v n below grown m c rest (is_second (is_second
    (is_second (is_second (is_second (is_second (is_second (is_second (is_first x))))))))) le fl h =
    infix_grows v n below grown m t.Ampersand 12 12 11 (infix_Ampersand v) c rest x le fl h
binaries_grow v n below grown m c rest (is_second (is_second
    (is_second (is_second (is_second (is_second (is_second (is_second (is_second (is_first x)))))))))) le fl h =
    infix_grows v n below grown m t.Caret 13 13 12 (infix_Caret v) c rest x le fl h
binaries_grow v n below grown m c rest (is_second (is_second
    (is_second (is_second (is_second (is_second (is_second (is_second (is_second (is_second (is_first x))))))))))) le
    fl h = infix_grows v n below grown m t.Bar 14 14 13 (infix_Bar v) c rest x le fl h
binaries_grow v n below grown m c rest (is_second (is_second
    (is_second (is_second (is_second (is_second (is_second (is_second
    (is_second (is_second (is_second (is_first x)))))))))))) le fl h =
    infix_grows v n below grown m t.BooleanAnd 15 15 14 (infix_BooleanAnd v) c rest x le fl h
binaries_grow v n below grown m c rest (is_second (is_second
    (is_second (is_second (is_second (is_second (is_second (is_second
    (is_second (is_second (is_second (is_second (is_first x))))))))))))) le fl h =
    infix_grows v n below grown m t.BooleanOr 16 16 15 (infix_BooleanOr v) c rest x le fl h
binaries_grow v n below grown m c rest (is_second (is_second
    (is_second (is_second (is_second (is_second (is_second (is_second
    (is_second (is_second (is_second (is_second (is_second (is_first x)))))))))))))) le fl h =
    infix_grows v n below grown m t.Coalesce 16 17 17 (infix_Coalesce v) c rest x le fl h
binaries_grow v n below grown m c rest (is_second (is_second
    (is_second (is_second (is_second (is_second (is_second (is_second
    (is_second (is_second (is_second (is_second (is_second (is_second (is_first x))))))))))))))) le fl h =
    infix_grows v n below grown m t.And 21 21 20 (infix_And v) c rest x le fl h
binaries_grow v n below grown m c rest (is_second (is_second
    (is_second (is_second (is_second (is_second (is_second (is_second
    (is_second (is_second (is_second (is_second (is_second (is_second (is_second (is_first x)))))))))))))))) le fl h =
    infix_grows v n below grown m t.Xor 22 22 21 (infix_Xor v) c rest x le fl h
binaries_grow v n below grown m c rest (is_second (is_second
    (is_second (is_second (is_second (is_second (is_second (is_second
    (is_second (is_second (is_second (is_second (is_second (is_second (is_second (is_second x)))))))))))))))) le fl h
    = infix_grows v n below grown m t.Or 23 23 22 (infix_Or v) c rest x le fl h
