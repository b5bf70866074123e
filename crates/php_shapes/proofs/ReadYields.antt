-- `yield`.
use Rattle.std.proofs.Common.{
  ◌≡◌,
  ℕ,
  ◌<◌,
  ◌≤◌,
  Bool,
  true,
  false,
  ◌||◌,
  List,
  [],
  ◌∷◌,
  ◌++◌,
  inl,
  inr,
  Some,
  None,
  refl,
  sym,
  ap,
  ◌∙◌,
  subst,
  nat_le,
  append_assoc,
  append-nil,
  arith,
}
use Rattle.php_tree.specs.declared.kind.NodeKind.{NodeKind}
use Rattle.php_tree.specs.declared.kind.NodeKind.TheVariants as k
use Rattle.php_tree.specs.declared.token.Token.{Token}
use Rattle.php_tree.specs.declared.version.Version.{Version}
use Rattle.php_tree.specs.declared.version.Version.TheVariants.{V74, V83}
use Rattle.php_tree.specs.Tree.{Forest, none, leaf, node, ◌+++◌, leaves, count}
use Rattle.php_terminals.specs.declared.terminal.Terminal.{Terminal}
use Rattle.php_terminals.specs.declared.terminal.Terminal.TheVariants as t
use Rattle.php_terminals.specs.Classify.{terminal}
use Rattle.php_terminals.specs.Ahead.{first_of}
use Rattle.php_forms.specs.declared.item.Sort.TheVariants as s
use Rattle.php_forms.specs.declared.item.Group.TheVariants as g
use Rattle.php_forms.specs.declared.item.Item.TheVariants.{Word, Node, Part}
use Rattle.php_forms.specs.Grammar.{Form, Walks, Grows, Spells, ends, child, head, onward, word as a_word}
use Rattle.php_grammar.specs.Accepts.{accepts, same_class}
use Rattle.php_grammar.specs.Levels.{level}
use Rattle.php_grammar.specs.Operands.{operand_form}
use Rattle.php_grammar.specs.Tables.{php, parts}
use Rattle.php_shapes.specs.Nearest.{arrows_are_nearest, ends_in_yield, is_nearest, is_to}
use Rattle.php_shapes.specs.Notation.{word, place, ◌~◌, maybe}
use Rattle.php_shapes.specs.Places.{Operand, may_stand}
use Rattle.php_shapes.specs.Shapes.{Fits, is_first, is_second, IsNode}
use Rattle.php_shapes.proofs.ReadClasses.{everywhere, for_all}
use Rattle.php_shapes.proofs.ReadEnds.{Behind, Below, closes_expression, is_open_for_arrow}
use Rattle.php_shapes.proofs.ReadMatch.{both_is, false_true, nodes_count, nothing_is, place_is, word_is}
use Rattle.php_shapes.proofs.ReadOperands.{Before, ends_its_chain, first_is, last_operand, only_behind, only_class}
use Rattle.php_shapes.proofs.ReadStops.{last_ends, looser}
use Rattle.php_forms.specs.Atoms.{yield_to}
use Rattle.php_grammar.specs.Edges.{edge}
use Rattle.php_shapes.specs.Nearest.{elses_are_nearest, is_yield}
use Rattle.php_shapes.specs.Operators.{yield}
use Rattle.php_shapes.proofs.ReadEnds.{behind_level, behind_limit}
use Rattle.php_shapes.proofs.ReadOperands.{only_first, prefixed}
use Rattle.php_shapes.proofs.ReadPrefixes.{alone_class, word_test}
use Rattle.php_shapes.proofs.ReadVariables.{before_arrow, group_alone}
use Rattle.php_shapes.proofs.ReadStops.{ends_all}
use Rattle.std.proofs.lemmas.Bool.{leb-true, or_left, or_right, and_parts}

yield_facts : (v : Version) → (looser v 20 20 ≡ true) × (ends_its_chain v k.Yield ≡ true)
    × (only_class v (word t.Yield) t.Yield ≡ true)
    × (only_class v (word t.DoubleArrow ~ place (Operand 20)) t.DoubleArrow ≡ true)
unfolding for_all
yield_facts V74 = (refl, refl, refl, refl)
yield_facts V83 = (refl, refl, refl, refl)

from_word : (v : Version) → word_test v t.YieldFrom (λ c. same_class c t.YieldFrom) ≡ true
unfolding for_all
from_word V74 = refl
from_word V83 = refl

from_form : (v : Version) (us : List Token) → only_first v t.YieldFrom us → operand_form v us ≡ Some (k.Yield, Word t.YieldFrom ∷ Node (s.Operand 20) ∷ [])
from_form v [] e = absurd e
from_form v (x ∷ xs) e = rw (alone_class v t.YieldFrom x (from_word v) e) refl

yield_level : (v : Version) (x : Token) (f : Forest) → 20 ≤ level v (k.Yield, leaf x f)
yield_level v x none = omega arith
yield_level v x (leaf y f) = omega arith
yield_level v x (node j b f) = omega arith

from_grows : (v : Version) (n : ℕ) → Below v n → (m : ℕ) (c : Forest) (rest : List Token)
    → Fits v (word t.YieldFrom ~ place (Operand 20)) c → count c ≤ n → Before v (k.Yield, c) (first_of rest)
    → Grows (php v) (s.Operand m) k.Yield c rest
from_grows v n below m c rest x le h = prefixed v n below m 20 20 k.Yield t.YieldFrom c rest ((yield_facts v).0) refl
    ((yield_facts v).1) (λ y f e. yield_level v y f) (from_form v) x le h

-- ---- a `yield` alone

yield_form : (v : Version) (ts : List Token) → first_of ts ≡ t.Yield → operand_form v ts ≡ Some (k.Yield, Word t.Yield ∷ Part g.YieldValue ∷ [])
yield_form v ts e = rw e refl

none_at : (v : Version) (us : List Token) (c : Terminal) → first_of us ≡ c → ends_all c ≡ true → operand_form v us ≡ None
none_at v us t.Semi e h = rw e refl
none_at v us t.Comma e h = rw e refl
none_at v us t.CloseParen e h = rw e refl
none_at v us t.CloseBracket e h = rw e refl
none_at v us t.CloseBrace e h = rw e refl
none_at v us t.Colon e h = rw e refl
none_at v us t.As e h = rw e refl
none_at v us t.DoubleArrow e h = rw e refl
none_at v us t.End e h = rw e refl
none_at v us c e h = absurd (false_true h)

low_limits : (v : Version) → for_all (λ c. nat_le (behind_limit v c) 24) ≡ true
unfolding for_all
low_limits V74 = refl
low_limits V83 = refl

bare_edge : (v : Version) (x : Token) → 25 ≤ edge v (k.Yield, leaf x none)
unfolding edge
bare_edge v x = omega arith

too_loose : (e l : ℕ) → 25 ≤ e → e ≤ l → nat_le l 24 ≡ true → ⊥
too_loose e l a b c = absurd_of (leb-true l 24 c)
  where
    absurd_of : l ≤ 24 → ⊥
    absurd_of h = omega arith

bare_behind : (v : Version) (x : Token) (c : Terminal) → Behind v (k.Yield, leaf x none) c → ends_all c ≡ true
bare_behind v x c e = elim e [
  | inl h ↦ or_left (closes_expression c) (is_to c) h
  | inr h ↦ elim h [
    | inl q ↦ or_right (closes_expression c) (is_to c) q.0
    | inr q ↦ absurd (too_loose (edge v (k.Yield, leaf x none)) (behind_limit v c) (bare_edge v x) q.0 (everywhere (λ d. nat_le (behind_limit v d) 24) (low_limits v) c))
  ]
]

no_value_here : (v : Version) (us : List Token) → operand_form v us ≡ None → parts v g.YieldValue us ≡ []
no_value_here v us e = rw e refl

bare_grows : (v : Version) (m : ℕ) (c : Forest) (rest : List Token) → Fits v (word t.Yield) c → Before v (k.Yield, c) (first_of rest) → Grows (php v) (s.Operand m) k.Yield c rest
bare_grows v m c rest x h =
    let u : (y : Token) × (c ≡ leaf y none) × (accepts v t.Yield y ≡ true) = word_is v t.Yield c x in
    let e : ends_all (first_of rest) ≡ true = bare_behind v u.0 (first_of rest)
    (only_behind v k.Yield (leaf u.0 none) (first_of rest) ((yield_facts v).1)
    (subst (λ (z : Forest). Before v (k.Yield, z) (first_of rest)) u.1 h)) in
    head (yield_form v (leaves c ++ rest) (first_is v (word t.Yield) t.Yield c rest ((yield_facts v).2) refl x))
    (subst (λ (z : Forest). Walks (php v) (Word t.Yield ∷ Part g.YieldValue ∷ []) z rest) (sym u.1)
    (a_word u.2 (group_alone v g.YieldValue [] none rest (no_value_here v rest (none_at v rest (first_of rest) refl e)) ends)))

-- ---- with a value

-- an operand begins with a form
pub begins_form : (v : Version) {m : ℕ} {j : NodeKind} {c : Forest} {rest : List Token}
    → Grows (php v) (s.Operand m) j c rest → (f : Form) × (operand_form v (leaves c ++ rest) ≡ Some f)
begins_form v (head {k = j} {is = is} e w) = ((j, is), e)
begins_form v (onward {b = b} {f = f} {rest = rest} gr e w) =
    let q : (x : Form) × (operand_form v (leaves b ++ (leaves f ++ rest)) ≡ Some x) = begins_form v gr in
    (q.0, ap (operand_form v) (append_assoc (leaves b) (leaves f) rest) ∙ q.1)

a_value_here : (v : Version) (us : List Token) (f : Form) → operand_form v us ≡ Some f → parts v g.YieldValue us ≡ Node (s.Operand 20) ∷ Part g.YieldTo ∷ []
a_value_here v us f e = rw e refl

not_to : (c : Terminal) → is_to c ≡ false → yield_to c ≡ []
not_to t.DoubleArrow e = absurd (false_true (sym e))
not_to c e = refl

to_it : (v : Version) (us : List Token) → first_of us ≡ t.DoubleArrow → parts v g.YieldTo us ≡ Word t.DoubleArrow ∷ Node (s.Operand 20) ∷ []
to_it v us e = rw e refl

closed_no_to : (c : Terminal) → closes_expression c ≡ true → is_to c ≡ false
closed_no_to t.DoubleArrow e = absurd (false_true e)
closed_no_to c e = refl

loose_no_to : (v : Version) (c : Terminal) → 0 < behind_level v c → is_to c ≡ false
loose_no_to v t.DoubleArrow e = absurd (omega arith)
loose_no_to v c e = refl

true_or : (a b : Bool) → a ≡ true → (a || b) ≡ false → ⊥
true_or true b e h = false_true (sym h)
true_or false b e h = false_true e

open_value : (v : Version) (x : Token) (i : NodeKind) (b : Forest) (c : Terminal) → terminal x ≡ t.Yield → Behind v (k.Yield, leaf x (node i b none)) c → is_to c ≡ false
open_value v x i b c tx e = elim e [
  | inl h ↦ closed_no_to c h
  | inr h ↦ elim h [
    | inl q ↦ absurd (true_or (is_yield (terminal x)) (ends_in_yield false (leaf x (node i b none))) (ap is_yield tx) q.1)
    | inr q ↦ loose_no_to v c q.1
  ]
]

value_walks : (v : Version) (n : ℕ) → Below v n → (x : Token) (i : NodeKind) (b f : Forest) (rest : List Token)
    → terminal x ≡ t.Yield → may_stand v (Operand 20) (i, b) ≡ true → IsNode v i b
    → arrows_are_nearest false (node i b f) ≡ true → Fits v (maybe (word t.DoubleArrow ~ place (Operand 20))) f
    → count (node i b f) ≤ n → Behind v (k.Yield, leaf x (node i b f)) (first_of rest)
    → Walks (php v) (Part g.YieldValue ∷ []) (node i b f) rest
value_walks v n below x i b f rest tx st nd near (is_first y) le h =
    let e : f ≡ none = nothing_is v f y in
    let h' : Behind v (k.Yield, leaf x (node i b none)) (first_of rest) = subst (λ (z : Forest). Behind v (k.Yield, leaf x (node i b z)) (first_of rest)) e h in
    let w : Spells (php v) (s.Operand 20) (i, b) rest = below.placed (Operand 20) (s.Operand 20) i b rest refl
    ((nodes_count i b f n le).0) st nd (last_ends v 20 20 k.Yield (leaf x none) i b (first_of rest)
    ((yield_facts v).0) (yield_level v x (node i b none)) h') in
    let q : (p : Form) × (operand_form v (leaves b ++ rest) ≡ Some p) = begins_form v w.0 in
    subst (λ (z : Forest). Walks (php v) (Part g.YieldValue ∷ []) (node i b z) rest) (sym e)
    (group_alone v g.YieldValue (Node (s.Operand 20) ∷ Part g.YieldTo ∷ []) (node i b none) rest
    (a_value_here v (leaves (node i b none) ++ rest) q.0
    (ap (λ (z : List Token). operand_form v (z ++ rest)) (append-nil (leaves b)) ∙ q.1))
    (child w.0 w.1 (group_alone v g.YieldTo [] none rest (not_to (first_of rest) (open_value v x i b (first_of rest) tx h')) ends)))
value_walks v n below x i b f rest tx st nd near (is_second y) le h =
    let us : List Token = leaves f ++ rest in
    let o : (g1 : Forest) × (g2 : Forest) × Fits v (word t.DoubleArrow) g1 × Fits v (place (Operand 20)) g2
    × (f ≡ g1 +++ g2) = both_is v (word t.DoubleArrow) (place (Operand 20)) f y in
    let u : (z : Token) × (o.0 ≡ leaf z none) × (accepts v t.DoubleArrow z ≡ true) = word_is v t.DoubleArrow o.0 o.2 in
    let w : (i : NodeKind) × (b : Forest) × (o.1 ≡ node i b none) × (may_stand v (Operand 20) (i, b) ≡ true) × IsNode v i b = place_is v (Operand 20) o.1 o.3 in
    let at : f ≡ leaf u.0 (node w.0 w.1 none) = o.4 ∙ ap (λ (z : Forest). z +++ o.1) u.1 ∙ ap (λ (z : Forest). leaf u.0 z) w.2 in
    let e : first_of us ≡ t.DoubleArrow = first_is v (word t.DoubleArrow ~ place (Operand 20)) t.DoubleArrow f rest ((yield_facts v).3) refl y in
    let two : (count b < n) × (count f ≤ n) = nodes_count i b f n le in
    let open_ : is_open_for_arrow (i, b) ≡ false = before_arrow i b u.0 (node w.0 w.1 none)
    (subst (λ (z : Forest). arrows_are_nearest false (node i b z) ≡ true) at near)
    (ap is_to (sym (ap (λ (z : Forest). first_of (leaves z ++ rest)) at) ∙ e)) in
    let key : Spells (php v) (s.Operand 20) (i, b) us = below.placed (Operand 20) (s.Operand 20) i b us refl two.0 st nd (inr (inl (ap is_to e, open_))) in
    let q : (p : Form) × (operand_form v (leaves b ++ us) ≡ Some p) = begins_form v key.0 in
    let last : Walks (php v) (Node (s.Operand 20) ∷ []) (node w.0 w.1 none) rest =
    last_operand v n below 20 20 k.Yield (leaf x (node i b (leaf u.0 none))) w.0 w.1 rest ((yield_facts v).0) refl
    (yield_level v x (node i b (leaf u.0 (node w.0 w.1 none))))
    ((nodes_count w.0 w.1 none n (subst (λ (z : Forest). count z ≤ n) at two.1)).0) w.3 w.4
    (subst (λ (z : Forest). Behind v (k.Yield, leaf x (node i b z)) (first_of rest)) at h) in
    let inner : Walks (php v) (Word t.DoubleArrow ∷ Node (s.Operand 20) ∷ []) f rest =
    subst (λ (z : Forest). Walks (php v) (Word t.DoubleArrow ∷ Node (s.Operand 20) ∷ []) z rest) (sym at)
    (a_word u.2 last) in
    group_alone v g.YieldValue (Node (s.Operand 20) ∷ Part g.YieldTo ∷ []) (node i b f) rest
    (a_value_here v (leaves (node i b f) ++ rest) q.0
    (ap (operand_form v) (append_assoc (leaves b) (leaves f) rest) ∙ q.1))
    (child key.0 key.1 (group_alone v g.YieldTo (Word t.DoubleArrow ∷ Node (s.Operand 20) ∷ []) f rest (to_it v us e) inner))

yield_alone : (v : Version) → word_test v t.Yield (λ c. same_class c t.Yield) ≡ true
unfolding for_all
yield_alone V74 = refl
yield_alone V83 = refl

valued_grows : (v : Version) (n : ℕ) → Below v n → (m : ℕ) (c : Forest) (rest : List Token)
    → Fits v (word t.Yield ~ place (Operand 20) ~ maybe (word t.DoubleArrow ~ place (Operand 20))) c
    → is_nearest c ≡ true → count c ≤ n → Before v (k.Yield, c) (first_of rest)
    → Grows (php v) (s.Operand m) k.Yield c rest
valued_grows v n below m c rest x near le h =
    let o : (g1 : Forest) × (g2 : Forest) × Fits v (word t.Yield) g1
    × Fits v (place (Operand 20) ~ maybe (word t.DoubleArrow ~ place (Operand 20))) g2
    × (c ≡ g1 +++ g2) = both_is v (word t.Yield)
    (place (Operand 20) ~ maybe (word t.DoubleArrow ~ place (Operand 20))) c x in
    let u : (z : Token) × (o.0 ≡ leaf z none) × (accepts v t.Yield z ≡ true) = word_is v t.Yield o.0 o.2 in
    let o2 : (g1 : Forest) × (g2 : Forest) × Fits v (place (Operand 20)) g1
    × Fits v (maybe (word t.DoubleArrow ~ place (Operand 20))) g2
    × (o.1 ≡ g1 +++ g2) = both_is v (place (Operand 20)) (maybe (word t.DoubleArrow ~ place (Operand 20))) o.1 o.3
    in
    let w : (i : NodeKind) × (b : Forest) × (o2.0 ≡ node i b none) × (may_stand v (Operand 20) (i, b) ≡ true) × IsNode v i b = place_is v (Operand 20) o2.0 o2.2 in
    let at : c ≡ leaf u.0 (node w.0 w.1 o2.1) = o.4 ∙ ap (λ (z : Forest). z +++ o.1) u.1 ∙ ap (λ (z : Forest). leaf u.0 z) (o2.4 ∙ ap (λ (z : Forest). z +++ o2.1) w.2) in
    let tx : terminal u.0 ≡ t.Yield = alone_class v t.Yield u.0 (yield_alone v) u.2 in
    let nr : arrows_are_nearest false (leaf u.0 (node w.0 w.1 o2.1)) ≡ true =
    subst (λ (z : Forest). arrows_are_nearest false z ≡ true) at
    ((and_parts (elses_are_nearest false c) (arrows_are_nearest false c) near).1) in
    subst (λ (z : Forest). Grows (php v) (s.Operand m) k.Yield z rest) (sym at)
    (head (yield_form v (u.0 ∷ (leaves (node w.0 w.1 o2.1) ++ rest)) tx)
    (a_word u.2 (value_walks v n below u.0 w.0 w.1 o2.1 rest tx w.3 w.4 nr o2.3
    (subst (λ (z : Forest). count z ≤ n) at le)
    (only_behind v k.Yield (leaf u.0 (node w.0 w.1 o2.1)) (first_of rest) ((yield_facts v).1)
    (subst (λ (z : Forest). Before v (k.Yield, z) (first_of rest)) at h)))))

pub yields_grow : (v : Version) (n : ℕ) → Below v n → (m : ℕ) (c : Forest) (rest : List Token) → Fits v yield c
    → is_nearest c ≡ true → count c ≤ n → Before v (k.Yield, c) (first_of rest)
    → Grows (php v) (s.Operand m) k.Yield c rest
yields_grow v n below m c rest (is_first x) near le h = bare_grows v m c rest x h
yields_grow v n below m c rest (is_second (is_first x)) near le h = valued_grows v n below m c rest x near le h
yields_grow v n below m c rest (is_second (is_second x)) near le h = from_grows v n below m c rest x le h
