-- Closures, arrow functions and arrays.
use Rattle.std.proofs.Common.{◌≡◌, ℕ, ◌≤◌, Bool, true, false, not, List, [], ◌∷◌, ◌++◌, Some, refl, sym, ap, ◌∙◌, subst, arith}
use Rattle.php_tree.specs.declared.kind.NodeKind.{NodeKind}
use Rattle.php_tree.specs.declared.kind.NodeKind.TheVariants as k
use Rattle.php_tree.specs.declared.token.Token.{Token}
use Rattle.php_tree.specs.declared.version.Version.{Version}
use Rattle.php_tree.specs.declared.version.Version.TheVariants.{V74, V83}
use Rattle.php_tree.specs.Tree.{Forest, none, leaf, node, ◌+++◌, leaves, count}
use Rattle.php_terminals.specs.declared.terminal.Terminal.{Terminal}
use Rattle.php_terminals.specs.declared.terminal.Terminal.TheVariants as t
use Rattle.php_terminals.specs.Ahead.{first_of, second_of}
use Rattle.php_forms.specs.declared.item.Sort.TheVariants as s
use Rattle.php_forms.specs.declared.item.Group.TheVariants as g
use Rattle.php_forms.specs.declared.item.Item.{Item}
use Rattle.php_forms.specs.declared.item.Item.TheVariants.{Word, Node, Part, Repeats}
use Rattle.php_forms.specs.Forms.{any}
use Rattle.php_forms.specs.Grammar.{Walks, Grows, ends, head, word as a_word}
use Rattle.php_grammar.specs.Accepts.{accepts}
use Rattle.php_grammar.specs.Operands.{operand_form}
use Rattle.php_grammar.specs.Tables.{php}
use Rattle.php_exprs.proofs.Forests.{forest_assoc}
use Rattle.php_shapes.specs.Atoms.{arrow, by_ref, closure, closure_use, params, return_type}
use Rattle.php_shapes.specs.Notation.{Rule, nothing, word, kind, ◌~◌, commas_last, expr, parens}
use Rattle.php_shapes.specs.Places.{Operand, may_stand}
use Rattle.php_shapes.specs.Shapes.{Fits, is_both, is_first, is_second, IsNode}
use Rattle.php_shapes.proofs.ReadClasses.{accepted, for_all}
use Rattle.php_shapes.proofs.ReadFirst.{rule_begins, starts}
use Rattle.php_shapes.proofs.ReadEnds.{Below}
use Rattle.php_shapes.proofs.ReadMatch.{
  begins_there,
  both_is,
  false_true,
  fits_alone,
  FitsAll,
  left_le,
  matched,
  matches,
  nodes_count,
  nothing_is,
  place_is,
  right_le,
  where_is,
  where_it,
  word_is,
}
use Rattle.php_shapes.proofs.ReadOperands.{Before, before_class, class_before, ends_its_chain, first_is, grow_head, last_operand, only_behind, only_class}
use Rattle.php_shapes.proofs.ReadPostfixes.{split_word}
use Rattle.php_shapes.proofs.ReadAssigns.{second_is}
use Rattle.php_shapes.proofs.ReadStops.{looser}
use Rattle.php_terminals.specs.Ahead.{past_group}
use Rattle.php_terminals.specs.Marks.{is_assign}
use Rattle.php_forms.specs.Lists.{array_items}
use Rattle.php_shapes.specs.Atoms.{array, items}
use Rattle.php_shapes.specs.Notation.{brackets}
use Rattle.php_shapes.proofs.ReadFirst.{begins_expression}
use Rattle.php_shapes.proofs.ReadVariables.{group_alone, starts_with, walk_join}
use Rattle.php_shapes.proofs.ReadPast.{group_past, pass, word_closes, word_opens}

-- ---- a last rule

abbrev pub chain : List Rule → Rule → Rule
chain [] q = q
chain (r ∷ rs) q = r ~ chain rs q

pub split_last : (v : Version) (rs : List Rule) (q : Rule) (f : Forest) → Fits v (chain rs q) f → (p : Forest) × (l : Forest) × FitsAll v rs p × Fits v q l × (f ≡ p +++ l)
split_last v [] q f x = (none, f, refl, x, refl)
split_last v (r ∷ rs) q f x =
    let o : (g1 : Forest) × (g2 : Forest) × Fits v r g1 × Fits v (chain rs q) g2 × (f ≡ g1 +++ g2) = both_is v r (chain rs q) f x in
    let w : (p : Forest) × (l : Forest) × FitsAll v rs p × Fits v q l × (o.1 ≡ p +++ l) = split_last v rs q o.1 o.3 in
    (o.0 +++ w.0, w.1, (o.0, w.0, o.2, w.2, refl), w.3, o.4 ∙ ap (λ (z : Forest). o.0 +++ z) w.4 ∙ sym (forest_assoc o.0 w.0 w.1))

-- ---- closures

abbrev closure_rest : Rule
closure_rest = word t.Function ~ by_ref ~ params ~ closure_use ~ return_type ~ kind k.Block

abbrev closure_items : List Item
closure_items = Word t.Function ∷ Part g.ByRef ∷ Word t.OpenParen ∷ Part g.Params ∷ Word t.CloseParen ∷ Part g.ClosureUse ∷ Part g.ReturnType ∷ Node s.Block ∷ []

closure_test : (v : Version) → matches v 60 false (closure_rest ∷ []) closure_items (before_class v k.Closure) ≡ true
unfolding for_all
closure_test V74 = refl
closure_test V83 = refl

static_closure_test : (v : Version) → matches v 60 false ((word t.Static ~ closure_rest) ∷ []) (Word t.Static ∷ closure_items) (before_class v k.Closure) ≡ true
unfolding for_all
static_closure_test V74 = refl
static_closure_test V83 = refl

closure_first : (v : Version) → (only_class v closure_rest t.Function ≡ true) × (only_class v (word t.Static ~ closure_rest) t.Static ≡ true)
unfolding for_all
closure_first V74 = (refl, refl)
closure_first V83 = (refl, refl)

closure_form : (v : Version) (ts : List Token) → first_of ts ≡ t.Function → operand_form v ts ≡ Some (k.Closure, closure_items)
closure_form v ts e = rw e refl

static_closure_form : (v : Version) (ts : List Token) → first_of ts ≡ t.Static → second_of ts ≡ t.Function → operand_form v ts ≡ Some (k.Closure, Word t.Static ∷ closure_items)
static_closure_form v ts e d = rw (e, d) refl

drop_nothing : (v : Version) (q : Rule) (f g h : Forest) → Fits v nothing g → Fits v q h → f ≡ g +++ h → Fits v q f
drop_nothing v q f g h x y e = subst (λ (z : Forest). Fits v q z) (sym (e ∙ ap (λ (z : Forest). z +++ h) (nothing_is v g x))) y

pub closures_grow : (v : Version) (n : ℕ) → Below v n → (m : ℕ) (c : Forest) (rest : List Token) → Fits v closure c
    → count c ≤ n → Before v (k.Closure, c) (first_of rest) → Grows (php v) (s.Operand m) k.Closure c rest
closures_grow v n below m c rest (is_both {g = a} {h = b} (is_first x) y e) le h =
    let z : Fits v closure_rest c = drop_nothing v closure_rest c a b x y e in
    grow_head v n below m k.Closure closure_rest closure_items c rest (closure_test v)
    (closure_form v (leaves c ++ rest) (first_is v closure_rest t.Function c rest ((closure_first v).0) refl z)) z
    le h
closures_grow v n below m c rest (is_both (is_second x) y e) le h =
    let z : Fits v (word t.Static ~ closure_rest) c = is_both x y e in
    grow_head v n below m k.Closure (word t.Static ~ closure_rest) (Word t.Static ∷ closure_items) c rest
    (static_closure_test v) (static_closure_form v (leaves c ++ rest)
    (first_is v (word t.Static ~ closure_rest) t.Static c rest ((closure_first v).1) refl z)
    (second_is v t.Static closure_rest t.Function c rest ((closure_first v).0) refl z)) z le h

-- ---- arrow functions

abbrev arrow_head : List Rule
arrow_head = word t.Fn ∷ by_ref ∷ params ∷ return_type ∷ word t.DoubleArrow ∷ []

abbrev arrow_items : List Item
arrow_items = Word t.Fn ∷ Part g.ByRef ∷ Word t.OpenParen ∷ Part g.Params ∷ Word t.CloseParen ∷ Part g.ReturnType ∷ Word t.DoubleArrow ∷ []

arrow_tests : (v : Version) → (matches v 60 false arrow_head arrow_items begins_expression ≡ true)
    × (matches v 60 false (word t.Static ∷ arrow_head) (Word t.Static ∷ arrow_items) begins_expression ≡ true)
unfolding for_all
arrow_tests V74 = (refl, refl)
arrow_tests V83 = (refl, refl)

arrow_first : (v : Version) → (only_class v (chain arrow_head expr) t.Fn ≡ true) × (only_class v (chain (word t.Static ∷ arrow_head) expr) t.Static ≡ true)
unfolding for_all
arrow_first V74 = (refl, refl)
arrow_first V83 = (refl, refl)

arrow_form : (v : Version) (ts : List Token) → first_of ts ≡ t.Fn → operand_form v ts ≡ Some (k.Arrow, arrow_items ++ any ∷ [])
arrow_form v ts e = rw e refl

static_arrow_form : (v : Version) (ts : List Token) → first_of ts ≡ t.Static → second_of ts ≡ t.Fn → operand_form v ts ≡ Some (k.Arrow, (Word t.Static ∷ arrow_items) ++ any ∷ [])
static_arrow_form v ts e d = rw (e, d) refl

arrow_looser : (v : Version) → (looser v 24 24 ≡ true) × (ends_its_chain v k.Arrow ≡ true)
unfolding for_all
arrow_looser V74 = (refl, refl)
arrow_looser V83 = (refl, refl)

le_24 : 24 ≤ 24
le_24 = omega arith

arrow_grow : (v : Version) (n : ℕ) → Below v n → (m : ℕ) (rs : List Rule) (is : List Item) (c : Forest)
    (rest : List Token) → matches v 60 false rs is begins_expression ≡ true
    → operand_form v (leaves c ++ rest) ≡ Some (k.Arrow, is ++ any ∷ []) → Fits v (chain rs expr) c → count c ≤ n
    → Before v (k.Arrow, c) (first_of rest) → Grows (php v) (s.Operand m) k.Arrow c rest
arrow_grow v n below m rs is c rest t f x le h =
    let o : (p : Forest) × (l : Forest) × FitsAll v rs p × Fits v expr l × (c ≡ p +++ l) = split_last v rs expr c x in
    let w : (i : NodeKind) × (b : Forest) × (o.1 ≡ node i b none) × (may_stand v (Operand 24) (i, b) ≡ true) × IsNode v i b = place_is v (Operand 24) o.1 o.3 in
    let at : c ≡ o.0 +++ node w.0 w.1 none = o.4 ∙ ap (λ (z : Forest). o.0 +++ z) w.2 in
    let le' : count (o.0 +++ node w.0 w.1 none) ≤ n = subst (λ (z : Forest). count z ≤ n) at le in
    let last : Walks (php v) (any ∷ []) (node w.0 w.1 none) rest =
    last_operand v n below 24 24 k.Arrow o.0 w.0 w.1 rest ((arrow_looser v).0) refl le_24
    ((nodes_count w.0 w.1 none n (right_le o.0 (node w.0 w.1 none) n le')).0) w.3 w.4
    (only_behind v k.Arrow (o.0 +++ node w.0 w.1 none) (first_of rest) ((arrow_looser v).1)
    (subst (λ (z : Forest). Before v (k.Arrow, z) (first_of rest)) at h)) in
    let begins : begins_expression (first_of (leaves (node w.0 w.1 none) ++ rest)) ≡ true =
    subst (λ (z : Forest). begins_expression (first_of (leaves z ++ rest)) ≡ true) w.2
    (begins_there (starts v expr) (leaves o.1) rest (rule_begins v o.3)) in
    let pre : Walks (php v) is o.0 (leaves (node w.0 w.1 none) ++ rest) =
    matched v n below 60 false rs is begins_expression o.0 (leaves (node w.0 w.1 none) ++ rest) t o.2
    (left_le o.0 (node w.0 w.1 none) n le') begins (λ z. absurd (false_true z)) in
    head f (subst (λ (z : Forest). Walks (php v) (is ++ any ∷ []) z rest) (sym at) (walk_join (php v) (any ∷ []) (node w.0 w.1 none) rest last refl pre))

pub arrows_grow : (v : Version) (n : ℕ) → Below v n → (m : ℕ) (c : Forest) (rest : List Token) → Fits v arrow c
    → count c ≤ n → Before v (k.Arrow, c) (first_of rest) → Grows (php v) (s.Operand m) k.Arrow c rest
arrows_grow v n below m c rest (is_both {g = a} {h = b} (is_first x) y e) le h =
    let z : Fits v (chain arrow_head expr) c = drop_nothing v (chain arrow_head expr) c a b x y e in
    arrow_grow v n below m arrow_head arrow_items c rest ((arrow_tests v).0)
    (arrow_form v (leaves c ++ rest) (first_is v (chain arrow_head expr) t.Fn c rest ((arrow_first v).0) refl z))
    z le h
arrows_grow v n below m c rest (is_both (is_second x) y e) le h =
    let z : Fits v (chain (word t.Static ∷ arrow_head) expr) c = is_both x y e in
    arrow_grow v n below m (word t.Static ∷ arrow_head) (Word t.Static ∷ arrow_items) c rest ((arrow_tests v).1)
    (static_arrow_form v (leaves c ++ rest)
    (first_is v (chain (word t.Static ∷ arrow_head) expr) t.Static c rest ((arrow_first v).1) refl z)
    (second_is v t.Static (chain arrow_head expr) t.Fn c rest ((arrow_first v).0) refl z)) z le h

-- ---- arrays

abbrev some_items : Rule
some_items = commas_last (kind k.Item)

abbrev pub closes_bracket : Terminal → Bool
closes_bracket t.CloseParen = true
closes_bracket t.CloseBracket = true
closes_bracket _ = false

items_test : (v : Version) → matches v 60 false (some_items ∷ []) (Node s.Item ∷ Repeats g.MoreItems ∷ []) closes_bracket ≡ true
unfolding for_all
items_test V74 = refl
items_test V83 = refl

items_begin : (v : Version) → for_all (λ c. where_it (starts v some_items c) (not (closes_bracket c))) ≡ true
unfolding for_all
items_begin V74 = refl
items_begin V83 = refl

array_at : (c : Terminal) → not (closes_bracket c) ≡ true → array_items c ≡ Node s.Item ∷ Repeats g.MoreItems ∷ []
array_at t.CloseParen e = absurd (false_true e)
array_at t.CloseBracket e = absurd (false_true e)
array_at c e = refl

no_array : (c : Terminal) → closes_bracket c ≡ true → array_items c ≡ []
no_array t.CloseParen e = refl
no_array t.CloseBracket e = refl
no_array c e = absurd (false_true e)

items_walk : (v : Version) (n : ℕ) → Below v n → (c : Forest) (rest : List Token) → Fits v items c → count c ≤ n
    → closes_bracket (first_of rest) ≡ true → Walks (php v) (Part g.ArrayItems ∷ []) c rest
items_walk v n below c rest (is_first x) le h = group_alone v g.ArrayItems [] c rest
    (ap (λ (z : Forest). array_items (first_of (leaves z ++ rest))) (nothing_is v c x) ∙ no_array (first_of rest) h)
    (subst (λ (z : Forest). Walks (php v) [] z rest) (sym (nothing_is v c x)) ends)
items_walk v n below c rest (is_second x) le h = group_alone v g.ArrayItems (Node s.Item ∷ Repeats g.MoreItems ∷ []) c
    rest (array_at (first_of (leaves c ++ rest))
    (starts_with v some_items (λ c. not (closes_bracket c)) c rest (items_begin v) refl x))
    (matched v n below 60 false (some_items ∷ []) (Node s.Item ∷ Repeats g.MoreItems ∷ []) closes_bracket c rest
    (items_test v) (fits_alone v some_items c x) le h (λ z. absurd (false_true z)))

-- a group between two words
pub between_words : (v : Version) (a d : Terminal) (q : Rule) (is : List Item) (n : ℕ) (c : Forest)
    (rest : List Token) → Fits v (word a ~ q ~ word d) c → count c ≤ n
    → ((f : Forest) (us : List Token) → Fits v q f → count f ≤ n → starts v (word d) (first_of us) ≡ true
    → Walks (php v) is f us) → Walks (php v) (Word a ∷ (is ++ Word d ∷ [])) c rest
between_words v a d q is n c rest x le w =
    let o : (g1 : Forest) × (g2 : Forest) × Fits v (word a) g1 × Fits v (q ~ word d) g2 × (c ≡ g1 +++ g2) = both_is v (word a) (q ~ word d) c x in
    let u : (y : Token) × (o.0 ≡ leaf y none) × (accepts v a y ≡ true) = word_is v a o.0 o.2 in
    let o2 : (g1 : Forest) × (g2 : Forest) × Fits v q g1 × Fits v (word d) g2 × (o.1 ≡ g1 +++ g2) = both_is v q (word d) o.1 o.3 in
    let u2 : (y : Token) × (o2.1 ≡ leaf y none) × (accepts v d y ≡ true) = word_is v d o2.1 o2.3 in
    let at : c ≡ leaf u.0 (o2.0 +++ leaf u2.0 none) = o.4 ∙ ap (λ (z : Forest). z +++ o.1) u.1 ∙ ap (λ (z : Forest). leaf u.0 z) (o2.4 ∙ ap (λ (z : Forest). o2.0 +++ z) u2.1) in
    let le' : count (o2.0 +++ leaf u2.0 none) ≤ n = subst (λ (z : Forest). count z ≤ n) at le in
    let last : Walks (php v) (Word d ∷ []) (leaf u2.0 none) rest = a_word u2.2 ends in
    let inner : Walks (php v) is o2.0 (u2.0 ∷ rest) = w o2.0 (u2.0 ∷ rest) o2.2 (left_le o2.0 (leaf u2.0 none) n le') (accepted v d u2.0 u2.2) in
    subst (λ (z : Forest). Walks (php v) (Word a ∷ (is ++ Word d ∷ [])) z rest) (sym at) (a_word u.2 (walk_join (php v) (Word d ∷ []) (leaf u2.0 none) rest last refl inner))

bracket_facts : (v : Version) → (only_class v (brackets items) t.OpenBracket ≡ true)
    × (word_opens v t.OpenBracket ≡ true) × (word_closes v t.CloseBracket ≡ true)
    × (for_all (λ c. where_it (before_class v k.Array c) (not (is_assign c))) ≡ true)
    × (for_all (λ c. where_it (starts v (word t.CloseBracket) c) (closes_bracket c)) ≡ true)
    × (for_all (λ c. where_it (starts v (word t.CloseParen) c) (closes_bracket c)) ≡ true)
    × (only_class v (word t.Array ~ parens items) t.Array ≡ true) × (only_class v (parens items) t.OpenParen ≡ true)
unfolding for_all
bracket_facts V74 = (refl, refl, refl, refl, refl, refl, refl, refl)
bracket_facts V83 = (refl, refl, refl, refl, refl, refl, refl, refl)

array_form : (v : Version) (ts us : List Token) → first_of ts ≡ t.OpenBracket → past_group 0 ts ≡ us
    → not (is_assign (first_of us)) ≡ true → operand_form v ts ≡ Some
    (k.Array, Word t.OpenBracket ∷ Part g.ArrayItems ∷ Word t.CloseBracket ∷ [])
array_form v ts us e p a = rw (e, p, flip (is_assign (first_of us)) a) refl
  where
    flip : (b : Bool) → not b ≡ true → b ≡ false
    flip true e = absurd (false_true e)
    flip false e = refl

array_word : (v : Version) (ts : List Token) → first_of ts ≡ t.Array → second_of ts ≡ t.OpenParen
    → operand_form v ts ≡ Some (k.Array, Word t.Array ∷ Word t.OpenParen ∷ Part g.ArrayItems ∷ Word t.CloseParen ∷ [])
array_word v ts e d = rw (e, d) refl

-- the parts of `[..]`
pub bracket_items_walk : (v : Version) (n : ℕ) → Below v n → (c : Forest) (rest : List Token)
    → Fits v (brackets items) c → count c ≤ n → Walks (php v)
    (Word t.OpenBracket ∷ Part g.ArrayItems ∷ Word t.CloseBracket ∷ []) c rest
bracket_items_walk v n below c rest x le = between_words v t.OpenBracket t.CloseBracket items (Part g.ArrayItems ∷ [])
    n c rest x le (λ f us y le' st. items_walk v n below f us y le'
    (where_is (starts v (word t.CloseBracket)) closes_bracket (first_of us) ((bracket_facts v).4) st))

paren_items_walk : (v : Version) (n : ℕ) → Below v n → (c : Forest) (rest : List Token) → Fits v (parens items) c
    → count c ≤ n → Walks (php v) (Word t.OpenParen ∷ Part g.ArrayItems ∷ Word t.CloseParen ∷ []) c rest
paren_items_walk v n below c rest x le = between_words v t.OpenParen t.CloseParen items (Part g.ArrayItems ∷ []) n c
    rest x le (λ f us y le' st. items_walk v n below f us y le'
    (where_is (starts v (word t.CloseParen)) closes_bracket (first_of us) ((bracket_facts v).5) st))

items_pass : (v : Version) → pass v items 0 ≡ Some 0
unfolding for_all
items_pass V74 = refl
items_pass V83 = refl

pub arrays_grow : (v : Version) (n : ℕ) → Below v n → (m : ℕ) (c : Forest) (rest : List Token) → Fits v array c
    → count c ≤ n → Before v (k.Array, c) (first_of rest) → Grows (php v) (s.Operand m) k.Array c rest
arrays_grow v n below m c rest (is_first x) le h =
    head (array_form v (leaves c ++ rest) rest
    (first_is v (brackets items) t.OpenBracket c rest ((bracket_facts v).0) refl x)
    (group_past v t.OpenBracket t.CloseBracket items c rest ((bracket_facts v).1) ((bracket_facts v).2)
    (items_pass v) x) (where_is (before_class v k.Array) (λ c. not (is_assign c)) (first_of rest)
    ((bracket_facts v).3) (class_before v k.Array c (first_of rest) h)))
    (bracket_items_walk v n below c rest x le)
arrays_grow v n below m c rest (is_second x) le h =
    let o : (y : Token) × (f' : Forest) × (c ≡ leaf y f') × Fits v (parens items) f' = split_word v t.Array (parens items) c x in
    let p : (g1 : Forest) × (g2 : Forest) × Fits v (word t.Array) g1 × Fits v (parens items) g2 × (c ≡ g1 +++ g2) = both_is v (word t.Array) (parens items) c x in
    let u : (y : Token) × (p.0 ≡ leaf y none) × (accepts v t.Array y ≡ true) = word_is v t.Array p.0 p.2 in
    let at : c ≡ leaf u.0 p.1 = p.4 ∙ ap (λ (z : Forest). z +++ p.1) u.1 in
    head (array_word v (leaves c ++ rest) (first_is v (word t.Array ~ parens items) t.Array c rest
    ((bracket_facts v).6) refl x) (second_is v t.Array (parens items) t.OpenParen c rest ((bracket_facts v).7)
    refl x))
    (subst (λ (z : Forest). Walks (php v) (Word t.Array ∷ Word t.OpenParen ∷ Part g.ArrayItems ∷ Word t.CloseParen
    ∷ []) z rest) (sym at) (a_word u.2 (paren_items_walk v n below p.1 rest p.3
    (subst (λ (z : Forest). count z ≤ n) at le))))
