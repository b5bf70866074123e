-- Assignments, `++` and `--` behind what is written, `instanceof`'s left side, and ternaries.
use Rattle.std.proofs.Common.{◌≡◌, ℕ, ◌<◌, ◌≤◌, Bool, true, false, ◌&&◌, ◌||◌, List, [], ◌∷◌, ◌++◌, inl, inr, Some, None, refl, sym, ap, ◌∙◌, subst, nat_eq, nat_le, arith}
use Rattle.std.proofs.lemmas.Bool.{leb-true, or_right, and_from, or_left, and_parts}
use Rattle.php_tree.specs.declared.kind.NodeKind.{NodeKind}
use Rattle.php_tree.specs.declared.kind.NodeKind.TheVariants as k
use Rattle.php_tree.specs.declared.token.Token.{Token}
use Rattle.php_tree.specs.declared.version.Version.{Version}
use Rattle.php_tree.specs.declared.version.Version.TheVariants.{V74, V83}
use Rattle.php_tree.specs.Tree.{Forest, Tree, none, leaf, node, ◌+++◌, leaves, count}
use Rattle.php_terminals.specs.declared.terminal.Terminal.{Terminal}
use Rattle.php_terminals.specs.declared.terminal.Terminal.TheVariants as t
use Rattle.php_terminals.specs.Ahead.{first_of, second_of}
use Rattle.php_forms.specs.declared.item.Sort.TheVariants as s
use Rattle.php_forms.specs.declared.item.Item.{Item}
use Rattle.php_forms.specs.declared.item.Item.TheVariants.{Word, Node}
use Rattle.php_forms.specs.Forms.{any}
use Rattle.php_forms.specs.Grammar.{Form, Walks, Grows, Spells, ends, child, onward, word as a_word}
use Rattle.php_grammar.specs.Accepts.{accepts}
use Rattle.php_grammar.specs.Bases.{is_list, is_short_ternary, is_target, role_of}
use Rattle.php_grammar.specs.Edges.{edge}
use Rattle.php_grammar.specs.Levels.{level}
use Rattle.php_grammar.specs.Tables.{php}
use Rattle.php_grammar.specs.Tails.{assign_tail, binary_tail, chosen_tail, left_edge, left_fits, operand_tail, operator_by, postfix_by, postfix_tail, short_left_fits, ternary_tail}
use Rattle.php_shapes.specs.Notation.{Rule, word, place, ◌~◌, expr}
use Rattle.php_shapes.specs.Operators.{assign, assign_ref, before_ternary, compound_assign, postfix, short_ternary, ternary}
use Rattle.php_shapes.specs.Places.{Place, Left, LeftShort, Operand, Target, TargetOrList, is_expression, is_prefix, may_stand}
use Rattle.php_shapes.specs.Shapes.{Fits, is_both, is_first, is_second, IsNode}
use Rattle.php_shapes.proofs.ReadClasses.{for_all, or_is}
use Rattle.php_shapes.proofs.ReadFirst.{begins_expression, nullable, starts}
use Rattle.php_shapes.proofs.ReadEnds.{Behind, behind_level, behind_limit, Below, closes_expression, goes_behind}
use Rattle.php_shapes.proofs.ReadMatch.{both_is, false_true, nodes_count, place_is, word_is}
use Rattle.php_shapes.proofs.ReadOperands.{Before, ends_its_chain, first_is, FitsLevel, Grown, last_operand, only_behind, only_class, second_starts}
use Rattle.php_shapes.proofs.ReadInfix.{left_edge_is, left_of, not_list, second_tail, tail_is}
use Rattle.php_shapes.proofs.ReadPostfixes.{base_expression, base_level, split_word, target_offset}
use Rattle.php_shapes.proofs.ReadStops.{le_trans3, le_true, level_of_node, looser}

-- A form that goes on behind a node.
pub on_left : (v : Version) (n : ℕ) → Grown v n → (m : ℕ) (P : Place) (j : NodeKind) (q : Rule) (items : List Item)
    (c : Forest) (rest : List Token) → ((i : NodeKind) (b f : Forest) → c ≡ node i b f → may_stand v P (i, b) ≡ true
    → Fits v q f → ((is_expression i || is_list i) ≡ true) × FitsLevel v m (i, b)
    × Before v (i, b) (first_of (leaves f ++ rest)))
    → ((i : NodeKind) (b f : Forest) → c ≡ node i b f → may_stand v P (i, b) ≡ true → Fits v q f
    → operand_tail v m (i, b) (leaves f ++ rest) ≡ Some (j, items))
    → ((i : NodeKind) (b f : Forest) → c ≡ node i b f → Fits v q f → count f ≤ n → Walks (php v) items f rest)
    → Fits v (place P ~ q) c → count c ≤ n → Grows (php v) (s.Operand m) j c rest
on_left v n grown m P j q items c rest ok tail walk x le =
    let o : (g1 : Forest) × (g2 : Forest) × Fits v (place P) g1 × Fits v q g2 × (c ≡ g1 +++ g2) = both_is v (place P) q c x in
    let a : (i : NodeKind) × (b : Forest) × (o.0 ≡ node i b none) × (may_stand v P (i, b) ≡ true) × IsNode v i b = place_is v P o.0 o.2 in
    let at : c ≡ node a.0 a.1 o.1 = o.4 ∙ ap (λ (z : Forest). z +++ o.1) a.2 in
    let ts : List Token = leaves o.1 ++ rest in
    let two : (count a.1 < n) × (count o.1 ≤ n) = nodes_count a.0 a.1 o.1 n (subst (λ (z : Forest). count z ≤ n) at le) in
    let k3 : ((is_expression a.0 || is_list a.0) ≡ true) × FitsLevel v m (a.0, a.1) × Before v (a.0, a.1) (first_of ts) = ok a.0 a.1 o.1 at a.3 o.3 in
    let left : Grows (php v) (s.Operand m) a.0 a.1 ts = grown.operand m a.0 a.1 ts two.0 k3.0 k3.1 a.4 k3.2 in
    subst (λ (z : Forest). Grows (php v) (s.Operand m) j z rest) (sym at)
    (onward left (tail_is v m a.0 a.1 ts (j, items) a.4 (tail a.0 a.1 o.1 at a.3 o.3)) (walk a.0 a.1 o.1 at o.3 two.1))

-- ---- what is written

list_level : (v : Version) (i : NodeKind) (b : Forest) → is_list i ≡ true → level v (i, b) ≡ 0
list_level v k.List b e = refl
list_level v other b e = absurd (false_true e)

low : (m l : ℕ) → l ≡ 0 → l ≤ m
low m l e = omega arith

target_ok : (v : Version) (m : ℕ) (i : NodeKind) (b : Forest) → (is_target i || is_list i) ≡ true → ((is_expression i || is_list i) ≡ true) × FitsLevel v m (i, b)
target_ok v m i b h = elim (or_is (is_target i) (is_list i) h) [
  | inl e ↦ (or_left (is_expression i) (is_list i) (base_expression i (target_offset (role_of i) e)), inl (low m (level v (i, b)) (base_level v i b (target_offset (role_of i) e))))
  | inr e ↦ (or_right (is_expression i) (is_list i) e, inl (low m (level v (i, b)) (list_level v i b e)))
]

-- the tail that a word with a form of its own chooses
pub chosen_is : (v : Version) (m : ℕ) (i : NodeKind) (b : Forest) (ts : List Token) (f : Form)
    → postfix_by v i (first_of ts) ts ≡ None → operator_by v m (left_edge v (i, b)) i (first_of ts) ts ≡ Some f
    → operand_tail v m (i, b) ts ≡ Some f
chosen_is v m i b ts f p o = second_tail (postfix_tail v i ts) (chosen_tail v m (left_edge v (i, b)) i ts) (binary_tail v m (left_edge v (i, b)) (first_of ts)) f p o

-- `++` and `--`
step_first : (v : Version) → only_class v (word t.Step) t.Step ≡ true
unfolding for_all
step_first V74 = refl
step_first V83 = refl

step_tail : (v : Version) (m : ℕ) (i : NodeKind) (b : Forest) (ts : List Token) → first_of ts ≡ t.Step
    → is_target i ≡ true → operand_tail v m (i, b) ts ≡ Some (k.Postfix, Word t.Step ∷ [])
step_tail v m i b ts e h = chosen_is v m i b ts (k.Postfix, Word t.Step ∷ []) (rw e refl) (rw (e, h) refl)

step_walk : (v : Version) (f : Forest) (rest : List Token) → Fits v (word t.Step) f → Walks (php v) (Word t.Step ∷ []) f rest
step_walk v f rest x = let u : (y : Token) × (f ≡ leaf y none) × (accepts v t.Step y ≡ true) = word_is v t.Step f x
    in subst (λ (z : Forest). Walks (php v) (Word t.Step ∷ []) z rest) (sym u.1) (a_word u.2 ends)

goes_step : (v : Version) (i : NodeKind) (c : Terminal) → c ≡ t.Step → is_target i ≡ true → goes_behind v i c ≡ true
goes_step v i c e h = rw e h

pub postfixes_grow : (v : Version) (n : ℕ) → Below v n → Grown v n → (m : ℕ) (c : Forest) (rest : List Token)
    → Fits v postfix c → count c ≤ n → Before v (k.Postfix, c) (first_of rest)
    → Grows (php v) (s.Operand m) k.Postfix c rest
postfixes_grow v n below grown m c rest x le h =
    on_left v n grown m Target k.Postfix (word t.Step) (Word t.Step ∷ []) c rest
    (λ i b f at st y. let q : ((is_expression i || is_list i) ≡ true)
    × FitsLevel v m (i, b) = target_ok v m i b (or_left (is_target i) (is_list i) st)
    in (
      q.0,
      q.1,
      inr (goes_step v i (first_of (leaves f ++ rest))
          (first_is v (word t.Step) t.Step f rest (step_first v) refl y) st),
    ))
    (λ i b f at st y. step_tail v m i b (leaves f ++ rest) (first_is v (word t.Step) t.Step f rest (step_first v) refl y) st)
    (λ i b f at y le'. step_walk v f rest y)
    x le

-- ---- a word, and an operand that ends the node

pub word_operand : (v : Version) (n : ℕ) → Below v n → (p q : ℕ) (j i : NodeKind) (b : Forest) (a : Terminal)
    (f : Forest) (rest : List Token) → looser v p q ≡ true → nat_eq q q ≡ true → ((z : Forest) → p ≤ level v (j, z))
    → Fits v (word a ~ place (Operand q)) f → count f ≤ n → Behind v (j, node i b f) (first_of rest)
    → Walks (php v) (Word a ∷ Node (s.Operand q) ∷ []) f rest
word_operand v n below p q j i b a f rest lo same lev x le h =
    let o : (g1 : Forest) × (g2 : Forest) × Fits v (word a) g1 × Fits v (place (Operand q)) g2 × (f ≡ g1 +++ g2) = both_is v (word a) (place (Operand q)) f x in
    let u : (y : Token) × (o.0 ≡ leaf y none) × (accepts v a y ≡ true) = word_is v a o.0 o.2 in
    let w : (i : NodeKind) × (b : Forest) × (o.1 ≡ node i b none) × (may_stand v (Operand q) (i, b) ≡ true) × IsNode v i b = place_is v (Operand q) o.1 o.3 in
    let at : f ≡ leaf u.0 (node w.0 w.1 none) = o.4 ∙ ap (λ (z : Forest). z +++ o.1) u.1 ∙ ap (λ (z : Forest). leaf u.0 z) w.2 in
    subst (λ (z : Forest). Walks (php v) (Word a ∷ Node (s.Operand q) ∷ []) z rest) (sym at)
    (a_word u.2 (last_operand v n below p q j (node i b (leaf u.0 none)) w.0 w.1 rest lo same
    (lev (node i b (leaf u.0 (node w.0 w.1 none))))
    ((nodes_count w.0 w.1 none n (subst (λ (z : Forest). count z ≤ n) at le)).0) w.3 w.4
    (subst (λ (z : Forest). Behind v (j, node i b z) (first_of rest)) at h)))

-- two words, and an operand that ends the node
pub words_operand : (v : Version) (n : ℕ) → Below v n → (p q : ℕ) (j i : NodeKind) (b : Forest) (a d : Terminal)
    (f : Forest) (rest : List Token) → looser v p q ≡ true → nat_eq q q ≡ true → ((z : Forest) → p ≤ level v (j, z))
    → Fits v (word a ~ word d ~ place (Operand q)) f → count f ≤ n → Behind v (j, node i b f) (first_of rest)
    → Walks (php v) (Word a ∷ Word d ∷ Node (s.Operand q) ∷ []) f rest
words_operand v n below p q j i b a d f rest lo same lev x le h =
    let o : (g1 : Forest) × (g2 : Forest) × Fits v (word a) g1 × Fits v (word d ~ place (Operand q)) g2 × (f ≡ g1 +++ g2) = both_is v (word a) (word d ~ place (Operand q)) f x in
    let u : (y : Token) × (o.0 ≡ leaf y none) × (accepts v a y ≡ true) = word_is v a o.0 o.2 in
    let o2 : (g1 : Forest) × (g2 : Forest) × Fits v (word d) g1 × Fits v (place (Operand q)) g2 × (o.1 ≡ g1 +++ g2) = both_is v (word d) (place (Operand q)) o.1 o.3 in
    let u2 : (y : Token) × (o2.0 ≡ leaf y none) × (accepts v d y ≡ true) = word_is v d o2.0 o2.2 in
    let w : (i : NodeKind) × (b : Forest) × (o2.1 ≡ node i b none) × (may_stand v (Operand q) (i, b) ≡ true) × IsNode v i b = place_is v (Operand q) o2.1 o2.3 in
    let at : f ≡ leaf u.0 (leaf u2.0 (node w.0 w.1 none)) = o.4 ∙ ap (λ (z : Forest). z +++ o.1) u.1
    ∙ ap (λ (z : Forest). leaf u.0 z) (o2.4 ∙ ap (λ (z : Forest). z +++ o2.1) u2.1
    ∙ ap (λ (z : Forest). leaf u2.0 z) w.2) in
    subst (λ (z : Forest). Walks (php v) (Word a ∷ Word d ∷ Node (s.Operand q) ∷ []) z rest) (sym at)
    (a_word u.2 (a_word u2.2 (last_operand v n below p q j (node i b (leaf u.0 (leaf u2.0 none))) w.0 w.1 rest lo same
    (lev (node i b (leaf u.0 (leaf u2.0 (node w.0 w.1 none)))))
    ((nodes_count w.0 w.1 none n (subst (λ (z : Forest). count z ≤ n) at le)).0) w.3 w.4
    (subst (λ (z : Forest). Behind v (j, node i b z) (first_of rest)) at h))))

-- ---- assignments

looser_19 : (v : Version) → looser v 19 19 ≡ true
unfolding for_all
looser_19 V74 = refl
looser_19 V83 = refl

assign_chain : (v : Version) → (ends_its_chain v k.Assign ≡ true) × (ends_its_chain v k.AssignRef ≡ true) × (ends_its_chain v k.CompoundAssign ≡ true)
unfolding for_all
assign_chain V74 = (refl, refl, refl)
assign_chain V83 = (refl, refl, refl)

assign_first : (v : Version) → (only_class v (word t.Assign ~ place (Operand 19)) t.Assign ≡ true)
    × (only_class v (word t.Assign ~ word t.Ampersand ~ place (Operand 19)) t.Assign ≡ true)
    × (only_class v (word t.CompoundAssign ~ place (Operand 19)) t.CompoundAssign ≡ true)
unfolding for_all
assign_first V74 = (refl, refl, refl)
assign_first V83 = (refl, refl, refl)

no_reference : (i : NodeKind) (d : Terminal) → begins_expression d ≡ true → (is_target i || is_list i) ≡ true
    → assign_tail i d ≡ Some (k.Assign, Word t.Assign ∷ Node (s.Operand 19) ∷ [])
no_reference i t.Ampersand h e = absurd (false_true h)
no_reference i d h e = rw e refl

assign_tail_is : (v : Version) (m : ℕ) (i : NodeKind) (b : Forest) (ts : List Token) → first_of ts ≡ t.Assign
    → begins_expression (second_of ts) ≡ true → (is_target i || is_list i) ≡ true
    → operand_tail v m (i, b) ts ≡ Some (k.Assign, Word t.Assign ∷ Node (s.Operand 19) ∷ [])
assign_tail_is v m i b ts e d h = chosen_is v m i b ts (k.Assign, Word t.Assign ∷ Node (s.Operand 19) ∷ []) (rw e refl) (rw e (no_reference i (second_of ts) d h))

goes_assign : (v : Version) (i : NodeKind) (c : Terminal) → c ≡ t.Assign → (is_target i || is_list i) ≡ true → goes_behind v i c ≡ true
goes_assign v i c e h = rw e h

level_19 : (z : Forest) → 19 ≤ 19
level_19 z = omega arith

pub assigns_grow : (v : Version) (n : ℕ) → Below v n → Grown v n → (m : ℕ) (c : Forest) (rest : List Token)
    → Fits v assign c → count c ≤ n → Before v (k.Assign, c) (first_of rest)
    → Grows (php v) (s.Operand m) k.Assign c rest
assigns_grow v n below grown m c rest x le h =
    on_left v n grown m TargetOrList k.Assign (word t.Assign ~ place (Operand 19)) (Word t.Assign ∷ Node (s.Operand 19) ∷ []) c rest
    (λ i b f at st y. let q : ((is_expression i || is_list i) ≡ true) × FitsLevel v m (i, b) = target_ok v m i b st
    in (
      q.0,
      q.1,
      inr (goes_assign v i (first_of (leaves f ++ rest))
          (first_is v (word t.Assign ~ place (Operand 19)) t.Assign f rest ((assign_first v).0) refl y) st),
    ))
    (λ i b f at st y. assign_tail_is v m i b (leaves f ++ rest)
    (first_is v (word t.Assign ~ place (Operand 19)) t.Assign f rest ((assign_first v).0) refl y)
    (second_starts v t.Assign (place (Operand 19)) f rest refl y) st)
    (λ i b f at y le'. word_operand v n below 19 19 k.Assign i b t.Assign f rest (looser_19 v) refl level_19 y le'
    (only_behind v k.Assign (node i b f) (first_of rest) ((assign_chain v).0)
    (subst (λ (z : Forest). Before v (k.Assign, z) (first_of rest)) at h)))
    x le

ref_tail_is : (v : Version) (m : ℕ) (i : NodeKind) (b : Forest) (ts : List Token) → first_of ts ≡ t.Assign
    → second_of ts ≡ t.Ampersand → is_target i ≡ true → operand_tail v m (i, b) ts ≡ Some
    (k.AssignRef, Word t.Assign ∷ Word t.Ampersand ∷ Node (s.Operand 19) ∷ [])
ref_tail_is v m i b ts e d h = chosen_is v m i b ts (k.AssignRef, Word t.Assign ∷ Word t.Ampersand ∷ Node (s.Operand 19) ∷ []) (rw e refl) (rw (e, d, h) refl)

ampersand_first : (v : Version) → only_class v (word t.Ampersand ~ place (Operand 19)) t.Ampersand ≡ true
unfolding for_all
ampersand_first V74 = refl
ampersand_first V83 = refl

pub second_is : (v : Version) (w : Terminal) (q : Rule) (d : Terminal) (f : Forest) (rest : List Token)
    → only_class v q d ≡ true → nullable q ≡ false → Fits v (word w ~ q) f → second_of (leaves f ++ rest) ≡ d
second_is v w q d f rest on nn x = let o : (y : Token) × (f' : Forest) × (f ≡ leaf y f')
    × Fits v q f' = split_word v w q f x in ap (λ (z : Forest). second_of (leaves z ++ rest)) o.2
    ∙ first_is v q d o.1 rest on nn o.3

pub refs_grow : (v : Version) (n : ℕ) → Below v n → Grown v n → (m : ℕ) (c : Forest) (rest : List Token)
    → Fits v assign_ref c → count c ≤ n → Before v (k.AssignRef, c) (first_of rest)
    → Grows (php v) (s.Operand m) k.AssignRef c rest
refs_grow v n below grown m c rest x le h =
    on_left v n grown m Target k.AssignRef (word t.Assign ~ word t.Ampersand ~ place (Operand 19)) (Word t.Assign ∷ Word t.Ampersand ∷ Node (s.Operand 19) ∷ []) c rest
    (λ i b f at st y. let q : ((is_expression i || is_list i) ≡ true)
    × FitsLevel v m (i, b) = target_ok v m i b (or_left (is_target i) (is_list i) st)
    in (
      q.0,
      q.1,
      inr (goes_assign v i (first_of (leaves f ++ rest))
          (first_is v (word t.Assign ~ word t.Ampersand ~ place (Operand 19)) t.Assign f rest ((assign_first v).1) refl
          y) (or_left (is_target i) (is_list i) st)),
    ))
    (λ i b f at st y. ref_tail_is v m i b (leaves f ++ rest)
    (first_is v (word t.Assign ~ word t.Ampersand ~ place (Operand 19)) t.Assign f rest ((assign_first v).1) refl
    y) (second_is v t.Assign (word t.Ampersand ~ place (Operand 19)) t.Ampersand f rest (ampersand_first v) refl
    y) st)
    (λ i b f at y le'. words_operand v n below 19 19 k.AssignRef i b t.Assign t.Ampersand f rest (looser_19 v) refl
    level_19 y le' (only_behind v k.AssignRef (node i b f) (first_of rest) ((assign_chain v).1)
    (subst (λ (z : Forest). Before v (k.AssignRef, z) (first_of rest)) at h)))
    x le

compound_tail_is : (v : Version) (m : ℕ) (i : NodeKind) (b : Forest) (ts : List Token)
    → first_of ts ≡ t.CompoundAssign → is_target i ≡ true → operand_tail v m (i, b) ts ≡ Some
    (k.CompoundAssign, Word t.CompoundAssign ∷ Node (s.Operand 19) ∷ [])
compound_tail_is v m i b ts e h = chosen_is v m i b ts (k.CompoundAssign, Word t.CompoundAssign ∷ Node (s.Operand 19) ∷ []) (rw e refl) (rw (e, h) refl)

goes_compound : (v : Version) (i : NodeKind) (c : Terminal) → c ≡ t.CompoundAssign → is_target i ≡ true → goes_behind v i c ≡ true
goes_compound v i c e h = rw e h

pub compounds_grow : (v : Version) (n : ℕ) → Below v n → Grown v n → (m : ℕ) (c : Forest) (rest : List Token)
    → Fits v compound_assign c → count c ≤ n → Before v (k.CompoundAssign, c) (first_of rest)
    → Grows (php v) (s.Operand m) k.CompoundAssign c rest
compounds_grow v n below grown m c rest x le h =
    on_left v n grown m Target k.CompoundAssign (word t.CompoundAssign ~ place (Operand 19)) (Word t.CompoundAssign ∷ Node (s.Operand 19) ∷ []) c rest
    (λ i b f at st y. let q : ((is_expression i || is_list i) ≡ true)
    × FitsLevel v m (i, b) = target_ok v m i b (or_left (is_target i) (is_list i) st)
    in (
      q.0,
      q.1,
      inr (goes_compound v i (first_of (leaves f ++ rest))
          (first_is v (word t.CompoundAssign ~ place (Operand 19)) t.CompoundAssign f rest ((assign_first v).2) refl y)
          st),
    ))
    (λ i b f at st y. compound_tail_is v m i b (leaves f ++ rest) (first_is v (word t.CompoundAssign ~ place (Operand 19)) t.CompoundAssign f rest ((assign_first v).2) refl y) st)
    (λ i b f at y le'. word_operand v n below 19 19 k.CompoundAssign i b t.CompoundAssign f rest (looser_19 v) refl
    level_19 y le' (only_behind v k.CompoundAssign (node i b f) (first_of rest) ((assign_chain v).2)
    (subst (λ (z : Forest). Before v (k.CompoundAssign, z) (first_of rest)) at h)))
    x le

-- ---- ternaries

looser_18 : (v : Version) → looser v 18 17 ≡ true
unfolding for_all
looser_18 V74 = refl
looser_18 V83 = refl

ternary_chain : (v : Version) → (ends_its_chain v k.Ternary ≡ true) × (ends_its_chain v k.ShortTernary ≡ true)
unfolding for_all
ternary_chain V74 = (refl, refl)
ternary_chain V83 = (refl, refl)

ternary_first : (v : Version) → (only_class v (word t.Question ~ expr ~ word t.Colon ~ place (Operand 17)) t.Question
    ≡ true) × (only_class v (word t.Question ~ word t.Colon ~ place (Operand 17)) t.Question ≡ true)
    × (only_class v (word t.Colon ~ place (Operand 17)) t.Colon ≡ true)
unfolding for_all
ternary_first V74 = (refl, refl, refl)
ternary_first V83 = (refl, refl, refl)

abbrev ternary_items : List Item
ternary_items = Word t.Question ∷ any ∷ Word t.Colon ∷ Node (s.Operand 17) ∷ []

abbrev short_items : List Item
short_items = Word t.Question ∷ Word t.Colon ∷ Node (s.Operand 17) ∷ []

left_fits_is : (v : Version) (e : ℕ) → e ≤ before_ternary v → left_fits v e ≡ true
left_fits_is V74 e le = le_true e 18 le
left_fits_is V83 e le = le_true e 17 le

before_18 : (v : Version) → before_ternary v ≤ 18
before_18 V74 = omega arith
before_18 V83 = omega arith

no_short : (v : Version) (m left : ℕ) (i : NodeKind) (d : Terminal) → begins_expression d ≡ true → 18 ≤ m
    → left ≤ before_ternary v → ternary_tail v m left i d ≡ Some (k.Ternary, ternary_items)
no_short v m left i t.Colon h a e = absurd (false_true h)
no_short v m left i d h a e = rw (le_true 18 m a, left_fits_is v left e) refl

ternary_tail_is : (v : Version) (m : ℕ) (i : NodeKind) (b : Forest) (ts : List Token) → first_of ts ≡ t.Question
    → begins_expression (second_of ts) ≡ true → 18 ≤ m → left_edge v (i, b) ≤ before_ternary v
    → operand_tail v m (i, b) ts ≡ Some (k.Ternary, ternary_items)
ternary_tail_is v m i b ts e d a l = chosen_is v m i b ts (k.Ternary, ternary_items) (rw e refl)
    (subst (λ (c : Terminal). operator_by v m (left_edge v (i, b)) i c ts ≡ Some (k.Ternary, ternary_items)) (sym e)
    (no_short v m (left_edge v (i, b)) i (second_of ts) d a l))

short_tail_is : (v : Version) (m : ℕ) (i : NodeKind) (b : Forest) (ts : List Token) → first_of ts ≡ t.Question
    → second_of ts ≡ t.Colon → 18 ≤ m → short_left_fits v (left_edge v (i, b)) i ≡ true
    → operand_tail v m (i, b) ts ≡ Some (k.ShortTernary, short_items)
short_tail_is v m i b ts e d a l = chosen_is v m i b ts (k.ShortTernary, short_items) (rw e refl)
    (subst (λ (c : Terminal). operator_by v m (left_edge v (i, b)) i c ts ≡ Some (k.ShortTernary, short_items))
    (sym e) (rw (d, le_true 18 m a, l) refl))

fits_18 : (v : Version) (m : ℕ) (x : Tree) → is_prefix x.0 ≡ false → level v x ≡ 18 → FitsLevel v m x → 18 ≤ m
fits_18 v m x p e h = elim h [ inl le ↦ subst (λ (z : ℕ). z ≤ m) e le | inr q ↦ absurd (false_true (sym p ∙ q)) ]

-- what is left of a `?`
left_question : (v : Version) (m : ℕ) (i : NodeKind) (b : Forest) (c : Terminal) → c ≡ t.Question
    → is_expression i ≡ true → edge v (i, b) ≤ 18 → 18 ≤ m → ((is_expression i || is_list i) ≡ true)
    × FitsLevel v m (i, b) × Before v (i, b) c
left_question v m i b c e x le a = (
  or_left (is_expression i) (is_list i) x,
  inl (le_trans3 (level v (i, b)) (edge v (i, b)) m (level_of_node v (i, b)) (le_trans3 (edge v (i, b)) 18 m le a)),
  inl (not_list i x, inr (inr (subst (λ (z : Terminal). edge v (i, b) ≤ behind_limit v z) (sym e) le, subst (λ (z : Terminal). 0 < behind_level v z) (sym e) some))),
)
  where
    some : 0 < 18
    some = omega arith

level_18 : (z : Forest) → 18 ≤ 18
level_18 z = omega arith

ternary_walk : (v : Version) (n : ℕ) → Below v n → (i : NodeKind) (b f : Forest) (rest : List Token)
    → Fits v (word t.Question ~ expr ~ word t.Colon ~ place (Operand 17)) f → count f ≤ n
    → Behind v (k.Ternary, node i b f) (first_of rest) → Walks (php v) ternary_items f rest
ternary_walk v n below i b f rest x le h =
    let o : (g1 : Forest) × (g2 : Forest) × Fits v (word t.Question) g1
    × Fits v (expr ~ word t.Colon ~ place (Operand 17)) g2
    × (f ≡ g1 +++ g2) = both_is v (word t.Question) (expr ~ word t.Colon ~ place (Operand 17)) f x in
    let u : (y : Token) × (o.0 ≡ leaf y none) × (accepts v t.Question y ≡ true) = word_is v t.Question o.0 o.2 in
    let o1 : (g1 : Forest) × (g2 : Forest) × Fits v expr g1 × Fits v (word t.Colon ~ place (Operand 17)) g2
    × (o.1 ≡ g1 +++ g2) = both_is v expr (word t.Colon ~ place (Operand 17)) o.1 o.3 in
    let a : (i : NodeKind) × (b : Forest) × (o1.0 ≡ node i b none) × (may_stand v (Operand 24) (i, b) ≡ true) × IsNode v i b = place_is v (Operand 24) o1.0 o1.2 in
    let o2 : (g1 : Forest) × (g2 : Forest) × Fits v (word t.Colon) g1 × Fits v (place (Operand 17)) g2
    × (o1.1 ≡ g1 +++ g2) = both_is v (word t.Colon) (place (Operand 17)) o1.1 o1.3 in
    let u2 : (y : Token) × (o2.0 ≡ leaf y none) × (accepts v t.Colon y ≡ true) = word_is v t.Colon o2.0 o2.2 in
    let w : (i : NodeKind) × (b : Forest) × (o2.1 ≡ node i b none) × (may_stand v (Operand 17) (i, b) ≡ true) × IsNode v i b = place_is v (Operand 17) o2.1 o2.3 in
    let at1 : o1.1 ≡ leaf u2.0 (node w.0 w.1 none) = o2.4 ∙ ap (λ (z : Forest). z +++ o2.1) u2.1 ∙ ap (λ (z : Forest). leaf u2.0 z) w.2 in
    let at : f ≡ leaf u.0 (node a.0 a.1 (leaf u2.0 (node w.0 w.1 none))) = o.4 ∙ ap (λ (z : Forest). z +++ o.1) u.1
    ∙ ap (λ (z : Forest). leaf u.0 z) (o1.4 ∙ ap (λ (z : Forest). z +++ o1.1) a.2
    ∙ ap (λ (z : Forest). node a.0 a.1 z) at1) in
    let two : (count a.1 < n) × (count (leaf u2.0 (node w.0 w.1 none)) ≤ n) = nodes_count a.0 a.1 (leaf u2.0 (node w.0 w.1 none)) n (subst (λ (z : Forest). count z ≤ n) at le) in
    let colon : first_of (leaves (leaf u2.0 (node w.0 w.1 none)) ++ rest) ≡ t.Colon =
    ap (λ (z : Forest). first_of (leaves z ++ rest)) (sym at1)
    ∙ first_is v (word t.Colon ~ place (Operand 17)) t.Colon o1.1 rest ((ternary_first v).2) refl o1.3 in
    let mid : Spells (php v) (s.Operand 24) (a.0, a.1) (leaves (leaf u2.0 (node w.0 w.1 none)) ++ rest) =
    below.placed (Operand 24) (s.Operand 24) a.0 a.1 (leaves (leaf u2.0 (node w.0 w.1 none)) ++ rest) refl two.0
    a.3 a.4 (inl (ap closes_expression colon)) in
    subst (λ (z : Forest). Walks (php v) ternary_items z rest) (sym at)
    (a_word u.2 (child mid.0 mid.1 (a_word u2.2 (last_operand v n below 18 17 k.Ternary
    (node i b (leaf u.0 (node a.0 a.1 (leaf u2.0 none)))) w.0 w.1 rest (looser_18 v) refl (level_18 none)
    ((nodes_count w.0 w.1 none n two.1).0) w.3 w.4
    (subst (λ (z : Forest). Behind v (k.Ternary, node i b z) (first_of rest)) at h)))))

pub ternaries_grow : (v : Version) (n : ℕ) → Below v n → Grown v n → (m : ℕ) (c : Forest) (rest : List Token)
    → Fits v (ternary v) c → count c ≤ n → FitsLevel v m (k.Ternary, c) → Before v (k.Ternary, c) (first_of rest)
    → Grows (php v) (s.Operand m) k.Ternary c rest
ternaries_grow v n below grown m c rest x le fl h =
    let a : 18 ≤ m = fits_18 v m (k.Ternary, c) refl refl fl in
    on_left v n grown m (Left (before_ternary v)) k.Ternary (word t.Question ~ expr ~ word t.Colon ~ place (Operand 17)) ternary_items c rest
    (λ i b f at st y. let q : (is_expression i ≡ true) × (edge v (i, b) ≤ before_ternary v) =
    left_of v (before_ternary v) i b st in left_question v m i b (first_of (leaves f ++ rest))
    (first_is v (word t.Question ~ expr ~ word t.Colon ~ place (Operand 17)) t.Question f rest
    ((ternary_first v).0) refl y) q.0 (le_trans3 (edge v (i, b)) (before_ternary v) 18 q.1 (before_18 v)) a)
    (λ i b f at st y. let q : (is_expression i ≡ true) × (edge v (i, b) ≤ before_ternary v) =
    left_of v (before_ternary v) i b st in ternary_tail_is v m i b (leaves f ++ rest)
    (first_is v (word t.Question ~ expr ~ word t.Colon ~ place (Operand 17)) t.Question f rest
    ((ternary_first v).0) refl y) (expr_second (second_of (leaves f ++ rest))
    (second_starts v t.Question (expr ~ word t.Colon ~ place (Operand 17)) f rest refl y)) a
    (subst (λ (z : ℕ). z ≤ before_ternary v) (sym (left_edge_is v i b (not_list i q.0))) q.1))
    (λ i b f at y le'. ternary_walk v n below i b f rest y le'
    (only_behind v k.Ternary (node i b f) (first_of rest) ((ternary_chain v).0)
    (subst (λ (z : Forest). Before v (k.Ternary, z) (first_of rest)) at h)))
    x le
  where
    expr_second : (d : Terminal) → starts v (expr ~ word t.Colon ~ place (Operand 17)) d ≡ true → begins_expression d ≡ true
    expr_second d e = or_false_is (begins_expression d) e
      where
        or_false_is : (b : Bool) → (b || false) ≡ true → b ≡ true
        or_false_is true e = refl
        or_false_is false e = e

short_grows : (v : Version) (n : ℕ) → Below v n → Grown v n → (m : ℕ) (P : Place) (c : Forest) (rest : List Token)
    → ((i : NodeKind) (b : Forest) → may_stand v P (i, b) ≡ true → (is_expression i ≡ true) × (edge v (i, b) ≤ 18)
    × (short_left_fits v (edge v (i, b)) i ≡ true)) → Fits v
    (place P ~ word t.Question ~ word t.Colon ~ place (Operand 17)) c → count c ≤ n
    → FitsLevel v m (k.ShortTernary, c) → Before v (k.ShortTernary, c) (first_of rest)
    → Grows (php v) (s.Operand m) k.ShortTernary c rest
short_grows v n below grown m P c rest ok x le fl h =
    let a : 18 ≤ m = fits_18 v m (k.ShortTernary, c) refl refl fl in
    on_left v n grown m P k.ShortTernary (word t.Question ~ word t.Colon ~ place (Operand 17)) short_items c rest
    (λ i b f at st y. let q : (is_expression i ≡ true) × (edge v (i, b) ≤ 18)
    × (short_left_fits v (edge v (i, b)) i ≡ true) = ok i b st
    in left_question v m i b (first_of (leaves f ++ rest))
    (first_is v (word t.Question ~ word t.Colon ~ place (Operand 17)) t.Question f rest ((ternary_first v).1) refl
    y) q.0 q.1 a)
    (λ i b f at st y. let q : (is_expression i ≡ true) × (edge v (i, b) ≤ 18)
    × (short_left_fits v (edge v (i, b)) i ≡ true) = ok i b st
    in short_tail_is v m i b (leaves f ++ rest)
    (first_is v (word t.Question ~ word t.Colon ~ place (Operand 17)) t.Question f rest ((ternary_first v).1) refl
    y) (second_is v t.Question (word t.Colon ~ place (Operand 17)) t.Colon f rest ((ternary_first v).2) refl y) a
    (subst (λ (z : ℕ). short_left_fits v z i ≡ true) (sym (left_edge_is v i b (not_list i q.0))) q.2))
    (λ i b f at y le'. words_operand v n below 18 17 k.ShortTernary i b t.Question t.Colon f rest (looser_18 v) refl
    level_18 y le' (only_behind v k.ShortTernary (node i b f) (first_of rest) ((ternary_chain v).1)
    (subst (λ (z : Forest). Before v (k.ShortTernary, z) (first_of rest)) at h)))
    x le

short_left : (v : Version) (i : NodeKind) (b : Forest) → may_stand v (Left (before_ternary v)) (i, b) ≡ true
    → (is_expression i ≡ true) × (edge v (i, b) ≤ 18) × (short_left_fits v (edge v (i, b)) i ≡ true)
short_left v i b st =
    let q : (is_expression i ≡ true) × (edge v (i, b) ≤ before_ternary v) = left_of v (before_ternary v) i b st in (
      q.0,
      le_trans3 (edge v (i, b)) (before_ternary v) 18 q.1 (before_18 v),
      or_left (left_fits v (edge v (i, b))) (nat_le (edge v (i, b)) 18 && is_short_ternary i)
          (left_fits_is v (edge v (i, b)) q.1),
    )

pub short_is_expression : (i : NodeKind) → is_short_ternary i ≡ true → is_expression i ≡ true
short_is_expression k.ShortTernary e = refl
short_is_expression other e = absurd (false_true e)

short_short : (v : Version) (i : NodeKind) (b : Forest) → may_stand v LeftShort (i, b) ≡ true
    → (is_expression i ≡ true) × (edge v (i, b) ≤ 18) × (short_left_fits v (edge v (i, b)) i ≡ true)
short_short v i b st =
    let q : (is_short_ternary i ≡ true) × (nat_le (edge v (i, b)) 18 ≡ true) = and_parts (is_short_ternary i) (nat_le (edge v (i, b)) 18) st in (
      short_is_expression i q.0,
      leb-true (edge v (i, b)) 18 q.1,
      or_right (left_fits v (edge v (i, b))) (nat_le (edge v (i, b)) 18 && is_short_ternary i)
          (and_from (nat_le (edge v (i, b)) 18) (is_short_ternary i) q.1 q.0),
    )

pub shorts_grow : (v : Version) (n : ℕ) → Below v n → Grown v n → (m : ℕ) (c : Forest) (rest : List Token)
    → Fits v (short_ternary v) c → count c ≤ n → FitsLevel v m (k.ShortTernary, c)
    → Before v (k.ShortTernary, c) (first_of rest) → Grows (php v) (s.Operand m) k.ShortTernary c rest
shorts_grow v n below grown m c rest (is_both (is_first x) y e) le fl h = short_grows v n below grown m (Left (before_ternary v)) c rest (short_left v) (is_both x y e) le fl h
shorts_grow v n below grown m c rest (is_both (is_second x) y e) le fl h = short_grows v n below grown m LeftShort c rest (short_short v) (is_both x y e) le fl h
