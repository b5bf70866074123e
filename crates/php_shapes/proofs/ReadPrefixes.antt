-- Prefixes.
use Rattle.std.proofs.Common.{◌≡◌, ℕ, ◌≤◌, Bool, true, List, [], ◌∷◌, ◌++◌, inl, inr, Some, refl, sym, ap, ◌∙◌, subst, arith}
use Rattle.php_tree.specs.declared.kind.NodeKind.{NodeKind}
use Rattle.php_tree.specs.declared.kind.NodeKind.TheVariants as k
use Rattle.php_tree.specs.declared.token.Token.{Token}
use Rattle.php_tree.specs.declared.version.Version.{Version}
use Rattle.php_tree.specs.declared.version.Version.TheVariants.{V74, V83}
use Rattle.php_tree.specs.Tree.{Forest, none, leaf, node, ◌+++◌, leaves, count}
use Rattle.php_terminals.specs.declared.terminal.Terminal.{Terminal}
use Rattle.php_terminals.specs.declared.terminal.Terminal.TheVariants as t
use Rattle.php_terminals.specs.Classify.{is_sign_or_tight, terminal}
use Rattle.php_terminals.specs.Ahead.{first_of}
use Rattle.php_forms.specs.declared.item.Sort.TheVariants as s
use Rattle.php_forms.specs.declared.item.Item.TheVariants.{Word, Node}
use Rattle.php_forms.specs.Grammar.{Grows, Spells, ends, child, head, word as a_word}
use Rattle.php_grammar.specs.Accepts.{accepts, same_class}
use Rattle.php_grammar.specs.Edges.{edge}
use Rattle.php_grammar.specs.Levels.{level, prefix_level}
use Rattle.php_grammar.specs.Operands.{operand_form}
use Rattle.php_grammar.specs.Tables.{php}
use Rattle.php_shapes.specs.Notation.{word, place, ◌~◌}
use Rattle.php_shapes.specs.Operators.{cast, prefix}
use Rattle.php_shapes.specs.Places.{Operand, Target, may_stand}
use Rattle.php_shapes.specs.Shapes.{Fits, is_both, is_first, is_second, IsNode}
use Rattle.php_shapes.proofs.ReadClasses.{accepted, could, for_all, same_is}
use Rattle.php_shapes.proofs.ReadEnds.{Behind, behind_limit, Below}
use Rattle.php_shapes.proofs.ReadMatch.{both_is, false_true, nodes_count, place_is, where_is, where_it, word_is}
use Rattle.php_shapes.proofs.ReadOperands.{Before, ends_its_chain, only_behind, only_first, prefixed}
use Rattle.php_shapes.proofs.ReadStops.{arrow_of_last, edge_of_last, le_trans3, looser}

-- a test of the class that a word may be
abbrev pub word_test : Version → Terminal → (Terminal → Bool) → Bool
word_test v a P = for_all (λ c. where_it (could v a c) (P c))

word_class : (v : Version) (a : Terminal) (P : Terminal → Bool) (x : Token) → word_test v a P ≡ true → accepts v a x ≡ true → P (terminal x) ≡ true
word_class v a P x h e = where_is (could v a) P (terminal x) h (accepted v a x e)

pub alone_class : (v : Version) (a : Terminal) (x : Token) → word_test v a (λ c. same_class c a) ≡ true → accepts v a x ≡ true → terminal x ≡ a
alone_class v a x h e = same_is (terminal x) a (word_class v a (λ c. same_class c a) x h e)

clone_word : (v : Version) → word_test v t.Clone (λ c. same_class c t.Clone) ≡ true
unfolding for_all
clone_word V74 = refl
clone_word V83 = refl

clone_form : (v : Version) (us : List Token) → only_first v t.Clone us → operand_form v us ≡ Some (k.Prefix, Word t.Clone ∷ Node (s.Operand 1) ∷ [])
clone_form v [] e = absurd e
clone_form v (x ∷ xs) e = rw (alone_class v t.Clone x (clone_word v) e) refl

clone_looser : (v : Version) → looser v 1 1 ≡ true
unfolding for_all
clone_looser V74 = refl
clone_looser V83 = refl

clone_level : (v : Version) (x : Token) (f : Forest) → accepts v t.Clone x ≡ true → 1 ≤ level v (k.Prefix, leaf x f)
clone_level v x f e = subst (λ (c : Terminal). 1 ≤ prefix_level c) (sym (alone_class v t.Clone x (clone_word v) e)) (omega arith)

clone_chain : (v : Version) → ends_its_chain v k.Prefix ≡ true
unfolding for_all
clone_chain V74 = refl
clone_chain V83 = refl

pub clone_grows : (v : Version) (n : ℕ) → Below v n → (m : ℕ) (c : Forest) (rest : List Token)
    → Fits v (word t.Clone ~ place (Operand 1)) c → count c ≤ n → Before v (k.Prefix, c) (first_of rest)
    → Grows (php v) (s.Operand m) k.Prefix c rest
clone_grows v n below m c rest x le h = prefixed v n below m 1 1 k.Prefix t.Clone c rest (clone_looser v) refl (clone_chain v) (clone_level v) (clone_form v) x le h

not__word : (v : Version) → word_test v t.Not (λ c. same_class c t.Not) ≡ true
unfolding for_all
not__word V74 = refl
not__word V83 = refl

not__form : (v : Version) (us : List Token) → only_first v t.Not us → operand_form v us ≡ Some (k.Prefix, Word t.Not ∷ Node (s.Operand 5) ∷ [])
not__form v [] e = absurd e
not__form v (x ∷ xs) e = rw (alone_class v t.Not x (not__word v) e) refl

not__looser : (v : Version) → looser v 5 5 ≡ true
unfolding for_all
not__looser V74 = refl
not__looser V83 = refl

not__level : (v : Version) (x : Token) (f : Forest) → accepts v t.Not x ≡ true → 5 ≤ level v (k.Prefix, leaf x f)
not__level v x f e = subst (λ (c : Terminal). 5 ≤ prefix_level c) (sym (alone_class v t.Not x (not__word v) e)) (omega arith)

not__chain : (v : Version) → ends_its_chain v k.Prefix ≡ true
unfolding for_all
not__chain V74 = refl
not__chain V83 = refl

pub not__grows : (v : Version) (n : ℕ) → Below v n → (m : ℕ) (c : Forest) (rest : List Token)
    → Fits v (word t.Not ~ place (Operand 5)) c → count c ≤ n → Before v (k.Prefix, c) (first_of rest)
    → Grows (php v) (s.Operand m) k.Prefix c rest
not__grows v n below m c rest x le h = prefixed v n below m 5 5 k.Prefix t.Not c rest (not__looser v) refl (not__chain v) (not__level v) (not__form v) x le h

cast__word : (v : Version) → word_test v t.Cast (λ c. same_class c t.Cast) ≡ true
unfolding for_all
cast__word V74 = refl
cast__word V83 = refl

cast__form : (v : Version) (us : List Token) → only_first v t.Cast us → operand_form v us ≡ Some (k.Cast, Word t.Cast ∷ Node (s.Operand 3) ∷ [])
cast__form v [] e = absurd e
cast__form v (x ∷ xs) e = rw (alone_class v t.Cast x (cast__word v) e) refl

cast__looser : (v : Version) → looser v 3 3 ≡ true
unfolding for_all
cast__looser V74 = refl
cast__looser V83 = refl

cast__level : (v : Version) (x : Token) (f : Forest) → accepts v t.Cast x ≡ true → 3 ≤ level v (k.Cast, leaf x f)
cast__level v x f e = omega arith

cast__chain : (v : Version) → ends_its_chain v k.Cast ≡ true
unfolding for_all
cast__chain V74 = refl
cast__chain V83 = refl

pub cast__grows : (v : Version) (n : ℕ) → Below v n → (m : ℕ) (c : Forest) (rest : List Token)
    → Fits v (word t.Cast ~ place (Operand 3)) c → count c ≤ n → Before v (k.Cast, c) (first_of rest)
    → Grows (php v) (s.Operand m) k.Cast c rest
cast__grows v n below m c rest x le h = prefixed v n below m 3 3 k.Cast t.Cast c rest (cast__looser v) refl (cast__chain v) (cast__level v) (cast__form v) x le h

print__word : (v : Version) → word_test v t.Print (λ c. same_class c t.Print) ≡ true
unfolding for_all
print__word V74 = refl
print__word V83 = refl

print__form : (v : Version) (us : List Token) → only_first v t.Print us → operand_form v us ≡ Some (k.Print, Word t.Print ∷ Node (s.Operand 20) ∷ [])
print__form v [] e = absurd e
print__form v (x ∷ xs) e = rw (alone_class v t.Print x (print__word v) e) refl

print__looser : (v : Version) → looser v 20 20 ≡ true
unfolding for_all
print__looser V74 = refl
print__looser V83 = refl

print__level : (v : Version) (x : Token) (f : Forest) → accepts v t.Print x ≡ true → 20 ≤ level v (k.Print, leaf x f)
print__level v x f e = omega arith

print__chain : (v : Version) → ends_its_chain v k.Print ≡ true
unfolding for_all
print__chain V74 = refl
print__chain V83 = refl

pub print__grows : (v : Version) (n : ℕ) → Below v n → (m : ℕ) (c : Forest) (rest : List Token)
    → Fits v (word t.Print ~ place (Operand 20)) c → count c ≤ n → Before v (k.Print, c) (first_of rest)
    → Grows (php v) (s.Operand m) k.Print c rest
print__grows v n below m c rest x le h = prefixed v n below m 20 20 k.Print t.Print c rest (print__looser v) refl (print__chain v) (print__level v) (print__form v) x le h

include__word : (v : Version) → word_test v t.Include (λ c. same_class c t.Include) ≡ true
unfolding for_all
include__word V74 = refl
include__word V83 = refl

include__form : (v : Version) (us : List Token) → only_first v t.Include us → operand_form v us ≡ Some (k.Include, Word t.Include ∷ Node (s.Operand 24) ∷ [])
include__form v [] e = absurd e
include__form v (x ∷ xs) e = rw (alone_class v t.Include x (include__word v) e) refl

include__looser : (v : Version) → looser v 24 24 ≡ true
unfolding for_all
include__looser V74 = refl
include__looser V83 = refl

include__level : (v : Version) (x : Token) (f : Forest) → accepts v t.Include x ≡ true → 24 ≤ level v (k.Include, leaf x f)
include__level v x f e = omega arith

include__chain : (v : Version) → ends_its_chain v k.Include ≡ true
unfolding for_all
include__chain V74 = refl
include__chain V83 = refl

pub include__grows : (v : Version) (n : ℕ) → Below v n → (m : ℕ) (c : Forest) (rest : List Token)
    → Fits v (word t.Include ~ place (Operand 24)) c → count c ≤ n → Before v (k.Include, c) (first_of rest)
    → Grows (php v) (s.Operand m) k.Include c rest
include__grows v n below m c rest x le h = prefixed v n below m 24 24 k.Include t.Include c rest (include__looser v)
    refl (include__chain v) (include__level v) (include__form v) x le h

-- ---- signs, `~` and `@`

sign_at : (v : Version) (us : List Token) (c : Terminal) → first_of us ≡ c → is_sign_or_tight c ≡ true
    → operand_form v us ≡ Some (k.Prefix, Word t.SignOrTight ∷ Node (s.Operand 3) ∷ [])
sign_at v us t.Plus e h = rw e refl
sign_at v us t.Minus e h = rw e refl
sign_at v us t.Tight e h = rw e refl
sign_at v us c e h = absurd (false_true h)

sign_word : (v : Version) → word_test v t.SignOrTight is_sign_or_tight ≡ true
unfolding for_all
sign_word V74 = refl
sign_word V83 = refl

sign_form : (v : Version) (us : List Token) → only_first v t.SignOrTight us → operand_form v us ≡ Some (k.Prefix, Word t.SignOrTight ∷ Node (s.Operand 3) ∷ [])
sign_form v [] e = absurd e
sign_form v (x ∷ xs) e = sign_at v (x ∷ xs) (terminal x) refl (word_class v t.SignOrTight is_sign_or_tight x (sign_word v) e)

sign_level_at : (c : Terminal) → is_sign_or_tight c ≡ true → 3 ≤ prefix_level c
sign_level_at t.Plus h = omega arith
sign_level_at t.Minus h = omega arith
sign_level_at t.Tight h = omega arith
sign_level_at c h = absurd (false_true h)

sign_level : (v : Version) (x : Token) (f : Forest) → accepts v t.SignOrTight x ≡ true → 3 ≤ level v (k.Prefix, leaf x f)
sign_level v x f e = sign_level_at (terminal x) (word_class v t.SignOrTight is_sign_or_tight x (sign_word v) e)

pub sign_grows : (v : Version) (n : ℕ) → Below v n → (m : ℕ) (c : Forest) (rest : List Token)
    → Fits v (word t.SignOrTight ~ place (Operand 3)) c → count c ≤ n → Before v (k.Prefix, c) (first_of rest)
    → Grows (php v) (s.Operand m) k.Prefix c rest
sign_grows v n below m c rest x le h = prefixed v n below m 3 3 k.Prefix t.SignOrTight c rest (cast__looser v) refl (not__chain v) (sign_level v) (sign_form v) x le h

-- ---- casts of 7.4

old_word : word_test V74 t.OldCast (λ c. same_class c t.OldCast) ≡ true
unfolding for_all
old_word = refl

old_form : (us : List Token) → only_first V74 t.OldCast us → operand_form V74 us ≡ Some (k.Cast, Word t.OldCast ∷ Node (s.Operand 3) ∷ [])
old_form [] e = absurd e
old_form (x ∷ xs) e = rw (alone_class V74 t.OldCast x old_word e) refl

old_level : (x : Token) (f : Forest) → accepts V74 t.OldCast x ≡ true → 3 ≤ level V74 (k.Cast, leaf x f)
old_level x f e = omega arith

old_grows : (n : ℕ) → Below V74 n → (m : ℕ) (c : Forest) (rest : List Token)
    → Fits V74 (word t.OldCast ~ place (Operand 3)) c → count c ≤ n → Before V74 (k.Cast, c) (first_of rest)
    → Grows (php V74) (s.Operand m) k.Cast c rest
old_grows n below m c rest x le h = prefixed V74 n below m 3 3 k.Cast t.OldCast c rest (cast__looser V74) refl (cast__chain V74) old_level old_form x le h

pub casts_grow : (v : Version) (n : ℕ) → Below v n → (m : ℕ) (c : Forest) (rest : List Token) → Fits v (cast v) c
    → count c ≤ n → Before v (k.Cast, c) (first_of rest) → Grows (php v) (s.Operand m) k.Cast c rest
casts_grow V83 n below m c rest x le h = cast__grows V83 n below m c rest x le h
casts_grow V74 n below m c rest (is_both (is_first x) y e) le h = cast__grows V74 n below m c rest (is_both x y e) le h
casts_grow V74 n below m c rest (is_both (is_second x) y e) le h = old_grows n below m c rest (is_both x y e) le h

-- ---- `++` and `--` before what is written

step_word : (v : Version) → word_test v t.Step (λ c. same_class c t.Step) ≡ true
unfolding for_all
step_word V74 = refl
step_word V83 = refl

step_form : (v : Version) (us : List Token) → only_first v t.Step us → operand_form v us ≡ Some (k.Prefix, Word t.Step ∷ Node s.Place ∷ [])
step_form v [] e = absurd e
step_form v (x ∷ xs) e = rw (alone_class v t.Step x (step_word v) e) refl

place_behind : (v : Version) (j : NodeKind) (g : Forest) (i : NodeKind) (b : Forest) (c : Terminal) → Behind v (j, g +++ node i b none) c → Behind v (i, b) c
place_behind v j g i b c e = elim e [
  | inl h ↦ inl h
  | inr h ↦ elim h [
    | inl q ↦ inr (inl (q.0, arrow_of_last j g i b q.1))
    | inr q ↦ inr (inr (le_trans3 (edge v (i, b)) (edge v (j, g +++ node i b none)) (behind_limit v c) (edge_of_last v j g i b) q.0, q.1))
  ]
]

pub step_grows : (v : Version) (n : ℕ) → Below v n → (m : ℕ) (c : Forest) (rest : List Token)
    → Fits v (word t.Step ~ place Target) c → count c ≤ n → Before v (k.Prefix, c) (first_of rest)
    → Grows (php v) (s.Operand m) k.Prefix c rest
step_grows v n below m c rest x le h =
    let o : (g1 : Forest) × (g2 : Forest) × Fits v (word t.Step) g1 × Fits v (place Target) g2 × (c ≡ g1 +++ g2) = both_is v (word t.Step) (place Target) c x in
    let u : (y : Token) × (o.0 ≡ leaf y none) × (accepts v t.Step y ≡ true) = word_is v t.Step o.0 o.2 in
    let w : (i : NodeKind) × (b : Forest) × (o.1 ≡ node i b none) × (may_stand v Target (i, b) ≡ true) × IsNode v i b = place_is v Target o.1 o.3 in
    let at : c ≡ leaf u.0 (node w.0 w.1 none) = o.4 ∙ ap (λ (z : Forest). z +++ o.1) u.1 ∙ ap (λ (z : Forest). leaf u.0 z) w.2 in
    let y : Spells (php v) s.Place (w.0, w.1) rest = below.placed Target s.Place w.0 w.1 rest refl
    ((nodes_count w.0 w.1 none n (subst (λ (z : Forest). count z ≤ n) at le)).0) w.3 w.4
    (place_behind v k.Prefix (leaf u.0 none) w.0 w.1 (first_of rest)
    (only_behind v k.Prefix (leaf u.0 (node w.0 w.1 none)) (first_of rest) (not__chain v)
    (subst (λ (z : Forest). Before v (k.Prefix, z) (first_of rest)) at h))) in
    subst (λ (z : Forest). Grows (php v) (s.Operand m) k.Prefix z rest) (sym at)
    (head (step_form v (leaves (leaf u.0 (node w.0 w.1 none)) ++ rest) u.2) (a_word u.2 (child y.0 y.1 ends)))

pub prefixes_grow : (v : Version) (n : ℕ) → Below v n → (m : ℕ) (c : Forest) (rest : List Token) → Fits v prefix c
    → count c ≤ n → Before v (k.Prefix, c) (first_of rest) → Grows (php v) (s.Operand m) k.Prefix c rest
prefixes_grow v n below m c rest (is_first x) le h = clone_grows v n below m c rest x le h
prefixes_grow v n below m c rest (is_second (is_first x)) le h = sign_grows v n below m c rest x le h
prefixes_grow v n below m c rest (is_second (is_second (is_first x))) le h = not__grows v n below m c rest x le h
prefixes_grow v n below m c rest (is_second (is_second (is_second x))) le h = step_grows v n below m c rest x le h
