-- Expressions that begin with a word of their own.
use Rattle.std.proofs.Common.{◌≡◌, ℕ, ◌<◌, ◌≤◌, Bool, true, false, not, ◌&&◌, ◌||◌, List, [], ◌∷◌, ◌++◌, ◌⊎◌, inl, inr, Some, refl, sym, ap, ◌∙◌, subst, nat_eq, nat_lt}
use Rattle.std.proofs.lemmas.Bool.{lt-ltb, or_right}
use Rattle.php_tree.specs.declared.kind.NodeKind.{NodeKind}
use Rattle.php_tree.specs.declared.kind.NodeKind.TheVariants as k
use Rattle.php_tree.specs.declared.token.Token.{Token}
use Rattle.php_tree.specs.declared.version.Version.{Version}
use Rattle.php_tree.specs.declared.version.Version.TheVariants.{V74, V83}
use Rattle.php_tree.specs.Tree.{Forest, Tree, none, leaf, node, ◌+++◌, leaves, count}
use Rattle.php_terminals.specs.declared.terminal.Terminal.{Terminal}
use Rattle.php_terminals.specs.declared.terminal.Terminal.TheVariants as t
use Rattle.php_terminals.specs.Ahead.{first_of, second_of}
use Rattle.php_forms.specs.declared.item.Sort.TheVariants as s
use Rattle.php_forms.specs.declared.item.Group.TheVariants as g
use Rattle.php_forms.specs.declared.item.Item.{Item}
use Rattle.php_forms.specs.declared.item.Item.TheVariants.{Word, Node, Part, Repeats}
use Rattle.php_forms.specs.Forms.{any}
use Rattle.php_forms.specs.Grammar.{Walks, ends, child, word as a_word, Grows, head, Spells}
use Rattle.php_grammar.specs.Accepts.{accepts, same_class}
use Rattle.php_grammar.specs.Bases.{is_list}
use Rattle.php_grammar.specs.Levels.{level}
use Rattle.php_grammar.specs.Operands.{operand_form}
use Rattle.php_grammar.specs.Tables.{php}
use Rattle.php_shapes.specs.Forms.{form}
use Rattle.php_shapes.specs.Nearest.{is_to}
use Rattle.php_shapes.specs.Notation.{Rule, word, place, ◌~◌}
use Rattle.php_shapes.specs.Places.{Operand, may_stand, is_expression, is_prefix}
use Rattle.php_shapes.specs.Shapes.{Fits, IsNode}
use Rattle.php_shapes.proofs.ReadClasses.{everywhere, for_all, same_is}
use Rattle.php_shapes.proofs.ReadFirst.{Begins, nullable, rule_begins, starts}
use Rattle.php_shapes.proofs.ReadEnds.{Behind, behind_level, Below, closes_expression, goes_behind}
use Rattle.php_shapes.proofs.ReadMatch.{begins_there, both_is, false_true, fits_alone, matched, matches, nodes_count, place_is, where_is, where_it, word_is}
use Rattle.php_shapes.proofs.ReadStops.{last_ends, looser}

-- An expression or a list form stands before a token of a class.
abbrev pub Before : Version → Tree → Terminal → Type 0
Before v x c = ((is_list x.0 ≡ false) × Behind v x c) ⊎ (goes_behind v x.0 c ≡ true)

-- the classes before which a node of a kind may stand
abbrev pub before_class : Version → NodeKind → Terminal → Bool
before_class v j c = (not (is_list j) && (closes_expression c || is_to c || nat_lt 0 (behind_level v c))) || goes_behind v j c

-- the level of a node may stand where this one is the loosest
abbrev pub FitsLevel : Version → ℕ → Tree → Type 0
FitsLevel v m x = (level v x ≤ m) ⊎ (is_prefix x.0 ≡ true)

-- Expressions and list forms of fewer than n nodes grow, before what they may stand before.
pub record Grown (v : Version) (n : ℕ) : Type 0 where
  pub operand : (m : ℕ) (j : NodeKind) (c : Forest) (rest : List Token) → count c < n
      → (is_expression j || is_list j) ≡ true → FitsLevel v m (j, c) → IsNode v j c → Before v (j, c) (first_of rest)
      → Grows (php v) (s.Operand m) j c rest

before_is : (v : Version) (j : NodeKind) (a b c d : Bool) → (a || b || c) ≡ true → ((true && (a || b || c)) || d) ≡ true
before_is v j true b c d h = refl
before_is v j false true c d h = refl
before_is v j false false true d h = refl
before_is v j false false false d h = absurd (false_true h)

lt_is : (n : ℕ) → 0 < n → nat_lt 0 n ≡ true
lt_is n lt = lt-ltb 0 n lt

pub class_before : (v : Version) (j : NodeKind) (b : Forest) (c : Terminal) → Before v (j, b) c → before_class v j c ≡ true
class_before v j b c h = elim h [
  | inl q ↦ rw (q.0) (before_is v j (closes_expression c) (is_to c) (nat_lt 0 (behind_level v c)) (goes_behind v j c)
      (three (closes_expression c) (is_to c) (nat_lt 0 (behind_level v c))
      (elim q.1 [
        | inl e ↦ inl e
        | inr e
            ↦ elim e [ inl u ↦ inr (inl u.0) | inr u ↦ inr (inr (lt_is (behind_level v c) u.1)) ]
      ])))
  | inr q ↦ or_right (not (is_list j) && (closes_expression c || is_to c || nat_lt 0 (behind_level v c))) (goes_behind v j c) q
]
  where
    three : (a b c : Bool) → (a ≡ true) ⊎ (b ≡ true) ⊎ (c ≡ true) → (a || b || c) ≡ true
    three true b c h = refl
    three false true c h = refl
    three false false true h = refl
    three false false false h = elim h [ inl e ↦ e | inr e ↦ elim e [ inl u ↦ u | inr u ↦ u ] ]

-- ---- the first two tokens

-- all that a rule begins with is one class
abbrev pub only_class : Version → Rule → Terminal → Bool
only_class v r w = for_all (λ c. where_it (starts v r c) (same_class c w))

pub first_is : (v : Version) (r : Rule) (w : Terminal) (c : Forest) (us : List Token) → only_class v r w ≡ true → nullable r ≡ false → Fits v r c → first_of (leaves c ++ us) ≡ w
first_is v r w c us p nn x =
    same_is (first_of (leaves c ++ us)) w (where_is (starts v r) (λ d. same_class d w) (first_of (leaves c ++ us)) p
    (begins_there (starts v r) (leaves c) us
    (subst (λ (b : Bool). Begins (starts v r) b (leaves c)) nn (rule_begins v x))))

pub second_starts : (v : Version) (w : Terminal) (b : Rule) (c : Forest) (us : List Token) → nullable b ≡ false
    → Fits v (word w ~ b) c → starts v b (second_of (leaves c ++ us)) ≡ true
second_starts v w b c us nn x =
    let p : (g1 : Forest) × (g2 : Forest) × Fits v (word w) g1 × Fits v b g2 × (c ≡ g1 +++ g2) = both_is v (word w) b c x in
    let q : (u : Token) × (p.0 ≡ leaf u none) × (accepts v w u ≡ true) = word_is v w p.0 p.2 in
    subst (λ (f : Forest). starts v b (second_of (leaves f ++ us)) ≡ true) (sym (p.4 ∙ ap (λ (f : Forest). f +++ p.1) q.1))
    (begins_there (starts v b) (leaves p.1) us (subst (λ (e : Bool). Begins (starts v b) e (leaves p.1)) nn (rule_begins v p.3)))

-- ---- heads

-- a node whose form its tokens choose
pub grow_head : (v : Version) (n : ℕ) → Below v n → (m : ℕ) (j : NodeKind) (r : Rule) (items : List Item) (c : Forest)
    (rest : List Token) → matches v 60 false (r ∷ []) items (before_class v j) ≡ true
    → operand_form v (leaves c ++ rest) ≡ Some (j, items) → Fits v r c → count c ≤ n → Before v (j, c) (first_of rest)
    → Grows (php v) (s.Operand m) j c rest
grow_head v n below m j r items c rest ma e x le b =
    head e (matched v n below 60 false (r ∷ []) items (before_class v j) c rest ma (fits_alone v r c x) le (class_before v j c (first_of rest) b) (λ z. absurd (false_true z)))

-- a node whose first token chooses its form
pub atom : (v : Version) (n : ℕ) → Below v n → (m : ℕ) (j : NodeKind) (r : Rule) (w : Terminal) (items : List Item)
    (c : Forest) (rest : List Token) → only_class v r w ≡ true → nullable r ≡ false
    → ((ts : List Token) → first_of ts ≡ w → operand_form v ts ≡ Some (j, items))
    → matches v 60 false (r ∷ []) items (before_class v j) ≡ true → Fits v r c → count c ≤ n
    → Before v (j, c) (first_of rest) → Grows (php v) (s.Operand m) j c rest
atom v n below m j r w items c rest on nn f ma x le b = grow_head v n below m j r items c rest ma (f (leaves c ++ rest) (first_is v r w c rest on nn x)) x le b

-- ---- prefixes

-- the first token is of a class
abbrev pub only_first : Version → Terminal → List Token → Type 0
only_first v a [] = ⊥
only_first v a (x ∷ xs) = accepts v a x ≡ true

-- nothing goes on behind nodes of a kind but operators
abbrev pub ends_its_chain : Version → NodeKind → Bool
ends_its_chain v j = for_all (λ c. not (goes_behind v j c))

pub only_behind : (v : Version) (j : NodeKind) (b : Forest) (c : Terminal) → ends_its_chain v j ≡ true → Before v (j, b) c → Behind v (j, b) c
only_behind v j b c h e = elim e [ inl q ↦ q.1 | inr q ↦ absurd (not_both (goes_behind v j c) q (everywhere (λ d. not (goes_behind v j d)) h c)) ]
  where
    not_both : (a : Bool) → a ≡ true → not a ≡ true → ⊥
    not_both true e f = false_true f
    not_both false e f = false_true e

-- the last operand of a node
pub last_operand : (v : Version) (n : ℕ) → Below v n → (p m : ℕ) (j : NodeKind) (g : Forest) (i : NodeKind)
    (b : Forest) (rest : List Token) → looser v p m ≡ true → nat_eq m m ≡ true → p ≤ level v (j, g +++ node i b none)
    → count b < n → may_stand v (Operand m) (i, b) ≡ true → IsNode v i b
    → Behind v (j, g +++ node i b none) (first_of rest) → Walks (php v) (Node (s.Operand m) ∷ []) (node i b none) rest
last_operand v n below p m j g i b rest lo same le lt st x h =
    let y : Spells (php v) (s.Operand m) (i, b) rest = below.placed (Operand m) (s.Operand m) i b rest same lt st x (last_ends v p m j g i b (first_of rest) lo le h) in
    child y.0 y.1 ends

-- a word and an operand
pub prefixed : (v : Version) (n : ℕ) → Below v n → (m p q : ℕ) (j : NodeKind) (a : Terminal) (c : Forest)
    (rest : List Token) → looser v p q ≡ true → nat_eq q q ≡ true → ends_its_chain v j ≡ true
    → ((x : Token) (f : Forest) → accepts v a x ≡ true → p ≤ level v (j, leaf x f))
    → ((us : List Token) → only_first v a us → operand_form v us ≡ Some (j, Word a ∷ Node (s.Operand q) ∷ []))
    → Fits v (word a ~ place (Operand q)) c → count c ≤ n → Before v (j, c) (first_of rest)
    → Grows (php v) (s.Operand m) j c rest
prefixed v n below m p q j a c rest lo same chain lev f x le h =
    let o : (g1 : Forest) × (g2 : Forest) × Fits v (word a) g1 × Fits v (place (Operand q)) g2 × (c ≡ g1 +++ g2) = both_is v (word a) (place (Operand q)) c x in
    let u : (y : Token) × (o.0 ≡ leaf y none) × (accepts v a y ≡ true) = word_is v a o.0 o.2 in
    let w : (i : NodeKind) × (b : Forest) × (o.1 ≡ node i b none) × (may_stand v (Operand q) (i, b) ≡ true) × IsNode v i b = place_is v (Operand q) o.1 o.3 in
    let at : c ≡ leaf u.0 (node w.0 w.1 none) = o.4 ∙ ap (λ (z : Forest). z +++ o.1) u.1 ∙ ap (λ (z : Forest). leaf u.0 z) w.2 in
    subst (λ (z : Forest). Grows (php v) (s.Operand m) j z rest) (sym at)
    (head (f (leaves (leaf u.0 (node w.0 w.1 none)) ++ rest) u.2)
    (a_word u.2 (last_operand v n below p q j (leaf u.0 none) w.0 w.1 rest lo same (lev u.0 (node w.0 w.1 none) u.2)
    ((nodes_count w.0 w.1 none n (subst (λ (z : Forest). count z ≤ n) at le)).0) w.3 w.4
    (only_behind v j (leaf u.0 (node w.0 w.1 none)) (first_of rest) chain
    (subst (λ (z : Forest). Before v (j, z) (first_of rest)) at h)))))

number_test : (v : Version) → matches v 60 false (word t.Int ∷ []) (Word t.Int ∷ []) (before_class v k.Number) ≡ true
unfolding for_all
number_test V74 = refl
number_test V83 = refl

number_first : (v : Version) → only_class v (word t.Int) t.Int ≡ true
unfolding for_all
number_first V74 = refl
number_first V83 = refl

number_form : (v : Version) (ts : List Token) → first_of ts ≡ t.Int → operand_form v ts ≡ Some (k.Number, Word t.Int ∷ [])
number_form v ts e = rw e refl

pub number_grows : (v : Version) (n : ℕ) → Below v n → (m : ℕ) (c : Forest) (rest : List Token)
    → Fits v (word t.Int) c → count c ≤ n → Before v (k.Number, c) (first_of rest)
    → Grows (php v) (s.Operand m) k.Number c rest
number_grows v n below m c rest x le b = atom v n below m k.Number (word t.Int) t.Int (Word t.Int ∷ []) c rest (number_first v) refl (number_form v) (number_test v) x le b

float_test : (v : Version) → matches v 60 false (word t.Float ∷ []) (Word t.Float ∷ []) (before_class v k.Float) ≡ true
unfolding for_all
float_test V74 = refl
float_test V83 = refl

float_first : (v : Version) → only_class v (word t.Float) t.Float ≡ true
unfolding for_all
float_first V74 = refl
float_first V83 = refl

float_form : (v : Version) (ts : List Token) → first_of ts ≡ t.Float → operand_form v ts ≡ Some (k.Float, Word t.Float ∷ [])
float_form v ts e = rw e refl

pub float_grows : (v : Version) (n : ℕ) → Below v n → (m : ℕ) (c : Forest) (rest : List Token)
    → Fits v (word t.Float) c → count c ≤ n → Before v (k.Float, c) (first_of rest)
    → Grows (php v) (s.Operand m) k.Float c rest
float_grows v n below m c rest x le b = atom v n below m k.Float (word t.Float) t.Float (Word t.Float ∷ []) c rest (float_first v) refl (float_form v) (float_test v) x le b

text_test : (v : Version) → matches v 60 false (word t.Text ∷ []) (Word t.Text ∷ []) (before_class v k.Text) ≡ true
unfolding for_all
text_test V74 = refl
text_test V83 = refl

text_first : (v : Version) → only_class v (word t.Text) t.Text ≡ true
unfolding for_all
text_first V74 = refl
text_first V83 = refl

text_form : (v : Version) (ts : List Token) → first_of ts ≡ t.Text → operand_form v ts ≡ Some (k.Text, Word t.Text ∷ [])
text_form v ts e = rw e refl

pub text_grows : (v : Version) (n : ℕ) → Below v n → (m : ℕ) (c : Forest) (rest : List Token) → Fits v (word t.Text) c
    → count c ≤ n → Before v (k.Text, c) (first_of rest) → Grows (php v) (s.Operand m) k.Text c rest
text_grows v n below m c rest x le b = atom v n below m k.Text (word t.Text) t.Text (Word t.Text ∷ []) c rest (text_first v) refl (text_form v) (text_test v) x le b

paren_test : (v : Version) → matches v 60 false (form v k.Paren ∷ []) (Word t.OpenParen ∷ any ∷ Word t.CloseParen ∷ []) (before_class v k.Paren) ≡ true
unfolding for_all
paren_test V74 = refl
paren_test V83 = refl

paren_first : (v : Version) → only_class v (form v k.Paren) t.OpenParen ≡ true
unfolding for_all
paren_first V74 = refl
paren_first V83 = refl

paren_form : (v : Version) (ts : List Token) → first_of ts ≡ t.OpenParen → operand_form v ts ≡ Some (k.Paren, Word t.OpenParen ∷ any ∷ Word t.CloseParen ∷ [])
paren_form v ts e = rw e refl

pub paren_grows : (v : Version) (n : ℕ) → Below v n → (m : ℕ) (c : Forest) (rest : List Token)
    → Fits v (form v k.Paren) c → count c ≤ n → Before v (k.Paren, c) (first_of rest)
    → Grows (php v) (s.Operand m) k.Paren c rest
paren_grows v n below m c rest x le b = atom v n below m k.Paren (form v k.Paren) t.OpenParen
    (Word t.OpenParen ∷ any ∷ Word t.CloseParen ∷ []) c rest (paren_first v) refl (paren_form v) (paren_test v) x le b

isset_test : (v : Version) → matches v 60 false (form v k.Isset ∷ [])
    (Word t.Isset ∷ Word t.OpenParen ∷ any ∷ Repeats g.MoreUnset ∷ Word t.CloseParen ∷ []) (before_class v k.Isset) ≡
    true
unfolding for_all
isset_test V74 = refl
isset_test V83 = refl

isset_first : (v : Version) → only_class v (form v k.Isset) t.Isset ≡ true
unfolding for_all
isset_first V74 = refl
isset_first V83 = refl

isset_form : (v : Version) (ts : List Token) → first_of ts ≡ t.Isset
    → operand_form v ts ≡ Some (
      k.Isset,
      Word t.Isset ∷ Word t.OpenParen ∷ any ∷ Repeats g.MoreUnset ∷ Word t.CloseParen
          ∷ [],
    )
isset_form v ts e = rw e refl

pub isset_grows : (v : Version) (n : ℕ) → Below v n → (m : ℕ) (c : Forest) (rest : List Token)
    → Fits v (form v k.Isset) c → count c ≤ n → Before v (k.Isset, c) (first_of rest)
    → Grows (php v) (s.Operand m) k.Isset c rest
isset_grows v n below m c rest x le b = atom v n below m k.Isset (form v k.Isset) t.Isset
    (Word t.Isset ∷ Word t.OpenParen ∷ any ∷ Repeats g.MoreUnset ∷ Word t.CloseParen ∷ []) c rest (isset_first v) refl
    (isset_form v) (isset_test v) x le b

empty_test_test : (v : Version) → matches v 60 false (form v k.EmptyTest ∷ []) (Word t.Empty ∷ Word t.OpenParen ∷ any ∷ Word t.CloseParen ∷ []) (before_class v k.EmptyTest) ≡ true
unfolding for_all
empty_test_test V74 = refl
empty_test_test V83 = refl

empty_test_first : (v : Version) → only_class v (form v k.EmptyTest) t.Empty ≡ true
unfolding for_all
empty_test_first V74 = refl
empty_test_first V83 = refl

empty_test_form : (v : Version) (ts : List Token) → first_of ts ≡ t.Empty → operand_form v ts ≡ Some (k.EmptyTest, Word t.Empty ∷ Word t.OpenParen ∷ any ∷ Word t.CloseParen ∷ [])
empty_test_form v ts e = rw e refl

pub empty_test_grows : (v : Version) (n : ℕ) → Below v n → (m : ℕ) (c : Forest) (rest : List Token)
    → Fits v (form v k.EmptyTest) c → count c ≤ n → Before v (k.EmptyTest, c) (first_of rest)
    → Grows (php v) (s.Operand m) k.EmptyTest c rest
empty_test_grows v n below m c rest x le b = atom v n below m k.EmptyTest (form v k.EmptyTest) t.Empty
    (Word t.Empty ∷ Word t.OpenParen ∷ any ∷ Word t.CloseParen ∷ []) c rest (empty_test_first v) refl
    (empty_test_form v) (empty_test_test v) x le b

eval_test_test : (v : Version) → matches v 60 false (form v k.EvalTest ∷ []) (Word t.Eval ∷ Word t.OpenParen ∷ any ∷ Word t.CloseParen ∷ []) (before_class v k.EvalTest) ≡ true
unfolding for_all
eval_test_test V74 = refl
eval_test_test V83 = refl

eval_test_first : (v : Version) → only_class v (form v k.EvalTest) t.Eval ≡ true
unfolding for_all
eval_test_first V74 = refl
eval_test_first V83 = refl

eval_test_form : (v : Version) (ts : List Token) → first_of ts ≡ t.Eval → operand_form v ts ≡ Some (k.EvalTest, Word t.Eval ∷ Word t.OpenParen ∷ any ∷ Word t.CloseParen ∷ [])
eval_test_form v ts e = rw e refl

pub eval_test_grows : (v : Version) (n : ℕ) → Below v n → (m : ℕ) (c : Forest) (rest : List Token)
    → Fits v (form v k.EvalTest) c → count c ≤ n → Before v (k.EvalTest, c) (first_of rest)
    → Grows (php v) (s.Operand m) k.EvalTest c rest
eval_test_grows v n below m c rest x le b = atom v n below m k.EvalTest (form v k.EvalTest) t.Eval
    (Word t.Eval ∷ Word t.OpenParen ∷ any ∷ Word t.CloseParen ∷ []) c rest (eval_test_first v) refl (eval_test_form v)
    (eval_test_test v) x le b

exit_test : (v : Version) → matches v 60 false (form v k.Exit ∷ []) (Word t.Exit ∷ Part g.ExitValue ∷ []) (before_class v k.Exit) ≡ true
unfolding for_all
exit_test V74 = refl
exit_test V83 = refl

exit_first : (v : Version) → only_class v (form v k.Exit) t.Exit ≡ true
unfolding for_all
exit_first V74 = refl
exit_first V83 = refl

exit_form : (v : Version) (ts : List Token) → first_of ts ≡ t.Exit → operand_form v ts ≡ Some (k.Exit, Word t.Exit ∷ Part g.ExitValue ∷ [])
exit_form v ts e = rw e refl

pub exit_grows : (v : Version) (n : ℕ) → Below v n → (m : ℕ) (c : Forest) (rest : List Token)
    → Fits v (form v k.Exit) c → count c ≤ n → Before v (k.Exit, c) (first_of rest)
    → Grows (php v) (s.Operand m) k.Exit c rest
exit_grows v n below m c rest x le b = atom v n below m k.Exit (form v k.Exit) t.Exit
    (Word t.Exit ∷ Part g.ExitValue ∷ []) c rest (exit_first v) refl (exit_form v) (exit_test v) x le b
