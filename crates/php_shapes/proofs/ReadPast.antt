-- What stands behind brackets: each form has as many closing ones as opening ones.
use Rattle.std.proofs.Common.{
  ◌≡◌,
  ℕ,
  zero,
  suc,
  ◌+◌,
  ◌-◌,
  ◌<◌,
  Bool,
  true,
  false,
  not,
  cond,
  ◌&&◌,
  nat_eq,
  List,
  ◌∷◌,
  ◌++◌,
  Option,
  Some,
  None,
  refl,
  sym,
  ap,
  ◌∙◌,
  subst,
  append-nil,
  arith,
}
use Rattle.std.proofs.lemmas.Bool.{lt-leb, eqb-true, and_parts, not-true}
use Rattle.php_tree.specs.declared.kind.NodeKind.{NodeKind}
use Rattle.php_tree.specs.declared.kind.NodeKind.TheVariants as k
use Rattle.php_tree.specs.declared.token.Token.{Token}
use Rattle.php_tree.specs.declared.version.Version.{Version}
use Rattle.php_tree.specs.declared.version.Version.TheVariants.{V74, V83}
use Rattle.php_tree.specs.Tree.{Forest, none, leaf, node, ◌+++◌, leaves}
use Rattle.php_terminals.specs.declared.terminal.Terminal.{Terminal}
use Rattle.php_terminals.specs.Classify.{terminal}
use Rattle.php_terminals.specs.Ahead.{past_group}
use Rattle.php_terminals.specs.Marks.{closes, opens}
use Rattle.php_grammar.specs.Accepts.{accepts}
use Rattle.php_exprs.specs.Parsing.{◌>>=◌}
use Rattle.php_exprs.proofs.Forests.{bind_some}
use Rattle.php_shapes.specs.Forms.{form}
use Rattle.php_shapes.specs.Notation.{Rule, nothing, word, kind, place, inside, ◌~◌, ◌|||◌, many, tokens}
use Rattle.php_shapes.specs.Shapes.{
  Fits,
  is_nothing,
  is_word,
  is_kind,
  is_place,
  is_inside,
  is_both,
  is_first,
  is_second,
  no_more,
  once_more,
  is_tokens,
  IsNode,
  is_node,
  is_balanced,
}
use Rattle.php_shapes.proofs.ReadClasses.{accepted, could, for_all}
use Rattle.php_shapes.proofs.ReadMatch.{both_is, false_true, leaves_before, where_is, where_it, word_is}

-- From a depth of open brackets to another one, within one bracket more.
abbrev pub Level : Forest → ℕ → ℕ → Type 0
Level f a b = (n : ℕ) (ts : List Token) → 0 < n → past_group (n + a) (leaves f ++ ts) ≡ past_group (n + b) ts

-- no bracket stays open
abbrev pub Passes : Forest → Type 0
Passes f = (n : ℕ) (ts : List Token) → 0 < n → past_group n (leaves f ++ ts) ≡ past_group n ts

pub level_both : (g h : Forest) (a b c : ℕ) → Level g a b → Level h b c → Level (g +++ h) a c
level_both g h a b c x y n ts lt = ap (past_group (n + a)) (leaves_before g h ts) ∙ x n (leaves h ++ ts) lt ∙ y n ts lt

level_of : (f : Forest) (a : ℕ) → Passes f → Level f a a
level_of f a x n ts lt = x (n + a) ts (omega arith)

level_zero : (f : Forest) → Level f 0 0 → Passes f
level_zero f x n ts lt = subst (λ (z : ℕ). past_group z (leaves f ++ ts) ≡ past_group z ts) (plus_zero n) (x n ts lt)
  where
    plus_zero : (n : ℕ) → n + 0 ≡ n
    plus_zero n = omega arith

passes_alone : (j : NodeKind) (c : Forest) → Passes c → Passes (node j c none)
passes_alone j c x n ts lt = ap (λ (m : List Token). past_group n (m ++ ts)) (append-nil (leaves c)) ∙ x n ts lt

-- ---- tokens

opened : (b : Bool) → b ≡ true → (n : ℕ) (ts us : List Token) → cond b (past_group (n + 1) ts) us ≡ past_group (n + 1) ts
opened true e n ts us = refl
opened false e n ts us = absurd (false_true e)

pub past_open : (x : Token) (n : ℕ) (ts : List Token) → opens (terminal x) ≡ true → past_group n (x ∷ ts) ≡ past_group (n + 1) ts
past_open x n ts e = rw e refl

pub past_close : (x : Token) (n : ℕ) (ts : List Token) → opens (terminal x) ≡ false → closes (terminal x) ≡ true → 1 < n → past_group n (x ∷ ts) ≡ past_group (n - 1) ts
past_close x n ts o e lt = rw (o, e, lt-leb n 1 lt) refl

pub past_last : (x : Token) (ts : List Token) → opens (terminal x) ≡ false → closes (terminal x) ≡ true → past_group 1 (x ∷ ts) ≡ ts
past_last x ts o e = rw (o, e) refl

pub past_other : (x : Token) (n : ℕ) (ts : List Token) → opens (terminal x) ≡ false → closes (terminal x) ≡ false → past_group n (x ∷ ts) ≡ past_group n ts
past_other x n ts o e = rw (o, e) refl

-- a class that is no bracket
abbrev pub is_plain : Terminal → Bool
is_plain c = not (opens c) && not (closes c)

abbrev pub word_is_plain : Version → Terminal → Bool
word_is_plain v w = for_all (λ c. where_it (could v w c) (is_plain c))

abbrev pub word_opens : Version → Terminal → Bool
word_opens v w = for_all (λ c. where_it (could v w c) (opens c))

abbrev pub word_closes : Version → Terminal → Bool
word_closes v w = for_all (λ c. where_it (could v w c) (not (opens c) && closes c))

abbrev down : ℕ → Option ℕ
down zero = None
down (suc n) = Some n

abbrev word_pass : Version → Terminal → ℕ → Option ℕ
word_pass v w a = elim (word_is_plain v w) as (λ x. Option ℕ) [
  | true ↦ Some a
  | false ↦ elim (word_opens v w) as (λ x. Option ℕ)
      [ true ↦ Some (a + 1) | false ↦ elim (word_closes v w) as (λ x. Option ℕ) [ true ↦ down a | false ↦ None ] ]
]

abbrev agree : Option ℕ → Option ℕ → Option ℕ
agree None b = None
agree (Some a) None = None
agree (Some a) (Some b) = cond (nat_eq a b) (Some a) None

-- how many brackets are open behind what fits a rule, where so many are before it
abbrev pub pass : Version → Rule → ℕ → Option ℕ
pass v nothing a = Some a
pass v (word w) a = word_pass v w a
pass v (kind j) a = Some a
pass v (place p) a = Some a
pass v (inside j r) a = agree (Some 0) (pass v r 0) >>= λ z. Some a
pass v (r ~ q) a = pass v r a >>= λ b. pass v q b
pass v (r ||| q) a = agree (pass v r a) (pass v q a)
pass v (many r) a = agree (Some a) (pass v r a)
pass v tokens a = Some a

some_ℕ : (a b : ℕ) → Some a ≡ Some b → a ≡ b
some_ℕ a b e = cc

agree_is : (a b : Option ℕ) (c : ℕ) → agree a b ≡ Some c → (a ≡ Some c) × (b ≡ Some c)
agree_is None b c e = absurd cc
agree_is (Some a) None c e = absurd cc
agree_is (Some a) (Some b) c e = go (nat_eq a b) refl e
  where
    go : (x : Bool) → nat_eq a b ≡ x → cond x (Some a) None ≡ Some c → (Some a ≡ Some c) × (Some b ≡ Some c)
    go true q e = (e, ap (λ (z : ℕ). Some z) (sym (eqb-true a b q)) ∙ e)
    go false q e = absurd cc

down_is : (a b : ℕ) → down a ≡ Some b → a ≡ b + 1
down_is zero b e = absurd cc
down_is (suc n) b e = omega (arith, some_ℕ n b e)

two_false : (a b : Bool) → (not a && not b) ≡ true → (a ≡ false) × (b ≡ false)
two_false a b h = let q : (not a ≡ true) × (not b ≡ true) = and_parts (not a) (not b) h in (not-true a q.0, not-true b q.1)

word_level : (v : Version) (w : Terminal) (x : Token) (a b : ℕ) (p o q : Bool) → word_is_plain v w ≡ p
    → word_opens v w ≡ o → word_closes v w ≡ q
    → (elim p as (λ x. Option ℕ) [
      | true ↦ Some a
      | false ↦ elim o as (λ x. Option ℕ)
          [ true ↦ Some (a + 1) | false ↦ elim q as (λ x. Option ℕ) [ true ↦ down a | false ↦ None ] ]
    ]) ≡ Some b
    → could v w (terminal x) ≡ true → Level (leaf x none) a b
word_level v w x a b true o q ep eo eq e c n ts lt =
    let z : (opens (terminal x) ≡ false) × (closes (terminal x) ≡ false) = two_false (opens (terminal x)) (closes (terminal x)) (where_is (could v w) is_plain (terminal x) ep c) in
    past_other x (n + a) ts z.0 z.1 ∙ ap (λ (i : ℕ). past_group (n + i) ts) (some_ℕ a b e)
word_level v w x a b false true q ep eo eq e c n ts lt =
    past_open x (n + a) ts (where_is (could v w) opens (terminal x) eo c) ∙ ap (λ (i : ℕ). past_group i ts) (plus_one n a b (some_ℕ (a + 1) b e))
  where
    plus_one : (n a b : ℕ) → a + 1 ≡ b → n + a + 1 ≡ n + b
    plus_one n a b e = omega arith
word_level v w x a b false false true ep eo eq e c n ts lt =
    let z : (not (opens (terminal x)) ≡ true) × (closes (terminal x) ≡ true) =
    and_parts (not (opens (terminal x))) (closes (terminal x))
    (where_is (could v w) (λ d. not (opens d) && closes d) (terminal x) eq c) in
    past_close x (n + a) ts (not-true (opens (terminal x)) z.0) z.1 (two_more n a b lt (down_is a b e)) ∙ ap (λ (i : ℕ). past_group i ts) (less_one n a b (down_is a b e))
  where
    two_more : (n a b : ℕ) → 0 < n → a ≡ b + 1 → 1 < n + a
    two_more n a b lt e = omega arith

    less_one : (n a b : ℕ) → a ≡ b + 1 → n + a - 1 ≡ n + b
    less_one n a b e = omega arith
word_level v w x a b false false false ep eo eq e c n ts lt = absurd (none_some b e)
  where
    none_some : (b : ℕ) → None ≡ Some b → ⊥
    none_some b e = cc

-- tokens with brackets in pairs
balanced_at : (x : Token) (f : Forest) (b n : ℕ) (ts : List Token) (o c : Bool) → opens (terminal x) ≡ o
    → closes (terminal x) ≡ c → ((b' : ℕ) → is_balanced b' f ≡ true → (m : ℕ) → 0 < m
    → past_group (m + b') (leaves f ++ ts) ≡ past_group m ts)
    → cond o (is_balanced (b + 1) f) (cond c (not (nat_eq b 0) && is_balanced (b - 1) f) (is_balanced b f)) ≡ true
    → 0 < n → past_group (n + b) (x ∷ (leaves f ++ ts)) ≡ past_group n ts
balanced_at x f b n ts true c eo ec ih h lt = past_open x (n + b) (leaves f ++ ts) eo ∙ ap (λ (i : ℕ). past_group i (leaves f ++ ts)) (assoc n b) ∙ ih (b + 1) h n lt
  where
    assoc : (n b : ℕ) → n + b + 1 ≡ n + (b + 1)
    assoc n b = omega arith
balanced_at x f zero n ts false true eo ec ih h lt = absurd (false_true h)
balanced_at x f (suc b) n ts false true eo ec ih h lt =
    past_close x (n + suc b) (leaves f ++ ts) eo ec (more n b lt)
    ∙ ap (λ (i : ℕ). past_group i (leaves f ++ ts)) (less n b)
    ∙ ih (suc b - 1) ((and_parts (not (nat_eq (suc b) 0)) (is_balanced (suc b - 1) f) h).1) n lt
  where
    more : (n b : ℕ) → 0 < n → 1 < n + suc b
    more n b lt = omega arith

    less : (n b : ℕ) → n + suc b - 1 ≡ n + (suc b - 1)
    less n b = omega arith
balanced_at x f b n ts false false eo ec ih h lt = past_other x (n + b) (leaves f ++ ts) eo ec ∙ ih b h n lt

pub balanced_pass : (f : Forest) (b : ℕ) (ts : List Token) → is_balanced b f ≡ true → (n : ℕ) → 0 < n → past_group (n + b) (leaves f ++ ts) ≡ past_group n ts
balanced_pass none b ts h n lt = ap (λ (i : ℕ). past_group i ts) (zero_more n b (eqb-true b 0 h))
  where
    zero_more : (n b : ℕ) → b ≡ 0 → n + b ≡ n
    zero_more n b e = omega arith
balanced_pass (leaf x f) b ts h n lt = balanced_at x f b n ts (opens (terminal x)) (closes (terminal x)) refl refl (λ b' h' m lt'. balanced_pass f b' ts h' m lt') h lt
balanced_pass (node j c f) b ts h n lt = absurd (false_true h)

-- ---- nodes

pass_forms : (v : Version) (j : NodeKind) → pass v (form v j) 0 ≡ Some 0
unfolding for_all
pass_forms V74 k.Block = refl
pass_forms V74 other = refl
pass_forms V83 k.Block = refl
pass_forms V83 other = refl

inner_zero : (v : Version) (r : Rule) (a b : ℕ) → (agree (Some 0) (pass v r 0) >>= λ z. Some a) ≡ Some b → (pass v r 0 ≡ Some 0) × (a ≡ b)
inner_zero v r a b e =
    let q : (z : ℕ) × (agree (Some 0) (pass v r 0) ≡ Some z) × (Some a ≡ Some b) = bind_some (agree (Some 0) (pass v r 0)) (λ z. Some a) b e in
    let w : (Some 0 ≡ Some q.0) × (pass v r 0 ≡ Some q.0) = agree_is (Some 0) (pass v r 0) q.0 q.1 in
    (w.1 ∙ sym w.0, some_ℕ a b q.2)

same_level : (f : Forest) (a b : ℕ) → Some a ≡ Some b → Passes f → Level f a b
same_level f a b e x = subst (λ (z : ℕ). Level f a z) (some_ℕ a b e) (level_of f a x)

none_passes : Passes none
none_passes n ts lt = refl

tokens_pass : (f : Forest) → is_balanced 0 f ≡ true → Passes f
tokens_pass f h n ts lt = subst (λ (z : ℕ). past_group z (leaves f ++ ts) ≡ past_group n ts) (plus_zero n) (balanced_pass f 0 ts h n lt)
  where
    plus_zero : (n : ℕ) → n + 0 ≡ n
    plus_zero n = omega arith

mutual
  pub rule_passes : (v : Version) {r : Rule} {f : Forest} → Fits v r f → (a b : ℕ) → pass v r a ≡ Some b → Level f a b
  rule_passes v is_nothing a b e = same_level none a b e none_passes
  rule_passes v (is_word {c = w} {x = x} acc) a b e = word_level v w x a b (word_is_plain v w) (word_opens v w) (word_closes v w) refl refl refl e (accepted v w x acc)
  rule_passes v (is_kind {k = j} {c = c} x) a b e = same_level (node j c none) a b e (passes_alone j c (node_passes v x))
  rule_passes v (is_place {k = j} {c = c} m x) a b e = same_level (node j c none) a b e (passes_alone j c (node_passes v x))
  rule_passes v (is_inside {k = j} {r = r} {c = c} x near) a b e = let q : (pass v r 0 ≡ Some 0)
      × (a ≡ b) = inner_zero v r a b e in same_level (node j c none) a b (ap (λ (z : ℕ). Some z) q.1)
      (passes_alone j c (level_zero c (rule_passes v x 0 0 q.0)))
  rule_passes v (is_both {r = r} {s = q} {f = f} {g = g} {h = h} x y e') a b e =
      let z : (m : ℕ) × (pass v r a ≡ Some m) × (pass v q m ≡ Some b) = bind_some (pass v r a) (λ m. pass v q m) b e in
      subst (λ (i : Forest). Level i a b) (sym e') (level_both g h a z.0 b (rule_passes v x a z.0 z.1) (rule_passes v y z.0 b z.2))
  rule_passes v (is_first {r = r} {s = q} x) a b e = rule_passes v x a b ((agree_is (pass v r a) (pass v q a) b e).0)
  rule_passes v (is_second {r = r} {s = q} x) a b e = rule_passes v x a b ((agree_is (pass v r a) (pass v q a) b e).1)
  rule_passes v (no_more {r = r}) a b e = same_level none a b ((agree_is (Some a) (pass v r a) b e).0) none_passes
  rule_passes v (once_more {r = r} {f = f} {g = g} {h = h} x y e') a b e =
      let z : (Some a ≡ Some b) × (pass v r a ≡ Some b) = agree_is (Some a) (pass v r a) b e in
      subst (λ (i : Forest). Level i a b) (sym e') (level_both g h a a b (rule_passes v x a a (z.1 ∙ sym z.0)) (rule_passes v y a b e))
  rule_passes v (is_tokens {f = f} h) a b e = same_level f a b e (tokens_pass f h)

  pub node_passes : (v : Version) {j : NodeKind} {c : Forest} → IsNode v j c → Passes c
  node_passes v (is_node {k = j} {c = c} x near straight) = level_zero c (rule_passes v x 0 0 (pass_forms v j))

-- what stands in brackets is passed over
pub group_past : (v : Version) (o c : Terminal) (r : Rule) (g : Forest) (ts : List Token) → word_opens v o ≡ true
    → word_closes v c ≡ true → pass v r 0 ≡ Some 0 → Fits v (word o ~ r ~ word c) g
    → past_group 0 (leaves g ++ ts) ≡ ts
group_past v o c r g ts eo ec ep x =
    let p : (g1 : Forest) × (g2 : Forest) × Fits v (word o) g1 × Fits v (r ~ word c) g2 × (g ≡ g1 +++ g2) = both_is v (word o) (r ~ word c) g x in
    let u : (y : Token) × (p.0 ≡ leaf y none) × (accepts v o y ≡ true) = word_is v o p.0 p.2 in
    let q : (h1 : Forest) × (h2 : Forest) × Fits v r h1 × Fits v (word c) h2 × (p.1 ≡ h1 +++ h2) = both_is v r (word c) p.1 p.3 in
    let w : (y : Token) × (q.1 ≡ leaf y none) × (accepts v c y ≡ true) = word_is v c q.1 q.3 in
    let at : g ≡ leaf u.0 (q.0 +++ leaf w.0 none) = p.4 ∙ ap (λ (z : Forest). z +++ p.1) u.1 ∙ ap (λ (z : Forest). leaf u.0 z) (q.4 ∙ ap (λ (z : Forest). q.0 +++ z) w.1) in
    let cl : (not (opens (terminal w.0)) ≡ true) × (closes (terminal w.0) ≡ true) =
    and_parts (not (opens (terminal w.0))) (closes (terminal w.0))
    (where_is (could v c) (λ d. not (opens d) && closes d) (terminal w.0) ec (accepted v c w.0 w.2)) in
    ap (λ (z : Forest). past_group 0 (leaves z ++ ts)) at
    ∙ past_open u.0 0 (leaves (q.0 +++ leaf w.0 none) ++ ts) (where_is (could v o) opens (terminal u.0) eo (accepted v o u.0 u.2))
    ∙ ap (past_group 1) (leaves_before q.0 (leaf w.0 none) ts)
    ∙ level_zero q.0 (rule_passes v q.2 0 0 ep) 1 (w.0 ∷ ts) (omega arith)
    ∙ past_last w.0 ts (not-true (opens (terminal w.0)) cl.0) cl.1
