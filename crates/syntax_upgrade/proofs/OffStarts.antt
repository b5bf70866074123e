-- Where the text of parts begins, and where it ends.
use Rattle.std.proofs.Common.{
  ◌≡◌,
  ℕ,
  zero,
  suc,
  ◌+◌,
  ◌-◌,
  ◌≤◌,
  ◌<◌,
  Bool,
  true,
  not,
  ◌||◌,
  List,
  [],
  ◌∷◌,
  ◌++◌,
  length,
  append_assoc,
  Option,
  Some,
  None,
  refl,
  ap,
  sym,
  ◌∙◌,
  arith,
  unwrap_or,
}
use Rattle.php_tree.specs.declared.kind.NodeKind.{NodeKind}
use Rattle.php_tree.specs.declared.token.Token.{Token}
use Rattle.php_tree.specs.Tree.{Forest, none, leaf, node, leaves}
use Rattle.php_tree.specs.Places.{behind, end_of}
use Rattle.syntax_rules.specs.SplitName.{is_nothing}
use Rattle.syntax_upgrade.specs.Found.{Report, text_start}
use Rattle.syntax_upgrade.specs.OffPlaces.{behind_more, first_start, has_trivia}
use Rattle.syntax_upgrade.proofs.PartLemmas.{end_behind}

abbrev or_else : Option ℕ → Option ℕ → Option ℕ
or_else None o = o
or_else (Some p) o = Some p

first_append : (at : ℕ) (xs ys : List Token) → first_start at (xs ++ ys) ≡ or_else (first_start at xs) (first_start at ys)
first_append at [] ys = refl
first_append at (x ∷ xs) ys = refl

-- parts that begin with a token
pub start_leaf : (at : ℕ) (f : Forest) (x : Token) (g : Forest) → f ≡ leaf x g → Some (at + length x.lead) ≡ first_start at (leaves f)
start_leaf at f x g e = ap (λ (v : Forest). first_start at (leaves v)) (sym e)

-- parts that begin with a node that has a token, or none
pub start_inner : (at p : ℕ) (f : Forest) (k : NodeKind) (c g : Forest) → f ≡ node k c g → Some p ≡ first_start at (leaves c)
    → Some p ≡ first_start at (leaves f)
start_inner at p f k c g e h =
    ap (λ (o : Option ℕ). or_else o (first_start at (leaves g))) h
    ∙ sym (first_append at (leaves c) (leaves g))
    ∙ ap (λ (v : Forest). first_start at (leaves v)) (sym e)

pub start_behind : (at : ℕ) (o : Option ℕ) (f : Forest) (k : NodeKind) (c g : Forest) → f ≡ node k c g → None ≡ first_start at (leaves c)
    → o ≡ first_start at (leaves g) → o ≡ first_start at (leaves f)
start_behind at o f k c g e h i =
    i
    ∙ ap (λ (p : Option ℕ). or_else p (first_start at (leaves g))) h
    ∙ sym (first_append at (leaves c) (leaves g))
    ∙ ap (λ (v : Forest). first_start at (leaves v)) (sym e)

pub start_is : (at : ℕ) (xs : List Token) → unwrap_or (first_start at xs) at ≡ text_start at xs
start_is at [] = refl
start_is at (x ∷ xs) = refl

either_ends : (at end later : ℕ) (xs ys : List Token) → text_start at xs ≤ end → end ≤ later → text_start at ys ≤ later
    → text_start at (xs ++ ys) ≤ later
either_ends at end later [] ys h i j = j
either_ends at end later (x ∷ xs) ys h i j = omega (arith, h, i)

text_ends : (at later : ℕ) (f : Forest) → at ≤ later → text_start at (leaves f) ≤ end_of later f
text_ends at later none h = h
text_ends at later (leaf x f) h = let e = end_behind (behind later x) f in omega (arith, h, e)
text_ends at later (node k c f) h =
    either_ends at (end_of later c) (end_of (end_of later c) f) (leaves c) (leaves f) (text_ends at later c h) (end_behind (end_of later c) f)
    (text_ends at (end_of later c) f (let e = end_behind later c in omega (arith, h, e)))

-- parts end behind their first text's begin
pub text_within : (at : ℕ) (f : Forest) → text_start at (leaves f) ≤ end_of at f
text_within at f = text_ends at at f (omega arith)

pub more_behind : (n at : ℕ) (f : Forest) → at ≤ behind_more n at f
more_behind zero at f = omega arith
more_behind (suc n) at none = omega arith
more_behind (suc n) at (leaf x f) = let h = more_behind n (behind at x) f in omega (arith, h)
more_behind (suc n) at (node k c f) = omega arith

-- a name ends behind its first token's lead
pub head_within : (at n start end behind_first : ℕ) (x : Token) (f : Forest) → start ≡ at + length x.lead → behind_first ≡ behind at x
    → end ≡ behind_more n behind_first f → start ≤ end
head_within at n start end p x f a b e =
    let h = more_behind n p f in
    let q : p ≡ (at + length x.lead) + length x.text = b in
    omega (arith, h, a, q, e)

-- ---- loops over the tokens of a name

pub trivia_step : (n : ℕ) (f : Forest) (x : Token) (g : Forest) (b : Bool) → 0 < n → f ≡ leaf x g → is_nothing x.lead ≡ true
    → has_trivia n f ≡ b → has_trivia (n - 1) g ≡ b
trivia_step zero f x g b l e h i = absurd (let z : 0 < 0 = l in omega arith)
trivia_step (suc n) f x g b l e h i =
    let one : suc n - 1 ≡ n = omega arith in
    ap (λ (m : ℕ). has_trivia m g) one
    ∙ ap (λ (c : Bool). not c || has_trivia n g) (sym h)
    ∙ ap (λ (v : Forest). has_trivia (suc n) v) (sym e) ∙ i

pub more_step : (n at past : ℕ) (f : Forest) (x : Token) (g : Forest) (m : ℕ) → 0 < n → f ≡ leaf x g → past ≡ behind at x
    → behind_more n at f ≡ m → behind_more (n - 1) past g ≡ m
more_step zero at past f x g m l e h i = absurd (let z : 0 < 0 = l in omega arith)
more_step (suc n) at past f x g m l e h i =
    let one : suc n - 1 ≡ n = omega arith in
    ap (λ (k : ℕ). behind_more k past g) one
    ∙ ap (λ (p : ℕ). behind_more n p g) h
    ∙ ap (λ (v : Forest). behind_more (suc n) at v) (sym e) ∙ i

-- reports of one rule after another
pub in_turn : (g a b : List Report) → (g ++ a) ++ b ≡ g ++ (a ++ b)
in_turn g a b = append_assoc g a b
