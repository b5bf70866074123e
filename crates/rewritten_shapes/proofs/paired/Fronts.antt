-- Parts in front of others, some of whose brackets close there.
use Rattle.std.proofs.Common.{◌≡◌, ℕ, Bool, true, false, ◌&&◌, if◌then◌else◌, List, [], ◌∷◌, refl, sym, ap, ◌∙◌, subst}
use Rattle.php_tree.specs.declared.kind.NodeKind.{NodeKind}
use Rattle.php_tree.specs.declared.token.Token.{Token}
use Rattle.php_tree.specs.Tree.{Forest, none, leaf, node, ◌+++◌}
use Rattle.rewritten_shapes.specs.paired.Paired.{Paired, no_part, token, rounds, braces}
use Rattle.rewritten_shapes.specs.paired.Tokens.{IsMark, is_code_token}
use Rattle.rewritten_shapes.proofs.paired.Asked.{both_left, both_right}

pub join_assoc : (f g h : Forest) → (f +++ g) +++ h ≡ f +++ (g +++ h)
join_assoc none g h = refl
join_assoc (leaf x f) g h = ap (leaf x) (join_assoc f g h)
join_assoc (node j c f) g h = ap (node j c) (join_assoc f g h)

pub join_none : (f : Forest) → f +++ none ≡ f
join_none none = refl
join_none (leaf x f) = ap (leaf x) (join_none f)
join_none (node j c f) = ap (node j c) (join_none f)

-- ---- brackets

-- Two kinds of brackets.
pub data Bracket : Type 0 where
  round : Bracket
  brace : Bracket

abbrev pub opening : Bracket → ℕ
opening round = 40
opening brace = 123

abbrev pub closing : Bracket → ℕ
closing round = 41
closing brace = 125

abbrev pub same_bracket : Bracket → Bracket → Bool
same_bracket round round = true
same_bracket brace brace = true
same_bracket _ _ = false

is_same : (m n : Bracket) → same_bracket m n ≡ true → m ≡ n
is_same round round e = refl
is_same round brace e = absurd cc
is_same brace round e = absurd cc
is_same brace brace e = refl

abbrev pub same_brackets : List Bracket → List Bracket → Bool
same_brackets [] [] = true
same_brackets [] (n ∷ ns) = false
same_brackets (m ∷ ms) [] = false
same_brackets (m ∷ ms) (n ∷ ns) = same_bracket m n && same_brackets ms ns

are_same : (ms ns : List Bracket) → same_brackets ms ns ≡ true → ms ≡ ns
are_same [] [] e = refl
are_same [] (n ∷ ns) e = absurd cc
are_same (m ∷ ms) [] e = absurd cc
are_same (m ∷ ms) (n ∷ ns) e =
    ap (λ (x : Bracket). x ∷ ms) (is_same m n (both_left (same_bracket m n) (same_brackets ms ns) e))
    ∙ ap (λ (xs : List Bracket). n ∷ xs) (are_same ms ns (both_right (same_bracket m n) (same_brackets ms ns) e))

-- a bracket, what is in it, and what follows
pair_of : (m : Bracket) (x u : Token) (f g h : Forest) → IsMark (opening m) x → Paired g → IsMark (closing m) u → Paired h → f ≡ g +++ leaf u h → Paired (leaf x f)
pair_of round x u f g h a p b q e = rounds a p b q e
pair_of brace x u f g h a p b q e = braces a p b q e

-- ---- what closes

-- The brackets that close in parts, in order; or nothing is known of them.
pub data Closing : Type 0 where
  unknown : Closing
  closes : List Bracket → Closing

-- Parts in which these brackets close, and all others stand in pairs.
abbrev pub Closes : List Bracket → Forest → Type 0
Closes [] f = Paired f
Closes (m ∷ ms) f = (g : Forest) × (u : Token) × (h : Forest) × (f ≡ g +++ leaf u h) × Paired g × IsMark (closing m) u × Closes ms h

abbrev pub Front : Closing → Forest → Type 0
Front unknown f = Unit {0}
Front (closes ms) f = Closes ms f

closes_token : (ms : List Bracket) (x : Token) (f : Forest) → is_code_token x ≡ true → Closes ms f → Closes ms (leaf x f)
closes_token [] x f e o = token e o
closes_token (m ∷ ms) x f e o = (leaf x o.0, o.1, o.2, ap (leaf x) o.3, token e o.4, o.5, o.6)

pub front_token : (s : Closing) (x : Token) (f : Forest) → is_code_token x ≡ true → Front s f → Front s (leaf x f)
front_token unknown x f e o = tt
front_token (closes ms) x f e o = closes_token ms x f e o

closes_node : (ms : List Bracket) (j : NodeKind) (c f : Forest) → ((g : Forest) → Paired g → Paired (node j c g)) → Closes ms f → Closes ms (node j c f)
closes_node [] j c f w o = w f o
closes_node (m ∷ ms) j c f w o = (node j c o.0, o.1, o.2, ap (node j c) o.3, w o.0 o.4, o.5, o.6)

pub front_node : (s : Closing) (j : NodeKind) (c f : Forest) → ((g : Forest) → Paired g → Paired (node j c g)) → Front s f → Front s (node j c f)
front_node unknown j c f w o = tt
front_node (closes ms) j c f w o = closes_node ms j c f w o

-- a closing bracket
abbrev pub closed : Bracket → Closing → Closing
closed m unknown = unknown
closed m (closes ms) = closes (m ∷ ms)

pub front_closed : (m : Bracket) (s : Closing) (u : Token) (h : Forest) → IsMark (closing m) u → Front s h → Front (closed m s) (leaf u h)
front_closed m unknown u h a o = tt
front_closed m (closes ms) u h a o = (none, u, h, refl, no_part, a, o)

-- an opening bracket
abbrev pub opened : Bracket → Closing → Closing
opened m unknown = unknown
opened m (closes []) = unknown
opened m (closes (n ∷ ns)) = if same_bracket m n then closes ns else unknown

closes_opened : (m : Bracket) (ms : List Bracket) (x : Token) (f : Forest) → IsMark (opening m) x → Closes (m ∷ ms) f → Closes ms (leaf x f)
closes_opened m [] x f a o = pair_of m x o.1 f o.0 o.2 a o.4 o.5 o.6 o.3
closes_opened m (l ∷ ls) x f a o =
    let r = o.6 in (
      leaf x (o.0 +++ leaf o.1 r.0),
      r.1,
      r.2,
      ap (leaf x) (o.3 ∙ ap (λ (z : Forest). o.0 +++ leaf o.1 z) r.3 ∙ sym (join_assoc o.0 (leaf o.1 r.0) (leaf r.1 r.2))),
      pair_of m x o.1 (o.0 +++ leaf o.1 r.0) o.0 r.0 a o.4 o.5 r.4 refl,
      r.5,
      r.6,
    )

pub front_opened : (m : Bracket) (s : Closing) (x : Token) (f : Forest) → IsMark (opening m) x → Front s f → Front (opened m s) (leaf x f)
front_opened m unknown x f a o = tt
front_opened m (closes []) x f a o = tt
front_opened m (closes (n ∷ ns)) x f a o = go (same_bracket m n) refl
  where
    go : (b : Bool) → same_bracket m n ≡ b → Front (if b then closes ns else unknown) (leaf x f)
    go true e = closes_opened m ns x f a (subst (λ (l : Bracket). Closes (l ∷ ns) f) (sym (is_same m n e)) o)
    go false e = tt

-- ---- one or another

abbrev pub same_closing : Closing → Closing → Bool
same_closing (closes ms) (closes ns) = same_brackets ms ns
same_closing _ _ = false

-- what is known of both
abbrev pub either : Closing → Closing → Closing
either s u = if same_closing s u then s else unknown

pub same_front : (s u : Closing) (f : Forest) → same_closing s u ≡ true → Front u f → Front s f
same_front (closes ms) (closes ns) f e o = subst (λ (l : List Bracket). Closes l f) (sym (are_same ms ns e)) o
same_front _ _ f e o = absurd cc

pub front_first : (s u : Closing) (f : Forest) → Front s f → Front (either s u) f
front_first s u f o = go (same_closing s u)
  where
    go : (b : Bool) → Front (if b then s else unknown) f
    go true = o
    go false = tt

pub front_second : (s u : Closing) (f : Forest) → Front u f → Front (either s u) f
front_second s u f o = go (same_closing s u) refl
  where
    go : (b : Bool) → same_closing s u ≡ b → Front (if b then s else unknown) f
    go true e = same_front s u f e o
    go false e = tt
