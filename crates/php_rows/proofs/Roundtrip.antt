-- What a row is read as is the forest that it was made of.
use Rattle.std.proofs.Common.{◌≡◌, ℕ, zero, suc, ◌+◌, ◌-◌, ◌<◌, ◌≤◌, List, [], ◌∷◌, ◌++◌, length, take, drop, slice_range, slice_index_or, refl, sym, ap, subst, ◌∙◌, arith}
use Rattle.std.proofs.lemmas.List.{length-append}
use Rattle.std.proofs.Math.Seq.{take-append_seam, drop-append_seam}
use Rattle.php_tree.specs.declared.token.Token.{Token}
use Rattle.php_tree.specs.Tree.{Forest, none, leaf, node, leaves, count}
use Rattle.php_rows.specs.declared.flat.Flat.{Flat}
use Rattle.php_rows.specs.Flatten.{flatten, tokens, leafed, read}
use Rattle.php_rows.specs.Reading.{IsBefore}
use Rattle.php_rows.proofs.Flattened.{length_flatten}
use Rattle.php_rows.proofs.RowReads.{read_enough, leaf_first, range_none}

abbrev cons : Token → List Token → List Token
cons t ts = t ∷ ts

cons_both : (x y : Token) (a b : List Token) → cons x a ≡ cons y b → (x ≡ y) × (a ≡ b)
cons_both x y a b e = (cc, cc)

take_nil : (n : ℕ) → take {A = Token} n [] ≡ []
take_nil zero = refl
take_nil (suc n) = refl

nil_cons : (x : Token) (a : List Token) → [] ≡ x ∷ a → ⊥
nil_cons x a e = cc

split_take : (a b xs : List Token) → take (length a + length b) xs ≡ a ++ b → (take (length a) xs ≡ a) × (take (length b) (drop (length a) xs) ≡ b)
split_take [] b xs e = let z : 0 + length b ≡ length b = omega arith in (refl, subst (λ (n : ℕ). take n xs ≡ b) z e)
split_take (x ∷ a) b [] e = absurd (nil_cons x (a ++ b) (sym (take_nil (suc (length a) + length b)) ∙ e))
split_take (x ∷ a) b (y ∷ ys) e =
    let n : suc (length a) + length b ≡ suc (length a + length b) = omega arith in
    let e2 : cons y (take (length a + length b) ys) ≡ cons x (a ++ b) = subst (λ (m : ℕ). take m (y ∷ ys) ≡ x ∷ (a ++ b)) n e in
    let p = cons_both y x (take (length a + length b) ys) (a ++ b) e2 in
    let q = split_take a b ys p.1 in
    (rw (p.0, q.0) refl, q.1)

before_flatten : (at i end : ℕ) (f : Forest) → at < i → at < end → IsBefore at end (flatten i f)
before_flatten at i end none a b = b
before_flatten at i end (leaf t f) a b = before_flatten at (suc i) end f (omega arith) b
before_flatten at i end (node k c f) a b = a

drop_more : (at : ℕ) (ts us : List Token) (t : Token) → drop at ts ≡ t ∷ us → (drop (suc at) ts ≡ us) × (at < length ts) × (t ≡ slice_index_or ts at t)
drop_more zero [] us t e = absurd cc
drop_more zero (x ∷ xs) us t e = let p = cons_both x t xs us e in (p.1, omega arith, sym p.0)
drop_more (suc at) [] us t e = absurd cc
drop_more (suc at) (x ∷ xs) us t e = let p = drop_more at xs us t e in let q = p.1 in (p.0, omega arith, p.2)

first_taken : (n : ℕ) (xs a : List Token) (t : Token) → take (suc n) xs ≡ t ∷ a → (us : List Token) × (xs ≡ t ∷ us) × (take n us ≡ a)
first_taken n [] a t e = absurd cc
first_taken n (x ∷ xs) a t e = let p = cons_both x t (take n xs) a e in (xs, ap (λ (u : Token). u ∷ xs) p.0, p.1)

drop_nil : (n : ℕ) → drop {A = Token} n [] ≡ []
drop_nil zero = refl
drop_nil (suc n) = refl

drop_drop : (m n : ℕ) (xs : List Token) → drop n (drop m xs) ≡ drop (m + n) xs
drop_drop zero n xs = let z : 0 + n ≡ n = omega arith in rw z refl
drop_drop (suc m) n [] = drop_nil n ∙ sym (drop_nil (suc m + n))
drop_drop (suc m) n (x ∷ xs) = let z : suc m + n ≡ suc (m + n) = omega arith in rw z (drop_drop m n xs)

pub read_flatten : (n at : ℕ) (f : Forest) (ts : List Token) → count f ≤ n → take (tokens f) (drop at ts) ≡ leaves f → read n at (at + tokens f) (flatten at f) ts ≡ f
read_flatten n at none ts le e = ap (λ (us : List Token). leafed us none) (range_none at (at + 0) ts (omega arith))
read_flatten n at (leaf t f) ts le e =
    let p = first_taken (tokens f) (drop at ts) (leaves f) t e in
    let q = drop_more at ts p.0 t p.1 in
    let ns = flatten (suc at) f in
    let end : at + suc (tokens f) ≡ suc at + tokens f = omega arith in
    let short : length ns ≤ n = let l = length_flatten (suc at) f in omega arith in
    let rest : read n (suc at) (suc at + tokens f) ns ts ≡ f = read_flatten n (suc at) f ts le (subst (λ (us : List Token). take (tokens f) us ≡ leaves f) (sym q.0) p.2) in
    rw end (read_enough n (length ns) at (suc at + tokens f) ns ts short (omega arith)
    ∙ leaf_first at (suc at + tokens f) ns ts t q.1 (before_flatten at (suc at) (suc at + tokens f) f (omega arith) (omega arith)) q.2
    ∙ ap (leaf t) (read_enough (length ns) n (suc at) (suc at + tokens f) ns ts (omega arith) short ∙ rest))
read_flatten zero at (node k c f) ts le e = absurd (omega arith)
read_flatten (suc n) at (node k c f) ts le e =
    let both : length (leaves c ++ leaves f) ≡ tokens c + tokens f = length-append (leaves c) (leaves f) in
    let s = split_take (leaves c) (leaves f) (drop at ts) (subst (λ (m : ℕ). take m (drop at ts) ≡ leaves c ++ leaves f) both e) in
    let end : at + length (leaves c ++ leaves f) ≡ (at + tokens c) + tokens f = omega arith in
    let size : suc (count c) - 1 ≡ length (flatten at c) = let l = length_flatten at c in omega arith in
    let inner : read n at (at + tokens c) (flatten at c) ts ≡ c = read_flatten n at c ts (omega arith) s.0 in
    let rest : read n (at + tokens c) (at + tokens c + tokens f) (flatten (at + tokens c) f) ts ≡ f =
    read_flatten n (at + tokens c) f ts (omega arith)
    (subst (λ (us : List Token). take (tokens f) us ≡ leaves f) (drop_drop at (tokens c) ts) s.1) in
    rw (
      end,
      range_none at at ts (omega arith),
      size,
      take-append_seam (flatten at c) (flatten (at + tokens c) f),
      drop-append_seam (flatten at c) (flatten (at + tokens c) f),
      inner,
      rest,
    ) refl
