-- Reading a row, part by part.
use Rattle.std.proofs.Common.{◌≡◌, ℕ, zero, suc, ◌+◌, ◌-◌, ◌<◌, ◌≤◌, List, [], ◌∷◌, ◌++◌, length, take, drop, slice_range, slice_index_or, refl, sym, ap, ◌∙◌, append_assoc, arith}
use Rattle.std.proofs.lemmas.List.{length-append, length-drop, length-take-le}
use Rattle.php_tree.specs.declared.token.Token.{Token}
use Rattle.php_tree.specs.Tree.{Forest, none, leaf, node, ◌+++◌, leaves, count}
use Rattle.php_rows.specs.declared.flat.Flat.{Flat}
use Rattle.php_rows.specs.Flatten.{flatten, tokens, leafed, read}
use Rattle.php_rows.specs.Reading.{IsBefore}

take_short : (n : ℕ) (xs : List Flat) → length (take n xs) ≤ length xs
take_short zero xs = omega arith
take_short (suc n) [] = omega arith
take_short (suc n) (x ∷ xs) = let e = take_short n xs in omega arith

drop_short : (n : ℕ) (xs : List Flat) → length (drop n xs) ≤ length xs
drop_short zero xs = omega arith
drop_short (suc n) [] = omega arith
drop_short (suc n) (x ∷ xs) = let e = drop_short n xs in omega arith

pub read_enough : (j k at end : ℕ) (ns : List Flat) (ts : List Token) → length ns ≤ j → length ns ≤ k → read j at end ns ts ≡ read k at end ns ts
read_enough j k at end [] ts a b = refl
read_enough zero k at end (x ∷ xs) ts a b = absurd (omega arith)
read_enough (suc j) zero at end (x ∷ xs) ts a b = absurd (omega arith)
read_enough (suc j) (suc k) at end (x ∷ xs) ts a b =
    let t = take_short (x.size - 1) xs in
    let d = drop_short (x.size - 1) xs in
    let inner : read j x.first x.end (take (x.size - 1) xs) ts ≡ read k x.first x.end (take (x.size - 1) xs) ts =
    read_enough j k x.first x.end (take (x.size - 1) xs) ts (omega arith) (omega arith) in
    let rest : read j x.end end (drop (x.size - 1) xs) ts ≡ read k x.end end (drop (x.size - 1) xs) ts =
    read_enough j k x.end end (drop (x.size - 1) xs) ts (omega arith) (omega arith) in
    rw (inner, rest) refl

-- the first of some tokens, and the others
drop_step : (n : ℕ) (ts : List Token) (d : Token) → n < length ts → drop n ts ≡ slice_index_or ts n d ∷ drop (suc n) ts
drop_step zero [] d lt = absurd (omega arith)
drop_step zero (t ∷ ts) d lt = refl
drop_step (suc n) [] d lt = absurd (omega arith)
drop_step (suc n) (t ∷ ts) d lt = drop_step n ts d (omega arith)

pub range_step : (at to : ℕ) (ts : List Token) (d : Token) → at < to → at < length ts → slice_range ts at to ≡ slice_index_or ts at d ∷ slice_range ts (suc at) to
range_step at to ts d lt within =
    let e : to - at ≡ suc (to - suc at) = omega arith in
    rw (e, drop_step at ts d within) refl

pub range_none : (at to : ℕ) (ts : List Token) → to ≤ at → slice_range ts at to ≡ []
range_none at to ts le = let e : to - at ≡ 0 = omega arith in rw e refl

abbrev whole : ℕ → ℕ → List Flat → List Token → Forest
whole at end ns ts = read (length ns) at end ns ts

pub ends : (at end : ℕ) (ts : List Token) → end ≤ at → whole at end [] ts ≡ none
ends at end ts le = rw (range_none at end ts le) refl

pub last_leaf : (at end : ℕ) (ts : List Token) (t : Token) → at < end → at < length ts → t ≡ slice_index_or ts at t → whole at end [] ts ≡ leaf t (whole (suc at) end [] ts)
last_leaf at end ts t lt within e = ap (λ (us : List Token). leafed us none) (range_step at end ts t lt within) ∙ ap (λ (u : Token). leaf u (whole (suc at) end [] ts)) (sym e)

pub next_leaf : (at end : ℕ) (x : Flat) (xs : List Flat) (ts : List Token) (t : Token) → at < x.first → at < length ts
    → t ≡ slice_index_or ts at t → whole at end (x ∷ xs) ts ≡ leaf t (whole (suc at) end (x ∷ xs) ts)
next_leaf at end x xs ts t lt within e =
    ap (λ (us : List Token). leafed us (node x.kind (read (length xs) x.first x.end (take (x.size - 1) xs) ts)
    (read (length xs) x.end end (drop (x.size - 1) xs) ts))) (range_step at x.first ts t lt within)
    ∙ ap (λ (u : Token). leaf u (whole (suc at) end (x ∷ xs) ts)) (sym e)

pub next_child : (at end : ℕ) (x : Flat) (xs inner rest : List Flat) (ts : List Token) → x.first ≤ at
    → inner ≡ take (x.size - 1) xs → rest ≡ drop (x.size - 1) xs
    → whole at end (x ∷ xs) ts ≡ node x.kind (whole x.first x.end inner ts) (whole x.end end rest ts)
next_child at end x xs inner rest ts le p q =
    let a = take_short (x.size - 1) xs in
    let b = drop_short (x.size - 1) xs in
    rw (range_none at x.first ts le, p, q)
    (rw (
      read_enough (length xs) (length (take (x.size - 1) xs)) x.first x.end (take (x.size - 1) xs) ts (omega arith)
          (omega arith),
      read_enough (length xs) (length (drop (x.size - 1) xs)) x.end end (drop (x.size - 1) xs) ts
          (omega arith) (omega arith),
    ) refl)

pub leaf_first : (at end : ℕ) (ns : List Flat) (ts : List Token) (t : Token) → at < length ts → IsBefore at end ns
    → t ≡ slice_index_or ts at t → whole at end ns ts ≡ leaf t (whole (suc at) end ns ts)
leaf_first at end [] ts t lt b e = last_leaf at end ts t b lt e
leaf_first at end (x ∷ xs) ts t lt b e = next_leaf at end x xs ts t b lt e

pub leaf_at : (at end : ℕ) (ns : List Flat) (ts : List Token) (t : Token) → at < length ts → IsBefore at end ns
    → t ≡ slice_index_or ts at t → whole at end ns ts ≡ leaf (slice_index_or ts at t) (whole (at + 1) end ns ts)
leaf_at at end ns ts t lt b e =
    let one : suc at ≡ at + 1 = omega arith in
    leaf_first at end ns ts t lt b e ∙ ap (λ (u : Token). leaf u (whole (suc at) end ns ts)) e ∙ ap (λ (n : ℕ). leaf (slice_index_or ts at t) (whole n end ns ts)) one
