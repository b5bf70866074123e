-- Rows whose nodes nest.
use Rattle.std.proofs.Common.{
  ◌≡◌,
  ℕ,
  zero,
  suc,
  ◌+◌,
  ◌-◌,
  ◌<◌,
  ◌≤◌,
  Bool,
  true,
  false,
  ◌&&◌,
  nat_le,
  nat_lt,
  List,
  [],
  ◌∷◌,
  ◌++◌,
  length,
  take,
  drop,
  slice_range,
  refl,
  sym,
  ap,
  subst,
  ◌∙◌,
  append_assoc,
  arith,
}
use Rattle.std.specs.Prelude.{IsTrue}
use Rattle.std.proofs.lemmas.Bool.{leb-true, le-leb, lt-ltb, ltb-true}
use Rattle.std.proofs.lemmas.List.{length-append, append-nil, length-take-le, length-drop, take-append-drop}
use Rattle.std.proofs.Math.Seq.{take-append_seam, drop-append_seam}
use Rattle.php_tree.specs.declared.token.Token.{Token}
use Rattle.php_tree.specs.Tree.{Forest, none, leaf, node, leaves, count}
use Rattle.php_rows.specs.declared.flat.Flat.{Flat}
use Rattle.php_rows.specs.Flatten.{fits, flatten, tokens, leafed, read}
use Rattle.php_rows.specs.Reading.{IsBefore}
use Rattle.php_rows.proofs.Flattened.{length_flatten}

pub both : (a b : Bool) → (a && b) ≡ true → (a ≡ true) × (b ≡ true)
both true b h = (refl, h)
both false b h = absurd cc

pub and_true : (a b : Bool) → a ≡ true → b ≡ true → (a && b) ≡ true
and_true a b p q = rw (p, q) refl

-- what a node in such a row is
pub record Inside (n at end : ℕ) (x : Flat) (xs : List Flat) : Type 0 where
  pub after : at ≤ x.first
  pub some : 0 < x.size
  pub within : x.size - 1 ≤ length xs
  pub inner : fits n x.first x.end (take (x.size - 1) xs) ≡ true
  pub rest : fits n x.end end (drop (x.size - 1) xs) ≡ true

pub inside : (n at end : ℕ) (x : Flat) (xs : List Flat) → fits (suc n) at end (x ∷ xs) ≡ true → Inside n at end x xs
inside n at end x xs h =
    let p = both _ _ h in
    let q = both _ _ p.0 in
    let r = both _ _ q.1 in
    let s = both _ _ p.1 in
    let lt : x.size - 1 < suc (length xs) = ltb-true _ _ r.1 in
    record {
      after = leb-true _ _ q.0;
      some = ltb-true _ _ r.0;
      within = omega arith;
      inner = s.0;
      rest = s.1;
    }

pub placed_inside : (n at end : ℕ) (x : Flat) (xs : List Flat) → Inside n at end x xs → fits (suc n) at end (x ∷ xs) ≡ true
placed_inside n at end x xs h =
    let a = h.after in
    let w = h.within in
    and_true _ _ (and_true _ _ (le-leb _ _ a) (and_true _ _ (lt-ltb _ _ h.some) (lt-ltb _ _ (omega arith)))) (and_true _ _ h.inner h.rest)

take_short : (n : ℕ) (xs : List Flat) → length (take n xs) ≤ length xs
take_short zero xs = omega arith
take_short (suc n) [] = omega arith
take_short (suc n) (x ∷ xs) = let e = take_short n xs in omega arith

drop_short : (n : ℕ) (xs : List Flat) → length (drop n xs) ≤ length xs
drop_short zero xs = omega arith
drop_short (suc n) [] = omega arith
drop_short (suc n) (x ∷ xs) = let e = drop_short n xs in omega arith

pub fits_enough : (j k at end : ℕ) (ns : List Flat) → length ns ≤ j → length ns ≤ k → fits j at end ns ≡ fits k at end ns
fits_enough j k at end [] a b = refl
fits_enough zero k at end (x ∷ xs) a b = absurd (omega arith)
fits_enough (suc j) zero at end (x ∷ xs) a b = absurd (omega arith)
fits_enough (suc j) (suc k) at end (x ∷ xs) a b =
    let t = take_short (x.size - 1) xs in
    let d = drop_short (x.size - 1) xs in
    let inner : fits j x.first x.end (take (x.size - 1) xs) ≡ fits k x.first x.end (take (x.size - 1) xs) =
    fits_enough j k x.first x.end (take (x.size - 1) xs) (omega arith) (omega arith) in
    let rest : fits j x.end end (drop (x.size - 1) xs) ≡ fits k x.end end (drop (x.size - 1) xs) = fits_enough j k x.end end (drop (x.size - 1) xs) (omega arith) (omega arith) in
    rw (inner, rest) refl

pub in_order : (n at end : ℕ) (ns : List Flat) → fits n at end ns ≡ true → at ≤ end
in_order n at end [] h = leb-true _ _ h
in_order zero at end (x ∷ xs) h = absurd cc
in_order (suc n) at end (x ∷ xs) h =
    let i = inside n at end x xs h in
    let a = i.after in
    let b = in_order n x.first x.end (take (x.size - 1) xs) i.inner in
    let c = in_order n x.end end (drop (x.size - 1) xs) i.rest in
    omega arith

-- one token is behind
pub fits_behind : (n at end : ℕ) (ns : List Flat) → fits n at end ns ≡ true → IsBefore at end ns → fits n (at + 1) end ns ≡ true
fits_behind n at end [] h b = le-leb _ _ (omega arith)
fits_behind zero at end (x ∷ xs) h b = absurd cc
fits_behind (suc n) at end (x ∷ xs) h b =
    let i = inside n at end x xs h in
    placed_inside n (at + 1) end x xs (record { after = omega arith; some = i.some; within = i.within; inner = i.inner; rest = i.rest })

-- a token before the first node is before the end
pub before_end : (n at end : ℕ) (ns : List Flat) → fits n at end ns ≡ true → IsBefore at end ns → at < end
before_end n at end [] h b = b
before_end zero at end (x ∷ xs) h b = absurd cc
before_end (suc n) at end (x ∷ xs) h b =
    let i = inside n at end x xs h in
    let c = in_order n x.first x.end (take (x.size - 1) xs) i.inner in
    let d = in_order n x.end end (drop (x.size - 1) xs) i.rest in
    omega arith

count_leafed : (ts : List Token) (f : Forest) → count (leafed ts f) ≡ count f
count_leafed [] f = refl
count_leafed (t ∷ ts) f = count_leafed ts f

-- each node of the row is one of the forest
pub count_read : (n at end : ℕ) (ns : List Flat) (ts : List Token) → fits n at end ns ≡ true → count (read n at end ns ts) ≡ length ns
count_read n at end [] ts h = count_leafed (slice_range ts at end) none
count_read zero at end (x ∷ xs) ts h = absurd cc
count_read (suc n) at end (x ∷ xs) ts h =
    let i = inside n at end x xs h in
    let inner = read n x.first x.end (take (x.size - 1) xs) ts in
    let rest = read n x.end end (drop (x.size - 1) xs) ts in
    let a : count inner ≡ length (take (x.size - 1) xs) = count_read n x.first x.end (take (x.size - 1) xs) ts i.inner in
    let b : count rest ≡ length (drop (x.size - 1) xs) = count_read n x.end end (drop (x.size - 1) xs) ts i.rest in
    let c = length-take-le (x.size - 1) xs i.within in
    let d = length-drop (x.size - 1) xs in
    let w = i.within in
    count_leafed (slice_range ts at x.first) (node x.kind inner rest) ∙ omega arith

-- a forest as a row
pub fits_flatten : (n at : ℕ) (f : Forest) → count f ≤ n → fits n (at) (at + tokens f) (flatten at f) ≡ true
fits_flatten n at none le = le-leb _ _ (omega arith)
fits_flatten n at (leaf t f) le = later n at (suc at) (at + suc (tokens f)) (flatten (suc at) f) (omega arith)
    (let e : at + suc (tokens f) ≡ suc at + tokens f = omega arith in rw e (fits_flatten n (suc at) f le))
  where
    later : (n at at2 end : ℕ) (ns : List Flat) → at ≤ at2 → fits n at2 end ns ≡ true → fits n at end ns ≡ true
    later n at at2 end [] le h = let g = leb-true at2 end h in le-leb _ _ (omega arith)
    later zero at at2 end (x ∷ xs) le h = absurd cc
    later (suc n) at at2 end (x ∷ xs) le h =
        let i = inside n at2 end x xs h in
        let a = i.after in
        placed_inside n at end x xs (record { after = omega arith; some = i.some; within = i.within; inner = i.inner; rest = i.rest })
fits_flatten zero at (node k c f) le = absurd (omega arith)
fits_flatten (suc n) at (node k c f) le =
    let lc = length_flatten at c in
    let lf = length_flatten (at + tokens c) f in
    let both_length = length-append (flatten at c) (flatten (at + tokens c) f) in
    let size : suc (count c) - 1 ≡ length (flatten at c) = omega arith in
    let end : at + length (leaves c ++ leaves f) ≡ (at + tokens c) + tokens f = let l = length-append (leaves c) (leaves f) in omega arith in
    let x : Flat = record { kind = k; first = at; end = at + tokens c; size = suc (count c) } in
    placed_inside n at (at + length (leaves c ++ leaves f)) x (flatten at c ++ flatten (at + tokens c) f) (record {
      after = omega arith;
      some = omega arith;
      within = omega arith;
      inner = rw (size, take-append_seam (flatten at c) (flatten (at + tokens c) f)) (fits_flatten n at c (omega arith));
      rest = rw (size, drop-append_seam (flatten at c) (flatten (at + tokens c) f), end) (fits_flatten n (at + tokens c) f (omega arith));
    })
