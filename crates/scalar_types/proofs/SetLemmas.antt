-- Lemmas about sets of numbers as ascending lists.
use Rattle.std.proofs.Common.{
  ◌≡◌,
  ℕ,
  ◌+◌,
  ◌<◌,
  ◌≤◌,
  suc,
  zero,
  Bool,
  true,
  false,
  cond,
  eqb,
  ltb,
  List,
  [],
  ◌∷◌,
  length,
  get_or,
  filter,
  ◌⊎◌,
  inl,
  inr,
  refl,
  sym,
  ap,
  subst,
  ◌∙◌,
  arith,
}
use Rattle.std.proofs.Common.{Result, Ok, Err, is_ok, MatchResult, ◌++◌}
use Rattle.std.specs.List.{list_any, list_all, Contains, dedup}
use Rattle.std.specs.Ordering.{nat_cmp}
use Rattle.std.proofs.lemmas.List.{get_or_read}
use Rattle.std.proofs.lemmas.List.Elements.{Contains-get_or, Contains-append_cases, Contains-append_left, Contains-append_right}
use Rattle.std.proofs.lemmas.List.Sorted.{searched, IsPermutation-sym, Contains-permutation}
use Rattle.std.proofs.lemmas.Map.Keys.{IsStrictlyIncreasing-dedup}
use Rattle.std.specs.List.Sorted.{IsStrictlyIncreasing, IsSorted, IsPermutation, IsBinarySearchResult}
use Rattle.std.proofs.lemmas.List.Kept.{AllPairs-from_increasing, Contains-dedup_nat, Contains-from_dedup}
use Rattle.std.proofs.lemmas.Bool.{
  cond_both,
  ltb-true,
  ltb-false,
  eqb-true,
  eqb-false,
  eq-eqb,
  false≢true,
  or_cases,
  or_left,
  or_right,
  cases_lt,
  cases_eq,
  and_parts,
  and_from,
  false_from_ne_true,
  true≢false,
}
use native.Mathlib.Numerals.{unary_clauses}
use Rattle.scalar_types.specs.Sets.{IsSubset, insert_number, union, intersection}

-- ---- membership and order, by recursion on the list

abbrev pub Has : List ℕ → ℕ → Type 0
Has [] z = ⊥
Has (x ∷ xs) z = (x ≡ z) ⊎ Has xs z

-- the numbers rise, and each is below all that follow
abbrev pub Ascends : List ℕ → Type 0
Ascends [] = Unit {0}
Ascends (x ∷ xs) = ((z : ℕ) → Has xs z → x < z) × Ascends xs

pub Contains-from_Has : (xs : List ℕ) (z : ℕ) → Has xs z → Contains xs z
Contains-from_Has [] z h = absurd h
Contains-from_Has (x ∷ xs) z (inl e) = (0, omega arith, e)
Contains-from_Has (x ∷ xs) z (inr h) =
    let c = Contains-from_Has xs z h in
    (suc c.0, omega (arith, c.1), c.2)

pub Has-get_or : (xs : List ℕ) (k z : ℕ) → k < length xs → get_or xs k z ≡ z → Has xs z
Has-get_or [] k z h e = absurd (omega (arith, h))
Has-get_or (x ∷ xs) zero z h e = inl e
Has-get_or (x ∷ xs) (suc k) z h e = inr (Has-get_or xs k z (omega (arith, h)) e)

pub Has-from_Contains : (xs : List ℕ) (z : ℕ) → Contains xs z → Has xs z
Has-from_Contains xs z c = Has-get_or xs c.0 z c.1 c.2

pub Ascends-from_increasing : (xs : List ℕ) → IsStrictlyIncreasing xs → Ascends xs
Ascends-from_increasing [] h = tt
Ascends-from_increasing (x ∷ xs) h = (
  λ z has.
      let c = Contains-from_Has xs z has in
      subst (λ n. x < n) c.2 (AllPairs-from_increasing (x ∷ xs) h 0 (suc c.0) z (omega arith) (omega (arith, c.1))),
  Ascends-from_increasing xs (λ k w. let l : (suc k) + 1 < length (x ∷ xs) = omega (arith, w) in simp unary_clauses (simp unary_clauses at (h (suc k) l))),
)

pub increasing_from_Ascends : (xs : List ℕ) → Ascends xs → IsStrictlyIncreasing xs
increasing_from_Ascends [] h k w = absurd (omega (arith, w))
increasing_from_Ascends (x ∷ []) h k w = absurd (omega (arith, w))
increasing_from_Ascends (x ∷ y ∷ xs) h zero w = h.0 y (inl refl)
increasing_from_Ascends (x ∷ y ∷ xs) h (suc k) w = simp unary_clauses (simp unary_clauses at (increasing_from_Ascends (y ∷ xs) h.1 k (omega (arith, w))))

-- ascending lists with the same members are the same
pub same_from_members : (xs ys : List ℕ) → Ascends xs → Ascends ys → ((z : ℕ) → Has xs z → Has ys z) → ((z : ℕ) → Has ys z → Has xs z) → xs ≡ ys
same_from_members [] [] a b f g = refl
same_from_members [] (y ∷ ys) a b f g = absurd (g y (inl refl))
same_from_members (x ∷ xs) [] a b f g = absurd (f x (inl refl))
same_from_members (x ∷ xs) (y ∷ ys) a b f g =
    let e : x ≡ y = heads (f x (inl refl)) (g y (inl refl)) in
    let down : (z : ℕ) → Has xs z → Has ys z = λ z h. past y ys z (f z (inr h)) (subst (λ n. n < z) e (a.0 z h)) in
    let up : (z : ℕ) → Has ys z → Has xs z = λ z h. past x xs z (g z (inr h)) (subst (λ n. n < z) (sym e) (b.0 z h)) in
    let t : xs ≡ ys = same_from_members xs ys a.1 b.1 down up in
    ap (λ n. n ∷ xs) e ∙ ap (λ l. y ∷ l) t
  where
    heads : Has (y ∷ ys) x → Has (x ∷ xs) y → x ≡ y
    heads (inl p) q = sym p
    heads (inr p) (inl q) = q
    heads (inr p) (inr q) = absurd (let l = b.0 x p in let m = a.0 y q in omega arith)

    past : (w : ℕ) (ws : List ℕ) (z : ℕ) → Has (w ∷ ws) z → w < z → Has ws z
    past w ws z (inl p) m = absurd (omega arith)
    past w ws z (inr p) m = p

-- ---- tests

pub Has-from_any : (z : ℕ) (xs : List ℕ) → list_any (λ y. eqb z y) xs ≡ true → Has xs z
Has-from_any z [] h = absurd (false≢true h)
Has-from_any z (x ∷ xs) h =
    elim (or_cases (eqb z x) (list_any (λ y. eqb z y) xs) h)
    [ inl e ↦ inl (sym (eqb-true z x e)) | inr r ↦ inr (Has-from_any z xs r) ]

pub any_from_Has : (z : ℕ) (xs : List ℕ) → Has xs z → list_any (λ y. eqb z y) xs ≡ true
any_from_Has z [] h = absurd h
any_from_Has z (x ∷ xs) (inl e) = or_left (eqb z x) _ (eq-eqb z x (sym e))
any_from_Has z (x ∷ xs) (inr h) = or_right (eqb z x) _ (any_from_Has z xs h)

-- ---- one number more

pub Has-insert_number : (x : ℕ) (ys : List ℕ) (z : ℕ) → (x ≡ z) ⊎ Has ys z → Has (insert_number x ys) z
Has-insert_number x [] z (inl e) = inl e
Has-insert_number x [] z (inr h) = absurd h
Has-insert_number x (y ∷ ys) z h =
    cond_both (ltb x y) (x ∷ y ∷ ys) (cond (eqb x y) (y ∷ ys) (y ∷ insert_number x ys)) (λ l. Has l z) (λ e. h)
    (λ e. cond_both (eqb x y) (y ∷ ys) (y ∷ insert_number x ys) (λ l. Has l z) (λ q. same (eqb-true x y q) h) (λ q. behind (Has-insert_number x ys z) h))
  where
    same : x ≡ y → (x ≡ z) ⊎ ((y ≡ z) ⊎ Has ys z) → (y ≡ z) ⊎ Has ys z
    same q (inl e) = inl (sym q ∙ e)
    same q (inr r) = r

    behind : ((x ≡ z) ⊎ Has ys z → Has (insert_number x ys) z) → (x ≡ z) ⊎ ((y ≡ z) ⊎ Has ys z) → (y ≡ z) ⊎ Has (insert_number x ys) z
    behind rest (inl e) = inr (rest (inl e))
    behind rest (inr (inl e)) = inl e
    behind rest (inr (inr r)) = inr (rest (inr r))

pub Has-from_insert_number : (x : ℕ) (ys : List ℕ) (z : ℕ) → Has (insert_number x ys) z → (x ≡ z) ⊎ Has ys z
Has-from_insert_number x [] z = λ h. h
Has-from_insert_number x (y ∷ ys) z =
    cond_both (ltb x y) (x ∷ y ∷ ys) (cond (eqb x y) (y ∷ ys) (y ∷ insert_number x ys)) (λ l. Has l z → (x ≡ z) ⊎ ((y ≡ z) ⊎ Has ys z)) (λ e h. h)
    (λ e. cond_both (eqb x y) (y ∷ ys) (y ∷ insert_number x ys) (λ l. Has l z → (x ≡ z) ⊎ ((y ≡ z) ⊎ Has ys z)) (λ q h. inr h) (λ q h. behind (Has-from_insert_number x ys z) h))
  where
    later : (x ≡ z) ⊎ Has ys z → (x ≡ z) ⊎ ((y ≡ z) ⊎ Has ys z)
    later (inl e) = inl e
    later (inr r) = inr (inr r)

    behind : (Has (insert_number x ys) z → (x ≡ z) ⊎ Has ys z) → (y ≡ z) ⊎ Has (insert_number x ys) z → (x ≡ z) ⊎ ((y ≡ z) ⊎ Has ys z)
    behind rest (inl e) = inr (inl e)
    behind rest (inr r) = later (rest r)

pub Ascends-insert_number : (x : ℕ) (ys : List ℕ) → Ascends ys → Ascends (insert_number x ys)
Ascends-insert_number x [] a = (λ z h. absurd h, tt)
Ascends-insert_number x (y ∷ ys) a =
    cond_both (ltb x y) (x ∷ y ∷ ys) (cond (eqb x y) (y ∷ ys) (y ∷ insert_number x ys)) Ascends (λ e. (first (ltb-true x y e), a))
    (λ e. cond_both (eqb x y) (y ∷ ys) (y ∷ insert_number x ys) Ascends (λ q. a)
    (λ q. (λ z h. later (ltb-false x y e) (eqb-false x y q) z (Has-from_insert_number x ys z h), Ascends-insert_number x ys a.1)))
  where
    first : x < y → (z : ℕ) → (y ≡ z) ⊎ Has ys z → x < z
    first l z (inl e) = omega arith
    first l z (inr h) = let m = a.0 z h in omega arith

    later : y ≤ x → (x ≡ y → ⊥) → (z : ℕ) → (x ≡ z) ⊎ Has ys z → y < z
    later l ne z (inl e) = omega arith
    later l ne z (inr h) = a.0 z h

-- ---- either, and both

pub Has-union : (xs ys : List ℕ) (z : ℕ) → Has xs z ⊎ Has ys z → Has (union xs ys) z
Has-union [] ys z (inl h) = absurd h
Has-union [] ys z (inr h) = h
Has-union (x ∷ xs) ys z (inl (inl e)) = Has-insert_number x (union xs ys) z (inl e)
Has-union (x ∷ xs) ys z (inl (inr h)) = Has-insert_number x (union xs ys) z (inr (Has-union xs ys z (inl h)))
Has-union (x ∷ xs) ys z (inr h) = Has-insert_number x (union xs ys) z (inr (Has-union xs ys z (inr h)))

pub Has-from_union : (xs ys : List ℕ) (z : ℕ) → Has (union xs ys) z → Has xs z ⊎ Has ys z
Has-from_union [] ys z h = inr h
Has-from_union (x ∷ xs) ys z h = by (Has-from_union xs ys z) (Has-from_insert_number x (union xs ys) z h)
  where
    back : Has xs z ⊎ Has ys z → ((x ≡ z) ⊎ Has xs z) ⊎ Has ys z
    back (inl p) = inl (inr p)
    back (inr p) = inr p

    by : (Has (union xs ys) z → Has xs z ⊎ Has ys z) → (x ≡ z) ⊎ Has (union xs ys) z → ((x ≡ z) ⊎ Has xs z) ⊎ Has ys z
    by rest (inl e) = inl (inl e)
    by rest (inr r) = back (rest r)

pub Ascends-union : (xs ys : List ℕ) → Ascends ys → Ascends (union xs ys)
Ascends-union [] ys b = b
Ascends-union (x ∷ xs) ys b = Ascends-insert_number x (union xs ys) (Ascends-union xs ys b)

pub Has-from_filter : (p : ℕ → Bool) (xs : List ℕ) (z : ℕ) → Has (filter p xs) z → Has xs z × (p z ≡ true)
Has-from_filter p [] z = λ h. absurd h
Has-from_filter p (x ∷ xs) z =
    cond_both (p x) (x ∷ filter p xs) (filter p xs) (λ l. Has l z → ((x ≡ z) ⊎ Has xs z) × (p z ≡ true))
    (λ e h. kept (Has-from_filter p xs z) e h)
    (λ e h. let r = Has-from_filter p xs z h in (inr r.0, r.1))
  where
    kept : (Has (filter p xs) z → Has xs z × (p z ≡ true)) → p x ≡ true → (x ≡ z) ⊎ Has (filter p xs) z → ((x ≡ z) ⊎ Has xs z) × (p z ≡ true)
    kept rest e (inl q) = (inl q, subst (λ n. p n ≡ true) q e)
    kept rest e (inr h) = let r = rest h in (inr r.0, r.1)

pub Has-filter : (p : ℕ → Bool) (xs : List ℕ) (z : ℕ) → Has xs z → p z ≡ true → Has (filter p xs) z
Has-filter p [] z h t = h
Has-filter p (x ∷ xs) z h t =
    cond_both (p x) (x ∷ filter p xs) (filter p xs) (λ l. Has l z) (λ e. kept (λ r. Has-filter p xs z r t) h) (λ e. gone (λ r. Has-filter p xs z r t) e h)
  where
    kept : (Has xs z → Has (filter p xs) z) → (x ≡ z) ⊎ Has xs z → (x ≡ z) ⊎ Has (filter p xs) z
    kept rest (inl q) = inl q
    kept rest (inr r) = inr (rest r)

    gone : (Has xs z → Has (filter p xs) z) → p x ≡ false → (x ≡ z) ⊎ Has xs z → Has (filter p xs) z
    gone rest e (inl q) = absurd (true≢false (sym t ∙ ap p (sym q) ∙ e))
    gone rest e (inr r) = rest r

pub Has-from_intersection : (xs ys : List ℕ) (z : ℕ) → Has (intersection xs ys) z → Has xs z × Has ys z
Has-from_intersection xs ys z h =
    let r = Has-from_filter (λ x. list_any (λ y. eqb x y) ys) xs z h in
    (r.0, Has-from_any z ys r.1)

pub Has-intersection : (xs ys : List ℕ) (z : ℕ) → Has xs z → Has ys z → Has (intersection xs ys) z
Has-intersection xs ys z h k = Has-filter (λ x. list_any (λ y. eqb x y) ys) xs z h (any_from_Has z ys k)

-- ---- subsets

pub Has-subset : (xs ys : List ℕ) → IsSubset xs ys → (z : ℕ) → Has xs z → Has ys z
Has-subset xs ys s z h = Has-from_Contains ys z (s.each z (Contains-from_Has xs z h))

pub subset_from_Has : (xs ys : List ℕ) → ((z : ℕ) → Has xs z → Has ys z) → IsSubset xs ys
subset_from_Has xs ys f = record { each = λ z c. Contains-from_Has ys z (f z (Has-from_Contains xs z c)) }

-- ---- what the code computes

-- what `binary_search` found is whether the number is there
pub is_ok-search : (xs : List ℕ) (x : ℕ) (r : Result ℕ ℕ) → IsStrictlyIncreasing xs → IsBinarySearchResult (λ y. nat_cmp y x) xs r → is_ok r ≡ list_any (λ y. eqb x y) xs
is_ok-search xs x r up h = by r (searched xs x r h rises)
  where
    rises : (i j : ℕ) → i ≤ j → j < length xs → get_or xs i 0 ≤ get_or xs j 0
    rises i j l w = elim (cases_eq i j) [
      | inl e ↦ subst (λ k. get_or xs i 0 ≤ get_or xs k 0) e (omega arith)
      | inr ne ↦ (let m = AllPairs-from_increasing xs up i j 0 (omega arith) w in omega arith)
    ]

    none : (i : ℕ) → ((k : ℕ) → k < i → get_or xs k 0 < x) → ((k : ℕ) → i ≤ k → k < length xs → x < get_or xs k 0) → Has xs x → ⊥
    none i low high has =
        let c = Contains-from_Has xs x has in
        let at : get_or xs c.0 0 ≡ x = sym (get_or_read xs c.0 x c.1 (sym c.2) 0) in
        elim (cases_lt c.0 i) [ inl l ↦ (let m = low c.0 l in omega (arith, at)) | inr g ↦ (let m = high c.0 g c.1 in omega (arith, at)) ]

    by : (r : Result ℕ ℕ) → MatchResult r (λ i. (i < length xs) × (get_or xs i 0 ≡ x))
        (λ i. (i ≤ length xs) × ((k : ℕ) → k < i → get_or xs k 0 < x)
        × ((k : ℕ) → i ≤ k → k < length xs → x < get_or xs k 0)) → is_ok r ≡ list_any (λ y. eqb x y) xs
    by (Ok i) m = sym (any_from_Has x xs (subst (Has xs) m.1 (Has-from_Contains xs (get_or xs i 0) (Contains-get_or xs i 0 m.0))))
    by (Err i) m = sym (false_from_ne_true _ (λ t. none i m.1 m.2 (Has-from_any x xs t)))

-- a sort and a removal of repeated numbers give the numbers of either
pub dedup-union : (xs ys sorted : List ℕ) → IsStrictlyIncreasing ys → IsPermutation (xs ++ ys) sorted → IsSorted nat_cmp sorted → dedup eqb sorted ≡ union xs ys
dedup-union xs ys sorted up moved order =
    same_from_members (dedup eqb sorted) (union xs ys) (Ascends-from_increasing _ (IsStrictlyIncreasing-dedup sorted order)) (Ascends-union xs ys (Ascends-from_increasing ys up))
    (λ z h.
    let c = Contains-from_dedup eqb sorted z (Contains-from_Has (dedup eqb sorted) z h) in
    let d = Contains-permutation sorted (xs ++ ys) z (IsPermutation-sym (xs ++ ys) sorted moved) c in
    Has-union xs ys z (elim (Contains-append_cases xs ys z d) [ inl p ↦ inl (Has-from_Contains xs z p) | inr p ↦ inr (Has-from_Contains ys z p) ]))
    (λ z h.
    let c : Contains (xs ++ ys) z =
    elim (Has-from_union xs ys z h)
    [ inl p ↦ Contains-append_left xs ys z (Contains-from_Has xs z p) | inr p ↦ Contains-append_right xs ys z (Contains-from_Has ys z p) ] in
    Has-from_Contains (dedup eqb sorted) z (Contains-dedup_nat sorted z (Contains-permutation (xs ++ ys) sorted z moved c)))

-- what `all` answers of a test on each is whether they are a subset
pub subset_from_all : (xs ys : List ℕ) → list_all (λ x. list_any (λ y. eqb x y) ys) xs ≡ true → IsSubset xs ys
subset_from_all xs ys h = subset_from_Has xs ys (by xs h)
  where
    by : (l : List ℕ) → list_all (λ x. list_any (λ y. eqb x y) ys) l ≡ true → (z : ℕ) → Has l z → Has ys z
    by [] h z has = absurd has
    by (x ∷ l) h z (inl e) = subst (Has ys) e (Has-from_any x ys (and_parts _ _ h).0)
    by (x ∷ l) h z (inr r) = by l (and_parts _ _ h).1 z r

pub all_from_subset : (xs ys : List ℕ) → IsSubset xs ys → list_all (λ x. list_any (λ y. eqb x y) ys) xs ≡ true
all_from_subset xs ys s = by xs (Has-subset xs ys s)
  where
    by : (l : List ℕ) → ((z : ℕ) → Has l z → Has ys z) → list_all (λ x. list_any (λ y. eqb x y) ys) l ≡ true
    by [] f = refl
    by (x ∷ l) f = and_from _ _ (any_from_Has x ys (f x (inl refl))) (by l (λ z h. f z (inr h)))
