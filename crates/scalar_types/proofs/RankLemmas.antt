-- The rank rises with each strict step up the order.
use Rattle.std.proofs.Common.{◌≡◌, ℕ, zero, suc, ◌+◌, ◌<◌, ◌≤◌, ◌^◌, Bool, true, false, List, [], ◌∷◌, length, ◌⊎◌, inl, inr, refl, sym, subst, ◌∙◌, arith}
use Rattle.std.specs.Int.{bit_at}
use Rattle.std.specs.List.Sorted.{IsStrictlyIncreasing}
use Rattle.std.proofs.lemmas.Bool.{cases_lt, cases_eq, true≢false}
use Rattle.std.proofs.lemmas.Nat.Bits.{bit_at-lt, bit_at_above}
use Rattle.scalar_types.specs.Sets.{IsSubset, union, intersection}
use Rattle.scalar_types.specs.Terms.{flag_count, Facts, TypeTerm, any, plain, array, AreFactsWellFormed, IsWellFormed}
use Rattle.scalar_types.specs.Order.{BitsAmong, FactsAmong, Below}
use Rattle.scalar_types.specs.Join.{NestsTo, join_of, meet_of, flattened, element_of, labels_beside}
use Rattle.scalar_types.specs.Rank.{set_bits, fact_count, top_rank, rank, UsesOnly}
use Rattle.scalar_types.proofs.OrderLemmas.{IsSubset-nil, IsSubset-trans}
use Rattle.scalar_types.proofs.JoinLemmas.{IsSubset-union, IsSubset-beside}
use Rattle.scalar_types.proofs.SetLemmas.{Has, Ascends, Has-subset, subset_from_Has, Ascends-from_increasing, Has-from_intersection}

-- a number rises, or it stays and P holds
abbrev Rises : ℕ → ℕ → Type 0 → Type 0
Rises m n P = (m < n) ⊎ ((m ≡ n) × P)

Rises-le : (m n : ℕ) (P : Type 0) → Rises m n P → m ≤ n
Rises-le m n P (inl l) = omega arith
Rises-le m n P (inr e) = omega (arith, e.0)

both : (m n i j : ℕ) (P Q R : Type 0) → Rises m n P → Rises i j Q → (P → Q → R) → Rises (m + i) (n + j) R
both m n i j P Q R (inl h) (inl k) f = inl (omega arith)
both m n i j P Q R (inl h) (inr k) f = inl (omega (arith, k.0))
both m n i j P Q R (inr h) (inl k) f = inl (omega (arith, h.0))
both m n i j P Q R (inr h) (inr k) f = inr (omega (arith, h.0, k.0), f h.1 k.1)

-- ---- bits, flags and sets

bits_below : (k a b : ℕ) → BitsAmong a b → Rises (set_bits k a) (set_bits k b) ((i : ℕ) → i < k → bit_at b i ≤ bit_at a i)
bits_below zero a b h = inr (refl, λ i l. absurd (omega (arith, l)))
bits_below (suc k) a b h =
    both (bit_at a k) (bit_at b k) (set_bits k a) (set_bits k b) (bit_at b k ≤ bit_at a k) ((i : ℕ) → i < k → bit_at b i ≤ bit_at a i) _ here
    (bits_below k a b h)
    (λ p q i l. elim (cases_eq i k) [ inl e ↦ subst (λ n. bit_at b n ≤ bit_at a n) (sym e) p | inr ne ↦ q i (omega (arith, l)) ])
  where
    here : Rises (bit_at a k) (bit_at b k) (bit_at b k ≤ bit_at a k)
    here = elim (cases_lt (bit_at a k) (bit_at b k)) [ inl l ↦ inl l | inr g ↦ inr (omega (arith, h.each k), g) ]

bits_rise : (a b : ℕ) → b < 2 ^ 11 → BitsAmong a b → Rises (set_bits 11 a) (set_bits 11 b) (BitsAmong b a)
bits_rise a b w h = by (bits_below 11 a b h)
  where
    back : ((i : ℕ) → i < 11 → bit_at b i ≤ bit_at a i) → (i : ℕ) → bit_at b i ≤ bit_at a i
    back q i = elim (cases_lt i 11) [ inl l ↦ q i l | inr g ↦ omega (arith, bit_at_above b 11 i w g) ]

    by : Rises (set_bits 11 a) (set_bits 11 b) ((i : ℕ) → i < 11 → bit_at b i ≤ bit_at a i) → Rises (set_bits 11 a) (set_bits 11 b) (BitsAmong b a)
    by (inl l) = inl l
    by (inr e) = inr (e.0, record { each = back e.1 })

flags_rise : (a b : Bool) → (a ≡ true → b ≡ true) → Rises (flag_count a) (flag_count b) (b ≡ true → a ≡ true)
flags_rise true true h = inr (refl, λ e. e)
flags_rise true false h = absurd (true≢false (sym (h refl)))
flags_rise false true h = inl (omega arith)
flags_rise false false h = inr (refl, λ e. e)

members_rise : (xs ys : List ℕ) → Ascends xs → Ascends ys → ((z : ℕ) → Has xs z → Has ys z) → Rises (length xs) (length ys) ((z : ℕ) → Has ys z → Has xs z)
members_rise [] [] a b f = inr (refl, λ z h. h)
members_rise [] (y ∷ ys) a b f = inl (omega arith)
members_rise (x ∷ xs) [] a b f = absurd (f x (inl refl))
members_rise (x ∷ xs) (y ∷ ys) a b f = first (f x (inl refl))
    (λ e. same e (members_rise xs ys a.1 b.1 (λ z h. past z (f z (inr h)) (subst (λ n. n < z) e (a.0 z h)))))
    (λ l. more (members_rise (x ∷ xs) ys a b.1 (λ z h. past z (f z h) (above z h l))))
  where
    past : (z : ℕ) → (y ≡ z) ⊎ Has ys z → y < z → Has ys z
    past z (inl e) l = absurd (omega arith)
    past z (inr h) l = h

    above : (z : ℕ) → (x ≡ z) ⊎ Has xs z → y < x → y < z
    above z (inl e) l = omega arith
    above z (inr h) l = let m = a.0 z h in omega arith

    same : x ≡ y → Rises (length xs) (length ys) ((z : ℕ) → Has ys z → Has xs z) → Rises (length (x ∷ xs)) (length (y ∷ ys)) ((z : ℕ) → (y ≡ z) ⊎ Has ys z → (x ≡ z) ⊎ Has xs z)
    same e (inl l) = inl (omega arith)
    same e (inr r) = inr (omega (arith, r.0), λ z. elim [ inl q ↦ inl (e ∙ q) | inr h ↦ inr (r.1 z h) ])

    more : Rises (length (x ∷ xs)) (length ys) ((z : ℕ) → Has ys z → Has (x ∷ xs) z) → Rises (length (x ∷ xs)) (length (y ∷ ys)) ((z : ℕ) → (y ≡ z) ⊎ Has ys z → (x ≡ z) ⊎ Has xs z)
    more r = inl (let l = Rises-le _ _ _ r in omega arith)

    first : {R : Type 0} → (y ≡ x) ⊎ Has ys x → (x ≡ y → R) → (y < x → R) → R
    first (inl e) same more = same (sym e)
    first (inr h) same more = more (b.0 x h)

pub subset_rises : (xs ys : List ℕ) → IsStrictlyIncreasing xs → IsStrictlyIncreasing ys → IsSubset xs ys → Rises (length xs) (length ys) (IsSubset ys xs)
subset_rises xs ys a b s = by (members_rise xs ys (Ascends-from_increasing xs a) (Ascends-from_increasing ys b) (Has-subset xs ys s))
  where
    by : Rises (length xs) (length ys) ((z : ℕ) → Has ys z → Has xs z) → Rises (length xs) (length ys) (IsSubset ys xs)
    by (inl l) = inl l
    by (inr r) = inr (r.0, subset_from_Has ys xs r.1)

facts_rise : (f g : Facts) → AreFactsWellFormed f → AreFactsWellFormed g → FactsAmong f g → Rises (fact_count f) (fact_count g) (FactsAmong g f)
facts_rise f g v w h =
    let bits = bits_rise f.bits g.bits w.eleven_bits h.bits in
    let neg = flags_rise f.neg g.neg h.neg in
    let text_keys = flags_rise f.text_keys g.text_keys h.text_keys in
    let classes = subset_rises f.classes g.classes v.classes_ascend w.classes_ascend h.classes in
    both _ _ _ _ _ _ _ (both _ _ _ _ _ _ (BitsAmong g.bits f.bits × (g.neg ≡ true → f.neg ≡ true) × (g.text_keys ≡ true → f.text_keys ≡ true))
    (both _ _ _ _ _ _ (BitsAmong g.bits f.bits × (g.neg ≡ true → f.neg ≡ true)) bits neg (λ p q. (p, q))) text_keys (λ p q. (p.0, p.1, q))) classes
    (λ p q. record { bits = p.0; neg = p.1; text_keys = p.2; classes = q })

-- ---- bounds

set_bits_le : (k b : ℕ) → set_bits k b ≤ k
set_bits_le zero b = omega arith
set_bits_le (suc k) b = omega (arith, bit_at-lt b k, set_bits_le k b)

flag_count_le : (a : Bool) → flag_count a ≤ 1
flag_count_le true = omega arith
flag_count_le false = omega arith

-- an array's facts are more than those of a type without an array that is below it
array_facts_rise : (f g : Facts) → AreFactsWellFormed f → AreFactsWellFormed g → bit_at f.bits 9 ≡ 0 → bit_at g.bits 9 ≡ 1 → FactsAmong f g → fact_count f < fact_count g
array_facts_rise f g v w p q h = by (facts_rise f g v w h)
  where
    by : Rises (fact_count f) (fact_count g) (FactsAmong g f) → fact_count f < fact_count g
    by (inl l) = l
    by (inr r) = absurd (let m = r.1.bits.each 9 in omega (arith, m, p, q))

module _ (labels classes : List ℕ) (labels_ascend : IsStrictlyIncreasing labels) (classes_ascend : IsStrictlyIncreasing classes) where
  abbrev at : ℕ → TypeTerm → ℕ
  at n a = rank (length labels) (length classes) n a

  abbrev top : ℕ → ℕ
  top n = top_rank (length labels) (length classes) n

  fact_count_le : (f : Facts) → AreFactsWellFormed f → IsSubset f.classes classes → fact_count f ≤ 13 + length classes
  fact_count_le f v s =
      let l = Rises-le _ _ _ (subset_rises f.classes classes v.classes_ascend classes_ascend s) in
      omega (arith, set_bits_le 11 f.bits, flag_count_le f.neg, flag_count_le f.text_keys)

  labels_le : (f : Facts) → AreFactsWellFormed f → IsSubset f.shared labels → length f.shared ≤ length labels
  labels_le f v s = Rises-le _ _ _ (subset_rises f.shared labels v.labels_ascend labels_ascend s)

  top_least : (n : ℕ) → 14 + length labels + length classes ≤ top n
  top_least zero = omega arith
  top_least (suc n) = omega arith

  plain_below_top : (n : ℕ) (f : Facts) → IsWellFormed (plain f) → UsesOnly labels classes (plain f) → at n (plain f) < top n
  plain_below_top n f v u = omega (arith, fact_count_le f v.0 u.1, labels_le f v.0 u.0, top_least n)

  array_below_top : (n : ℕ) (f : Facts) (e : TypeTerm) → IsWellFormed (array f e) → UsesOnly labels classes (array f e) → NestsTo n (array f e) → at n (array f e) < top n
  array_below_top zero f any v u h = omega (arith, fact_count_le f v.0 u.1)
  array_below_top zero f (plain g) v u h = absurd h
  array_below_top zero f (array g e) v u h = absurd h
  array_below_top (suc n) f any v u h = omega (arith, fact_count_le f v.0 u.1)
  array_below_top (suc n) f (plain g) v u h = omega (arith, fact_count_le f v.0 u.1, labels_le f v.0 u.0, plain_below_top n g v.3 u.2)
  array_below_top (suc n) f (array g e) v u h = omega (arith, fact_count_le f v.0 u.1, labels_le f v.0 u.0, array_below_top n g e v.3 u.2 h)

  -- no rank is above that of Any
  pub rank_le_top : (n : ℕ) (a : TypeTerm) → IsWellFormed a → UsesOnly labels classes a → NestsTo n a → at n a ≤ top n
  rank_le_top n any v u h = omega arith
  rank_le_top n (plain f) v u h = omega (arith, plain_below_top n f v u)
  rank_le_top n (array f e) v u h = omega (arith, array_below_top n f e v u h)

  -- a type that is below another has a lower rank, or it is above it too
  pub rank_rises : (n : ℕ) (a b : TypeTerm) → IsWellFormed a → IsWellFormed b → UsesOnly labels classes a → UsesOnly labels classes b → NestsTo n a → NestsTo n b → Below a b
      → (at n a < at n b) ⊎ ((at n a ≡ at n b) × Below b a)
  rank_rises n any any v w t u p q h = inr (refl, tt)
  rank_rises n any (plain g) v w t u p q h = absurd h
  rank_rises n any (array g e) v w t u p q h = absurd h
  rank_rises n (plain f) any v w t u p q h = inl (plain_below_top n f v t)
  rank_rises n (array f d) any v w t u p q h = inl (array_below_top n f d v t p)
  rank_rises n (plain f) (plain g) v w t u p q h =
      both _ _ _ _ _ _ _ (facts_rise f g v.0 w.0 h.0) (subset_rises f.shared g.shared v.0.labels_ascend w.0.labels_ascend h.1) (λ k l. (k, l))
  rank_rises zero (plain f) (array g e) v w t u p q h =
      inl (omega (arith, array_facts_rise f g v.0 w.0 v.1 w.1 h.0, labels_le f v.0 t.0))
  rank_rises (suc n) (plain f) (array g any) v w t u p q h =
      inl (omega (arith, array_facts_rise f g v.0 w.0 v.1 w.1 h.0, labels_le f v.0 t.0))
  rank_rises (suc n) (plain f) (array g (plain k)) v w t u p q h =
      inl
      (omega (arith, array_facts_rise f g v.0 w.0 v.1 w.1 h.0, Rises-le _ _ _ (subset_rises f.shared g.shared v.0.labels_ascend w.0.labels_ascend h.1)))
  rank_rises (suc n) (plain f) (array g (array k e)) v w t u p q h =
      inl
      (omega (arith, array_facts_rise f g v.0 w.0 v.1 w.1 h.0, Rises-le _ _ _ (subset_rises f.shared g.shared v.0.labels_ascend w.0.labels_ascend h.1)))
  rank_rises n (array f d) (plain g) v w t u p q h = absurd h
  rank_rises zero (array f any) (array g any) v w t u p q h =
      both _ _ _ _ _ (Unit {0}) _ (facts_rise f g v.0 w.0 h.0) (inr (refl, tt)) (λ k l. (k, tt, tt))
  rank_rises zero (array f any) (array g (plain k)) v w t u p q h = absurd q
  rank_rises zero (array f any) (array g (array k e)) v w t u p q h = absurd q
  rank_rises zero (array f (plain m)) (array g e) v w t u p q h = absurd p
  rank_rises zero (array f (array m d)) (array g e) v w t u p q h = absurd p
  rank_rises (suc n) (array f any) (array g any) v w t u p q h =
      both _ _ _ _ _ (Unit {0}) _ (both _ _ _ _ _ (Unit {0}) (FactsAmong g f) (facts_rise f g v.0 w.0 h.0) (inr (refl, tt)) (λ k l. k)) (inr (refl, tt))
      (λ k l. (k, tt, tt))
  rank_rises (suc n) (array f any) (array g (plain k)) v w t u p q h = absurd h.1
  rank_rises (suc n) (array f any) (array g (array k e)) v w t u p q h = absurd h.1
  rank_rises (suc n) (array f (plain m)) (array g any) v w t u p q h =
      inl (omega (arith, Rises-le _ _ _ (facts_rise f g v.0 w.0 h.0), labels_le f v.0 t.0, plain_below_top n m v.3 t.2))
  rank_rises (suc n) (array f (array m d)) (array g any) v w t u p q h =
      inl (omega (arith, Rises-le _ _ _ (facts_rise f g v.0 w.0 h.0), labels_le f v.0 t.0, array_below_top n m d v.3 t.2 p))
  rank_rises (suc n) (array f (plain m)) (array g (plain k)) v w t u p q h =
      both _ _ _ _ _ _ _
      (both _ _ _ _ _ _ (FactsAmong g f × IsSubset g.shared f.shared) (facts_rise f g v.0 w.0 h.0)
      (subset_rises f.shared g.shared v.0.labels_ascend w.0.labels_ascend h.2) (λ x y. (x, y)))
      (rank_rises n (plain m) (plain k) v.3 w.3 t.2 u.2 p q h.1) (λ x y. (x.0, y, x.1))
  rank_rises (suc n) (array f (plain m)) (array g (array k e)) v w t u p q h =
      both _ _ _ _ _ _ _
      (both _ _ _ _ _ _ (FactsAmong g f × IsSubset g.shared f.shared) (facts_rise f g v.0 w.0 h.0)
      (subset_rises f.shared g.shared v.0.labels_ascend w.0.labels_ascend h.2) (λ x y. (x, y)))
      (rank_rises n (plain m) (array k e) v.3 w.3 t.2 u.2 p q h.1) (λ x y. (x.0, y, x.1))
  rank_rises (suc n) (array f (array m d)) (array g (plain k)) v w t u p q h = absurd h.1
  rank_rises (suc n) (array f (array m d)) (array g (array k e)) v w t u p q h =
      both _ _ _ _ _ _ _
      (both _ _ _ _ _ _ (FactsAmong g f × IsSubset g.shared f.shared) (facts_rise f g v.0 w.0 h.0)
      (subset_rises f.shared g.shared v.0.labels_ascend w.0.labels_ascend h.2) (λ x y. (x, y)))
      (rank_rises n (array m d) (array k e) v.3 w.3 t.2 u.2 p q h.1) (λ x y. (x.0, y, x.1))

-- ---- labels and classes of results

IsSubset-intersection : (xs ys zs : List ℕ) → IsSubset xs zs → IsSubset (intersection xs ys) zs
IsSubset-intersection xs ys zs s =
    subset_from_Has (intersection xs ys) zs (λ z h. Has-subset xs zs s z (Has-from_intersection xs ys z h).0)

beside_labels : (xs ys zs : List ℕ) (e : TypeTerm) → IsSubset xs zs → IsSubset ys zs → IsSubset (labels_beside e (union xs ys)) zs
beside_labels xs ys zs e s t = IsSubset-trans _ (union xs ys) zs (IsSubset-beside (union xs ys) e) (IsSubset-union xs ys zs s t)

module _ (labels classes : List ℕ) where
  pub UsesOnly-join : (a b : TypeTerm) → UsesOnly labels classes a → UsesOnly labels classes b → UsesOnly labels classes (join_of a b)
  UsesOnly-join any any t u = tt
  UsesOnly-join any (plain g) t u = tt
  UsesOnly-join any (array g e) t u = tt
  UsesOnly-join (plain f) any t u = tt
  UsesOnly-join (array f d) any t u = tt
  UsesOnly-join (plain f) (plain g) t u =
      (IsSubset-union f.shared g.shared labels t.0 u.0, IsSubset-union f.classes g.classes classes t.1 u.1)
  UsesOnly-join (plain f) (array g e) t u =
      (beside_labels f.shared g.shared labels e t.0 u.0, IsSubset-union f.classes g.classes classes t.1 u.1, u.2)
  UsesOnly-join (array f d) (plain g) t u =
      (beside_labels f.shared g.shared labels d t.0 u.0, IsSubset-union f.classes g.classes classes t.1 u.1, t.2)
  UsesOnly-join (array f d) (array g e) t u =
      (beside_labels f.shared g.shared labels (join_of d e) t.0 u.0, IsSubset-union f.classes g.classes classes t.1 u.1, UsesOnly-join d e t.2 u.2)

  pub UsesOnly-meet : (a b : TypeTerm) → UsesOnly labels classes a → UsesOnly labels classes b → UsesOnly labels classes (meet_of a b)
  UsesOnly-meet any any t u = tt
  UsesOnly-meet any (plain g) t u = u
  UsesOnly-meet any (array g e) t u = u
  UsesOnly-meet (plain f) any t u = t
  UsesOnly-meet (array f d) any t u = t
  UsesOnly-meet (plain f) (plain g) t u = (IsSubset-nil labels, IsSubset-intersection f.classes g.classes classes t.1)
  UsesOnly-meet (plain f) (array g e) t u = (IsSubset-nil labels, IsSubset-intersection f.classes g.classes classes t.1)
  UsesOnly-meet (array f d) (plain g) t u = (IsSubset-nil labels, IsSubset-intersection f.classes g.classes classes t.1)
  UsesOnly-meet (array f d) (array g e) t u =
      (IsSubset-union f.shared g.shared labels t.0 u.0, IsSubset-intersection f.classes g.classes classes t.1, UsesOnly-meet d e t.2 u.2)

  pub UsesOnly-flattened : (n : ℕ) (a : TypeTerm) → UsesOnly labels classes a → UsesOnly labels classes (flattened n a)
  UsesOnly-flattened n any t = tt
  UsesOnly-flattened n (plain f) t = t
  UsesOnly-flattened zero (array f e) t = (IsSubset-nil labels, t.1, tt)
  UsesOnly-flattened (suc n) (array f e) t = (t.0, t.1, UsesOnly-flattened n e t.2)

  pub UsesOnly-element : (a : TypeTerm) → UsesOnly labels classes a → UsesOnly labels classes (element_of a)
  UsesOnly-element any t = tt
  UsesOnly-element (plain f) t = (IsSubset-nil labels, IsSubset-nil classes)
  UsesOnly-element (array f e) t = t.2
