-- Later places with an equal key.
use Rattle.std.proofs.Common.{
  ◌≡◌,
  ◌<◌,
  ◌≤◌,
  ◌⊎◌,
  inl,
  inr,
  ℕ,
  zero,
  suc,
  ◌+◌,
  cond,
  List,
  [],
  ◌∷◌,
  length,
  set,
  replicate,
  refl,
  sym,
  ap,
  subst,
  ◌∙◌,
  arith,
  slice_get,
  Some,
  None,
  Option,
  Less,
  Equal,
  Greater,
}
use Rattle.std.specs.declared.cmp.Ordering.{Ordering}
use Rattle.std.specs.Cmp.{IsTotalOrder}
use Rattle.std.specs.Ordering.{is_eq}
use Rattle.std.proofs.lemmas.Bool.{cases_eq}
use Rattle.std.proofs.lemmas.Cmp.{tied_back}
use Rattle.std.proofs.lemmas.List.{length-set, length-replicate}
use Rattle.std.proofs.lemmas.Option.{none-some, same_Some, slice_get_within}
use Rattle.declared_twice.specs.Later.{IsFirstAt, HasEqual, AreLater}

-- the first place from one on, or from the one before it where nothing holds there
pub first_down : (P : ℕ → Type 0) (p : ℕ) (o : Option ℕ) → (P p → ⊥) → IsFirstAt P (p + 1) o → IsFirstAt P p o
first_down P p None n h = λ j l x. at j x l (cases_eq p j)
  where
    at : (j : ℕ) → P j → p ≤ j → (p ≡ j) ⊎ (p ≡ j → ⊥) → ⊥
    at j x l (inl e) = n (subst P (sym e) x)
    at j x l (inr d) = h j (omega (arith, l, d)) x
first_down P p (Some k) n h = (omega (arith, h.0), h.1, λ j l m x. at j l m x (cases_eq p j))
  where
    at : (j : ℕ) → p ≤ j → j < k → P j → (p ≡ j) ⊎ (p ≡ j → ⊥) → ⊥
    at j l m x (inl e) = n (subst P (sym e) x)
    at j l m x (inr d) = h.2 j (omega (arith, l, d)) m x

-- the same of what holds at the same places
pub first_same : (P Q : ℕ → Type 0) (i : ℕ) (o : Option ℕ) → ((j : ℕ) → P j → Q j) → ((j : ℕ) → Q j → P j) → IsFirstAt P i o → IsFirstAt Q i o
first_same P Q i None to from h = λ j l x. h j l (from j x)
first_same P Q i (Some k) to from h = (h.0, to k h.1, λ j l m x. h.2 j l m (from j x))

pub set_same : {X : Type 0} (xs : List X) (i : ℕ) (v : X) → i < length xs → slice_get (set xs i v) i ≡ Some v
set_same [] i v l = absurd (omega (arith, l))
set_same (x ∷ xs) zero v l = refl
set_same (x ∷ xs) (suc i) v l = set_same xs i v (omega (arith, l))

pub set_other : {X : Type 0} (xs : List X) (i j : ℕ) (v : X) → (i ≡ j → ⊥) → slice_get (set xs i v) j ≡ slice_get xs j
set_other [] i j v d = refl
set_other (x ∷ xs) zero zero v d = absurd (d refl)
set_other (x ∷ xs) zero (suc j) v d = refl
set_other (x ∷ xs) (suc i) zero v d = refl
set_other (x ∷ xs) (suc i) (suc j) v d = set_other xs i j v (λ e. d (ap (λ (n : ℕ). suc n) e))

replicate_at : {X : Type 0} (n i : ℕ) (v : X) → i < n → slice_get (replicate n v) i ≡ Some v
replicate_at zero i v l = absurd (omega (arith, l))
replicate_at (suc n) zero v l = refl
replicate_at (suc n) (suc i) v l = replicate_at n i v (omega (arith, l))

-- The places from one on have their next ones, and each key its first place from there on.
pub record SoFar {K : Type 0} (cmp : K → K → Ordering) (ks : List (Option K)) (p : ℕ) (f : K → Option ℕ) (ns : List (Option ℕ)) : Type 0 where
  pub size : length ns ≡ length ks
  pub untouched : (i : ℕ) → i < p → i < length ks → slice_get ns i ≡ Some None
  pub each : (i : ℕ) (k : K) → p ≤ i → slice_get ks i ≡ Some (Some k) → (n : Option ℕ) × (slice_get ns i ≡ Some n) × IsFirstAt (HasEqual cmp ks k) (i + 1) n
  pub none : (i : ℕ) → p ≤ i → slice_get ks i ≡ Some None → slice_get ns i ≡ Some None
  pub first : (k : K) → IsFirstAt (HasEqual cmp ks k) p (f k)

pub so_far_none : {K : Type 0} (cmp : K → K → Ordering) (ks : List (Option K)) (n : ℕ) (f : K → Option ℕ)
    → n ≡ length ks → ((k : K) → f k ≡ None) → SoFar cmp ks n f (replicate n None)
so_far_none {K} cmp ks n f e h = record {
  size = length-replicate n None ∙ e;
  untouched = λ i l m. replicate_at n i None l;
  each = λ i k l at. absurd (past i (Some k) l at);
  none = λ i l at. absurd (past i None l at);
  first = λ k. subst (λ (o : Option ℕ). IsFirstAt (HasEqual cmp ks k) n o) (sym (h k)) (λ j l x. past j (Some x.key) l x.at);
}
  where
    past : (i : ℕ) (o : Option K) → n ≤ i → slice_get ks i ≡ Some o → ⊥
    past i o l at = omega (arith, l, e, slice_get_within ks i o at)

-- a place without a key
pub so_far_apart : {K : Type 0} (cmp : K → K → Ordering) (ks : List (Option K)) (p : ℕ) (f : K → Option ℕ) (ns : List (Option ℕ)) → slice_get ks p ≡ Some None →
    SoFar cmp ks (p + 1) f ns → SoFar cmp ks p f ns
so_far_apart {K} cmp ks p f ns at s = record {
  size = s.size;
  untouched = λ i l m. s.untouched i (omega (arith, l)) m;
  each = λ i k l h. each i k l h (cases_eq p i);
  none = λ i l h. none i l h (cases_eq p i);
  first = λ k. first_down (HasEqual cmp ks k) p (f k) (λ x. other x.key x.at) (s.first k);
}
  where
    other : (k : K) → slice_get ks p ≡ Some (Some k) → ⊥
    other k h = none-some k (same_Some None (Some k) (sym at ∙ h))

    each : (i : ℕ) (k : K) → p ≤ i → slice_get ks i ≡ Some (Some k) → (p ≡ i) ⊎ (p ≡ i → ⊥) → (n : Option ℕ) × (slice_get ns i ≡ Some n) × IsFirstAt (HasEqual cmp ks k) (i + 1) n
    each i k l h (inl e) = absurd (other k (ap (λ (j : ℕ). slice_get ks j) e ∙ h))
    each i k l h (inr d) = s.each i k (omega (arith, l, d)) h

    none : (i : ℕ) → p ≤ i → slice_get ks i ≡ Some None → (p ≡ i) ⊎ (p ≡ i → ⊥) → slice_get ns i ≡ Some None
    none i l h (inl e) = ap (λ (j : ℕ). slice_get ns j) (sym e) ∙ s.untouched p (omega arith) (slice_get_within ks p None at)
    none i l h (inr d) = s.none i (omega (arith, l, d)) h

-- one with a key
pub so_far_more : {K : Type 0} (cmp : K → K → Ordering) (ks : List (Option K)) (p : ℕ) (f g : K → Option ℕ) (ns : List (Option ℕ)) (k : K) → IsTotalOrder cmp →
    slice_get ks p ≡ Some (Some k) → ((q : K) → g q ≡ cond (is_eq (cmp k q)) (Some p) (f q)) → SoFar cmp ks (p + 1) f ns → SoFar cmp ks p g (set ns p (f k))
so_far_more {K} cmp ks p f g ns k total at new s = record {
  size = length-set ns p (f k) ∙ s.size;
  untouched = λ i l m. set_other ns p i (f k) (λ e. omega (arith, l, e)) ∙ s.untouched i (omega (arith, l)) m;
  each = λ i q l h. each i q l h (cases_eq p i);
  none = λ i l h. none i l h (cases_eq p i);
  first = λ q. subst (λ (o : Option ℕ). IsFirstAt (HasEqual cmp ks q) p o) (sym (new q)) (first q (cmp k q) refl);
}
  where
    within : p < length ns
    within = omega (arith, s.size, slice_get_within ks p (Some k) at)

    each : (i : ℕ) (q : K) → p ≤ i → slice_get ks i ≡ Some (Some q) → (p ≡ i) ⊎ (p ≡ i → ⊥) → (n : Option ℕ)
        × (slice_get (set ns p (f k)) i ≡ Some n) × IsFirstAt (HasEqual cmp ks q) (i + 1) n
    each i q l h (inl e) =
        let same : k ≡ q = same_Some k q (same_Some (Some k) (Some q) (sym at ∙ ap (λ (j : ℕ). slice_get ks j) e ∙ h)) in (
          f k,
          ap (λ (j : ℕ). slice_get (set ns p (f k)) j) (sym e) ∙ set_same ns p (f k) within,
          subst (λ (x : K). IsFirstAt (HasEqual cmp ks x) (i + 1) (f k)) same (subst (λ (j : ℕ). IsFirstAt (HasEqual cmp ks k) (j + 1) (f k)) e (s.first k)),
        )
    each i q l h (inr d) = let r = s.each i q (omega (arith, l, d)) h in (r.0, set_other ns p i (f k) d ∙ r.1, r.2)

    none : (i : ℕ) → p ≤ i → slice_get ks i ≡ Some None → (p ≡ i) ⊎ (p ≡ i → ⊥) → slice_get (set ns p (f k)) i ≡ Some None
    none i l h (inl e) = absurd (none-some k (same_Some None (Some k) (sym h ∙ ap (λ (j : ℕ). slice_get ks j) (sym e) ∙ at)))
    none i l h (inr d) = set_other ns p i (f k) d ∙ s.none i (omega (arith, l, d)) h

    equal : (q : K) (x : HasEqual cmp ks q p) → cmp k q ≡ Equal
    equal q x = tied_back total q k (subst (λ (y : K). cmp q y ≡ Equal) (sym (same_Some k x.key (same_Some (Some k) (Some x.key) (sym at ∙ x.at)))) x.equal)

    first : (q : K) (o : Ordering) → cmp k q ≡ o → IsFirstAt (HasEqual cmp ks q) p (cond (is_eq o) (Some p) (f q))
    first q Equal e = (omega arith, record { key = k; at = at; equal = tied_back total k q e }, λ j l m x. absurd (omega (arith, l, m)))
    first q Less e = first_down (HasEqual cmp ks q) p (f q) (λ x. let t = equal q x in absurd (cc)) (s.first q)
    first q Greater e = first_down (HasEqual cmp ks q) p (f q) (λ x. let t = equal q x in absurd (cc)) (s.first q)

pub so_far_all : {K : Type 0} (cmp : K → K → Ordering) (ks : List (Option K)) (f : K → Option ℕ) (ns : List (Option ℕ)) → SoFar cmp ks 0 f ns → AreLater cmp ks ns
so_far_all cmp ks f ns s = record {
  size = s.size;
  each = λ i k h. s.each i k (omega arith) h;
  none = λ i h. s.none i (omega arith) h;
}
