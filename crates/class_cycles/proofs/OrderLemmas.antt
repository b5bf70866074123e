-- The order of dictionaries, when a list gets one more number.
use Rattle.std.proofs.Common.{◌≡◌, ◌<◌, ◌⊎◌, inl, inr, ℕ, List, [], ◌∷◌, ◌++◌, refl}
use Rattle.std.specs.Ordering.{nat_cmp, ordering_then}
use Rattle.std.specs.declared.cmp.Ordering.{Ordering}
use Rattle.std.specs.declared.cmp.Ordering.TheVariants.{Less, Equal, Greater}
use Rattle.std.specs.Cmp.Lexicographic.{slice_cmp}
use Rattle.std.proofs.lemmas.Cmp.{ranked}

-- a list goes on behind another with a number below one
pub record GoesOnBelow (xs ys : List ℕ) (s : ℕ) : Type 0 where
  pub number : ℕ
  pub more : List ℕ
  pub is : xs ≡ ys ++ number ∷ more
  pub below : number < s

abbrev pub Before : List ℕ → List ℕ → ℕ → Type 0
Before xs ys s = (slice_cmp nat_cmp xs ys ≡ Less) ⊎ ((xs ≡ ys) ⊎ GoesOnBelow xs ys s)

-- nothing comes before the empty list
pub none_before : (xs : List ℕ) → slice_cmp nat_cmp xs [] ≡ Less → ⊥
none_before [] e = cc
none_before (x ∷ xs) e = cc

pub greater_less : {X : Type 0} → Greater ≡ Less → X
greater_less e = cc

first_alone : (x s : ℕ) (xs : List ℕ) (o : Ordering) → o ≡ nat_cmp x s → ordering_then o (slice_cmp nat_cmp xs []) ≡ Less → x < s
first_alone x s xs Less e h = ranked x s Less e
first_alone x s xs Equal e h = absurd (none_before xs h)
first_alone x s xs Greater e h = greater_less h

-- what comes before a list with one more number
pub before_push : (xs ys : List ℕ) (s : ℕ) → slice_cmp nat_cmp xs (ys ++ s ∷ []) ≡ Less → Before xs ys s
before_push [] [] s h = inr (inl refl)
before_push (x ∷ xs) [] s h = inr (inr (record { number = x; more = xs; is = refl; below = first_alone x s xs (nat_cmp x s) refl h }))
before_push [] (y ∷ ys) s h = inl refl
before_push (x ∷ xs) (y ∷ ys) s h = at (λ k. before_push xs ys s k) (nat_cmp x y) refl h
  where
    rest : x ≡ y → Before xs ys s → (ordering_then Equal (slice_cmp nat_cmp xs ys) ≡ Less) ⊎ ((x ∷ xs ≡ y ∷ ys) ⊎ GoesOnBelow (x ∷ xs) (y ∷ ys) s)
    rest e (inl l) = inl l
    rest e (inr (inl q)) = inr (inl (λ i. e i ∷ q i))
    rest e (inr (inr g)) = inr (inr (record { number = g.number; more = g.more; is = λ i. e i ∷ g.is i; below = g.below }))

    at : (slice_cmp nat_cmp xs (ys ++ s ∷ []) ≡ Less → Before xs ys s) → (o : Ordering) → o ≡ nat_cmp x y → ordering_then o (slice_cmp nat_cmp xs (ys ++ s ∷ [])) ≡ Less →
        (ordering_then o (slice_cmp nat_cmp xs ys) ≡ Less) ⊎ ((x ∷ xs ≡ y ∷ ys) ⊎ GoesOnBelow (x ∷ xs) (y ∷ ys) s)
    at f Less e k = inl refl
    at f Equal e k = rest (ranked x y Equal e) (f k)
    at f Greater e k = greater_less k
