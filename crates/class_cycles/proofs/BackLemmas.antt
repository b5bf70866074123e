-- Ways back, pair by pair.
use Rattle.std.proofs.Common.{
  ◌≡◌,
  ◌<◌,
  ◌≤◌,
  ◌⊎◌,
  inl,
  inr,
  ℕ,
  zero,
  suc,
  Bool,
  true,
  false,
  ◌&&◌,
  eqb,
  ltb,
  if◌then◌else◌,
  List,
  [],
  ◌∷◌,
  ◌++◌,
  length,
  get_or,
  replicate,
  refl,
  sym,
  ap,
  subst,
  ◌∙◌,
  arith,
  Option,
  Some,
  None,
}
use Rattle.std.specs.Prelude.{Contains}
use Rattle.std.proofs.lemmas.Bool.{true≢false, and_from, and_parts, eq-eqb, eqb-true, ltb-true, ltb-false}
use Rattle.std.proofs.lemmas.List.Elements.{Contains-append_left, Contains-append_cases, Contains-push, Contains-push_cases, Contains-get_or}
use Rattle.graph_search.specs.Graph.{Graph, Path, here, step, IsGraph, IsMarkedFrom, IsWithin, ArePairsBelow, pair, marked}
use Rattle.class_cycles.specs.Circuits.{Pairs, AreWithin}
use Rattle.class_cycles.specs.Back.{Back, home, by, IsLeading, IsTurned, turned_one, lesser_of, IsLeastAfter, IsOnward}

no_pair : (p : ℕ × ℕ) → Contains [] p → ⊥
no_pair p c = omega (arith, c.1)

only_pair : (q p : ℕ × ℕ) → Contains (q ∷ []) p → q ≡ p
only_pair q p c = at (Contains-push_cases [] q p c)
  where
    at : Contains [] p ⊎ (q ≡ p) → q ≡ p
    at (inl h) = absurd (no_pair p h)
    at (inr e) = e

firsts : (a b c d : ℕ) → pair a b ≡ pair c d → a ≡ c
firsts a b c d e = ap (λ (p : ℕ × ℕ). p.0) e

seconds : (a b c d : ℕ) → pair a b ≡ pair c d → b ≡ d
seconds a b c d e = ap (λ (p : ℕ × ℕ). p.1) e

-- ---- pairs the other way round

pub turned_none : (taken : List Bool) → IsTurned [] taken []
turned_none taken = record { listed = λ a b c. absurd (no_pair (pair b a) c); all = λ a b c f. absurd (no_pair (pair a b) c) }

pub turned_more : (ps : Pairs) (taken : List Bool) (qs : Pairs) (a b : ℕ) → IsTurned ps taken qs → IsTurned (ps ++ pair a b ∷ []) taken (qs ++ turned_one taken a b)
turned_more ps taken qs a b i = at (marked taken a) refl
  where
    more : Pairs
    more = ps ++ pair a b ∷ []

    kept : (x y : ℕ) → (rs : Pairs) → Contains qs (pair y x) → Contains (qs ++ rs) (pair y x)
    kept x y rs c = Contains-append_left qs rs (pair y x) c

    old : (x y : ℕ) → Contains qs (pair y x) → Contains more (pair x y) × (marked taken x ≡ false)
    old x y c = (Contains-append_left ps (pair a b ∷ []) (pair x y) (i.listed x y c).0, (i.listed x y c).1)

    at : (t : Bool) → t ≡ marked taken a → IsTurned more taken (qs ++ (if t then [] else (pair b a ∷ [])))
    at true e = record { listed = λ x y c. listed x y (Contains-append_cases qs [] (pair y x) c); all = λ x y c f. all x y f (Contains-push_cases ps (pair a b) (pair x y) c) }
      where
        listed : (x y : ℕ) → Contains qs (pair y x) ⊎ Contains [] (pair y x) → Contains more (pair x y) × (marked taken x ≡ false)
        listed x y (inl c) = old x y c
        listed x y (inr c) = absurd (no_pair (pair y x) c)

        all : (x y : ℕ) → marked taken x ≡ false → Contains ps (pair x y) ⊎ (pair a b ≡ pair x y) → Contains (qs ++ []) (pair y x)
        all x y f (inl c) = kept x y [] (i.all x y c f)
        all x y f (inr s) = absurd (true≢false (e ∙ ap (λ (k : ℕ). marked taken k) (firsts a b x y s) ∙ f))
    at false e = record {
      listed = λ x y c. listed x y (Contains-push_cases qs (pair b a) (pair y x) c);
      all =
          λ x y c f. all x y f (Contains-push_cases ps (pair a b) (pair x y) c);
    }
      where
        listed : (x y : ℕ) → Contains qs (pair y x) ⊎ (pair b a ≡ pair y x) → Contains more (pair x y) × (marked taken x ≡ false)
        listed x y (inl c) = old x y c
        listed x y (inr s) = (
          subst (λ (k : ℕ). Contains more (pair k y)) (seconds b a y x s) (subst (λ (k : ℕ). Contains more (pair a k)) (firsts b a y x s) (Contains-push ps (pair a b))),
          subst (λ (k : ℕ). marked taken k ≡ false) (seconds b a y x s) (sym e),
        )

        all : (x y : ℕ) → marked taken x ≡ false → Contains ps (pair x y) ⊎ (pair a b ≡ pair x y) → Contains (qs ++ pair b a ∷ []) (pair y x)
        all x y f (inl c) = kept x y (pair b a ∷ []) (i.all x y c f)
        all x y f (inr s) =
            subst (λ (k : ℕ). Contains (qs ++ pair b a ∷ []) (pair y k)) (firsts a b x y s)
            (subst (λ (k : ℕ). Contains (qs ++ pair b a ∷ []) (pair k a)) (seconds a b x y s) (Contains-push qs (pair b a)))

-- ---- what leads back is what is reached the other way round

pub leading : (ps : Pairs) (taken : List Bool) (end : ℕ) (qs : Pairs) (g : Graph) (old marks : List Bool) →
    IsTurned ps taken qs → IsGraph (length taken) qs g → ((b : ℕ) → marked old b ≡ false) → length old ≡ length taken → IsMarkedFrom g end old marks → IsLeading ps taken end marks
leading ps taken end qs g old marks t i none size m = record {
  size = m.size ∙ size;
  sound = λ a k. sound a (m.sound a k);
  all = λ a k. all a k;
}
  where
    behind : (b a : ℕ) → Path g b a → Back ps taken end b → Back ps taken end a
    behind _ _ (here a) k = k
    behind _ _ (step b x a e p) k = let h = t.listed x b (i.listed b x e) in behind x a p (by x b h.0 h.1 k)

    sound : (a : ℕ) → (marked old a ≡ true) ⊎ Path g end a → Back ps taken end a
    sound a (inl k) = absurd (true≢false (sym k ∙ none a))
    sound a (inr p) = behind end a p (home end refl)

    all : (a : ℕ) → Back ps taken end a → marked marks a ≡ true
    all _ (home a e) = subst (λ (k : ℕ). marked marks k ≡ true) (sym e) m.reached
    all _ (by a b c f k) = m.closed b a (all b k) (i.all b a (t.all a b c f))

-- ---- the least that is marked

pub least_none : (marks : List Bool) (from : ℕ) → IsLeastAfter [] marks from None
least_none marks from = λ b c. absurd (no_pair (pair from b) c)

pub least_more : (ps : Pairs) (marks : List Bool) (from : ℕ) (found : Option ℕ) (a b : ℕ) → IsLeastAfter ps marks from found →
    IsLeastAfter (ps ++ pair a b ∷ []) marks from (lesser_of found (eqb a from && marked marks b) b)
least_more ps marks from found a b i = at (eqb a from && marked marks b) refl found i
  where
    more : Pairs
    more = ps ++ pair a b ∷ []

    split : (x : ℕ) → Contains more (pair from x) → Contains ps (pair from x) ⊎ (pair a b ≡ pair from x)
    split x c = Contains-push_cases ps (pair a b) (pair from x) c

    counts : (x : ℕ) → pair a b ≡ pair from x → marked marks x ≡ true → (eqb a from && marked marks b) ≡ true
    counts x s m =
        and_from (eqb a from) (marked marks b) (eq-eqb a from (firsts a b from x s)) (subst (λ (k : ℕ). marked marks k ≡ true) (sym (seconds a b from x s)) m)

    new : (eqb a from && marked marks b) ≡ true → Contains more (pair from b) × (marked marks b ≡ true)
    new e = let h = and_parts (eqb a from) (marked marks b) e in
        (subst (λ (k : ℕ). Contains more (pair k b)) (eqb-true a from h.0) (Contains-push ps (pair a b)), h.1)

    same : (x : ℕ) → pair a b ≡ pair from x → b ≤ x
    same x s = let e = seconds a b from x s in omega (arith, e)

    at : (t : Bool) → t ≡ (eqb a from && marked marks b) → (o : Option ℕ) → IsLeastAfter ps marks from o → IsLeastAfter more marks from (lesser_of o t b)
    at false e None j = λ x c m. none x m (split x c)
      where
        none : (x : ℕ) → marked marks x ≡ true → Contains ps (pair from x) ⊎ (pair a b ≡ pair from x) → ⊥
        none x m (inl c) = j x c m
        none x m (inr s) = true≢false (sym (counts x s m) ∙ sym e)
    at false e (Some s) j = record {
      follows = Contains-append_left ps (pair a b ∷ []) (pair from s) j.follows;
      is = j.is;
      least = λ x c m. low x m (split x c);
    }
      where
        low : (x : ℕ) → marked marks x ≡ true → Contains ps (pair from x) ⊎ (pair a b ≡ pair from x) → s ≤ x
        low x m (inl c) = j.least x c m
        low x m (inr q) = absurd (true≢false (sym (counts x q m) ∙ sym e))
    at true e None j = record { follows = (new (sym e)).0; is = (new (sym e)).1; least = λ x c m. low x m (split x c) }
      where
        low : (x : ℕ) → marked marks x ≡ true → Contains ps (pair from x) ⊎ (pair a b ≡ pair from x) → b ≤ x
        low x m (inl c) = absurd (j x c m)
        low x m (inr q) = same x q
    at true e (Some s) j = lesser (ltb b s) refl
      where
        lesser : (u : Bool) → u ≡ ltb b s → IsLeastAfter more marks from (if u then Some b else Some s)
        lesser true h = record { follows = (new (sym e)).0; is = (new (sym e)).1; least = λ x c m. low x m (split x c) }
          where
            low : (x : ℕ) → marked marks x ≡ true → Contains ps (pair from x) ⊎ (pair a b ≡ pair from x) → b ≤ x
            low x m (inl c) = omega (arith, j.least x c m, ltb-true b s (sym h))
            low x m (inr q) = same x q
        lesser false h = record { follows = Contains-append_left ps (pair a b ∷ []) (pair from s) j.follows; is = j.is; least = λ x c m. low x m (split x c) }
          where
            low : (x : ℕ) → marked marks x ≡ true → Contains ps (pair from x) ⊎ (pair a b ≡ pair from x) → s ≤ x
            low x m (inl c) = j.least x c m
            low x m (inr q) = omega (arith, same x q, ltb-false b s (sym h))

-- the least of those that are marked is the least of those that lead back
pub onward_from : (ps : Pairs) (taken marks : List Bool) (end from : ℕ) (o : Option ℕ) → IsLeading ps taken end marks → IsLeastAfter ps marks from o → IsOnward ps taken end from o
onward_from ps taken marks end from None l i = λ b c k. i b c (l.all b k)
onward_from ps taken marks end from (Some s) l i = record { follows = i.follows; back = l.sound s i.is; least = λ b c k. i.least b c (l.all b k) }

-- both numbers of a pair at a place
pub within_at : (n : ℕ) (ps : Pairs) (i : ℕ) → AreWithin n ps → i < length ps → ((get_or ps i (pair 0 0)).0 < n) × ((get_or ps i (pair 0 0)).1 < n)
within_at n ps i w h = let p = get_or ps i (pair 0 0) in w p.0 p.1 (Contains-get_or ps i (pair 0 0) h)

-- the first numbers of the pairs the other way round
pub turned_below : (n : ℕ) (ps : Pairs) (taken : List Bool) (qs : Pairs) → AreWithin n ps → IsTurned ps taken qs → ArePairsBelow n qs
turned_below n ps taken qs w t = λ b a c. (w a b (t.listed a b c).0).1

pub turned_within : (n : ℕ) (ps : Pairs) (taken : List Bool) (qs : Pairs) (g : Graph) → AreWithin n ps → IsTurned ps taken qs → IsGraph n qs g → IsWithin g
turned_within n ps taken qs g w t i = λ b a e. subst (λ (k : ℕ). a < k) (sym i.size) (w a b (t.listed a b (i.listed b a e)).0).0

-- no mark at all
pub none_marked : (n b : ℕ) → marked (replicate n false) b ≡ false
none_marked zero b = refl
none_marked (suc n) zero = refl
none_marked (suc n) (suc b) = none_marked n b
