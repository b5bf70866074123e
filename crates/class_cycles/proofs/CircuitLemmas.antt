-- The first cycle, number by number.
use Rattle.std.proofs.Common.{◌≡◌, ◌≢◌, ◌<◌, ◌≤◌, ◌⊎◌, inl, inr, ℕ, ◌+◌, Bool, true, false, List, [], ◌∷◌, ◌++◌, length, set, replicate, refl, sym, ap, subst, ◌∙◌, arith}
use Rattle.std.specs.Prelude.{Contains, Option, Some, None}
use Rattle.std.specs.Ordering.{nat_cmp, ordering_then}
use Rattle.std.specs.declared.cmp.Ordering.{Ordering}
use Rattle.std.specs.declared.cmp.Ordering.TheVariants.{Less, Equal, Greater}
use Rattle.std.specs.Cmp.Lexicographic.{slice_cmp}
use Rattle.std.proofs.lemmas.Cmp.{ranked}
use Rattle.std.proofs.lemmas.Bool.{cases_eq, cases_lt, true≢false}
use Rattle.std.proofs.lemmas.List.{get_or-set_same, get_or-set_other, length-set}
use Rattle.std.proofs.lemmas.List.Elements.{Contains-append_left, Contains-append_right, Contains-append_cases, Contains-push, Contains-push_cases}
use Rattle.graph_search.specs.Graph.{pair, marked}
use Rattle.graph_search.proofs.MarkLemmas.{no_element, only_element}
use Rattle.class_cycles.specs.Circuits.{Pairs, AreWithin, Follow, IsBelowAll, AreDistinct, IsCircuit, IsFirstCircuit}
use Rattle.class_cycles.specs.Back.{Back, home, by, IsOnward, IsLeastBack}
use Rattle.class_cycles.specs.Begins.{IsSecond}
use Rattle.class_cycles.specs.Walked.{LeadsBack, Walked}
use Rattle.class_cycles.proofs.BackLemmas.{none_marked}
use Rattle.class_cycles.proofs.OrderLemmas.{Before, before_push, none_before, greater_less}

-- ---- ways back

-- Where a number is taken, one that led back still does, or else one that follows the number does.
avoids : (ps : Pairs) (taken : List Bool) (end s a : ℕ) → Back ps taken end a → LeadsBack ps (set taken s true) end s ⊎ Back ps (set taken s true) end a
avoids ps taken end s _ (home a e) = inr (home a e)
avoids ps taken end s _ (by a b c f k) = at (avoids ps taken end s b k)
  where
    new : List Bool
    new = set taken s true

    here : Back ps new end b → (a ≡ s) ⊎ (a ≢ s) → LeadsBack ps new end s ⊎ Back ps new end a
    here j (inl e) = inl (b, subst (λ (x : ℕ). Contains ps (pair x b)) e c, j)
    here j (inr n) = inr (by a b c (get_or-set_other taken s a true false n ∙ f) j)

    at : LeadsBack ps new end s ⊎ Back ps new end b → LeadsBack ps new end s ⊎ Back ps new end a
    at (inl l) = inl l
    at (inr j) = here j (cases_eq a s)

-- a number that leads back goes on, once it is taken itself
pub goes_on : (ps : Pairs) (taken : List Bool) (end s : ℕ) → Back ps taken end s → s ≢ end → LeadsBack ps (set taken s true) end s
goes_on ps taken end _ (home s e) n = absurd (n e)
goes_on ps taken end _ (by s b c f k) n = at (avoids ps taken end s b k)
  where
    at : LeadsBack ps (set taken s true) end s ⊎ Back ps (set taken s true) end b → LeadsBack ps (set taken s true) end s
    at (inl l) = l
    at (inr j) = (b, c, j)

-- a number that leads back isn't taken
pub untaken : (ps : Pairs) (taken : List Bool) (end s : ℕ) → Back ps taken end s → s ≢ end → marked taken s ≡ false
untaken ps taken end _ (home s e) n = absurd (n e)
untaken ps taken end _ (by s b c f k) n = f

-- it is below the bound
pub back_within : (ps : Pairs) (taken : List Bool) (end s : ℕ) → end < length taken → AreWithin (length taken) ps → Back ps taken end s → s < length taken
back_within ps taken end _ h w (home s e) = subst (λ (x : ℕ). x < length taken) (sym e) h
back_within ps taken end _ h w (by s b c f k) = (w s b c).0

-- numbers that follow one another lead back
way : (ps : Pairs) (taken : List Bool) (end a : ℕ) (bs : List ℕ) → ((x : ℕ) → Contains (a ∷ bs) x → marked taken x ≡ false) → Follow ps end a bs → Back ps taken end a
way ps taken end a [] free f = by a end f (free a (Contains-push [] a)) (home end refl)
way ps taken end a (b ∷ bs) free f =
    by a b f.0 (free a (Contains-append_left (a ∷ []) (b ∷ bs) a (Contains-push [] a)))
    (way ps taken end b bs (λ x k. free x (Contains-append_right (a ∷ []) (b ∷ bs) x k)) f.1)

-- ---- lists

cons_cases : (a : ℕ) (bs : List ℕ) (x : ℕ) → Contains (a ∷ bs) x → (a ≡ x) ⊎ Contains bs x
cons_cases a bs x c = at (Contains-append_cases (a ∷ []) bs x c)
  where
    at : Contains (a ∷ []) x ⊎ Contains bs x → (a ≡ x) ⊎ Contains bs x
    at (inl h) = inl (only_element a x h)
    at (inr h) = inr h

below_push : (a : ℕ) (bs : List ℕ) (x : ℕ) → IsBelowAll a bs → a < x → IsBelowAll a (bs ++ x ∷ [])
below_push a [] x i h = (h, tt)
below_push a (b ∷ bs) x i h = (i.0, below_push a bs x i.1 h)

below_each : (a : ℕ) (bs : List ℕ) (x : ℕ) → IsBelowAll a bs → Contains bs x → a < x
below_each a [] x i c = absurd (no_element x c)
below_each a (b ∷ bs) x i c = at (λ h. below_each a bs x i.1 h) (cons_cases b bs x c)
  where
    at : (Contains bs x → a < x) → (b ≡ x) ⊎ Contains bs x → a < x
    at f (inl e) = subst (λ (y : ℕ). a < y) e i.0
    at f (inr h) = f h

distinct_push : (bs : List ℕ) (x : ℕ) → AreDistinct bs → ¬ Contains bs x → AreDistinct (bs ++ x ∷ [])
distinct_push [] x i n = (λ c. no_element x c, tt)
distinct_push (b ∷ bs) x i n = (λ c. at (Contains-push_cases bs x b c), distinct_push bs x i.1 (λ c. n (Contains-append_right (b ∷ []) bs x c)))
  where
    at : Contains bs b ⊎ (x ≡ b) → ⊥
    at (inl c) = i.0 c
    at (inr e) = n (subst (λ (y : ℕ). Contains (b ∷ bs) y) (sym e) (Contains-append_left (b ∷ []) bs b (Contains-push [] b)))

distinct_apart : (bs cs : List ℕ) (x : ℕ) → AreDistinct (bs ++ cs) → Contains cs x → ¬ Contains bs x
distinct_apart [] cs x i c = λ k. no_element x k
distinct_apart (b ∷ bs) cs x i c = λ k. at (distinct_apart bs cs x i.1 c) (cons_cases b bs x k)
  where
    at : (¬ Contains bs x) → (b ≡ x) ⊎ Contains bs x → ⊥
    at n (inl e) = i.0 (Contains-append_right bs cs b (subst (λ (y : ℕ). Contains cs y) (sym e) c))
    at n (inr k) = n k

follow_push : (ps : Pairs) (x end a : ℕ) (bs : List ℕ) → Follow ps x a bs → Contains ps (pair x end) → Follow ps end a (bs ++ x ∷ [])
follow_push ps x end a [] f c = (f, c)
follow_push ps x end a (b ∷ bs) f c = (f.0, follow_push ps x end b bs f.1 c)

follow_split : (ps : Pairs) (x end a : ℕ) (bs cs : List ℕ) → Follow ps end a (bs ++ x ∷ cs) → Follow ps x a bs × Follow ps end x cs
follow_split ps x end a [] cs f = (f.0, f.1)
follow_split ps x end a (b ∷ bs) cs f = let h = follow_split ps x end b bs cs f.1 in ((f.0, h.0), h.1)

-- ---- one more number

pub walked_more : (ps : Pairs) (taken : List Bool) (first : ℕ) (rest : List ℕ) (next s : ℕ) →
    Walked ps taken first rest next → next ≢ first → IsLeastBack ps (set taken next true) first next s → Walked ps (set taken next true) first (rest ++ next ∷ []) s
walked_more ps taken first rest next s w n i = record {
  begun = subst (λ (k : ℕ). first < k) (sym (length-set taken next true)) w.begun;
  within = subst (λ (k : ℕ). AreWithin k ps) (sym (length-set taken next true)) w.within;
  below = below_push first rest next w.below fresh.0;
  distinct = distinct_push rest next w.distinct (λ c. fresh.1 (Contains-append_right (first ∷ []) rest next c));
  follow = follow_push ps next s first rest w.follow i.follows;
  free = λ b h f. free b (subst (λ (k : ℕ). b < k) (length-set taken next true) h) f (cases_eq b next);
  others = λ b h k. others b h k (cases_eq b next);
  back = i.back;
  least = λ b f k. i.least b (follow_split ps next b first rest [] f).1 k;
  none = λ other r l. none other r (before_push other (first ∷ rest) next l);
}
  where
    new : List Bool
    new = set taken next true

    path : List ℕ
    path = first ∷ rest

    inside : next < length taken
    inside = back_within ps taken first next w.begun w.within w.back

    fresh : (first < next) × (¬ Contains path next)
    fresh = w.free next inside (untaken ps taken first next w.back n)

    free : (b : ℕ) → b < length taken → marked new b ≡ false → (b ≡ next) ⊎ (b ≢ next) → (first < b) × (¬ Contains (path ++ next ∷ []) b)
    free b h f (inl e) = absurd (true≢false (sym (get_or-set_same taken next true false inside) ∙ ap (λ (k : ℕ). marked new k) (sym e) ∙ f))
    free b h f (inr d) = (old.0, λ c. at (Contains-push_cases path next b c))
      where
        old : (first < b) × (¬ Contains path b)
        old = w.free b h (sym (get_or-set_other taken next b true false d) ∙ f)

        at : Contains path b ⊎ (next ≡ b) → ⊥
        at (inl c) = old.1 c
        at (inr e) = d (sym e)

    others : (b : ℕ) → first < b → ¬ Contains (path ++ next ∷ []) b → (b ≡ next) ⊎ (b ≢ next) → marked new b ≡ false
    others b h k (inl e) = absurd (k (subst (λ (x : ℕ). Contains (path ++ next ∷ []) x) (sym e) (Contains-push path next)))
    others b h k (inr d) = get_or-set_other taken next b true false d ∙ w.others b h (λ c. k (Contains-append_left path (next ∷ []) b c))

    -- a cycle that goes on with a lesser number
    lesser : (x : ℕ) (more : List ℕ) → x < next → IsCircuit ps (path ++ x ∷ more) → ⊥
    lesser x more h r = omega (arith, h, w.least x split.0 (way ps taken first x more loose split.1))
      where
        split : Follow ps x first rest × Follow ps first x more
        split = follow_split ps x first first rest more r.2

        loose : (y : ℕ) → Contains (x ∷ more) y → marked taken y ≡ false
        loose y c = w.others y above (λ k. at (cons_cases first rest y k))
          where
            above : first < y
            above = below_each first (rest ++ x ∷ more) y r.0 (Contains-append_right rest (x ∷ more) y c)

            at : (first ≡ y) ⊎ Contains rest y → ⊥
            at (inl e) = omega (arith, above, e)
            at (inr k) = distinct_apart rest (x ∷ more) y r.1 c k

    none : (other : List ℕ) → IsCircuit ps other → Before other path next → ⊥
    none other r (inl l) = w.none other r l
    none other r (inr (inl e)) =
        let q : IsCircuit ps path = subst (λ (os : List ℕ). IsCircuit ps os) e r in
        omega (arith, fresh.0, w.least first q.2 (home first refl))
    none other r (inr (inr g)) = lesser g.number g.more g.below (subst (λ (os : List ℕ). IsCircuit ps os) g.is r)

-- the cycle is closed
pub walked_all : (ps : Pairs) (taken : List Bool) (first : ℕ) (rest : List ℕ) (next : ℕ) → Walked ps taken first rest next → next ≡ first → IsFirstCircuit ps (first ∷ rest)
walked_all ps taken first rest next w e = record {
  is = (w.below, w.distinct, subst (λ (x : ℕ). Follow ps x first rest) e w.follow);
  first = w.none;
}

-- ---- the first number

-- no cycle begins with a number below one, and exactly the numbers below it are taken
pub record Searched (ps : Pairs) (taken : List Bool) (n : ℕ) : Type 0 where
  pub below : (b : ℕ) → b < n → marked taken b ≡ true
  pub above : (b : ℕ) → n ≤ b → marked taken b ≡ false
  pub none : (a : ℕ) (bs : List ℕ) → IsCircuit ps (a ∷ bs) → n ≤ a

pub searched_none : (ps : Pairs) (n : ℕ) → Searched ps (replicate n false) 0
searched_none ps n = record { below = λ b h. absurd (omega (arith, h)); above = λ b h. none_marked n b; none = λ a bs r. omega arith }

-- numbers behind the first one are free
pub free_behind : (ps : Pairs) (taken : List Bool) (n : ℕ) → Searched ps taken n → (b : ℕ) → n < b → marked (set taken n true) b ≡ false
free_behind ps taken n s b h = get_or-set_other taken n b true false (λ e. omega (arith, h, e)) ∙ s.above b (omega (arith, h))

-- and only they
behind_free : (ps : Pairs) (taken : List Bool) (n : ℕ) → n < length taken → Searched ps taken n → (b : ℕ) → marked (set taken n true) b ≡ false → n < b
behind_free ps taken n h s b f = at (cases_lt n b)
  where
    same : (b ≡ n) ⊎ (b ≢ n) → b ≤ n → n < b
    same (inl e) k = absurd (true≢false (sym (get_or-set_same taken n true false h) ∙ ap (λ (x : ℕ). marked (set taken n true) x) (sym e) ∙ f))
    same (inr d) k = absurd (true≢false (sym (s.below b (omega (arith, d, k))) ∙ sym (get_or-set_other taken n b true false d) ∙ f))

    at : (n < b) ⊎ (b ≤ n) → n < b
    at (inl l) = l
    at (inr k) = same (cases_eq b n) k

-- a cycle begins with this number: its second number is the least that leads back
pub walked_first : (ps : Pairs) (taken : List Bool) (n second : ℕ) → AreWithin (length taken) ps → n < length taken → Searched ps taken n →
    IsLeastBack ps (set taken n true) n n second → Walked ps (set taken n true) n [] second
walked_first ps taken n second w h s i = record {
  begun = subst (λ (k : ℕ). n < k) (sym (length-set taken n true)) h;
  within = subst (λ (k : ℕ). AreWithin k ps) (sym (length-set taken n true)) w;
  below = tt;
  distinct = tt;
  follow = i.follows;
  free = λ b k f. let l = behind_free ps taken n h s b f in (l, λ c. let e = only_element n b c in omega (arith, e, l));
  others = λ b l k. free_behind ps taken n s b l;
  back = i.back;
  least = i.least;
  none = none;
}
  where
    later : (a : ℕ) (bs : List ℕ) → n ≤ a → (o : Ordering) → o ≡ nat_cmp a n → ordering_then o (slice_cmp nat_cmp bs []) ≡ Less → ⊥
    later a bs k Less e l = omega (arith, k, ranked a n Less e)
    later a bs k Equal e l = none_before bs l
    later a bs k Greater e l = greater_less l

    none : (other : List ℕ) → IsCircuit ps other → slice_cmp nat_cmp other (n ∷ []) ≡ Less → ⊥
    none [] r l = r
    none (a ∷ bs) r l = later a bs (s.none a bs r) (nat_cmp a n) refl l

-- no cycle begins with it
pub searched_more : (ps : Pairs) (taken : List Bool) (n : ℕ) → n < length taken → Searched ps taken n
    → ((bs : List ℕ) → ¬ IsCircuit ps (n ∷ bs)) → Searched ps (set taken n true) (n + 1)
searched_more ps taken n h s i = record {
  below = λ b k. below b k (cases_eq b n);
  above =
      λ b k. free_behind ps taken n s b (omega (arith, k));
  none = λ a bs r. none a bs r (cases_eq a n);
}
  where
    below : (b : ℕ) → b < n + 1 → (b ≡ n) ⊎ (b ≢ n) → marked (set taken n true) b ≡ true
    below b k (inl e) = ap (λ (x : ℕ). marked (set taken n true) x) e ∙ get_or-set_same taken n true false h
    below b k (inr d) = get_or-set_other taken n b true false d ∙ s.below b (omega (arith, k, d))

    none : (a : ℕ) (bs : List ℕ) → IsCircuit ps (a ∷ bs) → (a ≡ n) ⊎ (a ≢ n) → n + 1 ≤ a
    none a bs r (inl e) = absurd (i bs (subst (λ (x : ℕ). IsCircuit ps (x ∷ bs)) e r))
    none a bs r (inr d) = let k = s.none a bs r in omega (arith, k, d)

-- where none that follows a number leads back to it, no cycle begins with it
pub none_begins : (ps : Pairs) (taken : List Bool) (n : ℕ) → ((b : ℕ) → n < b → marked taken b ≡ false) → IsOnward ps taken n n None → (bs : List ℕ) → ¬ IsCircuit ps (n ∷ bs)
none_begins ps taken n free i bs = λ r. at bs r.0 r.2
  where
    at : (cs : List ℕ) → IsBelowAll n cs → Follow ps n n cs → ⊥
    at [] l f = i n f (home n refl)
    at (c ∷ cs) l f = i c f.0 (way ps taken n c cs (λ x k. free x (below_each n (c ∷ cs) x l k)) f.1)

pub second_from : (ps : Pairs) (taken : List Bool) (n : ℕ) (o : Option ℕ) → ((b : ℕ) → n < b → marked taken b ≡ false) → IsOnward ps taken n n o → IsSecond ps taken n o
second_from ps taken n None free i = none_begins ps taken n free i
second_from ps taken n (Some s) free i = i

-- no cycle begins anywhere
pub searched_all : (ps : Pairs) (taken : List Bool) (n : ℕ) → AreWithin n ps → Searched ps taken n → (other : List ℕ) → ¬ IsCircuit ps other
searched_all ps taken n w s [] = λ r. r
searched_all ps taken n w s (a ∷ bs) = λ r. let h = s.none a bs r in let k : a < n = begins bs r.2 in omega (arith, h, k)
  where
    begins : (cs : List ℕ) → Follow ps a a cs → a < n
    begins [] f = (w a a f).0
    begins (c ∷ cs) f = (w a c f.0).0

-- what a step finds, of marks and an answer that are given by equations
pub first_from : (ps : Pairs) (taken now new : List Bool) (n second : ℕ) (o : Option ℕ) → AreWithin (length taken) ps → n < length taken → Searched ps taken n →
    now ≡ set taken n true → new ≡ set taken n true → o ≡ Some second → IsSecond ps now n o → Walked ps new n [] second
first_from ps taken now new n second o w h s e f q i =
    subst (λ (ts : List Bool). Walked ps ts n [] second) (sym f)
    (walked_first ps taken n second w h s (subst (λ (ts : List Bool). IsSecond ps ts n (Some second)) e (subst (λ (a : Option ℕ). IsSecond ps now n a) q i)))

pub none_from : (ps : Pairs) (taken now : List Bool) (n : ℕ) (o : Option ℕ) → n < length taken → Searched ps taken n →
    o ≡ None → IsSecond ps now n o → Searched ps (set taken n true) (n + 1)
none_from ps taken now n o h s q i = searched_more ps taken n h s (subst (λ (a : Option ℕ). IsSecond ps now n a) q i)

-- ---- the numbers so far, as a list

pub record Round (ps : Pairs) (taken : List Bool) (first : ℕ) (path : List ℕ) (next : ℕ) : Type 0 where
  pub rest : List ℕ
  pub is : path ≡ first ∷ rest
  pub walked : Walked ps taken first rest next

pub round_first : (ps : Pairs) (taken : List Bool) (first next : ℕ) (path : List ℕ) → path ≡ first ∷ [] → Walked ps taken first [] next → Round ps taken first path next
round_first ps taken first next path e w = record { rest = []; is = e; walked = w }

pub round_more : (ps : Pairs) (taken : List Bool) (first : ℕ) (path : List ℕ) (next s : ℕ) → Round ps taken first path next → next ≢ first →
    IsLeastBack ps (set taken next true) first next s → Round ps (set taken next true) first (path ++ next ∷ []) s
round_more ps taken first path next s r n i = record {
  rest = r.rest ++ next ∷ [];
  is = ap (λ (xs : List ℕ). xs ++ next ∷ []) r.is;
  walked = walked_more ps taken first r.rest next s r.walked n i;
}

pub round_all : (ps : Pairs) (taken : List Bool) (first : ℕ) (path : List ℕ) (next : ℕ) → Round ps taken first path next → next ≡ first → IsFirstCircuit ps path
round_all ps taken first path next r e = subst (λ (xs : List ℕ). IsFirstCircuit ps xs) (sym r.is) (walked_all ps taken first r.rest next r.walked e)
