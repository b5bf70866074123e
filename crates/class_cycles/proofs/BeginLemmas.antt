-- Numbers that a cycle may begin with.
use Rattle.std.proofs.Common.{
  ◌≡◌,
  ◌≢◌,
  ◌<◌,
  ◌≤◌,
  ◌⊎◌,
  inl,
  inr,
  ℕ,
  zero,
  suc,
  Bool,
  true,
  false,
  eqb,
  if◌then◌else◌,
  List,
  [],
  ◌∷◌,
  ◌++◌,
  length,
  set,
  get_or,
  replicate,
  refl,
  sym,
  ap,
  subst,
  ◌∙◌,
  arith,
}
use Rattle.std.specs.Prelude.{Contains}
use Rattle.std.proofs.lemmas.Bool.{cases_eq, true≢false, eq-eqb}
use Rattle.std.proofs.lemmas.List.{get_or-set_same, get_or-set_other, length-set}
use Rattle.std.proofs.lemmas.List.Elements.{Contains-push_cases}
use Rattle.graph_search.specs.Graph.{pair, marked}
use Rattle.class_cycles.specs.Circuits.{Pairs, AreWithin, Follow, IsCircuit}
use Rattle.class_cycles.specs.Begins.{AreBeginnings, NeverDown, AreLevelMarked}
use Rattle.class_cycles.proofs.ListLemmas.{none_in}

abbrev level : List ℕ → ℕ → ℕ
level levels a = get_or levels a 0

-- ---- pair by pair

pub never_none : (levels : List ℕ) → NeverDown [] levels
never_none levels = λ a b c. absurd (none_in (pair a b) c)

pub never_more : (ps : Pairs) (levels : List ℕ) (a b : ℕ) → NeverDown ps levels → level levels a ≤ level levels b → NeverDown (ps ++ pair a b ∷ []) levels
never_more ps levels a b n h = λ x y c. at x y (Contains-push_cases ps (pair a b) (pair x y) c)
  where
    at : (x y : ℕ) → Contains ps (pair x y) ⊎ (pair a b ≡ pair x y) → level levels x ≤ level levels y
    at x y (inl c) = n x y c
    at x y (inr e) = subst (λ (p : ℕ × ℕ). level levels p.0 ≤ level levels p.1) e h

pub level_none : (levels : List ℕ) (marks : List Bool) → AreLevelMarked [] levels marks marks
level_none levels marks = record { kept = λ a m. m; level = λ a b c. absurd (none_in (pair a b) c) }

pub level_more : (ps : Pairs) (levels : List ℕ) (old now : List Bool) (a b : ℕ) → AreLevelMarked ps levels old now → a < length now →
    AreLevelMarked (ps ++ pair a b ∷ []) levels old (if eqb (level levels a) (level levels b) then set now a true else now)
level_more ps levels old now a b i h = at (eqb (level levels a) (level levels b)) refl
  where
    more : Pairs
    more = ps ++ pair a b ∷ []

    put : (x : ℕ) → (x ≡ a) ⊎ (x ≢ a) → marked now x ≡ true → marked (set now a true) x ≡ true
    put x (inl e) m = ap (λ (k : ℕ). marked (set now a true) k) e ∙ get_or-set_same now a true false h
    put x (inr d) m = get_or-set_other now a x true false d ∙ m

    at : (t : Bool) → t ≡ eqb (level levels a) (level levels b) → AreLevelMarked more levels old (if t then set now a true else now)
    at true e = record { kept = λ x m. put x (cases_eq x a) (i.kept x m); level = λ x y c q. same x y q (Contains-push_cases ps (pair a b) (pair x y) c) }
      where
        same : (x y : ℕ) → level levels x ≡ level levels y → Contains ps (pair x y) ⊎ (pair a b ≡ pair x y) → marked (set now a true) x ≡ true
        same x y q (inl c) = put x (cases_eq x a) (i.level x y c q)
        same x y q (inr s) = subst (λ (k : ℕ). marked (set now a true) k ≡ true) (ap (λ (p : ℕ × ℕ). p.0) s) (get_or-set_same now a true false h)
    at false e = record { kept = i.kept; level = λ x y c q. same x y q (Contains-push_cases ps (pair a b) (pair x y) c) }
      where
        same : (x y : ℕ) → level levels x ≡ level levels y → Contains ps (pair x y) ⊎ (pair a b ≡ pair x y) → marked now x ≡ true
        same x y q (inl c) = i.level x y c q
        same x y q (inr s) = absurd (true≢false (sym (eq-eqb (level levels a) (level levels b) (subst (λ (p : ℕ × ℕ). level levels p.0 ≡ level levels p.1) (sym s) q)) ∙ sym e))

-- ---- cycles

climbs : (ps : Pairs) (levels : List ℕ) (end a : ℕ) (bs : List ℕ) → NeverDown ps levels → Follow ps end a bs → level levels a ≤ level levels end
climbs ps levels end a [] n f = n a end f
climbs ps levels end a (b ∷ bs) n f = let h = n a b f.0 in let k = climbs ps levels end b bs n f.1 in omega (arith, h, k)

level_begins : (ps : Pairs) (levels : List ℕ) (old marks : List Bool) → NeverDown ps levels → AreLevelMarked ps levels old marks → AreBeginnings ps marks
level_begins ps levels old marks n i = λ a bs r. at a bs r.2
  where
    at : (a : ℕ) (bs : List ℕ) → Follow ps a a bs → marked marks a ≡ true
    at a [] f = i.level a a f refl
    at a (b ∷ bs) f = let h = n a b f.0 in let k = climbs ps levels a b bs n f.1 in i.level a b f.0 (omega (arith, h, k))

first_within : (n : ℕ) (ps : Pairs) (end a : ℕ) (bs : List ℕ) → AreWithin n ps → Follow ps end a bs → a < n
first_within n ps end a [] w f = (w a end f).0
first_within n ps end a (b ∷ bs) w f = (w a b f.0).0

all_marked : (n a : ℕ) → a < n → marked (replicate n true) a ≡ true
all_marked zero a h = absurd (omega (arith, h))
all_marked (suc n) zero h = refl
all_marked (suc n) (suc a) h = all_marked n a (omega (arith, h))

pub begins_from : (any : Bool) (ps : Pairs) (levels : List ℕ) (marks : List Bool) → AreWithin (length levels) ps → (any ≡ false → NeverDown ps levels) →
    AreLevelMarked ps levels (replicate (length levels) any) marks → AreBeginnings ps marks
begins_from false ps levels marks w n i = level_begins ps levels (replicate (length levels) false) marks (n refl) i
begins_from true ps levels marks w n i = λ a bs r. i.kept a (all_marked (length levels) a (first_within (length levels) ps a a bs w r.2))

-- a number that is marked or not
pub length_if : (t : Bool) (marks : List Bool) (a : ℕ) → length (if t then set marks a true else marks) ≡ length marks
length_if true marks a = length-set marks a true
length_if false marks a = refl

pub not_begun : (ps : Pairs) (marks : List Bool) (n : ℕ) → AreBeginnings ps marks → marked marks n ≡ false → (bs : List ℕ) → ¬ IsCircuit ps (n ∷ bs)
not_begun ps marks n b f bs = λ r. true≢false (sym (b n bs r) ∙ f)
