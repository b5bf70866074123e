-- What is told of includes, and what the nodes include.
use Rattle.std.proofs.Common.{◌≡◌, ◌⊎◌, inl, inr, ◌↔◌, ℕ, zero, suc, ◌+◌, Bool, List, [], ◌∷◌, ◌++◌, refl, sym, ap, subst, ◌∙◌, arith, slice_get, Some, None, Option}
use Rattle.std.specs.Prelude.{Contains}
use Rattle.std.proofs.lemmas.List.Elements.{Contains-push, Contains-push_cases, Contains-append_left}
use Rattle.std.proofs.lemmas.Option.{same_Some, none-some}
use Rattle.node_names.specs.declared.name.Name.{Name}
use Rattle.node_names.specs.Facts.{Fact}
use Rattle.file_declarations.specs.declared.node_ref.NodeRef.{NodeRef}
use Rattle.file_declarations.specs.declared.told.Told.{Told}
use Rattle.file_declarations.specs.Told.{declared_told, extends_told, parents_told, path_told}
use Rattle.file_declarations.specs.FactsTold.{fact_told, facts_told}
use Rattle.graph_search.specs.Graph.{pair}
use Rattle.program_names.specs.Table.{Table, Includes}
use Rattle.program_names.specs.Told.{told_from, all_told}
use Rattle.declared_twice.specs.Includes.{ArePairs, IsAsked}

-- one of some things that are told is that a file includes another
abbrev pub AskedIn : List (List ℕ) → List Told → ℕ → ℕ → Type 0
AskedIn paths [] a b = ⊥
AskedIn paths (x ∷ xs) a b = IsAsked paths x a b ⊎ AskedIn paths xs a b

asked_left : (paths : List (List ℕ)) (xs ys : List Told) (a b : ℕ) → AskedIn paths xs a b → AskedIn paths (xs ++ ys) a b
asked_left paths [] ys a b h = absurd h
asked_left paths (x ∷ xs) ys a b (inl h) = inl h
asked_left paths (x ∷ xs) ys a b (inr h) = inr (asked_left paths xs ys a b h)

asked_right : (paths : List (List ℕ)) (xs ys : List Told) (a b : ℕ) → AskedIn paths ys a b → AskedIn paths (xs ++ ys) a b
asked_right paths [] ys a b h = h
asked_right paths (x ∷ xs) ys a b h = inr (asked_right paths xs ys a b h)

asked_cases : (paths : List (List ℕ)) (xs ys : List Told) (a b : ℕ) → AskedIn paths (xs ++ ys) a b → AskedIn paths xs a b ⊎ AskedIn paths ys a b
asked_cases paths [] ys a b h = inr h
asked_cases paths (x ∷ xs) ys a b (inl h) = inl (inl h)
asked_cases paths (x ∷ xs) ys a b (inr h) = at (asked_cases paths xs ys a b h)
  where
    at : AskedIn paths xs a b ⊎ AskedIn paths ys a b → AskedIn paths (x ∷ xs) a b ⊎ AskedIn paths ys a b
    at (inl k) = inl (inr k)
    at (inr k) = inr k

-- ---- pairs, one after another

pub pairs_none : (paths : List (List ℕ)) → ArePairs [] (AskedIn paths [])
pairs_none paths = record {
  listed = λ a b c. absurd (omega (arith, c.1));
  all = λ a b h. absurd h;
}

pub pairs_more : (paths : List (List ℕ)) (ps : List (ℕ × ℕ)) (p : ℕ × ℕ) (ts : List Told) (x : Told) → ArePairs ps (AskedIn paths ts) →
    ((a b : ℕ) → (Some p ≡ Some (pair a b)) ↔ (IsAsked paths x a b)) → ArePairs (ps ++ p ∷ []) (AskedIn paths (ts ++ x ∷ []))
pairs_more paths ps p ts x h is = record {
  listed = λ a b c. listed a b (Contains-push_cases ps p (pair a b) c);
  all = λ a b k. all a b (asked_cases paths ts (x ∷ []) a b k);
}
  where
    listed : (a b : ℕ) → Contains ps (pair a b) ⊎ (p ≡ pair a b) → AskedIn paths (ts ++ x ∷ []) a b
    listed a b (inl c) = asked_left paths ts (x ∷ []) a b (h.listed a b c)
    listed a b (inr s) = asked_right paths ts (x ∷ []) a b (inl ((is a b).0 (ap (λ (q : ℕ × ℕ). Some q) s)))

    all : (a b : ℕ) → AskedIn paths ts a b ⊎ AskedIn paths (x ∷ []) a b → Contains (ps ++ p ∷ []) (pair a b)
    all a b (inl k) = Contains-append_left ps (p ∷ []) (pair a b) (h.all a b k)
    all a b (inr (inl k)) = subst (λ (q : ℕ × ℕ). Contains (ps ++ p ∷ []) q) (same_Some p (pair a b) ((is a b).1 k)) (Contains-push ps p)
    all a b (inr (inr k)) = absurd k

pub pairs_same : (paths : List (List ℕ)) (ps : List (ℕ × ℕ)) (ts : List Told) (x : Told) → ArePairs ps (AskedIn paths ts) →
    ((a b : ℕ) → IsAsked paths x a b → ⊥) → ArePairs ps (AskedIn paths (ts ++ x ∷ []))
pairs_same paths ps ts x h none = record {
  listed = λ a b c. asked_left paths ts (x ∷ []) a b (h.listed a b c);
  all = λ a b k. all a b (asked_cases paths ts (x ∷ []) a b k);
}
  where
    all : (a b : ℕ) → AskedIn paths ts a b ⊎ AskedIn paths (x ∷ []) a b → Contains ps (pair a b)
    all a b (inl k) = h.all a b k
    all a b (inr (inl k)) = absurd (none a b k)
    all a b (inr (inr k)) = absurd k

-- ---- what a node asks for

none_declared : (paths : List (List ℕ)) (at : NodeRef) (top : Bool) (ns : List Name) (a b : ℕ) → AskedIn paths (declared_told at top ns) a b → ⊥
none_declared paths at top [] a b h = h
none_declared paths at top (n ∷ ns) a b (inl h) = h
none_declared paths at top (n ∷ ns) a b (inr h) = none_declared paths at top ns a b h

none_parents : (paths : List (List ℕ)) (class : List ℕ) (ps : List (List ℕ)) (a b : ℕ) → AskedIn paths (parents_told class ps) a b → ⊥
none_parents paths class [] a b h = h
none_parents paths class (p ∷ ps) a b (inl h) = h
none_parents paths class (p ∷ ps) a b (inr h) = none_parents paths class ps a b h

none_extends : (paths : List (List ℕ)) (ns : List Name) (ps : List (List ℕ)) (a b : ℕ) → AskedIn paths (extends_told ns ps) a b → ⊥
none_extends paths [] ps a b h = h
none_extends paths (n ∷ ns) ps a b h = at (none_extends paths ns ps a b) (asked_cases paths (parents_told n.text ps) (extends_told ns ps) a b h)
  where
    at : (AskedIn paths (extends_told ns ps) a b → ⊥) → AskedIn paths (parents_told n.text ps) a b ⊎ AskedIn paths (extends_told ns ps) a b → ⊥
    at none (inl k) = none_parents paths n.text ps a b k
    at none (inr k) = none k

-- a node of a file asks for the file with a number
pub record IncludesIn (paths : List (List ℕ)) (xs : List Fact) (b : ℕ) : Type 0 where
  pub node : ℕ
  pub fact : Fact
  pub at : slice_get xs node ≡ Some fact
  pub path : List ℕ
  pub asked : fact.includes ≡ Some path
  pub is : slice_get paths b ≡ Some path

path_cases : (paths : List (List ℕ)) (f : ℕ) (o : Option (List ℕ)) (a b : ℕ) → AskedIn paths (path_told f o) a b
    → (f ≡ a) × (path : List ℕ) × (o ≡ Some path) × (slice_get paths b ≡ Some path)
path_cases paths f None a b h = absurd h
path_cases paths f (Some p) a b (inl h) = (h.0, p, refl, h.1)
path_cases paths f (Some p) a b (inr h) = absurd h

path_from : (paths : List (List ℕ)) (f : ℕ) (o : Option (List ℕ)) (b : ℕ) (path : List ℕ) → o ≡ Some path → slice_get paths b ≡ Some path → AskedIn paths (path_told f o) f b
path_from paths f None b path e s = absurd (none-some path e)
path_from paths f (Some p) b path e s = inl (refl, s ∙ sym e)

facts_cases : (paths : List (List ℕ)) (f n : ℕ) (xs : List Fact) (a b : ℕ) → AskedIn paths (facts_told f n xs) a b → (f ≡ a) × IncludesIn paths xs b
facts_cases paths f n [] a b h = absurd h
facts_cases paths f n (x ∷ xs) a b h = at (facts_cases paths f (suc n) xs a b) (asked_cases paths (fact_told f n x) (facts_told f (suc n) xs) a b h)
  where
    declared : List Told
    declared = declared_told (record { file = f; node = n }) x.is_top x.declares

    extended : List Told
    extended = extends_told x.declares x.extends

    none : AskedIn paths declared a b ⊎ AskedIn paths extended a b → ⊥
    none (inl k) = none_declared paths (record { file = f; node = n }) x.is_top x.declares a b k
    none (inr k) = none_extends paths x.declares x.extends a b k

    own : AskedIn paths (declared ++ extended) a b ⊎ AskedIn paths (path_told f x.includes) a b → (f ≡ a) × IncludesIn paths (x ∷ xs) b
    own (inl k) = absurd (none (asked_cases paths declared extended a b k))
    own (inr k) =
        let p = path_cases paths f x.includes a b k in
        (p.0, record { node = 0; fact = x; at = refl; path = p.1; asked = p.2; is = p.3 })

    at : (AskedIn paths (facts_told f (suc n) xs) a b → (f ≡ a) × IncludesIn paths xs b) → AskedIn paths (fact_told f n x) a b ⊎ AskedIn paths (facts_told f (suc n) xs) a b →
        (f ≡ a) × IncludesIn paths (x ∷ xs) b
    at more (inl k) = own (asked_cases paths (declared ++ extended) (path_told f x.includes) a b k)
    at more (inr k) =
        let r = more k in
        let i = r.1 in
        (r.0, record { node = suc i.node; fact = i.fact; at = i.at; path = i.path; asked = i.asked; is = i.is })

facts_from : (paths : List (List ℕ)) (f n : ℕ) (xs : List Fact) (b m : ℕ) (x : Fact) (path : List ℕ) → slice_get xs m ≡ Some x → x.includes ≡ Some path →
    slice_get paths b ≡ Some path → AskedIn paths (facts_told f n xs) f b
facts_from paths f n [] b m x path at asked is = absurd (none-some x at)
facts_from paths f n (y ∷ ys) b zero x path at asked is =
    asked_left paths (fact_told f n y) (facts_told f (suc n) ys) f b
    (asked_right paths (declared_told (record { file = f; node = n }) y.is_top y.declares ++ extends_told y.declares y.extends) (path_told f y.includes) f b
    (path_from paths f y.includes b path (ap (λ (z : Fact). z.includes) (same_Some y x at) ∙ asked) is))
facts_from paths f n (y ∷ ys) b (suc m) x path at asked is =
    asked_right paths (fact_told f n y) (facts_told f (suc n) ys) f b (facts_from paths f (suc n) ys b m x path at asked is)

-- ---- what files ask for

files_cases : (paths : List (List ℕ)) (f : ℕ) (t : Table) (a b : ℕ) → AskedIn paths (told_from f t) a b → (k : ℕ) × (f + k ≡ a) × Includes paths t k b
files_cases paths f [] a b h = absurd h
files_cases paths f (xs ∷ more) a b h = at (files_cases paths (suc f) more a b) (asked_cases paths (facts_told f 0 xs) (told_from (suc f) more) a b h)
  where
    at : (AskedIn paths (told_from (suc f) more) a b → (k : ℕ) × (suc f + k ≡ a) × Includes paths more k b) →
        AskedIn paths (facts_told f 0 xs) a b ⊎ AskedIn paths (told_from (suc f) more) a b → (k : ℕ) × (f + k ≡ a) × Includes paths (xs ∷ more) k b
    at rest (inl k) =
        let r = facts_cases paths f 0 xs a b k in
        let i = r.1 in
        (0, omega (arith, r.0), record { facts = xs; of = refl; node = i.node; fact = i.fact; at = i.at; path = i.path; asked = i.asked; is = i.is })
    at rest (inr k) =
        let r = rest k in
        let i = r.2 in
        (suc r.0, omega (arith, r.1), record { facts = i.facts; of = i.of; node = i.node; fact = i.fact; at = i.at; path = i.path; asked = i.asked; is = i.is })

files_from : (paths : List (List ℕ)) (f : ℕ) (t : Table) (k b : ℕ) → Includes paths t k b → AskedIn paths (told_from f t) (f + k) b
files_from paths f [] k b i = absurd (none-some i.facts i.of)
files_from paths f (xs ∷ more) zero b i =
    subst (λ (n : ℕ). AskedIn paths (told_from f (xs ∷ more)) n b) (omega arith)
    (asked_left paths (facts_told f 0 xs) (told_from (suc f) more) f b
    (facts_from paths f 0 xs b i.node i.fact i.path (ap (λ (ys : List Fact). slice_get ys i.node) (same_Some xs i.facts i.of) ∙ i.at) i.asked i.is))
files_from paths f (xs ∷ more) (suc k) b i =
    subst (λ (n : ℕ). AskedIn paths (told_from f (xs ∷ more)) n b) (omega arith)
    (asked_right paths (facts_told f 0 xs) (told_from (suc f) more) (suc f + k) b
    (files_from paths (suc f) more k b (record { facts = i.facts; of = i.of; node = i.node; fact = i.fact; at = i.at; path = i.path; asked = i.asked; is = i.is })))

-- pairs of what is told are pairs of what includes what
pub pairs_include : (paths : List (List ℕ)) (t : Table) (ps : List (ℕ × ℕ)) → ArePairs ps (AskedIn paths (all_told t)) → ArePairs ps (Includes paths t)
pairs_include paths t ps h = record {
  listed = λ a b c. listed a b (files_cases paths 0 t a b (h.listed a b c));
  all = λ a b i. h.all a b (subst (λ (n : ℕ). AskedIn paths (all_told t) n b) (omega arith) (files_from paths 0 t a b i));
}
  where
    listed : (a b : ℕ) → (k : ℕ) × (0 + k ≡ a) × Includes paths t k b → Includes paths t a b
    listed a b r = subst (λ (n : ℕ). Includes paths t n b) (omega (arith, r.1)) r.2
