-- The graph of runs.
use Rattle.std.proofs.Common.{◌≡◌, ◌<◌, ◌⊎◌, inl, inr, ℕ, List, [], ◌∷◌, ◌++◌, map, length, get_or, sym, ap, subst, ◌∙◌, Some, None, Option, arith}
use Rattle.std.specs.Prelude.{Contains}
use Rattle.std.specs.Option.{ForSome}
use Rattle.std.proofs.lemmas.List.{length-map, get_or-map}
use Rattle.std.proofs.lemmas.List.Elements.{Contains-get_or, Contains-append_left, Contains-append_right, Contains-append_cases, Contains-push, Contains-push_cases}
use Rattle.std.proofs.lemmas.Option.{none-some, same_Some, slice_get_within}
use Rattle.graph_search.specs.Graph.{Graph, Path, here as at_once, step, ArePairsBelow, pair}
use Rattle.graph_search.specs.Marks.{AreBelow}
use Rattle.graph_search.proofs.MarkLemmas.{only_element}
use Rattle.program_names.specs.Entries.{paths_of}
use Rattle.program_names.specs.Files.{Files}
use Rattle.program_names.specs.Table.{Table, table_of, Includes, Reaches, here, through, IsReached, AreTogether, with_prepend}
use Rattle.declared_twice.specs.Includes.{ArePairs, IsGraphOf}
use Rattle.declared_twice.specs.Runs.{AreBothWays, ArePairsWithin, IsRuns, IsRunGraph, Leads, Meets, starts, turned}
use Rattle.declared_twice.proofs.EntryLemmas.{graph_of_pairs, length_paths, length_table}

-- ---- pairs

-- an element of a mapped list
mapped : {X Y : Type 0} (h : X → Y) (d : X) (xs : List X) (y : Y) → Contains (map h xs) y → (x : X) × Contains xs x × (h x ≡ y)
mapped {X} {Y} h d xs y c =
    let l : c.0 < length xs = omega (arith, c.1, length-map xs h) in
    (get_or xs c.0 d, Contains-get_or xs c.0 d l, sym (get_or-map h xs c.0 d y l) ∙ c.2)

to_mapped : {X Y : Type 0} (h : X → Y) (xs : List X) (x : X) → Contains xs x → Contains (map h xs) (h x)
to_mapped {X} {Y} h xs x c =
    let l : c.0 < length (map h xs) = omega (arith, c.1, length-map xs h) in
    (c.0, l, get_or-map h xs c.0 x (h x) c.1 ∙ ap h c.2)

starts_listed : (entries : List ℕ) (prepend : Option ℕ) (a b : ℕ) → Contains (starts entries prepend) (pair a b) → Contains entries a × (prepend ≡ Some b)
starts_listed entries None a b c = absurd (omega (arith, c.1))
starts_listed entries (Some p) a b c =
    let m = mapped (λ (e : ℕ). pair e p) 0 entries (pair a b) c in
    (subst (λ (x : ℕ). Contains entries x) (ap (λ (q : ℕ × ℕ). q.0) m.2) m.1, ap (λ (q : ℕ × ℕ). Some q.1) m.2)

starts_all : (entries : List ℕ) (prepend : Option ℕ) (a b : ℕ) → Contains entries a → prepend ≡ Some b → Contains (starts entries prepend) (pair a b)
starts_all entries None a b c e = absurd (none-some b e)
starts_all entries (Some p) a b c e = subst (λ (x : ℕ). Contains (map (λ (n : ℕ). pair n p) entries) (pair a x)) (same_Some p b e) (to_mapped (λ (n : ℕ). pair n p) entries a c)

-- pairs of what includes what, and each entry with the file before it
pub pairs_run : (paths : List (List ℕ)) (t : Table) (entries : List ℕ) (prepend : Option ℕ) (ps : List (ℕ × ℕ)) → ArePairs ps (Includes paths t) →
    ArePairs (ps ++ starts entries prepend) (Leads paths t entries prepend)
pairs_run paths t entries prepend ps h = record {
  listed = λ a b c. listed a b (Contains-append_cases ps (starts entries prepend) (pair a b) c);
  all = λ a b l. all a b l;
}
  where
    listed : (a b : ℕ) → Contains ps (pair a b) ⊎ Contains (starts entries prepend) (pair a b) → Leads paths t entries prepend a b
    listed a b (inl c) = inl (h.listed a b c)
    listed a b (inr c) = inr (starts_listed entries prepend a b c)

    all : (a b : ℕ) → Leads paths t entries prepend a b → Contains (ps ++ starts entries prepend) (pair a b)
    all a b (inl i) = Contains-append_left ps (starts entries prepend) (pair a b) (h.all a b i)
    all a b (inr s) = Contains-append_right ps (starts entries prepend) (pair a b) (starts_all entries prepend a b s.0 s.1)

turned_pair : (ps : List (ℕ × ℕ)) (a b : ℕ) → Contains (map turned ps) (pair a b) → Contains ps (pair b a)
turned_pair ps a b c =
    let m = mapped turned (pair 0 0) ps (pair a b) c in
    let first : m.0.0 ≡ b = ap (λ (q : ℕ × ℕ). q.1) m.2 in
    let second : m.0.1 ≡ a = ap (λ (q : ℕ × ℕ). q.0) m.2 in
    subst (λ (x : ℕ). Contains ps (pair x a)) first (subst (λ (y : ℕ). Contains ps (pair m.0.0 y)) second m.1)

pub turned_below : (n : ℕ) (ps : List (ℕ × ℕ)) → ArePairsWithin n ps → ArePairsBelow n (map turned ps)
turned_below n ps w a b c = (w b a (turned_pair ps a b c)).1

leads_within : (fs : Files) (entries : List ℕ) (prepend : Option ℕ) (a b : ℕ) → AreBelow entries (length fs) → ForSome prepend (λ p. p < length fs) →
    Leads (paths_of fs) (table_of fs) entries prepend a b → (a < length fs) × (b < length fs)
leads_within fs entries prepend a b w v (inl i) = (
  subst (λ (n : ℕ). a < n) (length_table fs) (slice_get_within (table_of fs) a i.facts i.of),
  subst (λ (n : ℕ). b < n) (length_paths fs) (slice_get_within (paths_of fs) b i.path i.is),
)
leads_within fs entries prepend a b w v (inr s) = (w a s.0, v b s.1)

pub pairs_within : (fs : Files) (entries : List ℕ) (prepend : Option ℕ) (ps : List (ℕ × ℕ)) (n : ℕ) → n ≡ length fs
    → AreBelow entries (length fs) → ForSome prepend (λ p. p < length fs) →
    ArePairs ps (Leads (paths_of fs) (table_of fs) entries prepend) → ArePairsWithin n ps
pairs_within fs entries prepend ps n e w v h a b c = subst (λ (k : ℕ). (a < k) × (b < k)) (sym e) (leads_within fs entries prepend a b w v (h.listed a b c))

-- these are the graphs of runs
pub runs_are : (fs : Files) (entries : List ℕ) (prepend : Option ℕ) (ps : List (ℕ × ℕ)) (n : ℕ) (next before : Graph) → n ≡ length fs → AreBelow entries (length fs) →
    ForSome prepend (λ p. p < length fs) →
    ArePairs ps (Leads (paths_of fs) (table_of fs) entries prepend) → AreBothWays n ps next before → IsRuns fs entries prepend next before
runs_are fs entries prepend ps n next before e w v h g = record {
  graph = subst (λ (k : ℕ). IsGraphOf k (Leads (paths_of fs) (table_of fs) entries prepend) next) e
      (graph_of_pairs n (Leads (paths_of fs) (table_of fs) entries prepend) ps next h g.forth);
  runs = record {
    within = λ a b k. subst (λ (m : ℕ). b < m) (sym g.forth.size) (pairs a b (g.forth.listed a b k)).1;
    within_before = λ a b k. subst (λ (m : ℕ). b < m) (sym g.back.size) (pairs b a (turned_pair ps a b (g.back.listed a b k))).0;
    turned = record {
      size = g.back.size ∙ sym g.forth.size;
      forth = λ a b k. g.back.all b a (to_mapped turned ps (pair a b) (g.forth.listed a b k));
      back = λ a b k. g.forth.all b a (turned_pair ps a b (g.back.listed a b k));
    };
    below = λ b c. subst (λ (m : ℕ). b < m) (sym e ∙ sym g.forth.size) (w b c);
  };
}
  where
    pairs : (a b : ℕ) → Contains ps (pair a b) → (a < n) × (b < n)
    pairs a b c = pairs_within fs entries prepend ps n e w v h a b c

-- ---- what runs reach

-- what a file leads to it reaches, or the file before each entry does
path_run : (paths : List (List ℕ)) (t : Table) (entries : List ℕ) (prepend : Option ℕ) (g : Graph) (n a b : ℕ) → length paths ≡ length t → ForSome prepend (λ p. p < length t) →
    IsGraphOf n (Leads paths t entries prepend) g → a < length t → Path g a b → Reaches paths t a b ⊎ ((p : ℕ) × (prepend ≡ Some p) × Reaches paths t p b)
path_run paths t entries prepend g n _ _ l v i w (at_once a) = inl (here a w)
path_run paths t entries prepend g n _ _ l v i w (step a b c e p) =
    at (path_run paths t entries prepend g n b c l v i (within (i.listed a b e)) p) (i.listed a b e)
  where
    within : Leads paths t entries prepend a b → b < length t
    within (inl k) = subst (λ (m : ℕ). b < m) l (slice_get_within paths b k.path k.is)
    within (inr k) = v b k.1

    at : Reaches paths t b c ⊎ ((q : ℕ) × (prepend ≡ Some q) × Reaches paths t q c)
        → Leads paths t entries prepend a b → Reaches paths t a c
        ⊎ ((q : ℕ) × (prepend ≡ Some q) × Reaches paths t q c)
    at (inr r) k = inr r
    at (inl r) (inl k) = inl (through a b c k r)
    at (inl r) (inr k) = inr (b, k.1, r)

reaches_run : (paths : List (List ℕ)) (t : Table) (entries : List ℕ) (prepend : Option ℕ) (g : Graph) (n a b : ℕ)
    → IsGraphOf n (Leads paths t entries prepend) g → Reaches paths t a b → Path g a b
reaches_run paths t entries prepend g n _ _ i (here f w) = at_once f
reaches_run paths t entries prepend g n _ _ i (through f h k m r) = step f h k (i.all f h (inl m)) (reaches_run paths t entries prepend g n h k i r)

in_prepend : (e p : ℕ) (prepend : Option ℕ) → prepend ≡ Some p → Contains (with_prepend e prepend) p
in_prepend e p None q = absurd (none-some p q)
in_prepend e p (Some x) q = subst (λ (y : ℕ). Contains (e ∷ x ∷ []) y) (same_Some x p q) (Contains-push (e ∷ []) x)

in_first : (e : ℕ) (prepend : Option ℕ) → Contains (with_prepend e prepend) e
in_first e None = Contains-push [] e
in_first e (Some x) = Contains-append_left (e ∷ []) (x ∷ []) e (Contains-push [] e)

prepend_cases : (e x : ℕ) (prepend : Option ℕ) → Contains (with_prepend e prepend) x → (e ≡ x) ⊎ (prepend ≡ Some x)
prepend_cases e x None c = inl (only_element e x c)
prepend_cases e x (Some p) c = at (Contains-push_cases (e ∷ []) p x c)
  where
    at : Contains (e ∷ []) x ⊎ (p ≡ x) → (e ≡ x) ⊎ (Some p ≡ Some x)
    at (inl k) = inl (only_element e x k)
    at (inr q) = inr (ap (λ (y : ℕ). Some y) q)

-- what an entry leads to is what its run reaches
pub run_reaches : (paths : List (List ℕ)) (t : Table) (entries : List ℕ) (prepend : Option ℕ) (g : Graph) (n e x : ℕ)
    → length paths ≡ length t → ForSome prepend (λ p. p < length t) →
    IsGraphOf n (Leads paths t entries prepend) g → e < length t → Path g e x → IsReached paths t (with_prepend e prepend) x
run_reaches paths t entries prepend g n e x l v i w p = at (path_run paths t entries prepend g n e x l v i w p)
  where
    at : Reaches paths t e x ⊎ ((q : ℕ) × (prepend ≡ Some q) × Reaches paths t q x) → IsReached paths t (with_prepend e prepend) x
    at (inl r) = (e, in_first e prepend, r)
    at (inr r) = (r.0, in_prepend e r.0 prepend r.1, r.2)

pub reaches_of_run : (paths : List (List ℕ)) (t : Table) (entries : List ℕ) (prepend : Option ℕ) (g : Graph) (n e x : ℕ) →
    IsGraphOf n (Leads paths t entries prepend) g → Contains entries e → IsReached paths t (with_prepend e prepend) x → Path g e x
reaches_of_run paths t entries prepend g n e x i c r = at (prepend_cases e r.0 prepend r.1)
  where
    at : (e ≡ r.0) ⊎ (prepend ≡ Some r.0) → Path g e x
    at (inl q) = subst (λ (y : ℕ). Path g y x) (sym q) (reaches_run paths t entries prepend g n r.0 x i r.2)
    at (inr q) = step e r.0 x (i.all e r.0 (inr (c, q))) (reaches_run paths t entries prepend g n r.0 x i r.2)

-- two files meet in the graph exactly where one run reaches both
pub meet_together : (fs : Files) (entries : List ℕ) (prepend : Option ℕ) (g : Graph) (f h : ℕ) → ForSome prepend (λ p. p < length fs) → AreBelow entries (length fs) →
    IsRunGraph fs entries prepend g → Meets g entries f h → AreTogether (paths_of fs) (table_of fs) entries prepend f h
meet_together fs entries prepend g f h v w i m = (
  m.entry,
  m.among,
  run_reaches paths t entries prepend g (length fs) m.entry f same some i within m.first,
  run_reaches paths t entries prepend g (length fs) m.entry h same some i within m.second,
)
  where
    paths : List (List ℕ)
    paths = paths_of fs

    t : Table
    t = table_of fs

    same : length (paths_of fs) ≡ length (table_of fs)
    same = length_paths fs ∙ sym (length_table fs)

    some : ForSome prepend (λ p. p < length (table_of fs))
    some = λ p e. subst (λ (n : ℕ). p < n) (sym (length_table fs)) (v p e)

    within : m.entry < length (table_of fs)
    within = subst (λ (n : ℕ). m.entry < n) (sym (length_table fs)) (w m.entry m.among)

pub together_meet : (fs : Files) (entries : List ℕ) (prepend : Option ℕ) (g : Graph) (f h : ℕ) → IsRunGraph fs entries prepend g →
    AreTogether (paths_of fs) (table_of fs) entries prepend f h → Meets g entries f h
together_meet fs entries prepend g f h i a = record {
  entry = a.0;
  among = a.1;
  first = reaches_of_run (paths_of fs) (table_of fs) entries prepend g (length fs) a.0 f i a.1 a.2;
  second = reaches_of_run (paths_of fs) (table_of fs) entries prepend g (length fs) a.0 h i a.1 a.3;
}
