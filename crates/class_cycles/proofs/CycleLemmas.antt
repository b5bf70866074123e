-- Cycles of classes are cycles of the places of their names.
use Rattle.std.proofs.Common.{◌≡◌, ◌<◌, ◌⊎◌, inl, inr, ℕ, List, [], ◌∷◌, length, map, get_or, refl, sym, subst, ap, ◌∙◌, arith}
use Rattle.std.specs.Prelude.{Contains}
use Rattle.std.specs.List.{All}
use Rattle.std.specs.Ordering.{nat_cmp, ordering_then, ordering_reverse}
use Rattle.std.specs.declared.cmp.Ordering.TheVariants.{Less, Equal, Greater}
use Rattle.std.specs.Cmp.Lexicographic.{slice_cmp, nat_list_cmp_total}
use Rattle.std.proofs.lemmas.Bool.{cases_order}
use Rattle.std.proofs.lemmas.Bool.Decides.{nat_tests}
use Rattle.std.proofs.lemmas.List.Elements.{Contains-get_or}
use Rattle.graph_search.specs.Graph.{pair}
use Rattle.program_names.specs.Classes.{AreAscending}
use Rattle.program_names.specs.Table.{Table, Extends, ExtendsTo, IsLeast, AreApart, IsCycle, IsFirstCycle}
use Rattle.class_cycles.specs.Circuits.{Pairs, AreWithin, Follow, IsBelowAll, AreDistinct, IsCircuit, IsFirstCircuit}
use Rattle.class_cycles.proofs.ListLemmas.{none_in, in_first, in_rest, in_cases, in_map, from_map, Origin}
use Rattle.class_cycles.proofs.PlaceLemmas.{cmp, cmp_itself, less_not_same, ascends}

-- the name at a place
abbrev pub name_at : List (List ℕ) → ℕ → List ℕ
name_at names i = get_or names i []

-- the place of a name
pub record Placed (names : List (List ℕ)) (n : List ℕ) : Type 0 where
  pub place : ℕ
  pub within : place < length names
  pub is : name_at names place ≡ n

-- exactly the places of the names that extend one another
pub record Stand (t : Table) (names : List (List ℕ)) (ps : Pairs) : Type 0 where
  pub ascending : AreAscending names
  pub within : AreWithin (length names) ps
  pub forth : (a b : ℕ) → Contains ps (pair a b) → Extends t (name_at names a) (name_at names b)
  pub back : (a b : ℕ) → a < length names → b < length names → Extends t (name_at names a) (name_at names b) → Contains ps (pair a b)
  pub child : (x y : List ℕ) → Extends t x y → Placed names x
  pub parent : (x y : List ℕ) → Extends t x y → Placed names y

abbrev AreBelow : ℕ → List ℕ → Type 0
AreBelow n bs = (x : ℕ) → Contains bs x → x < n

rest_below : (n a : ℕ) (bs : List ℕ) → AreBelow n (a ∷ bs) → AreBelow n bs
rest_below n a bs h = λ x c. h x (in_rest a bs x c)

pub follow_below : (n : ℕ) (ps : Pairs) (end a : ℕ) (bs : List ℕ) → AreWithin n ps → Follow ps end a bs → AreBelow n (a ∷ bs)
follow_below n ps end a [] w f = λ x c. at x (in_cases a [] x c)
  where
    at : (x : ℕ) → (a ≡ x) ⊎ Contains [] x → x < n
    at x (inl e) = subst (λ (k : ℕ). k < n) e (w a end f).0
    at x (inr c) = absurd (none_in x c)
follow_below n ps end a (b ∷ bs) w f = λ x c. at x (follow_below n ps end b bs w f.1 x) (in_cases a (b ∷ bs) x c)
  where
    at : (x : ℕ) → (Contains (b ∷ bs) x → x < n) → (a ≡ x) ⊎ Contains (b ∷ bs) x → x < n
    at x g (inl e) = subst (λ (k : ℕ). k < n) e (w a b f.0).0
    at x g (inr c) = g c

pub circuit_below : (n : ℕ) (ps : Pairs) (rs : List ℕ) → AreWithin n ps → IsCircuit ps rs → AreBelow n rs
circuit_below n ps [] w r = absurd r
circuit_below n ps (a ∷ bs) w r = follow_below n ps a a bs w r.2

pub all_below : (n : ℕ) (ps : Pairs) (rs : List ℕ) → AreWithin n ps → IsCircuit ps rs → All (λ i. i < n) rs
all_below n ps rs w r = λ k d h. circuit_below n ps rs w r (get_or rs k d) (Contains-get_or rs k d h)

module _ (t : Table) (names : List (List ℕ)) (ps : Pairs) (s : Stand t names ps) where
  abbrev n : ℕ
  n = length names

  abbrev name : ℕ → List ℕ
  name i = name_at names i

  -- ---- the order of places is the order of names

  up : (a b : ℕ) → a < b → b < n → cmp (name a) (name b) ≡ Less
  up a b l h = ascends names a b s.ascending l h

  down : (a b : ℕ) → b < a → a < n → cmp (name a) (name b) ≡ Greater
  down a b l h = nat_list_cmp_total.antisymm (name a) (name b) ∙ ap ordering_reverse (up b a l h)

  less : (a b : ℕ) → a < n → cmp (name a) (name b) ≡ Less → a < b
  less a b h e = at (cases_order a b)
    where
      at : (a ≡ b) ⊎ ((a < b) ⊎ (b < a)) → a < b
      at (inl q) = absurd (less_not_same (name a) (name b) e (ap name q))
      at (inr (inl l)) = l
      at (inr (inr l)) = let g : Greater ≡ Less = sym (down a b l h) ∙ e in cc

  same : (a b : ℕ) → a < n → b < n → name a ≡ name b → a ≡ b
  same a b h k e = at (cases_order a b)
    where
      at : (a ≡ b) ⊎ ((a < b) ⊎ (b < a)) → a ≡ b
      at (inl q) = q
      at (inr (inl l)) = absurd (less_not_same (name a) (name b) (up a b l k) e)
      at (inr (inr l)) = absurd (less_not_same (name b) (name a) (up b a l h) (sym e))

  nat_less : (a b : ℕ) → a < b → nat_cmp a b ≡ Less
  nat_less a b l = grind (arith, nat_tests)

  nat_greater : (a b : ℕ) → b < a → nat_cmp a b ≡ Greater
  nat_greater a b l = grind (arith, nat_tests)

  nat_equal : (a b : ℕ) → a ≡ b → nat_cmp a b ≡ Equal
  nat_equal a b e = grind (arith, nat_tests)

  alike : (a b : ℕ) → a < n → b < n → cmp (name a) (name b) ≡ nat_cmp a b
  alike a b h k = at (cases_order a b)
    where
      at : (a ≡ b) ⊎ ((a < b) ⊎ (b < a)) → cmp (name a) (name b) ≡ nat_cmp a b
      at (inl q) = ap (λ (x : ℕ). cmp (name x) (name b)) q ∙ cmp_itself (name b) ∙ sym (nat_equal a b q)
      at (inr (inl l)) = up a b l k ∙ sym (nat_less a b l)
      at (inr (inr l)) = down a b l h ∙ sym (nat_greater a b l)

  same_order : (rs qs : List ℕ) → AreBelow n rs → AreBelow n qs → slice_cmp (slice_cmp nat_cmp) (map name rs) (map name qs) ≡ slice_cmp nat_cmp rs qs
  same_order [] [] h k = refl
  same_order [] (q ∷ qs) h k = refl
  same_order (r ∷ rs) [] h k = refl
  same_order (r ∷ rs) (q ∷ qs) h k =
      let e = alike r q (h r (in_first r rs)) (k q (in_first q qs)) in
      let f = same_order rs qs (rest_below n r rs h) (rest_below n q qs k) in
      λ i. ordering_then (e i) (f i)

  -- ---- from places to names

  to_least : (a : ℕ) (bs : List ℕ) → IsBelowAll a bs → AreBelow n bs → IsLeast (name a) (map name bs)
  to_least a [] i h = tt
  to_least a (b ∷ bs) i h = (up a b i.0 (h b (in_first b bs)), to_least a bs i.1 (rest_below n b bs h))

  to_apart : (bs : List ℕ) → AreDistinct bs → AreBelow n bs → AreApart (map name bs)
  to_apart [] i h = tt
  to_apart (b ∷ bs) i h = (λ c. twice (from_map name bs (name b) c), to_apart bs i.1 (rest_below n b bs h))
    where
      twice : Origin name bs (name b) → ⊥
      twice o = i.0 (subst (λ (x : ℕ). Contains bs x) (same o.element b (h o.element (in_rest b bs o.element o.among)) (h b (in_first b bs)) o.is) o.among)

  to_extends : (end a : ℕ) (bs : List ℕ) → Follow ps end a bs → ExtendsTo t (name end) (name a) (map name bs)
  to_extends end a [] f = s.forth a end f
  to_extends end a (b ∷ bs) f = (s.forth a b f.0, to_extends end b bs f.1)

  to_cycle : (rs : List ℕ) → IsCircuit ps rs → IsCycle t (map name rs)
  to_cycle [] r = r
  to_cycle (a ∷ bs) r = let h = rest_below n a bs (circuit_below n ps (a ∷ bs) s.within r) in
      (to_least a bs r.0 h, to_apart bs r.1 h, to_extends a a bs r.2)

  -- ---- from names to places

  from_least : (a : ℕ) (bs : List ℕ) → a < n → IsLeast (name a) (map name bs) → IsBelowAll a bs
  from_least a [] h i = tt
  from_least a (b ∷ bs) h i = (less a b h i.0, from_least a bs h i.1)

  from_apart : (bs : List ℕ) → AreApart (map name bs) → AreDistinct bs
  from_apart [] i = tt
  from_apart (b ∷ bs) i = (λ c. i.0 (in_map name bs b c), from_apart bs i.1)

  record Trace (end a : ℕ) (ns : List (List ℕ)) : Type 0 where
    numbers : List ℕ
    is : ns ≡ map name numbers
    follow : Follow ps end a numbers

  trace : (end a : ℕ) (ns : List (List ℕ)) → end < n → a < n → ExtendsTo t (name end) (name a) ns → Trace end a ns
  trace end a [] h k e = record { numbers = []; is = refl; follow = s.back a end k h e }
  trace end a (m ∷ ms) h k e =
      let p = s.parent (name a) m e.0 in
      let r = trace end p.place ms h p.within (subst (λ (z : List ℕ). ExtendsTo t (name end) z ms) (sym p.is) e.1) in
      record {
        numbers = p.place ∷ r.numbers;
        is = λ i. sym p.is i ∷ r.is i;
        follow = (s.back a p.place k p.within (subst (λ (z : List ℕ). Extends t (name a) z) (sym p.is) e.0), r.follow);
      }

  record CircuitOf (ns : List (List ℕ)) : Type 0 where
    numbers : List ℕ
    is : ns ≡ map name numbers
    circuit : IsCircuit ps numbers

  first_placed : (m : List ℕ) (ms : List (List ℕ)) → ExtendsTo t m m ms → Placed names m
  first_placed m [] e = s.child m m e
  first_placed m (x ∷ xs) e = s.child m x e.0

  from_cycle : (ns : List (List ℕ)) → IsCycle t ns → CircuitOf ns
  from_cycle [] c = absurd c
  from_cycle (m ∷ ms) c = at (first_placed m ms c.2)
    where
      from : (a : ℕ) → a < n → name a ≡ m → Trace a a ms → CircuitOf (m ∷ ms)
      from a h e r = record {
        numbers = a ∷ r.numbers;
        is = λ i. sym e i ∷ r.is i;
        circuit = (
          from_least a r.numbers h (subst (λ (z : List ℕ). IsLeast z (map name r.numbers)) (sym e) (subst (λ (zs : List (List ℕ)). IsLeast m zs) r.is c.0)),
          from_apart r.numbers (subst (λ (zs : List (List ℕ)). AreApart zs) r.is c.1),
          r.follow,
        );
      }

      at : Placed names m → CircuitOf (m ∷ ms)
      at p = from p.place p.within p.is (trace p.place p.place ms p.within p.within (subst (λ (z : List ℕ). ExtendsTo t z z ms) (sym p.is) c.2))

  -- ---- the answer

  pub no_cycle : ((other : List ℕ) → ¬ IsCircuit ps other) → (ns : List (List ℕ)) → ¬ IsCycle t ns
  no_cycle none ns = λ c. let r = from_cycle ns c in none r.numbers r.circuit

  pub first_named : (rs : List ℕ) → IsFirstCircuit ps rs → IsFirstCycle t (map name rs)
  first_named rs f = record { is = to_cycle rs f.is; first = λ ns c l. at ns l (from_cycle ns c) }
    where
      at : (ns : List (List ℕ)) → slice_cmp (slice_cmp nat_cmp) ns (map name rs) ≡ Less → CircuitOf ns → ⊥
      at ns l r = f.first r.numbers r.circuit
          (sym (same_order r.numbers rs (circuit_below n ps r.numbers s.within r.circuit) (circuit_below n ps rs s.within f.is))
          ∙ ap (λ (zs : List (List ℕ)). slice_cmp (slice_cmp nat_cmp) zs (map name rs)) (sym r.is) ∙ l)
