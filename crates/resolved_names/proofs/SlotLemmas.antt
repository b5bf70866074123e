-- Slots of a program by number, read at its nodes.
use Rattle.std.specs.Prelude.{map, option_map, take, drop}
use Rattle.std.specs.List.{AllZip}
use Rattle.std.proofs.Common.{◌≡◌, ◌⊎◌, inl, inr, ℕ, zero, suc, ◌+◌, ◌-◌, List, [], ◌∷◌, ◌++◌, length, Option, Some, None, slice_get, refl, sym, ap, subst, ◌∙◌, arith}
use Rattle.std.proofs.lemmas.List.{length-map}
use Rattle.std.proofs.lemmas.Option.{slice_get-map, same_Some, none-some}
use Rattle.php_rows.specs.File.{file_in}
use Rattle.php_rows.specs.declared.file.RowTree.{RowTree}
use Rattle.node_names.specs.Facts.{Fact, file_facts}
use Rattle.node_names.specs.Slots.{NamedSlot}
use Rattle.node_facts.specs.declared.ends.Ends.{Ends}
use Rattle.node_facts.specs.declared.facts.FileFacts.{FileFacts}
use Rattle.node_facts.specs.declared.node_fact.NodeFact.{NodeFact}
use Rattle.node_facts.specs.declared.slot_name.SlotName.{SlotName}
use Rattle.node_facts.specs.Flat.{between, first_of, flat_in, items_if, node_in, nodes_in, slots_listed, slots_named, start}
use Rattle.node_facts.specs.Named.{Named, named_of}
use Rattle.node_facts.specs.Seen as seen
use Rattle.file_declarations.specs.declared.node_ref.NodeRef.{NodeRef}
use Rattle.program_names.specs.declared.slot_id.SlotId.{SlotId}
use Rattle.program_names.specs.Entries.{paths_of}
use Rattle.program_names.specs.Files.{Files}
use Rattle.program_names.specs.Table.{Table, fact_at, table_of}
use Rattle.slot_numbers.specs.Growing.{AreApart, Has}
use Rattle.slot_numbers.specs.Keys.{Key, key_of}
use Rattle.slot_numbers.specs.Numbered.{AreNumbered, ArePairsNumbered, IsNumbered, IsPairNumbered}
use Rattle.slot_numbers.proofs.KeyLemmas.{key_in, key_is, slot_is, slot_of}
use Rattle.slot_numbers.proofs.SeenLemmas.{only_more}
use Rattle.resolved_names.specs.declared.file_names.FileNames.{FileNames}
use Rattle.resolved_names.specs.Ranges.{ranged}
use Rattle.resolved_names.specs.Reads.{Place, listed_in, pairs_in, pick_one, place_at, place_in, slot_in, slots_in}
use Rattle.resolved_names.specs.SlotNumbers.{AreNumbers, AreSlots, IsNamed, IsNumber, listed_at, slot_at}
use Rattle.resolved_names.specs.SlotReads.{AreNumberedFiles, AreSlotFiles, IsKeyOf, IsSlotFile, IsSlotOf}
use Rattle.resolved_names.proofs.ReadLemmas.{behind, between_map, fact_from, first_or, is_there, place_of}

-- ---- pairs of lists

zip_take : {A B : Type 0} (R : A → B → Type 0) (k : ℕ) (xs : List A) (ys : List B) → AllZip R xs ys → AllZip R (take k xs) (take k ys)
zip_take R zero xs ys h = tt
zip_take R (suc k) [] [] h = tt
zip_take R (suc k) [] (y ∷ ys) h = absurd h
zip_take R (suc k) (x ∷ xs) [] h = absurd h
zip_take R (suc k) (x ∷ xs) (y ∷ ys) h = (h.0, zip_take R k xs ys h.1)

zip_drop : {A B : Type 0} (R : A → B → Type 0) (k : ℕ) (xs : List A) (ys : List B) → AllZip R xs ys → AllZip R (drop k xs) (drop k ys)
zip_drop R zero xs ys h = h
zip_drop R (suc k) [] [] h = h
zip_drop R (suc k) [] (y ∷ ys) h = absurd h
zip_drop R (suc k) (x ∷ xs) [] h = absurd h
zip_drop R (suc k) (x ∷ xs) (y ∷ ys) h = zip_drop R k xs ys h.1

zip_between : {A B : Type 0} (R : A → B → Type 0) (from to : ℕ) (xs : List A) (ys : List B) → AllZip R xs ys → AllZip R (between from to xs) (between from to ys)
zip_between R from to xs ys h = zip_take R (to - from) (drop from xs) (drop from ys) (zip_drop R from xs ys h)

-- ---- one file's slots

-- the slots of the keys, where the files have these paths
abbrev pub all_slots : List (List ℕ) → List Key → List NamedSlot
all_slots paths ks = map (slot_of paths) ks

slot_there : (paths : List (List ℕ)) (ks : List Key) (f : ℕ) (path : List ℕ) → slice_get paths f ≡ Some path → (s : SlotName) (i : ℕ)
    → slice_get ks i ≡ Some (key_of f s) → slice_get (all_slots paths ks) i ≡ Some (seen.slot_in path s)
slot_there paths ks f path h s i e =
    slice_get-map (slot_of paths) ks i ∙ ap (λ (o : Option Key). option_map (slot_of paths) o) e
    ∙ ap (λ (x : NamedSlot). Some x) (slot_is paths f path s h)

first_number : (paths : List (List ℕ)) (ks : List Key) (f : ℕ) (path : List ℕ) → slice_get paths f ≡ Some path
    → (ss : List SlotName) (is : List SlotId) → AreNumbered ks f ss is
    → IsNumber (all_slots paths ks) (first_of (map (seen.slot_in path) ss)) (slice_get is 0)
first_number paths ks f path h [] [] n = refl
first_number paths ks f path h [] (i ∷ is) n = absurd n
first_number paths ks f path h (s ∷ ss) [] n = absurd n
first_number paths ks f path h (s ∷ ss) (i ∷ is) n = slot_there paths ks f path h s i.0 n.0

pair_number : (paths : List (List ℕ)) (ks : List Key) (f : ℕ) (path : List ℕ) → slice_get paths f ≡ Some path
    → (ps : List (SlotName × SlotName)) (is : List (SlotId × SlotId)) → ArePairsNumbered ks f ps is → (n : ℕ)
    → AreNumbers (all_slots paths ks) (slice_get (map (seen.slots_in path) ps) n) (slice_get is n)
pair_number paths ks f path h [] [] z n = refl
pair_number paths ks f path h [] (i ∷ is) z n = absurd z
pair_number paths ks f path h (p ∷ ps) [] z n = absurd z
pair_number paths ks f path h (p ∷ ps) (i ∷ is) z zero =
    (slot_there paths ks f path h p.0 i.0.0 z.0.0, slot_there paths ks f path h p.1 i.1.0 z.0.1)
pair_number paths ks f path h (p ∷ ps) (i ∷ is) z (suc n) = pair_number paths ks f path h ps is z.1 n

-- the numbers of what a node tells
pub record IsSlotNode (slots : List NamedSlot) (p : Place) (x : Fact) : Type 0 where
  pub slot : IsNumber slots x.slot (slice_get (slots_in p) 0)
  pub listed : (n : ℕ) → AreNumbers slots (slice_get x.listed n) (slice_get (pairs_in p) n)

abbrev pub IsSlotIf : List NamedSlot → Option Place → Option Fact → Type 0
IsSlotIf slots None None = Unit {0}
IsSlotIf slots None (Some x) = ⊥
IsSlotIf slots (Some p) None = ⊥
IsSlotIf slots (Some p) (Some x) = IsSlotNode slots p x

slot_node : (paths : List (List ℕ)) (ks : List Key) (f : ℕ) (path : List ℕ) (v : FileNames) (facts : FileFacts) (from : Ends) (n : NodeFact) (x : Fact)
    → slice_get paths f ≡ Some path → AreNumbered ks f facts.slots.items v.slots.items → ArePairsNumbered ks f facts.listed.items v.listed.items
    → node_in (flat_in path facts) n.kind from n.ends ≡ named_of x → IsSlotNode (all_slots paths ks) (v, (from, n)) x
slot_node paths ks f path v facts from n x h slots listed e =
    let ss : List SlotName = between from.slots n.ends.slots facts.slots.items in
    let ps : List (SlotName × SlotName) = between from.listed n.ends.listed facts.listed.items in
    record {
      slot = subst (λ (o : Option NamedSlot). IsNumber (all_slots paths ks) o (slice_get (between from.slots n.ends.slots v.slots.items) 0))
          (ap (λ (l : List NamedSlot). first_of l) (sym (between_map (seen.slot_in path) from.slots n.ends.slots facts.slots.items))
          ∙ ap (λ (y : Named). y.slot) e)
          (first_number paths ks f path h ss (between from.slots n.ends.slots v.slots.items)
          (zip_between (IsNumbered ks f) from.slots n.ends.slots facts.slots.items v.slots.items slots));
      listed = λ m. subst (λ (l : List (NamedSlot × NamedSlot)). AreNumbers (all_slots paths ks) (slice_get l m) (slice_get (between from.listed n.ends.listed v.listed.items) m))
          (sym (between_map (seen.slots_in path) from.listed n.ends.listed facts.listed.items) ∙ ap (λ (y : Named). y.listed) e)
          (pair_number paths ks f path h ps (between from.listed n.ends.listed v.listed.items)
          (zip_between (IsPairNumbered ks f) from.listed n.ends.listed facts.listed.items v.listed.items listed) m);
    }

slot_nodes : (paths : List (List ℕ)) (ks : List Key) (f : ℕ) (path : List ℕ) (v : FileNames) (facts : FileFacts) (from : Ends) (ns : List NodeFact) (xs : List Fact)
    → slice_get paths f ≡ Some path → AreNumbered ks f facts.slots.items v.slots.items → ArePairsNumbered ks f facts.listed.items v.listed.items
    → nodes_in (flat_in path facts) from ns ≡ map named_of xs → (i : ℕ)
    → IsSlotIf (all_slots paths ks) (option_map (λ r. (v, r)) (slice_get (ranged from ns) i)) (slice_get xs i)
slot_nodes paths ks f path v facts from [] [] h slots listed e i = tt
slot_nodes paths ks f path v facts from [] (x ∷ xs) h slots listed e i = absurd (subst is_there (sym e) tt)
slot_nodes paths ks f path v facts from (n ∷ ns) [] h slots listed e i = absurd (subst is_there e tt)
slot_nodes paths ks f path v facts from (n ∷ ns) (x ∷ xs) h slots listed e zero =
    slot_node paths ks f path v facts from n x h slots listed (ap (λ (ys : List Named). first_or (named_of x) ys) e)
slot_nodes paths ks f path v facts from (n ∷ ns) (x ∷ xs) h slots listed e (suc i) =
    slot_nodes paths ks f path v facts n.ends ns xs h slots listed (ap (λ (ys : List Named). behind ys) e) i

-- ---- all files' slots

zero_less : (m : ℕ) → zero + m ≡ m
zero_less m = omega arith

one_later : (a b : ℕ) → suc a + b ≡ a + suc b
one_later a b = omega arith

slot_files : (paths : List (List ℕ)) (ks : List Key) (f : ℕ) (fs : Files) (vs : List FileNames)
    → ((g : ℕ) (p : List ℕ) → slice_get (paths_of fs) g ≡ Some p → slice_get paths (g + f) ≡ Some p)
    → AreNumberedFiles ks f fs vs → (g n : ℕ) → IsSlotIf (all_slots paths ks) (place_of vs g n) (fact_from (slice_get (table_of fs) g) n)
slot_files paths ks f [] [] at h g n = tt
slot_files paths ks f [] (v ∷ vs) at h g n = absurd h
slot_files paths ks f (x ∷ fs) [] at h g n = absurd h
slot_files paths ks f (x ∷ fs) (v ∷ vs) at h zero n =
    slot_nodes paths ks f x.0 v h.0.facts start v.nodes.items (file_facts x.0 (file_in x.1).statements)
    (subst (λ (m : ℕ). slice_get paths m ≡ Some x.0) (zero_less f) (at zero x.0 refl)) h.0.slots h.0.listed h.0.told n
slot_files paths ks f (x ∷ fs) (v ∷ vs) at h (suc g) n =
    slot_files paths ks (suc f) fs vs
    (λ k p e. subst (λ (m : ℕ). slice_get paths m ≡ Some p) (one_later k f) (at (suc k) p e)) h.1 g n

all_slot_files : (ks : List Key) (fs : Files) (vs : List FileNames) → AreNumberedFiles ks 0 fs vs → (g n : ℕ)
    → IsSlotIf (all_slots (paths_of fs) ks) (place_of vs g n) (fact_from (slice_get (table_of fs) g) n)
all_slot_files ks fs vs h g n =
    slot_files (paths_of fs) ks 0 fs vs (λ k p e. subst (λ (m : ℕ). slice_get (paths_of fs) m ≡ Some p) (none_more k) e) h g n
  where
    none_more : (k : ℕ) → k ≡ k + 0
    none_more k = omega arith

slot_read : (slots : List NamedSlot) (o : Option Place) (q : Option Fact) → IsSlotIf slots o q
    → IsNumber slots (elim q [ None ↦ None | Some x ↦ x.slot ]) (pick_one (λ p. slice_get (slots_in p) 0) o)
slot_read slots None None h = refl
slot_read slots None (Some x) h = absurd h
slot_read slots (Some p) None h = absurd h
slot_read slots (Some p) (Some x) h = h.slot

listed_read : (slots : List NamedSlot) (o : Option Place) (q : Option Fact) → IsSlotIf slots o q → (n : ℕ)
    → AreNumbers slots (elim q [ None ↦ None | Some x ↦ slice_get x.listed n ]) (pick_one (λ p. slice_get (pairs_in p) n) o)
listed_read slots None None h n = refl
listed_read slots None (Some x) h n = absurd h
listed_read slots (Some p) None h n = absurd h
listed_read slots (Some p) (Some x) h n = h.listed n

-- the numbers that are read at nodes
pub slots_read : (ks : List Key) (fs : Files) (vs : List FileNames) → AreNumberedFiles ks 0 fs vs → (at : NodeRef)
    → IsNumber (all_slots (paths_of fs) ks) (slot_at (table_of fs) at) (slot_in vs at)
slots_read ks fs vs h at =
    slot_read (all_slots (paths_of fs) ks) (place_at vs at) (fact_at (table_of fs) at) (all_slot_files ks fs vs h at.file at.node)

pub pairs_read : (ks : List Key) (fs : Files) (vs : List FileNames) → AreNumberedFiles ks 0 fs vs → (at : NodeRef) (n : ℕ)
    → AreNumbers (all_slots (paths_of fs) ks) (listed_at (table_of fs) at n) (listed_in vs at n)
pairs_read ks fs vs h at n =
    listed_read (all_slots (paths_of fs) ks) (place_at vs at) (fact_at (table_of fs) at) (all_slot_files ks fs vs h at.file at.node) n

-- ---- each number is that of a slot

item_only : {A : Type 0} (o : Option A) (j : ℕ) (x : A) → slice_get (items_if o) j ≡ Some x → o ≡ Some x
item_only None j x e = absurd (none-some x e)
item_only (Some y) zero x e = e
item_only (Some y) (suc j) x e = absurd (none-some x e)

-- a node that names a slot
pub record NamesSlot (xs : List Fact) (s : NamedSlot) : Type 0 where
  pub n : ℕ
  pub x : Fact
  pub at : slice_get xs n ≡ Some x
  pub slot : x.slot ≡ Some s

pub record ListsSlots (xs : List Fact) (p : NamedSlot × NamedSlot) : Type 0 where
  pub n : ℕ
  pub x : Fact
  pub at : slice_get xs n ≡ Some x
  pub listed : Has x.listed p

find_named : (xs : List Fact) (i : ℕ) (s : NamedSlot) → slice_get (slots_named (map named_of xs)) i ≡ Some s → NamesSlot xs s
find_named [] i s e = absurd (none-some s e)
find_named (x ∷ xs) i s e = at (only_more (items_if x.slot) (slots_named (map named_of xs)) i s e) (λ j d. find_named xs j s d)
  where
    at : Has (items_if x.slot) s ⊎ Has (slots_named (map named_of xs)) s → ((j : ℕ) → slice_get (slots_named (map named_of xs)) j ≡ Some s → NamesSlot xs s)
        → NamesSlot (x ∷ xs) s
    at (inl g) find = record { n = zero; x = x; at = refl; slot = item_only x.slot g.0 s g.1 }
    at (inr g) find = let r = find g.0 g.1 in record { n = suc r.n; x = r.x; at = r.at; slot = r.slot }

find_listed : (xs : List Fact) (i : ℕ) (p : NamedSlot × NamedSlot) → slice_get (slots_listed (map named_of xs)) i ≡ Some p → ListsSlots xs p
find_listed [] i p e = absurd (none-some p e)
find_listed (x ∷ xs) i p e = at (only_more x.listed (slots_listed (map named_of xs)) i p e) (λ j d. find_listed xs j p d)
  where
    at : Has x.listed p ⊎ Has (slots_listed (map named_of xs)) p → ((j : ℕ) → slice_get (slots_listed (map named_of xs)) j ≡ Some p → ListsSlots xs p)
        → ListsSlots (x ∷ xs) p
    at (inl g) find = record { n = zero; x = x; at = refl; listed = g }
    at (inr g) find = let r = find g.0 g.1 in record { n = suc r.n; x = r.x; at = r.at; listed = r.listed }

table_at : (fs : Files) (f : ℕ) (x : List ℕ × RowTree) → slice_get fs f ≡ Some x
    → slice_get (table_of fs) f ≡ Some (file_facts x.0 (file_in x.1).statements)
table_at [] f x e = absurd (none-some x e)
table_at (y ∷ fs) zero x e = ap (λ (z : List ℕ × RowTree). Some (file_facts z.0 (file_in z.1).statements)) (same_Some y x e)
table_at (y ∷ fs) (suc f) x e = table_at fs f x e

pub path_there : (fs : Files) (f : ℕ) (x : List ℕ × RowTree) → slice_get fs f ≡ Some x → slice_get (paths_of fs) f ≡ Some x.0
path_there [] f x e = absurd (none-some x e)
path_there (y ∷ fs) zero x e = ap (λ (z : List ℕ × RowTree). Some z.0) (same_Some y x e)
path_there (y ∷ fs) (suc f) x e = path_there fs f x e

abbrev pub node_at : ℕ → ℕ → NodeRef
node_at f n = record { file = f; node = n }

fact_there : (t : Table) (f n : ℕ) (xs : List Fact) (x : Fact) → slice_get t f ≡ Some xs → slice_get xs n ≡ Some x → fact_at t (node_at f n) ≡ Some x
fact_there t f n xs x e d = ap (λ (o : Option (List Fact)). fact_from o n) e ∙ d

named_there : (t : Table) (f : ℕ) (path : List ℕ) (xs : List Fact) (s : SlotName) → slice_get t f ≡ Some xs → IsSlotOf path xs s → IsNamed t (seen.slot_in path s)
named_there t f path xs s e (inl g) =
    let r = find_named xs g.0 (seen.slot_in path s) g.1 in
    (node_at f r.n, inl (ap (λ (o : Option Fact). slot_from o) (fact_there t f r.n xs r.x e r.at) ∙ r.slot))
  where
    slot_from : Option Fact → Option NamedSlot
    slot_from o = elim o [ None ↦ None | Some x ↦ x.slot ]
named_there t f path xs s e (inr (p, g, which)) =
    let r = find_listed xs g.0 p g.1 in
    (node_at f r.n, inr (r.listed.0, p, ap (λ (o : Option Fact). listed_from r.listed.0 o) (fact_there t f r.n xs r.x e r.at) ∙ r.listed.1, which))
  where
    listed_from : ℕ → Option Fact → Option (NamedSlot × NamedSlot)
    listed_from n o = elim o [ None ↦ None | Some x ↦ slice_get x.listed n ]

key_slot : (fs : Files) (k : Key) (h : IsKeyOf fs k) → slot_of (paths_of fs) k ≡ seen.slot_in h.file.0 h.slot
key_slot fs k h = ap (λ (x : Key). slot_of (paths_of fs) x) h.key ∙ slot_is (paths_of fs) h.f h.file.0 h.slot (path_there fs h.f h.file h.at)

key_back : (fs : Files) (k : Key) → AreApart (paths_of fs) → IsKeyOf fs k → key_in (paths_of fs) (slot_of (paths_of fs) k) ≡ k
key_back fs k once h =
    ap (λ (s : NamedSlot). key_in (paths_of fs) s) (key_slot fs k h)
    ∙ key_is (paths_of fs) h.f h.file.0 h.slot once (path_there fs h.f h.file h.at) ∙ sym h.key

-- what a list has at a place was made of what another has there
pub record Got (paths : List (List ℕ)) (ks : List Key) (i : ℕ) (s : NamedSlot) : Type 0 where
  pub k : Key
  pub at : slice_get ks i ≡ Some k
  pub is : slot_of paths k ≡ s

got : (paths : List (List ℕ)) (ks : List Key) (i : ℕ) (s : NamedSlot) → slice_get (all_slots paths ks) i ≡ Some s → Got paths ks i s
got paths [] i s e = absurd (none-some s e)
got paths (k ∷ ks) zero s e = record { k = k; at = refl; is = same_Some (slot_of paths k) s e }
got paths (k ∷ ks) (suc i) s e = let r = got paths ks i s e in record { k = r.k; at = r.at; is = r.is }

number_there : (slots : List NamedSlot) (s : NamedSlot) (o : Option SlotId) → IsNumber slots (Some s) o → Has slots s
number_there slots s None h = absurd h
number_there slots s (Some i) h = (i.0, h)

pair_there : (slots : List NamedSlot) (p : NamedSlot × NamedSlot) (s : NamedSlot) (o : Option (SlotId × SlotId)) → AreNumbers slots (Some p) o
    → (p.0 ≡ s) ⊎ (p.1 ≡ s) → Has slots s
pair_there slots p s None h e = absurd h
pair_there slots p s (Some i) h (inl e) = (i.0.0, h.0 ∙ ap (λ (x : NamedSlot). Some x) e)
pair_there slots p s (Some i) h (inr e) = (i.1.0, h.1 ∙ ap (λ (x : NamedSlot). Some x) e)

-- the slots of the keys are the slots of the program
pub are_slots : (fs : Files) (vs : List FileNames) (n : ℕ) → AreApart (paths_of fs) → (h : AreSlotFiles fs vs n)
    → AreSlots (table_of fs) (all_slots (paths_of fs) h.keys)
are_slots fs vs n once h = record {
  apart = λ i j s e d.
      let a = got (paths_of fs) h.keys i s e in
      let b = got (paths_of fs) h.keys j s d in
      let same : a.k ≡ b.k =
      sym (key_back fs a.k once (h.only a.k (i, a.at))) ∙ ap (λ (x : NamedSlot). key_in (paths_of fs) x) (a.is ∙ sym b.is)
      ∙ key_back fs b.k once (h.only b.k (j, b.at)) in
      h.apart i j b.k (a.at ∙ ap (λ (x : Key). Some x) same) b.at;
  named = λ s g.
      let a = got (paths_of fs) h.keys g.0 s g.1 in
      let k = h.only a.k (g.0, a.at) in
      subst (λ (x : NamedSlot). IsNamed (table_of fs) x) (sym (key_slot fs a.k k) ∙ a.is)
      (named_there (table_of fs) k.f k.file.0 (file_facts k.file.0 (file_in k.file.1).statements) k.slot (table_at fs k.f k.file k.at) k.named);
  all = λ s g. reached s g;
}
  where
    reached : (s : NamedSlot) → IsNamed (table_of fs) s → Has (all_slots (paths_of fs) h.keys) s
    reached s (at, inl e) =
        number_there (all_slots (paths_of fs) h.keys) s (slot_in vs at)
        (subst (λ (o : Option NamedSlot). IsNumber (all_slots (paths_of fs) h.keys) o (slot_in vs at)) e (slots_read h.keys fs vs h.numbered at))
    reached s (at, inr (m, p, e, which)) =
        pair_there (all_slots (paths_of fs) h.keys) p s (listed_in vs at m)
        (subst (λ (o : Option (NamedSlot × NamedSlot)). AreNumbers (all_slots (paths_of fs) h.keys) o (listed_in vs at m)) e (pairs_read h.keys fs vs h.numbered at m)) which

pub slots_counted : (fs : Files) (vs : List FileNames) (n : ℕ) (h : AreSlotFiles fs vs n) → n ≡ length (all_slots (paths_of fs) h.keys)
slots_counted fs vs n h = h.count ∙ sym (length-map h.keys (slot_of (paths_of fs)))
