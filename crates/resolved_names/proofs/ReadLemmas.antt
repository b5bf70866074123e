-- What is read of names.
use Rattle.std.specs.Prelude.{map, option_map, take, drop}
use Rattle.std.proofs.Common.{◌≡◌, ◌≤◌, ◌<◌, ℕ, zero, suc, ◌+◌, ◌-◌, if◌then◌else◌, List, [], ◌∷◌, ◌++◌, Option, Some, None, slice_get, refl, sym, ap, subst, ◌∙◌, append-nil, length, arith}
use Rattle.std.proofs.lemmas.List.{take-map, drop-map}
use Rattle.std.proofs.lemmas.Option.{slice_get-map}
use Rattle.php_tree.specs.declared.kind.NodeKind.{NodeKind}
use Rattle.node_names.specs.declared.name.Name.{Name}
use Rattle.node_names.specs.Compared.{Use}
use Rattle.node_names.specs.Facts.{Fact}
use Rattle.node_facts.specs.declared.ends.Ends.{Ends}
use Rattle.node_facts.specs.declared.node_fact.NodeFact.{NodeFact}
use Rattle.node_facts.specs.Flat.{Flat, between, node_in, nodes_in, start}
use Rattle.node_facts.specs.Named.{Named, named_of}
use Rattle.file_declarations.specs.declared.declaration.Declaration.{Declaration}
use Rattle.file_declarations.specs.declared.node_ref.NodeRef.{NodeRef}
use Rattle.program_names.specs.Classes.{class_number, first_number, is_class_like, number_of}
use Rattle.program_names.specs.Files.{Files}
use Rattle.program_names.specs.Table.{Table, table_of, fact_at, all_declared, declarations, declared_by}
use Rattle.resolved_names.specs.declared.file_names.FileNames.{FileNames}
use Rattle.resolved_names.specs.Index.{Entries, found_in}
use Rattle.resolved_names.specs.NodeReads.{AreFiles, class_of, declared_each, first_class, numbers_of}
use Rattle.resolved_names.specs.Ranges.{ranged}
use Rattle.resolved_names.specs.Reads.{Place, class_in, classes_at, pick, pick_one, place_at, place_in, read_in, uses_at}

-- ---- lists of what may be there

pick_map : {A B C : Type 0} (f : B → List C) (g : A → B) (o : Option A) → pick f (option_map g o) ≡ pick (λ x. f (g x)) o
pick_map f g None = refl
pick_map f g (Some x) = refl

pick_got : {A B C : Type 0} (f : B → List C) (g : A → B) (xs : List A) (i : ℕ) → pick f (slice_get (map g xs) i) ≡ pick (λ x. f (g x)) (slice_get xs i)
pick_got f g xs i = ap (λ o. pick f o) (slice_get-map g xs i) ∙ pick_map f g (slice_get xs i)

pub between_map : {A B : Type 0} (f : A → B) (from to : ℕ) (xs : List A) → between from to (map f xs) ≡ map f (between from to xs)
between_map f from to xs = ap (λ ys. take (to - from) ys) (drop-map f from xs) ∙ take-map f (to - from) (drop from xs)

-- ---- nodes

-- what was found of a node that tells this
pub record IsNode (es : Entries) (ds : List Declaration) (others : List (List ℕ)) (p : Place) (x : Fact) : Type 0 where
  pub uses : map (found_in es) (uses_at p) ≡ declared_each ds x.uses
  pub kind : p.1.1.kind ≡ x.kind
  pub classes : classes_at p ≡ numbers_of others x.declares

abbrev pub IsNodeIf : Entries → List Declaration → List (List ℕ) → Option Place → Option Fact → Type 0
IsNodeIf es ds others None None = Unit {0}
IsNodeIf es ds others None (Some x) = ⊥
IsNodeIf es ds others (Some p) None = ⊥
IsNodeIf es ds others (Some p) (Some x) = IsNode es ds others p x

-- what a file's lists are, as those of what its nodes tell
pub record AreLists (es : Entries) (ds : List Declaration) (others : List (List ℕ)) (v : FileNames) (flat : Flat) : Type 0 where
  pub uses : map (found_in es) v.uses.items ≡ declared_each ds flat.uses
  pub classes : v.classes.items ≡ numbers_of others flat.declares

node_is : (es : Entries) (ds : List Declaration) (others : List (List ℕ)) (v : FileNames) (flat : Flat) (from : Ends) (n : NodeFact) (x : Fact) →
    AreLists es ds others v flat → node_in flat n.kind from n.ends ≡ named_of x → IsNode es ds others (v, (from, n)) x
node_is es ds others v flat from n x l h = record {
  uses = sym (between_map (found_in es) from.uses n.ends.uses v.uses.items)
      ∙ ap (λ (ys : List (List NodeRef)). between from.uses n.ends.uses ys) l.uses
      ∙ between_map (λ u. declared_by u ds) from.uses n.ends.uses flat.uses
      ∙ ap (λ (y : Named). declared_each ds y.uses) h;
  kind = ap (λ (y : Named). y.kind) h;
  classes = ap (λ (ys : List (Option ℕ)). between from.declares n.ends.declares ys) l.classes
      ∙ between_map (λ (y : Name). number_of others y.text) from.declares n.ends.declares flat.declares
      ∙ ap (λ (y : Named). numbers_of others y.declares) h;
}

abbrev pub first_or : Named → List Named → Named
first_or d [] = d
first_or d (x ∷ xs) = x

abbrev pub behind : List Named → List Named
behind [] = []
behind (x ∷ xs) = xs

abbrev pub is_there : List Named → Type 0
is_there [] = ⊥
is_there (x ∷ xs) = Unit {0}

nodes_are : (es : Entries) (ds : List Declaration) (others : List (List ℕ)) (v : FileNames) (flat : Flat) (from : Ends) (ns : List NodeFact) (xs : List Fact) →
    AreLists es ds others v flat → nodes_in flat from ns ≡ map named_of xs → (i : ℕ) →
    IsNodeIf es ds others (option_map (λ r. (v, r)) (slice_get (ranged from ns) i)) (slice_get xs i)
nodes_are es ds others v flat from [] [] l h i = tt
nodes_are es ds others v flat from [] (x ∷ xs) l h i = absurd (subst is_there (sym h) tt)
nodes_are es ds others v flat from (n ∷ ns) [] l h i = absurd (subst is_there h tt)
nodes_are es ds others v flat from (n ∷ ns) (x ∷ xs) l h zero =
    node_is es ds others v flat from n x l (ap (λ (ys : List Named). first_or (named_of x) ys) h)
nodes_are es ds others v flat from (n ∷ ns) (x ∷ xs) l h (suc i) =
    nodes_are es ds others v flat n.ends ns xs l (ap (λ (ys : List Named). behind ys) h) i

-- ---- files

-- the place of a node in the file with a number
abbrev pub place_of : List FileNames → ℕ → ℕ → Option Place
place_of rows f n = pick_one (λ v. place_in v n) (slice_get rows f)

-- the node with a number, if there is such a file
abbrev pub fact_from : Option (List Fact) → ℕ → Option Fact
fact_from o n = elim o [ None ↦ None | Some xs ↦ slice_get xs n ]

files_are : (es : Entries) (ds : List Declaration) (others : List (List ℕ)) (rows : List FileNames) (t : Table) → AreFiles es ds others rows t →
    (f n : ℕ) → IsNodeIf es ds others (place_of rows f n) (fact_from (slice_get t f) n)
files_are es ds others [] [] h f n = tt
files_are es ds others [] (xs ∷ t) h f n = absurd h
files_are es ds others (v ∷ vs) [] h f n = absurd h
files_are es ds others (v ∷ vs) (xs ∷ t) h zero n =
    nodes_are es ds others v h.0.flat start v.nodes.items xs (record { uses = h.0.uses; classes = h.0.classes }) h.0.nodes n
files_are es ds others (v ∷ vs) (xs ∷ t) h (suc f) n = files_are es ds others vs t h.1 f n

-- ---- uses

-- what a node's name stands for, if there is such a node
abbrev pub use_from : List Declaration → Option Fact → ℕ → List NodeRef
use_from ds o n = elim o [
  | None ↦ []
  | Some x ↦ (elim (slice_get x.uses n) [ None ↦ [] | Some u ↦ declared_by u ds ])
]

used_are : (ds : List Declaration) (o : Option Use) → pick (λ u. declared_by u ds) o ≡ (elim o [ None ↦ [] | Some u ↦ declared_by u ds ])
used_are ds None = refl
used_are ds (Some u) = refl

reads_if : (es : Entries) (ds : List Declaration) (others : List (List ℕ)) (o : Option Place) (q : Option Fact) → IsNodeIf es ds others o q → (n : ℕ) →
    pick (λ p. pick (found_in es) (slice_get (uses_at p) n)) o ≡ use_from ds q n
reads_if es ds others None None h n = refl
reads_if es ds others None (Some x) h n = absurd h
reads_if es ds others (Some p) None h n = absurd h
reads_if es ds others (Some p) (Some x) h n =
    sym (pick_got (λ (ns : List NodeRef). ns) (found_in es) (uses_at p) n)
    ∙ ap (λ (l : List (List NodeRef)). pick (λ (ns : List NodeRef). ns) (slice_get l n)) h.uses
    ∙ pick_got (λ (ns : List NodeRef). ns) (λ u. declared_by u ds) x.uses n
    ∙ used_are ds (slice_get x.uses n)

-- what is read is what nodes use
pub reads_are : (es : Entries) (rows : List FileNames) (t : Table) (ds : List Declaration) (others : List (List ℕ)) (at : NodeRef) (n : ℕ) →
    AreFiles es ds others rows t → ds ≡ all_declared t → read_in es rows at n ≡ declarations t at n
reads_are es rows t ds others at n h e =
    reads_if es ds others (place_at rows at) (fact_at t at) (files_are es ds others rows t h at.file at.node) n
    ∙ ap (λ (xs : List Declaration). use_from xs (fact_at t at) n) e

-- ---- classes

abbrev pub class_from : List (List ℕ) → Option Fact → Option ℕ
class_from others o = elim o [
  | None ↦ None
  | Some x ↦ if is_class_like x.kind then first_number others x.declares else None
]

first_numbers : (others : List (List ℕ)) (names : List Name) → first_class (numbers_of others names) ≡ first_number others names
first_numbers others [] = refl
first_numbers others (n ∷ ns) = refl

classes_if : (es : Entries) (ds : List Declaration) (others : List (List ℕ)) (o : Option Place) (q : Option Fact) → IsNodeIf es ds others o q →
    pick_one (λ p. class_of p.1.1.kind (classes_at p)) o ≡ class_from others q
classes_if es ds others None None h = refl
classes_if es ds others None (Some x) h = absurd h
classes_if es ds others (Some p) None h = absurd h
classes_if es ds others (Some p) (Some x) h =
    ap (λ (k : NodeKind). class_of k (classes_at p)) h.kind
    ∙ ap (λ (cs : List (Option ℕ)). class_of x.kind cs) h.classes
    ∙ ap (λ (c : Option ℕ). if is_class_like x.kind then c else None) (first_numbers others x.declares)

-- the numbers that are read are those of the classes
pub classes_are : (es : Entries) (rows : List FileNames) (t : Table) (ds : List Declaration) (others : List (List ℕ)) (at : NodeRef) →
    AreFiles es ds others rows t → class_in rows at ≡ class_number t others at
classes_are es rows t ds others at h = classes_if es ds others (place_at rows at) (fact_at t at) (files_are es ds others rows t h at.file at.node)

-- ---- places

take_at : {A : Type 0} (k : ℕ) (ys : List A) (n : ℕ) → n < k → slice_get (take k ys) n ≡ slice_get ys n
take_at zero ys n h = absurd (none_below n h)
  where
    none_below : (m : ℕ) → m < zero → ⊥
    none_below m l = omega (arith, l)
take_at (suc k) [] n h = refl
take_at (suc k) (y ∷ ys) zero h = refl
take_at (suc k) (y ∷ ys) (suc n) h = take_at k ys n (omega (arith, h))

take_past : {A : Type 0} (k : ℕ) (ys : List A) (n : ℕ) → k ≤ n → slice_get (take k ys) n ≡ None
take_past zero ys n h = refl
take_past (suc k) [] n h = refl
take_past (suc k) (y ∷ ys) zero h = absurd (past_none k h)
  where
    past_none : (m : ℕ) → suc m ≤ zero → ⊥
    past_none m l = omega (arith, l)
take_past (suc k) (y ∷ ys) (suc n) h = take_past k ys n (omega (arith, h))

drop_at : {A : Type 0} (k : ℕ) (xs : List A) (n : ℕ) → slice_get (drop k xs) n ≡ slice_get xs (k + n)
drop_at zero xs n = ap (λ (m : ℕ). slice_get xs m) (same n)
  where
    same : (m : ℕ) → m ≡ zero + m
    same m = omega arith
drop_at (suc k) [] n = refl
drop_at (suc k) (x ∷ xs) n = drop_at k xs n ∙ ap (λ (m : ℕ). slice_get (x ∷ xs) m) (more k n)
  where
    more : (a b : ℕ) → suc (a + b) ≡ suc a + b
    more a b = omega arith

-- an item between two places
pub item_is : {A : Type 0} (from to : ℕ) (xs : List A) (n : ℕ) → from + n < to → slice_get (between from to xs) n ≡ slice_get xs (from + n)
item_is from to xs n h = take_at (to - from) (drop from xs) n (omega (arith, h)) ∙ drop_at from xs n

pub item_none : {A : Type 0} (from to : ℕ) (xs : List A) (n : ℕ) → to ≤ from + n → slice_get (between from to xs) n ≡ None
item_none from to xs n h = take_past (to - from) (drop from xs) n (omega (arith, h))

-- a node and the one before it
pub ranged_first : (from : Ends) (ns : List NodeFact) (n : NodeFact) → slice_get ns zero ≡ Some n → slice_get (ranged from ns) zero ≡ Some (from, n)
ranged_first from [] n h = absurd (none_some h)
  where
    none_some : None ≡ Some n → ⊥
    none_some e = cc
ranged_first from (m ∷ ns) n h = ap (λ (o : Option NodeFact). option_map (λ (x : NodeFact). (from, x)) o) h

pub ranged_next : (from : Ends) (ns : List NodeFact) (k : ℕ) (m n : NodeFact) → slice_get ns k ≡ Some m → slice_get ns (suc k) ≡ Some n →
    slice_get (ranged from ns) (suc k) ≡ Some (m.ends, n)
ranged_next from [] k m n g h = absurd (none_some g)
  where
    none_some : None ≡ Some m → ⊥
    none_some e = cc
ranged_next from (x ∷ ns) zero m n g h =
    ranged_first x.ends ns n h ∙ ap (λ (o : Option NodeFact). option_map (λ (y : NodeFact). (y.ends, n)) o) g
ranged_next from (x ∷ ns) (suc k) m n g h = ranged_next x.ends ns k m n g h

pub ranged_none : (from : Ends) (ns : List NodeFact) (k : ℕ) → slice_get ns k ≡ None → slice_get (ranged from ns) k ≡ None
ranged_none from [] k h = refl
ranged_none from (x ∷ ns) zero h = ap (λ (o : Option NodeFact). option_map (λ (y : NodeFact). (from, y)) o) h
ranged_none from (x ∷ ns) (suc k) h = ranged_none x.ends ns k h

-- a node behind another, by its number
pub at_next : (ns : List NodeFact) (k : ℕ) (m n : NodeFact) → (k ≡ 0 → ⊥) → slice_get ns (k - 1) ≡ Some m → slice_get ns k ≡ Some n →
    slice_get (ranged start ns) k ≡ Some (m.ends, n)
at_next ns zero m n h f g = absurd (h refl)
at_next ns (suc k) m n h f g = ranged_next start ns k m n (ap (λ (i : ℕ). slice_get ns i) (less_one k) ∙ f) g
  where
    less_one : (i : ℕ) → i ≡ suc i - 1
    less_one i = omega arith

pub none_behind : {A : Type 0} (xs : List A) (k : ℕ) → slice_get xs k ≡ None → slice_get xs (suc k) ≡ None
none_behind [] k h = refl
none_behind (x ∷ xs) zero h = absurd (some_none h)
  where
    some_none : Some x ≡ None → ⊥
    some_none e = cc
none_behind (x ∷ xs) (suc k) h = none_behind xs k h
