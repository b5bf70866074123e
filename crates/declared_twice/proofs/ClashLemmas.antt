-- Declarations that clash.
use Rattle.std.proofs.Common.{
  ◌≡◌,
  ◌<◌,
  ◌≤◌,
  inl,
  inr,
  ℕ,
  zero,
  suc,
  ◌+◌,
  Bool,
  true,
  ◌&&◌,
  List,
  [],
  ◌∷◌,
  ◌++◌,
  length,
  refl,
  sym,
  ap,
  subst,
  ◌∙◌,
  slice_get,
  Some,
  None,
  Option,
  arith,
}
use Rattle.std.specs.Option.{ForSome}
use Rattle.std.specs.Str.{bytes_eq}
use Rattle.std.specs.Cmp.Lexicographic.{bytes_decides}
use Rattle.std.proofs.lemmas.Bool.{and_parts, and_from}
use Rattle.std.proofs.lemmas.List.{append-nil}
use Rattle.std.proofs.lemmas.Option.{none-some, same_Some, cond_some}
use Rattle.node_names.specs.declared.name.Name.{Name}
use Rattle.node_names.specs.declared.name_sort.NameSort.{NameSort}
use Rattle.node_names.specs.declared.name_sort.NameSort.TheVariants as sort
use Rattle.node_names.specs.Facts.{Fact}
use Rattle.file_declarations.specs.declared.node_ref.NodeRef.{NodeRef}
use Rattle.file_declarations.specs.declared.declaration.Declaration.{Declaration}
use Rattle.file_declarations.specs.declared.told.Told.{Told}
use Rattle.file_declarations.specs.declared.told.Told.TheVariants.{Declares, Extends, Includes}
use Rattle.file_declarations.specs.Told.{declared_told, extends_told, parents_told, path_told}
use Rattle.file_declarations.specs.FactsTold.{fact_told, facts_told}
use Rattle.graph_search.specs.Graph.{Graph}
use Rattle.graph_search.specs.Marks.{AreBelow}
use Rattle.program_names.specs.Entries.{paths_of}
use Rattle.program_names.specs.Files.{Files}
use Rattle.program_names.specs.Table.{Table, table_of, declared_at, in_nodes, in_files, all_declared, is_declared_once, same_sort, Clash, IsBefore}
use Rattle.program_names.specs.Told.{told_from, all_told}
use Rattle.declared_twice.specs.FirstPair.{IsFirstPair}
use Rattle.declared_twice.specs.FirstTwice.{IsFirstOf, IsFirstTwice}
use Rattle.declared_twice.specs.declared.twice.Twice.{Twice}
use Rattle.declared_twice.specs.Keys.{AreInFiles, AreNext, ClashAt, HasKey, HasNoNext, Key, declaration_of, declared_in, key_of}
use Rattle.declared_twice.specs.Later.{IsFirstAt}
use Rattle.declared_twice.specs.Runs.{IsRunGraph}
use Rattle.declared_twice.proofs.RunLemmas.{meet_together, together_meet}

-- ---- the declarations that are told

declared_append : (xs ys : List Told) → declared_in (xs ++ ys) ≡ declared_in xs ++ declared_in ys
declared_append [] ys = refl
declared_append (Declares d ∷ xs) ys = ap (λ (ds : List Declaration). d ∷ ds) (declared_append xs ys)
declared_append (Extends c p ∷ xs) ys = declared_append xs ys
declared_append (Includes f path ∷ xs) ys = declared_append xs ys

of_names : (at : NodeRef) (top : Bool) (ns : List Name) → declared_in (declared_told at top ns) ≡ declared_at at top ns
of_names at top [] = refl
of_names at top (n ∷ ns) = ap (λ (ds : List Declaration). record { name = n; at = at; is_top = top } ∷ ds) (of_names at top ns)

of_parents : (class : List ℕ) (ps : List (List ℕ)) → declared_in (parents_told class ps) ≡ []
of_parents class [] = refl
of_parents class (p ∷ ps) = of_parents class ps

of_extends : (ns : List Name) (ps : List (List ℕ)) → declared_in (extends_told ns ps) ≡ []
of_extends [] ps = refl
of_extends (n ∷ ns) ps = declared_append (parents_told n.text ps) (extends_told ns ps)
    ∙ ap (λ (ds : List Declaration). ds ++ declared_in (extends_told ns ps)) (of_parents n.text ps) ∙ of_extends ns ps

of_path : (f : ℕ) (o : Option (List ℕ)) → declared_in (path_told f o) ≡ []
of_path f None = refl
of_path f (Some path) = refl

of_fact : (f n : ℕ) (x : Fact) → declared_in (fact_told f n x) ≡ declared_at (record { file = f; node = n }) x.is_top x.declares
of_fact f n x =
    declared_append (declared_told at x.is_top x.declares ++ extends_told x.declares x.extends) (path_told f x.includes)
    ∙ ap (λ (ds : List Declaration). declared_in (declared_told at x.is_top x.declares ++ extends_told x.declares x.extends) ++ ds) (of_path f x.includes)
    ∙ append-nil (declared_in (declared_told at x.is_top x.declares ++ extends_told x.declares x.extends))
    ∙ declared_append (declared_told at x.is_top x.declares) (extends_told x.declares x.extends)
    ∙ ap (λ (ds : List Declaration). declared_in (declared_told at x.is_top x.declares) ++ ds) (of_extends x.declares x.extends)
    ∙ append-nil (declared_in (declared_told at x.is_top x.declares))
    ∙ of_names at x.is_top x.declares
  where
    at : NodeRef
    at = record { file = f; node = n }

of_facts : (f n : ℕ) (xs : List Fact) → declared_in (facts_told f n xs) ≡ in_nodes f n xs
of_facts f n [] = refl
of_facts f n (x ∷ xs) =
    declared_append (fact_told f n x) (facts_told f (suc n) xs)
    ∙ ap (λ (ds : List Declaration). ds ++ declared_in (facts_told f (suc n) xs)) (of_fact f n x)
    ∙ ap (λ (ds : List Declaration). declared_at (record { file = f; node = n }) x.is_top x.declares ++ ds) (of_facts f (suc n) xs)

of_files : (f : ℕ) (t : Table) → declared_in (told_from f t) ≡ in_files f t
of_files f [] = refl
of_files f (xs ∷ more) =
    declared_append (facts_told f zero xs) (told_from (suc f) more)
    ∙ ap (λ (ds : List Declaration). ds ++ declared_in (told_from (suc f) more)) (of_facts f zero xs)
    ∙ ap (λ (ds : List Declaration). in_nodes f zero xs ++ ds) (of_files (suc f) more)

pub of_all : (t : Table) → declared_in (all_told t) ≡ all_declared t
of_all t = of_files zero t

-- one more thing that is told
pub declared_more : (xs : List Told) (x : Told) (d : Declaration) → declaration_of x ≡ Some d → declared_in (xs ++ x ∷ []) ≡ declared_in xs ++ d ∷ []
declared_more xs (Declares d) e h = declared_append xs (Declares d ∷ []) ∙ ap (λ (y : Declaration). declared_in xs ++ y ∷ []) (same_Some d e h)
declared_more xs (Extends c p) e h = absurd (none-some e h)
declared_more xs (Includes f path) e h = absurd (none-some e h)

pub declared_same : (xs : List Told) (x : Told) → declaration_of x ≡ None → declared_in (xs ++ x ∷ []) ≡ declared_in xs
declared_same xs (Declares d) h = absurd (none-some d (sym h))
declared_same xs (Extends c p) h = declared_append xs (Extends c p ∷ []) ∙ append-nil (declared_in xs)
declared_same xs (Includes f path) h = declared_append xs (Includes f path ∷ []) ∙ append-nil (declared_in xs)

-- ---- the files that they stand in

-- each declaration of a list is in a file below a bound
abbrev AreBelowIn : ℕ → List Declaration → Type 0
AreBelowIn n [] = Unit {0}
AreBelowIn n (d ∷ ds) = (d.at.file < n) × AreBelowIn n ds

below_append : (n : ℕ) (xs ys : List Declaration) → AreBelowIn n xs → AreBelowIn n ys → AreBelowIn n (xs ++ ys)
below_append n [] ys h k = k
below_append n (x ∷ xs) ys h k = (h.0, below_append n xs ys h.1 k)

below_names : (n f m : ℕ) (top : Bool) (ns : List Name) → f < n → AreBelowIn n (declared_at (record { file = f; node = m }) top ns)
below_names n f m top [] l = tt
below_names n f m top (x ∷ xs) l = (l, below_names n f m top xs l)

below_nodes : (n f m : ℕ) (xs : List Fact) → f < n → AreBelowIn n (in_nodes f m xs)
below_nodes n f m [] l = tt
below_nodes n f m (x ∷ xs) l = below_append n (declared_at (record { file = f; node = m }) x.is_top x.declares)
    (in_nodes f (suc m) xs) (below_names n f m x.is_top x.declares l) (below_nodes n f (suc m) xs l)

below_files : (n f : ℕ) (t : Table) → f + length t ≤ n → AreBelowIn n (in_files f t)
below_files n f [] l = tt
below_files n f (xs ∷ more) l = below_append n (in_nodes f zero xs) (in_files (suc f) more)
    (below_nodes n f zero xs (omega (arith, l))) (below_files n (suc f) more (omega (arith, l)))

below_at : (n : ℕ) (ds : List Declaration) → AreBelowIn n ds → AreInFiles n ds
below_at n [] h j d e = absurd (none-some d e)
below_at n (x ∷ xs) h zero d e = subst (λ (y : Declaration). y.at.file < n) (same_Some x d e) h.0
below_at n (x ∷ xs) h (suc j) d e = below_at n xs h.1 j d e

pub in_files_of : (t : Table) → AreInFiles (length t) (all_declared t)
in_files_of t = below_at (length t) (all_declared t) (below_files (length t) 0 t (omega arith))

-- ---- keys

sort_same : (a b : NameSort) → same_sort a b ≡ true → a ≡ b
sort_same sort.Function sort.Function e = refl
sort_same sort.Class sort.Class e = refl
sort_same sort.Constant sort.Constant e = refl
sort_same sort.Method sort.Method e = refl
sort_same sort.ClassConstant sort.ClassConstant e = refl
sort_same sort.Property sort.Property e = refl
sort_same a b e = absurd (cc)

sort_itself : (a : NameSort) → same_sort a a ≡ true
sort_itself sort.Function = refl
sort_itself sort.Class = refl
sort_itself sort.Constant = refl
sort_itself sort.Method = refl
sort_itself sort.ClassConstant = refl
sort_itself sort.Property = refl

abbrev pair_of : NameSort → List ℕ → Key
pair_of s w = (s, w)

-- what a key says of a declaration
key_says : (d : Declaration) (k : Key) → key_of d ≡ Some k → ((d.is_top && is_declared_once d.name.sort) ≡ true) × (◌≡◌ {A = Key} (d.name.sort, d.name.text) k)
key_says d k e = cond_some (d.is_top && is_declared_once d.name.sort) (d.name.sort, d.name.text) k e

key_is : (d : Declaration) → d.is_top ≡ true → is_declared_once d.name.sort ≡ true → key_of d ≡ Some (d.name.sort, d.name.text)
key_is d top once = let both = and_from d.is_top (is_declared_once d.name.sort) top once in rw both refl

-- a clash of keys is a clash
pub clash_from : (fs : Files) (entries : List ℕ) (prepend : Option ℕ) (g : Graph) (i j : ℕ)
    → ForSome prepend (λ p. p < length fs) → AreBelow entries (length fs) → IsRunGraph fs entries prepend g →
    ClashAt (all_declared (table_of fs)) g entries i j → Clash (paths_of fs) (table_of fs) entries prepend i j
clash_from fs entries prepend g i j v w r c = record {
  order = c.order;
  first = c.first.declaration;
  second = c.second.declaration;
  is_first = c.first.at;
  is_second = c.second.at;
  once = once.1;
  same = and_from (same_sort a.name.sort b.name.sort) (bytes_eq a.name.text b.name.text)
      (subst (λ (s : NameSort). same_sort a.name.sort s ≡ true) (ap (λ (k : Key). k.0) keys) (sort_itself a.name.sort))
      ((bytes_decides a.name.text b.name.text).1 (ap (λ (k : Key). k.1) keys));
  tops = (once.0, top.0);
  together = meet_together fs entries prepend g a.at.file b.at.file v w r c.meets;
}
  where
    a : Declaration
    a = c.first.declaration

    b : Declaration
    b = c.second.declaration

    first : ((a.is_top && is_declared_once a.name.sort) ≡ true) × (◌≡◌ {A = Key} (a.name.sort, a.name.text) c.key)
    first = key_says a c.key c.first.key

    second : ((b.is_top && is_declared_once b.name.sort) ≡ true) × (◌≡◌ {A = Key} (b.name.sort, b.name.text) c.key)
    second = key_says b c.key c.second.key

    keys : ◌≡◌ {A = Key} (a.name.sort, a.name.text) (b.name.sort, b.name.text)
    keys = first.1 ∙ sym second.1

    once : (a.is_top ≡ true) × (is_declared_once a.name.sort ≡ true)
    once = and_parts a.is_top (is_declared_once a.name.sort) first.0

    top : (b.is_top ≡ true) × (is_declared_once b.name.sort ≡ true)
    top = and_parts b.is_top (is_declared_once b.name.sort) second.0

-- and the other way round
pub clash_to : (fs : Files) (entries : List ℕ) (prepend : Option ℕ) (g : Graph) (i j : ℕ) → IsRunGraph fs entries prepend g →
    Clash (paths_of fs) (table_of fs) entries prepend i j → ClashAt (all_declared (table_of fs)) g entries i j
clash_to fs entries prepend g i j r c = record {
  order = c.order;
  key = (a.name.sort, a.name.text);
  first = record { declaration = a; at = c.is_first; key = key_is a c.tops.0 c.once };
  second = record { declaration = b; at = c.is_second; key = key_is b c.tops.1 once ∙ ap (λ (k : Key). Some k) (sym keys) };
  meets = together_meet fs entries prepend g a.at.file b.at.file r c.together;
}
  where
    a : Declaration
    a = c.first

    b : Declaration
    b = c.second

    same : (same_sort a.name.sort b.name.sort ≡ true) × (bytes_eq a.name.text b.name.text ≡ true)
    same = and_parts (same_sort a.name.sort b.name.sort) (bytes_eq a.name.text b.name.text) c.same

    sorts : a.name.sort ≡ b.name.sort
    sorts = sort_same a.name.sort b.name.sort same.0

    texts : a.name.text ≡ b.name.text
    texts = (bytes_decides a.name.text b.name.text).0 same.1

    keys : ◌≡◌ {A = Key} (a.name.sort, a.name.text) (b.name.sort, b.name.text)
    keys = ap (λ (s : NameSort). pair_of s a.name.text) sorts ∙ ap (λ (w : List ℕ). pair_of b.name.sort w) texts

    once : is_declared_once b.name.sort ≡ true
    once = subst (λ (s : NameSort). is_declared_once s ≡ true) sorts c.once

-- ---- the first pair

-- a first second one for the first number that has one
pub first_pair_is : (R : ℕ → ℕ → Type 0) (i j : ℕ) → ((k l : ℕ) → k < i → R k l → ⊥) → ((l : ℕ) → R i l → i + 1 ≤ l)
    → IsFirstAt (R i) (i + 1) (Some j) → IsFirstPair R (Some (i, j))
first_pair_is R i j none order f = (f.1, λ k l x b. before k l x b)
  where
    before : (k l : ℕ) → R k l → IsBefore (k, l) (i, j) → ⊥
    before k l x (inl m) = none k l m x
    before k l x (inr m) = let y = subst (λ (n : ℕ). R n l) m.0 x in f.2 l (order l y) m.1 y

-- ---- what is answered

-- the keys of two declarations that clash
clash_keys : (fs : Files) (entries : List ℕ) (prepend : Option ℕ) (i j : ℕ) → Clash (paths_of fs) (table_of fs) entries prepend i j →
    (k : Key) × HasKey (all_declared (table_of fs)) k i × HasKey (all_declared (table_of fs)) k j
clash_keys fs entries prepend i j c =
    let same = and_parts (same_sort c.first.name.sort c.second.name.sort) (bytes_eq c.first.name.text c.second.name.text) c.same in
    let sorts = sort_same c.first.name.sort c.second.name.sort same.0 in
    let texts = (bytes_decides c.first.name.text c.second.name.text).0 same.1 in
    let once = subst (λ (s : NameSort). is_declared_once s ≡ true) sorts c.once in (
      pair_of c.first.name.sort c.first.name.text,
      record { declaration = c.first; at = c.is_first; key = key_is c.first c.tops.0 c.once },
      record {
        declaration = c.second;
        at = c.is_second;
        key = key_is c.second c.tops.1 once ∙ ap (λ (k : Key). Some k)
            (sym (ap (λ (s : NameSort). pair_of s c.first.name.text) sorts
            ∙ ap (λ (w : List ℕ). pair_of c.second.name.sort w) texts));
      },
    )

-- without a next declaration of a name nothing clashes
pub none_without_next : (fs : Files) (entries : List ℕ) (prepend : Option ℕ) (ds : List Declaration)
    (ns : List (Option ℕ)) → ds ≡ all_declared (table_of fs) → AreNext ds ns → HasNoNext ns →
    (i j : ℕ) → Clash (paths_of fs) (table_of fs) entries prepend i j → ⊥
none_without_next fs entries prepend ds ns e a none i j c = at (a.each i k.0 (there i k.1))
  where
    k : (k : Key) × HasKey (all_declared (table_of fs)) k i × HasKey (all_declared (table_of fs)) k j
    k = clash_keys fs entries prepend i j c

    there : (n : ℕ) → HasKey (all_declared (table_of fs)) k.0 n → HasKey ds k.0 n
    there n h = subst (λ (xs : List Declaration). HasKey xs k.0 n) (sym e) h

    at : (n : Option ℕ) × (slice_get ns i ≡ Some n) × IsFirstAt (HasKey ds k.0) (i + 1) n → ⊥
    at (None, q, f) = f j (omega (arith, c.order)) (there j k.2)
    at (Some m, q, f) = none i m q

-- the first two declarations whose keys clash are the first that clash
pub first_twice_is : (fs : Files) (entries : List ℕ) (prepend : Option ℕ) (g : Graph) (ds : List Declaration)
    (o : Option Twice) → ForSome prepend (λ p. p < length fs) → AreBelow entries (length fs) →
    IsRunGraph fs entries prepend g → ds ≡ all_declared (table_of fs) → IsFirstOf ds (ClashAt ds g entries) o → IsFirstTwice fs entries prepend o
first_twice_is fs entries prepend g ds o v w r e h = at o (subst (λ (xs : List Declaration). IsFirstOf xs (ClashAt xs g entries) o) e h)
  where
    at : (t : Option Twice) → IsFirstOf (all_declared (table_of fs)) (ClashAt (all_declared (table_of fs)) g entries) t → IsFirstTwice fs entries prepend t
    at None k = λ i j c. k i j (clash_to fs entries prepend g i j r c)
    at (Some t) k = record {
      i = k.0;
      j = k.1;
      clash = record {
        is = clash_from fs entries prepend g k.0 k.1 v w r k.2.0;
        first = λ a b c before. k.2.1 a b (clash_to fs entries prepend g a b r c) before;
      };
      is_first = k.3;
      is_second = k.4;
    }
