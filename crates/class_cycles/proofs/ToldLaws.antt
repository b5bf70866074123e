-- What is told of classes that extend others is what the table has of them.
use Rattle.std.proofs.Common.{◌≡◌, ◌⊎◌, inl, inr, ℕ, zero, suc, Bool, true, ◌&&◌, List, [], ◌∷◌, ◌++◌, refl, sym, subst, ap, ◌∙◌}
use Rattle.std.specs.Prelude.{Contains, slice_get, Option, Some, None}
use Rattle.std.proofs.lemmas.Option.{same_Some, none-some}
use Rattle.std.proofs.lemmas.List.Elements.{Contains-append_left, Contains-append_right, Contains-append_cases}
use Rattle.php_tree.specs.declared.kind.NodeKind.{NodeKind}
use Rattle.php_tree.specs.declared.kind.NodeKind.TheVariants as kind
use Rattle.php_tree.specs.Tree.{Forest, none, leaf, node}
use Rattle.php_rows.specs.File.{file_in}
use Rattle.node_names.specs.declared.name.Name.{Name}
use Rattle.node_names.specs.declared.name_sort.NameSort.TheVariants as sort
use Rattle.node_names.specs.Compared.{names_of, name}
use Rattle.node_names.specs.Slots.{Standing, in_file, stands_within, stands_beside}
use Rattle.node_names.specs.Facts.{Fact, fact, facts, file_facts, keeps_top}
use Rattle.file_declarations.specs.declared.node_ref.NodeRef.{NodeRef}
use Rattle.file_declarations.specs.declared.told.Told.{Told}
use Rattle.file_declarations.specs.declared.told.Told.TheVariants as told
use Rattle.file_declarations.specs.Told.{declared_told, parents_told, extends_told, path_told}
use Rattle.file_declarations.specs.FactsTold.{fact_told, facts_told}
use Rattle.program_names.specs.Files.{Files}
use Rattle.program_names.specs.Table.{Table, Extends, table_of}
use Rattle.program_names.specs.Told.{told_from, all_told}
use Rattle.class_cycles.proofs.ListLemmas.{none_in, in_first, in_rest, in_cases, from_map}

-- ---- from the table to what is told

in_parents : (x y : List ℕ) (ps : List (List ℕ)) → Contains ps y → Contains (parents_told x ps) (told.Extends x y)
in_parents x y [] c = absurd (none_in y c)
in_parents x y (p ∷ ps) c = at (λ h. in_parents x y ps h) (in_cases p ps y c)
  where
    at : (Contains ps y → Contains (parents_told x ps) (told.Extends x y)) → (p ≡ y) ⊎ Contains ps y → Contains (told.Extends x p ∷ parents_told x ps) (told.Extends x y)
    at f (inl e) = subst (λ (z : List ℕ). Contains (told.Extends x p ∷ parents_told x ps) (told.Extends x z)) e (in_first (told.Extends x p) (parents_told x ps))
    at f (inr h) = in_rest (told.Extends x p) (parents_told x ps) (told.Extends x y) (f h)

in_extends : (ns : List Name) (ps : List (List ℕ)) (n : Name) (y : List ℕ) → Contains ns n → Contains ps y → Contains (extends_told ns ps) (told.Extends n.text y)
in_extends [] ps n y c d = absurd (none_in n c)
in_extends (m ∷ ns) ps n y c d = at (λ h. in_extends ns ps n y h d) (in_cases m ns n c)
  where
    at : (Contains ns n → Contains (extends_told ns ps) (told.Extends n.text y)) → (m ≡ n) ⊎ Contains ns n
        → Contains (parents_told m.text ps ++ extends_told ns ps) (told.Extends n.text y)
    at f (inl e) = subst (λ (k : Name). Contains (parents_told m.text ps ++ extends_told ns ps) (told.Extends k.text y)) e
        (Contains-append_left (parents_told m.text ps) (extends_told ns ps) (told.Extends m.text y) (in_parents m.text y ps d))
    at f (inr h) = Contains-append_right (parents_told m.text ps) (extends_told ns ps) (told.Extends n.text y) (f h)

in_fact : (f n : ℕ) (x : Fact) (u y : List ℕ) → Contains x.declares (record { sort = sort.Class; text = u }) → Contains x.extends y → Contains (fact_told f n x) (told.Extends u y)
in_fact f n x u y c d =
    let ds = declared_told (record { file = f; node = n }) x.is_top x.declares in
    let es = extends_told x.declares x.extends in
    Contains-append_left (ds ++ es) (path_told f x.includes) (told.Extends u y)
    (Contains-append_right ds es (told.Extends u y) (in_extends x.declares x.extends (record { sort = sort.Class; text = u }) y c d))

in_facts : (f m n : ℕ) (xs : List Fact) (x : Fact) (y : Told) → slice_get xs n ≡ Some x → ((k : ℕ) → Contains (fact_told f k x) y) → Contains (facts_told f m xs) y
in_facts f m n [] x y e c = absurd (none-some x e)
in_facts f m zero (z ∷ xs) x y e c =
    Contains-append_left (fact_told f m z) (facts_told f (suc m) xs) y (subst (λ (w : Fact). Contains (fact_told f m w) y) (sym (same_Some z x e)) (c m))
in_facts f m (suc n) (z ∷ xs) x y e c = Contains-append_right (fact_told f m z) (facts_told f (suc m) xs) y (in_facts f (suc m) n xs x y e c)

in_told : (g n : ℕ) (t : Table) (xs : List Fact) (y : Told) → slice_get t n ≡ Some xs → ((f : ℕ) → Contains (facts_told f zero xs) y) → Contains (told_from g t) y
in_told g n [] xs y e c = absurd (none-some xs e)
in_told g zero (z ∷ t) xs y e c = Contains-append_left (facts_told g zero z) (told_from (suc g) t) y
    (subst (λ (w : List Fact). Contains (facts_told g zero w) y) (sym (same_Some z xs e)) (c g))
in_told g (suc n) (z ∷ t) xs y e c = Contains-append_right (facts_told g zero z) (told_from (suc g) t) y (in_told (suc g) n t xs y e c)

pub told_of : (t : Table) (u y : List ℕ) → Extends t u y → Contains (all_told t) (told.Extends u y)
told_of t u y e = at (slice_get t e.at.file) refl e.is
  where
    at : (o : Option (List Fact)) → slice_get t e.at.file ≡ o → (elim o [ None ↦ None | Some xs ↦ slice_get xs e.at.node ]) ≡ Some e.fact → Contains (all_told t) (told.Extends u y)
    at None q h = absurd (none-some e.fact h)
    at (Some xs) q h = in_told zero e.at.file t xs (told.Extends u y) q
        (λ f. in_facts f zero e.at.node xs e.fact (told.Extends u y) h
        (λ k. in_fact f k e.fact u y e.declares e.extends))

-- ---- what extends anything is a class

abbrev IsClassy : Fact → Type 0
IsClassy x = (y : List ℕ) → Contains x.extends y → (n : Name) → Contains x.declares n → n.sort ≡ sort.Class

named_class : (fulls : List (List ℕ)) (n : Name) → Contains (names_of sort.Class fulls) n → n.sort ≡ sort.Class
named_class fulls n c = let o = from_map (name sort.Class) fulls n c in ap (λ (k : Name). k.sort) (sym o.is)

classy : (k : NodeKind) (c : Forest) (p : Standing) (top : Bool) → IsClassy (fact k c p top)
classy kind.Class c p top = λ y e n d. named_class _ n d
classy kind.Interface c p top = λ y e n d. named_class _ n d
classy k c p top = λ y e n d. absurd (none_in y e)

abbrev AreClassy : List Fact → Type 0
AreClassy xs = (x : Fact) → Contains xs x → IsClassy x

facts_classy : (p : Standing) (top : Bool) (g : Forest) → AreClassy (facts p top g)
facts_classy p top none = λ x c. absurd (none_in x c)
facts_classy p top (leaf t g) = facts_classy p top g
facts_classy p top (node k c g) =
    λ x h. at x (facts_classy (stands_within k c p) (keeps_top k && top) c x) (facts_classy (stands_beside k c p) top g x)
    (in_cases (fact k c p top) (facts (stands_within k c p) (keeps_top k && top) c ++ facts (stands_beside k c p) top g) x h)
  where
    inner : List Fact
    inner = facts (stands_within k c p) (keeps_top k && top) c

    behind : List Fact
    behind = facts (stands_beside k c p) top g

    either : (x : Fact) → (Contains inner x → IsClassy x) → (Contains behind x → IsClassy x) → Contains inner x ⊎ Contains behind x → IsClassy x
    either x a b (inl h) = a h
    either x a b (inr h) = b h

    at : (x : Fact) → (Contains inner x → IsClassy x) → (Contains behind x → IsClassy x) → (fact k c p top ≡ x) ⊎ Contains (inner ++ behind) x → IsClassy x
    at x a b (inl e) = subst (λ (y : Fact). IsClassy y) e (classy k c p top)
    at x a b (inr h) = either x a b (Contains-append_cases inner behind x h)

table_classy : (files : Files) (f : ℕ) (xs : List Fact) → slice_get (table_of files) f ≡ Some xs → AreClassy xs
table_classy [] f xs e = absurd (none-some xs e)
table_classy (g ∷ gs) zero xs e = subst (λ (ys : List Fact). AreClassy ys)
    (same_Some (file_facts g.0 (file_in g.1).statements) xs e)
    (facts_classy (in_file g.0) true (file_in g.1).statements)
table_classy (g ∷ gs) (suc f) xs e = table_classy gs f xs e

-- ---- from what is told to the table

no_declared : (at : NodeRef) (top : Bool) (ns : List Name) (u y : List ℕ) → Contains (declared_told at top ns) (told.Extends u y) → ⊥
no_declared at top [] u y c = none_in (told.Extends u y) c
no_declared at top (n ∷ ns) u y c = one (λ h. no_declared at top ns u y h) (in_cases first (declared_told at top ns) (told.Extends u y) c)
  where
    first : Told
    first = told.Declares (record { name = n; at = at; is_top = top })

    one : (Contains (declared_told at top ns) (told.Extends u y) → ⊥) → (first ≡ told.Extends u y) ⊎ Contains (declared_told at top ns) (told.Extends u y) → ⊥
    one f (inl e) = cc
    one f (inr h) = f h

no_path : (f : ℕ) (o : Option (List ℕ)) (u y : List ℕ) → Contains (path_told f o) (told.Extends u y) → ⊥
no_path f None u y c = none_in (told.Extends u y) c
no_path f (Some path) u y c = at (in_cases (told.Includes f path) [] (told.Extends u y) c)
  where
    at : (told.Includes f path ≡ told.Extends u y) ⊎ Contains [] (told.Extends u y) → ⊥
    at (inl e) = cc
    at (inr h) = none_in (told.Extends u y) h

-- a name with one that it extends
record Parent (ns : List Name) (ps : List (List ℕ)) (u y : List ℕ) : Type 0 where
  name : Name
  among : Contains ns name
  is : name.text ≡ u
  parent : Contains ps y

from_parents : (x : List ℕ) (ps : List (List ℕ)) (u y : List ℕ) → Contains (parents_told x ps) (told.Extends u y) → (x ≡ u) × Contains ps y
from_parents x [] u y c = absurd (none_in (told.Extends u y) c)
from_parents x (p ∷ ps) u y c = at (λ h. from_parents x ps u y h) (in_cases (told.Extends x p) (parents_told x ps) (told.Extends u y) c)
  where
    firsts : told.Extends x p ≡ told.Extends u y → x ≡ u
    firsts e = cc

    seconds : told.Extends x p ≡ told.Extends u y → p ≡ y
    seconds e = cc

    at : (Contains (parents_told x ps) (told.Extends u y) → (x ≡ u) × Contains ps y) →
        (told.Extends x p ≡ told.Extends u y) ⊎ Contains (parents_told x ps) (told.Extends u y) → (x ≡ u) × Contains (p ∷ ps) y
    at f (inl e) = (firsts e, subst (λ (z : List ℕ). Contains (p ∷ ps) z) (seconds e) (in_first p ps))
    at f (inr h) = let r = f h in (r.0, in_rest p ps y r.1)

from_extends : (ns : List Name) (ps : List (List ℕ)) (u y : List ℕ) → Contains (extends_told ns ps) (told.Extends u y) → Parent ns ps u y
from_extends [] ps u y c = absurd (none_in (told.Extends u y) c)
from_extends (n ∷ ns) ps u y c = at (λ h. from_extends ns ps u y h) (Contains-append_cases (parents_told n.text ps) (extends_told ns ps) (told.Extends u y) c)
  where
    at : (Contains (extends_told ns ps) (told.Extends u y) → Parent ns ps u y) →
        Contains (parents_told n.text ps) (told.Extends u y) ⊎ Contains (extends_told ns ps) (told.Extends u y) → Parent (n ∷ ns) ps u y
    at f (inl h) = let r = from_parents n.text ps u y h in record { name = n; among = in_first n ns; is = r.0; parent = r.1 }
    at f (inr h) = let r = f h in record { name = r.name; among = in_rest n ns r.name r.among; is = r.is; parent = r.parent }

from_fact : (f n : ℕ) (x : Fact) (u y : List ℕ) → Contains (fact_told f n x) (told.Extends u y) → Parent x.declares x.extends u y
from_fact f n x u y c = at (Contains-append_cases (ds ++ es) ys (told.Extends u y) c)
  where
    ds : List Told
    ds = declared_told (record { file = f; node = n }) x.is_top x.declares

    es : List Told
    es = extends_told x.declares x.extends

    ys : List Told
    ys = path_told f x.includes

    before : Contains ds (told.Extends u y) ⊎ Contains es (told.Extends u y) → Parent x.declares x.extends u y
    before (inl h) = absurd (no_declared (record { file = f; node = n }) x.is_top x.declares u y h)
    before (inr h) = from_extends x.declares x.extends u y h

    at : Contains (ds ++ es) (told.Extends u y) ⊎ Contains ys (told.Extends u y) → Parent x.declares x.extends u y
    at (inl h) = before (Contains-append_cases ds es (told.Extends u y) h)
    at (inr h) = absurd (no_path f x.includes u y h)

-- the node of a file that tells it
record Teller (xs : List Fact) (u y : List ℕ) : Type 0 where
  node : ℕ
  fact : Fact
  is : slice_get xs node ≡ Some fact
  tells : Parent fact.declares fact.extends u y

from_facts : (f n : ℕ) (xs : List Fact) (u y : List ℕ) → Contains (facts_told f n xs) (told.Extends u y) → Teller xs u y
from_facts f n [] u y c = absurd (none_in (told.Extends u y) c)
from_facts f n (x ∷ xs) u y c = at (λ h. from_facts f (suc n) xs u y h) (Contains-append_cases (fact_told f n x) (facts_told f (suc n) xs) (told.Extends u y) c)
  where
    at : (Contains (facts_told f (suc n) xs) (told.Extends u y) → Teller xs u y) →
        Contains (fact_told f n x) (told.Extends u y) ⊎ Contains (facts_told f (suc n) xs) (told.Extends u y) → Teller (x ∷ xs) u y
    at g (inl h) = record { node = zero; fact = x; is = refl; tells = from_fact f n x u y h }
    at g (inr h) = let r = g h in record { node = suc r.node; fact = r.fact; is = r.is; tells = r.tells }

-- the file that has it
record Place (t : Table) (u y : List ℕ) : Type 0 where
  file : ℕ
  facts : List Fact
  is : slice_get t file ≡ Some facts
  teller : Teller facts u y

from_told : (g : ℕ) (t : Table) (u y : List ℕ) → Contains (told_from g t) (told.Extends u y) → Place t u y
from_told g [] u y c = absurd (none_in (told.Extends u y) c)
from_told g (xs ∷ t) u y c = at (λ h. from_told (suc g) t u y h) (Contains-append_cases (facts_told g zero xs) (told_from (suc g) t) (told.Extends u y) c)
  where
    at : (Contains (told_from (suc g) t) (told.Extends u y) → Place t u y) →
        Contains (facts_told g zero xs) (told.Extends u y) ⊎ Contains (told_from (suc g) t) (told.Extends u y) → Place (xs ∷ t) u y
    at f (inl h) = record { file = zero; facts = xs; is = refl; teller = from_facts g zero xs u y h }
    at f (inr h) = let r = f h in record { file = suc r.file; facts = r.facts; is = r.is; teller = r.teller }

in_slice : {X : Type 0} (xs : List X) (k : ℕ) (x : X) → slice_get xs k ≡ Some x → Contains xs x
in_slice [] k x e = absurd (none-some x e)
in_slice {X} (z ∷ xs) zero x e = subst (λ (w : X). Contains (z ∷ xs) w) (same_Some z x e) (in_first z xs)
in_slice (z ∷ xs) (suc k) x e = in_rest z xs x (in_slice xs k x e)

pub extends_of : (files : Files) (u y : List ℕ) → Contains (all_told (table_of files)) (told.Extends u y) → Extends (table_of files) u y
extends_of files u y c = at (from_told zero (table_of files) u y c)
  where
    at : Place (table_of files) u y → Extends (table_of files) u y
    at p =
        let q = p.teller in
        let r = q.tells in
        let class : r.name.sort ≡ sort.Class = table_classy files p.file p.facts p.is q.fact (in_slice p.facts q.node q.fact q.is) y r.parent r.name r.among in
        let same : r.name ≡ record { sort = sort.Class; text = u } = λ i. record { sort = class i; text = r.is i } in
        record {
          at = record { file = p.file; node = q.node };
          fact = q.fact;
          is = ap (λ (o : Option (List Fact)). elim o [ None ↦ None | Some xs ↦ slice_get xs q.node ]) p.is ∙ q.is;
          declares = subst (λ (k : Name). Contains q.fact.declares k) same r.among;
          extends = r.parent;
        }
