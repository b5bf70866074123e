-- Classes that are declared, and their numbers.
use Rattle.std.proofs.Common.{◌≡◌, ◌⊎◌, inl, inr, ℕ, zero, suc, ◌+◌, Bool, true, false, not, List, [], ◌∷◌, ◌++◌, map, refl, sym, subst, ap, ◌∙◌, arith}
use Rattle.std.specs.Prelude.{Contains, Option, Some, None, is_some, option_map, if◌then◌else◌}
use Rattle.std.specs.Str.{bytes_eq}
use Rattle.std.specs.Cmp.Lexicographic.{same_text, bytes_decides}
use Rattle.std.proofs.lemmas.Bool.{true≢false, and_parts, and_from}
use Rattle.std.proofs.lemmas.Option.{none-some}
use Rattle.std.proofs.lemmas.List.Elements.{Contains-append_left, Contains-append_right, Contains-append_cases}
use Rattle.node_names.specs.declared.name.Name.{Name}
use Rattle.node_names.specs.declared.name_sort.NameSort.{NameSort}
use Rattle.node_names.specs.declared.name_sort.NameSort.TheVariants as sort
use Rattle.node_names.specs.Facts.{Fact}
use Rattle.file_declarations.specs.declared.node_ref.NodeRef.{NodeRef}
use Rattle.file_declarations.specs.declared.declaration.Declaration.{Declaration}
use Rattle.file_declarations.specs.declared.told.Told.{Told}
use Rattle.file_declarations.specs.declared.told.Told.TheVariants as told
use Rattle.file_declarations.specs.Told.{declared_told, parents_told, extends_told, path_told}
use Rattle.file_declarations.specs.FactsTold.{fact_told, facts_told}
use Rattle.program_names.specs.Classes.{known_classes, place_of, AreOthers, IsDeclared}
use Rattle.program_names.specs.Table.{Table, declared_at, in_nodes, in_files}
use Rattle.program_names.specs.Told.{told_from, all_told}
use Rattle.class_cycles.specs.Names.{AreOnce}
use Rattle.class_cycles.specs.Others.{is_class, is_other, other_if, others_in, found_or, place_from}
use Rattle.class_cycles.proofs.ListLemmas.{none_in, in_first, in_rest, in_cases, in_map, from_map, Origin}

-- ---- places

moved : (k : ℕ) (t : Bool) (o : Option ℕ) → found_or t k (option_map (λ i. k + 1 + i) o) ≡ option_map (λ i. k + i) (if t then Some 0 else option_map (λ i. suc i) o)
moved k true o = ap (λ (i : ℕ). Some i) (omega arith)
moved k false None = refl
moved k false (Some i) = ap (λ (j : ℕ). Some j) (omega arith)

pub place_from_is : (k : ℕ) (n : List ℕ) (ms : List (List ℕ)) → place_from k n ms ≡ option_map (λ i. k + i) (place_of n ms)
place_from_is k n [] = refl
place_from_is k n (m ∷ ms) = ap (λ (o : Option ℕ). found_or (bytes_eq n m) k o) (place_from_is (k + 1) n ms) ∙ moved k (bytes_eq n m) (place_of n ms)

from_none : (o : Option ℕ) → option_map (λ i. 0 + i) o ≡ o
from_none None = refl
from_none (Some i) = ap (λ (j : ℕ). Some j) (omega arith)

pub place_from_first : (n : List ℕ) (ms : List (List ℕ)) → place_from 0 n ms ≡ place_of n ms
place_from_first n ms = place_from_is 0 n ms ∙ from_none (place_of n ms)

not_first : (t : Bool) (o : Option ℕ) → (if t then Some 0 else option_map (λ i. suc i) o) ≡ None → (t ≡ false) × (o ≡ None)
not_first true o e = absurd (none-some 0 (sym e))
not_first false None e = (refl, refl)
not_first false (Some j) e = absurd (none-some (suc j) (sym e))

pub placeless : (n : List ℕ) (ms : List (List ℕ)) → place_of n ms ≡ None → ¬ Contains ms n
placeless n [] e = λ c. none_in n c
placeless n (m ∷ ms) e = let h = not_first (bytes_eq n m) (place_of n ms) e in λ c. at h.0 (placeless n ms h.1) (in_cases m ms n c)
  where
    at : bytes_eq n m ≡ false → (¬ Contains ms n) → (m ≡ n) ⊎ Contains ms n → ⊥
    at f g (inl q) = true≢false (sym ((bytes_decides n m).1 (sym q)) ∙ f)
    at f g (inr k) = g k

pub unplaced : (n : List ℕ) (ms : List (List ℕ)) → (¬ Contains ms n) → place_of n ms ≡ None
unplaced n [] f = refl
unplaced n (m ∷ ms) f = at (bytes_eq n m) refl (unplaced n ms (λ c. f (in_rest m ms n c)))
  where
    at : (t : Bool) → t ≡ bytes_eq n m → place_of n ms ≡ None → (if t then Some 0 else option_map (λ i. suc i) (place_of n ms)) ≡ None
    at true e p = absurd (f (subst (λ (z : List ℕ). Contains (m ∷ ms) z) (sym (same_text n m e)) (in_first m ms)))
    at false e p = ap (λ (o : Option ℕ). option_map (λ i. suc i) o) p

-- ---- classes by their sort

class_sort : (s : NameSort) → is_class s ≡ true → s ≡ sort.Class
class_sort sort.Class e = refl
class_sort sort.Function e = cc
class_sort sort.Constant e = cc
class_sort sort.Method e = cc
class_sort sort.ClassConstant e = cc
class_sort sort.Property e = cc

none_from : (o : Option ℕ) → not (is_some o) ≡ true → o ≡ None
none_from None e = refl
none_from (Some i) e = cc

other_class : (n : Name) → is_other n ≡ true → (n.sort ≡ sort.Class) × (¬ Contains known_classes n.text)
other_class n e =
    let h = and_parts (is_class n.sort) (not (is_some (place_of n.text known_classes))) e in
    (class_sort n.sort h.0, placeless n.text known_classes (none_from (place_of n.text known_classes) h.1))

class_other : (n : Name) → n.sort ≡ sort.Class → (¬ Contains known_classes n.text) → is_other n ≡ true
class_other n e f =
    and_from (is_class n.sort) (not (is_some (place_of n.text known_classes))) (ap is_class e) (ap (λ (o : Option ℕ). not (is_some o)) (unplaced n.text known_classes f))

-- ---- which names are told

record Other (ts : List Told) (n : List ℕ) : Type 0 where
  declaration : Declaration
  among : Contains ts (told.Declares declaration)
  is : declaration.name ≡ record { sort = sort.Class; text = n }
  unknown : ¬ Contains known_classes n

later : (x : Told) (ts : List Told) (n : List ℕ) → Other ts n → Other (x ∷ ts) n
later x ts n o = record { declaration = o.declaration; among = in_rest x ts (told.Declares o.declaration) o.among; is = o.is; unknown = o.unknown }

from_others : (ts : List Told) (n : List ℕ) → Contains (others_in ts) n → Other ts n
from_others [] n c = absurd (none_in n c)
from_others (told.Extends x y ∷ ts) n c = later (told.Extends x y) ts n (from_others ts n c)
from_others (told.Includes f path ∷ ts) n c = later (told.Includes f path) ts n (from_others ts n c)
from_others (told.Declares d ∷ ts) n c = at (λ h. from_others ts n h) (Contains-append_cases (other_if d.name) (others_in ts) n c)
  where
    made : is_other d.name ≡ true → d.name.text ≡ n → Other (told.Declares d ∷ ts) n
    made e q =
        let h = other_class d.name e in
        record {
          declaration = d;
          among = in_first (told.Declares d) ts;
          is = λ i. record { sort = h.0 i; text = q i };
          unknown = subst (λ (z : List ℕ). ¬ Contains known_classes z) q h.1;
        }

    lone : is_other d.name ≡ true → (d.name.text ≡ n) ⊎ Contains [] n → Other (told.Declares d ∷ ts) n
    lone e (inl q) = made e q
    lone e (inr k) = absurd (none_in n k)

    own : (t : Bool) → t ≡ is_other d.name → Contains (if t then (d.name.text ∷ []) else []) n → Other (told.Declares d ∷ ts) n
    own true e k = lone (sym e) (in_cases d.name.text [] n k)
    own false e k = absurd (none_in n k)

    at : (Contains (others_in ts) n → Other ts n) → Contains (other_if d.name) n ⊎ Contains (others_in ts) n → Other (told.Declares d ∷ ts) n
    at f (inl h) = own (is_other d.name) refl h
    at f (inr h) = later (told.Declares d) ts n (f h)

in_others : (ts : List Told) (d : Declaration) → Contains ts (told.Declares d) → is_other d.name ≡ true → Contains (others_in ts) d.name.text
in_others [] d c e = absurd (none_in (told.Declares d) c)
in_others (told.Extends x y ∷ ts) d c e = at (λ h. in_others ts d h e) (in_cases (told.Extends x y) ts (told.Declares d) c)
  where
    at : (Contains ts (told.Declares d) → Contains (others_in ts) d.name.text) → (told.Extends x y ≡ told.Declares d)
        ⊎ Contains ts (told.Declares d) → Contains (others_in ts) d.name.text
    at f (inl q) = cc
    at f (inr h) = f h
in_others (told.Includes g path ∷ ts) d c e = at (λ h. in_others ts d h e) (in_cases (told.Includes g path) ts (told.Declares d) c)
  where
    at : (Contains ts (told.Declares d) → Contains (others_in ts) d.name.text)
        → (told.Includes g path ≡ told.Declares d) ⊎ Contains ts (told.Declares d)
        → Contains (others_in ts) d.name.text
    at f (inl q) = cc
    at f (inr h) = f h
in_others (told.Declares x ∷ ts) d c e = at (λ h. in_others ts d h e) (in_cases (told.Declares x) ts (told.Declares d) c)
  where
    same : told.Declares x ≡ told.Declares d → x ≡ d
    same q = cc

    own : (t : Bool) → t ≡ true → Contains (if t then (x.name.text ∷ []) else []) x.name.text
    own true q = in_first x.name.text []
    own false q = cc

    at : (Contains ts (told.Declares d) → Contains (others_in ts) d.name.text) → (told.Declares x ≡ told.Declares d) ⊎ Contains ts (told.Declares d) →
        Contains (other_if x.name ++ others_in ts) d.name.text
    at f (inl q) =
        subst (λ (z : Declaration). Contains (other_if x.name ++ others_in ts) z.name.text) (same q)
        (Contains-append_left (other_if x.name) (others_in ts) x.name.text (own (is_other x.name) (ap (λ (z : Declaration). is_other z.name) (same q) ∙ e)))
    at f (inr h) = Contains-append_right (other_if x.name) (others_in ts) d.name.text (f h)

-- ---- what is told of declarations is what the table has of them

told_is : (at : NodeRef) (top : Bool) (ns : List Name) → declared_told at top ns ≡ map (λ d. told.Declares d) (declared_at at top ns)
told_is at top [] = refl
told_is at top (n ∷ ns) = ap (λ (ts : List Told). told.Declares (record { name = n; at = at; is_top = top }) ∷ ts) (told_is at top ns)

no_parents : (x : List ℕ) (ps : List (List ℕ)) (d : Declaration) → Contains (parents_told x ps) (told.Declares d) → ⊥
no_parents x [] d c = none_in (told.Declares d) c
no_parents x (p ∷ ps) d c = at (λ h. no_parents x ps d h) (in_cases (told.Extends x p) (parents_told x ps) (told.Declares d) c)
  where
    at : (Contains (parents_told x ps) (told.Declares d) → ⊥) → (told.Extends x p ≡ told.Declares d) ⊎ Contains (parents_told x ps) (told.Declares d) → ⊥
    at f (inl e) = cc
    at f (inr h) = f h

no_extends : (ns : List Name) (ps : List (List ℕ)) (d : Declaration) → Contains (extends_told ns ps) (told.Declares d) → ⊥
no_extends [] ps d c = none_in (told.Declares d) c
no_extends (n ∷ ns) ps d c = at (λ h. no_extends ns ps d h) (Contains-append_cases (parents_told n.text ps) (extends_told ns ps) (told.Declares d) c)
  where
    at : (Contains (extends_told ns ps) (told.Declares d) → ⊥) → Contains (parents_told n.text ps) (told.Declares d) ⊎ Contains (extends_told ns ps) (told.Declares d) → ⊥
    at f (inl h) = no_parents n.text ps d h
    at f (inr h) = f h

no_path : (g : ℕ) (o : Option (List ℕ)) (d : Declaration) → Contains (path_told g o) (told.Declares d) → ⊥
no_path g None d c = none_in (told.Declares d) c
no_path g (Some path) d c = at (in_cases (told.Includes g path) [] (told.Declares d) c)
  where
    at : (told.Includes g path ≡ told.Declares d) ⊎ Contains [] (told.Declares d) → ⊥
    at (inl e) = cc
    at (inr h) = none_in (told.Declares d) h

to_fact : (f n : ℕ) (x : Fact) (d : Declaration) → Contains (declared_at (record { file = f; node = n }) x.is_top x.declares) d → Contains (fact_told f n x) (told.Declares d)
to_fact f n x d c =
    let at : NodeRef = record { file = f; node = n } in
    let ds = declared_told at x.is_top x.declares in
    let es = extends_told x.declares x.extends in
    Contains-append_left (ds ++ es) (path_told f x.includes) (told.Declares d) (Contains-append_left ds es (told.Declares d)
    (subst (λ (ts : List Told). Contains ts (told.Declares d)) (sym (told_is at x.is_top x.declares)) (in_map (λ z. told.Declares z) (declared_at at x.is_top x.declares) d c)))

of_fact : (f n : ℕ) (x : Fact) (d : Declaration) → Contains (fact_told f n x) (told.Declares d) → Contains (declared_at (record { file = f; node = n }) x.is_top x.declares) d
of_fact f n x d c = at (Contains-append_cases (ds ++ es) ys (told.Declares d) c)
  where
    node : NodeRef
    node = record { file = f; node = n }

    ds : List Told
    ds = declared_told node x.is_top x.declares

    es : List Told
    es = extends_told x.declares x.extends

    ys : List Told
    ys = path_told f x.includes

    same : (z : Declaration) → told.Declares z ≡ told.Declares d → z ≡ d
    same z q = cc

    origin : Origin (λ z. told.Declares z) (declared_at node x.is_top x.declares) (told.Declares d) → Contains (declared_at node x.is_top x.declares) d
    origin o = subst (λ (z : Declaration). Contains (declared_at node x.is_top x.declares) z) (same o.element o.is) o.among

    before : Contains ds (told.Declares d) ⊎ Contains es (told.Declares d) → Contains (declared_at node x.is_top x.declares) d
    before (inl h) =
        origin (from_map (λ z. told.Declares z) (declared_at node x.is_top x.declares) (told.Declares d)
        (subst (λ (ts : List Told). Contains ts (told.Declares d)) (told_is node x.is_top x.declares) h))
    before (inr h) = absurd (no_extends x.declares x.extends d h)

    at : Contains (ds ++ es) (told.Declares d) ⊎ Contains ys (told.Declares d) → Contains (declared_at node x.is_top x.declares) d
    at (inl h) = before (Contains-append_cases ds es (told.Declares d) h)
    at (inr h) = absurd (no_path f x.includes d h)

to_facts : (f n : ℕ) (xs : List Fact) (d : Declaration) → Contains (in_nodes f n xs) d → Contains (facts_told f n xs) (told.Declares d)
to_facts f n [] d c = absurd (none_in d c)
to_facts f n (x ∷ xs) d c = at (λ h. to_facts f (suc n) xs d h) (Contains-append_cases ds (in_nodes f (suc n) xs) d c)
  where
    ds : List Declaration
    ds = declared_at (record { file = f; node = n }) x.is_top x.declares

    at : (Contains (in_nodes f (suc n) xs) d → Contains (facts_told f (suc n) xs) (told.Declares d)) → Contains ds d ⊎ Contains (in_nodes f (suc n) xs) d →
        Contains (fact_told f n x ++ facts_told f (suc n) xs) (told.Declares d)
    at r (inl h) = Contains-append_left (fact_told f n x) (facts_told f (suc n) xs) (told.Declares d) (to_fact f n x d h)
    at r (inr h) = Contains-append_right (fact_told f n x) (facts_told f (suc n) xs) (told.Declares d) (r h)

of_facts : (f n : ℕ) (xs : List Fact) (d : Declaration) → Contains (facts_told f n xs) (told.Declares d) → Contains (in_nodes f n xs) d
of_facts f n [] d c = absurd (none_in (told.Declares d) c)
of_facts f n (x ∷ xs) d c = at (λ h. of_facts f (suc n) xs d h) (Contains-append_cases (fact_told f n x) (facts_told f (suc n) xs) (told.Declares d) c)
  where
    ds : List Declaration
    ds = declared_at (record { file = f; node = n }) x.is_top x.declares

    at : (Contains (facts_told f (suc n) xs) (told.Declares d) → Contains (in_nodes f (suc n) xs) d) →
        Contains (fact_told f n x) (told.Declares d) ⊎ Contains (facts_told f (suc n) xs) (told.Declares d) →
        Contains (ds ++ in_nodes f (suc n) xs) d
    at r (inl h) = Contains-append_left ds (in_nodes f (suc n) xs) d (of_fact f n x d h)
    at r (inr h) = Contains-append_right ds (in_nodes f (suc n) xs) d (r h)

to_told : (f : ℕ) (t : Table) (d : Declaration) → Contains (in_files f t) d → Contains (told_from f t) (told.Declares d)
to_told f [] d c = absurd (none_in d c)
to_told f (xs ∷ t) d c = at (λ h. to_told (suc f) t d h) (Contains-append_cases (in_nodes f zero xs) (in_files (suc f) t) d c)
  where
    at : (Contains (in_files (suc f) t) d → Contains (told_from (suc f) t) (told.Declares d)) → Contains (in_nodes f zero xs) d ⊎ Contains (in_files (suc f) t) d →
        Contains (facts_told f zero xs ++ told_from (suc f) t) (told.Declares d)
    at r (inl h) = Contains-append_left (facts_told f zero xs) (told_from (suc f) t) (told.Declares d) (to_facts f zero xs d h)
    at r (inr h) = Contains-append_right (facts_told f zero xs) (told_from (suc f) t) (told.Declares d) (r h)

of_told : (f : ℕ) (t : Table) (d : Declaration) → Contains (told_from f t) (told.Declares d) → Contains (in_files f t) d
of_told f [] d c = absurd (none_in (told.Declares d) c)
of_told f (xs ∷ t) d c = at (λ h. of_told (suc f) t d h) (Contains-append_cases (facts_told f zero xs) (told_from (suc f) t) (told.Declares d) c)
  where
    at : (Contains (told_from (suc f) t) (told.Declares d) → Contains (in_files (suc f) t) d) →
        Contains (facts_told f zero xs) (told.Declares d) ⊎ Contains (told_from (suc f) t) (told.Declares d) → Contains (in_nodes f zero xs ++ in_files (suc f) t) d
    at r (inl h) = Contains-append_left (in_nodes f zero xs) (in_files (suc f) t) d (of_facts f zero xs d h)
    at r (inr h) = Contains-append_right (in_nodes f zero xs) (in_files (suc f) t) d (r h)

-- ---- the other classes

pub others_once : (ts : List Told) (names : List (List ℕ)) → AreOnce (others_in ts) names → (t : Table) → ts ≡ all_told t → AreOthers t names
others_once ts names o t e = record {
  ascending = o.ascending;
  declared = λ n c. declared n (from_others ts n (o.listed n c));
  unknown = λ n c. unknown n (from_others ts n (o.listed n c));
  all = λ n d f. o.all n (all n d f);
}
  where
    unknown : (n : List ℕ) → Other ts n → ¬ Contains known_classes n
    unknown n x = x.unknown

    declared : (n : List ℕ) → Other ts n → IsDeclared t n
    declared n x = record {
      declaration = x.declaration;
      among = of_told zero t x.declaration (subst (λ (us : List Told). Contains us (told.Declares x.declaration)) e x.among);
      name = x.is;
    }

    all : (n : List ℕ) → IsDeclared t n → (¬ Contains known_classes n) → Contains (others_in ts) n
    all n d f =
        let text : d.declaration.name.text ≡ n = ap (λ (z : Name). z.text) d.name in
        let k : Contains ts (told.Declares d.declaration) = subst (λ (us : List Told). Contains us (told.Declares d.declaration)) (sym e) (to_told zero t d.declaration d.among) in
        let q : is_other d.declaration.name ≡ true = class_other d.declaration.name (ap (λ (z : Name). z.sort) d.name)
        (subst (λ (z : List ℕ). ¬ Contains known_classes z) (sym text) f) in
        subst (λ (z : List ℕ). Contains (others_in ts) z) text (in_others ts d.declaration k q)
