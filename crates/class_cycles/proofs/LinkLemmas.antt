-- Pairs of places.
use Rattle.std.proofs.Common.{◌≡◌, ◌<◌, ◌⊎◌, inl, inr, ℕ, zero, suc, Bool, true, false, List, [], ◌∷◌, ◌++◌, length, get_or, refl, sym, subst, ap, ◌∙◌, arith}
use Rattle.std.specs.Prelude.{Contains, Option, Some, None, option_map, if◌then◌else◌}
use Rattle.std.specs.Str.{bytes_eq}
use Rattle.std.specs.Cmp.Lexicographic.{same_text}
use Rattle.std.proofs.lemmas.Option.{same_Some, none-some}
use Rattle.std.proofs.lemmas.List.Elements.{Contains-append_left, Contains-append_right, Contains-append_cases}
use Rattle.file_declarations.specs.declared.told.Told.{Told}
use Rattle.file_declarations.specs.declared.told.Told.TheVariants.{Declares, Extends, Includes}
use Rattle.graph_search.specs.Graph.{pair}
use Rattle.program_names.specs.Classes.{place_of}
use Rattle.class_cycles.specs.Names.{linked, pair_if, pairs_of}
use Rattle.class_cycles.proofs.ListLemmas.{none_in, in_first, in_rest, in_cases}

-- what a place says
pub place_is : (n : List ℕ) (ns : List (List ℕ)) (i : ℕ) → place_of n ns ≡ Some i → (i < length ns) × (get_or ns i [] ≡ n)
place_is n [] i e = absurd (none-some i e)
place_is n (m ∷ ms) i e = at (bytes_eq n m) refl (place_of n ms) (λ k. place_is n ms k) i e
  where
    at : (t : Bool) → t ≡ bytes_eq n m → (o : Option ℕ) → ((k : ℕ) → o ≡ Some k → (k < length ms) × (get_or ms k [] ≡ n)) → (i : ℕ) →
        (if t then Some 0 else option_map (λ i. suc i) o) ≡ Some i → (i < length (m ∷ ms)) × (get_or (m ∷ ms) i [] ≡ n)
    at true q o f zero e = (omega arith, sym (same_text n m q))
    at true q o f (suc i) e = absurd (omega (arith, same_Some 0 (suc i) e))
    at false q None f i e = absurd (none-some i e)
    at false q (Some k) f zero e = absurd (omega (arith, same_Some (suc k) zero e))
    at false q (Some k) f (suc i) e =
        let h : k ≡ i = omega (arith, same_Some (suc k) (suc i) e) in
        let r = f k refl in
        (omega (arith, h, r.0), ap (λ (j : ℕ). get_or ms j []) (sym h) ∙ r.1)

-- a class and one that it extends, by their places
pub record IsLink (told : List Told) (names : List (List ℕ)) (a b : ℕ) : Type 0 where
  pub class : List ℕ
  pub parent : List ℕ
  pub among : Contains told (Extends class parent)
  pub at : place_of class names ≡ Some a
  pub to : place_of parent names ≡ Some b

later : (x : Told) (told : List Told) (names : List (List ℕ)) (a b : ℕ) → IsLink told names a b → IsLink (x ∷ told) names a b
later x told names a b l = record { class = l.class; parent = l.parent; among = in_rest x told (Extends l.class l.parent) l.among; at = l.at; to = l.to }

in_pair_if : (o q : Option ℕ) (a b : ℕ) → Contains (pair_if o q) (pair a b) → (o ≡ Some a) × (q ≡ Some b)
in_pair_if None q a b c = absurd (none_in (pair a b) c)
in_pair_if (Some x) None a b c = absurd (none_in (pair a b) c)
in_pair_if (Some x) (Some y) a b c = at (in_cases (pair x y) [] (pair a b) c)
  where
    at : (pair x y ≡ pair a b) ⊎ Contains [] (pair a b) → (Some x ≡ Some a) × (Some y ≡ Some b)
    at (inl e) = (ap (λ (p : ℕ × ℕ). Some p.0) e, ap (λ (p : ℕ × ℕ). Some p.1) e)
    at (inr h) = absurd (none_in (pair a b) h)

pub pair_listed : (names : List (List ℕ)) (told : List Told) (a b : ℕ) → Contains (pairs_of names told) (pair a b) → IsLink told names a b
pair_listed names [] a b c = absurd (none_in (pair a b) c)
pair_listed names (Declares d ∷ ts) a b c = later (Declares d) ts names a b (pair_listed names ts a b c)
pair_listed names (Includes f path ∷ ts) a b c = later (Includes f path) ts names a b (pair_listed names ts a b c)
pair_listed names (Extends x y ∷ ts) a b c =
    at (λ h. pair_listed names ts a b h) (Contains-append_cases (pair_if (place_of x names) (place_of y names)) (pairs_of names ts) (pair a b) c)
  where
    at : (Contains (pairs_of names ts) (pair a b) → IsLink ts names a b)
        → Contains (pair_if (place_of x names) (place_of y names)) (pair a b)
        ⊎ Contains (pairs_of names ts) (pair a b) →
        IsLink (Extends x y ∷ ts) names a b
    at f (inl h) = let p = in_pair_if (place_of x names) (place_of y names) a b h in
        record { class = x; parent = y; among = in_first (Extends x y) ts; at = p.0; to = p.1 }
    at f (inr h) = later (Extends x y) ts names a b (f h)

pub pair_all : (names : List (List ℕ)) (told : List Told) (x y : List ℕ) (a b : ℕ) → Contains told (Extends x y) → place_of x names ≡ Some a → place_of y names ≡ Some b →
    Contains (pairs_of names told) (pair a b)
pair_all names [] x y a b c p q = absurd (none_in (Extends x y) c)
pair_all names (Declares d ∷ ts) x y a b c p q = at (λ h. pair_all names ts x y a b h p q) (in_cases (Declares d) ts (Extends x y) c)
  where
    at : (Contains ts (Extends x y) → Contains (pairs_of names ts) (pair a b)) → (Declares d ≡ Extends x y) ⊎ Contains ts (Extends x y) → Contains (pairs_of names ts) (pair a b)
    at f (inl e) = cc
    at f (inr h) = f h
pair_all names (Includes g path ∷ ts) x y a b c p q = at (λ h. pair_all names ts x y a b h p q) (in_cases (Includes g path) ts (Extends x y) c)
  where
    at : (Contains ts (Extends x y) → Contains (pairs_of names ts) (pair a b)) → (Includes g path ≡ Extends x y)
        ⊎ Contains ts (Extends x y) → Contains (pairs_of names ts) (pair a b)
    at f (inl e) = cc
    at f (inr h) = f h
pair_all names (Extends u v ∷ ts) x y a b c p q = at (λ h. pair_all names ts x y a b h p q) (in_cases (Extends u v) ts (Extends x y) c)
  where
    own : (o r : Option ℕ) → o ≡ Some a → r ≡ Some b → Contains (pair_if o r) (pair a b)
    own o r e f = subst (λ (k : Option ℕ). Contains (pair_if k r) (pair a b)) (sym e)
        (subst (λ (k : Option ℕ). Contains (pair_if (Some a) k) (pair a b)) (sym f) (in_first (pair a b) []))

    firsts : Extends u v ≡ Extends x y → u ≡ x
    firsts e = cc

    seconds : Extends u v ≡ Extends x y → v ≡ y
    seconds e = cc

    at : (Contains ts (Extends x y) → Contains (pairs_of names ts) (pair a b)) → (Extends u v ≡ Extends x y) ⊎ Contains ts (Extends x y) →
        Contains (pair_if (place_of u names) (place_of v names) ++ pairs_of names ts) (pair a b)
    at f (inl e) = Contains-append_left (pair_if (place_of u names) (place_of v names)) (pairs_of names ts) (pair a b)
        (own (place_of u names) (place_of v names) (ap (λ (z : List ℕ). place_of z names) (firsts e) ∙ p) (ap (λ (z : List ℕ). place_of z names) (seconds e) ∙ q))
    at f (inr h) = Contains-append_right (pair_if (place_of u names) (place_of v names)) (pairs_of names ts) (pair a b) (f h)

-- both names of a link are linked
pub both_linked : (told : List Told) (x y : List ℕ) → Contains told (Extends x y) → Contains (linked told) x × Contains (linked told) y
both_linked [] x y c = absurd (none_in (Extends x y) c)
both_linked (Declares d ∷ ts) x y c = at (λ h. both_linked ts x y h) (in_cases (Declares d) ts (Extends x y) c)
  where
    at : (Contains ts (Extends x y) → Contains (linked ts) x × Contains (linked ts) y) → (Declares d ≡ Extends x y)
        ⊎ Contains ts (Extends x y) → Contains (linked ts) x × Contains (linked ts) y
    at f (inl e) = cc
    at f (inr h) = f h
both_linked (Includes g path ∷ ts) x y c = at (λ h. both_linked ts x y h) (in_cases (Includes g path) ts (Extends x y) c)
  where
    at : (Contains ts (Extends x y) → Contains (linked ts) x × Contains (linked ts) y) → (Includes g path ≡ Extends x y) ⊎ Contains ts (Extends x y) →
        Contains (linked ts) x × Contains (linked ts) y
    at f (inl e) = cc
    at f (inr h) = f h
both_linked (Extends u v ∷ ts) x y c = at (λ h. both_linked ts x y h) (in_cases (Extends u v) ts (Extends x y) c)
  where
    firsts : Extends u v ≡ Extends x y → u ≡ x
    firsts e = cc

    seconds : Extends u v ≡ Extends x y → v ≡ y
    seconds e = cc

    all : List (List ℕ)
    all = u ∷ v ∷ linked ts

    at : (Contains ts (Extends x y) → Contains (linked ts) x × Contains (linked ts) y) → (Extends u v ≡ Extends x y) ⊎ Contains ts (Extends x y) → Contains all x × Contains all y
    at f (inl e) = (
      subst (λ (z : List ℕ). Contains all z) (firsts e) (in_first u (v ∷ linked ts)),
      subst (λ (z : List ℕ). Contains all z) (seconds e) (in_rest u (v ∷ linked ts) v (in_first v (linked ts))),
    )
    at f (inr h) = let r = f h in (in_rest u (v ∷ linked ts) x (in_rest v (linked ts) x r.0), in_rest u (v ∷ linked ts) y (in_rest v (linked ts) y r.1))
