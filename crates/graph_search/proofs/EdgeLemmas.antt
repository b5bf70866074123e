-- Graphs, edge by edge.
use Rattle.std.proofs.Common.{
  ◌≡◌,
  ◌≢◌,
  ◌<◌,
  ◌≤◌,
  ◌⊎◌,
  inl,
  inr,
  ℕ,
  zero,
  suc,
  ◌+◌,
  List,
  [],
  ◌∷◌,
  ◌++◌,
  length,
  take,
  set,
  get_or,
  refl,
  sym,
  ap,
  subst,
  ◌∙◌,
  arith,
  slice_get,
  Some,
  None,
  Option,
}
use Rattle.std.specs.Prelude.{Contains}
use Rattle.std.proofs.lemmas.Bool.{cases_eq}
use Rattle.std.proofs.lemmas.List.{get_or-set_same, get_or-set_other, length-set, get_or_push, get_or_append_left}
use Rattle.std.proofs.lemmas.Grind.{common_steps}
use Rattle.std.proofs.lemmas.List.Elements.{Contains-append_left, Contains-append_right, Contains-push, Contains-push_cases}
use Rattle.std.proofs.lemmas.Option.{slice_get-get_or, slice_get_within}
use Rattle.graph_search.specs.Graph.{Graph, Edge, IsGraph, pair}
use Rattle.graph_search.proofs.MarkLemmas.{no_element, some_same}

no_pair : (a b : ℕ) → Contains [] (pair a b) → ⊥
no_pair a b c = omega (arith, c.1)

within : (g : Graph) (a b : ℕ) → Edge g a b → a < length g
within g a b e = slice_get_within g a e.all e.at

-- what follows a number, as a list
follows : (g : Graph) (a b : ℕ) → Edge g a b → Contains (get_or g a []) b
follows g a b e = subst (λ (xs : List ℕ). Contains xs b) (some_same e.all (get_or g a []) (sym e.at ∙ slice_get-get_or g a [] (within g a b e))) e.among

edge_at : (g : Graph) (a b : ℕ) → a < length g → Contains (get_or g a []) b → Edge g a b
edge_at g a b w c = record { all = get_or g a []; at = slice_get-get_or g a [] w; among = c }

-- no number at all
pub graph_none : IsGraph 0 [] []
graph_none = record {
  size = refl;
  listed = λ a b e. absurd (omega (arith, within [] a b e));
  all = λ a b c. absurd (no_pair a b c);
}

-- a further number that nothing follows
pub graph_push : (n : ℕ) (g : Graph) → IsGraph n [] g → IsGraph (n + 1) [] (g ++ [] ∷ [])
graph_push n g i = record {
  size = length-push g [] ∙ ap (λ (k : ℕ). k + 1) i.size;
  listed = λ a b e. listed a b (within (g ++ [] ∷ []) a b e) e;
  all = λ a b c. absurd (no_pair a b c);
}
  where
    length-push : (xs : Graph) (x : List ℕ) → length (xs ++ x ∷ []) ≡ length xs + 1
    length-push xs x = grind (arith, common_steps)

    listed : (a b : ℕ) → a < length (g ++ [] ∷ []) → Edge (g ++ [] ∷ []) a b → Contains [] (pair a b)
    listed a b w e = at (cases_eq a (length g))
      where
        at : (a ≡ length g) ⊎ (a ≡ length g → ⊥) → Contains [] (pair a b)
        at (inl s) = absurd (no_element b (subst (λ (xs : List ℕ). Contains xs b) (get_or_push g [] [] a (sym s)) (follows (g ++ [] ∷ []) a b e)))
        at (inr d) = i.listed a b (edge_at g a b small (subst (λ (xs : List ℕ). Contains xs b) (get_or_append_left g ([] ∷ []) [] a small) (follows (g ++ [] ∷ []) a b e)))
          where
            small : a < length g
            small = omega (arith, w, d, length-push g [])

-- a further edge
pub graph_edge : (n : ℕ) (ps : List (ℕ × ℕ)) (g : Graph) (from to : ℕ) → IsGraph n ps g → from < length g →
    IsGraph n (ps ++ (pair from to) ∷ []) (set g from (get_or g from [] ++ to ∷ []))
graph_edge n ps g from to i w = record {
  size = length-set g from more ∙ i.size;
  listed = λ a b e. listed a b e;
  all = λ a b c. all a b (Contains-push_cases ps (pair from to) (pair a b) c);
}
  where
    more : List ℕ
    more = get_or g from [] ++ to ∷ []

    inside : (a b : ℕ) → Edge (set g from more) a b → a < length g
    inside a b e = subst (λ (k : ℕ). a < k) (length-set g from more) (within (set g from more) a b e)

    own : (b : ℕ) → Contains (get_or g from []) b ⊎ (to ≡ b) → Contains (ps ++ (pair from to) ∷ []) (pair from b)
    own b (inl c) = Contains-append_left ps ((pair from to) ∷ []) (pair from b) (i.listed from b (edge_at g from b w c))
    own b (inr s) = subst (λ (x : ℕ). Contains (ps ++ (pair from to) ∷ []) (pair from x)) s (Contains-push ps (pair from to))

    listed : (a b : ℕ) → Edge (set g from more) a b → Contains (ps ++ (pair from to) ∷ []) (pair a b)
    listed a b e = at (cases_eq a from)
      where
        at : (a ≡ from) ⊎ (a ≡ from → ⊥) → Contains (ps ++ (pair from to) ∷ []) (pair a b)
        at (inl s) = subst (λ (x : ℕ). Contains (ps ++ (pair from to) ∷ []) (pair x b)) (sym s)
            (own b (Contains-push_cases (get_or g from []) to b (subst (λ (xs : List ℕ). Contains xs b) (get_or-set_same g from more [] w)
            (subst (λ (x : ℕ). Contains (get_or (set g from more) x []) b) s (follows (set g from more) a b e)))))
        at (inr d) = Contains-append_left ps ((pair from to) ∷ []) (pair a b) (i.listed a b (edge_at g a b (inside a b e)
            (subst (λ (xs : List ℕ). Contains xs b) (get_or-set_other g from a more [] d) (follows (set g from more) a b e))))

    big : (a : ℕ) → a < length g → a < length (set g from more)
    big a v = subst (λ (k : ℕ). a < k) (sym (length-set g from more)) v

    all : (a b : ℕ) → Contains ps (pair a b) ⊎ ((pair from to) ≡ (pair a b)) → Edge (set g from more) a b
    all a b (inr s) =
        subst (λ (x : ℕ). Edge (set g from more) x b) (ap (λ (p : ℕ × ℕ). p.0) s)
        (subst (λ (x : ℕ). Edge (set g from more) from x) (ap (λ (p : ℕ × ℕ). p.1) s)
        (edge_at (set g from more) from to (big from w) (subst (λ (xs : List ℕ). Contains xs to) (sym (get_or-set_same g from more [] w)) (Contains-push (get_or g from []) to))))
    all a b (inl c) = at (cases_eq a from) (i.all a b c)
      where
        at : (a ≡ from) ⊎ (a ≡ from → ⊥) → Edge g a b → Edge (set g from more) a b
        at (inl s) e = edge_at (set g from more) a b (big a (within g a b e))
            (subst (λ (x : ℕ). Contains (get_or (set g from more) x []) b) (sym s)
            (subst (λ (xs : List ℕ). Contains xs b) (sym (get_or-set_same g from more [] w))
            (Contains-append_left (get_or g from []) (to ∷ []) b (subst (λ (x : ℕ). Contains (get_or g x []) b) s (follows g a b e)))))
        at (inr d) e = edge_at (set g from more) a b (big a (within g a b e)) (subst (λ (xs : List ℕ). Contains xs b) (sym (get_or-set_other g from a more [] d)) (follows g a b e))
