-- Names once each, in the order of bytes.
use Rattle.std.proofs.Common.{◌≡◌, ℕ, Bool, true, List, [], ◌∷◌, sym, subst, ◌∙◌}
use Rattle.std.specs.Prelude.{Contains, nat_eq}
use Rattle.std.specs.Borrow.{Bor}
use Rattle.std.specs.List.{Any, dedup}
use Rattle.std.specs.List.Sorted.{IsPermutation, IsSorted, IsStrictlySortedBy}
use Rattle.std.specs.Ordering.{nat_cmp}
use Rattle.std.specs.declared.cmp.Ordering.{Ordering}
use Rattle.std.specs.Cmp.Lexicographic.{slice_cmp, on_texts, on_texts_equal, texts_ties, same_text}
use lib.Pointwise.{pointwise}
use Rattle.std.proofs.lemmas.List.Kept.{IsStrictlySortedBy-dedup, Any-dedup, Contains-from_dedup}
use Rattle.std.proofs.lemmas.List.Sorted.{IsPermutation-sym, Contains-permutation}
use Rattle.node_names.specs.Seen.{texts_of}
use Rattle.program_names.specs.Classes.{AreAscending}
use Rattle.class_cycles.specs.Names.{AreOnce}
use Rattle.class_cycles.proofs.ListLemmas.{in_map, from_map, Origin}

abbrev by_bytes : Bor (List ℕ) → Bor (List ℕ) → Ordering
by_bytes x y = slice_cmp nat_cmp x.now y.now

abbrev same_bytes : Bor (List ℕ) → Bor (List ℕ) → Bool
same_bytes x y = pointwise nat_eq x.now y.now

ascending_from : (ws : List (Bor (List ℕ))) → IsStrictlySortedBy by_bytes ws → AreAscending (texts_of ws)
unfolding IsStrictlySortedBy
ascending_from [] s = tt
ascending_from (v ∷ []) s = tt
ascending_from (v ∷ w ∷ ws) s = (s.0.0, ascending_from (w ∷ ws) s.1)

-- what sorting and dropping repetitions leaves
pub sorted_once : (old sorted new : List (Bor (List ℕ))) → IsPermutation old sorted → IsSorted by_bytes sorted
    → new ≡ dedup same_bytes sorted → AreOnce (texts_of old) (texts_of new)
sorted_once old sorted new moved up is = subst (λ (ws : List (Bor (List ℕ))). AreOnce (texts_of old) (texts_of ws)) (sym is) (record {
  ascending = ascending_from (dedup same_bytes sorted) (IsStrictlySortedBy-dedup (on_texts (λ x. x.now)) (λ x y. texts_ties x.now y.now) sorted up);
  listed = λ n c. listed n (from_map (λ w. w.now) (dedup same_bytes sorted) n c);
  all = λ n c. all n (from_map (λ w. w.now) old n c);
})
  where
    listed : (n : List ℕ) → Origin (λ w. w.now) (dedup same_bytes sorted) n → Contains (texts_of old) n
    listed n o =
        subst (λ (t : List ℕ). Contains (texts_of old) t) o.is (in_map (λ w. w.now) old o.element
        (Contains-permutation sorted old o.element (IsPermutation-sym old sorted moved) (Contains-from_dedup same_bytes sorted o.element o.among)))

    kept : (n : List ℕ) (w : Bor (List ℕ)) → w.now ≡ n → Any (λ y. same_bytes w y ≡ true) (dedup same_bytes sorted) → Contains (texts_of (dedup same_bytes sorted)) n
    kept n w e a =
        subst (λ (t : List ℕ). Contains (texts_of (dedup same_bytes sorted)) t) (sym (same_text w.now a.1.now (sym a.4)) ∙ e)
        (in_map (λ w. w.now) (dedup same_bytes sorted) a.1 (a.0, a.2, a.3))

    all : (n : List ℕ) → Origin (λ w. w.now) old n → Contains (texts_of (dedup same_bytes sorted)) n
    all n o = kept n o.element o.is (Any-dedup (on_texts_equal (λ x. x.now)) sorted o.element (Contains-permutation old sorted o.element moved o.among))
