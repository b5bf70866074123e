-- The entries of a program are determined by what is asked for.
use Rattle.std.proofs.Common.{◌≡◌, ◌⊎◌, inl, inr, ℕ, List, [], ◌∷◌, ◌++◌, length, map, slice_get, refl, ap, ap₂, sym, ◌∙◌, subst}
use Rattle.std.specs.Prelude.{Option, Some, None, IsTrue}
use Rattle.scope_names.specs.Numbers.{counted}
use Rattle.program_names.specs.Files.{Files, are_ascending}
use Rattle.program_names.specs.Table.{Table, IsReached, Completes, done, reached, added}
use Rattle.program_names.specs.Entries.{paths_of, AreFiles, AreEntries, IsPrepend}
use Rattle.program_names.proofs.PathLemmas as path
use Rattle.resolved_names.specs.Resolved.{IsAsked, IsDeclaredOnce, IsUnrefused}
use Rattle.upgrade_core.specs.Names.{AreClear}

-- ---- completed lists

-- behind the last file
at_end : (paths : List (List ℕ)) (t : Table) (es fs out : List ℕ) → Completes paths t es fs out → fs ≡ [] → es ≡ out
at_end paths t _ _ _ (done es) e = refl
at_end paths t _ _ _ (reached es gs out f is more) e = absurd (let no : ⊥ = cc in no)
at_end paths t _ _ _ (added es gs out f is more) e = absurd (let no : ⊥ = cc in no)

abbrev Next : List (List ℕ) → Table → List ℕ → ℕ → List ℕ → List ℕ → Type 0
Next paths t es f fs out =
    (IsReached paths t es f × Completes paths t es fs out) ⊎ ((¬ IsReached paths t es f) × Completes paths t (es ++ f ∷ []) fs out)

-- before it
at_next : (paths : List (List ℕ)) (t : Table) (es gs out : List ℕ) → Completes paths t es gs out → (f : ℕ) (fs : List ℕ) → gs ≡ f ∷ fs
    → Next paths t es f fs out
at_next paths t _ _ _ (done es) f fs e = absurd (let no : ⊥ = cc in no)
at_next paths t _ _ _ (reached es hs out g is more) f fs e =
    let same : g ≡ f = cc in
    let rest : hs ≡ fs = cc in
    inl (subst (λ x. IsReached paths t es x) same is, subst (λ x. Completes paths t es x out) rest more)
at_next paths t _ _ _ (added es hs out g is more) f fs e =
    let same : g ≡ f = cc in
    let rest : hs ≡ fs = cc in
    inr (
      subst (λ x. ¬ IsReached paths t es x) same is,
      subst (λ x. Completes paths t (es ++ f ∷ []) x out) rest (subst (λ x. Completes paths t (es ++ x ∷ []) hs out) same more),
    )

completes_once : (paths : List (List ℕ)) (t : Table) (fs es out other : List ℕ) → Completes paths t es fs out → Completes paths t es fs other
    → out ≡ other
completes_once paths t [] es out other a b = sym (at_end paths t es [] out a refl) ∙ at_end paths t es [] other b refl
completes_once paths t (f ∷ fs) es out other a b =
    by (at_next paths t es (f ∷ fs) out a f fs refl) (at_next paths t es (f ∷ fs) other b f fs refl)
    (λ es x y. completes_once paths t fs es out other x y)
  where
    by : Next paths t es f fs out → Next paths t es f fs other
        → ((ds : List ℕ) → Completes paths t ds fs out → Completes paths t ds fs other → out ≡ other) → out ≡ other
    by (inl x) (inl y) rest = rest es x.1 y.1
    by (inl x) (inr y) rest = absurd (y.0 x.0)
    by (inr x) (inl y) rest = absurd (x.0 y.0)
    by (inr x) (inr y) rest = rest (es ++ f ∷ []) x.1 y.1

-- ---- a program, each of whose paths stands once

module _ (fs : Files) (ascending : IsTrue (are_ascending fs)) where
  same_numbers : (ws : List (List ℕ)) (ms ns : List ℕ) → AreFiles (paths_of fs) ws ms → AreFiles (paths_of fs) ws ns → ms ≡ ns
  same_numbers [] [] [] a b = refl
  same_numbers [] [] (n ∷ ns) a b = absurd (let no : ⊥ = cc in no)
  same_numbers [] (m ∷ ms) ns a b = absurd (let no : ⊥ = cc in no)
  same_numbers (w ∷ ws) [] ns a b = absurd (let no : ⊥ = cc in no)
  same_numbers (w ∷ ws) (m ∷ ms) [] a b = absurd (let no : ⊥ = cc in no)
  same_numbers (w ∷ ws) (m ∷ ms) (n ∷ ns) a b =
      let first : slice_get (paths_of fs) m ≡ Some w = cc in
      let second : slice_get (paths_of fs) n ≡ Some w = cc in
      ap₂ (λ (x : ℕ) (xs : List ℕ). x ∷ xs) (path.once fs ascending m n w first second)
      (same_numbers ws ms ns (let more : AreFiles (paths_of fs) ws ms = cc in more) (let more : AreFiles (paths_of fs) ws ns = cc in more))

  same_prepend : (path : Option (List ℕ)) (p q : Option ℕ) → IsPrepend (paths_of fs) path p → IsPrepend (paths_of fs) path q → p ≡ q
  same_prepend None p q a b = a ∙ sym b
  same_prepend (Some w) None q a b = absurd a
  same_prepend (Some w) (Some n) None a b = absurd b
  same_prepend (Some w) (Some n) (Some m) a b = ap (λ (x : ℕ). Some x) (path.once fs ascending n m w a b)

  same_entries : (t : Table) (listed : Option (List (List ℕ))) (es ds : List ℕ) → AreEntries (paths_of fs) t listed es
      → AreEntries (paths_of fs) t listed ds → es ≡ ds
  same_entries t None es ds a b = a ∙ sym b
  same_entries t (Some ws) es ds a b =
      completes_once (paths_of fs) t (counted 0 (length (paths_of fs))) b.0 es ds
      (subst (λ (ns : List ℕ). Completes (paths_of fs) t ns (counted 0 (length (paths_of fs))) es)
      (same_numbers ws a.0 b.0 a.1 b.1) a.2) b.2

  -- names that are not refused are clear
  pub clear : (t : Table) (listed : Option (List (List ℕ))) (prepend : Option (List ℕ))
      → IsUnrefused (paths_of fs) t listed prepend → AreClear (paths_of fs) t listed prepend
  clear t listed prepend h = record {
    entries = h.es;
    first = h.p;
    asked = h.asked;
    once = λ es p a. subst (λ (ds : List ℕ). IsDeclaredOnce (paths_of fs) t ds p)
        (same_entries t listed h.es es h.asked.entries a.entries)
        (subst (λ (q : Option ℕ). IsDeclaredOnce (paths_of fs) t h.es q)
        (same_prepend prepend h.p p h.asked.prepended a.prepended) h.once);
    no_cycle = h.no_cycle;
  }
