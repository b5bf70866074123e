-- Files by their paths: each path stands once.
use Rattle.std.proofs.Common.{◌≡◌, ◌<◌, ◌≤◌, ◌⊎◌, inl, inr, ◌↔◌, ℕ, zero, suc, ◌+◌, true, List, [], ◌∷◌, refl, sym, ap, ◌∙◌, arith, slice_get, Some, Less, Equal, Greater}
use Rattle.std.specs.Prelude.{IsTrue}
use Rattle.std.specs.Ordering.{nat_cmp, is_lt, is_eq, ordering_reverse}
use Rattle.std.specs.declared.cmp.Ordering.{Ordering}
use Rattle.std.specs.Cmp.Lexicographic.{slice_cmp, bytes_decides, texts_ties, nat_list_cmp_total}
use Rattle.std.proofs.lemmas.Bool.{and_parts, cases_order}
use Rattle.std.proofs.lemmas.Option.{same_Some, none-some}
use Rattle.std.proofs.lemmas.Cmp.{tied_itself}
use Rattle.php_rows.specs.declared.file.RowTree.{RowTree}
use Rattle.program_names.specs.Files.{Files, are_ascending}
use Rattle.program_names.specs.Entries.{paths_of}

less_from : (o : Ordering) → is_lt o ≡ true → o ≡ Less
less_from Less e = refl
less_from Equal e = absurd (cc)
less_from Greater e = absurd (cc)

same_from : (a b : List ℕ) → slice_cmp nat_cmp a b ≡ Equal → a ≡ b
same_from a b e = (bytes_decides a b).0 (texts_ties a b ∙ ap is_eq e)

apart : (a : List ℕ) → slice_cmp nat_cmp a a ≡ Less → ⊥
apart a e = let t : slice_cmp nat_cmp a a ≡ Equal = tied_itself nat_list_cmp_total a in cc

-- a path stands before each behind it
first_below : (f : List ℕ × RowTree) (fs : Files) → IsTrue (are_ascending (f ∷ fs)) → (j : ℕ) (b : List ℕ) → slice_get (paths_of fs) j ≡ Some b → slice_cmp nat_cmp f.0 b ≡ Less
first_below f [] h j b e = absurd (none-some b e)
first_below f (g ∷ gs) h zero b e =
    let is = and_parts (is_lt (slice_cmp nat_cmp f.0 g.0)) (are_ascending (g ∷ gs)) h in
    ap (λ (x : List ℕ). slice_cmp nat_cmp f.0 x) (sym (same_Some g.0 b e)) ∙ less_from (slice_cmp nat_cmp f.0 g.0) is.0
first_below f (g ∷ gs) h (suc j) b e =
    let is = and_parts (is_lt (slice_cmp nat_cmp f.0 g.0)) (are_ascending (g ∷ gs)) h in
    nat_list_cmp_total.trans f.0 g.0 b (less_from (slice_cmp nat_cmp f.0 g.0) is.0) (first_below g gs is.1 j b e)

rest_ascends : (f : List ℕ × RowTree) (fs : Files) → IsTrue (are_ascending (f ∷ fs)) → IsTrue (are_ascending fs)
rest_ascends f [] h = refl
rest_ascends f (g ∷ gs) h = (and_parts (is_lt (slice_cmp nat_cmp f.0 g.0)) (are_ascending (g ∷ gs)) h).1

-- the paths ascend over any distance
pub ascending_far : (fs : Files) → IsTrue (are_ascending fs) → (i j : ℕ) (a b : List ℕ) → i < j
    → slice_get (paths_of fs) i ≡ Some a → slice_get (paths_of fs) j ≡ Some b → slice_cmp nat_cmp a b ≡ Less
ascending_far [] h i j a b l e d = absurd (none-some a e)
ascending_far (f ∷ fs) h zero zero a b l e d = absurd (omega (arith, l))
ascending_far (f ∷ fs) h zero (suc j) a b l e d = ap (λ (x : List ℕ). slice_cmp nat_cmp x b) (sym (same_Some f.0 a e)) ∙ first_below f fs h j b d
ascending_far (f ∷ fs) h (suc i) zero a b l e d = absurd (omega (arith, l))
ascending_far (f ∷ fs) h (suc i) (suc j) a b l e d = ascending_far fs (rest_ascends f fs h) i j a b (omega (arith, l)) e d

-- a path stands at one place
pub once : (fs : Files) → IsTrue (are_ascending fs) → (i j : ℕ) (a : List ℕ) → slice_get (paths_of fs) i ≡ Some a → slice_get (paths_of fs) j ≡ Some a → i ≡ j
once fs h i j a e d = at (cases_order i j)
  where
    at : (i ≡ j) ⊎ ((i < j) ⊎ (j < i)) → i ≡ j
    at (inl s) = s
    at (inr (inl l)) = absurd (apart a (ascending_far fs h i j a a l e d))
    at (inr (inr l)) = absurd (apart a (ascending_far fs h j i a a l d e))

path_at : (fs : Files) (m : ℕ) (x : List ℕ × RowTree) → slice_get fs m ≡ Some x → slice_get (paths_of fs) m ≡ Some x.0
path_at [] m x e = absurd (none-some x e)
path_at (f ∷ fs) zero x e = ap (λ (y : List ℕ × RowTree). Some y.0) (same_Some f x e)
path_at (f ∷ fs) (suc m) x e = path_at fs m x e

-- no path is one of those up to a file before it
pub none_below : (fs : Files) (p : List ℕ) (m : ℕ) (x : List ℕ × RowTree) → IsTrue (are_ascending fs)
    → slice_get fs m ≡ Some x → slice_cmp nat_cmp x.0 p ≡ Less → (k : ℕ) → k < m + 1
    → slice_get (paths_of fs) k ≡ Some p → ⊥
none_below fs p m x h e l k s d = at (cases_order k m)
  where
    at : (k ≡ m) ⊎ ((k < m) ⊎ (m < k)) → ⊥
    at (inl t) =
        let same : x.0 ≡ p = same_Some x.0 p (sym (path_at fs m x e) ∙ ap (λ (i : ℕ). slice_get (paths_of fs) i) (sym t) ∙ d) in
        apart p (ap (λ (a : List ℕ). slice_cmp nat_cmp a p) (sym same) ∙ l)
    at (inr (inl t)) = apart p (nat_list_cmp_total.trans p x.0 p (ascending_far fs h k m p x.0 t d (path_at fs m x e)) l)
    at (inr (inr t)) = omega (arith, t, s)

-- or of those from a file behind it on
pub none_above : (fs : Files) (p : List ℕ) (m : ℕ) (x : List ℕ × RowTree) → IsTrue (are_ascending fs)
    → slice_get fs m ≡ Some x → slice_cmp nat_cmp x.0 p ≡ Greater → (k : ℕ) → m ≤ k
    → slice_get (paths_of fs) k ≡ Some p → ⊥
none_above fs p m x h e l k s d = at (cases_order k m)
  where
    less : slice_cmp nat_cmp p x.0 ≡ Less
    less = nat_list_cmp_total.antisymm p x.0 ∙ ap ordering_reverse l

    at : (k ≡ m) ⊎ ((k < m) ⊎ (m < k)) → ⊥
    at (inl t) =
        let same : x.0 ≡ p = same_Some x.0 p (sym (path_at fs m x e) ∙ ap (λ (i : ℕ). slice_get (paths_of fs) i) (sym t) ∙ d) in
        apart p (ap (λ (a : List ℕ). slice_cmp nat_cmp p a) (sym same) ∙ less)
    at (inr (inl t)) = omega (arith, t, s)
    at (inr (inr t)) = apart p (nat_list_cmp_total.trans p x.0 p less (ascending_far fs h m k x.0 p t (path_at fs m x e) d))

-- a file with the path is the only one
pub found : (fs : Files) (p : List ℕ) (m : ℕ) (x : List ℕ × RowTree) → IsTrue (are_ascending fs)
    → slice_get fs m ≡ Some x → slice_cmp nat_cmp x.0 p ≡ Equal → (f : ℕ)
    → (slice_get (paths_of fs) f ≡ Some p) ↔ (Some m ≡ Some f)
found fs p m x h e l f = ((λ d. ap (λ (i : ℕ). Some i) (once fs h m f p here d)), (λ d. ap (λ (i : ℕ). slice_get (paths_of fs) i) (sym (same_Some m f d)) ∙ here))
  where
    here : slice_get (paths_of fs) m ≡ Some p
    here = path_at fs m x e ∙ ap (λ (a : List ℕ). Some a) (same_from x.0 p l)
