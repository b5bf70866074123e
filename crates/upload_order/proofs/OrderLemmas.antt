-- Files in the order of their paths.
use Rattle.std.proofs.Common.{◌≡◌, ℕ, zero, suc, ◌+◌, ◌<◌, ◌≤◌, Bool, true, false, cond, List, [], ◌∷◌, length, get_or, ap, sym, ◌∙◌, refl, arith, subst}
use Rattle.std.specs.Cmp.Lexicographic.{slice_cmp, nat_list_cmp_total, bytes_decides, texts_ties}
use Rattle.std.specs.declared.cmp.Ordering.{Ordering}
use Rattle.std.specs.declared.cmp.Ordering.TheVariants.{Less, Equal, Greater}
use Rattle.std.specs.Prelude.{if◌then◌else◌}
use Rattle.std.specs.Bool.{OnFalse}
use denote.Ref.{Bor}
use denote.Param.Members.{Mut}
use Rattle.std.specs.Cmp.{IsStrictWeakOrder}
use Rattle.std.specs.Fn.{Called, ComparesAs}
use Rattle.std.proofs.lemmas.Fn.{always_returns_same}
use Rattle.std.specs.List.{list_all}
use Rattle.std.specs.List.Sorted.{IsPermutation, IsSortedBy}
use Rattle.std.specs.Ordering.{is_eq, is_lt, nat_cmp, ordering_reverse}
use Rattle.std.specs.Str.{bytes_eq}
use Rattle.std.proofs.lemmas.List.Recursion.{is_count_by}
use Rattle.std.proofs.lemmas.List.Sorted.{ranks_by, sum_by-IsPermutation}
use Rattle.io_ports.specs.Files.{File, IsTree}
use Rattle.io_ports.proofs.FileLaws.{less_differs, tree_rest}
use Rattle.upload_order.specs.Paths.{AreSorted, Orders, Repeats, is_path, times}

abbrev below : File → File → Bool
below f g = is_lt (slice_cmp nat_cmp f.0 g.0)

-- sorted by places, and so one after another
pub sorted_on : (fs : List File) → IsSortedBy below fs → AreSorted fs
sorted_on [] s = tt
sorted_on (f ∷ []) s = tt
sorted_on (f ∷ g ∷ fs) s = (
  s 0 f (omega arith) (omega arith),
  sorted_on (g ∷ fs) (λ k d l h. subst (λ i. below (get_or (f ∷ g ∷ fs) i d) (get_or (g ∷ fs) k d) ≡ false)
      (next k) (s (suc k) d (omega arith) (omega (arith, h)))),
)
  where
    next : (k : ℕ) → suc k + 1 ≡ suc (k + 1)
    next k = omega arith

-- the first path of a tree doesn't come again
module _ (f : File) where
  once : (fs : List File) → IsTree (f ∷ fs) → times f.0 fs ≡ 0
  once [] t = refl
  once (g ∷ fs) t =
      ap (λ b. if b then 1 + times f.0 fs else times f.0 fs) (less_differs f.0 g.0 t.0) ∙ once fs (skipped fs t)
    where
      skipped : (fs : List File) → IsTree (f ∷ g ∷ fs) → IsTree (f ∷ fs)
      skipped [] t = tt
      skipped (h ∷ hs) t = (nat_list_cmp_total.trans f.0 g.0 h.0 t.0 t.1.0, t.1.1)

-- no path of a tree stands twice
pub at_most_once : (path : List ℕ) (fs : List File) → IsTree fs → times path fs ≤ 1
at_most_once path [] t = omega arith
at_most_once path (f ∷ fs) t =
    by (bytes_eq path f.0) (λ e. ap (λ p. times p fs) ((bytes_decides path f.0).0 e) ∙ once f fs t) (at_most_once path fs (tree_rest f fs t))
  where
    by : (t : Bool) → (t ≡ true → times path fs ≡ 0) → times path fs ≤ 1 → (if t then 1 + times path fs else times path fs) ≤ 1
    by true none rest = omega (arith, none refl)
    by false none rest = rest

-- a path that comes again in the rest
pub repeats_later : (f : File) (fs : List File) → Repeats fs → Repeats (f ∷ fs)
repeats_later f fs r = (r.0, by (bytes_eq r.0 f.0) r.1)
  where
    by : (t : Bool) → 2 ≤ times r.0 fs → 2 ≤ (if t then 1 + times r.0 fs else times r.0 fs)
    by true h = omega (arith, h)
    by false h = h

pub repeats_behind : (f : File) (rest files : List File) (b : Bool) → files ≡ f ∷ rest → OnFalse b (Repeats rest)
    → OnFalse b (Repeats files)
repeats_behind f rest files true e r = tt
repeats_behind f rest files false e r = subst Repeats (sym e) (repeats_later f rest r)

-- two equal paths
pub repeats_here : (f g : File) (fs : List File) → slice_cmp nat_cmp f.0 g.0 ≡ Equal → Repeats (f ∷ g ∷ fs)
repeats_here f g fs e = (f.0, by (bytes_eq f.0 f.0) (bytes_eq f.0 g.0) ((bytes_decides f.0 f.0).1 refl) (texts_ties f.0 g.0 ∙ ap is_eq e))
  where
    by : (t u : Bool) → t ≡ true → u ≡ true
        → 2 ≤ (if t then 1 + (if u then 1 + times f.0 fs else times f.0 fs) else (if u then 1 + times f.0 fs else times f.0 fs))
    by true true p q = omega arith
    by true false p q = cc
    by false u p q = cc

-- a path stands as often in other orders
times_same : (path : List ℕ) (files sorted : List File) → IsPermutation files sorted → times path sorted ≡ times path files
times_same path files sorted same =
    is_count_by (times path) (λ f. bytes_eq path f.0) refl (λ x xs. refl) sorted
    ∙ sum_by-IsPermutation (λ f. cond (bytes_eq path f.0) 1 0) files sorted same
    ∙ sym (is_count_by (times path) (λ f. bytes_eq path f.0) refl (λ x xs. refl) files)

-- a greater path doesn't come first
pub not_greater : (f g : File) (fs : List File) → slice_cmp nat_cmp f.0 g.0 ≡ Greater → AreSorted (f ∷ g ∷ fs) → ⊥
not_greater f g fs e s = lost (nat_list_cmp_total.antisymm g.0 f.0 ∙ ap ordering_reverse e) s.0
  where
    lost : slice_cmp nat_cmp g.0 f.0 ≡ Less → is_lt (slice_cmp nat_cmp g.0 f.0) ≡ false → ⊥
    lost less is = cc (ap is_lt less, is)

-- files of which a path stands twice have no order
pub no_order : (files sorted : List File) → IsPermutation files sorted → Repeats sorted → (other : List File) → ¬ (Orders files other)
no_order files sorted same twice other o =
    omega (
      arith,
      twice.1,
      at_most_once twice.0 other o.tree,
      times_same twice.0 files sorted same,
      times_same twice.0 files other o.same,
    )

-- what a sort by paths says
pub sorted_by : {F : Type 0} {g : Mut F (Bor File × (Bor File × Unit {0})) Ordering} {f : F} (fs : List File)
    → ((lt : File → File → Bool) → IsStrictWeakOrder lt → ComparesAs g lt f → IsSortedBy lt fs)
    → ((a : Bor File × (Bor File × Unit {0})) (r : Ordering) (f' : F) → Called g f a r f' → (r ≡ slice_cmp nat_cmp a.0.now.0 a.1.0.now.0) × (f' ≡ f))
    → AreSorted fs
sorted_by {g = g} {f = f} fs up h =
    sorted_on fs (up below (ranks_by nat_list_cmp_total (λ p. p.0))
    (always_returns_same g (λ a r. is_lt r ≡ below a.0.now a.1.0.now) f (λ a r f' k. (ap is_lt (h a r f' k).0, (h a r f' k).1))))

-- nor have files without paths of PHP
pub no_paths : (files : List File) → list_all (λ f. is_path f.0) files ≡ false → (other : List File) → ¬ (Orders files other)
no_paths files e other o = cc (e, o.paths)
