-- The first place from one on of which something holds.
use Rattle.std.specs.Prelude.{◌≡◌, ◌<◌, ◌≤◌, ℕ, ◌+◌, List, length, slice_get, Option, Some, None}
use Rattle.std.specs.declared.cmp.Ordering.{Ordering}
use Rattle.std.specs.declared.cmp.Ordering.TheVariants.{Equal}

abbrev pub IsFirstAt : (ℕ → Type 0) → ℕ → Option ℕ → Type 0
IsFirstAt P i None = (j : ℕ) → i ≤ j → P j → ⊥
IsFirstAt P i (Some j) = (i ≤ j) × P j × ((l : ℕ) → i ≤ l → l < j → P l → ⊥)

-- a key equal to one stands at a place
pub record HasEqual {K : Type 0} (cmp : K → K → Ordering) (ks : List (Option K)) (k : K) (j : ℕ) : Type 0 where
  pub key : K
  pub at : slice_get ks j ≡ Some (Some key)
  pub equal : cmp k key ≡ Equal

-- for each place with a key the next place with an equal one, and none for the others
pub record AreLater {K : Type 0} (cmp : K → K → Ordering) (ks : List (Option K)) (ns : List (Option ℕ)) : Type 0 where
  pub size : length ns ≡ length ks
  pub each : (i : ℕ) (k : K) → slice_get ks i ≡ Some (Some k) → (n : Option ℕ) × (slice_get ns i ≡ Some n) × IsFirstAt (HasEqual cmp ks k) (i + 1) n
  pub none : (i : ℕ) → slice_get ks i ≡ Some None → slice_get ns i ≡ Some None
