-- Lists to which items are added.
use Rattle.std.specs.Prelude.{◌≡◌, ℕ, List, slice_get, Some, ◌⊎◌}

-- an item stands at some place
abbrev pub Has : {A : Type 0} → List A → A → Type 0
Has xs x = (i : ℕ) × (slice_get xs i ≡ Some x)

-- each item that there was stands where it stood
abbrev pub Keeps : {A : Type 0} → List A → List A → Type 0
Keeps {A} old new = (i : ℕ) (x : A) → slice_get old i ≡ Some x → slice_get new i ≡ Some x

-- each item was there, or is one of these
pub record HasOnly {A : Type 0} (old more new : List A) : Type 0 where
  pub each : (x : A) → Has new x → Has old x ⊎ Has more x

-- each item stands at one place
abbrev pub AreApart : {A : Type 0} → List A → Type 0
AreApart {A} xs = (i j : ℕ) (x : A) → slice_get xs i ≡ Some x → slice_get xs j ≡ Some x → i ≡ j
