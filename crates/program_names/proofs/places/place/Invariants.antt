use Rattle.std.proofs.Common.{◌≡◌, ◌<◌, ◌≤◌, ℕ, ◌-◌, length, slice_get, Some}
use Rattle.program_names.specs.Entries.{paths_of}
use Rattle.program_names.proofs.places.place.Given as goal

abbrev pub invariant-loop-low : goal.invariant-loop-low
invariant-loop-low l = record {
  order : l.low ≤ l.high;
  within : l.high ≤ length l.files;
  below : (k : ℕ) → k < l.low → slice_get (paths_of l.files) k ≡ Some l.path → ⊥;
  above : (k : ℕ) → l.high ≤ k → slice_get (paths_of l.files) k ≡ Some l.path → ⊥;
}

abbrev pub decreases-loop-low : goal.decreases-loop-low
decreases-loop-low l = l.high - l.low
