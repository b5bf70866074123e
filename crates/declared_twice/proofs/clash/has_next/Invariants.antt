use Rattle.std.proofs.Common.{◌≡◌, ◌<◌, ℕ, Some, slice_get}
use Rattle.declared_twice.proofs.clash.has_next.Given as goal

abbrev pub invariant-loop-place : goal.invariant-loop-place
invariant-loop-place l = (i j : ℕ) → i < l.place → slice_get l.later i ≡ Some (Some j) → ⊥
