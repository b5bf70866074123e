use Rattle.std.proofs.Common.{◌≡◌, ◌++◌, ℕ, [], map, drop, get_or}
use Rattle.class_cycles.proofs.cycle.named.Given as goal

abbrev pub invariant-loop-place : goal.invariant-loop-place
invariant-loop-place l = l.all.items ++ map (λ (i : ℕ). get_or l.names i []) (drop l.place-index l.places) ≡ map (λ (i : ℕ). get_or l.names i []) l.places
