-- A line that doesn't fit.
use Rattle.std.proofs.Common.{◌≡◌, ℕ, zero, suc, ◌<◌, true, false, List, [], ◌∷◌, length, drop, refl, arith}
use Rattle.php_terminals.specs.Indents.{is_indented, line_fits}

pub misfit : (indent text : List ℕ) (i : ℕ) → i < length text → line_fits indent (drop i text) ≡ false → is_indented indent true (drop i text) ≡ false
misfit indent [] i lt h = absurd (omega arith)
misfit indent (b ∷ bs) zero lt h = rw h refl
misfit indent (b ∷ bs) (suc i) lt h = misfit indent bs i (omega arith) h
