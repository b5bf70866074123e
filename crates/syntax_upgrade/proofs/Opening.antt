-- Parentheses that open one after another.
use Rattle.std.proofs.Common.{◌≡◌, ℕ, zero, suc, ◌-◌, ◌<◌, refl, ap, codes, arith}
use Rattle.syntax_upgrade.specs.Writing.{Recorded, changed_next}
use Rattle.syntax_upgrade.specs.Written.{opens_next}

opens_inner : (n : ℕ) (r : Recorded) → opens_next n (changed_next (codes "(") r) ≡ changed_next (codes "(") (opens_next n r)
opens_inner zero r = refl
opens_inner (suc n) r = ap (changed_next (codes "(")) (opens_inner n r)

-- the first of them
pub opens_one : (n : ℕ) (r : Recorded) → 0 < n → opens_next (n - 1) (changed_next (codes "(") r) ≡ opens_next n r
opens_one zero r h = absurd (let e : 0 < 0 = h in omega arith)
opens_one (suc n) r h = let e : suc n - 1 ≡ n = omega arith in rw e (opens_inner n r)
