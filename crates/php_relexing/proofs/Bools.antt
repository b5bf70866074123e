-- Truth values.
use Rattle.std.proofs.Common.{◌≡◌, Bool, true, false, not, ◌&&◌, refl}

pub and_false : (x : Bool) → (x && false) ≡ false
and_false true = refl
and_false false = refl
