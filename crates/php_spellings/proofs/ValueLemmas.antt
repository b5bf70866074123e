-- The values of digits.
use Rattle.std.proofs.Common.{◌≡◌, ℕ, ◌+◌, ◌*◌, ◌<◌, ◌≤◌, Bool, true, false, cond, nat_eq, nat_le, List, [], ◌∷◌, length, get_or, drop, refl, arith}
use Rattle.std.proofs.Math.Nat.{le-mul_of_pos_right}
use Rattle.std.proofs.lemmas.Bool.{le-leb}
use Rattle.std.proofs.lemmas.Bool.Decides.{nat_tests}
use Rattle.php_spellings.specs.Words.{greatest_int, digit_value, value_step, value_from}
use Rattle.php_spellings.proofs.StartLemmas.{split, drop_end}

times : (value base : ℕ) → 1 ≤ base → value ≤ value * base
times value base h = let some : 0 < base = omega arith in le-mul_of_pos_right value some

step_grows : (base value b : ℕ) → 1 ≤ base → (t : Bool) → value ≤ cond t value (value * base + digit_value b)
step_grows base value b h true = omega arith
step_grows base value b h false = let more = times value base h in omega arith

-- a value only grows
value_grows : (base : ℕ) → 1 ≤ base → (value : ℕ) (bs : List ℕ) → value ≤ value_from base value bs
value_grows base h value [] = omega arith
value_grows base h value (b ∷ bs) =
    let step : value ≤ value_step base value b = step_grows base value b h (nat_eq b 95) in
    let more : value_step base value b ≤ value_from base (value_step base value b) bs = value_grows base h (value_step base value b) bs in
    omega arith

pub value_more : (base value : ℕ) (bs : List ℕ) (i : ℕ) → i < length bs
    → value_from base value (drop i bs) ≡ value_from base (value_step base value (get_or bs i 0)) (drop (i + 1) bs)
value_more base value bs i lt = let p = split bs i lt in rw p refl

pub value_past : (base value : ℕ) (bs : List ℕ) (i : ℕ) → 1 ≤ base → i < length bs
    → greatest_int < value_step base value (get_or bs i 0) → nat_le (value_from base value (drop i bs)) greatest_int ≡
    false
value_past base value bs i h lt past =
    let more = value_grows base h (value_step base value (get_or bs i 0)) (drop (i + 1) bs) in
    let same = value_more base value bs i lt in
    grind (arith, nat_tests)

pub value_end : (base value : ℕ) (bs : List ℕ) (i : ℕ) → length bs ≤ i → value ≤ greatest_int → nat_le (value_from base value (drop i bs)) greatest_int ≡ true
value_end base value bs i le h = let p = drop_end bs i le in rw p (le-leb value greatest_int h)
