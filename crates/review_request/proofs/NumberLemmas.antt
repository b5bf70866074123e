-- Numbers in decimal digits.
use Rattle.std.proofs.Common.{◌≡◌, ℕ, ◌+◌, ◌*◌, ◌^◌, ◌-◌, ◌<◌, ◌≤◌, Bool, true, false, ◌&&◌, List, [], ◌∷◌, length, take, get_or, ap, sym, ◌∙◌, refl, arith}
use Rattle.std.specs.Char.{is_ascii_digit, digit_value}
use Rattle.std.specs.List.{list_all}
use Rattle.std.specs.Str.Parse.{AllDigits, digits_value}
use Rattle.std.proofs.lemmas.Int.Digits.{digits_value_more}
use Rattle.std.proofs.lemmas.Str.{digit_value_digit}
use Rattle.std.proofs.lemmas.Str.Parse.{IsNumeralModel, numerals_by_value, digits_value_short, digits_value-take-le, tells_all_ascii_digits, digit_at}
use Rattle.std.specs.Str.{all_ascii_digits}

-- the test of all digits, as std has it
as_std : (ds : List ℕ) → list_all is_ascii_digit ds ≡ all_ascii_digits ds
as_std [] = refl
as_std (d ∷ ds) = ap (λ b. is_ascii_digit d && b) (as_std ds)

own : IsNumeralModel (λ ds. all_ascii_digits ds ≡ true) (digits_value 10)
own = numerals_by_value (λ ds. all_ascii_digits ds ≡ true) tells_all_ascii_digits

-- so many digits write a number below this power
pub below : (ds : List ℕ) (k : ℕ) → list_all is_ascii_digit ds ≡ true → length ds ≤ k → digits_value 10 ds < 10 ^ k
below ds k e few = digits_value_short own ds k (sym (as_std ds) ∙ e) few

-- each of them is a digit
pub digit_within : (ds : List ℕ) (i : ℕ) → list_all is_ascii_digit ds ≡ true → i < length ds
    → (48 ≤ get_or ds i 0) × (get_or ds i 0 ≤ 57)
digit_within ds i e l = digit_at ds i (own.to ds (sym (as_std ds) ∙ e)) l

-- what the first ones write is no more than what all do
pub value_below : (ds : List ℕ) (i : ℕ) → list_all is_ascii_digit ds ≡ true → length ds ≤ 10
    → digits_value 10 (take i ds) < 10 ^ 10
value_below ds i e few = omega (arith, below ds 10 e few, digits_value-take-le 10 ds i (omega arith))

-- what one digit more writes
pub value_more : (ds : List ℕ) (i : ℕ) → list_all is_ascii_digit ds ≡ true → i < length ds
    → digits_value 10 (take (i + 1) ds) ≡ digits_value 10 (take i ds) * 10 + (get_or ds i 0 - 48)
value_more ds i e l =
    omega (arith, digits_value_more 10 ds i l, digit_value_digit (get_or ds i 0) (digit_within ds i e l))

-- nine digits write a number of 32 bits
pub short_number : (ds : List ℕ) → list_all is_ascii_digit ds ≡ true → length ds ≤ 9 → digits_value 10 ds < 4294967296
short_number ds e few = omega (arith, below ds 9 e few)
