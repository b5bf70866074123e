-- The five classes of a text and its number. (PHP manual, "Numeric strings"; the names of the classes are this
-- project's own.)
use Rattle.std.specs.Prelude.{ℕ, ◌-◌, Bool, true, false, ◌&&◌, ◌||◌, not, if◌then◌else◌, ◌==◌, nat_le, List, [], ◌∷◌, map, ℤ, pos, int_le}
use Rattle.std.specs.Int.Digits.{number_from_digits}
use Rattle.php_meaning.specs.Cause.{Outcome, Gives, Outside, Conversion, Overflow}
use Rattle.php_meaning.specs.values.Ints.{least, fits, signed}

-- ---- bytes

-- white space: space, tab, line feed, vertical tab, form feed, carriage return
abbrev pub is_space : ℕ → Bool
is_space b = b == 32 || (nat_le 9 b && nat_le b 13)

abbrev pub is_digit : ℕ → Bool
is_digit b = nat_le 48 b && nat_le b 57

-- plus and minus
abbrev pub is_plus : ℕ → Bool
is_plus b = b == 43

abbrev pub is_minus : ℕ → Bool
is_minus b = b == 45

abbrev pub is_point : ℕ → Bool
is_point b = b == 46

-- the letter before an exponent, in both cases
abbrev pub is_exponent : ℕ → Bool
is_exponent b = b == 101 || b == 69

-- ---- the parts of a text: white space, a sign, digits, and the rest

-- what stands behind the white space at the front
abbrev pub behind_spaces : List ℕ → List ℕ
behind_spaces [] = []
behind_spaces (b ∷ bs) = if is_space b then behind_spaces bs else b ∷ bs

-- whether all is white space
abbrev pub are_spaces : List ℕ → Bool
are_spaces [] = true
are_spaces (b ∷ bs) = is_space b && are_spaces bs

-- what stands behind a sign at the front
abbrev pub behind_sign : List ℕ → List ℕ
behind_sign [] = []
behind_sign (b ∷ bs) = if is_plus b || is_minus b then bs else b ∷ bs

-- whether a minus sign stands at the front
abbrev pub begins_with_minus : List ℕ → Bool
begins_with_minus [] = false
begins_with_minus (b ∷ bs) = is_minus b

-- the digits at the front, and what stands behind them
abbrev pub digits_in_front : List ℕ → List ℕ
digits_in_front [] = []
digits_in_front (b ∷ bs) = if is_digit b then b ∷ digits_in_front bs else []

abbrev pub behind_digits : List ℕ → List ℕ
behind_digits [] = []
behind_digits (b ∷ bs) = if is_digit b then behind_digits bs else b ∷ bs

-- a text's digits, and its rest behind them
abbrev pub digits_of : List ℕ → List ℕ
digits_of t = digits_in_front (behind_sign (behind_spaces t))

abbrev pub rest_of : List ℕ → List ℕ
rest_of t = behind_digits (behind_sign (behind_spaces t))

-- ---- the class

pub data Class : Type 0 where
  -- white space, a sign and digits
  Whole : Class
  -- the same, with white space behind it
  WholeTail : Class
  -- the same before a point or an exponent, or digits behind a point alone
  Fraction : Class
  -- the same, with anything else behind it
  Lead : Class
  -- no number at the front
  Word : Class

-- whether a point and a digit stand at the front
abbrev pub begins_with_point : List ℕ → Bool
begins_with_point [] = false
begins_with_point (a ∷ []) = false
begins_with_point (a ∷ b ∷ bs) = is_point a && is_digit b

-- the class of a text with these digits and this rest
abbrev pub class_by : List ℕ → List ℕ → Class
class_by [] rest = if begins_with_point rest then Fraction else Word
class_by (d ∷ ds) [] = Whole
class_by (d ∷ ds) (b ∷ bs) =
    if is_point b || is_exponent b then Fraction else (if are_spaces (b ∷ bs) then WholeTail else Lead)

abbrev pub class : List ℕ → Class
class t = class_by (digits_of t) (rest_of t)

-- ---- the number

-- the number that digits write
abbrev pub number_of_digits : List ℕ → ℕ
number_of_digits ds = number_from_digits 10 (map (λ d. d - 48) ds)

-- the number at a text's front, 0 where there are no digits
abbrev pub front_number : List ℕ → ℤ
front_number t = signed (begins_with_minus (behind_spaces t)) (number_of_digits (digits_of t))

-- whether a number with this rest behind it is within 64 bits: PHP reads the least int only where nothing follows it
abbrev pub fits_before : List ℕ → ℤ → Bool
fits_before [] i = fits i
fits_before (b ∷ bs) i = fits i && not (int_le i least)

-- whether a text's digits pass 64 bits
abbrev pub passes : List ℕ → Bool
passes t = not (fits_before (rest_of t) (front_number t))

-- the number of a text of a class
abbrev pub number_by : Class → List ℕ → Outcome ℤ
number_by Whole t = if passes t then Outside Overflow else Gives (front_number t)
number_by WholeTail t = if passes t then Outside Overflow else Gives (front_number t)
number_by Fraction t = Outside Conversion
number_by Lead t = if passes t then Outside Overflow else Gives (front_number t)
number_by Word t = Gives (pos 0)

-- the number of a text
abbrev pub number : List ℕ → Outcome ℤ
number t = number_by (class t) t
