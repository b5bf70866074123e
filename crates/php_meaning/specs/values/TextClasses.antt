-- What each class of a text says, beside the function that finds it.
use Rattle.std.specs.Prelude.{◌≡◌, ℕ, Bool, ◌||◌, List, [], ◌∷◌, ◌++◌, ◌⊎◌, IsTrue, IsFalse, ⊤}
use Rattle.php_meaning.specs.values.Text.{Class, Whole, WholeTail, Fraction, Lead, Word, is_space, is_digit, is_point, is_exponent}

-- each byte passes a test
abbrev pub Each : (ℕ → Bool) → List ℕ → Type 0
Each test [] = ⊤
Each test (b ∷ bs) = IsTrue (test b) × Each test bs

-- a plus sign, a minus sign, or none
pub data IsSign : List ℕ → Type 0 where
  no_sign : IsSign []
  plus_sign : IsSign (43 ∷ [])
  minus_sign : IsSign (45 ∷ [])

-- white space, a sign, and at least one digit
pub record IsNumber (text : List ℕ) : Type 0 where
  pub spaces : List ℕ
  pub sign : List ℕ
  pub digit : ℕ
  pub digits : List ℕ
  pub are_spaces : Each is_space spaces
  pub is_sign : IsSign sign
  pub are_digits : Each is_digit (digit ∷ digits)
  pub made : text ≡ spaces ++ (sign ++ digit ∷ digits)

-- a number, and more behind it, which begins with no digit
pub record NumberAndMore (text : List ℕ) : Type 0 where
  pub number : List ℕ
  pub next : ℕ
  pub others : List ℕ
  pub is_number : IsNumber number
  pub is_longest : IsFalse (is_digit next)
  pub made : text ≡ number ++ next ∷ others

-- white space, a sign, a point and a digit
pub record PointFirst (text : List ℕ) : Type 0 where
  pub spaces : List ℕ
  pub sign : List ℕ
  pub point : ℕ
  pub digit : ℕ
  pub others : List ℕ
  pub are_spaces : Each is_space spaces
  pub is_sign : IsSign sign
  pub is_the_point : IsTrue (is_point point)
  pub is_a_digit : IsTrue (is_digit digit)
  pub made : text ≡ spaces ++ (sign ++ point ∷ digit ∷ others)

-- whether what follows a number makes it a fraction
abbrev pub goes_on_as_fraction : ℕ → Bool
goes_on_as_fraction b = is_point b || is_exponent b

-- what a class says of a text
abbrev pub HasClass : Class → List ℕ → Type 0
HasClass Whole t = IsNumber t
HasClass WholeTail t = (m : NumberAndMore t) × Each is_space (m.next ∷ m.others)
HasClass Fraction t = ((m : NumberAndMore t) × IsTrue (goes_on_as_fraction m.next)) ⊎ PointFirst t
HasClass Lead t =
    (m : NumberAndMore t) × IsFalse (goes_on_as_fraction m.next) × (¬ Each is_space (m.next ∷ m.others))
HasClass Word t = (¬ IsNumber t) × (¬ NumberAndMore t) × (¬ PointFirst t)
