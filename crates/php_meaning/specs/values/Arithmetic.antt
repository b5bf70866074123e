-- Arithmetic, the operators on bits, and `.`. (PHP manual, "Arithmetic Operators", "Bitwise Operators", "String
-- Operators" and "Incrementing/Decrementing Operators".)
use Rattle.std.specs.Prelude.{ℕ, Bool, if◌then◌else◌, ◌==◌, List, ◌++◌, ℤ, pos, ◌+ℤ◌, ◌-ℤ◌, ◌*ℤ◌, neg_ℤ, nat_abs, int_div, int_rem, bit_and, bit_or, bit_xor}
use Rattle.php_meaning.specs.values.Value.{Value, Null, Truth, Int, Text, Object, Arr}
use Rattle.php_meaning.specs.Cause.{Outcome, Gives, Outside, Conversion, Overflow, DivisionByZeroError, Came, Returns, Throws, and_then, outcome_map}
use Rattle.php_meaning.specs.values.Ints.{checked}
use Rattle.php_meaning.specs.values.Text.{Class, Whole, WholeTail, Fraction, Lead, Word, class, passes}
use Rattle.php_meaning.specs.Differences.{ByVersion, Alike, by_version_map, by_version_then, gives_then}
use Rattle.php_meaning.specs.values.Convert.{to_number, to_text}
use Rattle.php_meaning.specs.values.Bits.{ints_bitwise, left_by, right_by, shift, texts_and, texts_or, texts_xor}
use Rattle.php_meaning.specs.values.Arrays.{array, union}

-- ---- ints

-- an int that an operation gives
abbrev pub int_came : Outcome ℤ → Outcome Came
int_came r = outcome_map (λ i. Returns (Int i)) r

abbrev pub is_zero : ℤ → Bool
is_zero i = nat_abs i == 0

-- a quotient, outside where it is no int
abbrev pub exact_quotient : ℤ → ℤ → Outcome ℤ
exact_quotient i j =
    if is_zero j then Outside Overflow else (if is_zero (int_rem i j) then checked (int_div i j) else Outside Overflow)

-- a remainder, with the sign of the left operand
abbrev pub remainder : ℤ → ℤ → Outcome Came
remainder i j = if is_zero j then Gives (Throws DivisionByZeroError) else Gives (Returns (Int (int_rem i j)))

-- ---- operands

-- what an operation on ints gives of two operands, the left one converted first
abbrev pub of_numbers : (ℤ → ℤ → Outcome Came) → Value → Value → ByVersion (Outcome Came)
of_numbers on_ints a b =
    by_version_then (to_number a) (λ m. gives_then m (λ i.
    by_version_map (λ n. and_then n (λ j. on_ints i j)) (to_number b)))

-- What the left operand of `+ - * / % << >> & | ^` is, before the right one is evaluated: an object, a text of class
-- Fraction, and a text whose digits pass 64 bits are outside. (This project's own.)
abbrev pub left_text : Class → List ℕ → Outcome Value
left_text Whole t = if passes t then Outside Overflow else Gives (Text t)
left_text WholeTail t = if passes t then Outside Overflow else Gives (Text t)
left_text Fraction t = Outside Conversion
left_text Lead t = if passes t then Outside Overflow else Gives (Text t)
left_text Word t = Gives (Text t)

abbrev pub left_of_arithmetic : Value → Outcome Value
left_of_arithmetic Null = Gives Null
left_of_arithmetic (Truth b) = Gives (Truth b)
left_of_arithmetic (Int i) = Gives (Int i)
left_of_arithmetic (Text t) = left_text (class t) t
left_of_arithmetic (Object n) = Outside Conversion
left_of_arithmetic (Arr largest next es) = Gives (Arr largest next es)

-- ---- arithmetic

-- the union of two values that are arrays
abbrev pub union_of : Value → Value → Outcome Came
union_of (Arr l m es) (Arr l' m' fs) =
    Gives (Returns (array (union (record { largest = l; next = m; entries = es })
    (record { largest = l'; next = m'; entries = fs }))))
union_of a b = Outside Conversion

-- `+`, where `copy` copies an array
abbrev pub plus : (Value → Outcome Value) → Value → Value → ByVersion (Outcome Came)
plus copy (Arr l m es) (Arr l' m' fs) =
    Alike (and_then (copy (Arr l m es)) (λ a. and_then (copy (Arr l' m' fs)) (λ b. union_of a b)))
plus copy a b = of_numbers (λ i j. int_came (checked (i +ℤ j))) a b

-- `-`
abbrev pub minus : Value → Value → ByVersion (Outcome Came)
minus a b = of_numbers (λ i j. int_came (checked (i -ℤ j))) a b

-- `*`
abbrev pub times : Value → Value → ByVersion (Outcome Came)
times a b = of_numbers (λ i j. int_came (checked (i *ℤ j))) a b

-- `/`
abbrev pub divided : Value → Value → ByVersion (Outcome Came)
divided a b = of_numbers (λ i j. int_came (exact_quotient i j)) a b

-- `%`
abbrev pub modulo : Value → Value → ByVersion (Outcome Came)
modulo a b = of_numbers remainder a b

-- unary `-` and `+`
abbrev pub negative : Value → ByVersion (Outcome Came)
negative a = by_version_map (λ n. and_then n (λ i. int_came (checked (neg_ℤ i)))) (to_number a)

abbrev pub positive : Value → ByVersion (Outcome Came)
positive a = by_version_map int_came (to_number a)

-- ---- bits

-- `<<` and `>>`
abbrev pub left_shift : Value → Value → ByVersion (Outcome Came)
left_shift a b = of_numbers (shift left_by) a b

abbrev pub right_shift : Value → Value → ByVersion (Outcome Came)
right_shift a b = of_numbers (shift right_by) a b

-- texts by one operation, anything else as ints by the other one
abbrev pub bitwise : (List ℕ → List ℕ → List ℕ) → (ℕ → ℕ → ℕ) → Value → Value → ByVersion (Outcome Came)
bitwise on_texts on_bits (Text s) (Text t) = Alike (Gives (Returns (Text (on_texts s t))))
bitwise on_texts on_bits a b = of_numbers (λ i j. Gives (Returns (Int (ints_bitwise on_bits i j)))) a b

-- `&`, `|` and `^`
abbrev pub bits_and : Value → Value → ByVersion (Outcome Came)
bits_and a b = bitwise texts_and bit_and a b

abbrev pub bits_or : Value → Value → ByVersion (Outcome Came)
bits_or a b = bitwise texts_or bit_or a b

abbrev pub bits_xor : Value → Value → ByVersion (Outcome Came)
bits_xor a b = bitwise texts_xor bit_xor a b

-- ---- texts, and steps

-- `.`
abbrev pub joined : Value → Value → Outcome Value
joined a b = and_then (to_text a) (λ s. outcome_map (λ t. Text (s ++ t)) (to_text b))

-- a value after `++`
abbrev pub incremented : Value → Outcome Value
incremented Null = Gives (Int (pos 1))
incremented (Truth b) = Gives (Truth b)
incremented (Int i) = outcome_map Int (checked (i +ℤ pos 1))
incremented (Text t) = Outside Conversion
incremented (Object n) = Outside Conversion
incremented (Arr largest next es) = Outside Conversion

-- a value after `--`
abbrev pub decremented : Value → Outcome Value
decremented Null = Gives Null
decremented (Truth b) = Gives (Truth b)
decremented (Int i) = outcome_map Int (checked (i -ℤ pos 1))
decremented (Text t) = Outside Conversion
decremented (Object n) = Outside Conversion
decremented (Arr largest next es) = Outside Conversion
