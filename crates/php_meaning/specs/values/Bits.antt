-- Operations on bits, of ints and of texts. (PHP manual, "Bitwise Operators".)
use Rattle.std.specs.Prelude.{ℕ, ◌-◌, ◌*◌, ◌%◌, ◌^◌, if◌then◌else◌, nat_lt, List, [], ◌∷◌, map, ℤ, pos, negsuc, bit_and, bit_or, bit_xor}
use Rattle.std.specs.Int.{int_shr}
use Rattle.php_meaning.specs.values.Value.{Value, Null, Truth, Int, Text, Object, Arr}
use Rattle.php_meaning.specs.Cause.{Outcome, Gives, Outside, Conversion, ArithmeticError, Came, Returns, Throws}

-- ---- ints

-- an int as its 64 bits, and 64 bits as an int: a negative one stands for itself plus 2 ^ 64
abbrev pub bits_of : ℤ → ℕ
bits_of (pos n) = n
bits_of (negsuc n) = 2 ^ 64 - 1 - n

abbrev pub int_of_bits : ℕ → ℤ
int_of_bits n = if nat_lt n (2 ^ 63) then pos n else negsuc (2 ^ 64 - 1 - n)

-- two ints, bit by bit
abbrev pub ints_bitwise : (ℕ → ℕ → ℕ) → ℤ → ℤ → ℤ
ints_bitwise on_bits i j = int_of_bits (on_bits (bits_of i) (bits_of j))

-- all bits flipped
abbrev pub int_complement : ℤ → ℤ
int_complement (pos n) = negsuc n
int_complement (negsuc n) = pos n

-- to the left: what passes the highest bit is lost
abbrev pub shifted_left : ℤ → ℕ → ℤ
shifted_left i places = int_of_bits (bits_of i * 2 ^ places % 2 ^ 64)

-- a shift by 64 places or more leaves no bit but the sign's
abbrev pub left_by : ℤ → ℕ → ℤ
left_by i places = if nat_lt places 64 then shifted_left i places else pos 0

abbrev pub sign_alone : ℤ → ℤ
sign_alone (pos n) = pos 0
sign_alone (negsuc n) = negsuc 0

abbrev pub right_by : ℤ → ℕ → ℤ
right_by i places = if nat_lt places 64 then int_shr i places else sign_alone i

-- a shift, which throws where the number of places is negative
abbrev pub shift : (ℤ → ℕ → ℤ) → ℤ → ℤ → Outcome Came
shift by i (pos places) = Gives (Returns (Int (by i places)))
shift by i (negsuc n) = Gives (Throws ArithmeticError)

-- ---- texts

-- byte by byte, to the end of the shorter text
abbrev pub to_shorter : (ℕ → ℕ → ℕ) → List ℕ → List ℕ → List ℕ
to_shorter on_bits [] t = []
to_shorter on_bits (a ∷ more) [] = []
to_shorter on_bits (a ∷ more) (b ∷ bs) = on_bits a b ∷ to_shorter on_bits more bs

-- byte by byte, to the end of the longer text
abbrev pub to_longer : (ℕ → ℕ → ℕ) → List ℕ → List ℕ → List ℕ
to_longer on_bits [] t = t
to_longer on_bits (a ∷ more) [] = a ∷ more
to_longer on_bits (a ∷ more) (b ∷ bs) = on_bits a b ∷ to_longer on_bits more bs

-- two texts by `&`, by `|` and by `^`
abbrev pub texts_and : List ℕ → List ℕ → List ℕ
texts_and = to_shorter bit_and

abbrev pub texts_or : List ℕ → List ℕ → List ℕ
texts_or = to_longer bit_or

abbrev pub texts_xor : List ℕ → List ℕ → List ℕ
texts_xor = to_shorter bit_xor

-- all bits of each byte flipped
abbrev pub text_complement : List ℕ → List ℕ
text_complement t = map (λ b. 255 - b) t

-- `~`
abbrev pub complement : Value → Outcome Value
complement Null = Outside Conversion
complement (Truth b) = Outside Conversion
complement (Int i) = Gives (Int (int_complement i))
complement (Text t) = Gives (Text (text_complement t))
complement (Object n) = Outside Conversion
complement (Arr largest next es) = Outside Conversion
