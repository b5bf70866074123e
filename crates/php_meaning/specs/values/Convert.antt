-- Conversions of values. (PHP manual, "Type Juggling", and the pages of the types on conversion to each.)
use Rattle.std.specs.Prelude.{Bool, true, false, not, ◌==◌, ℕ, suc, List, [], ◌∷◌, ℤ, pos, negsuc, codes, Some}
use Rattle.php_meaning.specs.values.Value.{IntKey, Value, Null, Truth, Int, Text, Object, Arr, Entries, none, own, shared}
use Rattle.php_meaning.specs.Cause.{Outcome, Gives, Outside, Conversion}
use Rattle.php_meaning.specs.values.Ints.{int_text}
use Rattle.php_meaning.specs.values.Text.{Class, Whole, WholeTail, Fraction, Lead, Word, class, number}
use Rattle.php_meaning.specs.Differences.{ByVersion, Alike, word_in_arithmetic}
use Rattle.php_meaning.specs.values.Arrays.{array, empty_array}

-- ---- to a bool

-- whether a text is true: all are but the empty one and `0`
abbrev pub text_truth : List ℕ → Bool
text_truth [] = false
text_truth (b ∷ []) = not (b == 48)
text_truth (b ∷ c ∷ bs) = true

abbrev pub int_truth : ℤ → Bool
int_truth (pos n) = not (n == 0)
int_truth (negsuc n) = true

-- whether there is an entry
abbrev pub has_entries : Entries → Bool
has_entries none = false
has_entries (own k n v rest) = true
has_entries (shared k n c rest) = true

-- a value as bool
abbrev pub to_truth : Value → Bool
to_truth Null = false
to_truth (Truth b) = b
to_truth (Int i) = int_truth i
to_truth (Text t) = text_truth t
to_truth (Object n) = true
to_truth (Arr largest next es) = has_entries es

-- ---- to an int

abbrev pub truth_int : Bool → ℤ
truth_int true = pos 1
truth_int false = pos 0

-- a value as int, by a cast
abbrev pub to_int : Value → Outcome ℤ
to_int Null = Gives (pos 0)
to_int (Truth b) = Gives (truth_int b)
to_int (Int i) = Gives i
to_int (Text t) = number t
to_int (Object n) = Outside Conversion
to_int (Arr largest next es) = Gives (truth_int (has_entries es))

-- the number of a text of a class, in arithmetic
abbrev pub number_in_arithmetic : Class → List ℕ → ByVersion (Outcome ℤ)
number_in_arithmetic Whole t = Alike (number t)
number_in_arithmetic WholeTail t = Alike (number t)
number_in_arithmetic Fraction t = Alike (number t)
number_in_arithmetic Lead t = Alike (number t)
number_in_arithmetic Word t = word_in_arithmetic

-- a value as number, in arithmetic and in operations on bits
abbrev pub to_number : Value → ByVersion (Outcome ℤ)
to_number Null = Alike (Gives (pos 0))
to_number (Truth b) = Alike (Gives (truth_int b))
to_number (Int i) = Alike (Gives i)
to_number (Text t) = number_in_arithmetic (class t) t
to_number (Object n) = Alike (Outside Conversion)
to_number (Arr largest next es) = Alike (Outside Conversion)

-- ---- to a text

-- a value as text
abbrev pub to_text : Value → Outcome (List ℕ)
to_text Null = Gives []
to_text (Truth true) = Gives (codes "1")
to_text (Truth false) = Gives []
to_text (Int i) = Gives (int_text i)
to_text (Text t) = Gives t
to_text (Object n) = Outside Conversion
to_text (Arr largest next es) = Outside Conversion

-- ---- to an array, whose entries are numbered from `first` on where it is a new one

-- the array without entries
abbrev pub empty : ℕ → Value
empty first = array (empty_array first)

-- the array of one value
abbrev pub list_of_one : ℕ → Value → Value
list_of_one first v = Arr (Some (pos 0)) (suc first) (own (IntKey (pos 0)) first v none)

-- a value as array, by a cast
abbrev pub to_array : ℕ → Value → Outcome Value
to_array first Null = Gives (empty first)
to_array first (Truth b) = Gives (list_of_one first (Truth b))
to_array first (Int i) = Gives (list_of_one first (Int i))
to_array first (Text t) = Gives (list_of_one first (Text t))
to_array first (Object n) = Outside Conversion
to_array first (Arr largest next es) = Gives (Arr largest next es)
