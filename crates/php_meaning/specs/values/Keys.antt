-- Keys of arrays. (PHP manual, "Arrays", on how keys are converted.)
use Rattle.std.specs.Prelude.{Bool, true, false, ◌&&◌, not, if◌then◌else◌, ◌==◌, ℕ, List, [], ◌∷◌, ℤ, pos, Option, Some, None}
use Rattle.php_meaning.specs.values.Value.{Key, IntKey, TextKey, Value, Null, Truth, Int, Text, Object, Arr}
use Rattle.php_meaning.specs.Cause.{Outcome, Gives, Outside, Conversion}
use Rattle.php_meaning.specs.values.Ints.{fits, signed}
use Rattle.php_meaning.specs.values.Text.{is_digit, is_minus, number_of_digits}

-- whether all bytes are digits
abbrev pub are_digits : List ℕ → Bool
are_digits [] = true
are_digits (b ∷ bs) = is_digit b && are_digits bs

-- whether something stands at the front, and no zero
abbrev pub begins_above_zero : List ℕ → Bool
begins_above_zero [] = false
begins_above_zero (b ∷ bs) = not (b == 48)

-- the number, where it is an int
abbrev pub int_within : ℤ → Option ℤ
int_within i = if fits i then Some i else None

-- the number with this sign that these digits write, where no zero stands in front and it is an int
abbrev pub canonical_number : Bool → List ℕ → Option ℤ
canonical_number negative ds =
    if are_digits ds && begins_above_zero ds then int_within (signed negative (number_of_digits ds)) else None

-- The int whose canonical decimal form a text is: `0`, or a minus sign or none and digits without a zero in front.
abbrev pub canonical_int : List ℕ → Option ℤ
canonical_int [] = None
canonical_int (b ∷ []) = if b == 48 then Some (pos 0) else canonical_number false (b ∷ [])
canonical_int (b ∷ c ∷ bs) =
    if is_minus b then canonical_number true (c ∷ bs) else canonical_number false (b ∷ c ∷ bs)

-- this int as a key, or else the text
abbrev pub key_or_text : Option ℤ → List ℕ → Key
key_or_text (Some i) t = IntKey i
key_or_text None t = TextKey t

-- the key that a text makes
abbrev pub text_key : List ℕ → Key
text_key t = key_or_text (canonical_int t) t

-- the key that a value makes
abbrev pub to_key : Value → Outcome Key
to_key Null = Gives (TextKey [])
to_key (Truth true) = Gives (IntKey (pos 1))
to_key (Truth false) = Gives (IntKey (pos 0))
to_key (Int i) = Gives (IntKey i)
to_key (Text t) = Gives (text_key t)
to_key (Object n) = Outside Conversion
to_key (Arr largest next es) = Outside Conversion
