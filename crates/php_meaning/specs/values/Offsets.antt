-- Offsets of values: `a[k]`. (PHP manual, "Arrays", and "Strings" on access by character; what is outside is this
-- project's own.)
use Rattle.std.specs.Prelude.{ℕ, ◌-◌, true, false, if◌then◌else◌, nat_lt, List, [], ◌∷◌, length, slice_get, ℤ, pos, negsuc, Option, Some, None}
use Rattle.php_meaning.specs.values.Value.{Key, Value, Null, Truth, Int, Text, Object, Arr}
use Rattle.php_meaning.specs.Cause.{Outcome, Gives, Outside, Offset, Error, Came, Returns, Throws, and_then}
use Rattle.php_meaning.specs.values.Keys.{to_key, canonical_int}
use Rattle.php_meaning.specs.values.Convert.{empty}
use Rattle.php_meaning.specs.values.Cells.{Cells}
use Rattle.php_meaning.specs.values.Arrays.{Element, value_of, element_at, without}

-- how an offset is read: where it must be there, or where it may be missing, as in `isset`, `empty` and left of `??`
pub data Reading : Type 0 where
  Strict : Reading
  Quiet : Reading

-- ---- of a text

-- the place that an int names, from the end where it is negative
abbrev pub place_in : ℕ → ℤ → Option ℕ
place_in size (pos n) = if nat_lt n size then Some n else None
place_in size (negsuc n) = if nat_lt n size then Some (size - 1 - n) else None

-- the int that a key of a text is: an int, or a canonical decimal text
abbrev pub text_offset : Value → Option ℤ
text_offset Null = None
text_offset (Truth b) = None
text_offset (Int i) = Some i
text_offset (Text t) = canonical_int t
text_offset (Object n) = None
text_offset (Arr largest next es) = None

-- a byte as text, or what is read where there is none
abbrev pub byte_or_missing : Reading → Option ℕ → Outcome Came
byte_or_missing reading (Some b) = Gives (Returns (Text (b ∷ [])))
byte_or_missing Strict None = Outside Offset
byte_or_missing Quiet None = Gives (Returns Null)

-- the byte at a place that a text may have
abbrev pub byte_at : List ℕ → Option ℕ → Option ℕ
byte_at t None = None
byte_at t (Some n) = slice_get t n

-- the byte that an int names; any other key of a text is outside, since the versions and the kinds of keys differ there
abbrev pub byte_named : Reading → List ℕ → Option ℤ → Outcome Came
byte_named reading t None = Outside Offset
byte_named reading t (Some i) = byte_or_missing reading (byte_at t (place_in (length t) i))

-- ---- of any value

-- the value of an element, or null where it is missing
abbrev pub value_or_null : Cells → Option Element → Value
value_or_null cells None = Null
value_or_null cells (Some e) = value_of cells e

-- the value at the second value, which makes this key: of the first value
abbrev pub at_key : Cells → Reading → Value → Value → Key → Outcome Came
at_key cells reading Null k key = Gives (Returns Null)
at_key cells reading (Truth b) k key = Gives (Returns Null)
at_key cells reading (Int i) k key = Gives (Returns Null)
at_key cells reading (Text t) k key = byte_named reading t (text_offset k)
at_key cells reading (Object n) k key = Gives (Throws Error)
at_key cells reading (Arr largest next es) k key = Gives (Returns (value_or_null cells (element_at key es)))

-- The value at an offset: of the first value, at the second one. An array or an object as offset is outside, whatever
-- the first value is.
abbrev pub at_offset : Cells → Reading → Value → Value → Outcome Came
at_offset cells reading v k = and_then (to_key k) (at_key cells reading v k)

-- ---- changes

-- the array that an item without a key is written to: null and false become an empty one, whose entries are numbered
-- from `first` on
abbrev pub array_to_write : ℕ → Value → Outcome Came
array_to_write first Null = Gives (Returns (empty first))
array_to_write first (Truth true) = Outside Offset
array_to_write first (Truth false) = Gives (Returns (empty first))
array_to_write first (Int i) = Outside Offset
array_to_write first (Text t) = Outside Offset
array_to_write first (Object n) = Gives (Throws Error)
array_to_write first (Arr largest next es) = Gives (Returns (Arr largest next es))

-- the array that an element is written to, at the second value
abbrev pub array_to_write_at : ℕ → Value → Value → Outcome Came
array_to_write_at first v k = and_then (to_key k) (λ key. array_to_write first v)

-- a value without what it has at a key; of null and false nothing is taken away
abbrev pub without_key : Value → Key → Outcome Came
without_key Null key = Gives (Returns Null)
without_key (Truth true) key = Outside Offset
without_key (Truth false) key = Gives (Returns (Truth false))
without_key (Int i) key = Outside Offset
without_key (Text t) key = Outside Offset
without_key (Object n) key = Gives (Throws Error)
without_key (Arr largest next es) key = Gives (Returns (Arr largest next (without key es)))

-- the first value without what it has at the second one
abbrev pub without_offset : Value → Value → Outcome Came
without_offset v k = and_then (to_key k) (without_key v)
