-- Builtins on arrays. (PHP manual, "Array Functions": array_keys, array_values, array_key_exists.)
use Rattle.std.specs.Prelude.{ℕ, suc, Bool, if◌then◌else◌, is_some, pos, List}
use Rattle.php_meaning.specs.values.Value.{Key, IntKey, TextKey, Value, Truth, Int, Text, Entries, none, own, shared}
use Rattle.php_meaning.specs.Cause.{Outcome, Gives, Outside, Reference, Came, Returns, outcome_map}
use Rattle.php_meaning.specs.values.Arrays.{Array, Own, array, empty_array, added, element_at}
use Rattle.php_meaning.specs.values.Cells.{Cells}

-- a key as value
abbrev pub key_value : Key → Value
key_value (IntKey i) = Int i
key_value (TextKey t) = Text t

-- a value at the next place of a list
abbrev pub listed : ℕ → Value → Array → Array
listed n v a = added (IntKey (pos n)) (Own v) a

-- the keys, listed behind what is there
abbrev pub keys_listed : Array → ℕ → Entries → Array
keys_listed a n none = a
keys_listed a n (own k m v rest) = keys_listed (listed n (key_value k) a) (suc n) rest
keys_listed a n (shared k m c rest) = keys_listed (listed n (key_value k) a) (suc n) rest

-- `array_keys`
abbrev pub array_keys : Entries → Value
array_keys es = array (keys_listed (empty_array 0) 0 es)

-- The values, listed behind what is there. PHP shares an element's cell that has another holder: this is outside, as a
-- copy is.
abbrev pub values_listed : Cells → Array → ℕ → Entries → Outcome Array
values_listed cells a n none = Gives a
values_listed cells a n (own k m v rest) = values_listed cells (listed n v a) (suc n) rest
values_listed cells a n (shared k m c rest) =
    if cells.has_one_holder c
    then values_listed cells (listed n (cells.value_in c) a) (suc n) rest
    else Outside Reference

-- `array_values`
abbrev pub array_values : Cells → Entries → Outcome Came
array_values cells es = outcome_map (λ a. Returns (array a)) (values_listed cells (empty_array 0) 0 es)

-- `array_key_exists`
abbrev pub has_key : Key → Entries → Value
has_key k es = Truth (is_some (element_at k es))
