-- What a run is given from outside: the request and the command line. (PHP manual, "Predefined Variables".)
use Rattle.std.specs.Prelude.{ℕ, suc, List, [], ◌∷◌, pos, None}
use Rattle.php_meaning.specs.values.Value.{IntKey, Value, Text, none}
use Rattle.php_meaning.specs.values.Arrays.{Array, array, Own, with_element}
use Rattle.php_meaning.specs.values.Keys.{text_key}
use Rattle.php_meaning.specs.runs.World.{Bytes}

-- what a request sends: a text, or an array of such by names
mutual
  pub data Sent : Type 0 where
    SentText : Bytes → Sent
    SentArray : SentItems → Sent

  pub data SentItems : Type 0 where
    nothing : SentItems
    item : Bytes → Sent → SentItems → SentItems

-- `$_GET`, `$_POST` and `$argv`, whose length `$argc` is
pub record Input : Type 0 where
  pub get : SentItems
  pub post : SentItems
  pub argv : List Bytes

-- the array without entries
abbrev pub no_items : Array
no_items = record { largest = None; next = 0; entries = none }

-- the values that were sent; a name makes a key as any text does, and a later value under a key takes the place of an
-- earlier one
abbrev mutual
  pub sent_value : Sent → Value
  sent_value (SentText t) = Text t
  sent_value (SentArray items) = array (sent_array no_items items)

  pub sent_array : Array → SentItems → Array
  sent_array a nothing = a
  sent_array a (item name sent more) = sent_array (with_element (text_key name) (Own (sent_value sent)) a) more

-- texts under the keys from this number on
abbrev pub texts_array : Array → ℕ → List Bytes → Array
texts_array a n [] = a
texts_array a n (t ∷ ts) = texts_array (with_element (IntKey (pos n)) (Own (Text t)) a) (suc n) ts
