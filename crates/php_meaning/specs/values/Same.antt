-- Whether two values are one: the same bytes, numbers, keys and cells, in arrays entry by entry; serial numbers don't count.
-- (This project's own: whether a variable still holds what it held.)
use Rattle.std.specs.Prelude.{ℤ, Bool, true, false, ◌&&◌, nat_eq, Option, Some, None}
use Rattle.std.specs.Bool.{beq}
use Rattle.php_meaning.specs.values.Value.{Value, Null, Truth, Int, Text, Object, Arr, Entries, none, own, shared}
use Rattle.php_meaning.specs.values.Cells.{is_same_cell}
use Rattle.php_meaning.specs.values.Identical.{is_same_int, is_same_text, is_same_key}

abbrev pub is_same_largest : Option ℤ → Option ℤ → Bool
is_same_largest None None = true
is_same_largest (Some i) (Some j) = is_same_int i j
is_same_largest i j = false

abbrev mutual
  pub is_same : Value → Value → Bool
  is_same Null Null = true
  is_same (Truth a) (Truth b) = beq a b
  is_same (Int i) (Int j) = is_same_int i j
  is_same (Text s) (Text t) = is_same_text s t
  is_same (Object m) (Object n) = nat_eq m n
  is_same (Arr l m es) (Arr k n fs) = is_same_largest l k && are_same es fs
  is_same v w = false

  pub are_same : Entries → Entries → Bool
  are_same none none = true
  are_same (own k m v es) (own l n w fs) = is_same_key k l && is_same v w && are_same es fs
  are_same (shared k m c es) (shared l n d fs) = is_same_key k l && is_same_cell c d && are_same es fs
  are_same es fs = false
