-- That the number of a store's cells is bound enough for a comparison and for a copy.
use Rattle.std.specs.Prelude.{ℕ, ◌<◌, ⊤}
use Rattle.php_meaning.specs.values.Value.{Cell, Value, Null, Truth, Int, Text, Object, Arr, Entries, none, own, shared}
use Rattle.php_meaning.specs.values.Cells.{Cells}

-- each cell that an array shares, or an array in it, is one of the first n
abbrev mutual
  pub IsMade : ℕ → Value → Type 0
  IsMade n Null = ⊤
  IsMade n (Truth b) = ⊤
  IsMade n (Int i) = ⊤
  IsMade n (Text t) = ⊤
  IsMade n (Object m) = ⊤
  IsMade n (Arr largest next es) = AreMade n es

  pub AreMade : ℕ → Entries → Type 0
  AreMade n none = ⊤
  AreMade n (own k m v rest) = IsMade n v × AreMade n rest
  AreMade n (shared k m c rest) = (c.number < n) × AreMade n rest

-- what lies in the cells of a store shares no other cells
abbrev pub IsClosed : Cells → Type 0
IsClosed cells = (c : Cell) → c.number < cells.count → IsMade cells.count (cells.value_in c)
