-- What a comparison or a copy asks of cells, and which cells a value lies in. (PHP manual, "References Explained".)
use Rattle.std.specs.Prelude.{ℕ, Bool, true, false, ◌&&◌, ◌||◌, if◌then◌else◌, ◌==◌, List, [], ◌∷◌}
use Rattle.std.specs.Str.{bytes_eq}
use Rattle.scope_names.specs.Slot.{Declared, Slot, FileVariable, BodyVariable, StaticVariable, Property, StaticProperty, Unnamed}
use Rattle.php_meaning.specs.values.Value.{Cell, Value}
use Rattle.php_meaning.specs.Cause.{Outcome, Outside, Reference}

-- what a store tells of cells
pub record Cells : Type 0 where
  -- the value that lies in a cell
  pub value_in : Cell → Value
  -- whether a cell has one holder alone
  pub has_one_holder : Cell → Bool
  -- how many cells there are: no more cells than this lie in one another
  pub count : ℕ

-- whether two slots are one
abbrev pub is_same_body : Declared → Declared → Bool
is_same_body d e = d.number == e.number && bytes_eq d.file e.file

abbrev pub is_same_slot : Slot → Slot → Bool
is_same_slot (FileVariable a) (FileVariable b) = bytes_eq a b
is_same_slot (BodyVariable d a) (BodyVariable e b) = is_same_body d e && bytes_eq a b
is_same_slot (StaticVariable d a) (StaticVariable e b) = is_same_body d e && bytes_eq a b
is_same_slot (Property a) (Property b) = bytes_eq a b
is_same_slot (StaticProperty a) (StaticProperty b) = bytes_eq a b
is_same_slot Unnamed Unnamed = true
is_same_slot a b = false

-- A cell is found by its number and its slot.
abbrev pub is_same_cell : Cell → Cell → Bool
is_same_cell c d = c.number == d.number && is_same_slot c.slot d.slot

-- whether a cell is one of these: no two cells of a run have one number
abbrev pub is_among : Cell → List Cell → Bool
is_among c [] = false
is_among c (d ∷ ds) = c.number == d.number || is_among c ds

-- What is found inside a cell that lies in other cells, outermost last. A cell that lies in itself is outside.
abbrev pub inside : {A : Type 0} → Cell → List Cell → (List Cell → Outcome A) → Outcome A
inside c around found = if is_among c around then Outside Reference else found (c ∷ around)
