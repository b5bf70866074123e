-- Values. (PHP manual, "Types" and "References Explained".)
use Rattle.std.specs.Prelude.{ℕ, ℤ, Bool, List, Option}
use Rattle.scope_names.specs.Slot.{Slot}

-- A cell holds one value: a variable, a static, a property, or an array's element that was bound by reference. Its
-- number tells the cells of a run apart; its slot is the variable, static or property that it was made for.
pub record Cell : Type 0 where
  pub number : ℕ
  pub slot : Slot

-- an array's key
pub data Key : Type 0 where
  IntKey : ℤ → Key
  TextKey : List ℕ → Key

-- A value. A text is its bytes, and an object its number in the store. An array has the largest int key that it ever
-- used, if any, the serial number that its next entry gets, and its entries in order.
mutual
  pub data Value : Type 0 where
    Null : Value
    Truth : Bool → Value
    Int : ℤ → Value
    Text : List ℕ → Value
    Object : ℕ → Value
    Arr : Option ℤ → ℕ → Entries → Value

  -- An entry has its key and serial number; its value is its own, or lies in a cell that it shares.
  pub data Entries : Type 0 where
    none : Entries
    own : Key → ℕ → Value → Entries → Entries
    shared : Key → ℕ → Cell → Entries → Entries
