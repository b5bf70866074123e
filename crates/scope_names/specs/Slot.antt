-- Declarations and slots, by names that no rewriting changes: no number of a node stands in either.
use Rattle.std.specs.Prelude.{ℕ, List}

-- a declaration of a tree: its file, and its number among the declarations there, in the order of their first tokens
pub record Declared : Type 0 where
  pub file : List ℕ
  pub number : ℕ

-- What a cell was made for: a variable of a file's own statements or of a body, a static variable of the Statics that
-- declares it, an instance property, a static property; or nothing that has a name. (PHP manual, "Variable scope",
-- "Properties", "Static Keyword".)
pub data Slot : Type 0 where
  FileVariable : List ℕ → Slot
  BodyVariable : Declared → List ℕ → Slot
  StaticVariable : Declared → List ℕ → Slot
  Property : List ℕ → Slot
  StaticProperty : List ℕ → Slot
  Unnamed : Slot
