-- What a run changes and leaves behind: its store, its echo, and what it tells of itself.
use Rattle.std.specs.Prelude.{ℕ, ℤ, List, [], ◌∷◌, ◌++◌, Option}
use Rattle.scope_names.specs.Slot.{Declared, Slot}
use Rattle.php_meaning.specs.values.Value.{Value, Cell, Entries}
use Rattle.php_meaning.specs.Cause.{Cause}
use Rattle.php_meaning.specs.Differences.{Difference}

-- a path, and other texts, by their bytes
abbrev pub Bytes : Type 0
Bytes = List ℕ

-- a property of an object: its name, and the class that alone sees it where it is private
pub record Member : Type 0 where
  pub name : Bytes
  pub owner : Option Bytes

-- An object: its class, and the cells of its properties. A typed property that was never written has no cell.
pub record Object : Type 0 where
  pub class : Bytes
  pub properties : List (Member × Cell)

-- A body that runs: the function or method, or none for a file's own statements; its variables by name; its object; the
-- class that it was called by, and the one whose copy of the method it is; the arguments that wait for its parameters, one that is passed by reference as a shared
-- entry; and, where it is no body but a value that a declaration writes down, the item: no call may start there.
pub record Frame : Type 0 where
  pub body : Option Declared
  pub variables : List (Bytes × Cell)
  pub this : Option ℕ
  pub class : Option Bytes
  pub copy : Option Bytes
  pub arguments : Entries
  pub item : Option ℕ

-- The store: what each cell holds, how many cells were made, the next serial number of an entry, the variables of the file
-- level by name, the body that runs and those that wait for it (the last one is the file's, and has no variables of its own),
-- the cells of statics and static properties by slot and, where classes have a copy each, by class, the objects by number,
-- the constants by name and which of them are found without case, and what was declared and which files were started, the
-- newest first; the files that declared strict types; the cells that items of arrays and arguments refer to before they are
-- stored, and those whose arrays loops by reference walk over.
pub record Store : Type 0 where
  pub held : Cell → Value
  pub made : ℕ
  pub serials : ℕ
  pub globals : List (Bytes × Cell)
  pub here : Frame
  pub waiting : List Frame
  pub statics : List (Slot × Option Bytes × Cell)
  pub objects : List Object
  pub constants : List (Bytes × Value)
  pub any_case : List Bytes
  pub declared : List Declared
  pub started : List Bytes
  pub strict : List Bytes
  pub lent : List Cell
  pub walked : List Cell

-- the store with a new object of a class, without properties
abbrev pub with_object : Bytes → Store → Store
with_object class s = record s { objects = s.objects ++ record { class = class; properties = [] } ∷ [] }

-- a node of a file by its number, or the file as a whole
pub record Place : Type 0 where
  pub file : Bytes
  pub node : Option ℕ

-- How a run stands in the end: it goes on, it ended with a status, it ended by an exception of a class that nothing
-- caught, or it has no meaning from a place on.
pub data End : Type 0 where
  Going : End
  Ended : ℤ → End
  Threw : Bytes → End
  Outside : Place → Cause → End

-- when a node is visited: before it, after it, or when it is left by a return, an exception, a break or a continue
pub data Moment : Type 0 where
  Before : Moment
  After : Moment
  Returned : Moment
  Thrown : Moment
  Broken : Moment
  Continued : Moment

-- a visit of a node: where and when, with its value after it, and the store
pub record Visit : Type 0 where
  pub place : Place
  pub body : Option Declared
  pub moment : Moment
  pub value : Option Value
  pub store : Store

-- a point at which the version was asked: the node, or the file, and in what
pub record Asked : Type 0 where
  pub place : Place
  pub point : Difference

-- The world of a run. `visits` and `asked` only tell of the run, the newest first: the program doesn't see them.
pub record World : Type 0 where
  pub store : Store
  pub echo : Bytes
  pub turns : ℕ
  pub visits : List Visit
  pub asked : List Asked
