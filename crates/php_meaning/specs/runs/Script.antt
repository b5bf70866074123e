-- What a node does, as steps over the store and over its children. The steps are the same in both versions, but
-- where they ask.
use Rattle.std.specs.Prelude.{ℕ, ℤ, Bool, cond, List, [], length, Option}
use Rattle.scope_names.specs.Slot.{Declared, Slot}
use Rattle.php_meaning.specs.values.Value.{Value, Null, Cell, Entries}
use Rattle.php_meaning.specs.Cause.{Cause, NoRule, Outcome, Gives, Outside, ExceptionClass, exception_name, Came, Returns, Throws}
use Rattle.php_meaning.specs.Differences.{Difference, ByVersion, Alike, Differs}
use Rattle.php_meaning.specs.runs.World.{Bytes, Store, with_object}

-- a way to leave a node without a value
pub data Way : Type 0 where
  Return : Value → Way
  -- an object in hand
  Throw : ℕ → Way
  -- out of so many loops
  Break : ℕ → Way
  Continue : ℕ → Way

-- whether a property has a type: none, or that of its declaration
pub data Typing : Type 0 where
  Untyped : Typing
  Typed : Declared → Typing

-- where a location begins: in the variable with this name, in the property with this name of a value, in the static property
-- with this name of the class that declares it, or with a value that was evaluated, which is written by nothing
pub data Root : Type 0 where
  InVariable : Bytes → Root
  InProperty : Value → Bytes → Root
  InStatic : Bytes → Bytes → Typing → Root
  InValue : Value → Root

-- What can be written: where it begins, and the offsets from there on, each at a value or without a key.
pub record Location : Type 0 where
  pub root : Root
  pub offsets : List (Option Value)

-- what a node comes to: a value, a new array that nothing holds yet, a location, or a way to leave
pub data Out : Type 0 where
  Val : Value → Out
  Fresh : Value → Out
  At : Location → Out
  Jump : Way → Out

-- How a node is evaluated.
pub data Mode : Type 0 where
  -- for its value; for its value where nothing is said of what isn't there; as a location; to be unset; or as a name
  Read : Mode
  Quiet : Mode
  Write : Mode
  Unset : Mode
  Name : Mode
  -- as a statement of a file or of a namespace itself
  Top : Mode
  -- a loop's next pass; of `foreach` over a copy with the entries that are left, or by reference over the array in a
  -- cell behind the entry with this serial number
  Later : Mode
  Left : Entries → Mode
  Behind : Cell → Option ℕ → Mode
  -- a case, against a switch's value: whether it is chosen
  Against : Value → Mode
  -- an item of an array literal, into the array so far
  Into : Value → Mode
  -- arguments, each by value, or by reference for the parameter with this slot
  Given : List (Option Slot) → Mode
  -- arguments of a builtin function, their values as they are
  Handed : Mode
  -- a function or method, as a body that was called
  Entered : Mode
  -- a declaration's item with this index: its value
  Item : ℕ → Mode
  -- what gave a value before: to see that a plain variable still holds what it held
  Unchanged : Value → Mode
  -- as a base or a target, which PHP finds once what stands to its right was evaluated: for its keys, and a base that is no
  -- variable, offset or property, as a location whose offset of a property has no key
  Early : Mode
  -- found then: for its value, for its value where nothing is said of what isn't there, or as a location
  Found : Location → Mode
  FoundQuietly : Location → Mode
  Placed : Location → Mode

-- what a node runs: a child by its index, a further pass of itself, a declaration elsewhere, or a file
pub data Target : Type 0 where
  Kid : ℕ → Mode → Target
  Again : Mode → Target
  There : Declared → Mode → Target
  File : Bytes → Target

pub data Script : Type 0 where
  -- the node comes to this
  Give : Out → Script
  -- the run has no meaning from here on
  Stop : Cause → Script
  -- the run ends with a status
  Finish : ℤ → Script
  -- the store is read
  Look : (Store → Script) → Script
  -- the store is replaced
  Put : Store → Script → Script
  -- bytes are echoed
  Echo : Bytes → Script → Script
  -- a turn is taken
  Turn : Script → Script
  -- the version is asked in a point where the versions differ; true is 8.3
  Ask : Difference → (Bool → Script) → Script
  -- something is run
  Run : Target → (Out → Script) → Script

-- ---- common steps

-- the node comes to a value
abbrev pub give : Value → Script
give v = Give (Val v)

-- goes on with a value, and leaves by any way
abbrev pub value_then : (Value → Script) → Out → Script
value_then k (Val v) = k v
value_then k (Fresh v) = k v
value_then k (At l) = Stop NoRule
value_then k (Jump w) = Give (Jump w)

-- goes on with a location, and leaves by any way
abbrev pub location_then : (Location → Script) → Out → Script
location_then k (Val v) = Stop NoRule
location_then k (Fresh v) = Stop NoRule
location_then k (At l) = k l
location_then k (Jump w) = Give (Jump w)

-- the value of a child, and what then comes
abbrev pub child_value : ℕ → (Value → Script) → Script
child_value i k = Run (Kid i Read) (value_then k)

-- a child as location, and what then comes
abbrev pub child_location : ℕ → (Location → Script) → Script
child_location i k = Run (Kid i Write) (location_then k)

-- A child that gave a value, once what stands behind it was evaluated. PHP reads a plain variable only then, so one that
-- holds another value by now is outside.
abbrev pub still : ℕ → Value → Script → Script
still i v k = Run (Kid i (Unchanged v)) (value_then (λ u. k))

-- what such a child comes to, where nothing changed: it was evaluated before, and a visit tells nothing of it
abbrev pub stands : Out
stands = Val Null

-- a child as a base or a target, and what then comes
abbrev pub early_then : (Location → Script) → Out → Script
early_then k (Val v) = k (record { root = InValue v; offsets = [] })
early_then k (Fresh v) = k (record { root = InValue v; offsets = [] })
early_then k (At l) = k l
early_then k (Jump w) = Give (Jump w)

abbrev pub early : ℕ → (Location → Script) → Script
early i k = Run (Kid i Early) (early_then k)

-- the value of such a child, which was evaluated, or is found now
abbrev pub found_from : List (Option Value) → Root → Script → (Value → Script) → Script
found_from [] (InValue v) later k = k v
found_from os root later k = later

abbrev pub found_value : ℕ → (Location → Mode) → Location → (Value → Script) → Script
found_value i m l k = found_from l.offsets l.root (Run (Kid i (m l)) (value_then k)) k

-- its location, as it is now
abbrev pub placed : ℕ → Location → (Location → Script) → Script
placed i l k = Run (Kid i (Placed l)) (location_then k)

-- goes on with what an operation gives
abbrev pub given : {A : Type 0} → Outcome A → (A → Script) → Script
given (Gives a) k = k a
given (Outside c) k = Stop c

-- goes on with what holds in the run's version
abbrev pub asking : {A : Type 0} → ByVersion A → (A → Script) → Script
asking (Alike a) k = k a
asking (Differs point old new) k = Ask point (λ is_new. cond is_new (k new) (k old))

-- A new exception is thrown: an object of its class, without a text and a code of its own.
abbrev pub throws : ExceptionClass → Script
throws c = Look (λ s. Put (with_object (exception_name c) s) (Give (Jump (Throw (length s.objects)))))

-- goes on with what an operation came to
abbrev pub came_then : (Value → Script) → Came → Script
came_then k (Returns v) = k v
came_then k (Throws c) = throws c

-- the node comes to what an operation came to
abbrev pub comes : Came → Script
comes r = came_then give r
