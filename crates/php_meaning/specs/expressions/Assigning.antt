-- Scripts that read, write, bind and unset locations. (PHP manual, "Variables", "Assignment Operators", "References
-- Explained".)
use Rattle.std.specs.Prelude.{ℕ, suc, ◌+◌, Bool, true, false, List, [], ◌∷◌, Option, Some, None}
use Rattle.scope_names.specs.Slot.{Declared, Slot, Property, StaticProperty, Unnamed}
use Rattle.php_meaning.specs.values.Value.{Value, Null, Arr, Cell, Entries, none, own, shared}
use Rattle.php_meaning.specs.Cause.{Outcome, NoRule, Reference}
use Rattle.php_meaning.specs.Differences.{ByVersion}
use Rattle.php_meaning.specs.values.Copies.{copied}
use Rattle.php_meaning.specs.runs.World.{Bytes, Store}
use Rattle.scope_names.specs.Sites.{Site}
use Rattle.php_meaning.specs.runs.Stores.{
  cells_of,
  next_cell,
  with_cell,
  with_value,
  variable_cell,
  variable_slot,
  with_variable,
  without_variable,
  static_property_cell,
  with_static,
  without_static,
}
use Rattle.php_meaning.specs.runs.Locations.{Change, Changed, Refused, value_at, value_to_unset, changed_at, written, shared_at, bound_at, unset_at, front, last_of}
use Rattle.php_meaning.specs.runs.Script.{
  Typing,
  Untyped,
  Typed,
  Root,
  InVariable,
  InProperty,
  InStatic,
  InValue,
  Location,
  Out,
  Val,
  Fresh,
  At,
  Jump,
  Script,
  Give,
  Stop,
  Look,
  Put,
  given,
  asking,
  came_then,
  throws,
}

-- ---- values that are kept

-- how many entries a value has, at any depth
abbrev mutual
  pub size : Value → ℕ
  size (Arr largest next es) = size_of es
  size v = 0

  pub size_of : Entries → ℕ
  size_of none = 0
  size_of (own k n v rest) = suc (size v + size_of rest)
  size_of (shared k n c rest) = suc (size_of rest)

-- the store, once so many serial numbers more are used
abbrev pub numbered : ℕ → Store → Store
numbered n s = record s { serials = n + s.serials }

-- A value that is to be kept: copied, with new serial numbers. Only an array has any.
abbrev pub kept : Value → (Value → Script) → Script
kept (Arr largest next es) k =
    Look (λ s. given (copied (cells_of s) s.serials (Arr largest next es)) (λ v. Put (numbered (size v) s) (k v)))
kept v k = k v

-- what a child came to, as a value to keep: a new array moves
abbrev pub kept_then : (Value → Script) → Out → Script
kept_then k (Val v) = kept v k
kept_then k (Fresh v) = k v
kept_then k (At l) = Stop NoRule
kept_then k (Jump w) = Give (Jump w)

-- the same with what the child came to, before it was copied
abbrev pub both_kept : (Value → Value → Script) → Out → Script
both_kept k (Val v) = kept v (k v)
both_kept k (Fresh v) = k v v
both_kept k (At l) = Stop NoRule
both_kept k (Jump w) = Give (Jump w)

-- ---- where locations begin

-- What a location begins with, in a store: a cell; or none yet, then with the slot of the cell that is to be made, and how it is
-- held from then on. A property that has a type and no cell was never written.
pub data Base : Type 0 where
  Made : Cell → Typing → Base
  Unmade : Slot → Typing → (Cell → Store → Store) → Base

abbrev pub base_value : Base → Store → Value
base_value (Made c typing) s = s.held c
base_value (Unmade slot typing hold) s = Null

abbrev pub base_typing : Base → Typing
base_typing (Made c typing) = typing
base_typing (Unmade slot typing hold) = typing

-- the store with a value there: a new cell gets it when it is made
abbrev pub with_base : Base → Value → Store → Store
with_base (Made c typing) v s = with_value c v s
with_base (Unmade slot typing hold) v s = hold (next_cell slot s) (with_cell slot v s)

abbrev pub variable_base : Site → Bytes → Store → Base
variable_base site name s = elim (variable_cell name s) [
  | Some c ↦ Made c Untyped
  | None ↦ Unmade (variable_slot site.body name) Untyped (with_variable name)
]

-- a static property; one that has a type has maybe no value yet
abbrev pub static_base : Bytes → Bytes → Typing → Store → Base
static_base class name typing s = elim (static_property_cell s.statics class name) [
  | Some c ↦ Made c typing
  | None ↦ Unmade (StaticProperty name) typing (with_static class name)
]

-- What depends on classes, for code at a site: what a location in a property begins with; what comes once a property is bound to
-- a cell; and what comes where a value is of the type that a declaration has, which is outside for any other value.
pub record Properties : Type 0 where
  pub base : Value → Bytes → (Base → Script) → Script
  pub bound : Value → Bytes → Cell → Script → Script
  pub typed : Declared → Value → Script → Script

abbrev pub root_then : Properties → Site → Root → (Base → Script) → Script
root_then properties site (InVariable name) k = Look (λ s. k (variable_base site name s))
root_then properties site (InProperty v name) k = properties.base v name k
root_then properties site (InStatic class name typing) k = Look (λ s. k (static_base class name typing s))
root_then properties site (InValue v) k = Stop NoRule

-- ---- locations, read and written

-- A value goes into a property only where it is of the property's type. (RFC "Typed Properties 2.0".)
abbrev pub held_to : Properties → Typing → Value → Script → Script
held_to properties Untyped v k = k
held_to properties (Typed d) v k = properties.typed d v k

abbrev pub after_change : {A : Type 0} → Properties → Base → (A → Script) → Change A → Script
after_change properties base k (Changed w u x) =
    held_to properties (base_typing base) w (Put (numbered 1 (with_base base w u)) (k x))
after_change properties base k (Refused e) = throws e

-- a part of a property that was never written is outside
abbrev pub unless_unwritten : Base → Script → Script
unless_unwritten (Unmade slot (Typed d) hold) k = Stop Reference
unless_unwritten base k = k

abbrev pub unless_part : List (Option Value) → Base → Script → Script
unless_part [] base k = k
unless_part (o ∷ os) base k = unless_unwritten base k

-- what stands at a location, changed
abbrev pub change : {A : Type 0} → Properties → Site → Root → List (Option Value) → (Store → Value → ByVersion (Outcome (Change A))) → (A → Script) → Script
change properties site root ks leaf k =
    root_then properties site root (λ base. unless_part ks base
    (Look (λ s. asking (changed_at leaf s (base_value base s) ks) (λ o. given o (after_change properties base k)))))

-- a value is written to a location
abbrev pub write : Properties → Site → Location → Value → Script → Script
write properties site l v k = change properties site l.root l.offsets (written v) (λ u. k)

-- the value at a location
abbrev pub read : Properties → Site → Location → (Value → Script) → Script
read properties site l k =
    root_then properties site l.root (λ base. unless_unwritten base
    (Look (λ s. given (value_at (cells_of s) (base_value base s) l.offsets) (came_then k))))

-- ---- references

-- the cell that a location begins with, made with null where there is none; one of a property that has a type is referred to
-- by nothing
abbrev pub base_cell : (Cell → Script) → Base → Script
base_cell k (Made c Untyped) = k c
base_cell k (Unmade slot Untyped hold) = Look (λ s. Put (with_base (Unmade slot Untyped hold) Null s) (k (next_cell slot s)))
base_cell k base = Stop Reference

-- the cell of a location, for what has this slot; an element is shared from now on
abbrev pub cell_then : Properties → Site → Slot → Location → (Cell → Script) → Script
cell_then properties site taker l k = elim (last_of l.offsets) [
  | None ↦ root_then properties site l.root (base_cell k)
  | Some key ↦ change properties site l.root (front l.offsets) (shared_at taker key) k
]

abbrev pub has_offsets : Location → Bool
has_offsets l = elim l.offsets [ [] ↦ false | k ∷ ks ↦ true ]

-- the slot of what is bound to a cell: a variable's or a property's
abbrev pub root_slot : Site → Root → Slot
root_slot site (InVariable name) = variable_slot site.body name
root_slot site (InProperty v name) = Property name
root_slot site (InStatic class name typing) = StaticProperty name
root_slot site (InValue v) = Unnamed

abbrev pub slot_of : Site → Location → Slot
slot_of site l = elim l.offsets [ [] ↦ root_slot site l.root | k ∷ ks ↦ Unnamed ]

-- a static property is bound to a cell in place of its own; one that has a type is outside
abbrev pub bind_static : Bytes → Bytes → Typing → Cell → Script → Script
bind_static class name Untyped c k = Look (λ s. Put (with_static class name c (without_static class name s)) k)
bind_static class name (Typed d) c k = Stop Reference

-- a location is bound to a cell
abbrev pub bind_root : Properties → Root → Cell → Script → Script
bind_root properties (InVariable name) c k = Look (λ s. Put (with_variable name c s) k)
bind_root properties (InProperty v name) c k = properties.bound v name c k
bind_root properties (InStatic class name typing) c k = bind_static class name typing c k
bind_root properties (InValue v) c k = Stop NoRule

abbrev pub bind : Properties → Site → Location → Cell → Script → Script
bind properties site l c k = elim (last_of l.offsets) [
  | None ↦ bind_root properties l.root c k
  | Some key ↦ change properties site l.root (front l.offsets) (bound_at key c) (λ u. k)
]

-- An element is unset where there is something that it stands in.
abbrev pub unset_in : Properties → Site → Location → Value → Script → Value → Script
unset_in properties site l key k Null = k
unset_in properties site l key k v = change properties site l.root (front l.offsets) (unset_at key) (λ u. k)

abbrev pub unset_element : Properties → Site → Location → Option Value → Script → Script
unset_element properties site l None k = Stop NoRule
unset_element properties site l (Some key) k =
    root_then properties site l.root (λ base. unless_unwritten base
    (Look (λ s. given (value_to_unset (cells_of s) (base_value base s) (front l.offsets)) (came_then (unset_in properties site l key k)))))

abbrev pub unset_root : Root → Script → Script
unset_root (InVariable name) k = Look (λ s. Put (without_variable name s) k)
unset_root (InProperty v name) k = Stop NoRule
unset_root (InStatic class name typing) k = Stop NoRule
unset_root (InValue v) k = Stop NoRule

abbrev pub unset : Properties → Site → Location → Script → Script
unset properties site l k = elim (last_of l.offsets) [
  | None ↦ unset_root l.root k
  | Some key ↦ unset_element properties site l key k
]
