-- The laws of arrays.
use Rattle.std.specs.Prelude.{◌≡◌, ℕ, suc, Bool, true, false, List, [], ◌∷◌, ℤ, pos, negsuc, Option, Some, None, IsTrue, IsFalse, ⊤}
use Rattle.php_meaning.specs.values.Value.{Key, Value, Null, Truth, Int, Text, Object, Arr, Entries, none, own, shared}
use Rattle.php_meaning.specs.Cause.{Cause, Gives, Outside}
use Rattle.php_meaning.specs.values.Cells.{Cells}
use Rattle.php_meaning.specs.values.Identical.{is_same_key, is_identical}
use Rattle.php_meaning.specs.values.Arrays.{Element, Own, Shared, Array, element_at, Entry, is_above, entry_after, Changed, written, with_element, without, union}
use Rattle.php_meaning.specs.values.Offsets.{Reading, at_offset, array_to_write_at, without_offset}

-- The second array has this element at a key, and at each other key what the first one has. Nothing is said of the
-- order of the entries, of their serial numbers, or of the largest int key.
pub record DiffersAt (k : Key) (e : Element) (a b : Array) : Type 0 where
  pub there : element_at k b.entries ≡ Some e
  pub elsewhere : (l : Key) → IsFalse (is_same_key l k) → element_at l b.entries ≡ element_at l a.entries

-- the first, if it is there, or else the second
abbrev pub either : Option Element → Option Element → Option Element
either (Some e) second = Some e
either None second = second

-- no part of a value lies in a cell
abbrev mutual
  pub HoldsNoCell : Value → Type 0
  HoldsNoCell Null = ⊤
  HoldsNoCell (Truth b) = ⊤
  HoldsNoCell (Int i) = ⊤
  HoldsNoCell (Text t) = ⊤
  HoldsNoCell (Object n) = ⊤
  HoldsNoCell (Arr largest next es) = HoldNoCell es

  pub HoldNoCell : Entries → Type 0
  HoldNoCell none = ⊤
  HoldNoCell (own k n v rest) = HoldsNoCell v × HoldNoCell rest
  HoldNoCell (shared k n c rest) = ⊥

-- the largest int key that an array ever used; another value has none
abbrev pub largest_key : Value → Option ℤ
largest_key Null = None
largest_key (Truth b) = None
largest_key (Int i) = None
largest_key (Text t) = None
largest_key (Object n) = None
largest_key (Arr largest next es) = largest

-- What a second value has of the first one: `===` answers true, and the next item without a key gets the same key.
pub record HasContents (cells : Cells) (v w : Value) : Type 0 where
  pub identical : is_identical cells v w ≡ Gives true
  pub largest : largest_key w ≡ largest_key v

-- in each array in a value the entries have the serial numbers from `first` on, one after another, and the next one is
-- the number behind them
abbrev mutual
  pub IsNumberedFrom : ℕ → Value → Type 0
  IsNumberedFrom first Null = ⊤
  IsNumberedFrom first (Truth b) = ⊤
  IsNumberedFrom first (Int i) = ⊤
  IsNumberedFrom first (Text t) = ⊤
  IsNumberedFrom first (Object n) = ⊤
  IsNumberedFrom first (Arr largest next es) = AreNumberedFrom first first next es

  -- the same of the entries from the number n on
  pub AreNumberedFrom : ℕ → ℕ → ℕ → Entries → Type 0
  AreNumberedFrom first n next none = next ≡ n
  AreNumberedFrom first n next (own k m v rest) =
      (m ≡ n) × IsNumberedFrom first v × AreNumberedFrom first (suc n) next rest
  AreNumberedFrom first n next (shared k m c rest) = (m ≡ n) × AreNumberedFrom first (suc n) next rest

-- the serial numbers of entries ascend, the first one is above a number, if there is one, and all are below another one
abbrev pub Ascends : Option ℕ → ℕ → Entries → Type 0
Ascends met next none = IsTrue (is_above met next)
Ascends met next (own k n v rest) = IsTrue (is_above met n) × Ascends (Some n) next rest
Ascends met next (shared k n c rest) = IsTrue (is_above met n) × Ascends (Some n) next rest

-- the serial numbers of an array ascend, and its next entry gets a greater one
abbrev pub IsInOrder : Array → Type 0
IsInOrder a = Ascends None a.next a.entries

-- what is written to such an array, bound in it, unset or added to it leaves one
pub record StaysInOrder (a : Array) : Type 0 where
  pub write : (k : Key) (v : Value) (b : Array) → written k v a ≡ Changed b → IsInOrder b
  pub bind : (k : Key) (e : Element) → IsInOrder (with_element k e a)
  pub unset : (k : Key) → IsInOrder (record a { entries = without k a.entries })
  pub join : (b : Array) → IsInOrder (union a b)

-- the entries as a list
abbrev pub entries_in : Entries → List Entry
entries_in none = []
entries_in (own k n v rest) = record { key = k; serial = n; element = Own v } ∷ entries_in rest
entries_in (shared k n c rest) = record { key = k; serial = n; element = Shared c } ∷ entries_in rest

-- a loop by reference, behind the entry with this serial number if it met one, meets these entries, and then no other one
abbrev pub Meets : Option ℕ → List Entry → Entries → Type 0
Meets met [] es = entry_after met es ≡ None
Meets met (e ∷ more) es = (entry_after met es ≡ Some e) × Meets (Some e.serial) more es

-- A value as offset ends the run by this cause, whatever value is read, written or unset at it.
pub record EndsAsOffset (k : Value) (c : Cause) : Type 0 where
  pub read : (cells : Cells) (reading : Reading) (v : Value) → at_offset cells reading v k ≡ Outside c
  pub write : (first : ℕ) (v : Value) → array_to_write_at first v k ≡ Outside c
  pub unset : (v : Value) → without_offset v k ≡ Outside c

-- whether a largest int key is there and negative
abbrev pub is_negative : Option ℤ → Bool
is_negative None = false
is_negative (Some (pos n)) = false
is_negative (Some (negsuc n)) = true
