-- Arrays: entries in order, by their keys. (PHP manual, "Arrays", "Array Operators" and "References Explained".)
use Rattle.std.specs.Prelude.{ℕ, suc, Bool, true, if◌then◌else◌, nat_lt, List, [], ◌∷◌, ℤ, pos, negsuc, ◌+ℤ◌, int_lt, Option, Some, None}
use Rattle.php_meaning.specs.values.Value.{Cell, Key, IntKey, TextKey, Value, Arr, Entries, none, own, shared}
use Rattle.php_meaning.specs.Cause.{Outcome, Gives, Outside, Offset, outcome_map}
use Rattle.php_meaning.specs.values.Ints.{fits}
use Rattle.php_meaning.specs.Differences.{ByVersion, Alike, by_version_map, key_after_negative}
use Rattle.php_meaning.specs.values.Identical.{is_same_key}
use Rattle.php_meaning.specs.values.Cells.{Cells}

-- what an entry holds: a value of its own, or a cell that it shares
pub data Element : Type 0 where
  Own : Value → Element
  Shared : Cell → Element

-- an array: the largest int key that it ever used, the serial number of its next entry, and its entries
pub record Array : Type 0 where
  pub largest : Option ℤ
  pub next : ℕ
  pub entries : Entries

abbrev pub array : Array → Value
array a = Arr a.largest a.next a.entries

-- the array without entries, whose entries will be numbered from `first` on
abbrev pub empty_array : ℕ → Array
empty_array first = record { largest = None; next = first; entries = none }

-- ---- reading

-- the value of an element
abbrev pub value_of : Cells → Element → Value
value_of cells (Own v) = v
value_of cells (Shared c) = cells.value_in c

-- the element at a key
abbrev pub element_at : Key → Entries → Option Element
element_at k none = None
element_at k (own l n v rest) = if is_same_key k l then Some (Own v) else element_at k rest
element_at k (shared l n c rest) = if is_same_key k l then Some (Shared c) else element_at k rest

-- how many entries there are
abbrev pub count : Entries → ℕ
count none = 0
count (own k n v rest) = suc (count rest)
count (shared k n c rest) = suc (count rest)

-- the keys, in order
abbrev pub keys : Entries → List Key
keys none = []
keys (own k n v rest) = k ∷ keys rest
keys (shared k n c rest) = k ∷ keys rest

-- an entry, as a loop over the array meets it
pub record Entry : Type 0 where
  pub key : Key
  pub serial : ℕ
  pub element : Element

-- whether a serial number is above this one; each is above none
abbrev pub is_above : Option ℕ → ℕ → Bool
is_above None n = true
is_above (Some m) n = nat_lt m n

-- The first entry with a serial number above this one. A loop by reference begins with none, and goes on with the serial
-- number of the entry that it met last.
abbrev pub entry_after : Option ℕ → Entries → Option Entry
entry_after met none = None
entry_after met (own k n v rest) =
    if is_above met n then Some (record { key = k; serial = n; element = Own v }) else entry_after met rest
entry_after met (shared k n c rest) =
    if is_above met n then Some (record { key = k; serial = n; element = Shared c }) else entry_after met rest

-- ---- the next key

-- an int as key, where it is within 64 bits
abbrev pub key_within : ℤ → Outcome Key
key_within i = if fits i then Gives (IntKey i) else Outside Offset

-- the key of an item without one, where this is the largest int key so far
abbrev pub next_key : Option ℤ → ByVersion (Outcome Key)
next_key None = Alike (Gives (IntKey (pos 0)))
next_key (Some (pos n)) = Alike (key_within (pos n +ℤ pos 1))
next_key (Some (negsuc n)) = by_version_map key_within (key_after_negative (negsuc n))

-- the greater of two ints
abbrev pub greater_of : ℤ → ℤ → ℤ
greater_of i j = if int_lt i j then j else i

-- the largest int key, once this one is used too
abbrev pub raised : Key → Option ℤ → Option ℤ
raised (IntKey i) None = Some i
raised (IntKey i) (Some j) = Some (greater_of i j)
raised (TextKey t) largest = largest

-- ---- writing

-- an entry before others
abbrev pub entry : Key → ℕ → Element → Entries → Entries
entry k n (Own v) rest = own k n v rest
entry k n (Shared c) rest = shared k n c rest

-- an entry behind others
abbrev pub behind : Entries → Key → ℕ → Element → Entries
behind none l m e = entry l m e none
behind (own k n v rest) l m e = own k n v (behind rest l m e)
behind (shared k n c rest) l m e = shared k n c (behind rest l m e)

-- the array with an entry behind the others, whose key it doesn't have yet
abbrev pub added : Key → Element → Array → Array
added k e a = record {
  largest = raised k a.largest;
  next = suc a.next;
  entries = behind a.entries k a.next e;
}

-- the array with an item without a key
abbrev pub appended : Element → Array → ByVersion (Outcome Array)
appended e a = by_version_map (outcome_map (λ k. added k e a)) (next_key a.largest)

-- the entries with another element at a key that they have
abbrev pub replaced : Key → Element → Entries → Entries
replaced k e none = none
replaced k e (own l n v rest) = if is_same_key k l then entry l n e rest else own l n v (replaced k e rest)
replaced k e (shared l n c rest) = if is_same_key k l then entry l n e rest else shared l n c (replaced k e rest)

-- the array with this element at a key, whatever it had there
abbrev pub with_element : Key → Element → Array → Array
with_element k e a = elim (element_at k a.entries) [
  | None ↦ added k e a
  | Some old ↦ record a { entries = replaced k e a.entries }
]

-- What writing a value at a key leads to: a changed array, or a write into the cell that stands there.
pub data Written : Type 0 where
  Changed : Array → Written
  IntoCell : Cell → Written

abbrev pub written_over : Option Element → Key → Value → Array → Written
written_over None k v a = Changed (added k (Own v) a)
written_over (Some (Own w)) k v a = Changed (record a { entries = replaced k (Own v) a.entries })
written_over (Some (Shared c)) k v a = IntoCell c

abbrev pub written : Key → Value → Array → Written
written k v a = written_over (element_at k a.entries) k v a

-- the entries without the one at a key; an array's largest int key stays as it is
abbrev pub without : Key → Entries → Entries
without k none = none
without k (own l n v rest) = if is_same_key k l then rest else own l n v (without k rest)
without k (shared l n c rest) = if is_same_key k l then rest else shared l n c (without k rest)

-- ---- the union

-- an entry is added where its key is missing
abbrev pub added_if_missing : Key → Element → Array → Array
added_if_missing k e a = elim (element_at k a.entries) [ None ↦ added k e a | Some old ↦ a ]

-- an array with the entries whose key it misses
abbrev pub with_missing : Array → Entries → Array
with_missing a none = a
with_missing a (own k n v rest) = with_missing (added_if_missing k (Own v) a) rest
with_missing a (shared k n c rest) = with_missing (added_if_missing k (Shared c) a) rest

-- `+` of two arrays: the left entries, and the right ones whose key is missing. Both are copied before.
abbrev pub union : Array → Array → Array
union a b = with_missing a b.entries
