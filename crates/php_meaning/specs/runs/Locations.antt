-- Locations: what can be read, written, bound by reference and unset. (PHP manual, "Variables", "Arrays", "References
-- Explained"; what is outside is this project's own.)
use Rattle.std.specs.Prelude.{true, List, [], ◌∷◌, Option, Some, None}
use Rattle.scope_names.specs.Slot.{Slot}
use Rattle.php_meaning.specs.values.Value.{Value, Null, Truth, Int, Arr, Cell, Key}
use Rattle.php_meaning.specs.Cause.{Outcome, Gives, Outside, Offset, ExceptionClass, Came, Returns, Throws, and_then, outcome_map}
use Rattle.php_meaning.specs.Differences.{ByVersion, Alike, by_version_map, by_version_then, gives_then}
use Rattle.php_meaning.specs.values.Keys.{to_key}
use Rattle.php_meaning.specs.values.Cells.{Cells}
use Rattle.php_meaning.specs.values.Arrays.{Element, Own, Shared, Array, array, element_at, with_element, appended}
use Rattle.php_meaning.specs.values.Offsets.{Strict, at_offset, array_to_write, without_offset}
use Rattle.php_meaning.specs.runs.World.{Store}
use Rattle.php_meaning.specs.runs.Stores.{next_cell, with_cell, with_value}

-- ---- reading

abbrev pub goes_on : (Value → Outcome Came) → Came → Outcome Came
goes_on k (Returns v) = k v
goes_on k (Throws c) = Gives (Throws c)

-- the value at offsets of a value; without a key nothing is there
abbrev pub value_at : Cells → Value → List (Option Value) → Outcome Came
value_at cells v [] = Gives (Returns v)
value_at cells v (None ∷ ks) = value_at cells Null ks
value_at cells v (Some k ∷ ks) = and_then (at_offset cells Strict v k) (goes_on (λ w. value_at cells w ks))

-- The value in which an element is unset, below offsets: of an int and of true 7.4 takes nothing away and 8.x throws.
abbrev pub value_to_unset : Cells → Value → List (Option Value) → Outcome Came
value_to_unset cells v [] = Gives (Returns v)
value_to_unset cells v (None ∷ ks) = Outside Offset
value_to_unset cells (Int i) (Some k ∷ ks) = Outside Offset
value_to_unset cells (Truth true) (Some k ∷ ks) = Outside Offset
value_to_unset cells v (Some k ∷ ks) = and_then (at_offset cells Strict v k) (goes_on (λ w. value_to_unset cells w ks))

-- ---- changes

-- What changing a part of a value leads to: the changed value, the store and what was found there; or an exception.
pub data Change (A : Type 0) : Type 0 where
  Changed : Value → Store → A → Change A
  Refused : ExceptionClass → Change A

-- What an element becomes, and what that tells: of its old element, if any.
abbrev pub Step : Type 0 → Type 0
Step A = Store → Option Element → ByVersion (Outcome (Change A))

-- the array that a value is or becomes, changed
abbrev pub in_array : {A : Type 0} → Outcome Came → (Array → ByVersion (Outcome (Change A))) → ByVersion (Outcome (Change A))
in_array (Gives (Returns (Arr largest next es))) k = k (record { largest = largest; next = next; entries = es })
in_array (Gives (Returns v)) k = Alike (Outside Offset)
in_array (Gives (Throws c)) k = Alike (Gives (Refused c))
in_array (Outside c) k = Alike (Outside c)

abbrev pub then_change : {A B : Type 0} → ByVersion (Outcome (Change A)) → (Value → Store → A → ByVersion (Outcome (Change B))) → ByVersion (Outcome (Change B))
then_change r k = by_version_then r (λ o. gives_then o (elim [ Changed v s a ↦ k v s a | Refused c ↦ Alike (Gives (Refused c)) ]))

-- an array with an element of its own at a key
abbrev pub put_at : {A : Type 0} → Array → Key → Value → Store → A → ByVersion (Outcome (Change A))
put_at a k v s x = Alike (Gives (Changed (array (with_element k (Own v) a)) s x))

-- an array with an element of its own behind the others
abbrev pub put_behind : {A : Type 0} → Array → Value → Store → A → ByVersion (Outcome (Change A))
put_behind a v s x = by_version_map (outcome_map (λ b. Changed (array b) s x)) (appended (Own v) a)

-- The value in an element changed by `inner`: its own one, or the one in the cell that it shares.
abbrev pub change_element : {A : Type 0} → Array → Key → Option Element → Store → (Value → ByVersion (Outcome (Change A))) → ByVersion (Outcome (Change A))
change_element a k None s inner = then_change (inner Null) (λ v u x. put_at a k v u x)
change_element a k (Some (Own w)) s inner = then_change (inner w) (λ v u x. put_at a k v u x)
change_element a k (Some (Shared c)) s inner =
    then_change (inner (s.held c)) (λ v u x. Alike (Gives (Changed (array a) (with_value c v u) x)))

-- A value with what stands at the offsets changed: `leaf` says what the value there becomes.
abbrev pub changed_at : {A : Type 0} → (Store → Value → ByVersion (Outcome (Change A))) → Store → Value → List (Option Value) → ByVersion (Outcome (Change A))
changed_at leaf s v [] = leaf s v
changed_at leaf s v (None ∷ ks) = in_array (array_to_write s.serials v) (λ a. then_change (changed_at leaf s Null ks) (λ w u x. put_behind a w u x))
changed_at leaf s v (Some k ∷ ks) =
    in_array (array_to_write s.serials v) (λ a. gives_then (to_key k) (λ key.
    change_element a key (element_at key a.entries) s (λ w. changed_at leaf s w ks)))

-- another value is written
abbrev pub written : Value → Store → Value → ByVersion (Outcome (Change (Unit {0})))
written v s old = Alike (Gives (Changed v s tt))

-- ---- references

-- An array's element that shares a cell, and the cell: where it is its own, one that is made with the slot of what takes the
-- reference.
abbrev pub shared_element : Slot → Array → Key → Option Element → Store → ByVersion (Outcome (Change Cell))
shared_element taker a k None s =
    let c = next_cell taker s in Alike (Gives (Changed (array (with_element k (Shared c) a)) (with_cell taker Null s) c))
shared_element taker a k (Some (Own w)) s =
    let c = next_cell taker s in Alike (Gives (Changed (array (with_element k (Shared c) a)) (with_cell taker w s) c))
shared_element taker a k (Some (Shared c)) s = Alike (Gives (Changed (array a) s c))

abbrev pub shared_behind : Slot → Array → Store → ByVersion (Outcome (Change Cell))
shared_behind taker a s =
    let c = next_cell taker s in by_version_map (outcome_map (λ b. Changed (array b) (with_cell taker Null s) c)) (appended (Shared c) a)

-- the element at one offset of a value, shared
abbrev pub shared_at : Slot → Option Value → Store → Value → ByVersion (Outcome (Change Cell))
shared_at taker None s v = in_array (array_to_write s.serials v) (λ a. shared_behind taker a s)
shared_at taker (Some k) s v =
    in_array (array_to_write s.serials v) (λ a. gives_then (to_key k) (λ key. shared_element taker a key (element_at key a.entries) s))

-- the element at one offset of a value, bound to a cell
abbrev pub bound_at : Option Value → Cell → Store → Value → ByVersion (Outcome (Change (Unit {0})))
bound_at None c s v =
    in_array (array_to_write s.serials v) (λ a. by_version_map (outcome_map (λ b. Changed (array b) s tt)) (appended (Shared c) a))
bound_at (Some k) c s v =
    in_array (array_to_write s.serials v) (λ a. gives_then (to_key k) (λ key. Alike (Gives (Changed (array (with_element key (Shared c) a)) s tt))))

-- ---- unsetting

abbrev pub unset_at : Value → Store → Value → ByVersion (Outcome (Change (Unit {0})))
unset_at k s v = Alike (outcome_map (elim [ Returns w ↦ Changed w s tt | Throws c ↦ Refused c ]) (without_offset v k))

-- offsets but for the last one, and that one
abbrev pub front : {A : Type 0} → List A → List A
front [] = []
front (x ∷ []) = []
front (x ∷ y ∷ more) = x ∷ front (y ∷ more)

abbrev pub last_of : {A : Type 0} → List A → Option A
last_of [] = None
last_of (x ∷ []) = Some x
last_of (x ∷ y ∷ more) = last_of (y ∷ more)
