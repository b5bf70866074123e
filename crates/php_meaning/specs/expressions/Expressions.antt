-- Scripts of variables, offsets, array literals and assignments. (PHP manual, "Variables", "Arrays", "Assignment
-- Operators", "Incrementing/Decrementing Operators".)
use Rattle.std.specs.Prelude.{ℕ, zero, suc, Bool, true, false, not, cond, if◌then◌else◌, List, [], ◌∷◌, ◌++◌, codes, Option, Some, None}
use Rattle.std.specs.Str.{bytes_eq}
use Rattle.php_meaning.specs.values.Value.{Value, Null, Truth, Text, Object, Arr, Cell}
use Rattle.php_meaning.specs.Cause.{NoRule, Outcome, Reference}
use Rattle.php_meaning.specs.values.Convert.{to_text, to_truth}
use Rattle.php_meaning.specs.values.Keys.{to_key}
use Rattle.php_meaning.specs.values.Arrays.{Own, Shared, Array, array, empty_array, with_element, appended}
use Rattle.php_meaning.specs.values.Offsets.{Reading, at_offset}
use Rattle.php_meaning.specs.expressions.QuotedTexts.{variable_read}
use Rattle.php_meaning.specs.values.Same.{is_same}
use Rattle.php_meaning.specs.runs.Locations.{front, last_of}
use Rattle.php_meaning.specs.expressions.Operators.{Operation, operation}
use Rattle.php_meaning.specs.runs.World.{Bytes, Store}
use Rattle.scope_names.specs.Slot.{Unnamed}
use Rattle.scope_names.specs.Form.{Form, Word, Child, texts}
use Rattle.scope_names.specs.Words.{has_word}
use Rattle.scope_names.specs.Sites.{Site}
use Rattle.php_meaning.specs.runs.Stores.{cells_of, held_or_null, variable_cell, lending}
use Rattle.php_meaning.specs.expressions.Assigning.{Properties, numbered, kept, kept_then, both_kept, write, read, bind, cell_then, has_offsets, slot_of}
use Rattle.php_meaning.specs.runs.Script.{
  InVariable,
  Location,
  Out,
  Val,
  Fresh,
  At,
  Jump,
  Mode,
  Read,
  Quiet,
  Unset,
  Into,
  Kid,
  Script,
  Give,
  Stop,
  Look,
  Put,
  Run,
  give,
  value_then,
  child_value,
  child_location,
  given,
  asking,
  came_then,
  comes,
  still,
  stands,
  Placed,
  FoundQuietly,
  early,
  found_value,
  placed,
}

-- ---- variables

-- the variable of its token: the name is what follows the `$`
abbrev pub plain_name : Bytes → Bytes
plain_name [] = []
plain_name (b ∷ bs) = bs

abbrev pub in_variable : Bytes → Location
in_variable name = record { root = InVariable name; offsets = [] }

abbrev pub variable_value : Bytes → Script
variable_value name = variable_read name give

-- the same where nothing is said of what isn't there
abbrev pub this_quietly : Option ℕ → Script
this_quietly None = give Null
this_quietly (Some n) = give (Object n)

abbrev pub variable_quietly : Bytes → Script
variable_quietly name =
    if bytes_eq name (codes "this") then Look (λ s. this_quietly s.here.this) else variable_value name

-- a variable whose value was read: it still holds it, or it is outside
abbrev pub variable_still : Bytes → Value → Script
variable_still name v =
    if bytes_eq name (codes "this") then Give stands
    else Look (λ s. cond (is_same (held_or_null s (variable_cell name s)) v) (Give stands) (Stop Reference))

-- ---- offsets

abbrev pub behind_offset : Location → Option Value → Location
behind_offset l k = record l { offsets = l.offsets ++ k ∷ [] }

abbrev pub first_of : List Bytes → Bytes
first_of [] = []
first_of (w ∷ ws) = w

-- the value that the key of a simple offset in a quoted text writes
abbrev pub simple_key : List Bytes → Value
simple_key (bracket ∷ k ∷ more) = if bytes_eq k (codes "-") then Text (codes "-" ++ first_of more) else Text k
simple_key ws = Null

abbrev pub offset_of : Reading → Value → Value → Script
offset_of reading v k = Look (λ s. given (at_offset (cells_of s) reading v k) comes)

-- Read: the key is evaluated before the base is found, a variable, offset or property, which the key may change. (As PHP
-- compiles it: what finds a base comes behind the keys, in the order of the bases.)
abbrev pub read_offset : (Location → Mode) → Reading → Form → Script
read_offset found reading (Child ∷ Word _ o ∷ Child ∷ f) =
    early 0 (λ l. child_value 1 (λ k. found_value 0 found l (λ v. offset_of reading v k)))
read_offset found reading (Child ∷ Word _ o ∷ Word _ c ∷ []) = Stop NoRule
read_offset found reading (Child ∷ f) = early 0 (λ l. found_value 0 found l (λ v. offset_of reading v (simple_key (texts f))))
read_offset found reading f = Stop NoRule

-- as location
abbrev pub offset_location : Form → (Location → Script) → Script
offset_location (Child ∷ Word _ o ∷ Child ∷ f) k = early 0 (λ l. child_value 1 (λ v. placed 0 l (λ m. k (behind_offset m (Some v)))))
offset_location (Child ∷ Word _ o ∷ Word _ c ∷ []) k = child_location 0 (λ l. k (behind_offset l None))
offset_location f k = Stop NoRule

-- as a base or target: its key, behind what its own base was given
abbrev pub early_offset : Form → Script
early_offset (Child ∷ Word _ o ∷ Child ∷ f) = early 0 (λ l. child_value 1 (λ k. Give (At (behind_offset l (Some k)))))
early_offset (Child ∷ Word _ o ∷ Word _ c ∷ []) = early 0 (λ l. Give (At (behind_offset l None)))
early_offset f = Stop NoRule

-- A property as a base or target has no key.
abbrev pub early_property : Script
early_property = early 0 (λ l. Give (At (behind_offset l None)))

abbrev pub before_last : Location → Location
before_last l = record l { offsets = front l.offsets }

-- such an offset read; where its key is a variable that was changed meanwhile, which PHP reads only now, it is outside
abbrev pub found_at : (Location → Mode) → Reading → Location → Option (Option Value) → Script
found_at found reading l (Some (Some k)) = still 1 k (found_value 0 found l (λ v. offset_of reading v k))
found_at found reading l o = Stop NoRule

abbrev pub found_offset : (Location → Mode) → Reading → Location → Script
found_offset found reading l = found_at found reading (before_last l) (last_of l.offsets)

-- and as location
abbrev pub placed_at : Location → Option (Option Value) → Script
placed_at l (Some (Some k)) = still 1 k (placed 0 l (λ m. Give (At (behind_offset m (Some k)))))
placed_at l (Some None) = placed 0 l (λ m. Give (At (behind_offset m None)))
placed_at l None = Stop NoRule

abbrev pub placed_offset : Location → Script
placed_offset l = placed_at (before_last l) (last_of l.offsets)

-- the object of a property that is found
abbrev pub found_object : (Location → Mode) → Location → (Value → Script) → Script
found_object found l k = found_value 0 found (before_last l) k

-- ---- array literals

-- the array so far, of a mode
abbrev pub with_array : Value → (Array → Script) → Script
with_array (Arr largest next es) k = k (record { largest = largest; next = next; entries = es })
with_array v k = Stop NoRule

abbrev pub fresh : Array → Script
fresh a = Give (Fresh (array a))

-- an item's value or cell behind the items so far
abbrev pub item_value : Form → ℕ → (Bool → Script) → Script
item_value f i k = k (has_word (codes "&") (texts f))

-- An item refers to a cell: a copy of what else holds the cell is outside from then on.
abbrev pub lend : Cell → Script → Script
lend c k = Look (λ s. Put (lending c s) k)

-- The cell that an item refers to. An element of another array is outside there, as one that is bound to an element is.
abbrev pub item_cell : Properties → Site → Location → (Cell → Script) → Script
item_cell properties s l k = cond (has_offsets l) (Stop NoRule) (cell_then properties s Unnamed l (λ c. lend c (k c)))

-- an item, into the array so far
abbrev pub item : Properties → Site → Form → Array → Script
item properties s f a =
    if has_word (codes "...") (texts f) then Stop NoRule
    else (if has_word (codes "=>") (texts f)
    then child_value 0 (λ v. given (to_key v) (λ key.
    (if has_word (codes "&") (texts f)
    then child_location 1 (λ l. still 0 v (item_cell properties s l (λ c. fresh (with_element key (Shared c) a))))
    else Run (Kid 1 Read) (kept_then (λ w. still 0 v (fresh (with_element key (Own w) a)))))))
    else (if has_word (codes "&") (texts f)
    then child_location 0 (λ l. item_cell properties s l (λ c. asking (appended (Shared c) a) (λ o. given o fresh)))
    else Run (Kid 0 Read) (kept_then (λ w. asking (appended (Own w) a) (λ o. given o fresh)))))

abbrev pub fresh_then : (Value → Script) → Out → Script
fresh_then k (Fresh v) = k v
fresh_then k (Val v) = Stop NoRule
fresh_then k (At l) = Stop NoRule
fresh_then k (Jump w) = Give (Jump w)

abbrev pub items : ℕ → ℕ → Value → Script
items i zero a = Give (Fresh a)
items i (suc n) a = Run (Kid i (Into a)) (fresh_then (λ b. items (suc i) n b))

abbrev pub array_literal : ℕ → Script
array_literal n = Look (λ s. Put (numbered n s) (items 0 n (array (empty_array s.serials))))

-- ---- assignments

-- A value goes into a target that was evaluated before. A right side that is a variable and refers to the array in which an
-- element is written is outside: PHP reads it once the element is there.
abbrev pub put_in : Properties → Site → Location → Value → Value → Script
put_in properties s p w v =
    placed 0 p (λ l. write properties s l v (if has_offsets l then still 1 w (give v) else give v))

-- the keys of the target, the right side, and then the target itself
abbrev pub assign : Properties → Site → Script
assign properties s = early 0 (λ p. Run (Kid 1 Read) (both_kept (λ w v. put_in properties s p w v)))

-- What PHP throws while it finds the target of a reference comes after the reference is made, so that is outside.
abbrev pub placed_surely : (Location → Script) → Out → Script
placed_surely k (At l) = k l
placed_surely k o = Stop NoRule

abbrev pub refer : Properties → Site → Location → Location → Script
refer properties s l m = cell_then properties s (slot_of s l) m (λ c. bind properties s l c (Look (λ st. give (st.held c))))

-- by reference; an element to an element is outside
abbrev pub assign_reference : Properties → Site → Script
assign_reference properties s =
    early 0 (λ p. child_location 1 (λ m. Run (Kid 0 (Placed p)) (placed_surely (λ l.
    if has_offsets l then cond (has_offsets m) (Stop NoRule) (refer properties s l m) else refer properties s l m))))

-- the operator of a compound assignment, without its `=`
abbrev pub operator_of : Bytes → Bytes
operator_of [] = []
operator_of (b ∷ []) = []
operator_of (b ∷ c ∷ bs) = b ∷ operator_of (c ∷ bs)

-- the target is found and read after the right side
abbrev pub compound : Properties → Site → Option Operation → Script
compound properties s None = Stop NoRule
compound properties s (Some o) =
    early 0 (λ p. child_value 1 (λ b. placed 0 p (λ l. read properties s l (λ a.
    given (o.left a) (λ left. asking (o.answer left b) (λ r. given r (came_then (λ v. kept v (λ w. write properties s l w (give w))))))))))

-- `??=`: the target is read first, and where it is null the right side is written, to what the target is by then
abbrev pub assign_if_null : Properties → Site → Script
assign_if_null properties s = early 0 (λ p. found_value 0 FoundQuietly p (elim [
  | Null ↦ Run (Kid 1 Read) (both_kept (λ w v. put_in properties s p w v))
  | w ↦ give w
]))

abbrev pub compound_by : Properties → Site → Bytes → Script
compound_by properties s op =
    if bytes_eq op (codes "??") then assign_if_null properties s
    else Look (λ st. compound properties s (operation (cells_of st) st.serials op))

-- `++` and `--`: the value after it, or before it
abbrev pub stepped : Properties → Site → Bool → (Value → Outcome Value) → Script
stepped properties s is_before step =
    child_location 0 (λ l. read properties s l (λ a. given (step a) (λ v. write properties s l v (give (cond is_before v a)))))

-- ---- tests

-- whether each child is there
abbrev pub isset : ℕ → ℕ → Script
isset i zero = give (Truth true)
isset i (suc n) = Run (Kid i Quiet) (value_then (elim [ Null ↦ give (Truth false) | _ ↦ isset (suc i) n ]))

abbrev pub empty_test : Script
empty_test = Run (Kid 0 Quiet) (value_then (λ v. give (Truth (not (to_truth v)))))

abbrev pub coalesce : Script
coalesce = Run (Kid 0 Quiet) (value_then (elim [ Null ↦ Run (Kid 1 Read) Give | v ↦ give v ]))

abbrev pub both : Script
both = child_value 0 (λ a. cond (to_truth a) (child_value 1 (λ b. give (Truth (to_truth b)))) (give (Truth false)))

abbrev pub either : Script
either = child_value 0 (λ a. cond (to_truth a) (give (Truth true)) (child_value 1 (λ b. give (Truth (to_truth b)))))

-- `xor`: both operands are evaluated
abbrev pub one_alone : Script
one_alone =
    child_value 0 (λ a. child_value 1 (λ b. still 0 a (give (Truth (cond (to_truth a) (not (to_truth b)) (to_truth b))))))

-- ---- unset

abbrev pub unset_all : ℕ → ℕ → Script
unset_all i zero = give Null
unset_all i (suc n) = Run (Kid i Unset) (value_then (λ v. unset_all (suc i) n))
