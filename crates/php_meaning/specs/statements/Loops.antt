-- Scripts of statements that run others: blocks, choices, loops. (PHP manual, "Control Structures".)
use Rattle.std.specs.Prelude.{ℕ, zero, suc, ◌+◌, ◌-◌, Bool, true, cond, if◌then◌else◌, List, [], ◌∷◌, codes, Option, Some, None}
use Rattle.std.specs.Str.{bytes_eq}
use Rattle.php_meaning.specs.values.Value.{Value, Null, Truth, Int, Text, Object, Arr, Key, IntKey, TextKey, Cell, Entries, none, own, shared}
use Rattle.php_meaning.specs.Cause.{NoRule}
use Rattle.php_meaning.specs.values.Convert.{to_truth}
use Rattle.php_meaning.specs.values.Compare.{equal, left_of_comparison}
use Rattle.php_meaning.specs.values.Arrays.{Entry, entry_after}
use Rattle.php_meaning.specs.values.Arrays as arrays
use Rattle.scope_names.specs.Slot.{Unnamed}
use Rattle.scope_names.specs.Form.{Form, Word, Child, kids, texts}
use Rattle.scope_names.specs.Words.{has_word, has_keyword, ends_statement}
use Rattle.scope_names.specs.Sites.{Site}
use Rattle.php_meaning.specs.runs.Stores.{walking, walked_over}
use Rattle.php_meaning.specs.runs.Locations.{shared_element}
use Rattle.php_meaning.specs.expressions.Assigning.{Properties, Made, kept_then, after_change, write, bind, cell_then, has_offsets, slot_of}
use Rattle.php_meaning.specs.runs.Script.{
  Untyped,
  Way,
  Break,
  Continue,
  Out,
  Val,
  Fresh,
  At,
  Jump,
  Read,
  Later,
  Left,
  Behind,
  Against,
  Kid,
  Again,
  Script,
  Give,
  Stop,
  Look,
  Put,
  Turn,
  Run,
  give,
  value_then,
  child_value,
  child_location,
  given,
  asking,
  still,
}

-- ---- statements in order

-- the children one after another, as statements, and what then comes
abbrev pub run_then : ℕ → ℕ → (Out → Script) → Script
run_then i zero k = k (Val Null)
run_then i (suc n) k = Run (Kid i Read) (elim [ Val v ↦ run_then (suc i) n k | Fresh v ↦ run_then (suc i) n k | At l ↦ k (At l) | Jump w ↦ k (Jump w) ])

-- ---- passes

-- what a loop does when its body came to an end: it goes on, ends, or leaves
abbrev pub after_jump : Script → Way → Script
after_jump next (Break (suc zero)) = give Null
after_jump next (Break (suc (suc n))) = Give (Jump (Break (suc n)))
after_jump next (Continue (suc zero)) = next
after_jump next (Continue (suc (suc n))) = Give (Jump (Continue (suc n)))
after_jump next w = Give (Jump w)

abbrev pub after_pass : Script → Out → Script
after_pass next (Jump w) = after_jump next w
after_pass next o = next

-- the body of a loop: the last child, a statement; or behind a colon the children from one on, a block that takes a turn
abbrev pub body : Form → ℕ → (Out → Script) → Script
body f i k = if has_word (codes ":") (texts f) then Turn (run_then i (kids f - i) k) else Run (Kid (kids f - 1) Read) k

-- ---- while

abbrev pub while_pass : Form → Script
while_pass f = child_value 0 (λ v. cond (to_truth v) (body f 1 (after_pass (Run (Again Later) Give))) (give Null))

abbrev pub do_pass : Script
do_pass = Run (Kid 0 Read) (after_pass (child_value 1 (λ v. cond (to_truth v) (Run (Again Later) Give) (give Null))))

-- ---- for

-- how many children stand before a word that closes something, and the form behind it
abbrev pub kids_before : (List ℕ → Bool) → Form → ℕ
kids_before closes [] = zero
kids_before closes (Word _ w ∷ f) = if closes w then zero else kids_before closes f
kids_before closes (Child ∷ f) = suc (kids_before closes f)

abbrev pub form_behind : (List ℕ → Bool) → Form → Form
form_behind closes [] = []
form_behind closes (Word _ w ∷ f) = if closes w then f else form_behind closes f
form_behind closes (Child ∷ f) = form_behind closes f

-- the values of some children, the last one of which counts
abbrev pub last_value : ℕ → ℕ → Value → (Value → Script) → Script
last_value i zero v k = k v
last_value i (suc n) v k = child_value i (λ w. last_value (suc i) n w k)

-- how many expressions stand in the three parts; a closing tag serves as a semicolon
abbrev pub first_part : Form → ℕ
first_part f = kids_before ends_statement f

abbrev pub second_part : Form → ℕ
second_part f = kids_before ends_statement (form_behind ends_statement f)

abbrev pub third_part : Form → ℕ
third_part f = kids_before (bytes_eq (codes ")")) (form_behind ends_statement (form_behind ends_statement f))

abbrev pub for_test : Form → Script
for_test f =
    last_value (first_part f) (second_part f) (Truth true) (λ v.
    cond (to_truth v) (body f (first_part f + second_part f + third_part f) (after_pass (Run (Again Later) Give))) (give Null))

abbrev pub for_first : Form → Script
for_first f = last_value 0 (first_part f) Null (λ v. for_test f)

abbrev pub for_later : Form → Script
for_later f = last_value (first_part f + second_part f) (third_part f) Null (λ v. for_test f)

-- ---- foreach

abbrev pub has_key : Form → Bool
has_key f = has_word (codes "=>") (texts f)

abbrev pub by_reference : Form → Bool
by_reference f = has_word (codes "&") (texts f)

-- the index of the value's target
abbrev pub value_index : Form → ℕ
value_index f = cond (has_key f) 2 1

abbrev pub key_value : Key → Value
key_value (IntKey i) = Int i
key_value (TextKey t) = Text t

-- the key is written, if it has a target, and then the body runs
abbrev pub with_key : Properties → Site → Form → Key → Script → Script
with_key properties s f key next =
    if has_key f
    then child_location 1 (λ l. write properties s l (key_value key) (body f 3 (after_pass next)))
    else body f 2 (after_pass next)

-- over a copy: what is left of it
abbrev pub foreach_pass : Properties → Site → Form → Entries → Script
foreach_pass properties s f none = give Null
foreach_pass properties s f (own k n v rest) =
    child_location (value_index f) (λ l. write properties s l v (with_key properties s f k (Run (Again (Left rest)) Give)))
foreach_pass properties s f (shared k n c rest) =
    Look (λ st. child_location (value_index f) (λ l. write properties s l (st.held c) (with_key properties s f k (Run (Again (Left rest)) Give))))

abbrev pub foreach_over : Value → Script
foreach_over (Arr largest next es) = Run (Again (Left es)) Give
foreach_over (Object n) = Stop NoRule
foreach_over v = give Null

-- By reference: the entry with the next greater serial number, whose cell is the variable's from now on. An element as the
-- variable is outside.
abbrev pub meet : Properties → Site → Form → Cell → arrays.Array → Option Entry → Script
meet properties s f c a None = give Null
meet properties s f c a (Some e) =
    child_location (value_index f) (λ l. if has_offsets l then Stop NoRule else Look (λ st.
    asking (shared_element (slot_of s l) a e.key (Some e.element) st) (λ o. given o (after_change properties (Made c Untyped) (λ d.
    bind properties s l d (with_key properties s f e.key (Run (Again (Behind c (Some e.serial))) Give)))))))

abbrev pub foreach_behind : Properties → Site → Form → Cell → Option ℕ → Value → Script
foreach_behind properties s f c met (Arr largest next es) =
    meet properties s f c (record { largest = largest; next = next; entries = es }) (entry_after met es)
foreach_behind properties s f c met (Object n) = Stop NoRule
foreach_behind properties s f c met v = give Null

abbrev pub foreach : Properties → Site → Form → Script
foreach properties s f =
    if by_reference f
    then child_location 0 (λ l. cell_then properties s Unnamed l (λ c. Look (λ st. Put (walking c st)
    (Run (Again (Behind c None)) (λ o. Look (λ u. Put (walked_over c u) (Give o)))))))
    else Run (Kid 0 Read) (kept_then foreach_over)

-- ---- switch

-- the statements of the cases from one on
abbrev pub run_cases : ℕ → ℕ → Script
run_cases i n = run_then i n (after_pass (give Null))

abbrev pub run_default : Option (ℕ × ℕ) → Script
run_default None = give Null
run_default (Some d) = run_cases d.0 d.1

-- the first case that is chosen, or else the default
abbrev pub choose : Value → ℕ → ℕ → Option (ℕ × ℕ) → Script
choose v i zero d = run_default d
choose v i (suc n) d =
    Run (Kid i (Against v)) (value_then (λ chosen. still 0 v (elim chosen [
      | Truth true ↦ run_cases i (suc n)
      | Null ↦ choose v (suc i) n (Some (i, suc n))
      | _ ↦ choose v (suc i) n d
    ])))

abbrev pub switch : ℕ → Script
switch n = child_value 0 (λ v. choose v 1 (n - 1) None)

abbrev pub is_default : Form → Bool
is_default f = has_keyword (codes "default") (texts f)

abbrev pub case_against : Form → Value → Script
case_against f v =
    if is_default f then give Null
    else given (left_of_comparison v) (λ a. child_value 0 (λ b. asking (equal a b) (λ r. given r give)))

abbrev pub case_statements : Form → Script
case_statements f = if is_default f then run_then 0 (kids f) Give else run_then 1 (kids f - 1) Give
