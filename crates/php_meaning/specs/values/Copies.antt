-- Copies of arrays. Each element of a copy is a value of its own, and so in the arrays inside it. A copy is outside
-- where an element's cell has another holder. (PHP manual, "References Explained"; that such a copy is outside is
-- this project's own.)
use Rattle.std.specs.Prelude.{ℕ, zero, suc, ◌+◌, List, [], if◌then◌else◌}
use Rattle.php_meaning.specs.values.Value.{Cell, Key, Value, Null, Truth, Int, Text, Object, Arr, Entries, none, own, shared}
use Rattle.php_meaning.specs.Cause.{Outcome, Gives, Outside, Reference, and_then, outcome_map}
use Rattle.php_meaning.specs.values.Cells.{Cells, inside}
use Rattle.php_meaning.specs.values.Arrays.{count}

-- an entry behind which the others are copied
abbrev pub copied_entry : Key → ℕ → Outcome Value → Outcome Entries → Outcome Entries
copied_entry k n v rest = and_then v (λ w. outcome_map (own k n w) rest)

-- A copy of a value that lies in these cells.
abbrev pub Copying : Type 0
Copying = List Cell → Value → Outcome Value

-- A value copied: `in_cell` copies what lies in a cell, and the entries of each array are numbered from `first` on.
module _ (cells : Cells) (in_cell : Copying) (first : ℕ) where
  abbrev mutual
    pub copied_by : List Cell → Value → Outcome Value
    copied_by around Null = Gives Null
    copied_by around (Truth b) = Gives (Truth b)
    copied_by around (Int i) = Gives (Int i)
    copied_by around (Text t) = Gives (Text t)
    copied_by around (Object n) = Gives (Object n)
    copied_by around (Arr largest next es) =
        outcome_map (Arr largest (first + count es)) (copied_entries around first es)

    pub copied_entries : List Cell → ℕ → Entries → Outcome Entries
    copied_entries around n none = Gives none
    copied_entries around n (own k m v rest) =
        copied_entry k n (copied_by around v) (copied_entries around (suc n) rest)
    copied_entries around n (shared k m c rest) =
        if cells.has_one_holder c
        then copied_entry k n (inside c around (λ more. in_cell more (cells.value_in c)))
        (copied_entries around (suc n) rest)
        else Outside Reference

-- a value with at most so many cells in one another, copied
abbrev pub copied_within : ℕ → Cells → ℕ → Copying
copied_within zero cells first around v = Outside Reference
copied_within (suc more) cells first around v = copied_by cells (copied_within more cells first) first around v

-- A value copied, with its entries numbered from this number on.
abbrev pub copied : Cells → ℕ → Value → Outcome Value
copied cells first v = copied_within (suc cells.count) cells first [] v
