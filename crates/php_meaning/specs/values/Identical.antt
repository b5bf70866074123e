-- Strict comparison, `===`: one type and one content, arrays entry by entry in order, objects by number. (PHP manual,
-- "Comparison Operators" and "Array Operators".)
use Rattle.std.specs.Prelude.{ℕ, zero, suc, Bool, true, false, ◌&&◌, if◌then◌else◌, ◌==◌, List, [], ◌∷◌, ℤ, int_le}
use Rattle.std.specs.Bool.{beq}
use Rattle.php_meaning.specs.values.Value.{Cell, Key, IntKey, TextKey, Value, Null, Truth, Int, Text, Object, Arr, Entries, none, own, shared}
use Rattle.php_meaning.specs.Cause.{Outcome, Gives, Outside, Reference, and_then}
use Rattle.php_meaning.specs.values.Cells.{Cells, inside}

abbrev pub is_same_int : ℤ → ℤ → Bool
is_same_int i j = int_le i j && int_le j i

abbrev pub is_same_text : List ℕ → List ℕ → Bool
is_same_text [] [] = true
is_same_text [] (b ∷ bs) = false
is_same_text (a ∷ more) [] = false
is_same_text (a ∷ more) (b ∷ bs) = a == b && is_same_text more bs

abbrev pub is_same_key : Key → Key → Bool
is_same_key (IntKey i) (IntKey j) = is_same_int i j
is_same_key (IntKey i) (TextKey t) = false
is_same_key (TextKey s) (IntKey j) = false
is_same_key (TextKey s) (TextKey t) = is_same_text s t

-- A comparison of two values: the left one lies in the first cells, the right one in the second ones.
abbrev pub Comparing : Type 0
Comparing = List Cell → List Cell → Value → Value → Outcome Bool

-- the second answer, where the first one is true
abbrev pub and_also : Outcome Bool → Outcome Bool → Outcome Bool
and_also first second = and_then first (λ same. if same then second else Gives false)

-- What is compared inside the cells that the right value lies in.
abbrev pub Found : Type 0
Found = List Cell → Value → Outcome Bool

-- An entry against the right entries: these begin with the same key, `found` holds of their first value, and `after`
-- of the others.
abbrev pub against : Cells → List Cell → Key → Entries → Found → (Entries → Outcome Bool) → Outcome Bool
against cells right k none found after = Gives false
against cells right k (own l n w others) found after =
    and_also (Gives (is_same_key k l)) (and_also (found right w) (after others))
against cells right k (shared l n c others) found after =
    and_also (Gives (is_same_key k l))
    (and_also (inside c right (λ right'. found right' (cells.value_in c))) (after others))

-- Two values, where `in_cell` compares what lies in a cell of the left one.
module _ (cells : Cells) (in_cell : Comparing) where
  abbrev mutual
    pub same_values : List Cell → List Cell → Value → Value → Outcome Bool
    same_values left right Null Null = Gives true
    same_values left right (Truth a) (Truth b) = Gives (beq a b)
    same_values left right (Int i) (Int j) = Gives (is_same_int i j)
    same_values left right (Text s) (Text t) = Gives (is_same_text s t)
    same_values left right (Object m) (Object n) = Gives (m == n)
    same_values left right (Arr largest next es) (Arr largest' next' fs) = same_entries left right es fs
    same_values left right a b = Gives false

    pub same_entries : List Cell → List Cell → Entries → Entries → Outcome Bool
    same_entries left right none none = Gives true
    same_entries left right none (own l n w others) = Gives false
    same_entries left right none (shared l n c others) = Gives false
    same_entries left right (own k n v rest) fs =
        against cells right k fs (λ right' w. same_values left right' v w) (λ others. same_entries left right rest others)
    same_entries left right (shared k n c rest) fs =
        against cells right k fs (λ right' w. inside c left (λ left'. in_cell left' right' (cells.value_in c) w))
        (λ others. same_entries left right rest others)

-- Two values, of which the left one has at most so many cells in one another.
abbrev pub same_within : ℕ → Cells → Comparing
same_within zero cells left right a b = Outside Reference
same_within (suc more) cells left right a b = same_values cells (same_within more cells) left right a b

-- `===`; `!==` is its negation
abbrev pub is_identical : Cells → Value → Value → Outcome Bool
is_identical cells a b = same_within (suc cells.count) cells [] [] a b
