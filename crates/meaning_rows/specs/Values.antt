-- The words that rows of builtins are written in: values, and what each version answers.
use Rattle.std.specs.Prelude.{◌≡◌, ℕ, suc, true, false, List, [], ◌∷◌, codes, pos, neg_ℤ, Option, Some, None}
use Prim.Native.String.{String}
use Rattle.builtin_tables.specs.declared.builtin.Builtin.{Builtin}
use Rattle.php_tree.specs.declared.version.Version.TheVariants.{V74, V83}
use Rattle.php_meaning.specs.values.Value.{Key, IntKey, TextKey, Value, Null, Truth, Int, Text, Entries, none}
use Rattle.php_meaning.specs.Cause.{Cause, Outcome, Gives, Outside, Came, Returns, Throws, ExceptionClass}
use Rattle.php_meaning.specs.Differences.{ByVersion, in_version}
use Rattle.php_meaning.specs.values.Cells.{Cells}
use Rattle.php_meaning.specs.values.Arrays.{Array, Own, array, empty_array, added}
use Rattle.php_meaning.specs.builtins.Answers.{answer}

abbrev pub text : String → Value
text s = Text (codes s)

abbrev pub int : ℕ → Value
int n = Int (pos n)

abbrev pub minus : ℕ → Value
minus n = Int (neg_ℤ (pos n))

abbrev pub yes : Value
yes = Truth true

abbrev pub no : Value
no = Truth false

abbrev pub key : String → Key
key s = TextKey (codes s)

abbrev pub place : ℕ → Key
place n = IntKey (pos n)

-- the array with these entries
abbrev entries_behind : Array → List (Key × Value) → Array
entries_behind a [] = a
entries_behind a (e ∷ es) = entries_behind (added e.0 (Own e.1) a) es

abbrev pub array_of : List (Key × Value) → Value
array_of es = array (entries_behind (empty_array 0) es)

abbrev listed : ℕ → List Value → List (Key × Value)
listed n [] = []
listed n (v ∷ vs) = (place n, v) ∷ listed (suc n) vs

-- the list of these values
abbrev pub list_of : List Value → Value
list_of vs = array_of (listed 0 vs)

-- cells in which nothing lies
abbrev pub no_cells : Cells
no_cells = record { value_in = λ c. Null; has_one_holder = λ c. true; count = 0 }

abbrev pub gives : Value → Outcome Came
gives v = Gives (Returns v)

abbrev pub throws : ExceptionClass → Outcome Came
throws c = Gives (Throws c)

-- what a builtin answers to values in 7.4, and in 8.3
abbrev pub Answers : Builtin → List Value → Outcome Came → Outcome Came → Type 0
Answers b vs old new =
    (in_version V74 (answer b no_cells vs) ≡ old) × (in_version V83 (answer b no_cells vs) ≡ new)

-- what it answers to values in both
abbrev pub Alike : Builtin → List Value → Value → Type 0
Alike b vs v = Answers b vs (gives v) (gives v)

-- values to which it answers nothing
abbrev pub Refuses : Builtin → List Value → Cause → Type 0
Refuses b vs c = Answers b vs (Outside c) (Outside c)
