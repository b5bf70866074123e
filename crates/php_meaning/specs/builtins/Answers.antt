-- What each builtin answers to the values of its arguments. (PHP manual, the pages of the functions; UPGRADING 8.0 for
-- those that changed or were removed.)
use Rattle.std.specs.Prelude.{Bool, true, false, if◌then◌else◌, List, [], ◌∷◌, pos, length}
use Rattle.builtin_tables.specs.declared.builtin.Builtin.{Builtin}
use Rattle.builtin_tables.specs.declared.builtin.Builtin.TheVariants as builtin
use Rattle.builtin_tables.specs.Builtins.{row_of}
use Rattle.php_meaning.specs.values.Value.{Value, Null, Truth, Int, Text, Arr}
use Rattle.php_meaning.specs.Cause.{Call, Outcome, Outside, Came}
use Rattle.php_meaning.specs.Differences.{ByVersion, Alike}
use Rattle.php_meaning.specs.values.Keys.{text_key}
use Rattle.php_meaning.specs.values.Value as value
use Rattle.php_meaning.specs.values.Arrays.{count}
use Rattle.php_meaning.specs.values.Cells.{Cells}
use Rattle.php_meaning.specs.builtins.Arguments.{takes, is_text, is_int, is_truth, is_array}
use Rattle.php_meaning.specs.builtins.Texts.{answers, refused, substr, substr_of_length, trim, chr, ord, str_repeat, implode, implode_exchanged}
use Rattle.php_meaning.specs.builtins.Searches.{strpos, strpos_int, explode, str_replace}
use Rattle.php_meaning.specs.builtins.Lists.{array_keys, array_values, has_key}
use Rattle.php_meaning.specs.builtins.Numbers.{intdiv, intval}

abbrev pub is_null : Value → Bool
is_null Null = true
is_null v = false

-- a test of one value
abbrev pub tests : (Value → Bool) → List Value → ByVersion (Outcome Came)
tests test (v ∷ []) = answers (Truth (test v))
tests test vs = refused

-- ---- the functions, each on values that its row lists

abbrev pub strlen : List Value → ByVersion (Outcome Came)
strlen (Text t ∷ []) = answers (Int (pos (length t)))
strlen vs = refused

abbrev pub count_of : List Value → ByVersion (Outcome Came)
count_of (Arr largest next es ∷ []) = answers (Int (pos (count es)))
count_of vs = refused

abbrev pub substr_of : List Value → ByVersion (Outcome Came)
substr_of (Text t ∷ Int i ∷ []) = substr t i
substr_of (Text t ∷ Int i ∷ Int j ∷ []) = substr_of_length t i j
substr_of vs = refused

abbrev pub strpos_of : List Value → ByVersion (Outcome Came)
strpos_of (Text t ∷ Text needle ∷ []) = strpos t needle
strpos_of (Text t ∷ Int i ∷ []) = strpos_int t i
strpos_of vs = refused

abbrev pub implode_of : Cells → List Value → ByVersion (Outcome Came)
implode_of cells (Text glue ∷ Arr largest next es ∷ []) = Alike (implode cells glue es)
implode_of cells (Arr largest next es ∷ Text glue ∷ []) = implode_exchanged cells es glue
implode_of cells vs = refused

abbrev pub explode_of : List Value → ByVersion (Outcome Came)
explode_of (Text glue ∷ Text t ∷ []) = explode glue t
explode_of vs = refused

abbrev pub str_repeat_of : List Value → ByVersion (Outcome Came)
str_repeat_of (Text t ∷ Int i ∷ []) = str_repeat t i
str_repeat_of vs = refused

abbrev pub str_replace_of : List Value → ByVersion (Outcome Came)
str_replace_of (Text old ∷ Text new ∷ Text t ∷ []) = str_replace old new t
str_replace_of vs = refused

abbrev pub trim_of : List Value → ByVersion (Outcome Came)
trim_of (Text t ∷ []) = answers (Text (trim t))
trim_of vs = refused

abbrev pub chr_of : List Value → ByVersion (Outcome Came)
chr_of (Int i ∷ []) = chr i
chr_of vs = refused

abbrev pub ord_of : List Value → ByVersion (Outcome Came)
ord_of (Text t ∷ []) = ord t
ord_of vs = refused

abbrev pub intval_of : List Value → ByVersion (Outcome Came)
intval_of (v ∷ []) = Alike (intval v)
intval_of vs = refused

abbrev pub intdiv_of : List Value → ByVersion (Outcome Came)
intdiv_of (Int i ∷ Int j ∷ []) = Alike (intdiv i j)
intdiv_of vs = refused

abbrev pub array_keys_of : List Value → ByVersion (Outcome Came)
array_keys_of (Arr largest next es ∷ []) = answers (array_keys es)
array_keys_of vs = refused

abbrev pub array_values_of : Cells → List Value → ByVersion (Outcome Came)
array_values_of cells (Arr largest next es ∷ []) = Alike (array_values cells es)
array_values_of cells vs = refused

abbrev pub array_key_exists_of : List Value → ByVersion (Outcome Came)
array_key_exists_of (Int i ∷ Arr largest next es ∷ []) = answers (has_key (value.IntKey i) es)
array_key_exists_of (Text t ∷ Arr largest next es ∷ []) = answers (has_key (text_key t) es)
array_key_exists_of vs = refused

-- ---- the table

-- What a builtin makes of values that its row lists. `get_class` and `define` look at more than values, and that a builtin
-- was removed is asked before its arguments are evaluated.
abbrev pub made_of : Builtin → Cells → List Value → ByVersion (Outcome Came)
made_of builtin.Strlen cells vs = strlen vs
made_of builtin.Count cells vs = count_of vs
made_of builtin.Substr cells vs = substr_of vs
made_of builtin.Strpos cells vs = strpos_of vs
made_of builtin.Implode cells vs = implode_of cells vs
made_of builtin.Join cells vs = implode_of cells vs
made_of builtin.Explode cells vs = explode_of vs
made_of builtin.StrRepeat cells vs = str_repeat_of vs
made_of builtin.StrReplace cells vs = str_replace_of vs
made_of builtin.Trim cells vs = trim_of vs
made_of builtin.Chr cells vs = chr_of vs
made_of builtin.Ord cells vs = ord_of vs
made_of builtin.Intval cells vs = intval_of vs
made_of builtin.Intdiv cells vs = intdiv_of vs
made_of builtin.IsInt cells vs = tests is_int vs
made_of builtin.IsString cells vs = tests is_text vs
made_of builtin.IsArray cells vs = tests is_array vs
made_of builtin.IsNull cells vs = tests is_null vs
made_of builtin.IsBool cells vs = tests is_truth vs
made_of builtin.IsFloat cells vs = tests (λ v. false) vs
made_of builtin.IsReal cells vs = tests (λ v. false) vs
made_of builtin.ArrayKeys cells vs = array_keys_of vs
made_of builtin.ArrayValues cells vs = array_values_of cells vs
made_of builtin.ArrayKeyExists cells vs = array_key_exists_of vs
made_of builtin.GetClass cells vs = refused
made_of builtin.Define cells vs = refused
made_of builtin.GetMagicQuotesGpc cells vs = answers (Truth false)
made_of builtin.GetMagicQuotesRuntime cells vs = answers (Truth false)

-- what a builtin answers; values that its row doesn't list are outside
abbrev pub answer : Builtin → Cells → List Value → ByVersion (Outcome Came)
answer b cells vs = if takes cells (row_of b) vs then made_of b cells vs else Alike (Outside Call)
