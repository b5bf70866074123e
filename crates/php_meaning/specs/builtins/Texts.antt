-- Builtins that make texts. (PHP manual, "String Functions": implode, explode, str_repeat, trim, chr, ord, strlen,
-- substr.)
use Rattle.std.specs.Prelude.{
  ℕ,
  zero,
  suc,
  ◌+◌,
  Bool,
  true,
  false,
  ◌||◌,
  if◌then◌else◌,
  ◌==◌,
  nat_le,
  nat_lt,
  List,
  [],
  ◌∷◌,
  ◌++◌,
  codes,
  ℤ,
  pos,
  negsuc,
  length,
  drop,
  take,
  reverse,
}
use Rattle.php_meaning.specs.values.Value.{Value, Truth, Int, Text, Entries, none, own, shared}
use Rattle.php_meaning.specs.Cause.{Call, TypeError, Outcome, Gives, Outside, Came, Returns, Throws, and_then, outcome_map}
use Rattle.php_meaning.specs.Differences.{ByVersion, Alike, Differs, Builtin}
use Rattle.php_meaning.specs.values.Convert.{to_text}
use Rattle.php_meaning.specs.values.Cells.{Cells}

-- the same value in both versions
abbrev pub answers : Value → ByVersion (Outcome Came)
answers v = Alike (Gives (Returns v))

-- no meaning in either
abbrev pub refused : ByVersion (Outcome Came)
refused = Alike (Outside Call)

abbrev pub text_came : Outcome (List ℕ) → Outcome Came
text_came r = outcome_map (λ t. Returns (Text t)) r

-- ---- parts of a text

-- A part of a text from a start on. A start past the end: false in 7.4, the empty text in 8.3. (RFC "Saner string
-- functions" of UPGRADING 8.0, on `substr`.)
abbrev pub part_from : List ℕ → ℕ → List ℕ → ByVersion (Outcome Came)
part_from t start part =
    if nat_lt (length t) start
    then Differs Builtin (Gives (Returns (Truth false))) (Gives (Returns (Text [])))
    else answers (Text part)

-- `substr`; a negative start or length is outside
abbrev pub substr : List ℕ → ℤ → ByVersion (Outcome Came)
substr t (pos n) = part_from t n (drop n t)
substr t (negsuc n) = refused

abbrev pub substr_of_length : List ℕ → ℤ → ℤ → ByVersion (Outcome Came)
substr_of_length t (pos n) (pos m) = part_from t n (take m (drop n t))
substr_of_length t (pos n) (negsuc m) = refused
substr_of_length t (negsuc n) length = refused

-- what `trim` takes off: space, tab, line feed, carriage return, the byte 0, vertical tab
abbrev pub is_trimmed : ℕ → Bool
is_trimmed b = b == 32 || b == 9 || b == 10 || b == 13 || b == 0 || b == 11

abbrev pub trimmed_in_front : List ℕ → List ℕ
trimmed_in_front [] = []
trimmed_in_front (b ∷ bs) = if is_trimmed b then trimmed_in_front bs else b ∷ bs

-- `trim`
abbrev pub trim : List ℕ → List ℕ
trim t = reverse (trimmed_in_front (reverse (trimmed_in_front t)))

-- ---- bytes

-- `chr`; a code that is no byte is outside
abbrev pub chr : ℤ → ByVersion (Outcome Came)
chr (pos n) = if nat_le n 255 then answers (Text (n ∷ [])) else refused
chr (negsuc n) = refused

-- `ord`; of the empty text it is outside
abbrev pub ord : List ℕ → ByVersion (Outcome Came)
ord [] = refused
ord (b ∷ bs) = answers (Int (pos b))

-- ---- texts made of others

abbrev pub repeated : ℕ → List ℕ → List ℕ
repeated zero t = []
repeated (suc n) t = t ++ repeated n t

-- `str_repeat`; a negative number is outside
abbrev pub str_repeat : List ℕ → ℤ → ByVersion (Outcome Came)
str_repeat t (pos n) = answers (Text (repeated n t))
str_repeat t (negsuc n) = refused

-- a text behind the glue, but the first one
abbrev pub glued : List ℕ → Bool → List ℕ → List ℕ
glued glue is_first t = if is_first then t else glue ++ t

-- the texts of an array's values, with a glue between them
abbrev pub joined_texts : Cells → List ℕ → Bool → Entries → Outcome (List ℕ)
joined_texts cells glue is_first none = Gives []
joined_texts cells glue is_first (own k n v rest) =
    and_then (to_text v) (λ t. outcome_map (λ more. glued glue is_first t ++ more) (joined_texts cells glue false rest))
joined_texts cells glue is_first (shared k n c rest) =
    and_then (to_text (cells.value_in c)) (λ t.
    outcome_map (λ more. glued glue is_first t ++ more) (joined_texts cells glue false rest))

-- `implode` and `join`
abbrev pub implode : Cells → List ℕ → Entries → Outcome Came
implode cells glue es = text_came (joined_texts cells glue true es)

-- The array first and then the glue: the same in 7.4, a TypeError in 8.3. (UPGRADING 8.0, "Standard".)
abbrev pub implode_exchanged : Cells → Entries → List ℕ → ByVersion (Outcome Came)
implode_exchanged cells es glue = Differs Builtin (implode cells glue es) (Gives (Throws TypeError))
