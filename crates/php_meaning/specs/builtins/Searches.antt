-- Builtins that look for a text in another one. (PHP manual, "String Functions": strpos, explode, str_replace.)
use Rattle.std.specs.Prelude.{ℕ, zero, suc, Bool, true, false, ◌&&◌, if◌then◌else◌, ◌==◌, nat_le, List, [], ◌∷◌, ◌++◌, ℤ, pos, negsuc, length, drop, Option, Some, None, option_map}
use Rattle.php_meaning.specs.values.Value.{IntKey, Value, Truth, Int, Text}
use Rattle.php_meaning.specs.Cause.{Call, Outcome, Gives, Outside, Came, Returns}
use Rattle.php_meaning.specs.Differences.{ByVersion, Alike, Differs, Builtin}
use Rattle.php_meaning.specs.values.Ints.{int_text}
use Rattle.php_meaning.specs.values.Arrays.{Array, Own, array, empty_array, added}
use Rattle.php_meaning.specs.builtins.Texts.{answers, refused}

-- whether a text begins with another one
abbrev pub starts_with : List ℕ → List ℕ → Bool
starts_with [] t = true
starts_with (a ∷ more) [] = false
starts_with (a ∷ more) (b ∷ bs) = a == b && starts_with more bs

-- ---- strpos

-- where a text stands in another one for the first time, from the left
abbrev pub position : List ℕ → List ℕ → Option ℕ
position needle [] = if starts_with needle [] then Some 0 else None
position needle (b ∷ bs) = if starts_with needle (b ∷ bs) then Some 0 else option_map suc (position needle bs)

-- the place, or false
abbrev pub place_or_false : Option ℕ → Value
place_or_false (Some n) = Int (pos n)
place_or_false None = Truth false

abbrev pub found_in : List ℕ → List ℕ → Outcome Came
found_in needle t = Gives (Returns (place_or_false (position needle t)))

-- An empty needle: false in 7.4, place 0 in 8.3. (UPGRADING 8.0, "Standard".)
abbrev pub strpos : List ℕ → List ℕ → ByVersion (Outcome Came)
strpos t [] = Differs Builtin (Gives (Returns (Truth false))) (found_in [] t)
strpos t (a ∷ needle) = Alike (found_in (a ∷ needle) t)

-- the byte of a code; what is none is outside
abbrev pub found_code : ℤ → List ℕ → Outcome Came
found_code (pos n) t = if nat_le n 255 then found_in (n ∷ []) t else Outside Call
found_code (negsuc n) t = Outside Call

-- A needle that is an int: the byte of that code in 7.4, its decimal text in 8.3. (UPGRADING 8.0, "Standard".)
abbrev pub strpos_int : List ℕ → ℤ → ByVersion (Outcome Came)
strpos_int t i = Differs Builtin (found_code i t) (found_in (int_text i) t)

-- ---- pieces

-- A text cut at each place of another one, which isn't empty: `piece` is what was gone through since the last cut, and
-- `skipped` how many bytes of the other text are still to be passed.
abbrev pub pieces_from : List ℕ → ℕ → List ℕ → List ℕ → List (List ℕ)
pieces_from glue skipped piece [] = piece ∷ []
pieces_from glue (suc n) piece (b ∷ bs) = pieces_from glue n piece bs
pieces_from glue zero piece (b ∷ bs) =
    if starts_with glue (b ∷ bs)
    then piece ∷ pieces_from glue (length (drop 1 glue)) [] bs
    else pieces_from glue zero (piece ++ b ∷ []) bs

abbrev pub pieces : List ℕ → List ℕ → List (List ℕ)
pieces glue t = pieces_from glue 0 [] t

-- a list of texts, behind those so far
abbrev pub text_list : Array → ℕ → List (List ℕ) → Array
text_list a n [] = a
text_list a n (t ∷ ts) = text_list (added (IntKey (pos n)) (Own (Text t)) a) (suc n) ts

-- `explode`; an empty first text is outside
abbrev pub explode : List ℕ → List ℕ → ByVersion (Outcome Came)
explode [] t = refused
explode (a ∷ glue) t = answers (array (text_list (empty_array 0) 0 (pieces (a ∷ glue) t)))

-- the pieces with another text between them
abbrev pub put_together : List ℕ → List (List ℕ) → List ℕ
put_together glue [] = []
put_together glue (p ∷ []) = p
put_together glue (p ∷ q ∷ ps) = p ++ glue ++ put_together glue (q ∷ ps)

-- `str_replace`; an empty text to look for is outside
abbrev pub str_replace : List ℕ → List ℕ → List ℕ → ByVersion (Outcome Came)
str_replace [] new t = refused
str_replace (a ∷ old) new t = answers (Text (put_together new (pieces (a ∷ old) t)))
