-- The builtin functions of the profile. Names of functions are told apart without case. (PHP manual, the pages of the
-- functions; UPGRADING 8.0 for what changed and what was removed. Which arguments have a meaning here is this project's
-- own: the manual's functions take more.)
use Rattle.std.specs.Prelude.{ℕ, List, [], ◌∷◌, codes}
use Rattle.builtin_tables.specs.declared.builtin.Builtin.{Builtin}
use Rattle.builtin_tables.specs.declared.builtin.Builtin.TheVariants.{
  Strlen,
  Count,
  Substr,
  Strpos,
  Implode,
  Join,
  Explode,
  StrRepeat,
  StrReplace,
  Trim,
  Chr,
  Ord,
  Intval,
  Intdiv,
  IsInt,
  IsString,
  IsArray,
  IsNull,
  IsBool,
  IsFloat,
  IsReal,
  ArrayKeys,
  ArrayValues,
  ArrayKeyExists,
  GetClass,
  Define,
  GetMagicQuotesGpc,
  GetMagicQuotesRuntime,
}
use Rattle.builtin_tables.specs.declared.kinds.ArgumentKind.{ArgumentKind}
use Rattle.builtin_tables.specs.declared.kinds.ArgumentKind.TheVariants as argument
use Rattle.builtin_tables.specs.declared.kinds.ResultKind.{ResultKind}
use Rattle.builtin_tables.specs.declared.kinds.ResultKind.TheVariants as answer
use Rattle.builtin_tables.specs.declared.kinds.Change.{Change}
use Rattle.builtin_tables.specs.declared.kinds.Change.TheVariants.{Same, PastEnd, Needle, Exchanged, ConstantCase, Removed}

-- A builtin's name, the kinds of its arguments in order, how many of them must be given, what a call comes to, and what
-- 8.3 does otherwise.
pub record Row : Type 0 where
  pub name : List ℕ
  pub arguments : List ArgumentKind
  pub required : ℕ
  pub value : ResultKind
  pub change : Change

abbrev row : List ℕ → List ArgumentKind → ℕ → ResultKind → Change → Row
row n a r v c = record { name = n; arguments = a; required = r; value = v; change = c }

-- the row of a builtin
abbrev pub row_of : Builtin → Row
row_of Strlen = row (codes "strlen") (argument.Text ∷ []) 1 answer.Int Same
row_of Count = row (codes "count") (argument.Array ∷ []) 1 answer.Int Same
row_of Substr = row (codes "substr") (argument.Text ∷ argument.Int ∷ argument.Int ∷ []) 2 answer.TextOrFalse PastEnd
row_of Strpos = row (codes "strpos") (argument.Text ∷ argument.TextOrInt ∷ []) 2 answer.IntOrFalse Needle
row_of Implode = row (codes "implode") (argument.Text ∷ argument.ScalarArray ∷ []) 2 answer.Text Exchanged
row_of Join = row (codes "join") (argument.Text ∷ argument.ScalarArray ∷ []) 2 answer.Text Exchanged
row_of Explode = row (codes "explode") (argument.Text ∷ argument.Text ∷ []) 2 answer.TextList Same
row_of StrRepeat = row (codes "str_repeat") (argument.Text ∷ argument.Int ∷ []) 2 answer.Text Same
row_of StrReplace = row (codes "str_replace") (argument.Text ∷ argument.Text ∷ argument.Text ∷ []) 3 answer.Text Same
row_of Trim = row (codes "trim") (argument.Text ∷ []) 1 answer.Text Same
row_of Chr = row (codes "chr") (argument.Int ∷ []) 1 answer.Byte Same
row_of Ord = row (codes "ord") (argument.Text ∷ []) 1 answer.Int Same
row_of Intval = row (codes "intval") (argument.Scalar ∷ []) 1 answer.Int Same
row_of Intdiv = row (codes "intdiv") (argument.Int ∷ argument.Int ∷ []) 2 answer.Int Same
row_of IsInt = row (codes "is_int") (argument.Any ∷ []) 1 answer.Bool Same
row_of IsString = row (codes "is_string") (argument.Any ∷ []) 1 answer.Bool Same
row_of IsArray = row (codes "is_array") (argument.Any ∷ []) 1 answer.Bool Same
row_of IsNull = row (codes "is_null") (argument.Any ∷ []) 1 answer.Bool Same
row_of IsBool = row (codes "is_bool") (argument.Any ∷ []) 1 answer.Bool Same
row_of IsFloat = row (codes "is_float") (argument.Any ∷ []) 1 answer.False Same
row_of IsReal = row (codes "is_real") (argument.Any ∷ []) 1 answer.False Removed
row_of ArrayKeys = row (codes "array_keys") (argument.Array ∷ []) 1 answer.KeyList Same
row_of ArrayValues = row (codes "array_values") (argument.Array ∷ []) 1 answer.ValueList Same
row_of ArrayKeyExists = row (codes "array_key_exists") (argument.TextOrInt ∷ argument.Array ∷ []) 2 answer.Bool Same
row_of GetClass = row (codes "get_class") ([]) 0 answer.ClassName Same
row_of Define = row (codes "define") (argument.Text ∷ argument.Scalar ∷ argument.Bool ∷ []) 2 answer.Bool ConstantCase
row_of GetMagicQuotesGpc = row (codes "get_magic_quotes_gpc") ([]) 0 answer.False Removed
row_of GetMagicQuotesRuntime = row (codes "get_magic_quotes_runtime") ([]) 0 answer.False Removed

-- the builtins by their names
unfoldable pub builtin_rows : List (List ℕ × Builtin)
builtin_rows =
    (codes "strlen", Strlen) ∷ (codes "count", Count) ∷ (codes "substr", Substr) ∷ (codes "strpos", Strpos)
    ∷ (codes "implode", Implode) ∷ (codes "join", Join) ∷ (codes "explode", Explode)
    ∷ (codes "str_repeat", StrRepeat) ∷ (codes "str_replace", StrReplace) ∷ (codes "trim", Trim)
    ∷ (codes "chr", Chr) ∷ (codes "ord", Ord) ∷ (codes "intval", Intval) ∷ (codes "intdiv", Intdiv)
    ∷ (codes "is_int", IsInt) ∷ (codes "is_string", IsString) ∷ (codes "is_array", IsArray)
    ∷ (codes "is_null", IsNull) ∷ (codes "is_bool", IsBool) ∷ (codes "is_float", IsFloat)
    ∷ (codes "is_real", IsReal) ∷ (codes "array_keys", ArrayKeys) ∷ (codes "array_values", ArrayValues)
    ∷ (codes "array_key_exists", ArrayKeyExists) ∷ (codes "get_class", GetClass) ∷ (codes "define", Define)
    ∷ (codes "get_magic_quotes_gpc", GetMagicQuotesGpc)
    ∷ (codes "get_magic_quotes_runtime", GetMagicQuotesRuntime) ∷ []
