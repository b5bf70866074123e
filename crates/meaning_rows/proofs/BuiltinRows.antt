-- Rows of the builtins: what each answers to values, in both versions. A builtin that 8.3 has no more is asked for before
-- its arguments; its rows here are 7.4's. (PHP manual, the pages of the functions.)
use Rattle.std.proofs.Common.{[], ◌∷◌, refl}
use Rattle.builtin_tables.specs.declared.builtin.Builtin.TheVariants.{
  ArrayKeyExists,
  ArrayKeys,
  ArrayValues,
  Chr,
  Count,
  Explode,
  GetMagicQuotesGpc,
  GetMagicQuotesRuntime,
  Implode,
  Intdiv,
  Intval,
  IsArray,
  IsBool,
  IsFloat,
  IsInt,
  IsNull,
  IsReal,
  IsString,
  Join,
  Ord,
  StrRepeat,
  StrReplace,
  Strlen,
  Strpos,
  Substr,
  Trim,
}
use Rattle.php_meaning.specs.values.Value.{Null, Text, Object}
use Rattle.php_meaning.specs.Cause.{Call, Conversion, TypeError, ArithmeticError, DivisionByZeroError, Outside}
use Rattle.meaning_rows.specs.Values.{text, int, minus, yes, no, key, place, array_of, list_of, gives, throws, Answers, Alike, Refuses}

length : Alike Strlen (text "abc" ∷ []) (int 3)
length = (refl, refl)

length_of_nothing : Alike Strlen (text "" ∷ []) (int 0)
length_of_nothing = (refl, refl)

length_of_int : Refuses Strlen (int 1 ∷ []) Call
length_of_int = (refl, refl)

length_of_null : Refuses Strlen (Null ∷ []) Call
length_of_null = (refl, refl)

length_of_two : Refuses Strlen (text "a" ∷ text "b" ∷ []) Call
length_of_two = (refl, refl)

count_of_none : Alike Count (list_of [] ∷ []) (int 0)
count_of_none = (refl, refl)

count_of_two : Alike Count (list_of (int 1 ∷ Null ∷ []) ∷ []) (int 2)
count_of_two = (refl, refl)

count_of_text : Refuses Count (text "a" ∷ []) Call
count_of_text = (refl, refl)

part : Alike Substr (text "hello" ∷ int 1 ∷ int 3 ∷ []) (text "ell")
part = (refl, refl)

part_to_the_end : Alike Substr (text "hello" ∷ int 2 ∷ []) (text "llo")
part_to_the_end = (refl, refl)

part_at_the_end : Alike Substr (text "abc" ∷ int 3 ∷ []) (text "")
part_at_the_end = (refl, refl)

part_too_long : Alike Substr (text "abc" ∷ int 1 ∷ int 9 ∷ []) (text "bc")
part_too_long = (refl, refl)

part_past : Answers Substr (text "ab" ∷ int 3 ∷ []) (gives no) (gives (text ""))
part_past = (refl, refl)

part_past_with_length : Answers Substr (text "" ∷ int 1 ∷ int 0 ∷ []) (gives no) (gives (text ""))
part_past_with_length = (refl, refl)

part_from_behind : Refuses Substr (text "abc" ∷ minus 1 ∷ []) Call
part_from_behind = (refl, refl)

part_of_negative_length : Refuses Substr (text "abc" ∷ int 0 ∷ minus 1 ∷ []) Call
part_of_negative_length = (refl, refl)

position : Alike Strpos (text "abcabc" ∷ text "ca" ∷ []) (int 2)
position = (refl, refl)

no_position : Alike Strpos (text "abc" ∷ text "d" ∷ []) (no)
no_position = (refl, refl)

position_at_the_front : Alike Strpos (text "abc" ∷ text "abc" ∷ []) (int 0)
position_at_the_front = (refl, refl)

needle_too_long : Alike Strpos (text "ab" ∷ text "abc" ∷ []) (no)
needle_too_long = (refl, refl)

empty_needle : Answers Strpos (text "abc" ∷ text "" ∷ []) (gives no) (gives (int 0))
empty_needle = (refl, refl)

empty_needle_in_nothing : Answers Strpos (text "" ∷ text "" ∷ []) (gives no) (gives (int 0))
empty_needle_in_nothing = (refl, refl)

code : Answers Strpos (text "AB" ∷ int 66 ∷ []) (gives (int 1)) (gives no)
code = (refl, refl)

digits : Answers Strpos (text "a66" ∷ int 66 ∷ []) (gives no) (gives (int 1))
digits = (refl, refl)

code_too_great : Answers Strpos (text "a256" ∷ int 256 ∷ []) (Outside Call) (gives (int 1))
code_too_great = (refl, refl)

code_negative : Answers Strpos (text "-1" ∷ minus 1 ∷ []) (Outside Call) (gives (int 0))
code_negative = (refl, refl)

glue : Alike Implode (text ", " ∷ list_of (text "a" ∷ int 1 ∷ yes ∷ Null ∷ no ∷ []) ∷ []) (text "a, 1, 1, , ")
glue = (refl, refl)

glue_of_none : Alike Implode (text "x" ∷ list_of [] ∷ []) (text "")
glue_of_none = (refl, refl)

glue_by_join : Alike Join (text "-" ∷ list_of (int 1 ∷ int 2 ∷ []) ∷ []) (text "1-2")
glue_by_join = (refl, refl)

glue_behind : Answers Implode (list_of (int 1 ∷ int 2 ∷ []) ∷ text "-" ∷ []) (gives (text "1-2")) (throws TypeError)
glue_behind = (refl, refl)

glue_behind_by_join : Answers Join (list_of [] ∷ text "-" ∷ []) (gives (text "")) (throws TypeError)
glue_behind_by_join = (refl, refl)

glue_of_arrays : Refuses Implode (text "," ∷ list_of (list_of [] ∷ []) ∷ []) Call
glue_of_arrays = (refl, refl)

glue_alone : Refuses Implode (list_of [] ∷ []) Call
glue_alone = (refl, refl)

pieces : Alike Explode (text "," ∷ text "a,b,,c" ∷ []) (list_of (text "a" ∷ text "b" ∷ text "" ∷ text "c" ∷ []))
pieces = (refl, refl)

one_piece : Alike Explode (text "q" ∷ text "ab" ∷ []) (list_of (text "ab" ∷ []))
one_piece = (refl, refl)

pieces_of_nothing : Alike Explode (text "," ∷ text "" ∷ []) (list_of (text "" ∷ []))
pieces_of_nothing = (refl, refl)

pieces_from_the_left : Alike Explode (text "--" ∷ text "a---b" ∷ []) (list_of (text "a" ∷ text "-b" ∷ []))
pieces_from_the_left = (refl, refl)

cut_at_nothing : Refuses Explode (text "" ∷ text "a" ∷ []) Call
cut_at_nothing = (refl, refl)

repeated : Alike StrRepeat (text "ab" ∷ int 3 ∷ []) (text "ababab")
repeated = (refl, refl)

repeated_never : Alike StrRepeat (text "ab" ∷ int 0 ∷ []) (text "")
repeated_never = (refl, refl)

repeated_less : Refuses StrRepeat (text "ab" ∷ minus 1 ∷ []) Call
repeated_less = (refl, refl)

replaced : Alike StrReplace (text "l" ∷ text "L" ∷ text "hello" ∷ []) (text "heLLo")
replaced = (refl, refl)

replaced_from_the_left : Alike StrReplace (text "aa" ∷ text "b" ∷ text "aaaaa" ∷ []) (text "bba")
replaced_from_the_left = (refl, refl)

taken_out : Alike StrReplace (text "x" ∷ text "" ∷ text "axbx" ∷ []) (text "ab")
taken_out = (refl, refl)

replaced_nothing : Refuses StrReplace (text "" ∷ text "a" ∷ text "b" ∷ []) Call
replaced_nothing = (refl, refl)

trimmed : Alike Trim (text " \t\n a b \r " ∷ []) (text "a b")
trimmed = (refl, refl)

trimmed_rare : Alike Trim (Text (0 ∷ 11 ∷ 12 ∷ 0 ∷ 11 ∷ []) ∷ []) (Text (12 ∷ []))
trimmed_rare = (refl, refl)

trimmed_away : Alike Trim (text "   " ∷ []) (text "")
trimmed_away = (refl, refl)

byte : Alike Chr (int 65 ∷ []) (text "A")
byte = (refl, refl)

greatest_byte : Alike Chr (int 255 ∷ []) (Text (255 ∷ []))
greatest_byte = (refl, refl)

no_byte : Refuses Chr (int 256 ∷ []) Call
no_byte = (refl, refl)

negative_byte : Refuses Chr (minus 1 ∷ []) Call
negative_byte = (refl, refl)

code_of : Alike Ord (text "Ab" ∷ []) (int 65)
code_of = (refl, refl)

code_of_nothing : Refuses Ord (text "" ∷ []) Call
code_of_nothing = (refl, refl)

int_of_lead : Alike Intval (text "12abc" ∷ []) (int 12)
int_of_lead = (refl, refl)

int_of_word : Alike Intval (text "abc" ∷ []) (int 0)
int_of_word = (refl, refl)

int_of_true : Alike Intval (yes ∷ []) (int 1)
int_of_true = (refl, refl)

int_of_null : Alike Intval (Null ∷ []) (int 0)
int_of_null = (refl, refl)

int_of_int : Alike Intval (minus 7 ∷ []) (minus 7)
int_of_int = (refl, refl)

int_of_fraction : Refuses Intval (text "1.5" ∷ []) Conversion
int_of_fraction = (refl, refl)

int_of_array : Refuses Intval (list_of [] ∷ []) Call
int_of_array = (refl, refl)

quotient : Alike Intdiv (int 7 ∷ int 2 ∷ []) (int 3)
quotient = (refl, refl)

negative_quotient : Alike Intdiv (minus 7 ∷ int 2 ∷ []) (minus 3)
negative_quotient = (refl, refl)

quotient_by_negative : Alike Intdiv (int 7 ∷ minus 2 ∷ []) (minus 3)
quotient_by_negative = (refl, refl)

quotient_by_zero : Answers Intdiv (int 1 ∷ int 0 ∷ []) (throws DivisionByZeroError) (throws DivisionByZeroError)
quotient_by_zero = (refl, refl)

quotient_past : Answers Intdiv (minus 9223372036854775808 ∷ minus 1 ∷ []) (throws ArithmeticError) (throws ArithmeticError)
quotient_past = (refl, refl)

quotient_of_text : Refuses Intdiv (text "1" ∷ int 1 ∷ []) Call
quotient_of_text = (refl, refl)

is_int_of_int : Alike IsInt (int 1 ∷ []) (yes)
is_int_of_int = (refl, refl)

is_int_of_string : Alike IsInt (text "1" ∷ []) (no)
is_int_of_string = (refl, refl)

is_int_of_array : Alike IsInt (list_of [] ∷ []) (no)
is_int_of_array = (refl, refl)

is_int_of_null : Alike IsInt (Null ∷ []) (no)
is_int_of_null = (refl, refl)

is_int_of_bool : Alike IsInt (no ∷ []) (no)
is_int_of_bool = (refl, refl)

is_int_of_object : Alike IsInt (Object 0 ∷ []) (no)
is_int_of_object = (refl, refl)

is_string_of_int : Alike IsString (int 1 ∷ []) (no)
is_string_of_int = (refl, refl)

is_string_of_string : Alike IsString (text "1" ∷ []) (yes)
is_string_of_string = (refl, refl)

is_string_of_array : Alike IsString (list_of [] ∷ []) (no)
is_string_of_array = (refl, refl)

is_string_of_null : Alike IsString (Null ∷ []) (no)
is_string_of_null = (refl, refl)

is_string_of_bool : Alike IsString (no ∷ []) (no)
is_string_of_bool = (refl, refl)

is_string_of_object : Alike IsString (Object 0 ∷ []) (no)
is_string_of_object = (refl, refl)

is_array_of_int : Alike IsArray (int 1 ∷ []) (no)
is_array_of_int = (refl, refl)

is_array_of_string : Alike IsArray (text "1" ∷ []) (no)
is_array_of_string = (refl, refl)

is_array_of_array : Alike IsArray (list_of [] ∷ []) (yes)
is_array_of_array = (refl, refl)

is_array_of_null : Alike IsArray (Null ∷ []) (no)
is_array_of_null = (refl, refl)

is_array_of_bool : Alike IsArray (no ∷ []) (no)
is_array_of_bool = (refl, refl)

is_array_of_object : Alike IsArray (Object 0 ∷ []) (no)
is_array_of_object = (refl, refl)

is_null_of_int : Alike IsNull (int 1 ∷ []) (no)
is_null_of_int = (refl, refl)

is_null_of_string : Alike IsNull (text "1" ∷ []) (no)
is_null_of_string = (refl, refl)

is_null_of_array : Alike IsNull (list_of [] ∷ []) (no)
is_null_of_array = (refl, refl)

is_null_of_null : Alike IsNull (Null ∷ []) (yes)
is_null_of_null = (refl, refl)

is_null_of_bool : Alike IsNull (no ∷ []) (no)
is_null_of_bool = (refl, refl)

is_null_of_object : Alike IsNull (Object 0 ∷ []) (no)
is_null_of_object = (refl, refl)

is_bool_of_int : Alike IsBool (int 1 ∷ []) (no)
is_bool_of_int = (refl, refl)

is_bool_of_string : Alike IsBool (text "1" ∷ []) (no)
is_bool_of_string = (refl, refl)

is_bool_of_array : Alike IsBool (list_of [] ∷ []) (no)
is_bool_of_array = (refl, refl)

is_bool_of_null : Alike IsBool (Null ∷ []) (no)
is_bool_of_null = (refl, refl)

is_bool_of_bool : Alike IsBool (no ∷ []) (yes)
is_bool_of_bool = (refl, refl)

is_bool_of_object : Alike IsBool (Object 0 ∷ []) (no)
is_bool_of_object = (refl, refl)

is_float_of_int : Alike IsFloat (int 1 ∷ []) (no)
is_float_of_int = (refl, refl)

is_float_of_string : Alike IsFloat (text "1" ∷ []) (no)
is_float_of_string = (refl, refl)

is_float_of_array : Alike IsFloat (list_of [] ∷ []) (no)
is_float_of_array = (refl, refl)

is_float_of_null : Alike IsFloat (Null ∷ []) (no)
is_float_of_null = (refl, refl)

is_float_of_bool : Alike IsFloat (no ∷ []) (no)
is_float_of_bool = (refl, refl)

is_float_of_object : Alike IsFloat (Object 0 ∷ []) (no)
is_float_of_object = (refl, refl)

is_real_of_int : Alike IsReal (int 1 ∷ []) (no)
is_real_of_int = (refl, refl)

is_real_of_string : Alike IsReal (text "1" ∷ []) (no)
is_real_of_string = (refl, refl)

is_real_of_array : Alike IsReal (list_of [] ∷ []) (no)
is_real_of_array = (refl, refl)

is_real_of_null : Alike IsReal (Null ∷ []) (no)
is_real_of_null = (refl, refl)

is_real_of_bool : Alike IsReal (no ∷ []) (no)
is_real_of_bool = (refl, refl)

is_real_of_object : Alike IsReal (Object 0 ∷ []) (no)
is_real_of_object = (refl, refl)

keys : Alike ArrayKeys (array_of ((key "x", int 1) ∷ (place 5, text "b") ∷ []) ∷ []) (list_of (text "x" ∷ int 5 ∷ []))
keys = (refl, refl)

keys_of_none : Alike ArrayKeys (list_of [] ∷ []) (list_of [])
keys_of_none = (refl, refl)

values : Alike ArrayValues (array_of ((key "x", int 1) ∷ (place 5, list_of []) ∷ []) ∷ []) (list_of (int 1 ∷ list_of [] ∷ []))
values = (refl, refl)

keys_of_text : Refuses ArrayKeys (text "a" ∷ []) Call
keys_of_text = (refl, refl)

key_there : Alike ArrayKeyExists (text "5" ∷ array_of ((place 5, Null) ∷ []) ∷ []) (yes)
key_there = (refl, refl)

key_missing : Alike ArrayKeyExists (text "05" ∷ array_of ((place 5, Null) ∷ []) ∷ []) (no)
key_missing = (refl, refl)

int_key_there : Alike ArrayKeyExists (int 5 ∷ array_of ((place 5, Null) ∷ []) ∷ []) (yes)
int_key_there = (refl, refl)

key_null : Refuses ArrayKeyExists (Null ∷ list_of [] ∷ []) Call
key_null = (refl, refl)

magic_quotes : Alike GetMagicQuotesGpc ([]) (no)
magic_quotes = (refl, refl)

magic_quotes_at_runtime : Alike GetMagicQuotesRuntime ([]) (no)
magic_quotes_at_runtime = (refl, refl)

magic_quotes_of_one : Refuses GetMagicQuotesGpc (int 1 ∷ []) Call
magic_quotes_of_one = (refl, refl)
