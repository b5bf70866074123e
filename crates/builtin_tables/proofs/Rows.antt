-- Rows of the tables, each found by its name.
use Rattle.std.proofs.Common.{◌≡◌, List, [], ◌∷◌, refl, pos, negsuc, codes, Some, None, true, false}
use Rattle.builtin_tables.specs.declared.release.Release.TheVariants.{V80, V81, V82, V83}
use Rattle.builtin_tables.specs.declared.builtin.Builtin.TheVariants.{Strlen, Join, Define, GetClass, IsReal}
use Rattle.builtin_tables.specs.declared.kinds.ArgumentKind.TheVariants as argument
use Rattle.builtin_tables.specs.declared.kinds.Change.TheVariants.{Removed}
use Rattle.builtin_tables.specs.declared.constant.ConstantValue.TheVariants.{Null, Bool, Int, LineEnd}
use Rattle.builtin_tables.specs.Beyond.{beyond_functions, beyond_classes, beyond_constants, is_beyond_function, is_beyond_class, is_beyond_constant}
use Rattle.builtin_tables.specs.Builtins.{builtin_rows, row_of}
use Rattle.builtin_tables.specs.Constants.{constant_named, named_constants, word_constants}
use Rattle.builtin_tables.specs.Named.{found, found_exactly, is_same_name}
use Rattle.builtin_tables.specs.Newer.{newer_functions, newer_classes, newer_constants}

-- `StrLen` is `strlen`, and `implode` has two names
named_strlen : found builtin_rows (codes "StrLen") ≡ Some Strlen
unfolding builtin_rows is_same_name
named_strlen = refl

named_join : found builtin_rows (codes "JOIN") ≡ Some Join
unfolding builtin_rows is_same_name
named_join = refl

named_nowhere : found builtin_rows (codes "printf") ≡ None
unfolding builtin_rows is_same_name
named_nowhere = refl

-- `define` may have a third argument, and `get_class` has none
two_of_define : (row_of Define).required ≡ 2
two_of_define = refl

none_of_get_class : (row_of GetClass).arguments ≡ []
none_of_get_class = refl

removed_is_real : (row_of IsReal).change ≡ Removed
removed_is_real = refl

-- 8.0 declares `str_contains` and `Stringable`, 8.2 a class in a namespace, 8.3 `json_validate`
newer_str_contains : found newer_functions (codes "Str_Contains") ≡ Some V80
unfolding newer_functions is_same_name
newer_str_contains = refl

newer_json_validate : found newer_functions (codes "json_validate") ≡ Some V83
unfolding newer_functions is_same_name
newer_json_validate = refl

newer_stringable : found newer_classes (codes "Stringable") ≡ Some V80
unfolding newer_classes is_same_name
newer_stringable = refl

newer_randomizer : found newer_classes (codes "Random\\Randomizer") ≡ Some V82
unfolding newer_classes is_same_name
newer_randomizer = refl

newer_enum_token : found_exactly newer_constants (codes "T_ENUM") ≡ Some V81
unfolding newer_constants
newer_enum_token = refl

-- words are told apart without case, other constants with case; `E_ALL` is none
constant_true : constant_named (codes "True") ≡ Some (Bool true)
unfolding word_constants is_same_name
constant_true = refl

constant_least : constant_named (codes "PHP_INT_MIN") ≡ Some (Int (negsuc 9223372036854775807))
unfolding word_constants named_constants is_same_name
constant_least = refl

constant_in_lower_case : constant_named (codes "php_eol") ≡ None
unfolding word_constants named_constants is_same_name
constant_in_lower_case = refl

constant_all_errors : constant_named (codes "E_ALL") ≡ None
unfolding word_constants named_constants is_same_name
constant_all_errors = refl

-- a name is found whole, and `strlen` is older than 8.0; a constant is found with its case alone
named_by_a_part : found builtin_rows (codes "strle") ≡ None
unfolding builtin_rows is_same_name
named_by_a_part = refl

newer_strlen : found newer_functions (codes "strlen") ≡ None
unfolding newer_functions is_same_name
newer_strlen = refl

newer_in_lower_case : found_exactly newer_constants (codes "t_enum") ≡ None
unfolding newer_constants
newer_in_lower_case = refl

-- 7.4 has `strtolower`, `DateTime`, `M_PI` and `E_ALL` beyond the profile; it has no `my_function`, and `strlen` is in the profile
beyond_strtolower : is_beyond_function (codes "StrToLower") ≡ true
unfolding beyond_functions
beyond_strtolower = refl

beyond_removed : is_beyond_function (codes "create_function") ≡ true
unfolding beyond_functions
beyond_removed = refl

beyond_own : is_beyond_function (codes "my_function") ≡ false
unfolding beyond_functions
beyond_own = refl

beyond_strlen : is_beyond_function (codes "strlen") ≡ false
unfolding beyond_functions
beyond_strlen = refl

beyond_in_a_namespace : is_beyond_function (codes "n\\strtolower") ≡ false
unfolding beyond_functions
beyond_in_a_namespace = refl

beyond_date_time : is_beyond_class (codes "DateTime") ≡ true
unfolding beyond_classes
beyond_date_time = refl

beyond_pi : is_beyond_constant (codes "M_PI") ≡ true
unfolding beyond_constants
beyond_pi = refl

beyond_all_errors : is_beyond_constant (codes "E_ALL") ≡ true
unfolding beyond_constants
beyond_all_errors = refl

beyond_pi_in_lower_case : is_beyond_constant (codes "m_pi") ≡ false
unfolding beyond_constants
beyond_pi_in_lower_case = refl
