-- Names that no program declares here: those of builtin functions and constants, what 7.4 and 8.0 to 8.3 declare themselves, and
-- the words that PHP reserves. (PHP manual, "Functions", `define`: what is there already isn't declared again; "List of other
-- reserved words"; UPGRADING 8.0 to 8.3, "New Functions", "New Classes and Interfaces", "New Global Constants"; UPGRADING 8.0:
-- `__autoload`, `assert`. That a builtin's name is refused in any namespace is this project's own.)
use Rattle.std.specs.Prelude.{Bool, false, ◌||◌, is_some, List, [], ◌∷◌, codes}
use Rattle.std.specs.Str.{bytes_eq, str_to_ascii_lowercase}
use Rattle.scope_names.specs.Words.{last_part}
use Rattle.builtin_tables.specs.Beyond.{is_beyond_function, is_beyond_class, is_beyond_constant}
use Rattle.builtin_tables.specs.Builtins.{builtin_rows}
use Rattle.builtin_tables.specs.Constants.{constant_named}
use Rattle.builtin_tables.specs.Named.{found, found_exactly}
use Rattle.builtin_tables.specs.Newer.{newer_functions, newer_classes, newer_constants}
use Rattle.php_meaning.specs.runs.World.{Bytes}

-- whether the last part of a name is that of a builtin function or constant
abbrev pub is_builtin_name : Bytes → Bool
is_builtin_name name = is_some (found builtin_rows (last_part name)) || is_some (constant_named (last_part name))

-- whether PHP has a function, a class or a constant of this full name beyond the profile, in 7.4, or in 8.3 at the latest
abbrev pub is_php_function : Bytes → Bool
is_php_function name = is_some (found newer_functions name) || is_beyond_function name

abbrev pub is_php_class : Bytes → Bool
is_php_class name = is_some (found newer_classes name) || is_beyond_class name

abbrev pub is_php_constant : Bytes → Bool
is_php_constant name = is_some (found_exactly newer_constants name) || is_beyond_constant name

-- whether one of these is a function of PHP beyond the profile
abbrev pub has_php_function : List Bytes → Bool
has_php_function [] = false
has_php_function (n ∷ ns) = is_php_function n || has_php_function ns

-- whether a function or a constant of this full name is there
abbrev pub is_function_taken : Bytes → Bool
is_function_taken name = is_builtin_name name || is_php_function name

-- the functions that 8.x doesn't compile
abbrev pub is_function_refused : Bytes → Bool
is_function_refused name =
    bytes_eq (str_to_ascii_lowercase (last_part name)) (codes "__autoload")
    || bytes_eq (str_to_ascii_lowercase (last_part name)) (codes "assert")

abbrev pub is_constant_taken : Bytes → Bool
is_constant_taken name = is_builtin_name name || is_php_constant name

-- whether this text is one of these
abbrev is_among : List Bytes → Bytes → Bool
is_among [] t = false
is_among (u ∷ us) t = bytes_eq u t || is_among us t

-- the words that name no class
abbrev pub reserved_classes : List Bytes
reserved_classes =
    codes "self" ∷ codes "static" ∷ codes "parent" ∷ codes "int" ∷ codes "float" ∷ codes "bool" ∷ codes "string"
    ∷ codes "true" ∷ codes "false" ∷ codes "null" ∷ codes "void" ∷ codes "iterable" ∷ codes "object" ∷ codes "mixed"
    ∷ codes "never" ∷ []

abbrev pub is_reserved_class : Bytes → Bool
is_reserved_class name = is_among reserved_classes (str_to_ascii_lowercase (last_part name))
