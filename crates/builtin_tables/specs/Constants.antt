-- Constants that both versions have with one value. (PHP manual, "Predefined Constants" of the core, of arrays, of strings,
-- of files and of PCRE, which no build lacks; "Integers" for the bounds on 64 bits.)
use Rattle.std.specs.Prelude.{ℕ, true, false, pos, negsuc, List, [], ◌∷◌, codes, Option, Some, None}
use Rattle.builtin_tables.specs.declared.constant.ConstantValue.{ConstantValue}
use Rattle.builtin_tables.specs.declared.constant.ConstantValue.TheVariants.{Null, Bool, Int, LineEnd}
use Rattle.builtin_tables.specs.Named.{found, found_exactly}

-- the constants that are words of the language, told apart without case (PHP manual, "Booleans" and "NULL")
unfoldable pub word_constants : List (List ℕ × ConstantValue)
word_constants = (codes "true", Bool true) ∷ (codes "false", Bool false) ∷ (codes "null", Null) ∷ []

-- the constants that are told apart with case
unfoldable pub named_constants : List (List ℕ × ConstantValue)
named_constants =
    (codes "PHP_EOL", LineEnd) ∷ (codes "PHP_INT_MAX", Int (pos 9223372036854775807))
    ∷ (codes "PHP_INT_MIN", Int (negsuc 9223372036854775807)) ∷ (codes "PHP_INT_SIZE", Int (pos 8))
    ∷ (codes "E_ERROR", Int (pos 1)) ∷ (codes "E_WARNING", Int (pos 2)) ∷ (codes "E_PARSE", Int (pos 4))
    ∷ (codes "E_NOTICE", Int (pos 8)) ∷ (codes "E_CORE_ERROR", Int (pos 16))
    ∷ (codes "E_CORE_WARNING", Int (pos 32)) ∷ (codes "E_COMPILE_ERROR", Int (pos 64))
    ∷ (codes "E_COMPILE_WARNING", Int (pos 128)) ∷ (codes "E_USER_ERROR", Int (pos 256))
    ∷ (codes "E_USER_WARNING", Int (pos 512)) ∷ (codes "E_USER_NOTICE", Int (pos 1024))
    ∷ (codes "E_STRICT", Int (pos 2048)) ∷ (codes "E_RECOVERABLE_ERROR", Int (pos 4096))
    ∷ (codes "E_DEPRECATED", Int (pos 8192)) ∷ (codes "E_USER_DEPRECATED", Int (pos 16384))
    ∷ (codes "DEBUG_BACKTRACE_PROVIDE_OBJECT", Int (pos 1)) ∷ (codes "DEBUG_BACKTRACE_IGNORE_ARGS", Int (pos 2))
    ∷ (codes "UPLOAD_ERR_OK", Int (pos 0)) ∷ (codes "UPLOAD_ERR_INI_SIZE", Int (pos 1))
    ∷ (codes "UPLOAD_ERR_FORM_SIZE", Int (pos 2)) ∷ (codes "UPLOAD_ERR_PARTIAL", Int (pos 3))
    ∷ (codes "UPLOAD_ERR_NO_FILE", Int (pos 4)) ∷ (codes "UPLOAD_ERR_NO_TMP_DIR", Int (pos 6))
    ∷ (codes "UPLOAD_ERR_CANT_WRITE", Int (pos 7)) ∷ (codes "UPLOAD_ERR_EXTENSION", Int (pos 8))
    ∷ (codes "EXTR_OVERWRITE", Int (pos 0)) ∷ (codes "EXTR_SKIP", Int (pos 1))
    ∷ (codes "EXTR_PREFIX_SAME", Int (pos 2)) ∷ (codes "EXTR_PREFIX_ALL", Int (pos 3))
    ∷ (codes "EXTR_PREFIX_INVALID", Int (pos 4)) ∷ (codes "EXTR_PREFIX_IF_EXISTS", Int (pos 5))
    ∷ (codes "EXTR_IF_EXISTS", Int (pos 6)) ∷ (codes "EXTR_REFS", Int (pos 256))
    ∷ (codes "SORT_ASC", Int (pos 4)) ∷ (codes "SORT_DESC", Int (pos 3)) ∷ (codes "SORT_REGULAR", Int (pos 0))
    ∷ (codes "SORT_NUMERIC", Int (pos 1)) ∷ (codes "SORT_STRING", Int (pos 2))
    ∷ (codes "SORT_LOCALE_STRING", Int (pos 5)) ∷ (codes "SORT_NATURAL", Int (pos 6))
    ∷ (codes "SORT_FLAG_CASE", Int (pos 8)) ∷ (codes "CASE_LOWER", Int (pos 0))
    ∷ (codes "CASE_UPPER", Int (pos 1)) ∷ (codes "COUNT_NORMAL", Int (pos 0))
    ∷ (codes "COUNT_RECURSIVE", Int (pos 1)) ∷ (codes "ARRAY_FILTER_USE_BOTH", Int (pos 1))
    ∷ (codes "ARRAY_FILTER_USE_KEY", Int (pos 2)) ∷ (codes "CONNECTION_ABORTED", Int (pos 1))
    ∷ (codes "CONNECTION_NORMAL", Int (pos 0)) ∷ (codes "CONNECTION_TIMEOUT", Int (pos 2))
    ∷ (codes "INI_USER", Int (pos 1)) ∷ (codes "INI_PERDIR", Int (pos 2)) ∷ (codes "INI_SYSTEM", Int (pos 4))
    ∷ (codes "INI_ALL", Int (pos 7)) ∷ (codes "INI_SCANNER_NORMAL", Int (pos 0))
    ∷ (codes "INI_SCANNER_RAW", Int (pos 1)) ∷ (codes "INI_SCANNER_TYPED", Int (pos 2))
    ∷ (codes "PHP_URL_SCHEME", Int (pos 0)) ∷ (codes "PHP_URL_HOST", Int (pos 1))
    ∷ (codes "PHP_URL_PORT", Int (pos 2)) ∷ (codes "PHP_URL_USER", Int (pos 3))
    ∷ (codes "PHP_URL_PASS", Int (pos 4)) ∷ (codes "PHP_URL_PATH", Int (pos 5))
    ∷ (codes "PHP_URL_QUERY", Int (pos 6)) ∷ (codes "PHP_URL_FRAGMENT", Int (pos 7))
    ∷ (codes "PHP_QUERY_RFC1738", Int (pos 1)) ∷ (codes "PHP_QUERY_RFC3986", Int (pos 2))
    ∷ (codes "PHP_ROUND_HALF_UP", Int (pos 1)) ∷ (codes "PHP_ROUND_HALF_DOWN", Int (pos 2))
    ∷ (codes "PHP_ROUND_HALF_EVEN", Int (pos 3)) ∷ (codes "PHP_ROUND_HALF_ODD", Int (pos 4))
    ∷ (codes "STR_PAD_LEFT", Int (pos 0)) ∷ (codes "STR_PAD_RIGHT", Int (pos 1))
    ∷ (codes "STR_PAD_BOTH", Int (pos 2)) ∷ (codes "PATHINFO_DIRNAME", Int (pos 1))
    ∷ (codes "PATHINFO_BASENAME", Int (pos 2)) ∷ (codes "PATHINFO_EXTENSION", Int (pos 4))
    ∷ (codes "PATHINFO_FILENAME", Int (pos 8)) ∷ (codes "HTML_SPECIALCHARS", Int (pos 0))
    ∷ (codes "HTML_ENTITIES", Int (pos 1)) ∷ (codes "ENT_COMPAT", Int (pos 2))
    ∷ (codes "ENT_QUOTES", Int (pos 3)) ∷ (codes "ENT_NOQUOTES", Int (pos 0))
    ∷ (codes "ENT_IGNORE", Int (pos 4)) ∷ (codes "ENT_SUBSTITUTE", Int (pos 8))
    ∷ (codes "ENT_DISALLOWED", Int (pos 128)) ∷ (codes "ENT_HTML401", Int (pos 0))
    ∷ (codes "ENT_XML1", Int (pos 16)) ∷ (codes "ENT_XHTML", Int (pos 32)) ∷ (codes "ENT_HTML5", Int (pos 48))
    ∷ (codes "SEEK_SET", Int (pos 0)) ∷ (codes "SEEK_CUR", Int (pos 1)) ∷ (codes "SEEK_END", Int (pos 2))
    ∷ (codes "LOCK_SH", Int (pos 1)) ∷ (codes "LOCK_EX", Int (pos 2)) ∷ (codes "LOCK_UN", Int (pos 3))
    ∷ (codes "LOCK_NB", Int (pos 4)) ∷ (codes "FILE_USE_INCLUDE_PATH", Int (pos 1))
    ∷ (codes "FILE_IGNORE_NEW_LINES", Int (pos 2)) ∷ (codes "FILE_SKIP_EMPTY_LINES", Int (pos 4))
    ∷ (codes "FILE_APPEND", Int (pos 8)) ∷ (codes "FILE_NO_DEFAULT_CONTEXT", Int (pos 16))
    ∷ (codes "SCANDIR_SORT_ASCENDING", Int (pos 0)) ∷ (codes "SCANDIR_SORT_DESCENDING", Int (pos 1))
    ∷ (codes "SCANDIR_SORT_NONE", Int (pos 2)) ∷ (codes "PREG_PATTERN_ORDER", Int (pos 1))
    ∷ (codes "PREG_SET_ORDER", Int (pos 2)) ∷ (codes "PREG_OFFSET_CAPTURE", Int (pos 256))
    ∷ (codes "PREG_UNMATCHED_AS_NULL", Int (pos 512)) ∷ (codes "PREG_SPLIT_NO_EMPTY", Int (pos 1))
    ∷ (codes "PREG_SPLIT_DELIM_CAPTURE", Int (pos 2)) ∷ (codes "PREG_SPLIT_OFFSET_CAPTURE", Int (pos 4))
    ∷ (codes "PREG_GREP_INVERT", Int (pos 1)) ∷ []

-- what a word constant is, or else one with case
abbrev pub or_named : Option ConstantValue → List ℕ → Option ConstantValue
or_named (Some v) name = Some v
or_named None name = found_exactly named_constants name

-- the value of the constant of a name
abbrev pub constant_named : List ℕ → Option ConstantValue
constant_named name = or_named (found word_constants name) name
