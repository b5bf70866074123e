-- Which tokens of 7.4 are those of 8.3, and names with `\` in 8.3.
use Rattle.std.specs.Prelude.{◌≡◌, ℕ, Bool, false, true, cond, not, ◌&&◌, nat_eq, List, [], ◌∷◌, ◌++◌, length}
use Rattle.php_tree.specs.declared.version.Version.TheVariants.{V74, V83}
use Rattle.php_spellings.specs.declared.table.Kind.{Kind}
use Rattle.php_spellings.specs.declared.table.Kind.TheVariants.{Name}
use Rattle.php_spellings.specs.declared.table.Shape.TheVariants as shape
use Rattle.php_spellings.specs.declared.table.Spot.TheVariants.{Begin}
use Rattle.php_spellings.specs.Bytes.{is_letter, is_label_byte, begins, begins_by}
use Rattle.php_lexer.specs.Shapes.{has_shape}
use Rattle.php_lexer.specs.Modes.{Mode, html, code, named, quoted, offset, property, IsLongest}

-- whether `\` and a letter begin here
abbrev pub begins_deeper : List ℕ → Bool
begins_deeper [] = false
begins_deeper (b ∷ bs) = nat_eq b 92 && begins is_letter bs

-- whether `\` and a letter follow the bytes of labels that begin here
abbrev pub goes_deeper : List ℕ → Bool
goes_deeper [] = false
goes_deeper (b ∷ bs) = cond (is_label_byte b) (goes_deeper bs) (begins_deeper (b ∷ bs))

-- whether a name with `\` begins here (RFC "Treat namespaced names as single token")
abbrev pub begins_name : List ℕ → Bool
begins_name [] = false
begins_name (b ∷ bs) = cond (is_letter b) (goes_deeper bs) (begins_deeper (b ∷ bs))

-- A token of code is the same in 8.3 where neither `#` nor a name with `\` begins.
abbrev pub SameInNewerCode : Type 0
SameInNewerCode =
    (kind : Kind) (n : ℕ) (bytes : List ℕ) →
    begins_by 35 bytes ≡ false →
    begins_name bytes ≡ false →
    IsLongest V74 code bytes kind n →
    IsLongest V83 code bytes kind n

-- whether the two versions have the same rows in a mode
abbrev pub is_settled : Mode → Bool
is_settled html = true
is_settled code = false
is_settled named = false
is_settled (quoted mark label fresh) = true
is_settled offset = true
is_settled property = false

-- A token of inline HTML, of a quoted text or of a simple offset is the same in 8.3.
abbrev pub SameInNewerTexts : Type 0
SameInNewerTexts =
    (mode : Mode) (kind : Kind) (n : ℕ) (bytes : List ℕ) →
    is_settled mode ≡ true →
    IsLongest V74 mode bytes kind n →
    IsLongest V83 mode bytes kind n

-- whether no name with `\` goes on here
abbrev pub ends_name : List ℕ → Bool
ends_name bs = not (begins is_label_byte bs) && not (begins_deeper bs)

-- Labels with `\` between them, maybe with one in front, are one token of 8.3.
abbrev pub NamesAreTokens : Type 0
NamesAreTokens =
    (text rest : List ℕ) →
    has_shape shape.Name Begin text ≡ true →
    ends_name rest ≡ true →
    IsLongest V83 code (text ++ rest) Name (length text)
