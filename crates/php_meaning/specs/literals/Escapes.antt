-- Escapes in texts in double quotes. (PHP manual, "Strings", double quoted; RFC "Unicode Codepoint Escape Syntax".)
use Rattle.std.specs.Prelude.{ℕ, zero, suc, ◌+◌, ◌%◌, Bool, true, false, not, ◌&&◌, ◌||◌, if◌then◌else◌, ◌==◌, nat_le, List, [], ◌∷◌, ◌++◌, length, codes, Option, Some, None}
use Rattle.std.specs.Char.{encode_utf8}
use Rattle.php_meaning.specs.Cause.{Outcome, Gives, Outside, NoRule, and_then, outcome_map}
use Rattle.php_meaning.specs.values.Text.{is_digit}
use Rattle.php_meaning.specs.literals.Literals.{number_in, found}

-- What a backslash begins: the bytes that it writes, and how many bytes behind it belong to it.
pub record Escape : Type 0 where
  pub bytes : List ℕ
  pub taken : ℕ

-- a backslash that begins nothing and stays
abbrev pub stays : Escape
stays = record { bytes = 92 ∷ []; taken = 0 }

-- ---- one letter

-- the letters, and the byte that each writes
abbrev pub letters : List (List ℕ × ℕ)
letters =
    (codes "n", 10)
    ∷ (codes "t", 9)
    ∷ (codes "r", 13)
    ∷ (codes "v", 11)
    ∷ (codes "e", 27)
    ∷ (codes "f", 12)
    ∷ (codes "\\", 92)
    ∷ (codes "$", 36)
    ∷ (codes "\"", 34)
    ∷ []

-- ---- digits

-- the digits 0 to 7
abbrev pub is_octal : ℕ → Bool
is_octal b = nat_le 48 b && nat_le b 55

-- the digits 0 to 9, and a to f in both cases
abbrev pub is_hexadecimal : ℕ → Bool
is_hexadecimal b = is_digit b || (nat_le 65 b && nat_le b 70) || (nat_le 97 b && nat_le b 102)

-- the bytes of a kind at the front, at most so many
abbrev pub at_most : ℕ → (ℕ → Bool) → List ℕ → List ℕ
at_most zero is_one bs = []
at_most (suc n) is_one [] = []
at_most (suc n) is_one (b ∷ bs) = if is_one b then b ∷ at_most n is_one bs else []

-- one to three octal digits; what passes a byte is lost
abbrev pub octal : List ℕ → Escape
octal digits = record { bytes = number_in 8 digits % 256 ∷ []; taken = length digits }

-- `x` and one or two hexadecimal digits
abbrev pub hexadecimal : List ℕ → Escape
hexadecimal [] = stays
hexadecimal (d ∷ ds) = record { bytes = number_in 16 (d ∷ ds) ∷ []; taken = 1 + length (d ∷ ds) }

-- ---- code points

-- whether a closing brace stands behind so many bytes
abbrev pub closes_behind : ℕ → List ℕ → Bool
closes_behind n [] = false
closes_behind zero (b ∷ bs) = b == 125
closes_behind (suc n) (b ∷ bs) = closes_behind n bs

-- `u` and, in braces, hexadecimal digits, which name a code point: its bytes in UTF-8
abbrev pub in_braces : List ℕ → Bool → Outcome Escape
in_braces [] closes = Outside NoRule
in_braces (d ∷ ds) closes =
    if closes && nat_le (number_in 16 (d ∷ ds)) 0x10FFFF
    then Gives (record { bytes = encode_utf8 (number_in 16 (d ∷ ds)); taken = 3 + length (d ∷ ds) })
    else Outside NoRule

-- the hexadecimal digits at the front
abbrev pub hexadecimals : List ℕ → List ℕ
hexadecimals bs = at_most (length bs) is_hexadecimal bs

-- what stands behind `u`: without a brace the backslash stays, and a brace that names no code point isn't compiled
abbrev pub code_point : List ℕ → Outcome Escape
code_point [] = Gives stays
code_point (b ∷ bs) =
    if b == 123 then in_braces (hexadecimals bs) (closes_behind (length (hexadecimals bs)) bs) else Gives stays

-- ---- texts

-- what a backslash begins before this byte and the bytes behind it, where the byte is none of the letters
abbrev pub by_digits : ℕ → List ℕ → Outcome Escape
by_digits b bs =
    if is_octal b then Gives (octal (at_most 3 is_octal (b ∷ bs)))
    else (if b == 120 || b == 88 then Gives (hexadecimal (at_most 2 is_hexadecimal bs))
    else (if b == 117 then code_point bs else Gives stays))

-- the same, by the byte that the letter writes, if it is one of the letters
abbrev pub by_letter : Option ℕ → ℕ → List ℕ → Outcome Escape
by_letter (Some byte) b bs = Gives (record { bytes = byte ∷ []; taken = 1 })
by_letter None b bs = by_digits b bs

-- what a backslash begins before these bytes
abbrev pub escape : List ℕ → Outcome Escape
escape [] = Gives stays
escape (b ∷ bs) = by_letter (found letters (b ∷ [])) b bs

-- The bytes that a text writes between its quotes, where so many bytes at the front belong to an escape before them.
abbrev pub unescaped : ℕ → List ℕ → Outcome (List ℕ)
unescaped taken [] = Gives []
unescaped (suc more) (b ∷ bs) = unescaped more bs
unescaped zero (b ∷ bs) =
    elim (b == 92) [
      | true ↦ and_then (escape bs) (λ e. outcome_map (λ rest. e.bytes ++ rest) (unescaped e.taken bs))
      | false ↦ outcome_map (λ rest. b ∷ rest) (unescaped 0 bs)
    ]

-- A heredoc's text as one that stands in double quotes: a backslash before a double quote stays, and is written twice. True
-- directly behind a backslash that begins something.
abbrev pub kept_quotes : Bool → List ℕ → List ℕ
kept_quotes is_behind [] = []
kept_quotes is_behind (b ∷ bs) = (if is_behind && b == 34 then 92 ∷ [] else []) ++ b ∷ kept_quotes (not is_behind && b == 92) bs
