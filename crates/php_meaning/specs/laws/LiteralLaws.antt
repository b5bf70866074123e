-- Laws of literals: what is written out is read back.
use Rattle.std.specs.Prelude.{◌≡◌, ℕ, ◌+◌, ◌/◌, ◌%◌, ◌<◌, Bool, false, ◌||◌, ◌==◌, nat_lt, IsFalse, if◌then◌else◌, List, [], ◌∷◌, ◌++◌, map, pos, codes}
use Rattle.std.specs.Int.Digits.{number_from_digits, AllBelowBase}
use Rattle.std.specs.List.{AllByRecursion}
use Rattle.php_meaning.specs.Cause.{Gives}
use Rattle.php_meaning.specs.literals.Literals.{int_literal}
use Rattle.php_meaning.specs.literals.Nowdocs.{is_line_end, blanks}
use Rattle.php_meaning.specs.literals.TextLiterals.{text_literal}

-- ---- texts

-- bytes, with a backslash before each one that needs it
abbrev pub guarded : (ℕ → Bool) → List ℕ → List ℕ
guarded needs [] = []
guarded needs (b ∷ bs) = (if needs b then 92 ∷ [] else []) ++ b ∷ guarded needs bs

-- a single quote and a backslash
abbrev pub needs_single : ℕ → Bool
needs_single b = b == 39 || b == 92

-- a double quote, a backslash and a dollar sign
abbrev pub needs_double : ℕ → Bool
needs_double b = b == 34 || b == 92 || b == 36

-- bytes as a literal in single quotes
abbrev pub in_single_quotes : List ℕ → List ℕ
in_single_quotes bytes = 39 ∷ guarded needs_single bytes ++ 39 ∷ []

-- bytes as a literal in double quotes
abbrev pub in_double_quotes : List ℕ → List ℕ
in_double_quotes bytes = 34 ∷ guarded needs_double bytes ++ 34 ∷ []

-- the digit 0 to 15 as a byte
abbrev pub digit_byte : ℕ → ℕ
digit_byte d = if nat_lt d 10 then 48 + d else 87 + d

-- each byte as `\x` and its two digits
abbrev pub as_digits : List ℕ → List ℕ
as_digits [] = []
as_digits (b ∷ bs) = 92 ∷ 120 ∷ digit_byte (b / 16) ∷ digit_byte (b % 16) ∷ as_digits bs

-- bytes as a literal in double quotes, by their digits
abbrev pub in_escapes : List ℕ → List ℕ
in_escapes bytes = 34 ∷ as_digits bytes ++ 34 ∷ []

-- ---- nowdocs

-- no byte ends a line
abbrev pub IsOneLine : List ℕ → Type 0
IsOneLine bytes = AllByRecursion (λ b. IsFalse (is_line_end b)) bytes

-- whether the last byte is a carriage return, which a line feed behind it joins to one line end
abbrev pub ends_with_return : List ℕ → Bool
ends_with_return [] = false
ends_with_return (b ∷ []) = b == 13
ends_with_return (b ∷ c ∷ bs) = ends_with_return (c ∷ bs)

-- bytes as a nowdoc, between what stands behind `<<<` and the closing label
abbrev pub in_nowdoc : List ℕ → List ℕ → List ℕ → List ℕ
in_nowdoc opening label bytes = codes "<<<" ++ (opening ++ 10 ∷ (bytes ++ 10 ∷ label))

-- Any bytes are read back from a nowdoc whose closing label has no blanks in front.
abbrev pub NowdocsReadBack : Type 0
NowdocsReadBack =
    (opening label bytes : List ℕ) → IsOneLine opening → IsOneLine label → blanks label ≡ 0 → IsFalse (ends_with_return bytes)
    → text_literal (in_nowdoc opening label bytes) ≡ Gives bytes

-- ---- ints

-- Digits, behind what marks their base, are the number that they write. A decimal literal doesn't begin with a zero.
pub record IntsReadBack : Type 0 where
  pub decimal : (d : ℕ) (ds : List ℕ) → 0 < d → AllBelowBase 10 (d ∷ ds)
      → int_literal (map digit_byte (d ∷ ds)) ≡ pos (number_from_digits 10 (d ∷ ds))
  pub hexadecimal : (ds : List ℕ) → AllBelowBase 16 ds
      → int_literal (codes "0x" ++ map digit_byte ds) ≡ pos (number_from_digits 16 ds)
  pub octal : (ds : List ℕ) → AllBelowBase 8 ds
      → int_literal (codes "0" ++ map digit_byte ds) ≡ pos (number_from_digits 8 ds)
  pub binary : (ds : List ℕ) → AllBelowBase 2 ds
      → int_literal (codes "0b" ++ map digit_byte ds) ≡ pos (number_from_digits 2 ds)
