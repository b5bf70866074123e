-- Where the head of a request ends: with the first empty line after a line that isn't empty. A line ends with a line
-- feed, with or without a carriage return before it.
use Rattle.std.specs.Prelude.{◌≡◌, ℕ, ◌<◌, ◌==◌, ◌&&◌, ◌||◌, Bool, true, false, List, [], ◌∷◌, ◌++◌, length, Option, None, Some, if◌then◌else◌}
use Rattle.review_request.specs.declared.head_bytes.HeadEnd.{HeadEnd}
use Rattle.review_request.specs.declared.head_bytes.HeadEnd.TheVariants.{Ended, TooLong, Cut}
use Rattle.review_request.specs.declared.head_bytes.Line.{Line}
use Rattle.review_request.specs.declared.head_bytes.Line.TheVariants.{Blank, Carriage, Filled}

-- whether the line is empty, where it ends now
abbrev pub is_blank : Line → Bool
is_blank Blank = true
is_blank Carriage = true
is_blank Filled = false

-- the line with one byte more that doesn't end it
abbrev pub longer_line : ℕ → Line → Line
longer_line b Blank = if b == 13 then Carriage else Filled
longer_line b Carriage = Filled
longer_line b Filled = Filled

-- what follows the head, if it ends: `begun` says that a line before isn't empty
abbrev pub rest_after : Line → Bool → List ℕ → Option (List ℕ)
rest_after line begun [] = None
rest_after line begun (b ∷ bytes) =
    if b == 10
    then (if is_blank line then (if begun then Some bytes else rest_after Blank false bytes) else rest_after Blank true bytes)
    else rest_after (longer_line b line) begun bytes

-- what follows the head of a request, if the head ends in these bytes
abbrev pub rest_of : List ℕ → Option (List ℕ)
rest_of bytes = rest_after Blank false bytes

-- what the bytes are that were read for a head
abbrev pub IsHeadEnd : List ℕ → HeadEnd → Type 0
IsHeadEnd bytes Ended = (more : List ℕ) → rest_of (bytes ++ more) ≡ Some more
IsHeadEnd bytes TooLong = (length bytes ≡ 16384) × (rest_of bytes ≡ None)
IsHeadEnd bytes Cut = (length bytes < 16384) × (rest_of bytes ≡ None)
