-- What the edits of single places make of tokens and trivia.
use Rattle.std.specs.Prelude.{◌≡◌, ℕ, Bool, true, false, cond, not, ◌&&◌, nat_eq, List, [], ◌∷◌, ◌++◌, codes}
use Rattle.php_spellings.specs.declared.table.Kind.TheVariants.{Comment, Variable, Word, Cast, Op}
use Rattle.php_lexer.specs.Modes.{code}
use Rattle.php_relexing.specs.Tiles.{Tile, tile}
use Rattle.written_tokens.specs.tiles.ContinuesAs.{stops_cast, is_trivia, begins_token}
use Rattle.written_tokens.specs.tiles.IsRewrittenTo.{gap_behind, IsRewrittenTo}

-- A comment with `#` gets a space behind the `#`.
abbrev pub HashCommentsBecome : Type 0
HashCommentsBecome = (a : List ℕ) → IsRewrittenTo false true code code (tile Comment 35 a ∷ []) (tile Comment 35 (32 ∷ a) ∷ [])

-- a row between two tiles of one byte
abbrev pub between : ℕ → ℕ → List Tile → List Tile
between b c ts = tile Op b [] ∷ ts ++ tile Op c [] ∷ []

-- Between braces a row of code becomes another; the braces stay, or become brackets.
abbrev pub BracesBecome : Type 0
BracesBecome =
    (needs stops : Bool) (ts us : List Tile) →
    IsRewrittenTo needs stops code code ts us →
    IsRewrittenTo false true code code (between 123 125 ts) (between 123 125 us)

abbrev pub BracesAreSquared : Type 0
BracesAreSquared =
    (needs stops : Bool) (ts us : List Tile) →
    IsRewrittenTo needs stops code code ts us →
    IsRewrittenTo false true code code (between 123 125 ts) (between 91 93 us)

-- Between parentheses too.
abbrev pub RoundsBecome : Type 0
RoundsBecome =
    (needs stops : Bool) (ts us : List Tile) →
    IsRewrittenTo needs stops code code ts us →
    IsRewrittenTo false true code code (between 40 41 ts) (between 40 41 us)

-- whether the first tile that is neither a word nor white space is there and doesn't begin with `)`
abbrev pub is_uncast : List Tile → Bool
is_uncast [] = false
is_uncast (tile kind b a ∷ ts) = cond (stops_cast kind) (not (nat_eq b 41)) (is_uncast ts)

-- Parentheses come in round a row of code that begins and ends with tokens, where they make no cast of it.
abbrev pub RoundsComeIn : Type 0
RoundsComeIn =
    (ts us : List Tile) →
    begins_token ts ≡ true →
    gap_behind true ts ≡ false →
    is_uncast ts ≡ true →
    IsRewrittenTo false true code code ts us →
    IsRewrittenTo false true code code ts (between 40 41 us)

-- A cast becomes `(float)`.
abbrev pub CastsBecomeFloat : Type 0
CastsBecomeFloat =
    (b : ℕ) (a : List ℕ) →
    IsRewrittenTo false true code code (tile Cast b a ∷ []) (tile Cast 40 (codes "float)") ∷ [])

abbrev pub all_trivia : List Tile → Bool
all_trivia [] = true
all_trivia (tile kind b a ∷ ts) = is_trivia kind && all_trivia ts

-- A cast, trivia and a variable become `(null)`.
abbrev pub CastsBecomeNull : Type 0
CastsBecomeNull =
    (b c : ℕ) (a e : List ℕ) (gap : List Tile) →
    all_trivia gap ≡ true →
    IsRewrittenTo false true code code (tile Cast b a ∷ gap ++ tile Variable c e ∷ []) (between 40 41 (tile Word 110 (codes "ull") ∷ []))
