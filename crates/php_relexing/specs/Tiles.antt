-- Tokens and trivia of code in a row, and where a bracket may come in between two of them.
use Rattle.std.specs.Prelude.{◌≡◌, ℕ, suc, Bool, true, not, ◌&&◌, ◌||◌, cond, nat_eq, List, [], ◌∷◌, ◌++◌, length}
use Rattle.php_tree.specs.declared.version.Version.{Version}
use Rattle.php_spellings.specs.declared.table.Kind.{Kind}
use Rattle.php_spellings.specs.Bytes.{lower, begins}
use Rattle.php_lexer.specs.Modes.{code, IsLongest}

-- A token or a piece of trivia: its kind, its first byte and the others.
pub data Tile : Type 0 where
  tile : Kind → ℕ → List ℕ → Tile

-- the bytes of tiles in a row
abbrev pub joined : List Tile → List ℕ
joined [] = []
joined (tile kind b a ∷ ts) = b ∷ a ++ joined ts

-- Each tile is the longest token of code at its place.
abbrev pub Tiled : Version → List Tile → Type 0
Tiled v [] = Unit {0}
Tiled v (tile kind b a ∷ ts) = IsLongest v code (b ∷ a ++ joined ts) kind (suc (length a)) × Tiled v ts

-- an opening or closing bracket, round or square
abbrev pub is_bracket : ℕ → Bool
is_bracket c = nat_eq c 40 || nat_eq c 41 || nat_eq c 91 || nat_eq c 93

-- the first bytes of the tokens that look far ahead: texts, comments, casts, heredocs
abbrev pub is_far : ℕ → Bool
is_far b = nat_eq b 39 || nat_eq b 34 || nat_eq b 47 || nat_eq b 40 || nat_eq b 60 || nat_eq b 35

-- whether a letter begins words of the tables: `b` before a text, and `yield`
abbrev pub begins_words : ℕ → Bool
begins_words b = nat_eq (lower b) 98 || nat_eq (lower b) 121

-- whether a byte behind such a letter goes on with none of these words
abbrev pub leaves_words : ℕ → ℕ → Bool
leaves_words b z =
    cond (nat_eq (lower b) 98)
    (not (nat_eq 39 (lower z)) && (not (nat_eq 34 (lower z)) && not (nat_eq 60 (lower z))))
    (not (nat_eq 105 (lower z)))

-- whether a token that begins so looks no further than the byte behind it
abbrev pub is_near : ℕ → List ℕ → Bool
is_near b a = not (is_far b) && (not (begins_words b) || begins (leaves_words b) a)

abbrev pub AllNear : List Tile → Type 0
AllNear [] = Unit {0}
AllNear (tile kind b a ∷ ts) = (is_near b a ≡ true) × AllNear ts

-- A token that begins with a bracket may come in behind any near tokens: all others stay the longest.
abbrev pub BracketComesIn : Type 0
BracketComesIn =
    (v : Version) (c : ℕ) (kind : Kind) (u : List ℕ) (ts us : List Tile) →
    is_bracket c ≡ true →
    AllNear ts →
    Tiled v (ts ++ us) →
    IsLongest v code (c ∷ u ++ joined us) kind (suc (length u)) →
    Tiled v (ts ++ tile kind c u ∷ us)
