-- How written tokens and trivia go on where the source's go on so.
use Rattle.std.specs.Prelude.{◌≡◌, ℕ, Bool, true, false, not, ◌&&◌, ◌||◌, nat_eq, List, [], ◌∷◌}
use Rattle.php_spellings.specs.declared.table.Kind.{Kind}
use Rattle.php_spellings.specs.declared.table.Kind.TheVariants.{Space, Comment, Tag, Word, Keyword, Cast, Op, Close, Piece, CurlyOpen, DollarBrace}
use Rattle.php_relexing.specs.Tiles.{Tile, tile}
use Rattle.php_relexing.specs.Pieces.{ends_dollar, escape_last}

-- whether a tile of the kind may not stand between the parentheses of a cast: it is no word and no white space
abbrev pub stops_cast : Kind → Bool
stops_cast Space = false
stops_cast Word = false
stops_cast Keyword = false
stops_cast _ = true

-- whether a tile of the kind is trivia
abbrev pub is_trivia : Kind → Bool
is_trivia Space = true
is_trivia Comment = true
is_trivia Tag = true
is_trivia _ = false

-- whether a token comes first that isn't `?>`
abbrev pub begins_token : List Tile → Bool
begins_token [] = false
begins_token (tile Close b a ∷ ts) = false
begins_token (tile kind b a ∷ ts) = not (is_trivia kind)

-- whether a token of the kind is an operator or a cast
abbrev pub is_mark : Kind → Bool
is_mark Cast = true
is_mark Op = true
is_mark _ = false

-- What edits put in begins with `(`, `[`, `]`, `}`, `\` or the `#` of a comment; with `)` too, but not where it could end a
-- cast.
abbrev pub is_put : Bool → ℕ → Bool
is_put tight c =
    nat_eq c 40 || nat_eq c 91 || nat_eq c 93 || nat_eq c 125 || nat_eq c 92 || nat_eq c 35 || (not tight && nat_eq c 41)

-- ContinuesAs tight gap ts us: the second tiles, which are written, go on as the first ones, which are the source's, up to the end
-- or what an edit puts in: an operator or a cast that begins with one of these bytes, `{$` for `${`, or a backslash before the
-- last `$` of a piece of text. Where it is tight, no `)` is put in behind words and white space alone; in a gap, directly
-- behind trivia, something is put in before a token alone.
pub data ContinuesAs : Bool → Bool → List Tile → List Tile → Type 0 where
  ended : {tight gap : Bool} → ContinuesAs tight gap [] []
  same :
      {tight gap : Bool} {ts us : List Tile} (kind : Kind) (b : ℕ) (a : List ℕ) →
      ContinuesAs (tight && not (stops_cast kind)) (is_trivia kind) ts us →
      ContinuesAs tight gap (tile kind b a ∷ ts) (tile kind b a ∷ us)
  put :
      {tight gap : Bool} {ts us : List Tile} (kind : Kind) (c : ℕ) (e : List ℕ) →
      (is_mark kind && is_put tight c) ≡ true →
      (not gap || begins_token ts) ≡ true →
      ContinuesAs tight gap ts (tile kind c e ∷ us)
  hash :
      {tight gap : Bool} {ts us : List Tile} (a e : List ℕ) →
      ContinuesAs tight gap (tile Comment 35 a ∷ ts) (tile Comment 35 e ∷ us)
  brace :
      {tight gap : Bool} {ts us : List Tile} (kind : Kind) (e : List ℕ) →
      ContinuesAs tight gap (tile DollarBrace 36 (123 ∷ []) ∷ ts) (tile CurlyOpen 123 [] ∷ tile kind 36 e ∷ us)
  escaped :
      {tight gap : Bool} {ts us : List Tile} (b c : ℕ) (a e : List ℕ) →
      ends_dollar false (b ∷ a) ≡ true →
      escape_last (b ∷ a) ≡ c ∷ e →
      ContinuesAs tight gap (tile Piece b a ∷ ts) (tile Piece c e ∷ us)
