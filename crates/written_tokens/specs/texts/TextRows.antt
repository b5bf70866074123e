-- Quoted texts of the source, and what the rule on `${` writes for them.
use Rattle.std.specs.Prelude.{◌≡◌, ℕ, Bool, true, false, ◌&&◌, ◌||◌, List, [], ◌∷◌, ◌++◌}
use Rattle.php_spellings.specs.declared.table.Kind.{Kind}
use Rattle.php_spellings.specs.declared.table.Kind.TheVariants.{Variable, Label, Quote, Backtick, HeredocStart, Op, Piece, CurlyOpen, DollarBrace, VarName, QuotedEnd}
use Rattle.php_spellings.specs.Bytes.{begins_by}
use Rattle.php_lexer.specs.Modes.{code}
use Rattle.php_relexing.specs.Tiles.{Tile, tile, joined}
use Rattle.php_relexing.specs.Pieces.{ends_dollar, escape_last}
use Rattle.written_tokens.specs.tiles.IsRewrittenTo.{IsRewrittenTo}

abbrev pub is_op : Kind → Bool
is_op Op = true
is_op _ = false

-- what stands between the brackets of a simple offset: a label, digits or a variable, maybe with `-` in front
pub data Key : List Tile → Type 0 where
  bare : (kind : Kind) (b : ℕ) (a : List ℕ) → is_op kind ≡ false → Key (tile kind b a ∷ [])
  minus : (kind : Kind) (b : ℕ) (a : List ℕ) → is_op kind ≡ false → Key (tile Op 45 [] ∷ tile kind b a ∷ [])

-- whether `${` comes first
abbrev pub begins_dollar_brace : List Tile → Bool
begins_dollar_brace [] = false
begins_dollar_brace (tile DollarBrace b a ∷ ts) = true
begins_dollar_brace (tile _ b a ∷ ts) = false

-- whether a name directly behind `${` comes first
abbrev pub begins_var_name : List Tile → Bool
begins_var_name [] = false
begins_var_name (tile VarName b a ∷ ts) = true
begins_var_name (tile _ b a ∷ ts) = false

-- A quoted text behind its opening token, up to its closing one: the source's tiles, and the written ones.
pub data TextRow : List Tile → List Tile → Type 0 where
  -- the closing token
  quote_end : (b : ℕ) (a : List ℕ) → TextRow (tile QuotedEnd b a ∷ []) (tile QuotedEnd b a ∷ [])
  -- a piece, which ends in no bare `$` where `${` follows
  piece :
      {ts us : List Tile} (b : ℕ) (a : List ℕ) →
      (begins_dollar_brace ts && ends_dollar false (b ∷ a)) ≡ false →
      TextRow ts us →
      TextRow (tile Piece b a ∷ ts) (tile Piece b a ∷ us)
  -- one that ends in a bare `$` before `${`: a backslash before the `$`
  escaped_piece :
      {ts us : List Tile} (b c : ℕ) (a e : List ℕ) →
      begins_dollar_brace ts ≡ true →
      ends_dollar false (b ∷ a) ≡ true →
      escape_last (b ∷ a) ≡ c ∷ e →
      TextRow ts us →
      TextRow (tile Piece b a ∷ ts) (tile Piece c e ∷ us)
  -- a simple variable
  variable :
      {ts us : List Tile} (b : ℕ) (a : List ℕ) →
      TextRow ts us →
      TextRow (tile Variable b a ∷ ts) (tile Variable b a ∷ us)
  -- one with `[`, a key and `]`
  with_offset :
      {ts us : List Tile} (b : ℕ) (a : List ℕ) (ks : List Tile) →
      Key ks →
      TextRow ts us →
      TextRow (tile Variable b a ∷ tile Op 91 [] ∷ ks ++ tile Op 93 [] ∷ ts)
      (tile Variable b a ∷ tile Op 91 [] ∷ ks ++ tile Op 93 [] ∷ us)
  -- one with `->` and a label
  with_property :
      {ts us : List Tile} (b : ℕ) (a : List ℕ) (c : ℕ) (e : List ℕ) →
      TextRow ts us →
      TextRow (tile Variable b a ∷ tile Op 45 (62 ∷ []) ∷ tile Label c e ∷ ts)
      (tile Variable b a ∷ tile Op 45 (62 ∷ []) ∷ tile Label c e ∷ us)
  -- `{`, code that begins with `$`, and `}`
  curly :
      {ts us : List Tile} (needs stops : Bool) (xs ys : List Tile) →
      begins_by 36 (joined ys) ≡ true →
      IsRewrittenTo needs stops code code xs ys →
      TextRow ts us →
      TextRow (tile CurlyOpen 123 [] ∷ xs ++ tile Op 125 [] ∷ ts) (tile CurlyOpen 123 [] ∷ ys ++ tile Op 125 [] ∷ us)
  -- `{$name..}` for `${name..}`
  dollar_name :
      {ts us : List Tile} (needs stops : Bool) (b : ℕ) (a : List ℕ) (xs ys : List Tile) →
      IsRewrittenTo needs stops code code xs ys →
      TextRow ts us →
      TextRow (tile DollarBrace 36 (123 ∷ []) ∷ tile VarName b a ∷ xs ++ tile Op 125 [] ∷ ts)
      (tile CurlyOpen 123 [] ∷ tile Variable 36 (b ∷ a) ∷ ys ++ tile Op 125 [] ∷ us)
  -- `{${..}}` for `${..}`
  dollar_row :
      {ts us : List Tile} (needs stops : Bool) (xs ys : List Tile) →
      begins_var_name xs ≡ false →
      IsRewrittenTo needs stops code code xs ys →
      TextRow ts us →
      TextRow (tile DollarBrace 36 (123 ∷ []) ∷ xs ++ tile Op 125 [] ∷ ts)
      (tile CurlyOpen 123 [] ∷ tile Op 36 [] ∷ tile Op 123 [] ∷ ys ++ tile Op 125 [] ∷ tile Op 125 [] ∷ us)

-- whether a token opens a quoted text
abbrev pub opens_text : Kind → Bool
opens_text Quote = true
opens_text Backtick = true
opens_text HeredocStart = true
opens_text _ = false

-- A quoted text becomes the one that is written.
abbrev pub TextsBecome : Type 0
TextsBecome =
    (kind : Kind) (b : ℕ) (a : List ℕ) (ts us : List Tile) →
    opens_text kind ≡ true →
    TextRow ts us →
    IsRewrittenTo false true code code (tile kind b a ∷ ts) (tile kind b a ∷ us)

-- ---- no `${` is written

abbrev pub is_dollar_brace : Kind → Bool
is_dollar_brace DollarBrace = true
is_dollar_brace _ = false

-- whether `${` stands among the tiles
abbrev pub has_dollar_brace : List Tile → Bool
has_dollar_brace [] = false
has_dollar_brace (tile kind b a ∷ ts) = is_dollar_brace kind || has_dollar_brace ts

-- whether it stands in the code that is written inside a quoted text
abbrev pub has_inside : {ts us : List Tile} → TextRow ts us → Bool
has_inside (quote_end b a) = false
has_inside (piece b a h row) = has_inside row
has_inside (escaped_piece b c a e h k l row) = has_inside row
has_inside (variable b a row) = has_inside row
has_inside (with_offset b a ks key row) = has_dollar_brace ks || has_inside row
has_inside (with_property b a c e row) = has_inside row
has_inside (curly needs stops xs ys h become row) = has_dollar_brace ys || has_inside row
has_inside (dollar_name needs stops b a xs ys become row) = has_dollar_brace ys || has_inside row
has_inside (dollar_row needs stops xs ys h become row) = has_dollar_brace ys || has_inside row

-- Where it doesn't, it stands nowhere in the written text.
abbrev pub TextsAreBraced : Type 0
TextsAreBraced =
    (ts us : List Tile) (row : TextRow ts us) → has_inside row ≡ false → has_dollar_brace us ≡ false
