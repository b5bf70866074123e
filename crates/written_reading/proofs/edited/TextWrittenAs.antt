-- What the parts of quoted texts become: closing tokens and pieces.
use Rattle.std.proofs.Common.{◌≡◌, ℕ, Bool, true, false, not, ◌&&◌, nat_eq, List, [], ◌∷◌, ◌++◌, map, Some, refl, sym, ap, ◌∙◌, subst, append-nil}
use Rattle.php_tree.specs.declared.version.Version.TheVariants.{V74}
use Rattle.php_tree.specs.declared.token.Token.{Token}
use Rattle.php_tree.specs.declared.token.TokenKind.TheVariants as token
use Rattle.php_spellings.specs.declared.table.Kind.{Kind}
use Rattle.php_spellings.specs.declared.table.Kind.TheVariants.{Piece, QuotedEnd}
use Rattle.php_spellings.specs.declared.table.Mark.{Mark}
use Rattle.php_spellings.specs.Words.{token_of}
use Rattle.php_lexer.specs.Modes.{Mode, quoted, ends_line}
use Rattle.php_lexer.specs.Lexed.{Lexeme, lexeme}
use Rattle.php_relexing.specs.Tiles.{Tile, tile}
use Rattle.php_relexing.specs.Spelled.{Steps, spelled}
use Rattle.php_relexing.specs.Pieces.{ends_dollar, escape_last}
use Rattle.tracked_changes.specs.Pieces.{before, after}
use Rattle.tracked_changes.specs.Draft.{NewToken}
use Rattle.syntax_rules.specs.HashComment.{outside, spaced, hash_comment}
use Rattle.syntax_rules.specs.DollarBrace.{ends_bare, before_last, escaped}
use Rattle.written_tokens.specs.tokens.Written.{new_lexeme}
use Rattle.written_tokens.specs.tokens.Levels.{stack_of}
use Rattle.written_tokens.specs.texts.TextRows as row
use Rattle.written_tokens.specs.texts.TextRows.{TextRow, begins_dollar_brace}
use Rattle.written_tokens.proofs.texts.Stepping.{first}
use Rattle.written_tokens.specs.names.Fronts.{FrontOfRow}
use Rattle.written_reading.specs.edited.Rows.{all_clean}
use Rattle.written_reading.proofs.edited.Spelling.{Spells, led_spells}
use Rattle.written_reading.proofs.edited.WrittenAs.{has_more, more_behind}
use Rattle.written_reading.proofs.edited.QuotedTiles.{tile_by, quoted_bare, Next, next_of, next_spells}

-- The tiles of tokens of a quoted text up to its end, and what they become; `starts` tells whether `${` comes first.
pub record TextStep (ts : List NewToken) (starts : Bool) (tiles : List Tile) (more : List Lexeme) : Type 0 where
  pub xs : List Tile
  pub ys : List Tile
  pub rest : List Tile
  pub split : tiles ≡ xs ++ rest
  pub left : spelled [] rest ≡ more
  pub row : TextRow xs ys
  pub starts_is : begins_dollar_brace xs ≡ starts
  pub spells : Spells ys (map new_lexeme ts)
  pub clean : all_clean ys ≡ true

-- The same wherever they stand in a quoted text.
abbrev pub TextWrittenAs : Bool → List Token → List NewToken → Type 0
TextWrittenAs starts ss ts =
    (mark : Mark) (label : List ℕ) (fresh : Bool) (over : List Mode) (depth : ℕ) (tiles : List Tile) (more : List Lexeme) →
    has_more more ≡ true →
    Steps V74 (stack_of (quoted mark label fresh) over depth) tiles →
    spelled [] tiles ≡ map lexeme ss ++ more →
    TextStep ts starts tiles more

abbrev tells : Token → Tile → Type 0
tells t (tile kind b a) = (token_of kind (b ∷ a) ≡ Some t.kind) × (b ∷ a ≡ t.text)

-- the first token by its tile
abbrev pub as_tile : (x : Kind) (y : ℕ) (z : List ℕ) (t : Token) (tiles : List Tile) (more : List Lexeme)
    → (n : Next t tiles more) → tile n.kind n.b n.a ≡ tile x y z → Next t tiles more
as_tile x y z t tiles more n same =
    let told = subst (tells t) same (n.is, n.text) in
    record {
      kind = x;
      b = y;
      a = z;
      rest = n.rest;
      whole = n.whole ∙ ap (λ (u : Tile). u ∷ n.rest) same;
      is = told.0;
      text = told.1;
      lead = n.lead;
      tokens = n.tokens;
    }

abbrev pub as_kind : (x : Kind) (t : Token) (tiles : List Tile) (more : List Lexeme) → (n : Next t tiles more) → n.kind ≡ x → Next t tiles more
as_kind x t tiles more n same = as_tile x n.b n.a t tiles more n (ap (λ (y : Kind). tile y n.b n.a) same)

-- ---- closing tokens

pub end_written_as : FrontOfRow → (t : Token) → t.kind ≡ token.QuotedEnd → TextWrittenAs false (t ∷ []) (hash_comment t ∷ [])
end_written_as front t is mark label fresh over depth tiles more m steps same =
    let at : Next t tiles more = next_of front (stack_of (quoted mark label fresh) over depth) (quoted_bare mark label fresh) t tiles more m steps same in
    let n : Next t tiles more = as_kind QuotedEnd t tiles more at (tile_by token.QuotedEnd refl at.kind (at.b ∷ at.a) t.kind is at.is) in
    let kind : at.kind ≡ QuotedEnd = tile_by token.QuotedEnd refl at.kind (at.b ∷ at.a) t.kind is at.is in
    record {
      xs = tile QuotedEnd at.b at.a ∷ [];
      ys = tile QuotedEnd at.b at.a ∷ [];
      rest = at.rest;
      split = n.whole;
      left = at.tokens;
      row = row.quote_end at.b at.a;
      starts_is = refl;
      spells = next_spells t tiles more n [] [] (λ rest. refl);
      clean = refl;
    }

-- ---- pieces

pub dollar_same : (x : Bool) (text : List ℕ) → ends_bare x text ≡ ends_dollar x text
dollar_same x [] = refl
dollar_same x (b ∷ []) = refl
dollar_same x (b ∷ c ∷ bs) = dollar_same (not x && nat_eq b 92) (c ∷ bs)

pub last_same : (text : List ℕ) → after (before_last text) ≡ escape_last text
last_same [] = refl
last_same (b ∷ []) = refl
last_same (b ∷ c ∷ bs) = ap (λ (l : List ℕ). b ∷ l) (last_same (c ∷ bs))

-- a byte and the others of a text with a backslash before the last
escaped_parts : (b : ℕ) (a : List ℕ) → (c : ℕ) × (e : List ℕ) × (escape_last (b ∷ a) ≡ c ∷ e)
escaped_parts b [] = (92, b ∷ [], refl)
escaped_parts b (x ∷ a) = (b, escape_last (x ∷ a), refl)

-- what a piece becomes, by whether `${` follows
abbrev pub piece_by : Bool → NewToken → NewToken
piece_by true n = escaped n
piece_by false n = n

module _ (t : Token) (is : t.kind ≡ token.Piece) (tiles : List Tile) (more : List Lexeme) (n : Next t tiles more) (kind : n.kind ≡ Piece) where
  kept_piece : (starts : Bool) (ts : List NewToken) (rest : List Lexeme) → (r : TextStep ts starts n.rest rest)
      → (starts && ends_dollar false (n.b ∷ n.a)) ≡ false → TextStep (hash_comment t ∷ ts) false tiles rest
  kept_piece starts ts rest r h =
      let p : Next t tiles more = as_kind Piece t tiles more n kind in
      record {
        xs = tile Piece n.b n.a ∷ r.xs;
        ys = tile Piece n.b n.a ∷ r.ys;
        rest = r.rest;
        split = p.whole ∙ ap (λ (l : List Tile). tile Piece n.b n.a ∷ l) r.split;
        left = r.left;
        row = row.piece n.b n.a (ap (λ (x : Bool). x && ends_dollar false (n.b ∷ n.a)) r.starts_is ∙ h) r.row;
        starts_is = refl;
        spells = next_spells t tiles more p r.ys (map new_lexeme ts) r.spells;
        clean = r.clean;
      }

  escaped_piece : (ts : List NewToken) (rest : List Lexeme) → (r : TextStep ts true n.rest rest)
      → ends_dollar false (n.b ∷ n.a) ≡ true
      → TextStep (record (hash_comment t) { text = before_last (before (hash_comment t).text) } ∷ ts) false tiles rest
  escaped_piece ts rest r h =
      let p : Next t tiles more = as_kind Piece t tiles more n kind in
      let (c, e, parts) = escaped_parts n.b n.a in
      let lead : [] ≡ after (spaced outside t.lead) = sym (ap (λ (l : List ℕ). after (spaced outside l)) n.lead) in
      let new : c ∷ e ≡ after (before_last (t.text ++ [])) =
      sym parts ∙ sym (last_same (n.b ∷ n.a)) ∙ ap (λ (l : List ℕ). after (before_last l)) (n.text ∙ sym (append-nil t.text)) in
      record {
        xs = tile Piece n.b n.a ∷ r.xs;
        ys = tile Piece c e ∷ r.ys;
        rest = r.rest;
        split = p.whole ∙ ap (λ (l : List Tile). tile Piece n.b n.a ∷ l) r.split;
        left = r.left;
        row = row.escaped_piece n.b c n.a e r.starts_is h parts r.row;
        starts_is = refl;
        spells = led_spells [] refl Piece c e
            (new_lexeme (record (hash_comment t) { text = before_last (before (hash_comment t).text) })) lead
            (ap Some (sym is)) new r.ys (map new_lexeme ts) r.spells;
        clean = r.clean;
      }

  piece_step : (starts bare : Bool) (ts : List NewToken) (rest : List Lexeme)
      → ends_bare false (before (hash_comment t).text) ≡ bare → TextStep ts starts n.rest rest
      → TextStep (piece_by starts (hash_comment t) ∷ ts) false tiles rest
  piece_step false bare ts rest e r = kept_piece false ts rest r refl
  piece_step true false ts rest e r =
      rw e (kept_piece true ts rest r (sym (dollar_same false (n.b ∷ n.a)) ∙ ap (ends_bare false) (n.text ∙ sym (append-nil t.text)) ∙ e))
  piece_step true true ts rest e r =
      rw e (escaped_piece ts rest r (sym (dollar_same false (n.b ∷ n.a)) ∙ ap (ends_bare false) (n.text ∙ sym (append-nil t.text)) ∙ e))

pub piece_written_as : FrontOfRow → (starts : Bool) (t : Token) (ss : List Token) (ts : List NewToken)
    → t.kind ≡ token.Piece → TextWrittenAs starts ss ts → TextWrittenAs false (t ∷ ss) (piece_by starts (hash_comment t) ∷ ts)
piece_written_as front starts t ss ts is written_as mark label fresh over depth tiles more m steps same =
    let stack = stack_of (quoted mark label fresh) over depth in
    let n : Next t tiles (map lexeme ss ++ more) = next_of front stack (quoted_bare mark label fresh) t tiles (map lexeme ss ++ more) (more_behind ss more m) steps same in
    let kind : n.kind ≡ Piece = tile_by token.Piece refl n.kind (n.b ∷ n.a) t.kind is n.is in
    let at : Steps V74 stack (tile Piece n.b n.a ∷ n.rest) =
    subst (λ (x : Kind). Steps V74 stack (tile x n.b n.a ∷ n.rest)) kind (subst (λ (l : List Tile). Steps V74 stack l) n.whole steps) in
    piece_step t is tiles (map lexeme ss ++ more) n kind starts (ends_bare false (before (hash_comment t).text)) ts more refl
    (written_as mark label (ends_line (n.b ∷ n.a)) over depth n.rest more m (first stack Piece n.b n.a n.rest at).more n.tokens)
