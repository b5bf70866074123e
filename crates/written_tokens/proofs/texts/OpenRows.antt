-- A quoted text and the tiles behind it: how the written ones go on.
use Rattle.std.proofs.Common.{◌≡◌, ℕ, Bool, true, false, ◌&&◌, List, [], ◌∷◌, ◌++◌, refl, sym, ap, ◌∙◌, subst, append_assoc}
use Rattle.php_spellings.specs.declared.table.Kind.{Kind}
use Rattle.php_spellings.specs.declared.table.Kind.TheVariants.{Variable, Label, Op, Piece, CurlyOpen, DollarBrace, VarName, QuotedEnd}
use Rattle.php_spellings.specs.Bytes.{begins_by}
use Rattle.php_lexer.specs.Modes.{code}
use Rattle.php_relexing.specs.Tiles.{Tile, tile, joined}
use Rattle.php_relexing.specs.Pieces.{ends_dollar, escape_last}
use Rattle.php_relexing.proofs.Bools.{and_false}
use Rattle.written_tokens.specs.tiles.ContinuesAs.{ContinuesAs, same, brace, escaped, is_trivia}
use Rattle.written_tokens.specs.tiles.IsRewrittenTo.{IsRewrittenTo, gap_behind}
use Rattle.written_tokens.specs.texts.TextRows.{
  Key,
  bare,
  minus,
  begins_dollar_brace,
  begins_var_name,
  TextRow,
  quote_end,
  piece,
  escaped_piece,
  variable,
  with_offset,
  with_property,
  curly,
  dollar_name,
  dollar_row,
}
use Rattle.written_tokens.proofs.texts.QuotedTokens.{is_unit}

-- A quoted text behind its opening token, with the tiles behind it: the source's, and the written ones.
pub data OpenRow (rest after : List Tile) : List Tile → List Tile → Type 0 where
  ends : (b : ℕ) (a : List ℕ) → OpenRow rest after (tile QuotedEnd b a ∷ rest) (tile QuotedEnd b a ∷ after)
  kept :
      {ts us : List Tile} (b : ℕ) (a : List ℕ) →
      (begins_dollar_brace ts && ends_dollar false (b ∷ a)) ≡ false →
      OpenRow rest after ts us →
      OpenRow rest after (tile Piece b a ∷ ts) (tile Piece b a ∷ us)
  slashed :
      {ts us : List Tile} (b c : ℕ) (a e : List ℕ) →
      begins_dollar_brace ts ≡ true →
      ends_dollar false (b ∷ a) ≡ true →
      escape_last (b ∷ a) ≡ c ∷ e →
      OpenRow rest after ts us →
      OpenRow rest after (tile Piece b a ∷ ts) (tile Piece c e ∷ us)
  simple :
      {ts us : List Tile} (b : ℕ) (a : List ℕ) →
      OpenRow rest after ts us →
      OpenRow rest after (tile Variable b a ∷ ts) (tile Variable b a ∷ us)
  indexed :
      {ts us : List Tile} (b : ℕ) (a : List ℕ) (ks : List Tile) →
      Key ks →
      OpenRow rest after ts us →
      OpenRow rest after (tile Variable b a ∷ tile Op 91 [] ∷ ks ++ tile Op 93 [] ∷ ts)
      (tile Variable b a ∷ tile Op 91 [] ∷ ks ++ tile Op 93 [] ∷ us)
  fetched :
      {ts us : List Tile} (b : ℕ) (a : List ℕ) (c : ℕ) (e : List ℕ) →
      OpenRow rest after ts us →
      OpenRow rest after (tile Variable b a ∷ tile Op 45 (62 ∷ []) ∷ tile Label c e ∷ ts)
      (tile Variable b a ∷ tile Op 45 (62 ∷ []) ∷ tile Label c e ∷ us)
  curled :
      {ts us : List Tile} (needs stops : Bool) (xs ys : List Tile) →
      begins_by 36 (joined ys) ≡ true →
      IsRewrittenTo needs stops code code xs ys →
      OpenRow rest after ts us →
      OpenRow rest after (tile CurlyOpen 123 [] ∷ xs ++ tile Op 125 [] ∷ ts)
      (tile CurlyOpen 123 [] ∷ ys ++ tile Op 125 [] ∷ us)
  by_name :
      {ts us : List Tile} (needs stops : Bool) (b : ℕ) (a : List ℕ) (xs ys : List Tile) →
      IsRewrittenTo needs stops code code xs ys →
      OpenRow rest after ts us →
      OpenRow rest after (tile DollarBrace 36 (123 ∷ []) ∷ tile VarName b a ∷ xs ++ tile Op 125 [] ∷ ts)
      (tile CurlyOpen 123 [] ∷ tile Variable 36 (b ∷ a) ∷ ys ++ tile Op 125 [] ∷ us)
  by_row :
      {ts us : List Tile} (needs stops : Bool) (xs ys : List Tile) →
      begins_var_name xs ≡ false →
      IsRewrittenTo needs stops code code xs ys →
      OpenRow rest after ts us →
      OpenRow rest after (tile DollarBrace 36 (123 ∷ []) ∷ xs ++ tile Op 125 [] ∷ ts)
      (tile CurlyOpen 123 [] ∷ tile Op 36 [] ∷ tile Op 123 [] ∷ ys ++ tile Op 125 [] ∷ tile Op 125 [] ∷ us)

-- ---- from the text to the text with what follows it

dollar_first : {ts us : List Tile} → TextRow ts us → (rest : List Tile) → begins_dollar_brace (ts ++ rest) ≡ begins_dollar_brace ts
dollar_first (quote_end b a) rest = refl
dollar_first (piece b a h row) rest = refl
dollar_first (escaped_piece b c a e h k l row) rest = refl
dollar_first (variable b a row) rest = refl
dollar_first (with_offset b a ks key row) rest = refl
dollar_first (with_property b a c e row) rest = refl
dollar_first (curly needs stops xs ys h become row) rest = refl
dollar_first (dollar_name needs stops b a xs ys become row) rest = refl
dollar_first (dollar_row needs stops xs ys h become row) rest = refl

module _ (rest after : List Tile) where
  module _ (xs ts : List Tile) (t : Tile) where
    joins : (more : List Tile) → (xs ++ t ∷ ts) ++ more ≡ xs ++ (t ∷ ts ++ more)
    joins more = append_assoc xs (t ∷ ts) more

  -- both rows, where the source's and the written one are put together otherwise
  moved : (f g : List Tile → List Tile) (x x' y y' : List Tile) → x ≡ x' → y ≡ y' → OpenRow rest after (f x') (g y') → OpenRow rest after (f x) (g y)
  moved f g x x' y y' e h row =
      subst (λ (u : List Tile). OpenRow rest after (f u) (g y)) (sym e)
      (subst (λ (u : List Tile). OpenRow rest after (f x') (g u)) (sym h) row)

  pub open_row : {ts us : List Tile} → TextRow ts us → OpenRow rest after (ts ++ rest) (us ++ after)
  open_row (quote_end b a) = ends b a
  open_row (piece {ts} {us} b a h row) =
      kept b a (ap (λ (t : Bool). t && ends_dollar false (b ∷ a)) (dollar_first row rest) ∙ h) (open_row row)
  open_row (escaped_piece {ts} {us} b c a e h k l row) = slashed b c a e (dollar_first row rest ∙ h) k l (open_row row)
  open_row (variable b a row) = simple b a (open_row row)
  open_row (with_offset {ts} {us} b a ks key row) =
      moved (λ x. tile Variable b a ∷ tile Op 91 [] ∷ x) (λ x. tile Variable b a ∷ tile Op 91 [] ∷ x)
      ((ks ++ tile Op 93 [] ∷ ts) ++ rest) (ks ++ (tile Op 93 [] ∷ ts ++ rest))
      ((ks ++ tile Op 93 [] ∷ us) ++ after) (ks ++ (tile Op 93 [] ∷ us ++ after))
      (joins ks ts (tile Op 93 []) rest) (joins ks us (tile Op 93 []) after)
      (indexed b a ks key (open_row row))
  open_row (with_property b a c e row) = fetched b a c e (open_row row)
  open_row (curly {ts} {us} needs stops xs ys h become row) =
      moved (λ x. tile CurlyOpen 123 [] ∷ x) (λ x. tile CurlyOpen 123 [] ∷ x)
      ((xs ++ tile Op 125 [] ∷ ts) ++ rest) (xs ++ (tile Op 125 [] ∷ ts ++ rest))
      ((ys ++ tile Op 125 [] ∷ us) ++ after) (ys ++ (tile Op 125 [] ∷ us ++ after))
      (joins xs ts (tile Op 125 []) rest) (joins ys us (tile Op 125 []) after)
      (curled needs stops xs ys h become (open_row row))
  open_row (dollar_name {ts} {us} needs stops b a xs ys become row) =
      moved (λ x. tile DollarBrace 36 (123 ∷ []) ∷ tile VarName b a ∷ x) (λ x. tile CurlyOpen 123 [] ∷ tile Variable 36 (b ∷ a) ∷ x)
      ((xs ++ tile Op 125 [] ∷ ts) ++ rest) (xs ++ (tile Op 125 [] ∷ ts ++ rest))
      ((ys ++ tile Op 125 [] ∷ us) ++ after) (ys ++ (tile Op 125 [] ∷ us ++ after))
      (joins xs ts (tile Op 125 []) rest) (joins ys us (tile Op 125 []) after)
      (by_name needs stops b a xs ys become (open_row row))
  open_row (dollar_row {ts} {us} needs stops xs ys h become row) =
      moved (λ x. tile DollarBrace 36 (123 ∷ []) ∷ x) (λ x. tile CurlyOpen 123 [] ∷ tile Op 36 [] ∷ tile Op 123 [] ∷ x)
      ((xs ++ tile Op 125 [] ∷ ts) ++ rest) (xs ++ (tile Op 125 [] ∷ ts ++ rest))
      ((ys ++ tile Op 125 [] ∷ tile Op 125 [] ∷ us) ++ after) (ys ++ (tile Op 125 [] ∷ tile Op 125 [] ∷ us ++ after))
      (joins xs ts (tile Op 125 []) rest) (joins ys (tile Op 125 [] ∷ us) (tile Op 125 []) after)
      (by_row needs stops xs ys h become (open_row row))

-- ---- the first tile

-- the row begins with a unit of a quoted text
pub record Head (ts : List Tile) : Type 0 where
  pub kind : Kind
  pub byte : ℕ
  pub bytes : List ℕ
  pub more : List Tile
  pub same : ts ≡ tile kind byte bytes ∷ more
  pub unit : is_unit kind ≡ true

head_at : (kind : Kind) (b : ℕ) (a : List ℕ) (ts : List Tile) → is_unit kind ≡ true → Head (tile kind b a ∷ ts)
head_at kind b a ts h = record { kind = kind; byte = b; bytes = a; more = ts; same = refl; unit = h }

pub head_of : {rest after ts us : List Tile} → OpenRow rest after ts us → Head ts
head_of {rest} (ends b a) = head_at QuotedEnd b a rest refl
head_of (kept {ts} b a h row) = head_at Piece b a ts refl
head_of (slashed {ts} b c a e h k l row) = head_at Piece b a ts refl
head_of (simple {ts} b a row) = head_at Variable b a ts refl
head_of (indexed {ts} b a ks key row) = head_at Variable b a (tile Op 91 [] ∷ ks ++ tile Op 93 [] ∷ ts) refl
head_of (fetched {ts} b a c e row) = head_at Variable b a (tile Op 45 (62 ∷ []) ∷ tile Label c e ∷ ts) refl
head_of (curled {ts} needs stops xs ys h become row) = head_at CurlyOpen 123 [] (xs ++ tile Op 125 [] ∷ ts) refl
head_of (by_name {ts} needs stops b a xs ys become row) = head_at DollarBrace 36 (123 ∷ []) (tile VarName b a ∷ xs ++ tile Op 125 [] ∷ ts) refl
head_of (by_row {ts} needs stops xs ys h become row) = head_at DollarBrace 36 (123 ∷ []) (xs ++ tile Op 125 [] ∷ ts) refl

-- ---- how the written tiles go on

untight : (tight gap : Bool) (ts us : List Tile) → ContinuesAs false gap ts us → ContinuesAs (tight && false) gap ts us
untight tight gap ts us g = subst (λ (t : Bool). ContinuesAs t gap ts us) (sym (and_false tight)) g

key_goes : {ks : List Tile} → Key ks → (tight gap : Bool) (ts us : List Tile)
    → ((tight gap : Bool) → ContinuesAs tight gap ts us) → ContinuesAs tight gap (ks ++ tile Op 93 [] ∷ ts)
    (ks ++ tile Op 93 [] ∷ us)
key_goes (bare kind b a h) tight gap ts us g = same kind b a (same Op 93 [] (g _ _))
key_goes (minus kind b a h) tight gap ts us g = same Op 45 [] (same kind b a (same Op 93 [] (g _ _)))

pub row_goes : {rest after ts us : List Tile} → OpenRow rest after ts us → ContinuesAs false false rest after → (tight gap : Bool) → ContinuesAs tight gap ts us
row_goes {rest} {after} (ends b a) g tight gap = same QuotedEnd b a (untight tight false rest after g)
row_goes (kept b a h row) g tight gap = same Piece b a (row_goes row g _ _)
row_goes (slashed b c a e h k l row) g tight gap = escaped b c a e k l
row_goes (simple b a row) g tight gap = same Variable b a (row_goes row g _ _)
row_goes (indexed {ts} {us} b a ks key row) g tight gap = same Variable b a (same Op 91 [] (key_goes key _ _ ts us (row_goes row g)))
row_goes (fetched b a c e row) g tight gap = same Variable b a (same Op 45 (62 ∷ []) (same Label c e (row_goes row g _ _)))
row_goes (curled {ts} {us} needs stops xs ys h become row) g tight gap =
    same CurlyOpen 123 [] (become.goes (tight && false) false (tile Op 125 [] ∷ ts) (tile Op 125 [] ∷ us) (same Op 125 [] (row_goes row g _ _)))
row_goes (by_name needs stops b a xs ys become row) g tight gap = brace Variable (b ∷ a)
row_goes (by_row needs stops xs ys h become row) g tight gap = brace Op []

-- ---- no trivia stand directly behind it

gap_over : (gap : Bool) (xs ts : List Tile) → gap_behind gap (xs ++ tile Op 125 [] ∷ ts) ≡ gap_behind false ts
gap_over gap [] ts = refl
gap_over gap (tile kind b a ∷ xs) ts = gap_over (is_trivia kind) xs ts

key_gap : {ks : List Tile} → Key ks → (gap : Bool) (ts : List Tile) → gap_behind gap (ks ++ tile Op 93 [] ∷ ts) ≡ gap_behind false ts
key_gap (bare kind b a h) gap ts = refl
key_gap (minus kind b a h) gap ts = refl

pub row_gap : {ts us : List Tile} → TextRow ts us → (gap : Bool) → gap_behind gap ts ≡ false
row_gap (quote_end b a) gap = refl
row_gap (piece b a h row) gap = row_gap row false
row_gap (escaped_piece b c a e h k l row) gap = row_gap row false
row_gap (variable b a row) gap = row_gap row false
row_gap (with_offset {ts} b a ks key row) gap = key_gap key false ts ∙ row_gap row false
row_gap (with_property b a c e row) gap = row_gap row false
row_gap (curly {ts} needs stops xs ys h become row) gap = gap_over false xs ts ∙ row_gap row false
row_gap (dollar_name {ts} needs stops b a xs ys become row) gap = gap_over false xs ts ∙ row_gap row false
row_gap (dollar_row {ts} needs stops xs ys h become row) gap = gap_over false xs ts ∙ row_gap row false
