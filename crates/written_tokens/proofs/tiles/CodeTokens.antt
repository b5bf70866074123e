-- Tokens and trivia of code that stay as they are.
use Rattle.std.proofs.Common.{◌≡◌, ℕ, suc, Bool, true, List, ◌∷◌, ◌++◌, length, refl, subst}
use Rattle.php_tree.specs.declared.version.Version.TheVariants.{V74}
use Rattle.php_spellings.specs.declared.table.Kind.{Kind}
use Rattle.php_spellings.specs.declared.table.Kind.TheVariants.{
  Space,
  Comment,
  Tag,
  OpenEcho,
  InlineHtml,
  Variable,
  Word,
  Label,
  Keyword,
  Name,
  Decimal,
  Octal,
  Hexadecimal,
  Binary,
  Digits,
  Float,
  Text,
  Quote,
  Backtick,
  HeredocStart,
  Cast,
  Op,
  AttributeOpen,
  Semi,
  Close,
  Piece,
  CurlyOpen,
  DollarBrace,
  VarName,
  QuotedEnd,
}
use Rattle.php_spellings.specs.Bytes.{is_space}
use Rattle.php_lexer.specs.Modes.{Mode, code, IsLongest}
use Rattle.php_relexing.specs.Tiles.{Tile, tile, joined}
use Rattle.php_relexing.specs.Spelled.{Steps}
use Rattle.written_tokens.specs.tokens.Levels.{stack_of}
use Rattle.written_tokens.specs.tiles.ContinuesAs.{is_trivia, ContinuesAs, same}
use Rattle.written_tokens.specs.tiles.CodeTokens.{is_plain, is_opening, mode_behind, CodeTokensBecome}
use Rattle.written_tokens.proofs.tiles.Ahead.{Coded}
use Rattle.written_tokens.proofs.tiles.Ahead as code_tiles
use Rattle.written_tokens.proofs.tiles.AheadFrom.{from_goes, cast_goes, line_ends_so}
use Rattle.written_tokens.proofs.tiles.CodeKept.{GoesOn, close_kept, kept}
use Rattle.written_tokens.proofs.tiles.Going.{bytes_alike, first_stays}
use Rattle.written_tokens.proofs.tiles.Onward.{onward}
use Rattle.written_tokens.proofs.tiles.Stepping.{stepped, longest_in, steps_behind, plain_mode_step}

-- ---- what goes on as the source does

goes_so : (tight gap : Bool) (ts us : List Tile) → Coded ts → Coded us → ContinuesAs tight gap ts us → GoesOn tight gap (joined ts) (joined us)
goes_so tight gap ts us old new g = record {
  alike = bytes_alike g;
  on = onward g;
  first = λ p out blank h. first_stays p out g h;
  spaces = λ e h. first_stays is_space refl g h;
  line = λ e h. line_ends_so old (subst (λ (x : Bool). ContinuesAs tight x ts us) e g) h;
  from = λ h. from_goes old new g h;
  cast = λ e h. cast_goes old new (subst (λ (x : Bool). ContinuesAs x gap ts us) e g) h;
}

-- the mode behind a tile of code
data Behind : Kind → Type 0 where
  closed : Behind Close
  coded : {kind : Kind} → mode_behind kind ≡ code → Behind kind

behind : (kind : Kind) → Behind kind
behind Space = coded refl
behind Comment = coded refl
behind Tag = coded refl
behind OpenEcho = coded refl
behind InlineHtml = coded refl
behind Variable = coded refl
behind Word = coded refl
behind Label = coded refl
behind Keyword = coded refl
behind Name = coded refl
behind Decimal = coded refl
behind Octal = coded refl
behind Hexadecimal = coded refl
behind Binary = coded refl
behind Digits = coded refl
behind Float = coded refl
behind Text = coded refl
behind Quote = coded refl
behind Backtick = coded refl
behind HeredocStart = coded refl
behind Cast = coded refl
behind Op = coded refl
behind AttributeOpen = coded refl
behind Semi = coded refl
behind Close = closed
behind Piece = coded refl
behind CurlyOpen = coded refl
behind DollarBrace = coded refl
behind VarName = coded refl
behind QuotedEnd = coded refl

module _ (below over : List Mode) (depth deep : ℕ) (rest after : List Tile) where
  abbrev Old : Kind → ℕ → List ℕ → Type 0
  Old kind b a = IsLongest V74 code (b ∷ a ++ joined rest) kind (suc (length a))

  abbrev New : Kind → ℕ → List ℕ → Type 0
  New kind b a = IsLongest V74 code (b ∷ a ++ joined after) kind (suc (length a))

  kept_by : (kind : Kind) (b : ℕ) (a : List ℕ) → Behind kind → is_plain kind b a ≡ true
      → ContinuesAs (is_opening kind b) (is_trivia kind) rest after → Old kind b a
      → Steps V74 (stack_of (mode_behind kind) below depth) rest
      → Steps V74 (stack_of (mode_behind kind) over deep) after → New kind b a
  kept_by Close b a closed h g l s w = close_kept (joined rest) (joined after) (bytes_alike g) (λ p out blank k. first_stays p out g k) b a l
  kept_by kind b a (coded e) h g l s w =
      let old : Coded rest = code_tiles.coded below depth rest (subst (λ (m : Mode). Steps V74 (stack_of m below depth) rest) e s) in
      let new : Coded after = code_tiles.coded over deep after (subst (λ (m : Mode). Steps V74 (stack_of m over deep) after) e w) in
      kept (is_opening kind b) (is_trivia kind) (joined rest) (joined after) (goes_so (is_opening kind b) (is_trivia kind) rest after old new g) kind b a h (λ t. t) (λ t. t) l

token_source : (kind : Kind) (b : ℕ) (a : List ℕ) → is_plain kind b a ≡ true
    → (below : List Mode) (depth : ℕ) (rest : List Tile) → Steps V74 (stack_of code below depth)
    (tile kind b a ∷ rest) → Steps V74 (stack_of (mode_behind kind) below depth) rest
token_source kind b a h below depth rest s = steps_behind (stack_of code below depth) (stack_of (mode_behind kind) below depth) kind b a rest (plain_mode_step kind b a below depth h) s

token_written : (kind : Kind) (b : ℕ) (a : List ℕ) → is_plain kind b a ≡ true
    → (gap : Bool) (below over : List Mode) (depth deep : ℕ) (rest after : List Tile)
    → ContinuesAs (is_opening kind b) (is_trivia kind) rest after → Steps V74 (stack_of code below depth)
    (tile kind b a ∷ rest) → Steps V74 (stack_of (mode_behind kind) over deep) after
    → Steps V74 (stack_of code over deep) (tile kind b a ∷ after)
token_written kind b a h gap below over depth deep rest after g s w =
    let new = kept_by below over depth deep rest after kind b a (behind kind) h g
    (longest_in (stack_of code below depth) kind b a rest s) (token_source kind b a h below depth rest s) w in
    stepped (stack_of code over deep) (stack_of (mode_behind kind) over deep) kind b a after new (plain_mode_step kind b a over deep h) w

pub code_tokens_become : CodeTokensBecome
code_tokens_become kind b a h = record {
  goes = λ tight gap rest after g. same kind b a g;
  source = token_source kind b a h;
  written = token_written kind b a h;
}
