-- Kinds of tokens and trivia, by whether they may stand in a cast and whether edits put them in.
use Rattle.std.proofs.Common.{◌≡◌, ℕ, Bool, true, false, not, ◌&&◌, List, ◌∷◌, refl}
use Rattle.php_spellings.specs.declared.table.Kind.{Kind}
use Rattle.php_spellings.specs.declared.table.Kind.TheVariants.{
  Space,
  Comment,
  Tag,
  OpenEcho,
  InlineHtml,
  Variable,
  Word,
  Label,
  Keyword,
  Name,
  Decimal,
  Octal,
  Hexadecimal,
  Binary,
  Digits,
  Float,
  Text,
  Quote,
  Backtick,
  HeredocStart,
  Cast,
  Op,
  AttributeOpen,
  Semi,
  Close,
  Piece,
  CurlyOpen,
  DollarBrace,
  VarName,
  QuotedEnd,
}
use Rattle.php_relexing.specs.Tiles.{Tile, tile}
use Rattle.written_tokens.specs.tiles.ContinuesAs.{stops_cast, is_trivia, begins_token, is_mark}

abbrev pub is_space_kind : Kind → Bool
is_space_kind Space = true
is_space_kind _ = false

abbrev pub is_word_kind : Kind → Bool
is_word_kind Word = true
is_word_kind _ = false

abbrev pub is_close_kind : Kind → Bool
is_close_kind Close = true
is_close_kind _ = false

-- white space, a word, words of the tables, or what stops a cast
pub data Stand : Kind → Type 0 where
  space : Stand Space
  word : Stand Word
  keyword : Stand Keyword
  other : {kind : Kind} → stops_cast kind ≡ true → is_space_kind kind ≡ false → is_word_kind kind ≡ false → Stand kind

pub stand : (kind : Kind) → Stand kind
stand Space = space
stand Comment = other refl refl refl
stand Tag = other refl refl refl
stand OpenEcho = other refl refl refl
stand InlineHtml = other refl refl refl
stand Variable = other refl refl refl
stand Word = word
stand Label = other refl refl refl
stand Keyword = keyword
stand Name = other refl refl refl
stand Decimal = other refl refl refl
stand Octal = other refl refl refl
stand Hexadecimal = other refl refl refl
stand Binary = other refl refl refl
stand Digits = other refl refl refl
stand Float = other refl refl refl
stand Text = other refl refl refl
stand Quote = other refl refl refl
stand Backtick = other refl refl refl
stand HeredocStart = other refl refl refl
stand Cast = other refl refl refl
stand Op = other refl refl refl
stand AttributeOpen = other refl refl refl
stand Semi = other refl refl refl
stand Close = other refl refl refl
stand Piece = other refl refl refl
stand CurlyOpen = other refl refl refl
stand DollarBrace = other refl refl refl
stand VarName = other refl refl refl
stand QuotedEnd = other refl refl refl

-- a kind that edits put in
pub mark_kind : (P : Kind → Type 0) → P Cast → P Op → (kind : Kind) → is_mark kind ≡ true → P kind
mark_kind P p q Space h = absurd cc
mark_kind P p q Comment h = absurd cc
mark_kind P p q Tag h = absurd cc
mark_kind P p q OpenEcho h = absurd cc
mark_kind P p q InlineHtml h = absurd cc
mark_kind P p q Variable h = absurd cc
mark_kind P p q Word h = absurd cc
mark_kind P p q Label h = absurd cc
mark_kind P p q Keyword h = absurd cc
mark_kind P p q Name h = absurd cc
mark_kind P p q Decimal h = absurd cc
mark_kind P p q Octal h = absurd cc
mark_kind P p q Hexadecimal h = absurd cc
mark_kind P p q Binary h = absurd cc
mark_kind P p q Digits h = absurd cc
mark_kind P p q Float h = absurd cc
mark_kind P p q Text h = absurd cc
mark_kind P p q Quote h = absurd cc
mark_kind P p q Backtick h = absurd cc
mark_kind P p q HeredocStart h = absurd cc
mark_kind P p q Cast h = p
mark_kind P p q Op h = q
mark_kind P p q AttributeOpen h = absurd cc
mark_kind P p q Semi h = absurd cc
mark_kind P p q Close h = absurd cc
mark_kind P p q Piece h = absurd cc
mark_kind P p q CurlyOpen h = absurd cc
mark_kind P p q DollarBrace h = absurd cc
mark_kind P p q VarName h = absurd cc
mark_kind P p q QuotedEnd h = absurd cc

-- a kind of tokens but `?>`
abbrev pub is_token_kind : Kind → Bool
is_token_kind kind = not (is_close_kind kind) && not (is_trivia kind)

pub begins_is : (kind : Kind) (b : ℕ) (a : List ℕ) (ts : List Tile) → begins_token (tile kind b a ∷ ts) ≡ is_token_kind kind
begins_is Space b a ts = refl
begins_is Comment b a ts = refl
begins_is Tag b a ts = refl
begins_is OpenEcho b a ts = refl
begins_is InlineHtml b a ts = refl
begins_is Variable b a ts = refl
begins_is Word b a ts = refl
begins_is Label b a ts = refl
begins_is Keyword b a ts = refl
begins_is Name b a ts = refl
begins_is Decimal b a ts = refl
begins_is Octal b a ts = refl
begins_is Hexadecimal b a ts = refl
begins_is Binary b a ts = refl
begins_is Digits b a ts = refl
begins_is Float b a ts = refl
begins_is Text b a ts = refl
begins_is Quote b a ts = refl
begins_is Backtick b a ts = refl
begins_is HeredocStart b a ts = refl
begins_is Cast b a ts = refl
begins_is Op b a ts = refl
begins_is AttributeOpen b a ts = refl
begins_is Semi b a ts = refl
begins_is Close b a ts = refl
begins_is Piece b a ts = refl
begins_is CurlyOpen b a ts = refl
begins_is DollarBrace b a ts = refl
begins_is VarName b a ts = refl
begins_is QuotedEnd b a ts = refl

-- a kind of trivia
pub trivia_kind : (P : Kind → Type 0) → P Space → P Comment → P Tag → (kind : Kind) → is_trivia kind ≡ true → P kind
trivia_kind P p q r Space h = p
trivia_kind P p q r Comment h = q
trivia_kind P p q r Tag h = r
trivia_kind P p q r OpenEcho h = absurd cc
trivia_kind P p q r InlineHtml h = absurd cc
trivia_kind P p q r Variable h = absurd cc
trivia_kind P p q r Word h = absurd cc
trivia_kind P p q r Label h = absurd cc
trivia_kind P p q r Keyword h = absurd cc
trivia_kind P p q r Name h = absurd cc
trivia_kind P p q r Decimal h = absurd cc
trivia_kind P p q r Octal h = absurd cc
trivia_kind P p q r Hexadecimal h = absurd cc
trivia_kind P p q r Binary h = absurd cc
trivia_kind P p q r Digits h = absurd cc
trivia_kind P p q r Float h = absurd cc
trivia_kind P p q r Text h = absurd cc
trivia_kind P p q r Quote h = absurd cc
trivia_kind P p q r Backtick h = absurd cc
trivia_kind P p q r HeredocStart h = absurd cc
trivia_kind P p q r Cast h = absurd cc
trivia_kind P p q r Op h = absurd cc
trivia_kind P p q r AttributeOpen h = absurd cc
trivia_kind P p q r Semi h = absurd cc
trivia_kind P p q r Close h = absurd cc
trivia_kind P p q r Piece h = absurd cc
trivia_kind P p q r CurlyOpen h = absurd cc
trivia_kind P p q r DollarBrace h = absurd cc
trivia_kind P p q r VarName h = absurd cc
trivia_kind P p q r QuotedEnd h = absurd cc
