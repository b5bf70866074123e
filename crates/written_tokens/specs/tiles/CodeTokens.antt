-- Tokens and trivia of code and of inline HTML that stay as they are.
use Rattle.std.specs.Prelude.{◌≡◌, ℕ, Bool, true, false, not, ◌||◌, nat_eq, List, [], ◌∷◌}
use Rattle.php_spellings.specs.declared.table.Kind.{Kind}
use Rattle.php_spellings.specs.declared.table.Kind.TheVariants.{
  Space,
  Comment,
  Tag,
  OpenEcho,
  InlineHtml,
  Variable,
  Word,
  Label,
  Keyword,
  Name,
  Decimal,
  Octal,
  Hexadecimal,
  Binary,
  Digits,
  Float,
  Text,
  Quote,
  Backtick,
  HeredocStart,
  Cast,
  Op,
  AttributeOpen,
  Semi,
  Close,
  Piece,
  CurlyOpen,
  DollarBrace,
  VarName,
  QuotedEnd,
}
use Rattle.php_lexer.specs.Modes.{Mode, html, code}
use Rattle.php_relexing.specs.Tiles.{tile}
use Rattle.written_tokens.specs.tokens.Stays.{in_quotes}
use Rattle.written_tokens.specs.tiles.ContinuesAs.{stops_cast}
use Rattle.written_tokens.specs.tiles.IsRewrittenTo.{IsRewrittenTo}

-- whether a tile of code is neither a brace nor a nowdoc nor opens a quoted text
abbrev pub is_plain : Kind → ℕ → List ℕ → Bool
is_plain Space b a = true
is_plain Comment b a = true
is_plain Tag b a = true
is_plain OpenEcho b a = true
is_plain InlineHtml b a = true
is_plain Variable b a = true
is_plain Word b a = true
is_plain Label b a = true
is_plain Keyword b a = true
is_plain Name b a = true
is_plain Decimal b a = true
is_plain Octal b a = true
is_plain Hexadecimal b a = true
is_plain Binary b a = true
is_plain Digits b a = true
is_plain Float b a = true
is_plain Text b a = in_quotes b a
is_plain Quote b a = false
is_plain Backtick b a = false
is_plain HeredocStart b a = false
is_plain Cast b a = true
is_plain Op b a = not (nat_eq b 123 || nat_eq b 125)
is_plain AttributeOpen b a = true
is_plain Semi b a = true
is_plain Close b a = true
is_plain Piece b a = true
is_plain CurlyOpen b a = true
is_plain DollarBrace b a = true
is_plain VarName b a = true
is_plain QuotedEnd b a = true

-- whether it is `(`
abbrev pub is_opening : Kind → ℕ → Bool
is_opening Op b = nat_eq b 40
is_opening _ b = false

-- the mode behind it: `?>` leaves code
abbrev pub mode_behind : Kind → Mode
mode_behind Close = html
mode_behind _ = code

-- Such a tile stays as it is; `(` needs what follows it to be tight.
abbrev pub CodeTokensBecome : Type 0
CodeTokensBecome =
    (kind : Kind) (b : ℕ) (a : List ℕ) →
    is_plain kind b a ≡ true →
    IsRewrittenTo (is_opening kind b) (stops_cast kind) code (mode_behind kind) (tile kind b a ∷ []) (tile kind b a ∷ [])

-- the mode behind a tile of inline HTML: a tag opens code
abbrev pub mode_opened : Kind → Mode
mode_opened InlineHtml = html
mode_opened _ = code

-- Each tile of inline HTML stays as it is.
abbrev pub HtmlTokensBecome : Type 0
HtmlTokensBecome =
    (kind : Kind) (b : ℕ) (a : List ℕ) →
    IsRewrittenTo false (stops_cast kind) html (mode_opened kind) (tile kind b a ∷ []) (tile kind b a ∷ [])
