-- Which tiles tokens of a kind have, and which of them stand in code or in inline HTML.
use Rattle.std.proofs.Common.{◌≡◌, ℕ, suc, Bool, true, false, cond, ◌||◌, nat_eq, nat_le, List, [], ◌∷◌, ◌++◌, length, drop, Some, refl, sym, ap, ◌∙◌, subst}
use Rattle.std.proofs.lemmas.Bool.{eqb-true}
use Rattle.php_tree.specs.declared.version.Version.TheVariants.{V74}
use Rattle.php_tree.specs.declared.token.TokenKind.{TokenKind}
use Rattle.php_tree.specs.declared.token.TokenKind.TheVariants as token
use Rattle.php_spellings.specs.declared.table.Kind.{Kind}
use Rattle.php_spellings.specs.declared.table.Kind.TheVariants.{
  Space,
  Comment,
  Tag,
  OpenEcho,
  InlineHtml,
  Variable,
  Word,
  Label,
  Keyword,
  Name,
  Decimal,
  Octal,
  Hexadecimal,
  Binary,
  Digits,
  Float,
  Text,
  Quote,
  Backtick,
  HeredocStart,
  Cast,
  Op,
  AttributeOpen,
  Semi,
  Close,
  Piece,
  CurlyOpen,
  DollarBrace,
  VarName,
  QuotedEnd,
}
use Rattle.php_spellings.specs.Words.{is_keyword, greatest_int, value_from, whole_number, token_of}
use Rattle.php_lexer.specs.Modes.{html, code, is_byte, IsLongest}
use Rattle.php_relexing.proofs.Picked.{longest_meets}
use Rattle.written_tokens.specs.tiles.ContinuesAs.{is_trivia}
use Rattle.rewritten_shapes.specs.paired.Tokens.{is_op, is_edge}
use Rattle.written_reading.proofs.edited.TileFacts.{mode_of}

-- a token kind that a tile of the kind has
abbrev pub token_like : Kind → TokenKind
token_like OpenEcho = token.OpenEcho
token_like InlineHtml = token.InlineHtml
token_like Variable = token.Variable
token_like Word = token.Label
token_like Label = token.Label
token_like Keyword = token.Keyword
token_like Name = token.Name
token_like Decimal = token.Float
token_like Octal = token.Float
token_like Hexadecimal = token.Float
token_like Binary = token.Float
token_like Digits = token.Int
token_like Float = token.Float
token_like Text = token.Text
token_like Quote = token.Quote
token_like Backtick = token.Backtick
token_like HeredocStart = token.HeredocStart
token_like Cast = token.Cast
token_like Op = token.Op
token_like AttributeOpen = token.AttributeOpen
token_like Semi = token.Semi
token_like Close = token.Close
token_like Piece = token.Piece
token_like CurlyOpen = token.CurlyOpen
token_like DollarBrace = token.DollarBrace
token_like VarName = token.VarName
token_like QuotedEnd = token.QuotedEnd
token_like _ = token.End

pub some_same : (k j : TokenKind) → Some k ≡ Some j → j ≡ k
some_same k j e = cc

one_of : (p : TokenKind → Bool) (b : Bool) (x y : TokenKind) → p x ≡ p y → p (cond b x y) ≡ p y
one_of p true x y h = h
one_of p false x y h = refl

number_of : (p : TokenKind → Bool) (base : ℕ) (digits : List ℕ) → p token.Int ≡ p token.Float → p (whole_number base digits) ≡ p token.Float
number_of p base digits n = one_of p (nat_le (value_from base 0 digits) greatest_int) token.Int token.Float n

abbrev is_cast_kind : TokenKind → Bool
is_cast_kind token.Cast = true
is_cast_kind _ = false

abbrev is_variable_kind : TokenKind → Bool
is_variable_kind token.Variable = true
is_variable_kind _ = false

-- What is true of keywords and labels alike, and of both kinds of numbers, is told by the tile.
pub told : (p : TokenKind → Bool) → p token.Keyword ≡ p token.Label → p token.Int ≡ p token.Float
    → (kind : Kind) (text : List ℕ) (k : TokenKind) → token_of kind text ≡ Some k → p k ≡ p (token_like kind)
told p w n Space text k e = absurd cc
told p w n Comment text k e = absurd cc
told p w n Tag text k e = absurd cc
told p w n Word text k e = ap p (some_same (cond (is_keyword text) token.Keyword token.Label) k e) ∙ one_of p (is_keyword text) token.Keyword token.Label w
told p w n Decimal text k e = ap p (some_same (whole_number 10 text) k e) ∙ number_of p 10 text n
told p w n Octal text k e = ap p (some_same (whole_number 8 text) k e) ∙ number_of p 8 text n
told p w n Hexadecimal text k e = ap p (some_same (whole_number 16 (drop 2 text)) k e) ∙ number_of p 16 (drop 2 text) n
told p w n Binary text k e = ap p (some_same (whole_number 2 (drop 2 text)) k e) ∙ number_of p 2 (drop 2 text) n
told p w n kind text k e = ap p (some_same (token_like kind) k e)

-- ---- trivia, operators and edges

pub token_is_no_trivia : (kind : Kind) (text : List ℕ) (k : TokenKind) → token_of kind text ≡ Some k → is_trivia kind ≡ false
token_is_no_trivia Space text k e = absurd cc
token_is_no_trivia Comment text k e = absurd cc
token_is_no_trivia Tag text k e = absurd cc
token_is_no_trivia kind text k e = refl

like_op : (kind : Kind) → is_op (token_like kind) ≡ true → kind ≡ Op
like_op Op h = refl
like_op kind h = absurd cc

like_cast : (kind : Kind) → is_cast_kind (token_like kind) ≡ true → kind ≡ Cast
like_cast Cast h = refl
like_cast kind h = absurd cc

like_variable : (kind : Kind) → is_variable_kind (token_like kind) ≡ true → kind ≡ Variable
like_variable Variable h = refl
like_variable kind h = absurd cc

-- an operator's tile
pub op_tile : (kind : Kind) (text : List ℕ) (k : TokenKind) → k ≡ token.Op → token_of kind text ≡ Some k → kind ≡ Op
op_tile kind text k h e = like_op kind (sym (told is_op refl refl kind text k e) ∙ ap is_op h)

pub cast_tile : (kind : Kind) (text : List ℕ) (k : TokenKind) → k ≡ token.Cast → token_of kind text ≡ Some k → kind ≡ Cast
cast_tile kind text k h e = like_cast kind (sym (told is_cast_kind refl refl kind text k e) ∙ ap is_cast_kind h)

pub variable_tile : (kind : Kind) (text : List ℕ) (k : TokenKind) → k ≡ token.Variable → token_of kind text ≡ Some k → kind ≡ Variable
variable_tile kind text k h e = like_variable kind (sym (told is_variable_kind refl refl kind text k e) ∙ ap is_variable_kind h)

-- whether a tile stands in no inline HTML
abbrev pub is_inside : Kind → Bool
is_inside OpenEcho = false
is_inside InlineHtml = false
is_inside Tag = false
is_inside _ = true

inside_like : (kind : Kind) → is_trivia kind ≡ false → is_edge (token_like kind) ≡ false → is_inside kind ≡ true
inside_like OpenEcho p q = absurd cc
inside_like InlineHtml p q = absurd cc
inside_like Tag p q = absurd cc
inside_like kind p q = refl

pub no_html : (kind : Kind) (t r : List ℕ) → is_inside kind ≡ true → IsLongest V74 html (t ++ r) kind (length t) → ⊥
no_html kind t r p h = let e = longest_meets is_inside V74 html t r kind p h in cc

-- a token that isn't at an edge of code stands in code
pub in_code : (h : Bool) (kind : Kind) (b : ℕ) (a r : List ℕ) (k : TokenKind) → token_of kind (b ∷ a) ≡ Some k
    → is_edge k ≡ false → IsLongest V74 (mode_of h) (b ∷ a ++ r) kind (suc (length a)) → h ≡ false
in_code false kind b a r k e p l = refl
in_code true kind b a r k e p l =
    absurd (no_html kind (b ∷ a) r (inside_like kind (token_is_no_trivia kind (b ∷ a) k e) (sym (told is_edge refl refl kind (b ∷ a) k e) ∙ p)) l)

-- ---- operators of one byte

abbrev is_op_tile : Kind → Bool
is_op_tile Op = true
is_op_tile _ = false

abbrev pub is_marked : List ℕ → Bool
is_marked text = is_byte 40 text || (is_byte 41 text || (is_byte 123 text || is_byte 125 text))

abbrev is_one_of : ℕ → Bool
is_one_of b = nat_eq b 40 || (nat_eq b 41 || (nat_eq b 123 || nat_eq b 125))

no_long : (n x : ℕ) (a r : List ℕ) (b : ℕ) → nat_eq b n ≡ true
    → (IsLongest V74 code (n ∷ (x ∷ a) ++ r) Op (suc (suc (length a))) → ⊥)
    → IsLongest V74 code (b ∷ (x ∷ a) ++ r) Op (suc (suc (length a))) → ⊥
no_long n x a r b h f l = f (subst (λ (y : ℕ). IsLongest V74 code (y ∷ (x ∷ a) ++ r) Op (suc (suc (length a)))) (eqb-true b n h) l)

long_round : (x : ℕ) (a r : List ℕ) → IsLongest V74 code (40 ∷ (x ∷ a) ++ r) Op (suc (suc (length a))) → ⊥
long_round x a r l = let e = longest_meets is_op_tile V74 code (40 ∷ x ∷ a) r Op refl l in cc

long_shut : (x : ℕ) (a r : List ℕ) → IsLongest V74 code (41 ∷ (x ∷ a) ++ r) Op (suc (suc (length a))) → ⊥
long_shut x a r l = let e = longest_meets is_op_tile V74 code (41 ∷ x ∷ a) r Op refl l in cc

long_brace : (x : ℕ) (a r : List ℕ) → IsLongest V74 code (123 ∷ (x ∷ a) ++ r) Op (suc (suc (length a))) → ⊥
long_brace x a r l = let e = longest_meets is_op_tile V74 code (123 ∷ x ∷ a) r Op refl l in cc

long_end : (x : ℕ) (a r : List ℕ) → IsLongest V74 code (125 ∷ (x ∷ a) ++ r) Op (suc (suc (length a))) → ⊥
long_end x a r l = let e = longest_meets is_op_tile V74 code (125 ∷ x ∷ a) r Op refl l in cc

by_byte : (b x : ℕ) (a r : List ℕ) (p q s t : Bool) → nat_eq b 40 ≡ p → nat_eq b 41 ≡ q → nat_eq b 123 ≡ s
    → nat_eq b 125 ≡ t → IsLongest V74 code (b ∷ (x ∷ a) ++ r) Op (suc (suc (length a))) → is_one_of b ≡ false
by_byte b x a r true q s t e f g h l = absurd (no_long 40 x a r b e (long_round x a r) l)
by_byte b x a r false true s t e f g h l = absurd (no_long 41 x a r b f (long_shut x a r) l)
by_byte b x a r false false true t e f g h l = absurd (no_long 123 x a r b g (long_brace x a r) l)
by_byte b x a r false false false true e f g h l = absurd (no_long 125 x a r b h (long_end x a r) l)
by_byte b x a r false false false false e f g h l = rw (e, f, g, h) refl

-- an operator that is none of these brackets begins with none of them
pub no_mark : (b : ℕ) (a r : List ℕ) → is_marked (b ∷ a) ≡ false → IsLongest V74 code (b ∷ a ++ r) Op (suc (length a)) → is_one_of b ≡ false
no_mark b [] r h l = h
no_mark b (x ∷ a) r h l = by_byte b x a r (nat_eq b 40) (nat_eq b 41) (nat_eq b 123) (nat_eq b 125) refl refl refl refl l
