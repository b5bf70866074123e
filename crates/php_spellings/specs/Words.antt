-- The keywords, the operators, and the values of whole numbers.
use Rattle.std.specs.Prelude.{ℕ, ◌+◌, ◌-◌, ◌*◌, Bool, false, cond, ◌&&◌, ◌||◌, nat_eq, nat_le, List, [], ◌∷◌, Option, Some, None, drop, codes}
use Rattle.php_tree.specs.declared.token.TokenKind.{TokenKind}
use Rattle.php_tree.specs.declared.token.TokenKind.TheVariants as token
use Rattle.php_spellings.specs.declared.table.Kind.{Kind}
use Rattle.php_spellings.specs.declared.table.Kind.TheVariants.{
  Space,
  Comment,
  Tag,
  OpenEcho,
  InlineHtml,
  Variable,
  Word,
  Label,
  Keyword,
  Name,
  Decimal,
  Octal,
  Hexadecimal,
  Binary,
  Digits,
  Float,
  Text,
  Quote,
  Backtick,
  HeredocStart,
  Cast,
  Op,
  AttributeOpen,
  Semi,
  Close,
  Piece,
  CurlyOpen,
  DollarBrace,
  VarName,
  QuotedEnd,
}
use Rattle.php_spellings.specs.Bytes.{lower, is_digit, is_empty}

-- the keywords of PHP 7.4 (PHP manual, "List of Keywords")
abbrev pub keywords : List (List ℕ)
keywords =
    codes "__halt_compiler" ∷ codes "abstract" ∷ codes "and" ∷ codes "array" ∷ codes "as" ∷ codes "break"
    ∷ codes "callable" ∷ codes "case" ∷ codes "catch" ∷ codes "class" ∷ codes "clone" ∷ codes "const"
    ∷ codes "continue" ∷ codes "declare" ∷ codes "default" ∷ codes "die" ∷ codes "do" ∷ codes "echo" ∷ codes "else"
    ∷ codes "elseif" ∷ codes "empty" ∷ codes "enddeclare" ∷ codes "endfor" ∷ codes "endforeach" ∷ codes "endif"
    ∷ codes "endswitch" ∷ codes "endwhile" ∷ codes "eval" ∷ codes "exit" ∷ codes "extends" ∷ codes "final"
    ∷ codes "finally" ∷ codes "fn" ∷ codes "for" ∷ codes "foreach" ∷ codes "function" ∷ codes "global" ∷ codes "goto"
    ∷ codes "if" ∷ codes "implements" ∷ codes "include" ∷ codes "include_once" ∷ codes "instanceof"
    ∷ codes "insteadof" ∷ codes "interface" ∷ codes "isset" ∷ codes "list" ∷ codes "namespace" ∷ codes "new"
    ∷ codes "or" ∷ codes "print" ∷ codes "private" ∷ codes "protected" ∷ codes "public" ∷ codes "require"
    ∷ codes "require_once" ∷ codes "return" ∷ codes "static" ∷ codes "switch" ∷ codes "throw" ∷ codes "trait"
    ∷ codes "try" ∷ codes "unset" ∷ codes "use" ∷ codes "var" ∷ codes "while" ∷ codes "xor" ∷ codes "yield" ∷ []

-- the operators and brackets that need no look at what follows (PHP manual, "List of Parser Tokens", without the words)
abbrev pub operators : List (List ℕ)
operators =
    codes "(" ∷ codes ")" ∷ codes "[" ∷ codes "]" ∷ codes "{" ∷ codes "}" ∷ codes "," ∷ codes "@" ∷ codes "$"
    ∷ codes "\\" ∷ codes "~" ∷ codes ":" ∷ codes "::" ∷ codes "?" ∷ codes "??" ∷ codes "??=" ∷ codes "." ∷ codes ".="
    ∷ codes "..." ∷ codes "!" ∷ codes "!=" ∷ codes "!==" ∷ codes "=" ∷ codes "==" ∷ codes "===" ∷ codes "=>"
    ∷ codes "<=" ∷ codes "<=>" ∷ codes "<>" ∷ codes "<<=" ∷ codes ">" ∷ codes ">=" ∷ codes ">>" ∷ codes ">>="
    ∷ codes "+" ∷ codes "++" ∷ codes "+=" ∷ codes "-" ∷ codes "--" ∷ codes "-=" ∷ codes "->" ∷ codes "*" ∷ codes "**"
    ∷ codes "*=" ∷ codes "**=" ∷ codes "/=" ∷ codes "%" ∷ codes "%=" ∷ codes "&" ∷ codes "&&" ∷ codes "&="
    ∷ codes "|" ∷ codes "||" ∷ codes "|=" ∷ codes "^" ∷ codes "^=" ∷ []

-- the words that begin with a letter
abbrev pub words_by : ℕ → List (List ℕ) → List (List ℕ)
words_by letter [] = []
words_by letter ([] ∷ ws) = words_by letter ws
words_by letter ((a ∷ w) ∷ ws) = cond (nat_eq a letter) ((a ∷ w) ∷ words_by letter ws) (words_by letter ws)

-- whether the text is this word, without ASCII case
abbrev pub is_word : List ℕ → List ℕ → Bool
is_word [] text = is_empty text
is_word (a ∷ w) [] = false
is_word (a ∷ w) (b ∷ bs) = nat_eq a (lower b) && is_word w bs

abbrev pub is_word_of : List (List ℕ) → List ℕ → Bool
is_word_of [] text = false
is_word_of (w ∷ ws) text = is_word w text || is_word_of ws text

abbrev pub is_keyword : List ℕ → Bool
is_keyword text = is_word_of keywords text

-- ---- whole numbers

-- the value of a digit of any base to 16
abbrev pub digit_value : ℕ → ℕ
digit_value b = cond (is_digit b) (b - 48) (lower b - 87)

-- a value with one more digit behind it; `_` is none
abbrev pub value_step : ℕ → ℕ → ℕ → ℕ
value_step base value b = cond (nat_eq b 95) value (value * base + digit_value b)

-- the value of digits behind a value
abbrev pub value_from : ℕ → ℕ → List ℕ → ℕ
value_from base value [] = value
value_from base value (b ∷ bs) = value_from base (value_step base value b) bs

-- the greatest Int
abbrev pub greatest_int : ℕ
greatest_int = 9223372036854775807

-- a whole number is an Int up to the greatest, and a Float past it (PHP manual, "Integer overflow")
abbrev pub whole_number : ℕ → List ℕ → TokenKind
whole_number base digits = cond (nat_le (value_from base 0 digits) greatest_int) token.Int token.Float

-- ---- the kind of a token whose text a row describes; none of trivia

abbrev pub token_of : Kind → List ℕ → Option TokenKind
token_of Space text = None
token_of Comment text = None
token_of Tag text = None
token_of OpenEcho text = Some token.OpenEcho
token_of InlineHtml text = Some token.InlineHtml
token_of Variable text = Some token.Variable
token_of Word text = Some (cond (is_keyword text) token.Keyword token.Label)
token_of Label text = Some token.Label
token_of Keyword text = Some token.Keyword
token_of Name text = Some token.Name
token_of Decimal text = Some (whole_number 10 text)
token_of Octal text = Some (whole_number 8 text)
token_of Hexadecimal text = Some (whole_number 16 (drop 2 text))
token_of Binary text = Some (whole_number 2 (drop 2 text))
token_of Digits text = Some token.Int
token_of Float text = Some token.Float
token_of Text text = Some token.Text
token_of Quote text = Some token.Quote
token_of Backtick text = Some token.Backtick
token_of HeredocStart text = Some token.HeredocStart
token_of Cast text = Some token.Cast
token_of Op text = Some token.Op
token_of AttributeOpen text = Some token.AttributeOpen
token_of Semi text = Some token.Semi
token_of Close text = Some token.Close
token_of Piece text = Some token.Piece
token_of CurlyOpen text = Some token.CurlyOpen
token_of DollarBrace text = Some token.DollarBrace
token_of VarName text = Some token.VarName
token_of QuotedEnd text = Some token.QuotedEnd
