-- Each token and trivia of code before other bytes.
use Rattle.std.specs.Prelude.{◌≡◌, ℕ, suc, Bool, true, false, cond, not, ◌&&◌, ◌||◌, nat_eq, List, [], ◌∷◌, ◌++◌, length, drop}
use Rattle.php_tree.specs.declared.version.Version.TheVariants.{V74}
use Rattle.php_spellings.specs.declared.table.Kind.{Kind}
use Rattle.php_spellings.specs.declared.table.Kind.TheVariants.{
  Space,
  Comment,
  Tag,
  OpenEcho,
  InlineHtml,
  Variable,
  Word,
  Label,
  Keyword,
  Name,
  Decimal,
  Octal,
  Hexadecimal,
  Binary,
  Digits,
  Float,
  Text,
  Quote,
  Backtick,
  HeredocStart,
  Cast,
  Op,
  AttributeOpen,
  Semi,
  Close,
  Piece,
  CurlyOpen,
  DollarBrace,
  VarName,
  QuotedEnd,
}
use Rattle.php_spellings.specs.Bytes.{is_space, is_label_byte, is_empty, lower, begins, begins_by}
use Rattle.php_lexer.specs.Modes.{code, IsLongest}
use Rattle.php_relexing.specs.Alike.{Alike, is_tight}
use Rattle.php_relexing.specs.Angles.{is_text, slash_ends, less_ends, close_ends}
use Rattle.php_relexing.specs.Closed.{is_quote}
use Rattle.php_relexing.specs.Comments.{stops_line}
use Rattle.php_relexing.specs.HeredocEnds.{ends_feed}
use Rattle.php_relexing.specs.Pieces.{part_begins}
use Rattle.php_relexing.specs.Words.{begins_from, begins_cast}

-- A token or trivia is `b` and the text; the bytes behind it were r and are s.

-- a comment between `/*` and `*/`, or the end of a line
abbrev pub comment_stays : ℕ → List ℕ → List ℕ → Bool
comment_stays b a s = nat_eq b 47 && begins_by 42 a || stops_line s

-- no label goes on, nor `yield` with `from`; a word with `b` begins no text
abbrev pub word_stays : ℕ → List ℕ → List ℕ → List ℕ → Bool
word_stays b a r s =
    cond (nat_eq (lower b) 98) (is_tight b (a ++ r) && is_tight b (a ++ s))
    (not (begins is_label_byte s) && not (begins_from s))

-- a text in quotes, maybe with `b` in front
abbrev pub in_quotes : ℕ → List ℕ → Bool
in_quotes b a = is_quote b || nat_eq (lower b) 98 && begins is_quote a

-- `"` or `b"`, before a variable or `{$`
abbrev pub quote_stays : ℕ → List ℕ → List ℕ → Bool
quote_stays b a s = (nat_eq b 34 && is_empty a || nat_eq (lower b) 98 && is_text (34 ∷ []) a) && part_begins s

-- the first line of a heredoc without `b`, whose line end doesn't go on
abbrev pub heredoc_stays : ℕ → List ℕ → List ℕ → Bool
heredoc_stays b a s =
    (nat_eq b 60 && (begins_by 60 a && begins_by 60 (drop 1 a)))
    && not (not (ends_feed false (drop 2 a)) && begins_by 10 s)

-- no cast begins at `(`, no comment at `/`, and no operator goes on with `<` and `?`
abbrev pub operator_stays : ℕ → List ℕ → List ℕ → Bool
operator_stays b a s =
    cond (nat_eq b 40) (not (begins_cast s))
    (cond (nat_eq b 47) (slash_ends a s)
    (cond (nat_eq b 60) (less_ends a s)
    (not (nat_eq b 63 && (is_empty a && begins_by 62 s)))))

-- whether a token or trivia of code may stand before other bytes, where these go on alike; nowdocs and what stands in no
-- code of 7.4 are left out
abbrev pub stays_before : Kind → ℕ → List ℕ → List ℕ → List ℕ → Bool
stays_before Space b a r s = not (begins is_space s)
stays_before Comment b a r s = comment_stays b a s
stays_before Tag b a r s = false
stays_before OpenEcho b a r s = false
stays_before InlineHtml b a r s = false
stays_before Variable b a r s = true
stays_before Word b a r s = word_stays b a r s
stays_before Label b a r s = false
stays_before Keyword b a r s = not (begins is_label_byte s)
stays_before Name b a r s = false
stays_before Decimal b a r s = true
stays_before Octal b a r s = true
stays_before Hexadecimal b a r s = true
stays_before Binary b a r s = true
stays_before Digits b a r s = false
stays_before Float b a r s = true
stays_before Text b a r s = in_quotes b a
stays_before Quote b a r s = quote_stays b a s
stays_before Backtick b a r s = true
stays_before HeredocStart b a r s = heredoc_stays b a s
stays_before Cast b a r s = true
stays_before Op b a r s = operator_stays b a s
stays_before AttributeOpen b a r s = false
stays_before Semi b a r s = true
stays_before Close b a r s = close_ends (drop 1 a) s
stays_before Piece b a r s = false
stays_before CurlyOpen b a r s = false
stays_before DollarBrace b a r s = false
stays_before VarName b a r s = false
stays_before QuotedEnd b a r s = false

-- Each token and trivia of code that may stand before the bytes stays so.
abbrev pub CodeStays : Type 0
CodeStays =
    (kind : Kind) (b : ℕ) (a r s : List ℕ) →
    Alike r s →
    stays_before kind b a r s ≡ true →
    IsLongest V74 code (b ∷ a ++ r) kind (suc (length a)) →
    IsLongest V74 code (b ∷ a ++ s) kind (suc (length a))
