-- The rows of code and of inline HTML.
use Rattle.std.specs.Prelude.{List, [], ◌∷◌, ◌++◌, map, codes}
use Rattle.php_tree.specs.declared.version.Version.{Version}
use Rattle.php_tree.specs.declared.version.Version.TheVariants.{V74, V83}
use Rattle.php_spellings.specs.declared.table.Kind.TheVariants.{
  Space,
  Comment,
  Tag,
  OpenEcho,
  InlineHtml,
  Variable,
  Word,
  Keyword,
  Name,
  Decimal,
  Octal,
  Hexadecimal,
  Binary,
  Float,
  Text,
  Quote,
  Backtick,
  HeredocStart,
  Cast,
  Op,
  AttributeOpen,
  Semi,
  Close,
}
use Rattle.php_spellings.specs.declared.table.State.TheVariants.{First}
use Rattle.php_spellings.specs.declared.table.Run.TheVariants.{Spaces, Labels, Line, HashLine, Html}
use Rattle.php_spellings.specs.declared.table.Until.TheVariants.{Simple, Closed, Block, CastWord, From}
use Rattle.php_spellings.specs.declared.table.Shape.TheVariants as shape
use Rattle.php_spellings.specs.declared.table.Spot.TheVariants.{Begin, Whole}
use Rattle.php_spellings.specs.declared.table.Follow.TheVariants.{Anything, Nothing, NoStar, NoNowdocAfterOne, NoNowdocAfterTwo}
use Rattle.php_spellings.specs.declared.table.Tail.TheVariants.{When, AnyRun, SomeOf, UpTo, Shaped, AnyWord, NowdocRest}
use Rattle.php_spellings.specs.Words.{operators}
use Rattle.php_lexer.specs.Rules.{Row, rule}

-- ---- code

-- white space and comments
abbrev pub trivia_rows : List Row
trivia_rows =
    rule Space [] (SomeOf Spaces First)
    ∷ rule Comment (codes "/*") (UpTo Block)
    ∷ rule Comment (codes "//") (AnyRun Line)
    ∷ []

-- variables and words; between `yield` and `from` is white space alone
abbrev pub word_rows : List Row
word_rows =
    rule Variable (codes "$") (SomeOf Labels First)
    ∷ rule Keyword (codes "yield") (UpTo From)
    ∷ rule Word [] AnyWord
    ∷ []

-- numbers: decimal, with a leading 0 octal, hexadecimal, binary, and with a point or an exponent
abbrev pub number_rows : List Row
number_rows =
    rule Decimal [] (Shaped shape.Decimal Begin)
    ∷ rule Octal (codes "0") (Shaped shape.Octal Whole)
    ∷ rule Hexadecimal (codes "0x") (Shaped shape.Hexadecimal Begin)
    ∷ rule Binary (codes "0b") (Shaped shape.Binary Begin)
    ∷ rule Float [] (Shaped shape.Float Begin)
    ∷ []

-- Texts, and the tokens that open a quoted text. A text in double quotes that has a variable is no Text, so its `"` is
-- the longest token there.
abbrev pub text_rows : List Row
text_rows =
    rule Text (codes "'") (UpTo Simple)
    ∷ rule Text (codes "b'") (UpTo Simple)
    ∷ rule Text (codes "\"") (UpTo Closed)
    ∷ rule Text (codes "b\"") (UpTo Closed)
    ∷ rule Text (codes "<<<") NowdocRest
    ∷ rule Text (codes "b<<<") NowdocRest
    ∷ rule Quote (codes "\"") (When Anything)
    ∷ rule Quote (codes "b\"") (When Anything)
    ∷ rule Backtick (codes "`") (When Anything)
    ∷ rule HeredocStart (codes "<<<") (Shaped shape.HeredocLine Begin)
    ∷ rule HeredocStart (codes "b<<<") (Shaped shape.HeredocLine Begin)
    ∷ []

-- casts, `;`, and `?>` with the line end that belongs to it
abbrev pub mark_rows : List Row
mark_rows =
    rule Cast (codes "(") (UpTo CastWord)
    ∷ rule Semi (codes ";") (When Anything)
    ∷ rule Close (codes "?>") (When Anything)
    ∷ rule Close (codes "?>\n") (When Anything)
    ∷ rule Close (codes "?>\r") (When Anything)
    ∷ rule Close (codes "?>\r\n") (When Anything)
    ∷ []

-- `/` is no operator where a comment begins, nor are `<` and `<<` where a nowdoc begins
abbrev pub operator_rows : List Row
operator_rows =
    rule Op (codes "/") (When NoStar)
    ∷ rule Op (codes "<") (When NoNowdocAfterOne)
    ∷ rule Op (codes "<<") (When NoNowdocAfterTwo)
    ∷ map (λ w. rule Op w (When Anything)) operators

-- the rows that both versions have
abbrev pub common_rows : List Row
common_rows = trivia_rows ++ word_rows ++ number_rows ++ text_rows ++ mark_rows ++ operator_rows

-- In 8.3 `#[` opens attributes, and a name with `\` is one token.
abbrev pub code_rows : Version → List Row
code_rows V74 = rule Comment (codes "#") (AnyRun Line) ∷ common_rows
code_rows V83 =
    rule AttributeOpen (codes "#[") (When Anything)
    ∷ rule Comment (codes "#") (AnyRun HashLine)
    ∷ rule Name [] (Shaped shape.Name Begin)
    ∷ common_rows

-- ---- inline HTML (PHP manual, "PHP tags"; short tags are off)

-- The tag `<?php` takes the white space behind it along: a space, a tab or a line end.
abbrev pub html_rows : List Row
html_rows =
    rule OpenEcho (codes "<?=") (When Anything)
    ∷ rule Tag (codes "<?php ") (When Anything)
    ∷ rule Tag (codes "<?php\t") (When Anything)
    ∷ rule Tag (codes "<?php\n") (When Anything)
    ∷ rule Tag (codes "<?php\r") (When Anything)
    ∷ rule Tag (codes "<?php\r\n") (When Anything)
    ∷ rule Tag (codes "<?php") (When Nothing)
    ∷ rule InlineHtml [] (SomeOf Html First)
    ∷ []
