-- The rows of code that a letter may begin; the lexer looks at no others there.
use Rattle.std.specs.Prelude.{List, [], ◌∷◌, codes}
use Rattle.php_spellings.specs.declared.table.Kind.TheVariants.{Keyword, Word, Text, Quote, HeredocStart}
use Rattle.php_spellings.specs.declared.table.Until.TheVariants.{Simple, Closed, From}
use Rattle.php_spellings.specs.declared.table.Shape.TheVariants as shape
use Rattle.php_spellings.specs.declared.table.Spot.TheVariants.{Begin}
use Rattle.php_spellings.specs.declared.table.Follow.TheVariants.{Anything}
use Rattle.php_spellings.specs.declared.table.Tail.TheVariants.{When, UpTo, Shaped, AnyWord, NowdocRest}
use Rattle.php_lexer.specs.Rules.{Row, rule}

-- the rows that may begin with a letter
abbrev pub letter_rows : List Row
letter_rows =
    rule Keyword (codes "yield") (UpTo From)
    ∷ rule Word [] AnyWord
    ∷ rule Text (codes "b'") (UpTo Simple)
    ∷ rule Text (codes "b\"") (UpTo Closed)
    ∷ rule Text (codes "b<<<") NowdocRest
    ∷ rule Quote (codes "b\"") (When Anything)
    ∷ rule HeredocStart (codes "b<<<") (Shaped shape.HeredocLine Begin)
    ∷ []
