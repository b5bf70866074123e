-- The rows of quoted texts: double quotes, backticks and heredocs (PHP manual, "Strings: String interpolation").
use Rattle.std.specs.Prelude.{Bool, true, false, List, [], ◌∷◌, codes}
use Rattle.php_tree.specs.declared.version.Version.{Version}
use Rattle.php_tree.specs.declared.version.Version.TheVariants.{V74, V83}
use Rattle.php_spellings.specs.declared.table.Kind.TheVariants.{Variable, Label, Digits, Op, Piece, CurlyOpen, DollarBrace, VarName, QuotedEnd}
use Rattle.php_spellings.specs.declared.table.State.{State}
use Rattle.php_spellings.specs.declared.table.State.TheVariants.{First, Plain}
use Rattle.php_spellings.specs.declared.table.Mark.{Mark}
use Rattle.php_spellings.specs.declared.table.Mark.TheVariants.{Double, Back, Here}
use Rattle.php_spellings.specs.declared.table.Run.TheVariants.{Labels, Body}
use Rattle.php_spellings.specs.declared.table.Shape.TheVariants as shape
use Rattle.php_spellings.specs.declared.table.Spot.TheVariants.{Begin}
use Rattle.php_spellings.specs.declared.table.Follow.TheVariants.{Anything, Dollar}
use Rattle.php_spellings.specs.declared.table.Tail.TheVariants.{When, SomeOf, Shaped, BracedName, EndLine}
use Rattle.php_lexer.specs.Rules.{Row, rule}
use Rattle.php_lexer.specs.RulesCode.{code_rows}

-- whether a walk over a piece begins at the front of a line
abbrev pub from_line : Bool → State
from_line true = First
from_line false = Plain

-- the closing token; that of a heredoc stands at the front of a line
abbrev pub end_rows : Mark → Bool → List Row
end_rows Double fresh = rule QuotedEnd (codes "\"") (When Anything) ∷ []
end_rows Back fresh = rule QuotedEnd (codes "`") (When Anything) ∷ []
end_rows Here true = rule QuotedEnd [] EndLine ∷ []
end_rows Here false = []

-- a quoted text; true at the front of a line of a heredoc
abbrev pub quoted_rows : Mark → Bool → List Row
quoted_rows mark fresh =
    rule Variable (codes "$") (SomeOf Labels First)
    ∷ rule CurlyOpen (codes "{") (When Dollar)
    ∷ rule DollarBrace (codes "${") (When Anything)
    ∷ rule Piece [] (SomeOf (Body mark) (from_line fresh))
    ∷ end_rows mark fresh

-- directly behind `${`
abbrev pub named_rows : Version → List Row
named_rows version = rule VarName [] BracedName ∷ code_rows version

-- a simple offset: an Int of it has any digits, and any length
abbrev pub offset_rows : List Row
offset_rows =
    rule Op (codes "[") (When Anything)
    ∷ rule Op (codes "]") (When Anything)
    ∷ rule Op (codes "-") (When Anything)
    ∷ rule Variable (codes "$") (SomeOf Labels First)
    ∷ rule Label [] (SomeOf Labels First)
    ∷ rule Digits [] (Shaped shape.Digits Begin)
    ∷ rule Digits (codes "0x") (Shaped shape.Hexadecimal Begin)
    ∷ rule Digits (codes "0b") (Shaped shape.Binary Begin)
    ∷ []

-- a simple property; `?->` is a token in 8.3 alone
abbrev pub property_rows : Version → List Row
property_rows V74 = rule Op (codes "->") (When Anything) ∷ rule Label [] (SomeOf Labels First) ∷ []
property_rows V83 =
    rule Op (codes "->") (When Anything)
    ∷ rule Op (codes "?->") (When Anything)
    ∷ rule Label [] (SomeOf Labels First)
    ∷ []
