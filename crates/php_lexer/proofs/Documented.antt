-- Documented rows of the token tables, computed.
use Rattle.std.proofs.Common.{◌≡◌, Some, None, refl, codes}
use Rattle.php_tree.specs.declared.version.Version.TheVariants.{V74, V83}
use Rattle.php_spellings.specs.declared.table.Kind.TheVariants.{Comment, Tag, InlineHtml, Word, Keyword, Name, Octal, Float, Text, Cast, Op}
use Rattle.php_lexer.specs.Modes.{html, code}
use Rattle.php_lexer.specs.Scan.{scan}

comment_before_close : scan V74 code (codes "// a ?> b") ≡ Some (Comment, 5)
comment_before_close = refl

point_and_point : scan V74 code (codes "1..2") ≡ Some (Float, 2)
point_and_point = refl

point_and_exponent : scan V83 code (codes "1.e3;") ≡ Some (Float, 4)
point_and_exponent = refl

leading_zero : scan V74 code (codes "08") ≡ Some (Octal, 1)
leading_zero = refl

cast_with_tabs : scan V74 code (codes "( \tINT )1") ≡ Some (Cast, 8)
cast_with_tabs = refl

cast_with_line_end : scan V74 code (codes "(int\n)1") ≡ Some (Op, 1)
cast_with_line_end = refl

name_in_one : scan V83 code (codes "namespace\\List\\a b") ≡ Some (Name, 16)
name_in_one = refl

name_in_parts : scan V74 code (codes "namespace\\List\\a b") ≡ Some (Word, 9)
name_in_parts = refl

nowdoc : scan V74 code (codes "<<<'A'\nx\n AB\n A;") ≡ Some (Text, 15)
nowdoc = refl

open_nowdoc : scan V74 code (codes "<<<'A'\nx\n AB\n;") ≡ None
open_nowdoc = refl

open_binary_text : scan V74 code (codes "b'abc") ≡ None
open_binary_text = refl

binary_backtick : scan V74 code (codes "b`x`") ≡ Some (Word, 1)
binary_backtick = refl

tag_in_word : scan V74 html (codes "<?phpx <?PHP\t") ≡ Some (InlineHtml, 7)
tag_in_word = refl

tag_at_end : scan V74 html (codes "<?PhP") ≡ Some (Tag, 5)
tag_at_end = refl

yield_from : scan V74 code (codes "yield \n From;") ≡ Some (Keyword, 12)
yield_from = refl

yield_and_word : scan V74 code (codes "yield fromage") ≡ Some (Word, 5)
yield_and_word = refl
