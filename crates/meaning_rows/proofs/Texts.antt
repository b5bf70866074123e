-- Rows of whole programs: texts and quoted texts. The 8.3 side is what PHP 8.2 echoes, where it has a meaning here.
use Rattle.std.proofs.Common.{refl, codes}
use Rattle.php_tree.specs.declared.token.TokenKind.TheVariants as token
use Rattle.php_tree.specs.declared.kind.NodeKind.TheVariants as kind
use Rattle.php_tree.specs.Tree.{Forest, none, node}
use Rattle.builtin_tables.specs.Beyond.{beyond_functions, beyond_classes, beyond_constants}
use Rattle.builtin_tables.specs.Builtins.{builtin_rows}
use Rattle.builtin_tables.specs.Constants.{named_constants, word_constants}
use Rattle.builtin_tables.specs.Named.{is_same_name}
use Rattle.builtin_tables.specs.Newer.{newer_functions, newer_classes, newer_constants}
use Rattle.php_meaning.specs.Cause.{Offset}
use Rattle.meaning_rows.specs.Words.{t, b, file, ended, outside, Comes}

-- <?php $s = 'abc'; echo 'x'; echo $s[3];
abbrev offset_past_the_end_tree : Forest
offset_past_the_end_tree =
    (node kind.ExprStmt (node kind.Assign (node kind.Variable (t token.Variable "$s" none) (t token.Op "=" (node
    kind.Text (t token.Text "'abc'" none) none))) (t token.Semi ";" none)) (node kind.Echo (t token.Keyword "echo"
    (node kind.Text (t token.Text "'x'" none) (t token.Semi ";" none))) (node kind.Echo (t token.Keyword "echo" (node
    kind.Offset (node kind.Variable (t token.Variable "$s" none) (t token.Op "[" (node kind.Number (t token.Int "3"
    none) (t token.Op "]" none)))) (t token.Semi ";" none))) none)))

offset_past_the_end : Comes 200 (file offset_past_the_end_tree) (file offset_past_the_end_tree) (codes "a.php")
    ((codes "x"), outside Offset)
    ((codes "x"), outside Offset)
unfolding builtin_rows named_constants word_constants is_same_name newer_functions newer_classes newer_constants beyond_functions beyond_classes beyond_constants
offset_past_the_end = (refl, refl)

-- <?php $s = "abc"; echo $s{0}, "$s{0}";
-- rewritten:
-- <?php $s = "abc"; echo $s[0], "$s{0}";
abbrev brace_offsets_tree : Forest
brace_offsets_tree =
    (node kind.ExprStmt (node kind.Assign (node kind.Variable (t token.Variable "$s" none) (t token.Op "=" (node
    kind.Text (t token.Text "\"abc\"" none) none))) (t token.Semi ";" none)) (node kind.Echo (t token.Keyword "echo"
    (node kind.BraceOffset (node kind.Variable (t token.Variable "$s" none) (t token.Op "{" (node kind.Number (t
    token.Int "0" none) (t token.Op "}" none)))) (t token.Op "," (node kind.Quoted (t token.Quote "\"" (node
    kind.Variable (t token.Variable "$s" none) (t token.Piece "{0}" (t token.QuotedEnd "\"" none)))) (t token.Semi ";"
    none))))) none))

abbrev brace_offsets_new_tree : Forest
brace_offsets_new_tree =
    (node kind.ExprStmt (node kind.Assign (node kind.Variable (t token.Variable "$s" none) (t token.Op "=" (node
    kind.Text (t token.Text "\"abc\"" none) none))) (t token.Semi ";" none)) (node kind.Echo (t token.Keyword "echo"
    (node kind.Offset (node kind.Variable (t token.Variable "$s" none) (t token.Op "[" (node kind.Number (t token.Int
    "0" none) (t token.Op "]" none)))) (t token.Op "," (node kind.Quoted (t token.Quote "\"" (node kind.Variable (t
    token.Variable "$s" none) (t token.Piece "{0}" (t token.QuotedEnd "\"" none)))) (t token.Semi ";" none))))) none))

brace_offsets : Comes 200 (file brace_offsets_tree) (file brace_offsets_new_tree) (codes "a.php")
    ((codes "aabc{0}"), ended)
    ((codes "aabc{0}"), ended)
unfolding builtin_rows named_constants word_constants is_same_name newer_functions newer_classes newer_constants beyond_functions beyond_classes beyond_constants
brace_offsets = (refl, refl)

-- <?php $x = 1; $y = [2]; echo "${x} ${y[0]}";
-- rewritten:
-- <?php $x = 1; $y = [2]; echo "{$x} {$y[0]}";
abbrev dollar_braces_tree : Forest
dollar_braces_tree =
    (node kind.ExprStmt (node kind.Assign (node kind.Variable (t token.Variable "$x" none) (t token.Op "=" (node
    kind.Number (t token.Int "1" none) none))) (t token.Semi ";" none)) (node kind.ExprStmt (node kind.Assign (node
    kind.Variable (t token.Variable "$y" none) (t token.Op "=" (node kind.Array (t token.Op "[" (node kind.Item (node
    kind.Number (t token.Int "2" none) none) (t token.Op "]" none))) none))) (t token.Semi ";" none)) (node kind.Echo
    (t token.Keyword "echo" (node kind.Quoted (t token.Quote "\"" (t token.DollarBrace "${" (t token.VarName "x" (t
    token.Op "}" (t token.Piece " " (t token.DollarBrace "${" (t token.VarName "y" (t token.Op "[" (node kind.Number
    (t token.Int "0" none) (t token.Op "]" (t token.Op "}" (t token.QuotedEnd "\"" none)))))))))))) (t token.Semi ";"
    none))) none)))

abbrev dollar_braces_new_tree : Forest
dollar_braces_new_tree =
    (node kind.ExprStmt (node kind.Assign (node kind.Variable (t token.Variable "$x" none) (t token.Op "=" (node
    kind.Number (t token.Int "1" none) none))) (t token.Semi ";" none)) (node kind.ExprStmt (node kind.Assign (node
    kind.Variable (t token.Variable "$y" none) (t token.Op "=" (node kind.Array (t token.Op "[" (node kind.Item (node
    kind.Number (t token.Int "2" none) none) (t token.Op "]" none))) none))) (t token.Semi ";" none)) (node kind.Echo
    (t token.Keyword "echo" (node kind.Quoted (t token.Quote "\"" (t token.CurlyOpen "{" (node kind.Variable (t
    token.Variable "$x" none) (t token.Op "}" (t token.Piece " " (t token.CurlyOpen "{" (node kind.Offset (node
    kind.Variable (t token.Variable "$y" none) (t token.Op "[" (node kind.Number (t token.Int "0" none) (t token.Op
    "]" none)))) (t token.Op "}" (t token.QuotedEnd "\"" none))))))))) (t token.Semi ";" none))) none)))

dollar_braces : Comes 200 (file dollar_braces_tree) (file dollar_braces_new_tree) (codes "a.php")
    ((codes "1 2"), ended)
    ((codes "1 2"), ended)
unfolding builtin_rows named_constants word_constants is_same_name newer_functions newer_classes newer_constants beyond_functions beyond_classes beyond_constants
dollar_braces = (refl, refl)

-- <?php $x = 'v'; echo <<<A
--   one $x
--     two {$x}
--   A . '|' . <<<'B'
-- raw $x
-- B;
abbrev heredocs_tree : Forest
heredocs_tree =
    (node kind.ExprStmt (node kind.Assign (node kind.Variable (t token.Variable "$x" none) (t token.Op "=" (node
    kind.Text (t token.Text "'v'" none) none))) (t token.Semi ";" none)) (node kind.Echo (t token.Keyword "echo" (node
    kind.Binary (node kind.Binary (node kind.Quoted (t token.HeredocStart "<<<A\n" (t token.Piece "  one " (node
    kind.Variable (t token.Variable "$x" none) (t token.Piece "\n    two " (t token.CurlyOpen "{" (node kind.Variable
    (t token.Variable "$x" none) (t token.Op "}" (t token.Piece "\n" (t token.QuotedEnd "  A" none))))))))) (t
    token.Op "." (node kind.Text (t token.Text "'|'" none) none))) (t token.Op "." (node kind.Text (t token.Text
    "<<<'B'\nraw $x\nB" none) none))) (t token.Semi ";" none))) none))

heredocs : Comes 200 (file heredocs_tree) (file heredocs_tree) (codes "a.php")
    ((codes "one v\n  two v|raw $x"), ended)
    ((codes "one v\n  two v|raw $x"), ended)
unfolding builtin_rows named_constants word_constants is_same_name newer_functions newer_classes newer_constants beyond_functions beyond_classes beyond_constants
heredocs = (refl, refl)

-- <?php $s = 'a'; $s .= 'b'; $s .= 1; echo $s . 2 . 'c' . true . null . false;
abbrev concatenations_tree : Forest
concatenations_tree =
    (node kind.ExprStmt (node kind.Assign (node kind.Variable (t token.Variable "$s" none) (t token.Op "=" (node
    kind.Text (t token.Text "'a'" none) none))) (t token.Semi ";" none)) (node kind.ExprStmt (node kind.CompoundAssign
    (node kind.Variable (t token.Variable "$s" none) (t token.Op ".=" (node kind.Text (t token.Text "'b'" none)
    none))) (t token.Semi ";" none)) (node kind.ExprStmt (node kind.CompoundAssign (node kind.Variable (t
    token.Variable "$s" none) (t token.Op ".=" (node kind.Number (t token.Int "1" none) none))) (t token.Semi ";"
    none)) (node kind.Echo (t token.Keyword "echo" (node kind.Binary (node kind.Binary (node kind.Binary (node
    kind.Binary (node kind.Binary (node kind.Variable (t token.Variable "$s" none) (t token.Op "." (node kind.Number
    (t token.Int "2" none) none))) (t token.Op "." (node kind.Text (t token.Text "'c'" none) none))) (t token.Op "."
    (node kind.Constant (t token.Label "true" none) none))) (t token.Op "." (node kind.Constant (t token.Label "null"
    none) none))) (t token.Op "." (node kind.Constant (t token.Label "false" none) none))) (t token.Semi ";" none)))
    none))))

concatenations : Comes 200 (file concatenations_tree) (file concatenations_tree) (codes "a.php")
    ((codes "ab12c1"), ended)
    ((codes "ab12c1"), ended)
unfolding builtin_rows named_constants word_constants is_same_name newer_functions newer_classes newer_constants beyond_functions beyond_classes beyond_constants
concatenations = (refl, refl)
