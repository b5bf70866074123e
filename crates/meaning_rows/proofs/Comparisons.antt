-- Rows of whole programs: comparisons. The 8.3 side is what PHP 8.2 echoes, where it has a meaning here.
use Rattle.std.proofs.Common.{refl, codes}
use Rattle.php_tree.specs.declared.token.TokenKind.TheVariants as token
use Rattle.php_tree.specs.declared.kind.NodeKind.TheVariants as kind
use Rattle.php_tree.specs.Tree.{Forest, none, node}
use Rattle.builtin_tables.specs.Beyond.{beyond_functions, beyond_classes, beyond_constants}
use Rattle.builtin_tables.specs.Builtins.{builtin_rows}
use Rattle.builtin_tables.specs.Constants.{named_constants, word_constants}
use Rattle.builtin_tables.specs.Named.{is_same_name}
use Rattle.builtin_tables.specs.Newer.{newer_functions, newer_classes, newer_constants}
use Rattle.php_meaning.specs.Cause.{Comparison}
use Rattle.meaning_rows.specs.Words.{t, b, file, ended, outside, Comes}

-- <?php $x = 'abc'; echo 0 == $x ? 1 : 2;
abbrev int_with_word_tree : Forest
int_with_word_tree =
    (node kind.ExprStmt (node kind.Assign (node kind.Variable (t token.Variable "$x" none) (t token.Op "=" (node
    kind.Text (t token.Text "'abc'" none) none))) (t token.Semi ";" none)) (node kind.Echo (t token.Keyword "echo"
    (node kind.Ternary (node kind.Binary (node kind.Number (t token.Int "0" none) (t token.Op "==" (node kind.Variable
    (t token.Variable "$x" none) none))) (t token.Op "?" (node kind.Number (t token.Int "1" none) (t token.Op ":"
    (node kind.Number (t token.Int "2" none) none))))) (t token.Semi ";" none))) none))

int_with_word : Comes 200 (file int_with_word_tree) (file int_with_word_tree) (codes "a.php")
    ((codes "1"), ended)
    ((codes "2"), ended)
unfolding builtin_rows named_constants word_constants is_same_name newer_functions newer_classes newer_constants beyond_functions beyond_classes beyond_constants
int_with_word = (refl, refl)

-- <?php $x = 'abc'; echo 0 == $x ? 1 : 2;
-- rewritten:
-- <?php $x = 'abc'; echo 0 == (int)$x ? 1 : 2;
abbrev int_with_word_rewritten_tree : Forest
int_with_word_rewritten_tree =
    (node kind.ExprStmt (node kind.Assign (node kind.Variable (t token.Variable "$x" none) (t token.Op "=" (node
    kind.Text (t token.Text "'abc'" none) none))) (t token.Semi ";" none)) (node kind.Echo (t token.Keyword "echo"
    (node kind.Ternary (node kind.Binary (node kind.Number (t token.Int "0" none) (t token.Op "==" (node kind.Variable
    (t token.Variable "$x" none) none))) (t token.Op "?" (node kind.Number (t token.Int "1" none) (t token.Op ":"
    (node kind.Number (t token.Int "2" none) none))))) (t token.Semi ";" none))) none))

abbrev int_with_word_rewritten_new_tree : Forest
int_with_word_rewritten_new_tree =
    (node kind.ExprStmt (node kind.Assign (node kind.Variable (t token.Variable "$x" none) (t token.Op "=" (node
    kind.Text (t token.Text "'abc'" none) none))) (t token.Semi ";" none)) (node kind.Echo (t token.Keyword "echo"
    (node kind.Ternary (node kind.Binary (node kind.Number (t token.Int "0" none) (t token.Op "==" (node kind.Cast (t
    token.Cast "(int)" (node kind.Variable (t token.Variable "$x" none) none)) none))) (t token.Op "?" (node
    kind.Number (t token.Int "1" none) (t token.Op ":" (node kind.Number (t token.Int "2" none) none))))) (t
    token.Semi ";" none))) none))

int_with_word_rewritten : Comes 200 (file int_with_word_rewritten_tree) (file int_with_word_rewritten_new_tree) (codes "a.php")
    ((codes "1"), ended)
    ((codes "1"), ended)
unfolding builtin_rows named_constants word_constants is_same_name newer_functions newer_classes newer_constants beyond_functions beyond_classes beyond_constants
int_with_word_rewritten = (refl, refl)

-- <?php echo 12 == '12abc' ? 'y' : 'n', '12abc' > 11 ? 'y' : 'n', 1 < '2x' ? 'y' : 'n';
abbrev int_with_lead_tree : Forest
int_with_lead_tree =
    (node kind.Echo (t token.Keyword "echo" (node kind.Ternary (node kind.Binary (node kind.Number (t token.Int "12"
    none) (t token.Op "==" (node kind.Text (t token.Text "'12abc'" none) none))) (t token.Op "?" (node kind.Text (t
    token.Text "'y'" none) (t token.Op ":" (node kind.Text (t token.Text "'n'" none) none))))) (t token.Op "," (node
    kind.Ternary (node kind.Binary (node kind.Text (t token.Text "'12abc'" none) (t token.Op ">" (node kind.Number (t
    token.Int "11" none) none))) (t token.Op "?" (node kind.Text (t token.Text "'y'" none) (t token.Op ":" (node
    kind.Text (t token.Text "'n'" none) none))))) (t token.Op "," (node kind.Ternary (node kind.Binary (node
    kind.Number (t token.Int "1" none) (t token.Op "<" (node kind.Text (t token.Text "'2x'" none) none))) (t token.Op
    "?" (node kind.Text (t token.Text "'y'" none) (t token.Op ":" (node kind.Text (t token.Text "'n'" none) none)))))
    (t token.Semi ";" none))))))) none)

int_with_lead : Comes 200 (file int_with_lead_tree) (file int_with_lead_tree) (codes "a.php")
    ((codes "yyy"), ended)
    ((codes "nyy"), ended)
unfolding builtin_rows named_constants word_constants is_same_name newer_functions newer_classes newer_constants beyond_functions beyond_classes beyond_constants
int_with_lead = (refl, refl)

-- <?php echo 12 == '12' ? 'y' : 'n', 12 == ' 12' ? 'y' : 'n', 12 == '012' ? 'y' : 'n', 12 == '12 ' ? 'y' : 'n', -3 == '-3' ? 'y' : 'n';
abbrev int_with_whole_tree : Forest
int_with_whole_tree =
    (node kind.Echo (t token.Keyword "echo" (node kind.Ternary (node kind.Binary (node kind.Number (t token.Int "12"
    none) (t token.Op "==" (node kind.Text (t token.Text "'12'" none) none))) (t token.Op "?" (node kind.Text (t
    token.Text "'y'" none) (t token.Op ":" (node kind.Text (t token.Text "'n'" none) none))))) (t token.Op "," (node
    kind.Ternary (node kind.Binary (node kind.Number (t token.Int "12" none) (t token.Op "==" (node kind.Text (t
    token.Text "' 12'" none) none))) (t token.Op "?" (node kind.Text (t token.Text "'y'" none) (t token.Op ":" (node
    kind.Text (t token.Text "'n'" none) none))))) (t token.Op "," (node kind.Ternary (node kind.Binary (node
    kind.Number (t token.Int "12" none) (t token.Op "==" (node kind.Text (t token.Text "'012'" none) none))) (t
    token.Op "?" (node kind.Text (t token.Text "'y'" none) (t token.Op ":" (node kind.Text (t token.Text "'n'" none)
    none))))) (t token.Op "," (node kind.Ternary (node kind.Binary (node kind.Number (t token.Int "12" none) (t
    token.Op "==" (node kind.Text (t token.Text "'12 '" none) none))) (t token.Op "?" (node kind.Text (t token.Text
    "'y'" none) (t token.Op ":" (node kind.Text (t token.Text "'n'" none) none))))) (t token.Op "," (node kind.Ternary
    (node kind.Binary (node kind.Prefix (t token.Op "-" (node kind.Number (t token.Int "3" none) none)) (t token.Op
    "==" (node kind.Text (t token.Text "'-3'" none) none))) (t token.Op "?" (node kind.Text (t token.Text "'y'" none)
    (t token.Op ":" (node kind.Text (t token.Text "'n'" none) none))))) (t token.Semi ";" none))))))))))) none)

int_with_whole : Comes 200 (file int_with_whole_tree) (file int_with_whole_tree) (codes "a.php")
    ((codes "yyyyy"), ended)
    ((codes "yyyyy"), ended)
unfolding builtin_rows named_constants word_constants is_same_name newer_functions newer_classes newer_constants beyond_functions beyond_classes beyond_constants
int_with_whole = (refl, refl)

-- <?php echo '10' == '10x' ? 'y' : 'n', '10' == '010' ? 'y' : 'n', '10' < '9' ? 'y' : 'n', 'abc' < 'abd' ? 'y' : 'n', 'Z' < 'a' ? 'y' : 'n';
abbrev whole_with_whole_tree : Forest
whole_with_whole_tree =
    (node kind.Echo (t token.Keyword "echo" (node kind.Ternary (node kind.Binary (node kind.Text (t token.Text "'10'"
    none) (t token.Op "==" (node kind.Text (t token.Text "'10x'" none) none))) (t token.Op "?" (node kind.Text (t
    token.Text "'y'" none) (t token.Op ":" (node kind.Text (t token.Text "'n'" none) none))))) (t token.Op "," (node
    kind.Ternary (node kind.Binary (node kind.Text (t token.Text "'10'" none) (t token.Op "==" (node kind.Text (t
    token.Text "'010'" none) none))) (t token.Op "?" (node kind.Text (t token.Text "'y'" none) (t token.Op ":" (node
    kind.Text (t token.Text "'n'" none) none))))) (t token.Op "," (node kind.Ternary (node kind.Binary (node kind.Text
    (t token.Text "'10'" none) (t token.Op "<" (node kind.Text (t token.Text "'9'" none) none))) (t token.Op "?" (node
    kind.Text (t token.Text "'y'" none) (t token.Op ":" (node kind.Text (t token.Text "'n'" none) none))))) (t
    token.Op "," (node kind.Ternary (node kind.Binary (node kind.Text (t token.Text "'abc'" none) (t token.Op "<"
    (node kind.Text (t token.Text "'abd'" none) none))) (t token.Op "?" (node kind.Text (t token.Text "'y'" none) (t
    token.Op ":" (node kind.Text (t token.Text "'n'" none) none))))) (t token.Op "," (node kind.Ternary (node
    kind.Binary (node kind.Text (t token.Text "'Z'" none) (t token.Op "<" (node kind.Text (t token.Text "'a'" none)
    none))) (t token.Op "?" (node kind.Text (t token.Text "'y'" none) (t token.Op ":" (node kind.Text (t token.Text
    "'n'" none) none))))) (t token.Semi ";" none))))))))))) none)

whole_with_whole : Comes 200 (file whole_with_whole_tree) (file whole_with_whole_tree) (codes "a.php")
    ((codes "nynyy"), ended)
    ((codes "nynyy"), ended)
unfolding builtin_rows named_constants word_constants is_same_name newer_functions newer_classes newer_constants beyond_functions beyond_classes beyond_constants
whole_with_whole = (refl, refl)

-- <?php echo '12' == '12 ' ? 'y' : 'n', '12 ' == ' 12' ? 'y' : 'n';
abbrev whole_with_tail_tree : Forest
whole_with_tail_tree =
    (node kind.Echo (t token.Keyword "echo" (node kind.Ternary (node kind.Binary (node kind.Text (t token.Text "'12'"
    none) (t token.Op "==" (node kind.Text (t token.Text "'12 '" none) none))) (t token.Op "?" (node kind.Text (t
    token.Text "'y'" none) (t token.Op ":" (node kind.Text (t token.Text "'n'" none) none))))) (t token.Op "," (node
    kind.Ternary (node kind.Binary (node kind.Text (t token.Text "'12 '" none) (t token.Op "==" (node kind.Text (t
    token.Text "' 12'" none) none))) (t token.Op "?" (node kind.Text (t token.Text "'y'" none) (t token.Op ":" (node
    kind.Text (t token.Text "'n'" none) none))))) (t token.Semi ";" none))))) none)

whole_with_tail : Comes 200 (file whole_with_tail_tree) (file whole_with_tail_tree) (codes "a.php")
    ((codes "nn"), ended)
    ((codes "yy"), ended)
unfolding builtin_rows named_constants word_constants is_same_name newer_functions newer_classes newer_constants beyond_functions beyond_classes beyond_constants
whole_with_tail = (refl, refl)

-- <?php echo 'a'; echo 1 == '1.5' ? 'y' : 'n';
abbrev fraction_compared_tree : Forest
fraction_compared_tree =
    (node kind.Echo (t token.Keyword "echo" (node kind.Text (t token.Text "'a'" none) (t token.Semi ";" none))) (node
    kind.Echo (t token.Keyword "echo" (node kind.Ternary (node kind.Binary (node kind.Number (t token.Int "1" none) (t
    token.Op "==" (node kind.Text (t token.Text "'1.5'" none) none))) (t token.Op "?" (node kind.Text (t token.Text
    "'y'" none) (t token.Op ":" (node kind.Text (t token.Text "'n'" none) none))))) (t token.Semi ";" none))) none))

fraction_compared : Comes 200 (file fraction_compared_tree) (file fraction_compared_tree) (codes "a.php")
    ((codes "a"), outside Comparison)
    ((codes "a"), outside Comparison)
unfolding builtin_rows named_constants word_constants is_same_name newer_functions newer_classes newer_constants beyond_functions beyond_classes beyond_constants
fraction_compared = (refl, refl)

-- <?php echo null == '' ? 'y' : 'n', null == 'a' ? 'y' : 'n', null == '0' ? 'y' : 'n', null == 0 ? 'y' : 'n', null == [] ? 'y' : 'n', null < -1 ? 'y' : 'n';
abbrev null_compared_tree : Forest
null_compared_tree =
    (node kind.Echo (t token.Keyword "echo" (node kind.Ternary (node kind.Binary (node kind.Constant (t token.Label
    "null" none) (t token.Op "==" (node kind.Text (t token.Text "''" none) none))) (t token.Op "?" (node kind.Text (t
    token.Text "'y'" none) (t token.Op ":" (node kind.Text (t token.Text "'n'" none) none))))) (t token.Op "," (node
    kind.Ternary (node kind.Binary (node kind.Constant (t token.Label "null" none) (t token.Op "==" (node kind.Text (t
    token.Text "'a'" none) none))) (t token.Op "?" (node kind.Text (t token.Text "'y'" none) (t token.Op ":" (node
    kind.Text (t token.Text "'n'" none) none))))) (t token.Op "," (node kind.Ternary (node kind.Binary (node
    kind.Constant (t token.Label "null" none) (t token.Op "==" (node kind.Text (t token.Text "'0'" none) none))) (t
    token.Op "?" (node kind.Text (t token.Text "'y'" none) (t token.Op ":" (node kind.Text (t token.Text "'n'" none)
    none))))) (t token.Op "," (node kind.Ternary (node kind.Binary (node kind.Constant (t token.Label "null" none) (t
    token.Op "==" (node kind.Number (t token.Int "0" none) none))) (t token.Op "?" (node kind.Text (t token.Text "'y'"
    none) (t token.Op ":" (node kind.Text (t token.Text "'n'" none) none))))) (t token.Op "," (node kind.Ternary (node
    kind.Binary (node kind.Constant (t token.Label "null" none) (t token.Op "==" (node kind.Array (t token.Op "[" (t
    token.Op "]" none)) none))) (t token.Op "?" (node kind.Text (t token.Text "'y'" none) (t token.Op ":" (node
    kind.Text (t token.Text "'n'" none) none))))) (t token.Op "," (node kind.Ternary (node kind.Binary (node
    kind.Constant (t token.Label "null" none) (t token.Op "<" (node kind.Prefix (t token.Op "-" (node kind.Number (t
    token.Int "1" none) none)) none))) (t token.Op "?" (node kind.Text (t token.Text "'y'" none) (t token.Op ":" (node
    kind.Text (t token.Text "'n'" none) none))))) (t token.Semi ";" none))))))))))))) none)

null_compared : Comes 200 (file null_compared_tree) (file null_compared_tree) (codes "a.php")
    ((codes "ynnyyy"), ended)
    ((codes "ynnyyy"), ended)
unfolding builtin_rows named_constants word_constants is_same_name newer_functions newer_classes newer_constants beyond_functions beyond_classes beyond_constants
null_compared = (refl, refl)

-- <?php echo true == 'a' ? 'y' : 'n', false == '0' ? 'y' : 'n', true > false ? 'y' : 'n', false == [] ? 'y' : 'n',
--  true == [0] ? 'y' : 'n', true == -1 ? 'y' : 'n';
abbrev bool_compared_tree : Forest
bool_compared_tree =
    (node kind.Echo (t token.Keyword "echo" (node kind.Ternary (node kind.Binary (node kind.Constant (t token.Label
    "true" none) (t token.Op "==" (node kind.Text (t token.Text "'a'" none) none))) (t token.Op "?" (node kind.Text (t
    token.Text "'y'" none) (t token.Op ":" (node kind.Text (t token.Text "'n'" none) none))))) (t token.Op "," (node
    kind.Ternary (node kind.Binary (node kind.Constant (t token.Label "false" none) (t token.Op "==" (node kind.Text
    (t token.Text "'0'" none) none))) (t token.Op "?" (node kind.Text (t token.Text "'y'" none) (t token.Op ":" (node
    kind.Text (t token.Text "'n'" none) none))))) (t token.Op "," (node kind.Ternary (node kind.Binary (node
    kind.Constant (t token.Label "true" none) (t token.Op ">" (node kind.Constant (t token.Label "false" none) none)))
    (t token.Op "?" (node kind.Text (t token.Text "'y'" none) (t token.Op ":" (node kind.Text (t token.Text "'n'"
    none) none))))) (t token.Op "," (node kind.Ternary (node kind.Binary (node kind.Constant (t token.Label "false"
    none) (t token.Op "==" (node kind.Array (t token.Op "[" (t token.Op "]" none)) none))) (t token.Op "?" (node
    kind.Text (t token.Text "'y'" none) (t token.Op ":" (node kind.Text (t token.Text "'n'" none) none))))) (t
    token.Op "," (node kind.Ternary (node kind.Binary (node kind.Constant (t token.Label "true" none) (t token.Op "=="
    (node kind.Array (t token.Op "[" (node kind.Item (node kind.Number (t token.Int "0" none) none) (t token.Op "]"
    none))) none))) (t token.Op "?" (node kind.Text (t token.Text "'y'" none) (t token.Op ":" (node kind.Text (t
    token.Text "'n'" none) none))))) (t token.Op "," (node kind.Ternary (node kind.Binary (node kind.Constant (t
    token.Label "true" none) (t token.Op "==" (node kind.Prefix (t token.Op "-" (node kind.Number (t token.Int "1"
    none) none)) none))) (t token.Op "?" (node kind.Text (t token.Text "'y'" none) (t token.Op ":" (node kind.Text (t
    token.Text "'n'" none) none))))) (t token.Semi ";" none))))))))))))) none)

bool_compared : Comes 200 (file bool_compared_tree) (file bool_compared_tree) (codes "a.php")
    ((codes "yyyyyy"), ended)
    ((codes "yyyyyy"), ended)
unfolding builtin_rows named_constants word_constants is_same_name newer_functions newer_classes newer_constants beyond_functions beyond_classes beyond_constants
bool_compared = (refl, refl)

-- <?php echo [] > 5 ? 'y' : 'n', 'abc' < [] ? 'y' : 'n', [1] == 1 ? 'y' : 'n';
abbrev array_compared_tree : Forest
array_compared_tree =
    (node kind.Echo (t token.Keyword "echo" (node kind.Ternary (node kind.Binary (node kind.Array (t token.Op "[" (t
    token.Op "]" none)) (t token.Op ">" (node kind.Number (t token.Int "5" none) none))) (t token.Op "?" (node
    kind.Text (t token.Text "'y'" none) (t token.Op ":" (node kind.Text (t token.Text "'n'" none) none))))) (t
    token.Op "," (node kind.Ternary (node kind.Binary (node kind.Text (t token.Text "'abc'" none) (t token.Op "<"
    (node kind.Array (t token.Op "[" (t token.Op "]" none)) none))) (t token.Op "?" (node kind.Text (t token.Text
    "'y'" none) (t token.Op ":" (node kind.Text (t token.Text "'n'" none) none))))) (t token.Op "," (node kind.Ternary
    (node kind.Binary (node kind.Array (t token.Op "[" (node kind.Item (node kind.Number (t token.Int "1" none) none)
    (t token.Op "]" none))) (t token.Op "==" (node kind.Number (t token.Int "1" none) none))) (t token.Op "?" (node
    kind.Text (t token.Text "'y'" none) (t token.Op ":" (node kind.Text (t token.Text "'n'" none) none))))) (t
    token.Semi ";" none))))))) none)

array_compared : Comes 200 (file array_compared_tree) (file array_compared_tree) (codes "a.php")
    ((codes "yyn"), ended)
    ((codes "yyn"), ended)
unfolding builtin_rows named_constants word_constants is_same_name newer_functions newer_classes newer_constants beyond_functions beyond_classes beyond_constants
array_compared = (refl, refl)

-- <?php echo [1] == [1] ? 'y' : 'n';
abbrev arrays_compared_tree : Forest
arrays_compared_tree =
    (node kind.Echo (t token.Keyword "echo" (node kind.Ternary (node kind.Binary (node kind.Array (t token.Op "["
    (node kind.Item (node kind.Number (t token.Int "1" none) none) (t token.Op "]" none))) (t token.Op "==" (node
    kind.Array (t token.Op "[" (node kind.Item (node kind.Number (t token.Int "1" none) none) (t token.Op "]" none)))
    none))) (t token.Op "?" (node kind.Text (t token.Text "'y'" none) (t token.Op ":" (node kind.Text (t token.Text
    "'n'" none) none))))) (t token.Semi ";" none))) none)

arrays_compared : Comes 200 (file arrays_compared_tree) (file arrays_compared_tree) (codes "a.php")
    ((codes ""), outside Comparison)
    ((codes ""), outside Comparison)
unfolding builtin_rows named_constants word_constants is_same_name newer_functions newer_classes newer_constants beyond_functions beyond_classes beyond_constants
arrays_compared = (refl, refl)

-- <?php echo 1 <=> 2, 2 <=> 1, 1 <=> 1, 'a' <=> 'b', '10' <=> '9', true <=> false;
abbrev spaceship_tree : Forest
spaceship_tree =
    (node kind.Echo (t token.Keyword "echo" (node kind.Binary (node kind.Number (t token.Int "1" none) (t token.Op
    "<=>" (node kind.Number (t token.Int "2" none) none))) (t token.Op "," (node kind.Binary (node kind.Number (t
    token.Int "2" none) (t token.Op "<=>" (node kind.Number (t token.Int "1" none) none))) (t token.Op "," (node
    kind.Binary (node kind.Number (t token.Int "1" none) (t token.Op "<=>" (node kind.Number (t token.Int "1" none)
    none))) (t token.Op "," (node kind.Binary (node kind.Text (t token.Text "'a'" none) (t token.Op "<=>" (node
    kind.Text (t token.Text "'b'" none) none))) (t token.Op "," (node kind.Binary (node kind.Text (t token.Text "'10'"
    none) (t token.Op "<=>" (node kind.Text (t token.Text "'9'" none) none))) (t token.Op "," (node kind.Binary (node
    kind.Constant (t token.Label "true" none) (t token.Op "<=>" (node kind.Constant (t token.Label "false" none)
    none))) (t token.Semi ";" none))))))))))))) none)

spaceship : Comes 200 (file spaceship_tree) (file spaceship_tree) (codes "a.php")
    ((codes "-110-111"), ended)
    ((codes "-110-111"), ended)
unfolding builtin_rows named_constants word_constants is_same_name newer_functions newer_classes newer_constants beyond_functions beyond_classes beyond_constants
spaceship = (refl, refl)

-- <?php echo 1 === 1 ? 'y' : 'n', 1 === '1' ? 'y' : 'n', [1, 'a' => [2]] === [1, 'a' => [2]] ? 'y' : 'n', [1, 2] ===
--  [1 => 2, 0 => 1] ? 'y' : 'n', null !== false ? 'y' : 'n', 'a' === 'a' ? 'y' : 'n';
abbrev identical_tree : Forest
identical_tree =
    (node kind.Echo (t token.Keyword "echo" (node kind.Ternary (node kind.Binary (node kind.Number (t token.Int "1"
    none) (t token.Op "===" (node kind.Number (t token.Int "1" none) none))) (t token.Op "?" (node kind.Text (t
    token.Text "'y'" none) (t token.Op ":" (node kind.Text (t token.Text "'n'" none) none))))) (t token.Op "," (node
    kind.Ternary (node kind.Binary (node kind.Number (t token.Int "1" none) (t token.Op "===" (node kind.Text (t
    token.Text "'1'" none) none))) (t token.Op "?" (node kind.Text (t token.Text "'y'" none) (t token.Op ":" (node
    kind.Text (t token.Text "'n'" none) none))))) (t token.Op "," (node kind.Ternary (node kind.Binary (node
    kind.Array (t token.Op "[" (node kind.Item (node kind.Number (t token.Int "1" none) none) (t token.Op "," (node
    kind.Item (node kind.Text (t token.Text "'a'" none) (t token.Op "=>" (node kind.Array (t token.Op "[" (node
    kind.Item (node kind.Number (t token.Int "2" none) none) (t token.Op "]" none))) none))) (t token.Op "]" none)))))
    (t token.Op "===" (node kind.Array (t token.Op "[" (node kind.Item (node kind.Number (t token.Int "1" none) none)
    (t token.Op "," (node kind.Item (node kind.Text (t token.Text "'a'" none) (t token.Op "=>" (node kind.Array (t
    token.Op "[" (node kind.Item (node kind.Number (t token.Int "2" none) none) (t token.Op "]" none))) none))) (t
    token.Op "]" none))))) none))) (t token.Op "?" (node kind.Text (t token.Text "'y'" none) (t token.Op ":" (node
    kind.Text (t token.Text "'n'" none) none))))) (t token.Op "," (node kind.Ternary (node kind.Binary (node
    kind.Array (t token.Op "[" (node kind.Item (node kind.Number (t token.Int "1" none) none) (t token.Op "," (node
    kind.Item (node kind.Number (t token.Int "2" none) none) (t token.Op "]" none))))) (t token.Op "===" (node
    kind.Array (t token.Op "[" (node kind.Item (node kind.Number (t token.Int "1" none) (t token.Op "=>" (node
    kind.Number (t token.Int "2" none) none))) (t token.Op "," (node kind.Item (node kind.Number (t token.Int "0"
    none) (t token.Op "=>" (node kind.Number (t token.Int "1" none) none))) (t token.Op "]" none))))) none))) (t
    token.Op "?" (node kind.Text (t token.Text "'y'" none) (t token.Op ":" (node kind.Text (t token.Text "'n'" none)
    none))))) (t token.Op "," (node kind.Ternary (node kind.Binary (node kind.Constant (t token.Label "null" none) (t
    token.Op "!==" (node kind.Constant (t token.Label "false" none) none))) (t token.Op "?" (node kind.Text (t
    token.Text "'y'" none) (t token.Op ":" (node kind.Text (t token.Text "'n'" none) none))))) (t token.Op "," (node
    kind.Ternary (node kind.Binary (node kind.Text (t token.Text "'a'" none) (t token.Op "===" (node kind.Text (t
    token.Text "'a'" none) none))) (t token.Op "?" (node kind.Text (t token.Text "'y'" none) (t token.Op ":" (node
    kind.Text (t token.Text "'n'" none) none))))) (t token.Semi ";" none))))))))))))) none)

identical : Comes 200 (file identical_tree) (file identical_tree) (codes "a.php")
    ((codes "ynynyy"), ended)
    ((codes "ynynyy"), ended)
unfolding builtin_rows named_constants word_constants is_same_name newer_functions newer_classes newer_constants beyond_functions beyond_classes beyond_constants
identical = (refl, refl)

-- <?php class A {} $a = new A; $b = $a; echo $a === $b ? 'y' : 'n', $a === new A ? 'y' : 'n', $a !== new A ? 'y' : 'n';
abbrev objects_identical_tree : Forest
objects_identical_tree =
    (node kind.Class (t token.Keyword "class" (t token.Label "A" (t token.Op "{" (t token.Op "}" none)))) (node
    kind.ExprStmt (node kind.Assign (node kind.Variable (t token.Variable "$a" none) (t token.Op "=" (node kind.New (t
    token.Keyword "new" (t token.Label "A" none)) none))) (t token.Semi ";" none)) (node kind.ExprStmt (node
    kind.Assign (node kind.Variable (t token.Variable "$b" none) (t token.Op "=" (node kind.Variable (t token.Variable
    "$a" none) none))) (t token.Semi ";" none)) (node kind.Echo (t token.Keyword "echo" (node kind.Ternary (node
    kind.Binary (node kind.Variable (t token.Variable "$a" none) (t token.Op "===" (node kind.Variable (t
    token.Variable "$b" none) none))) (t token.Op "?" (node kind.Text (t token.Text "'y'" none) (t token.Op ":" (node
    kind.Text (t token.Text "'n'" none) none))))) (t token.Op "," (node kind.Ternary (node kind.Binary (node
    kind.Variable (t token.Variable "$a" none) (t token.Op "===" (node kind.New (t token.Keyword "new" (t token.Label
    "A" none)) none))) (t token.Op "?" (node kind.Text (t token.Text "'y'" none) (t token.Op ":" (node kind.Text (t
    token.Text "'n'" none) none))))) (t token.Op "," (node kind.Ternary (node kind.Binary (node kind.Variable (t
    token.Variable "$a" none) (t token.Op "!==" (node kind.New (t token.Keyword "new" (t token.Label "A" none))
    none))) (t token.Op "?" (node kind.Text (t token.Text "'y'" none) (t token.Op ":" (node kind.Text (t token.Text
    "'n'" none) none))))) (t token.Semi ";" none))))))) none))))

objects_identical : Comes 200 (file objects_identical_tree) (file objects_identical_tree) (codes "a.php")
    ((codes "yny"), ended)
    ((codes "yny"), ended)
unfolding builtin_rows named_constants word_constants is_same_name newer_functions newer_classes newer_constants beyond_functions beyond_classes beyond_constants
objects_identical = (refl, refl)

-- <?php echo 1 != '1' ? 'y' : 'n', 1 <> 2 ? 'y' : 'n', 'a' != 'b' ? 'y' : 'n';
abbrev not_equal_tree : Forest
not_equal_tree =
    (node kind.Echo (t token.Keyword "echo" (node kind.Ternary (node kind.Binary (node kind.Number (t token.Int "1"
    none) (t token.Op "!=" (node kind.Text (t token.Text "'1'" none) none))) (t token.Op "?" (node kind.Text (t
    token.Text "'y'" none) (t token.Op ":" (node kind.Text (t token.Text "'n'" none) none))))) (t token.Op "," (node
    kind.Ternary (node kind.Binary (node kind.Number (t token.Int "1" none) (t token.Op "<>" (node kind.Number (t
    token.Int "2" none) none))) (t token.Op "?" (node kind.Text (t token.Text "'y'" none) (t token.Op ":" (node
    kind.Text (t token.Text "'n'" none) none))))) (t token.Op "," (node kind.Ternary (node kind.Binary (node kind.Text
    (t token.Text "'a'" none) (t token.Op "!=" (node kind.Text (t token.Text "'b'" none) none))) (t token.Op "?" (node
    kind.Text (t token.Text "'y'" none) (t token.Op ":" (node kind.Text (t token.Text "'n'" none) none))))) (t
    token.Semi ";" none))))))) none)

not_equal : Comes 200 (file not_equal_tree) (file not_equal_tree) (codes "a.php")
    ((codes "nyy"), ended)
    ((codes "nyy"), ended)
unfolding builtin_rows named_constants word_constants is_same_name newer_functions newer_classes newer_constants beyond_functions beyond_classes beyond_constants
not_equal = (refl, refl)
