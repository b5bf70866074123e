-- Rows of whole programs: loops and branches. The 8.3 side is what PHP 8.2 echoes, where it has a meaning here.
use Rattle.std.proofs.Common.{[], refl, pos, codes}
use Rattle.php_tree.specs.declared.token.TokenKind.TheVariants as token
use Rattle.php_tree.specs.declared.kind.NodeKind.TheVariants as kind
use Rattle.php_tree.specs.Tree.{Forest, none, node}
use Rattle.builtin_tables.specs.Beyond.{beyond_functions, beyond_classes, beyond_constants}
use Rattle.builtin_tables.specs.Builtins.{builtin_rows}
use Rattle.builtin_tables.specs.Constants.{named_constants, word_constants}
use Rattle.builtin_tables.specs.Named.{is_same_name}
use Rattle.builtin_tables.specs.Newer.{newer_functions, newer_classes, newer_constants}
use Rattle.php_meaning.specs.Cause.{NoRule}
use Rattle.php_meaning.specs.runs.World.{Ended}
use Rattle.meaning_rows.specs.Words.{t, b, file, ended, outside, Comes}

-- <?php for ($i = 0, $s = ''; $i < 3; $i++, $s .= '.') { echo $i, $s; }
abbrev for_with_commas_tree : Forest
for_with_commas_tree =
    (node kind.For (t token.Keyword "for" (t token.Op "(" (node kind.Assign (node kind.Variable (t token.Variable "$i"
    none) (t token.Op "=" (node kind.Number (t token.Int "0" none) none))) (t token.Op "," (node kind.Assign (node
    kind.Variable (t token.Variable "$s" none) (t token.Op "=" (node kind.Text (t token.Text "''" none) none))) (t
    token.Semi ";" (node kind.Binary (node kind.Variable (t token.Variable "$i" none) (t token.Op "<" (node
    kind.Number (t token.Int "3" none) none))) (t token.Semi ";" (node kind.Postfix (node kind.Variable (t
    token.Variable "$i" none) (t token.Op "++" none)) (t token.Op "," (node kind.CompoundAssign (node kind.Variable (t
    token.Variable "$s" none) (t token.Op ".=" (node kind.Text (t token.Text "'.'" none) none))) (t token.Op ")" (node
    kind.Block (t token.Op "{" (node kind.Echo (t token.Keyword "echo" (node kind.Variable (t token.Variable "$i"
    none) (t token.Op "," (node kind.Variable (t token.Variable "$s" none) (t token.Semi ";" none))))) (t token.Op "}"
    none))) none))))))))))))) none)

for_with_commas : Comes 200 (file for_with_commas_tree) (file for_with_commas_tree) (codes "a.php")
    ((codes "01.2.."), ended)
    ((codes "01.2.."), ended)
unfolding builtin_rows named_constants word_constants is_same_name newer_functions newer_classes newer_constants beyond_functions beyond_classes beyond_constants
for_with_commas = (refl, refl)

-- <?php $i = 0; while ($i < 3) $i++; do { $i--; } while ($i > 0); echo $i; do echo 'once'; while (false);
abbrev while_and_do_tree : Forest
while_and_do_tree =
    (node kind.ExprStmt (node kind.Assign (node kind.Variable (t token.Variable "$i" none) (t token.Op "=" (node
    kind.Number (t token.Int "0" none) none))) (t token.Semi ";" none)) (node kind.While (t token.Keyword "while" (t
    token.Op "(" (node kind.Binary (node kind.Variable (t token.Variable "$i" none) (t token.Op "<" (node kind.Number
    (t token.Int "3" none) none))) (t token.Op ")" (node kind.ExprStmt (node kind.Postfix (node kind.Variable (t
    token.Variable "$i" none) (t token.Op "++" none)) (t token.Semi ";" none)) none))))) (node kind.DoWhile (t
    token.Keyword "do" (node kind.Block (t token.Op "{" (node kind.ExprStmt (node kind.Postfix (node kind.Variable (t
    token.Variable "$i" none) (t token.Op "--" none)) (t token.Semi ";" none)) (t token.Op "}" none))) (t
    token.Keyword "while" (t token.Op "(" (node kind.Binary (node kind.Variable (t token.Variable "$i" none) (t
    token.Op ">" (node kind.Number (t token.Int "0" none) none))) (t token.Op ")" (t token.Semi ";" none))))))) (node
    kind.Echo (t token.Keyword "echo" (node kind.Variable (t token.Variable "$i" none) (t token.Semi ";" none))) (node
    kind.DoWhile (t token.Keyword "do" (node kind.Echo (t token.Keyword "echo" (node kind.Text (t token.Text "'once'"
    none) (t token.Semi ";" none))) (t token.Keyword "while" (t token.Op "(" (node kind.Constant (t token.Label
    "false" none) (t token.Op ")" (t token.Semi ";" none))))))) none)))))

while_and_do : Comes 200 (file while_and_do_tree) (file while_and_do_tree) (codes "a.php")
    ((codes "0once"), ended)
    ((codes "0once"), ended)
unfolding builtin_rows named_constants word_constants is_same_name newer_functions newer_classes newer_constants beyond_functions beyond_classes beyond_constants
while_and_do = (refl, refl)

-- <?php foreach ([1, 2, 3] as $x) { foreach ([1, 2, 3] as $y) { if ($y == 2) continue 2; if ($x == 3) break 2; echo $x, $y, ' '; } }
abbrev breaks_tree : Forest
breaks_tree =
    (node kind.Foreach (t token.Keyword "foreach" (t token.Op "(" (node kind.Array (t token.Op "[" (node kind.Item
    (node kind.Number (t token.Int "1" none) none) (t token.Op "," (node kind.Item (node kind.Number (t token.Int "2"
    none) none) (t token.Op "," (node kind.Item (node kind.Number (t token.Int "3" none) none) (t token.Op "]"
    none))))))) (t token.Keyword "as" (node kind.Variable (t token.Variable "$x" none) (t token.Op ")" (node
    kind.Block (t token.Op "{" (node kind.Foreach (t token.Keyword "foreach" (t token.Op "(" (node kind.Array (t
    token.Op "[" (node kind.Item (node kind.Number (t token.Int "1" none) none) (t token.Op "," (node kind.Item (node
    kind.Number (t token.Int "2" none) none) (t token.Op "," (node kind.Item (node kind.Number (t token.Int "3" none)
    none) (t token.Op "]" none))))))) (t token.Keyword "as" (node kind.Variable (t token.Variable "$y" none) (t
    token.Op ")" (node kind.Block (t token.Op "{" (node kind.If (t token.Keyword "if" (t token.Op "(" (node
    kind.Binary (node kind.Variable (t token.Variable "$y" none) (t token.Op "==" (node kind.Number (t token.Int "2"
    none) none))) (t token.Op ")" (node kind.Continue (t token.Keyword "continue" (t token.Int "2" (t token.Semi ";"
    none))) none))))) (node kind.If (t token.Keyword "if" (t token.Op "(" (node kind.Binary (node kind.Variable (t
    token.Variable "$x" none) (t token.Op "==" (node kind.Number (t token.Int "3" none) none))) (t token.Op ")" (node
    kind.Break (t token.Keyword "break" (t token.Int "2" (t token.Semi ";" none))) none))))) (node kind.Echo (t
    token.Keyword "echo" (node kind.Variable (t token.Variable "$x" none) (t token.Op "," (node kind.Variable (t
    token.Variable "$y" none) (t token.Op "," (node kind.Text (t token.Text "' '" none) (t token.Semi ";" none)))))))
    (t token.Op "}" none))))) none))))))) (t token.Op "}" none))) none))))))) none)

breaks : Comes 200 (file breaks_tree) (file breaks_tree) (codes "a.php")
    ((codes "11 21 "), ended)
    ((codes "11 21 "), ended)
unfolding builtin_rows named_constants word_constants is_same_name newer_functions newer_classes newer_constants beyond_functions beyond_classes beyond_constants
breaks = (refl, refl)

-- <?php function s($v) { switch ($v) { case 1: return 'one'; case 'a': echo 'fall'; case 2: return 'two'; default:
--  return 'none'; } } echo s(1), s('a'), s(2), s(9);
abbrev switches_tree : Forest
switches_tree =
    (node kind.Function (t token.Keyword "function" (t token.Label "s" (t token.Op "(" (node kind.Param (t
    token.Variable "$v" none) (t token.Op ")" (node kind.Block (t token.Op "{" (node kind.Switch (t token.Keyword
    "switch" (t token.Op "(" (node kind.Variable (t token.Variable "$v" none) (t token.Op ")" (t token.Op "{" (node
    kind.Case (t token.Keyword "case" (node kind.Number (t token.Int "1" none) (t token.Op ":" (node kind.Return (t
    token.Keyword "return" (node kind.Text (t token.Text "'one'" none) (t token.Semi ";" none))) none)))) (node
    kind.Case (t token.Keyword "case" (node kind.Text (t token.Text "'a'" none) (t token.Op ":" (node kind.Echo (t
    token.Keyword "echo" (node kind.Text (t token.Text "'fall'" none) (t token.Semi ";" none))) none)))) (node
    kind.Case (t token.Keyword "case" (node kind.Number (t token.Int "2" none) (t token.Op ":" (node kind.Return (t
    token.Keyword "return" (node kind.Text (t token.Text "'two'" none) (t token.Semi ";" none))) none)))) (node
    kind.Case (t token.Keyword "default" (t token.Op ":" (node kind.Return (t token.Keyword "return" (node kind.Text
    (t token.Text "'none'" none) (t token.Semi ";" none))) none))) (t token.Op "}" none)))))))))) (t token.Op "}"
    none))) none)))))) (node kind.Echo (t token.Keyword "echo" (node kind.Call (t token.Label "s" (t token.Op "("
    (node kind.Args (node kind.Number (t token.Int "1" none) none) (t token.Op ")" none)))) (t token.Op "," (node
    kind.Call (t token.Label "s" (t token.Op "(" (node kind.Args (node kind.Text (t token.Text "'a'" none) none) (t
    token.Op ")" none)))) (t token.Op "," (node kind.Call (t token.Label "s" (t token.Op "(" (node kind.Args (node
    kind.Number (t token.Int "2" none) none) (t token.Op ")" none)))) (t token.Op "," (node kind.Call (t token.Label
    "s" (t token.Op "(" (node kind.Args (node kind.Number (t token.Int "9" none) none) (t token.Op ")" none)))) (t
    token.Semi ";" none))))))))) none))

switches : Comes 200 (file switches_tree) (file switches_tree) (codes "a.php")
    ((codes "onefalltwotwonone"), ended)
    ((codes "onefalltwotwonone"), ended)
unfolding builtin_rows named_constants word_constants is_same_name newer_functions newer_classes newer_constants beyond_functions beyond_classes beyond_constants
switches = (refl, refl)

-- <?php switch ('abc') { case 0: echo 'zero'; break; default: echo 'other'; }
abbrev switch_of_word_tree : Forest
switch_of_word_tree =
    (node kind.Switch (t token.Keyword "switch" (t token.Op "(" (node kind.Text (t token.Text "'abc'" none) (t
    token.Op ")" (t token.Op "{" (node kind.Case (t token.Keyword "case" (node kind.Number (t token.Int "0" none) (t
    token.Op ":" (node kind.Echo (t token.Keyword "echo" (node kind.Text (t token.Text "'zero'" none) (t token.Semi
    ";" none))) (node kind.Break (t token.Keyword "break" (t token.Semi ";" none)) none))))) (node kind.Case (t
    token.Keyword "default" (t token.Op ":" (node kind.Echo (t token.Keyword "echo" (node kind.Text (t token.Text
    "'other'" none) (t token.Semi ";" none))) none))) (t token.Op "}" none)))))))) none)

switch_of_word : Comes 200 (file switch_of_word_tree) (file switch_of_word_tree) (codes "a.php")
    ((codes "zero"), ended)
    ((codes "other"), ended)
unfolding builtin_rows named_constants word_constants is_same_name newer_functions newer_classes newer_constants beyond_functions beyond_classes beyond_constants
switch_of_word = (refl, refl)

-- <?php echo 'a'; exit(5); echo 'b';
abbrev exits_with_status_tree : Forest
exits_with_status_tree =
    (node kind.Echo (t token.Keyword "echo" (node kind.Text (t token.Text "'a'" none) (t token.Semi ";" none))) (node
    kind.ExprStmt (node kind.Exit (t token.Keyword "exit" (t token.Op "(" (node kind.Number (t token.Int "5" none) (t
    token.Op ")" none)))) (t token.Semi ";" none)) (node kind.Echo (t token.Keyword "echo" (node kind.Text (t
    token.Text "'b'" none) (t token.Semi ";" none))) none)))

exits_with_status : Comes 200 (file exits_with_status_tree) (file exits_with_status_tree) (codes "a.php")
    ((codes "a"), Ended (pos 5))
    ((codes "a"), Ended (pos 5))
unfolding builtin_rows named_constants word_constants is_same_name newer_functions newer_classes newer_constants beyond_functions beyond_classes beyond_constants
exits_with_status = (refl, refl)

-- <?php die('bye'); echo 'b';
abbrev exits_with_text_tree : Forest
exits_with_text_tree =
    (node kind.ExprStmt (node kind.Exit (t token.Keyword "die" (t token.Op "(" (node kind.Text (t token.Text "'bye'"
    none) (t token.Op ")" none)))) (t token.Semi ";" none)) (node kind.Echo (t token.Keyword "echo" (node kind.Text (t
    token.Text "'b'" none) (t token.Semi ";" none))) none))

exits_with_text : Comes 200 (file exits_with_text_tree) (file exits_with_text_tree) (codes "a.php")
    ((codes "bye"), ended)
    ((codes "bye"), ended)
unfolding builtin_rows named_constants word_constants is_same_name newer_functions newer_classes newer_constants beyond_functions beyond_classes beyond_constants
exits_with_text = (refl, refl)

-- <?php $a = [1, 2]; $b = [3]; foreach ($a as &$b[0]) { echo 1; }
abbrev loop_by_reference_into_an_element_tree : Forest
loop_by_reference_into_an_element_tree =
    (node kind.ExprStmt (node kind.Assign (node kind.Variable (t token.Variable "$a" none) (t token.Op "=" (node
    kind.Array (t token.Op "[" (node kind.Item (node kind.Number (t token.Int "1" none) none) (t token.Op "," (node
    kind.Item (node kind.Number (t token.Int "2" none) none) (t token.Op "]" none))))) none))) (t token.Semi ";"
    none)) (node kind.ExprStmt (node kind.Assign (node kind.Variable (t token.Variable "$b" none) (t token.Op "="
    (node kind.Array (t token.Op "[" (node kind.Item (node kind.Number (t token.Int "3" none) none) (t token.Op "]"
    none))) none))) (t token.Semi ";" none)) (node kind.Foreach (t token.Keyword "foreach" (t token.Op "(" (node
    kind.Variable (t token.Variable "$a" none) (t token.Keyword "as" (t token.Op "&" (node kind.Offset (node
    kind.Variable (t token.Variable "$b" none) (t token.Op "[" (node kind.Number (t token.Int "0" none) (t token.Op
    "]" none)))) (t token.Op ")" (node kind.Block (t token.Op "{" (node kind.Echo (t token.Keyword "echo" (node
    kind.Number (t token.Int "1" none) (t token.Semi ";" none))) (t token.Op "}" none))) none)))))))) none)))

loop_by_reference_into_an_element : Comes 200 (file loop_by_reference_into_an_element_tree) (file loop_by_reference_into_an_element_tree) (codes "a.php")
    ([], outside NoRule)
    ([], outside NoRule)
unfolding builtin_rows named_constants word_constants is_same_name newer_functions newer_classes newer_constants beyond_functions beyond_classes beyond_constants
loop_by_reference_into_an_element = (refl, refl)

-- <?php for ($i = 0 ?><?php $i < 3 ?><?php $i++): echo $i; endfor;
abbrev closing_tags_in_for_tree : Forest
closing_tags_in_for_tree =
    (node kind.For (t token.Keyword "for" (t token.Op "(" (node kind.Assign (node kind.Variable (t token.Variable
    "$i" none) (t token.Op "=" (node kind.Number (t token.Int "0" none) none))) (t token.Close "?>" (node
    kind.Binary (node kind.Variable (t token.Variable "$i" none) (t token.Op "<" (node kind.Number (t token.Int "3"
    none) none))) (t token.Close "?>" (node kind.Postfix (node kind.Variable (t token.Variable "$i" none) (t
    token.Op "++" none)) (t token.Op ")" (t token.Op ":" (node kind.Echo (t token.Keyword "echo" (node kind.Variable
    (t token.Variable "$i" none) (t token.Semi ";" none))) (t token.Keyword "endfor" (t token.Semi ";"
    none)))))))))))) none)

closing_tags_in_for : Comes 200 (file closing_tags_in_for_tree) (file closing_tags_in_for_tree) (codes "a.php")
    ((codes "012"), ended)
    ((codes "012"), ended)
unfolding builtin_rows named_constants word_constants is_same_name newer_functions newer_classes newer_constants beyond_functions beyond_classes beyond_constants
closing_tags_in_for = (refl, refl)
