-- Rows of whole programs: builtin functions. The 8.3 side is what PHP 8.2 echoes, where it has a meaning here.
use Rattle.std.proofs.Common.{[], ◌∷◌, refl, codes}
use Rattle.php_tree.specs.declared.token.TokenKind.TheVariants as token
use Rattle.php_tree.specs.declared.kind.NodeKind.TheVariants as kind
use Rattle.php_tree.specs.Tree.{Forest, none, node}
use Rattle.builtin_tables.specs.Beyond.{beyond_functions, beyond_classes, beyond_constants}
use Rattle.builtin_tables.specs.Builtins.{builtin_rows}
use Rattle.builtin_tables.specs.Constants.{named_constants, word_constants}
use Rattle.builtin_tables.specs.Named.{is_same_name}
use Rattle.builtin_tables.specs.Newer.{newer_functions, newer_classes, newer_constants}
use Rattle.php_meaning.specs.Cause.{Call}
use Rattle.meaning_rows.specs.Words.{t, b, file, ended, outside, Comes}

-- <?php echo strlen('abc'), strlen(''), count([]), count([1, [2, 3]]), STRLEN("a\n");
abbrev lengths_tree : Forest
lengths_tree =
    (node kind.Echo (t token.Keyword "echo" (node kind.Call (t token.Label "strlen" (t token.Op "(" (node kind.Args
    (node kind.Text (t token.Text "'abc'" none) none) (t token.Op ")" none)))) (t token.Op "," (node kind.Call (t
    token.Label "strlen" (t token.Op "(" (node kind.Args (node kind.Text (t token.Text "''" none) none) (t token.Op
    ")" none)))) (t token.Op "," (node kind.Call (t token.Label "count" (t token.Op "(" (node kind.Args (node
    kind.Array (t token.Op "[" (t token.Op "]" none)) none) (t token.Op ")" none)))) (t token.Op "," (node kind.Call
    (t token.Label "count" (t token.Op "(" (node kind.Args (node kind.Array (t token.Op "[" (node kind.Item (node
    kind.Number (t token.Int "1" none) none) (t token.Op "," (node kind.Item (node kind.Array (t token.Op "[" (node
    kind.Item (node kind.Number (t token.Int "2" none) none) (t token.Op "," (node kind.Item (node kind.Number (t
    token.Int "3" none) none) (t token.Op "]" none))))) none) (t token.Op "]" none))))) none) (t token.Op ")" none))))
    (t token.Op "," (node kind.Call (t token.Label "STRLEN" (t token.Op "(" (node kind.Args (node kind.Text (t
    token.Text "\"a\\n\"" none) none) (t token.Op ")" none)))) (t token.Semi ";" none))))))))))) none)

lengths : Comes 200 (file lengths_tree) (file lengths_tree) (codes "a.php")
    ((codes "30022"), ended)
    ((codes "30022"), ended)
unfolding builtin_rows named_constants word_constants is_same_name newer_functions newer_classes newer_constants beyond_functions beyond_classes beyond_constants
lengths = (refl, refl)

-- <?php echo substr('hello', 1), '|', substr('hello', 1, 3), '|', substr('hello', 5), '|', substr('hello', 0, 99), '|', substr('hello', 2, 0);
abbrev part_of_a_text_tree : Forest
part_of_a_text_tree =
    (node kind.Echo (t token.Keyword "echo" (node kind.Call (t token.Label "substr" (t token.Op "(" (node kind.Args
    (node kind.Text (t token.Text "'hello'" none) (t token.Op "," (node kind.Number (t token.Int "1" none) none))) (t
    token.Op ")" none)))) (t token.Op "," (node kind.Text (t token.Text "'|'" none) (t token.Op "," (node kind.Call (t
    token.Label "substr" (t token.Op "(" (node kind.Args (node kind.Text (t token.Text "'hello'" none) (t token.Op ","
    (node kind.Number (t token.Int "1" none) (t token.Op "," (node kind.Number (t token.Int "3" none) none))))) (t
    token.Op ")" none)))) (t token.Op "," (node kind.Text (t token.Text "'|'" none) (t token.Op "," (node kind.Call (t
    token.Label "substr" (t token.Op "(" (node kind.Args (node kind.Text (t token.Text "'hello'" none) (t token.Op ","
    (node kind.Number (t token.Int "5" none) none))) (t token.Op ")" none)))) (t token.Op "," (node kind.Text (t
    token.Text "'|'" none) (t token.Op "," (node kind.Call (t token.Label "substr" (t token.Op "(" (node kind.Args
    (node kind.Text (t token.Text "'hello'" none) (t token.Op "," (node kind.Number (t token.Int "0" none) (t token.Op
    "," (node kind.Number (t token.Int "99" none) none))))) (t token.Op ")" none)))) (t token.Op "," (node kind.Text
    (t token.Text "'|'" none) (t token.Op "," (node kind.Call (t token.Label "substr" (t token.Op "(" (node kind.Args
    (node kind.Text (t token.Text "'hello'" none) (t token.Op "," (node kind.Number (t token.Int "2" none) (t token.Op
    "," (node kind.Number (t token.Int "0" none) none))))) (t token.Op ")" none)))) (t token.Semi ";"
    none))))))))))))))))))) none)

part_of_a_text : Comes 200 (file part_of_a_text_tree) (file part_of_a_text_tree) (codes "a.php")
    ((codes "ello|ell||hello|"), ended)
    ((codes "ello|ell||hello|"), ended)
unfolding builtin_rows named_constants word_constants is_same_name newer_functions newer_classes newer_constants beyond_functions beyond_classes beyond_constants
part_of_a_text = (refl, refl)

-- <?php $s = substr('ab', 3); echo $s === false ? 'f' : 't';
abbrev part_past_the_end_tree : Forest
part_past_the_end_tree =
    (node kind.ExprStmt (node kind.Assign (node kind.Variable (t token.Variable "$s" none) (t token.Op "=" (node
    kind.Call (t token.Label "substr" (t token.Op "(" (node kind.Args (node kind.Text (t token.Text "'ab'" none) (t
    token.Op "," (node kind.Number (t token.Int "3" none) none))) (t token.Op ")" none)))) none))) (t token.Semi ";"
    none)) (node kind.Echo (t token.Keyword "echo" (node kind.Ternary (node kind.Binary (node kind.Variable (t
    token.Variable "$s" none) (t token.Op "===" (node kind.Constant (t token.Label "false" none) none))) (t token.Op
    "?" (node kind.Text (t token.Text "'f'" none) (t token.Op ":" (node kind.Text (t token.Text "'t'" none) none)))))
    (t token.Semi ";" none))) none))

part_past_the_end : Comes 200 (file part_past_the_end_tree) (file part_past_the_end_tree) (codes "a.php")
    ((codes "f"), ended)
    ((codes "t"), ended)
unfolding builtin_rows named_constants word_constants is_same_name newer_functions newer_classes newer_constants beyond_functions beyond_classes beyond_constants
part_past_the_end = (refl, refl)

-- <?php echo substr('ab', 3), 1;
abbrev part_past_the_end_echoed_tree : Forest
part_past_the_end_echoed_tree =
    (node kind.Echo (t token.Keyword "echo" (node kind.Call (t token.Label "substr" (t token.Op "(" (node kind.Args
    (node kind.Text (t token.Text "'ab'" none) (t token.Op "," (node kind.Number (t token.Int "3" none) none))) (t
    token.Op ")" none)))) (t token.Op "," (node kind.Number (t token.Int "1" none) (t token.Semi ";" none))))) none)

part_past_the_end_echoed : Comes 200 (file part_past_the_end_echoed_tree) (file part_past_the_end_echoed_tree) (codes "a.php")
    ((codes "1"), ended)
    ((codes "1"), ended)
unfolding builtin_rows named_constants word_constants is_same_name newer_functions newer_classes newer_constants beyond_functions beyond_classes beyond_constants
part_past_the_end_echoed = (refl, refl)

-- <?php echo substr('abc', -1);
abbrev negative_start_tree : Forest
negative_start_tree =
    (node kind.Echo (t token.Keyword "echo" (node kind.Call (t token.Label "substr" (t token.Op "(" (node kind.Args
    (node kind.Text (t token.Text "'abc'" none) (t token.Op "," (node kind.Prefix (t token.Op "-" (node kind.Number (t
    token.Int "1" none) none)) none))) (t token.Op ")" none)))) (t token.Semi ";" none))) none)

negative_start : Comes 200 (file negative_start_tree) (file negative_start_tree) (codes "a.php")
    ((codes ""), outside Call)
    ((codes ""), outside Call)
unfolding builtin_rows named_constants word_constants is_same_name newer_functions newer_classes newer_constants beyond_functions beyond_classes beyond_constants
negative_start = (refl, refl)

-- <?php echo substr('abc', 0, -1);
abbrev negative_length_tree : Forest
negative_length_tree =
    (node kind.Echo (t token.Keyword "echo" (node kind.Call (t token.Label "substr" (t token.Op "(" (node kind.Args
    (node kind.Text (t token.Text "'abc'" none) (t token.Op "," (node kind.Number (t token.Int "0" none) (t token.Op
    "," (node kind.Prefix (t token.Op "-" (node kind.Number (t token.Int "1" none) none)) none))))) (t token.Op ")"
    none)))) (t token.Semi ";" none))) none)

negative_length : Comes 200 (file negative_length_tree) (file negative_length_tree) (codes "a.php")
    ((codes ""), outside Call)
    ((codes ""), outside Call)
unfolding builtin_rows named_constants word_constants is_same_name newer_functions newer_classes newer_constants beyond_functions beyond_classes beyond_constants
negative_length = (refl, refl)

-- <?php echo strpos('abcabc', 'c'), strpos('abc', 'abc'), strpos('abc', 'd') === false ? 'f' : 't', strpos('', 'a') === false ? 'f' : 't', strpos('aab', 'ab');
abbrev place_of_a_text_tree : Forest
place_of_a_text_tree =
    (node kind.Echo (t token.Keyword "echo" (node kind.Call (t token.Label "strpos" (t token.Op "(" (node kind.Args
    (node kind.Text (t token.Text "'abcabc'" none) (t token.Op "," (node kind.Text (t token.Text "'c'" none) none)))
    (t token.Op ")" none)))) (t token.Op "," (node kind.Call (t token.Label "strpos" (t token.Op "(" (node kind.Args
    (node kind.Text (t token.Text "'abc'" none) (t token.Op "," (node kind.Text (t token.Text "'abc'" none) none))) (t
    token.Op ")" none)))) (t token.Op "," (node kind.Ternary (node kind.Binary (node kind.Call (t token.Label "strpos"
    (t token.Op "(" (node kind.Args (node kind.Text (t token.Text "'abc'" none) (t token.Op "," (node kind.Text (t
    token.Text "'d'" none) none))) (t token.Op ")" none)))) (t token.Op "===" (node kind.Constant (t token.Label
    "false" none) none))) (t token.Op "?" (node kind.Text (t token.Text "'f'" none) (t token.Op ":" (node kind.Text (t
    token.Text "'t'" none) none))))) (t token.Op "," (node kind.Ternary (node kind.Binary (node kind.Call (t
    token.Label "strpos" (t token.Op "(" (node kind.Args (node kind.Text (t token.Text "''" none) (t token.Op ","
    (node kind.Text (t token.Text "'a'" none) none))) (t token.Op ")" none)))) (t token.Op "===" (node kind.Constant
    (t token.Label "false" none) none))) (t token.Op "?" (node kind.Text (t token.Text "'f'" none) (t token.Op ":"
    (node kind.Text (t token.Text "'t'" none) none))))) (t token.Op "," (node kind.Call (t token.Label "strpos" (t
    token.Op "(" (node kind.Args (node kind.Text (t token.Text "'aab'" none) (t token.Op "," (node kind.Text (t
    token.Text "'ab'" none) none))) (t token.Op ")" none)))) (t token.Semi ";" none))))))))))) none)

place_of_a_text : Comes 200 (file place_of_a_text_tree) (file place_of_a_text_tree) (codes "a.php")
    ((codes "20ff1"), ended)
    ((codes "20ff1"), ended)
unfolding builtin_rows named_constants word_constants is_same_name newer_functions newer_classes newer_constants beyond_functions beyond_classes beyond_constants
place_of_a_text = (refl, refl)

-- <?php echo strpos('AB', 66) === false ? 'f' : 't';
abbrev place_of_a_code_tree : Forest
place_of_a_code_tree =
    (node kind.Echo (t token.Keyword "echo" (node kind.Ternary (node kind.Binary (node kind.Call (t token.Label
    "strpos" (t token.Op "(" (node kind.Args (node kind.Text (t token.Text "'AB'" none) (t token.Op "," (node
    kind.Number (t token.Int "66" none) none))) (t token.Op ")" none)))) (t token.Op "===" (node kind.Constant (t
    token.Label "false" none) none))) (t token.Op "?" (node kind.Text (t token.Text "'f'" none) (t token.Op ":" (node
    kind.Text (t token.Text "'t'" none) none))))) (t token.Semi ";" none))) none)

place_of_a_code : Comes 200 (file place_of_a_code_tree) (file place_of_a_code_tree) (codes "a.php")
    ((codes "t"), ended)
    ((codes "f"), ended)
unfolding builtin_rows named_constants word_constants is_same_name newer_functions newer_classes newer_constants beyond_functions beyond_classes beyond_constants
place_of_a_code = (refl, refl)

-- <?php echo strpos('AB', 66);
-- rewritten:
-- <?php echo strpos('AB', \chr(66));
abbrev place_of_a_code_rewritten_tree : Forest
place_of_a_code_rewritten_tree =
    (node kind.Echo (t token.Keyword "echo" (node kind.Call (t token.Label "strpos" (t token.Op "(" (node kind.Args
    (node kind.Text (t token.Text "'AB'" none) (t token.Op "," (node kind.Number (t token.Int "66" none) none))) (t
    token.Op ")" none)))) (t token.Semi ";" none))) none)

abbrev place_of_a_code_rewritten_new_tree : Forest
place_of_a_code_rewritten_new_tree =
    (node kind.Echo (t token.Keyword "echo" (node kind.Call (t token.Label "strpos" (t token.Op "(" (node kind.Args
    (node kind.Text (t token.Text "'AB'" none) (t token.Op "," (node kind.Call (t token.Name "\\chr" (t token.Op "("
    (node kind.Args (node kind.Number (t token.Int "66" none) none) (t token.Op ")" none)))) none))) (t token.Op ")"
    none)))) (t token.Semi ";" none))) none)

place_of_a_code_rewritten : Comes 200 (file place_of_a_code_rewritten_tree) (file place_of_a_code_rewritten_new_tree) (codes "a.php")
    ((codes "1"), ended)
    ((codes "1"), ended)
unfolding builtin_rows named_constants word_constants is_same_name newer_functions newer_classes newer_constants beyond_functions beyond_classes beyond_constants
place_of_a_code_rewritten = (refl, refl)

-- <?php echo strpos('a66', 66) === false ? 'f' : 't';
abbrev place_of_digits_tree : Forest
place_of_digits_tree =
    (node kind.Echo (t token.Keyword "echo" (node kind.Ternary (node kind.Binary (node kind.Call (t token.Label
    "strpos" (t token.Op "(" (node kind.Args (node kind.Text (t token.Text "'a66'" none) (t token.Op "," (node
    kind.Number (t token.Int "66" none) none))) (t token.Op ")" none)))) (t token.Op "===" (node kind.Constant (t
    token.Label "false" none) none))) (t token.Op "?" (node kind.Text (t token.Text "'f'" none) (t token.Op ":" (node
    kind.Text (t token.Text "'t'" none) none))))) (t token.Semi ";" none))) none)

place_of_digits : Comes 200 (file place_of_digits_tree) (file place_of_digits_tree) (codes "a.php")
    ((codes "f"), ended)
    ((codes "t"), ended)
unfolding builtin_rows named_constants word_constants is_same_name newer_functions newer_classes newer_constants beyond_functions beyond_classes beyond_constants
place_of_digits = (refl, refl)

-- <?php echo strpos('ab', '') === 0 ? 'z' : 'f';
abbrev place_of_nothing_tree : Forest
place_of_nothing_tree =
    (node kind.Echo (t token.Keyword "echo" (node kind.Ternary (node kind.Binary (node kind.Call (t token.Label
    "strpos" (t token.Op "(" (node kind.Args (node kind.Text (t token.Text "'ab'" none) (t token.Op "," (node
    kind.Text (t token.Text "''" none) none))) (t token.Op ")" none)))) (t token.Op "===" (node kind.Number (t
    token.Int "0" none) none))) (t token.Op "?" (node kind.Text (t token.Text "'z'" none) (t token.Op ":" (node
    kind.Text (t token.Text "'f'" none) none))))) (t token.Semi ";" none))) none)

place_of_nothing : Comes 200 (file place_of_nothing_tree) (file place_of_nothing_tree) (codes "a.php")
    ((codes "f"), ended)
    ((codes "z"), ended)
unfolding builtin_rows named_constants word_constants is_same_name newer_functions newer_classes newer_constants beyond_functions beyond_classes beyond_constants
place_of_nothing = (refl, refl)

-- <?php echo strpos('ab', 300) === false ? 'f' : 't';
abbrev code_past_a_byte_tree : Forest
code_past_a_byte_tree =
    (node kind.Echo (t token.Keyword "echo" (node kind.Ternary (node kind.Binary (node kind.Call (t token.Label
    "strpos" (t token.Op "(" (node kind.Args (node kind.Text (t token.Text "'ab'" none) (t token.Op "," (node
    kind.Number (t token.Int "300" none) none))) (t token.Op ")" none)))) (t token.Op "===" (node kind.Constant (t
    token.Label "false" none) none))) (t token.Op "?" (node kind.Text (t token.Text "'f'" none) (t token.Op ":" (node
    kind.Text (t token.Text "'t'" none) none))))) (t token.Semi ";" none))) none)

code_past_a_byte : Comes 200 (file code_past_a_byte_tree) (file code_past_a_byte_tree) (codes "a.php")
    ((codes ""), outside Call)
    ((codes "f"), ended)
unfolding builtin_rows named_constants word_constants is_same_name newer_functions newer_classes newer_constants beyond_functions beyond_classes beyond_constants
code_past_a_byte = (refl, refl)

-- <?php echo implode(', ', ['a', 1, null, true, 'z']), join('-', [1, 2]), implode('', []), '.', implode('x', ['one']);
abbrev joined_tree : Forest
joined_tree =
    (node kind.Echo (t token.Keyword "echo" (node kind.Call (t token.Label "implode" (t token.Op "(" (node kind.Args
    (node kind.Text (t token.Text "', '" none) (t token.Op "," (node kind.Array (t token.Op "[" (node kind.Item (node
    kind.Text (t token.Text "'a'" none) none) (t token.Op "," (node kind.Item (node kind.Number (t token.Int "1" none)
    none) (t token.Op "," (node kind.Item (node kind.Constant (t token.Label "null" none) none) (t token.Op "," (node
    kind.Item (node kind.Constant (t token.Label "true" none) none) (t token.Op "," (node kind.Item (node kind.Text (t
    token.Text "'z'" none) none) (t token.Op "]" none))))))))))) none))) (t token.Op ")" none)))) (t token.Op ","
    (node kind.Call (t token.Label "join" (t token.Op "(" (node kind.Args (node kind.Text (t token.Text "'-'" none) (t
    token.Op "," (node kind.Array (t token.Op "[" (node kind.Item (node kind.Number (t token.Int "1" none) none) (t
    token.Op "," (node kind.Item (node kind.Number (t token.Int "2" none) none) (t token.Op "]" none))))) none))) (t
    token.Op ")" none)))) (t token.Op "," (node kind.Call (t token.Label "implode" (t token.Op "(" (node kind.Args
    (node kind.Text (t token.Text "''" none) (t token.Op "," (node kind.Array (t token.Op "[" (t token.Op "]" none))
    none))) (t token.Op ")" none)))) (t token.Op "," (node kind.Text (t token.Text "'.'" none) (t token.Op "," (node
    kind.Call (t token.Label "implode" (t token.Op "(" (node kind.Args (node kind.Text (t token.Text "'x'" none) (t
    token.Op "," (node kind.Array (t token.Op "[" (node kind.Item (node kind.Text (t token.Text "'one'" none) none) (t
    token.Op "]" none))) none))) (t token.Op ")" none)))) (t token.Semi ";" none))))))))))) none)

joined : Comes 200 (file joined_tree) (file joined_tree) (codes "a.php")
    ((codes "a, 1, , 1, z1-2.one"), ended)
    ((codes "a, 1, , 1, z1-2.one"), ended)
unfolding builtin_rows named_constants word_constants is_same_name newer_functions newer_classes newer_constants beyond_functions beyond_classes beyond_constants
joined = (refl, refl)

-- <?php $a = [1, 2]; try { echo implode($a, '-'); } catch (TypeError $e) { echo 'T'; }
abbrev joined_the_other_way_tree : Forest
joined_the_other_way_tree =
    (node kind.ExprStmt (node kind.Assign (node kind.Variable (t token.Variable "$a" none) (t token.Op "=" (node
    kind.Array (t token.Op "[" (node kind.Item (node kind.Number (t token.Int "1" none) none) (t token.Op "," (node
    kind.Item (node kind.Number (t token.Int "2" none) none) (t token.Op "]" none))))) none))) (t token.Semi ";"
    none)) (node kind.Try (t token.Keyword "try" (node kind.Block (t token.Op "{" (node kind.Echo (t token.Keyword
    "echo" (node kind.Call (t token.Label "implode" (t token.Op "(" (node kind.Args (node kind.Variable (t
    token.Variable "$a" none) (t token.Op "," (node kind.Text (t token.Text "'-'" none) none))) (t token.Op ")"
    none)))) (t token.Semi ";" none))) (t token.Op "}" none))) (t token.Keyword "catch" (t token.Op "(" (t token.Label
    "TypeError" (t token.Variable "$e" (t token.Op ")" (node kind.Block (t token.Op "{" (node kind.Echo (t
    token.Keyword "echo" (node kind.Text (t token.Text "'T'" none) (t token.Semi ";" none))) (t token.Op "}" none)))
    none)))))))) none))

joined_the_other_way : Comes 200 (file joined_the_other_way_tree) (file joined_the_other_way_tree) (codes "a.php")
    ((codes "1-2"), ended)
    ((codes "T"), ended)
unfolding builtin_rows named_constants word_constants is_same_name newer_functions newer_classes newer_constants beyond_functions beyond_classes beyond_constants
joined_the_other_way = (refl, refl)

-- <?php $a = [1, 2]; echo implode($a, '-');
-- rewritten:
-- <?php $a = [1, 2]; echo implode('-', $a);
abbrev joined_the_other_way_rewritten_tree : Forest
joined_the_other_way_rewritten_tree =
    (node kind.ExprStmt (node kind.Assign (node kind.Variable (t token.Variable "$a" none) (t token.Op "=" (node
    kind.Array (t token.Op "[" (node kind.Item (node kind.Number (t token.Int "1" none) none) (t token.Op "," (node
    kind.Item (node kind.Number (t token.Int "2" none) none) (t token.Op "]" none))))) none))) (t token.Semi ";"
    none)) (node kind.Echo (t token.Keyword "echo" (node kind.Call (t token.Label "implode" (t token.Op "(" (node
    kind.Args (node kind.Variable (t token.Variable "$a" none) (t token.Op "," (node kind.Text (t token.Text "'-'"
    none) none))) (t token.Op ")" none)))) (t token.Semi ";" none))) none))

abbrev joined_the_other_way_rewritten_new_tree : Forest
joined_the_other_way_rewritten_new_tree =
    (node kind.ExprStmt (node kind.Assign (node kind.Variable (t token.Variable "$a" none) (t token.Op "=" (node
    kind.Array (t token.Op "[" (node kind.Item (node kind.Number (t token.Int "1" none) none) (t token.Op "," (node
    kind.Item (node kind.Number (t token.Int "2" none) none) (t token.Op "]" none))))) none))) (t token.Semi ";"
    none)) (node kind.Echo (t token.Keyword "echo" (node kind.Call (t token.Label "implode" (t token.Op "(" (node
    kind.Args (node kind.Text (t token.Text "'-'" none) (t token.Op "," (node kind.Variable (t token.Variable "$a"
    none) none))) (t token.Op ")" none)))) (t token.Semi ";" none))) none))

joined_the_other_way_rewritten : Comes 200 (file joined_the_other_way_rewritten_tree) (file joined_the_other_way_rewritten_new_tree) (codes "a.php")
    ((codes "1-2"), ended)
    ((codes "1-2"), ended)
unfolding builtin_rows named_constants word_constants is_same_name newer_functions newer_classes newer_constants beyond_functions beyond_classes beyond_constants
joined_the_other_way_rewritten = (refl, refl)

-- <?php echo implode(',', [[1], 2]);
abbrev joined_arrays_tree : Forest
joined_arrays_tree =
    (node kind.Echo (t token.Keyword "echo" (node kind.Call (t token.Label "implode" (t token.Op "(" (node kind.Args
    (node kind.Text (t token.Text "','" none) (t token.Op "," (node kind.Array (t token.Op "[" (node kind.Item (node
    kind.Array (t token.Op "[" (node kind.Item (node kind.Number (t token.Int "1" none) none) (t token.Op "]" none)))
    none) (t token.Op "," (node kind.Item (node kind.Number (t token.Int "2" none) none) (t token.Op "]" none)))))
    none))) (t token.Op ")" none)))) (t token.Semi ";" none))) none)

joined_arrays : Comes 200 (file joined_arrays_tree) (file joined_arrays_tree) (codes "a.php")
    ((codes ""), outside Call)
    ((codes ""), outside Call)
unfolding builtin_rows named_constants word_constants is_same_name newer_functions newer_classes newer_constants beyond_functions beyond_classes beyond_constants
joined_arrays = (refl, refl)

-- <?php foreach (explode(',', 'a,b,,c') as $k => $v) { echo $k, $v, ';'; } echo count(explode('--', 'x----y')),
--  explode('b', 'abc')[1], count(explode('q', ''));
abbrev cut_tree : Forest
cut_tree =
    (node kind.Foreach (t token.Keyword "foreach" (t token.Op "(" (node kind.Call (t token.Label "explode" (t token.Op
    "(" (node kind.Args (node kind.Text (t token.Text "','" none) (t token.Op "," (node kind.Text (t token.Text
    "'a,b,,c'" none) none))) (t token.Op ")" none)))) (t token.Keyword "as" (node kind.Variable (t token.Variable "$k"
    none) (t token.Op "=>" (node kind.Variable (t token.Variable "$v" none) (t token.Op ")" (node kind.Block (t
    token.Op "{" (node kind.Echo (t token.Keyword "echo" (node kind.Variable (t token.Variable "$k" none) (t token.Op
    "," (node kind.Variable (t token.Variable "$v" none) (t token.Op "," (node kind.Text (t token.Text "';'" none) (t
    token.Semi ";" none))))))) (t token.Op "}" none))) none))))))))) (node kind.Echo (t token.Keyword "echo" (node
    kind.Call (t token.Label "count" (t token.Op "(" (node kind.Args (node kind.Call (t token.Label "explode" (t
    token.Op "(" (node kind.Args (node kind.Text (t token.Text "'--'" none) (t token.Op "," (node kind.Text (t
    token.Text "'x----y'" none) none))) (t token.Op ")" none)))) none) (t token.Op ")" none)))) (t token.Op "," (node
    kind.Offset (node kind.Call (t token.Label "explode" (t token.Op "(" (node kind.Args (node kind.Text (t token.Text
    "'b'" none) (t token.Op "," (node kind.Text (t token.Text "'abc'" none) none))) (t token.Op ")" none)))) (t
    token.Op "[" (node kind.Number (t token.Int "1" none) (t token.Op "]" none)))) (t token.Op "," (node kind.Call (t
    token.Label "count" (t token.Op "(" (node kind.Args (node kind.Call (t token.Label "explode" (t token.Op "(" (node
    kind.Args (node kind.Text (t token.Text "'q'" none) (t token.Op "," (node kind.Text (t token.Text "''" none)
    none))) (t token.Op ")" none)))) none) (t token.Op ")" none)))) (t token.Semi ";" none))))))) none))

cut : Comes 200 (file cut_tree) (file cut_tree) (codes "a.php")
    ((codes "0a;1b;2;3c;3c1"), ended)
    ((codes "0a;1b;2;3c;3c1"), ended)
unfolding builtin_rows named_constants word_constants is_same_name newer_functions newer_classes newer_constants beyond_functions beyond_classes beyond_constants
cut = (refl, refl)

-- <?php echo explode('', 'a');
abbrev cut_at_nothing_tree : Forest
cut_at_nothing_tree =
    (node kind.Echo (t token.Keyword "echo" (node kind.Call (t token.Label "explode" (t token.Op "(" (node kind.Args
    (node kind.Text (t token.Text "''" none) (t token.Op "," (node kind.Text (t token.Text "'a'" none) none))) (t
    token.Op ")" none)))) (t token.Semi ";" none))) none)

cut_at_nothing : Comes 200 (file cut_at_nothing_tree) (file cut_at_nothing_tree) (codes "a.php")
    ((codes ""), outside Call)
    ((codes ""), outside Call)
unfolding builtin_rows named_constants word_constants is_same_name newer_functions newer_classes newer_constants beyond_functions beyond_classes beyond_constants
cut_at_nothing = (refl, refl)

-- <?php echo str_repeat('ab', 3), '|', str_repeat('x', 0), '|', str_repeat('', 5);
abbrev repeated_tree : Forest
repeated_tree =
    (node kind.Echo (t token.Keyword "echo" (node kind.Call (t token.Label "str_repeat" (t token.Op "(" (node
    kind.Args (node kind.Text (t token.Text "'ab'" none) (t token.Op "," (node kind.Number (t token.Int "3" none)
    none))) (t token.Op ")" none)))) (t token.Op "," (node kind.Text (t token.Text "'|'" none) (t token.Op "," (node
    kind.Call (t token.Label "str_repeat" (t token.Op "(" (node kind.Args (node kind.Text (t token.Text "'x'" none) (t
    token.Op "," (node kind.Number (t token.Int "0" none) none))) (t token.Op ")" none)))) (t token.Op "," (node
    kind.Text (t token.Text "'|'" none) (t token.Op "," (node kind.Call (t token.Label "str_repeat" (t token.Op "("
    (node kind.Args (node kind.Text (t token.Text "''" none) (t token.Op "," (node kind.Number (t token.Int "5" none)
    none))) (t token.Op ")" none)))) (t token.Semi ";" none))))))))))) none)

repeated : Comes 200 (file repeated_tree) (file repeated_tree) (codes "a.php")
    ((codes "ababab||"), ended)
    ((codes "ababab||"), ended)
unfolding builtin_rows named_constants word_constants is_same_name newer_functions newer_classes newer_constants beyond_functions beyond_classes beyond_constants
repeated = (refl, refl)

-- <?php echo str_repeat('a', -1);
abbrev repeated_less_than_never_tree : Forest
repeated_less_than_never_tree =
    (node kind.Echo (t token.Keyword "echo" (node kind.Call (t token.Label "str_repeat" (t token.Op "(" (node
    kind.Args (node kind.Text (t token.Text "'a'" none) (t token.Op "," (node kind.Prefix (t token.Op "-" (node
    kind.Number (t token.Int "1" none) none)) none))) (t token.Op ")" none)))) (t token.Semi ";" none))) none)

repeated_less_than_never : Comes 200 (file repeated_less_than_never_tree) (file repeated_less_than_never_tree) (codes "a.php")
    ((codes ""), outside Call)
    ((codes ""), outside Call)
unfolding builtin_rows named_constants word_constants is_same_name newer_functions newer_classes newer_constants beyond_functions beyond_classes beyond_constants
repeated_less_than_never = (refl, refl)

-- <?php echo str_replace('l', 'L', 'hello'), str_replace('aa', 'b', 'aaaaa'), str_replace('x', '', 'axbx'), str_replace('q', 'r', 's');
abbrev replaced_tree : Forest
replaced_tree =
    (node kind.Echo (t token.Keyword "echo" (node kind.Call (t token.Label "str_replace" (t token.Op "(" (node
    kind.Args (node kind.Text (t token.Text "'l'" none) (t token.Op "," (node kind.Text (t token.Text "'L'" none) (t
    token.Op "," (node kind.Text (t token.Text "'hello'" none) none))))) (t token.Op ")" none)))) (t token.Op ","
    (node kind.Call (t token.Label "str_replace" (t token.Op "(" (node kind.Args (node kind.Text (t token.Text "'aa'"
    none) (t token.Op "," (node kind.Text (t token.Text "'b'" none) (t token.Op "," (node kind.Text (t token.Text
    "'aaaaa'" none) none))))) (t token.Op ")" none)))) (t token.Op "," (node kind.Call (t token.Label "str_replace" (t
    token.Op "(" (node kind.Args (node kind.Text (t token.Text "'x'" none) (t token.Op "," (node kind.Text (t
    token.Text "''" none) (t token.Op "," (node kind.Text (t token.Text "'axbx'" none) none))))) (t token.Op ")"
    none)))) (t token.Op "," (node kind.Call (t token.Label "str_replace" (t token.Op "(" (node kind.Args (node
    kind.Text (t token.Text "'q'" none) (t token.Op "," (node kind.Text (t token.Text "'r'" none) (t token.Op ","
    (node kind.Text (t token.Text "'s'" none) none))))) (t token.Op ")" none)))) (t token.Semi ";" none))))))))) none)

replaced : Comes 200 (file replaced_tree) (file replaced_tree) (codes "a.php")
    ((codes "heLLobbaabs"), ended)
    ((codes "heLLobbaabs"), ended)
unfolding builtin_rows named_constants word_constants is_same_name newer_functions newer_classes newer_constants beyond_functions beyond_classes beyond_constants
replaced = (refl, refl)

-- <?php echo str_replace('', 'a', 'b');
abbrev replaced_nothing_tree : Forest
replaced_nothing_tree =
    (node kind.Echo (t token.Keyword "echo" (node kind.Call (t token.Label "str_replace" (t token.Op "(" (node
    kind.Args (node kind.Text (t token.Text "''" none) (t token.Op "," (node kind.Text (t token.Text "'a'" none) (t
    token.Op "," (node kind.Text (t token.Text "'b'" none) none))))) (t token.Op ")" none)))) (t token.Semi ";"
    none))) none)

replaced_nothing : Comes 200 (file replaced_nothing_tree) (file replaced_nothing_tree) (codes "a.php")
    ((codes ""), outside Call)
    ((codes ""), outside Call)
unfolding builtin_rows named_constants word_constants is_same_name newer_functions newer_classes newer_constants beyond_functions beyond_classes beyond_constants
replaced_nothing = (refl, refl)

-- <?php echo '[', trim("  a b \t\n\r\0\x0B"), ']', '[', trim(''), ']', '[', trim("\x0Cx"), ']';
abbrev trimmed_tree : Forest
trimmed_tree =
    (node kind.Echo (t token.Keyword "echo" (node kind.Text (t token.Text "'['" none) (t token.Op "," (node kind.Call
    (t token.Label "trim" (t token.Op "(" (node kind.Args (node kind.Text (t token.Text "\"  a b \\t\\n\\r\\0\\x0B\""
    none) none) (t token.Op ")" none)))) (t token.Op "," (node kind.Text (t token.Text "']'" none) (t token.Op ","
    (node kind.Text (t token.Text "'['" none) (t token.Op "," (node kind.Call (t token.Label "trim" (t token.Op "("
    (node kind.Args (node kind.Text (t token.Text "''" none) none) (t token.Op ")" none)))) (t token.Op "," (node
    kind.Text (t token.Text "']'" none) (t token.Op "," (node kind.Text (t token.Text "'['" none) (t token.Op ","
    (node kind.Call (t token.Label "trim" (t token.Op "(" (node kind.Args (node kind.Text (t token.Text "\"\\x0Cx\""
    none) none) (t token.Op ")" none)))) (t token.Op "," (node kind.Text (t token.Text "']'" none) (t token.Semi ";"
    none))))))))))))))))))) none)

trimmed : Comes 200 (file trimmed_tree) (file trimmed_tree) (codes "a.php")
    ((91 ∷ 97 ∷ 32 ∷ 98 ∷ 93 ∷ 91 ∷ 93 ∷ 91 ∷ 12 ∷ 120 ∷ 93 ∷ []), ended)
    ((91 ∷ 97 ∷ 32 ∷ 98 ∷ 93 ∷ 91 ∷ 93 ∷ 91 ∷ 12 ∷ 120 ∷ 93 ∷ []), ended)
unfolding builtin_rows named_constants word_constants is_same_name newer_functions newer_classes newer_constants beyond_functions beyond_classes beyond_constants
trimmed = (refl, refl)

-- <?php echo chr(65), chr(97) . chr(48), ord('A'), ord('abc'), ord(chr(200));
abbrev bytes_tree : Forest
bytes_tree =
    (node kind.Echo (t token.Keyword "echo" (node kind.Call (t token.Label "chr" (t token.Op "(" (node kind.Args (node
    kind.Number (t token.Int "65" none) none) (t token.Op ")" none)))) (t token.Op "," (node kind.Binary (node
    kind.Call (t token.Label "chr" (t token.Op "(" (node kind.Args (node kind.Number (t token.Int "97" none) none) (t
    token.Op ")" none)))) (t token.Op "." (node kind.Call (t token.Label "chr" (t token.Op "(" (node kind.Args (node
    kind.Number (t token.Int "48" none) none) (t token.Op ")" none)))) none))) (t token.Op "," (node kind.Call (t
    token.Label "ord" (t token.Op "(" (node kind.Args (node kind.Text (t token.Text "'A'" none) none) (t token.Op ")"
    none)))) (t token.Op "," (node kind.Call (t token.Label "ord" (t token.Op "(" (node kind.Args (node kind.Text (t
    token.Text "'abc'" none) none) (t token.Op ")" none)))) (t token.Op "," (node kind.Call (t token.Label "ord" (t
    token.Op "(" (node kind.Args (node kind.Call (t token.Label "chr" (t token.Op "(" (node kind.Args (node
    kind.Number (t token.Int "200" none) none) (t token.Op ")" none)))) none) (t token.Op ")" none)))) (t token.Semi
    ";" none))))))))))) none)

bytes : Comes 200 (file bytes_tree) (file bytes_tree) (codes "a.php")
    ((codes "Aa06597200"), ended)
    ((codes "Aa06597200"), ended)
unfolding builtin_rows named_constants word_constants is_same_name newer_functions newer_classes newer_constants beyond_functions beyond_classes beyond_constants
bytes = (refl, refl)

-- <?php echo chr(256);
abbrev code_of_no_byte_tree : Forest
code_of_no_byte_tree =
    (node kind.Echo (t token.Keyword "echo" (node kind.Call (t token.Label "chr" (t token.Op "(" (node kind.Args (node
    kind.Number (t token.Int "256" none) none) (t token.Op ")" none)))) (t token.Semi ";" none))) none)

code_of_no_byte : Comes 200 (file code_of_no_byte_tree) (file code_of_no_byte_tree) (codes "a.php")
    ((codes ""), outside Call)
    ((codes ""), outside Call)
unfolding builtin_rows named_constants word_constants is_same_name newer_functions newer_classes newer_constants beyond_functions beyond_classes beyond_constants
code_of_no_byte = (refl, refl)

-- <?php echo ord('');
abbrev code_of_nothing_tree : Forest
code_of_nothing_tree =
    (node kind.Echo (t token.Keyword "echo" (node kind.Call (t token.Label "ord" (t token.Op "(" (node kind.Args (node
    kind.Text (t token.Text "''" none) none) (t token.Op ")" none)))) (t token.Semi ";" none))) none)

code_of_nothing : Comes 200 (file code_of_nothing_tree) (file code_of_nothing_tree) (codes "a.php")
    ((codes ""), outside Call)
    ((codes ""), outside Call)
unfolding builtin_rows named_constants word_constants is_same_name newer_functions newer_classes newer_constants beyond_functions beyond_classes beyond_constants
code_of_nothing = (refl, refl)
