-- Rows of whole programs: places, references, and loops by reference, held against real PHP. The 8.3 side is what PHP 8.2 echoes, where it has a meaning here.
use Rattle.std.proofs.Common.{refl, codes}
use Rattle.php_tree.specs.declared.token.TokenKind.TheVariants as token
use Rattle.php_tree.specs.declared.kind.NodeKind.TheVariants as kind
use Rattle.php_tree.specs.Tree.{Forest, none, node}
use Rattle.builtin_tables.specs.Builtins.{builtin_rows}
use Rattle.builtin_tables.specs.Constants.{named_constants, word_constants}
use Rattle.builtin_tables.specs.Named.{is_same_name}
use Rattle.builtin_tables.specs.Beyond.{beyond_functions, beyond_classes, beyond_constants}
use Rattle.builtin_tables.specs.Newer.{newer_functions, newer_classes, newer_constants}
use Rattle.php_meaning.specs.Cause.{NoRule, Offset, Reference}
use Rattle.meaning_rows.specs.Words.{t, b, file, ended, outside, Comes}

-- ---- unsetting below what holds no entries

-- <?php $a = 5; echo 1; unset($a["x"]["y"]); echo 2;
abbrev unset_below_an_int_tree : Forest
unset_below_an_int_tree =
    (node kind.ExprStmt (node kind.Assign (node kind.Variable (t token.Variable "$a" none) (t token.Op "="
    (node kind.Number (t token.Int "5" none) none))) (t token.Semi ";" none)) (node kind.Echo (t token.Keyword
    "echo" (node kind.Number (t token.Int "1" none) (t token.Semi ";" none))) (node kind.Unset (t
    token.Keyword "unset" (t token.Op "(" (node kind.Offset (node kind.Offset (node kind.Variable (t
    token.Variable "$a" none) (t token.Op "[" (node kind.Text (t token.Text "\"x\"" none) (t token.Op "]"
    none)))) (t token.Op "[" (node kind.Text (t token.Text "\"y\"" none) (t token.Op "]" none)))) (t token.Op
    ")" (t token.Semi ";" none))))) (node kind.Echo (t token.Keyword "echo" (node kind.Number (t token.Int "2"
    none) (t token.Semi ";" none))) none))))

unset_below_an_int : Comes 200 (file unset_below_an_int_tree) (file unset_below_an_int_tree) (codes "a.php")
    ((codes "1"), outside Offset)
    ((codes "1"), outside Offset)
unfolding builtin_rows named_constants word_constants is_same_name newer_functions newer_classes newer_constants beyond_functions beyond_classes beyond_constants
unset_below_an_int = (refl, refl)

-- <?php $a = ["k" => true]; echo 1; unset($a["k"]["x"]["y"]); echo 2;
abbrev unset_below_true_tree : Forest
unset_below_true_tree =
    (node kind.ExprStmt (node kind.Assign (node kind.Variable (t token.Variable "$a" none) (t token.Op "="
    (node kind.Array (t token.Op "[" (node kind.Item (node kind.Text (t token.Text "\"k\"" none) (t token.Op
    "=>" (node kind.Constant (t token.Label "true" none) none))) (t token.Op "]" none))) none))) (t token.Semi
    ";" none)) (node kind.Echo (t token.Keyword "echo" (node kind.Number (t token.Int "1" none) (t token.Semi
    ";" none))) (node kind.Unset (t token.Keyword "unset" (t token.Op "(" (node kind.Offset (node kind.Offset
    (node kind.Offset (node kind.Variable (t token.Variable "$a" none) (t token.Op "[" (node kind.Text (t
    token.Text "\"k\"" none) (t token.Op "]" none)))) (t token.Op "[" (node kind.Text (t token.Text "\"x\""
    none) (t token.Op "]" none)))) (t token.Op "[" (node kind.Text (t token.Text "\"y\"" none) (t token.Op "]"
    none)))) (t token.Op ")" (t token.Semi ";" none))))) (node kind.Echo (t token.Keyword "echo" (node
    kind.Number (t token.Int "2" none) (t token.Semi ";" none))) none))))

unset_below_true : Comes 200 (file unset_below_true_tree) (file unset_below_true_tree) (codes "a.php")
    ((codes "1"), outside Offset)
    ((codes "1"), outside Offset)
unfolding builtin_rows named_constants word_constants is_same_name newer_functions newer_classes newer_constants beyond_functions beyond_classes beyond_constants
unset_below_true = (refl, refl)

-- <?php $a = null; unset($a["x"]["y"]); $b = ["x" => false]; unset($b["x"]["y"]["z"]); $c = ["x" => ["y" => 1, "z" => 2]]; unset($c["x"]["y"], $c["n"]["m"]); echo
--   count($b), count($c), count($c["x"]);
abbrev unset_below_nothing_tree : Forest
unset_below_nothing_tree =
    (node kind.ExprStmt (node kind.Assign (node kind.Variable (t token.Variable "$a" none) (t token.Op "="
    (node kind.Constant (t token.Label "null" none) none))) (t token.Semi ";" none)) (node kind.Unset (t
    token.Keyword "unset" (t token.Op "(" (node kind.Offset (node kind.Offset (node kind.Variable (t
    token.Variable "$a" none) (t token.Op "[" (node kind.Text (t token.Text "\"x\"" none) (t token.Op "]"
    none)))) (t token.Op "[" (node kind.Text (t token.Text "\"y\"" none) (t token.Op "]" none)))) (t token.Op
    ")" (t token.Semi ";" none))))) (node kind.ExprStmt (node kind.Assign (node kind.Variable (t
    token.Variable "$b" none) (t token.Op "=" (node kind.Array (t token.Op "[" (node kind.Item (node kind.Text
    (t token.Text "\"x\"" none) (t token.Op "=>" (node kind.Constant (t token.Label "false" none) none))) (t
    token.Op "]" none))) none))) (t token.Semi ";" none)) (node kind.Unset (t token.Keyword "unset" (t
    token.Op "(" (node kind.Offset (node kind.Offset (node kind.Offset (node kind.Variable (t token.Variable
    "$b" none) (t token.Op "[" (node kind.Text (t token.Text "\"x\"" none) (t token.Op "]" none)))) (t
    token.Op "[" (node kind.Text (t token.Text "\"y\"" none) (t token.Op "]" none)))) (t token.Op "[" (node
    kind.Text (t token.Text "\"z\"" none) (t token.Op "]" none)))) (t token.Op ")" (t token.Semi ";" none)))))
    (node kind.ExprStmt (node kind.Assign (node kind.Variable (t token.Variable "$c" none) (t token.Op "="
    (node kind.Array (t token.Op "[" (node kind.Item (node kind.Text (t token.Text "\"x\"" none) (t token.Op
    "=>" (node kind.Array (t token.Op "[" (node kind.Item (node kind.Text (t token.Text "\"y\"" none) (t
    token.Op "=>" (node kind.Number (t token.Int "1" none) none))) (t token.Op "," (node kind.Item (node
    kind.Text (t token.Text "\"z\"" none) (t token.Op "=>" (node kind.Number (t token.Int "2" none) none))) (t
    token.Op "]" none))))) none))) (t token.Op "]" none))) none))) (t token.Semi ";" none)) (node kind.Unset
    (t token.Keyword "unset" (t token.Op "(" (node kind.Offset (node kind.Offset (node kind.Variable (t
    token.Variable "$c" none) (t token.Op "[" (node kind.Text (t token.Text "\"x\"" none) (t token.Op "]"
    none)))) (t token.Op "[" (node kind.Text (t token.Text "\"y\"" none) (t token.Op "]" none)))) (t token.Op
    "," (node kind.Offset (node kind.Offset (node kind.Variable (t token.Variable "$c" none) (t token.Op "["
    (node kind.Text (t token.Text "\"n\"" none) (t token.Op "]" none)))) (t token.Op "[" (node kind.Text (t
    token.Text "\"m\"" none) (t token.Op "]" none)))) (t token.Op ")" (t token.Semi ";" none))))))) (node
    kind.Echo (t token.Keyword "echo" (node kind.Call (t token.Label "count" (t token.Op "(" (node kind.Args
    (node kind.Variable (t token.Variable "$b" none) none) (t token.Op ")" none)))) (t token.Op "," (node
    kind.Call (t token.Label "count" (t token.Op "(" (node kind.Args (node kind.Variable (t token.Variable
    "$c" none) none) (t token.Op ")" none)))) (t token.Op "," (node kind.Call (t token.Label "count" (t
    token.Op "(" (node kind.Args (node kind.Offset (node kind.Variable (t token.Variable "$c" none) (t
    token.Op "[" (node kind.Text (t token.Text "\"x\"" none) (t token.Op "]" none)))) none) (t token.Op ")"
    none)))) (t token.Semi ";" none))))))) none)))))))

unset_below_nothing : Comes 200 (file unset_below_nothing_tree) (file unset_below_nothing_tree) (codes "a.php")
    ((codes "111"), ended)
    ((codes "111"), ended)
unfolding builtin_rows named_constants word_constants is_same_name newer_functions newer_classes newer_constants beyond_functions beyond_classes beyond_constants
unset_below_nothing = (refl, refl)

-- ---- loops by reference, and copies of what they walk over

-- <?php $a = [1, 2, 3]; $i = 0; foreach ($a as &$v) { echo $v; unset($v); if ($i++ == 0) $b = $a; }
abbrev walked_array_copied_tree : Forest
walked_array_copied_tree =
    (node kind.ExprStmt (node kind.Assign (node kind.Variable (t token.Variable "$a" none) (t token.Op "="
    (node kind.Array (t token.Op "[" (node kind.Item (node kind.Number (t token.Int "1" none) none) (t
    token.Op "," (node kind.Item (node kind.Number (t token.Int "2" none) none) (t token.Op "," (node
    kind.Item (node kind.Number (t token.Int "3" none) none) (t token.Op "]" none))))))) none))) (t token.Semi
    ";" none)) (node kind.ExprStmt (node kind.Assign (node kind.Variable (t token.Variable "$i" none) (t
    token.Op "=" (node kind.Number (t token.Int "0" none) none))) (t token.Semi ";" none)) (node kind.Foreach
    (t token.Keyword "foreach" (t token.Op "(" (node kind.Variable (t token.Variable "$a" none) (t
    token.Keyword "as" (t token.Op "&" (node kind.Variable (t token.Variable "$v" none) (t token.Op ")" (node
    kind.Block (t token.Op "{" (node kind.Echo (t token.Keyword "echo" (node kind.Variable (t token.Variable
    "$v" none) (t token.Semi ";" none))) (node kind.Unset (t token.Keyword "unset" (t token.Op "(" (node
    kind.Variable (t token.Variable "$v" none) (t token.Op ")" (t token.Semi ";" none))))) (node kind.If (t
    token.Keyword "if" (t token.Op "(" (node kind.Binary (node kind.Postfix (node kind.Variable (t
    token.Variable "$i" none) (t token.Op "++" none)) (t token.Op "==" (node kind.Number (t token.Int "0"
    none) none))) (t token.Op ")" (node kind.ExprStmt (node kind.Assign (node kind.Variable (t token.Variable
    "$b" none) (t token.Op "=" (node kind.Variable (t token.Variable "$a" none) none))) (t token.Semi ";"
    none)) none))))) (t token.Op "}" none))))) none)))))))) none)))

walked_array_copied : Comes 200 (file walked_array_copied_tree) (file walked_array_copied_tree) (codes "a.php")
    ((codes "1"), outside Reference)
    ((codes "1"), outside Reference)
unfolding builtin_rows named_constants word_constants is_same_name newer_functions newer_classes newer_constants beyond_functions beyond_classes beyond_constants
walked_array_copied = (refl, refl)

-- <?php $a = [1, 2, 3]; $i = 0; foreach ($a as &$v) { echo $v; unset($v); if ($i++ == 0) { $b = $a; $a = [9]; $a = $b; } }
abbrev array_put_back_tree : Forest
array_put_back_tree =
    (node kind.ExprStmt (node kind.Assign (node kind.Variable (t token.Variable "$a" none) (t token.Op "="
    (node kind.Array (t token.Op "[" (node kind.Item (node kind.Number (t token.Int "1" none) none) (t
    token.Op "," (node kind.Item (node kind.Number (t token.Int "2" none) none) (t token.Op "," (node
    kind.Item (node kind.Number (t token.Int "3" none) none) (t token.Op "]" none))))))) none))) (t token.Semi
    ";" none)) (node kind.ExprStmt (node kind.Assign (node kind.Variable (t token.Variable "$i" none) (t
    token.Op "=" (node kind.Number (t token.Int "0" none) none))) (t token.Semi ";" none)) (node kind.Foreach
    (t token.Keyword "foreach" (t token.Op "(" (node kind.Variable (t token.Variable "$a" none) (t
    token.Keyword "as" (t token.Op "&" (node kind.Variable (t token.Variable "$v" none) (t token.Op ")" (node
    kind.Block (t token.Op "{" (node kind.Echo (t token.Keyword "echo" (node kind.Variable (t token.Variable
    "$v" none) (t token.Semi ";" none))) (node kind.Unset (t token.Keyword "unset" (t token.Op "(" (node
    kind.Variable (t token.Variable "$v" none) (t token.Op ")" (t token.Semi ";" none))))) (node kind.If (t
    token.Keyword "if" (t token.Op "(" (node kind.Binary (node kind.Postfix (node kind.Variable (t
    token.Variable "$i" none) (t token.Op "++" none)) (t token.Op "==" (node kind.Number (t token.Int "0"
    none) none))) (t token.Op ")" (node kind.Block (t token.Op "{" (node kind.ExprStmt (node kind.Assign (node
    kind.Variable (t token.Variable "$b" none) (t token.Op "=" (node kind.Variable (t token.Variable "$a"
    none) none))) (t token.Semi ";" none)) (node kind.ExprStmt (node kind.Assign (node kind.Variable (t
    token.Variable "$a" none) (t token.Op "=" (node kind.Array (t token.Op "[" (node kind.Item (node
    kind.Number (t token.Int "9" none) none) (t token.Op "]" none))) none))) (t token.Semi ";" none)) (node
    kind.ExprStmt (node kind.Assign (node kind.Variable (t token.Variable "$a" none) (t token.Op "=" (node
    kind.Variable (t token.Variable "$b" none) none))) (t token.Semi ";" none)) (t token.Op "}" none)))))
    none))))) (t token.Op "}" none))))) none)))))))) none)))

array_put_back : Comes 200 (file array_put_back_tree) (file array_put_back_tree) (codes "a.php")
    ((codes "1"), outside Reference)
    ((codes "1"), outside Reference)
unfolding builtin_rows named_constants word_constants is_same_name newer_functions newer_classes newer_constants beyond_functions beyond_classes beyond_constants
array_put_back = (refl, refl)

-- <?php $x = ["a" => [1, 2]]; foreach ($x["a"] as &$v) { unset($v); echo 1; $y = $x; }
abbrev element_walked_and_copied_tree : Forest
element_walked_and_copied_tree =
    (node kind.ExprStmt (node kind.Assign (node kind.Variable (t token.Variable "$x" none) (t token.Op "="
    (node kind.Array (t token.Op "[" (node kind.Item (node kind.Text (t token.Text "\"a\"" none) (t token.Op
    "=>" (node kind.Array (t token.Op "[" (node kind.Item (node kind.Number (t token.Int "1" none) none) (t
    token.Op "," (node kind.Item (node kind.Number (t token.Int "2" none) none) (t token.Op "]" none)))))
    none))) (t token.Op "]" none))) none))) (t token.Semi ";" none)) (node kind.Foreach (t token.Keyword
    "foreach" (t token.Op "(" (node kind.Offset (node kind.Variable (t token.Variable "$x" none) (t token.Op
    "[" (node kind.Text (t token.Text "\"a\"" none) (t token.Op "]" none)))) (t token.Keyword "as" (t token.Op
    "&" (node kind.Variable (t token.Variable "$v" none) (t token.Op ")" (node kind.Block (t token.Op "{"
    (node kind.Unset (t token.Keyword "unset" (t token.Op "(" (node kind.Variable (t token.Variable "$v" none)
    (t token.Op ")" (t token.Semi ";" none))))) (node kind.Echo (t token.Keyword "echo" (node kind.Number (t
    token.Int "1" none) (t token.Semi ";" none))) (node kind.ExprStmt (node kind.Assign (node kind.Variable (t
    token.Variable "$y" none) (t token.Op "=" (node kind.Variable (t token.Variable "$x" none) none))) (t
    token.Semi ";" none)) (t token.Op "}" none))))) none)))))))) none))

element_walked_and_copied : Comes 200 (file element_walked_and_copied_tree) (file element_walked_and_copied_tree) (codes "a.php")
    ((codes "1"), outside Reference)
    ((codes "1"), outside Reference)
unfolding builtin_rows named_constants word_constants is_same_name newer_functions newer_classes newer_constants beyond_functions beyond_classes beyond_constants
element_walked_and_copied = (refl, refl)

-- <?php $a = [1, 2]; foreach ($a as &$v) { $v = $v + 1; } unset($v); $b = $a; $b[] = 9; echo count($a), count($b), $b[0]; foreach ($a as &$v) { echo $v; if (count($a) <
--   4) { $a[] = $v; } }
abbrev walked_array_copied_after_tree : Forest
walked_array_copied_after_tree =
    (node kind.ExprStmt (node kind.Assign (node kind.Variable (t token.Variable "$a" none) (t token.Op "="
    (node kind.Array (t token.Op "[" (node kind.Item (node kind.Number (t token.Int "1" none) none) (t
    token.Op "," (node kind.Item (node kind.Number (t token.Int "2" none) none) (t token.Op "]" none)))))
    none))) (t token.Semi ";" none)) (node kind.Foreach (t token.Keyword "foreach" (t token.Op "(" (node
    kind.Variable (t token.Variable "$a" none) (t token.Keyword "as" (t token.Op "&" (node kind.Variable (t
    token.Variable "$v" none) (t token.Op ")" (node kind.Block (t token.Op "{" (node kind.ExprStmt (node
    kind.Assign (node kind.Variable (t token.Variable "$v" none) (t token.Op "=" (node kind.Binary (node
    kind.Variable (t token.Variable "$v" none) (t token.Op "+" (node kind.Number (t token.Int "1" none)
    none))) none))) (t token.Semi ";" none)) (t token.Op "}" none))) none)))))))) (node kind.Unset (t
    token.Keyword "unset" (t token.Op "(" (node kind.Variable (t token.Variable "$v" none) (t token.Op ")" (t
    token.Semi ";" none))))) (node kind.ExprStmt (node kind.Assign (node kind.Variable (t token.Variable "$b"
    none) (t token.Op "=" (node kind.Variable (t token.Variable "$a" none) none))) (t token.Semi ";" none))
    (node kind.ExprStmt (node kind.Assign (node kind.Offset (node kind.Variable (t token.Variable "$b" none)
    (t token.Op "[" (t token.Op "]" none))) (t token.Op "=" (node kind.Number (t token.Int "9" none) none)))
    (t token.Semi ";" none)) (node kind.Echo (t token.Keyword "echo" (node kind.Call (t token.Label "count" (t
    token.Op "(" (node kind.Args (node kind.Variable (t token.Variable "$a" none) none) (t token.Op ")"
    none)))) (t token.Op "," (node kind.Call (t token.Label "count" (t token.Op "(" (node kind.Args (node
    kind.Variable (t token.Variable "$b" none) none) (t token.Op ")" none)))) (t token.Op "," (node
    kind.Offset (node kind.Variable (t token.Variable "$b" none) (t token.Op "[" (node kind.Number (t
    token.Int "0" none) (t token.Op "]" none)))) (t token.Semi ";" none))))))) (node kind.Foreach (t
    token.Keyword "foreach" (t token.Op "(" (node kind.Variable (t token.Variable "$a" none) (t token.Keyword
    "as" (t token.Op "&" (node kind.Variable (t token.Variable "$v" none) (t token.Op ")" (node kind.Block (t
    token.Op "{" (node kind.Echo (t token.Keyword "echo" (node kind.Variable (t token.Variable "$v" none) (t
    token.Semi ";" none))) (node kind.If (t token.Keyword "if" (t token.Op "(" (node kind.Binary (node
    kind.Call (t token.Label "count" (t token.Op "(" (node kind.Args (node kind.Variable (t token.Variable
    "$a" none) none) (t token.Op ")" none)))) (t token.Op "<" (node kind.Number (t token.Int "4" none) none)))
    (t token.Op ")" (node kind.Block (t token.Op "{" (node kind.ExprStmt (node kind.Assign (node kind.Offset
    (node kind.Variable (t token.Variable "$a" none) (t token.Op "[" (t token.Op "]" none))) (t token.Op "="
    (node kind.Variable (t token.Variable "$v" none) none))) (t token.Semi ";" none)) (t token.Op "}" none)))
    none))))) (t token.Op "}" none)))) none)))))))) none)))))))

walked_array_copied_after : Comes 200 (file walked_array_copied_after_tree) (file walked_array_copied_after_tree) (codes "a.php")
    ((codes "2322323"), ended)
    ((codes "2322323"), ended)
unfolding builtin_rows named_constants word_constants is_same_name newer_functions newer_classes newer_constants beyond_functions beyond_classes beyond_constants
walked_array_copied_after = (refl, refl)

-- <?php $rows = [[1, 2], [3]]; $out = []; foreach ($rows as &$row) { foreach ($row as &$cell) { $cell = $cell * 2; } unset($cell); $out[] = $row; } unset($row); echo
--   $out[0][1], $out[1][0], count($out);
abbrev walked_rows_kept_tree : Forest
walked_rows_kept_tree =
    (node kind.ExprStmt (node kind.Assign (node kind.Variable (t token.Variable "$rows" none) (t token.Op "="
    (node kind.Array (t token.Op "[" (node kind.Item (node kind.Array (t token.Op "[" (node kind.Item (node
    kind.Number (t token.Int "1" none) none) (t token.Op "," (node kind.Item (node kind.Number (t token.Int
    "2" none) none) (t token.Op "]" none))))) none) (t token.Op "," (node kind.Item (node kind.Array (t
    token.Op "[" (node kind.Item (node kind.Number (t token.Int "3" none) none) (t token.Op "]" none))) none)
    (t token.Op "]" none))))) none))) (t token.Semi ";" none)) (node kind.ExprStmt (node kind.Assign (node
    kind.Variable (t token.Variable "$out" none) (t token.Op "=" (node kind.Array (t token.Op "[" (t token.Op
    "]" none)) none))) (t token.Semi ";" none)) (node kind.Foreach (t token.Keyword "foreach" (t token.Op "("
    (node kind.Variable (t token.Variable "$rows" none) (t token.Keyword "as" (t token.Op "&" (node
    kind.Variable (t token.Variable "$row" none) (t token.Op ")" (node kind.Block (t token.Op "{" (node
    kind.Foreach (t token.Keyword "foreach" (t token.Op "(" (node kind.Variable (t token.Variable "$row" none)
    (t token.Keyword "as" (t token.Op "&" (node kind.Variable (t token.Variable "$cell" none) (t token.Op ")"
    (node kind.Block (t token.Op "{" (node kind.ExprStmt (node kind.Assign (node kind.Variable (t
    token.Variable "$cell" none) (t token.Op "=" (node kind.Binary (node kind.Variable (t token.Variable
    "$cell" none) (t token.Op "*" (node kind.Number (t token.Int "2" none) none))) none))) (t token.Semi ";"
    none)) (t token.Op "}" none))) none)))))))) (node kind.Unset (t token.Keyword "unset" (t token.Op "("
    (node kind.Variable (t token.Variable "$cell" none) (t token.Op ")" (t token.Semi ";" none))))) (node
    kind.ExprStmt (node kind.Assign (node kind.Offset (node kind.Variable (t token.Variable "$out" none) (t
    token.Op "[" (t token.Op "]" none))) (t token.Op "=" (node kind.Variable (t token.Variable "$row" none)
    none))) (t token.Semi ";" none)) (t token.Op "}" none))))) none)))))))) (node kind.Unset (t token.Keyword
    "unset" (t token.Op "(" (node kind.Variable (t token.Variable "$row" none) (t token.Op ")" (t token.Semi
    ";" none))))) (node kind.Echo (t token.Keyword "echo" (node kind.Offset (node kind.Offset (node
    kind.Variable (t token.Variable "$out" none) (t token.Op "[" (node kind.Number (t token.Int "0" none) (t
    token.Op "]" none)))) (t token.Op "[" (node kind.Number (t token.Int "1" none) (t token.Op "]" none)))) (t
    token.Op "," (node kind.Offset (node kind.Offset (node kind.Variable (t token.Variable "$out" none) (t
    token.Op "[" (node kind.Number (t token.Int "1" none) (t token.Op "]" none)))) (t token.Op "[" (node
    kind.Number (t token.Int "0" none) (t token.Op "]" none)))) (t token.Op "," (node kind.Call (t token.Label
    "count" (t token.Op "(" (node kind.Args (node kind.Variable (t token.Variable "$out" none) none) (t
    token.Op ")" none)))) (t token.Semi ";" none))))))) none)))))

walked_rows_kept : Comes 200 (file walked_rows_kept_tree) (file walked_rows_kept_tree) (codes "a.php")
    ((codes "462"), ended)
    ((codes "462"), ended)
unfolding builtin_rows named_constants word_constants is_same_name newer_functions newer_classes newer_constants beyond_functions beyond_classes beyond_constants
walked_rows_kept = (refl, refl)

-- <?php $x = ["a" => [1, 2]]; foreach ($x["a"] as &$v) { $v = $v + 1; } unset($v); $y = $x; $y["a"][0] = 9; echo $x["a"][0], $x["a"][1], $y["a"][0];
abbrev element_walked_tree : Forest
element_walked_tree =
    (node kind.ExprStmt (node kind.Assign (node kind.Variable (t token.Variable "$x" none) (t token.Op "="
    (node kind.Array (t token.Op "[" (node kind.Item (node kind.Text (t token.Text "\"a\"" none) (t token.Op
    "=>" (node kind.Array (t token.Op "[" (node kind.Item (node kind.Number (t token.Int "1" none) none) (t
    token.Op "," (node kind.Item (node kind.Number (t token.Int "2" none) none) (t token.Op "]" none)))))
    none))) (t token.Op "]" none))) none))) (t token.Semi ";" none)) (node kind.Foreach (t token.Keyword
    "foreach" (t token.Op "(" (node kind.Offset (node kind.Variable (t token.Variable "$x" none) (t token.Op
    "[" (node kind.Text (t token.Text "\"a\"" none) (t token.Op "]" none)))) (t token.Keyword "as" (t token.Op
    "&" (node kind.Variable (t token.Variable "$v" none) (t token.Op ")" (node kind.Block (t token.Op "{"
    (node kind.ExprStmt (node kind.Assign (node kind.Variable (t token.Variable "$v" none) (t token.Op "="
    (node kind.Binary (node kind.Variable (t token.Variable "$v" none) (t token.Op "+" (node kind.Number (t
    token.Int "1" none) none))) none))) (t token.Semi ";" none)) (t token.Op "}" none))) none)))))))) (node
    kind.Unset (t token.Keyword "unset" (t token.Op "(" (node kind.Variable (t token.Variable "$v" none) (t
    token.Op ")" (t token.Semi ";" none))))) (node kind.ExprStmt (node kind.Assign (node kind.Variable (t
    token.Variable "$y" none) (t token.Op "=" (node kind.Variable (t token.Variable "$x" none) none))) (t
    token.Semi ";" none)) (node kind.ExprStmt (node kind.Assign (node kind.Offset (node kind.Offset (node
    kind.Variable (t token.Variable "$y" none) (t token.Op "[" (node kind.Text (t token.Text "\"a\"" none) (t
    token.Op "]" none)))) (t token.Op "[" (node kind.Number (t token.Int "0" none) (t token.Op "]" none)))) (t
    token.Op "=" (node kind.Number (t token.Int "9" none) none))) (t token.Semi ";" none)) (node kind.Echo (t
    token.Keyword "echo" (node kind.Offset (node kind.Offset (node kind.Variable (t token.Variable "$x" none)
    (t token.Op "[" (node kind.Text (t token.Text "\"a\"" none) (t token.Op "]" none)))) (t token.Op "[" (node
    kind.Number (t token.Int "0" none) (t token.Op "]" none)))) (t token.Op "," (node kind.Offset (node
    kind.Offset (node kind.Variable (t token.Variable "$x" none) (t token.Op "[" (node kind.Text (t token.Text
    "\"a\"" none) (t token.Op "]" none)))) (t token.Op "[" (node kind.Number (t token.Int "1" none) (t
    token.Op "]" none)))) (t token.Op "," (node kind.Offset (node kind.Offset (node kind.Variable (t
    token.Variable "$y" none) (t token.Op "[" (node kind.Text (t token.Text "\"a\"" none) (t token.Op "]"
    none)))) (t token.Op "[" (node kind.Number (t token.Int "0" none) (t token.Op "]" none)))) (t token.Semi
    ";" none))))))) none))))))

element_walked : Comes 200 (file element_walked_tree) (file element_walked_tree) (codes "a.php")
    ((codes "239"), ended)
    ((codes "239"), ended)
unfolding builtin_rows named_constants word_constants is_same_name newer_functions newer_classes newer_constants beyond_functions beyond_classes beyond_constants
element_walked = (refl, refl)

-- ---- arrays that a loop by reference meets after its own

-- <?php $a = [1, 2]; foreach ($a as &$v) { echo $v; if ($v == 2) { $a = null; $a[] = 7; } if ($v == 7) { $a[] = 8; } }
abbrev array_made_in_a_loop_tree : Forest
array_made_in_a_loop_tree =
    (node kind.ExprStmt (node kind.Assign (node kind.Variable (t token.Variable "$a" none) (t token.Op "="
    (node kind.Array (t token.Op "[" (node kind.Item (node kind.Number (t token.Int "1" none) none) (t
    token.Op "," (node kind.Item (node kind.Number (t token.Int "2" none) none) (t token.Op "]" none)))))
    none))) (t token.Semi ";" none)) (node kind.Foreach (t token.Keyword "foreach" (t token.Op "(" (node
    kind.Variable (t token.Variable "$a" none) (t token.Keyword "as" (t token.Op "&" (node kind.Variable (t
    token.Variable "$v" none) (t token.Op ")" (node kind.Block (t token.Op "{" (node kind.Echo (t
    token.Keyword "echo" (node kind.Variable (t token.Variable "$v" none) (t token.Semi ";" none))) (node
    kind.If (t token.Keyword "if" (t token.Op "(" (node kind.Binary (node kind.Variable (t token.Variable "$v"
    none) (t token.Op "==" (node kind.Number (t token.Int "2" none) none))) (t token.Op ")" (node kind.Block
    (t token.Op "{" (node kind.ExprStmt (node kind.Assign (node kind.Variable (t token.Variable "$a" none) (t
    token.Op "=" (node kind.Constant (t token.Label "null" none) none))) (t token.Semi ";" none)) (node
    kind.ExprStmt (node kind.Assign (node kind.Offset (node kind.Variable (t token.Variable "$a" none) (t
    token.Op "[" (t token.Op "]" none))) (t token.Op "=" (node kind.Number (t token.Int "7" none) none))) (t
    token.Semi ";" none)) (t token.Op "}" none)))) none))))) (node kind.If (t token.Keyword "if" (t token.Op
    "(" (node kind.Binary (node kind.Variable (t token.Variable "$v" none) (t token.Op "==" (node kind.Number
    (t token.Int "7" none) none))) (t token.Op ")" (node kind.Block (t token.Op "{" (node kind.ExprStmt (node
    kind.Assign (node kind.Offset (node kind.Variable (t token.Variable "$a" none) (t token.Op "[" (t token.Op
    "]" none))) (t token.Op "=" (node kind.Number (t token.Int "8" none) none))) (t token.Semi ";" none)) (t
    token.Op "}" none))) none))))) (t token.Op "}" none))))) none)))))))) none))

array_made_in_a_loop : Comes 200 (file array_made_in_a_loop_tree) (file array_made_in_a_loop_tree) (codes "a.php")
    ((codes "1278"), ended)
    ((codes "1278"), ended)
unfolding builtin_rows named_constants word_constants is_same_name newer_functions newer_classes newer_constants beyond_functions beyond_classes beyond_constants
array_made_in_a_loop = (refl, refl)

-- <?php $a = [1]; foreach ($a as &$v) { echo $v; if ($v == 1) { $b = [5]; $b += [1 => 6, 2 => 7, 3 => 8, 4 => 9]; $a = [2, 3]; } }
abbrev array_added_in_a_loop_tree : Forest
array_added_in_a_loop_tree =
    (node kind.ExprStmt (node kind.Assign (node kind.Variable (t token.Variable "$a" none) (t token.Op "="
    (node kind.Array (t token.Op "[" (node kind.Item (node kind.Number (t token.Int "1" none) none) (t
    token.Op "]" none))) none))) (t token.Semi ";" none)) (node kind.Foreach (t token.Keyword "foreach" (t
    token.Op "(" (node kind.Variable (t token.Variable "$a" none) (t token.Keyword "as" (t token.Op "&" (node
    kind.Variable (t token.Variable "$v" none) (t token.Op ")" (node kind.Block (t token.Op "{" (node
    kind.Echo (t token.Keyword "echo" (node kind.Variable (t token.Variable "$v" none) (t token.Semi ";"
    none))) (node kind.If (t token.Keyword "if" (t token.Op "(" (node kind.Binary (node kind.Variable (t
    token.Variable "$v" none) (t token.Op "==" (node kind.Number (t token.Int "1" none) none))) (t token.Op
    ")" (node kind.Block (t token.Op "{" (node kind.ExprStmt (node kind.Assign (node kind.Variable (t
    token.Variable "$b" none) (t token.Op "=" (node kind.Array (t token.Op "[" (node kind.Item (node
    kind.Number (t token.Int "5" none) none) (t token.Op "]" none))) none))) (t token.Semi ";" none)) (node
    kind.ExprStmt (node kind.CompoundAssign (node kind.Variable (t token.Variable "$b" none) (t token.Op "+="
    (node kind.Array (t token.Op "[" (node kind.Item (node kind.Number (t token.Int "1" none) (t token.Op "=>"
    (node kind.Number (t token.Int "6" none) none))) (t token.Op "," (node kind.Item (node kind.Number (t
    token.Int "2" none) (t token.Op "=>" (node kind.Number (t token.Int "7" none) none))) (t token.Op ","
    (node kind.Item (node kind.Number (t token.Int "3" none) (t token.Op "=>" (node kind.Number (t token.Int
    "8" none) none))) (t token.Op "," (node kind.Item (node kind.Number (t token.Int "4" none) (t token.Op
    "=>" (node kind.Number (t token.Int "9" none) none))) (t token.Op "]" none))))))))) none))) (t token.Semi
    ";" none)) (node kind.ExprStmt (node kind.Assign (node kind.Variable (t token.Variable "$a" none) (t
    token.Op "=" (node kind.Array (t token.Op "[" (node kind.Item (node kind.Number (t token.Int "2" none)
    none) (t token.Op "," (node kind.Item (node kind.Number (t token.Int "3" none) none) (t token.Op "]"
    none))))) none))) (t token.Semi ";" none)) (t token.Op "}" none))))) none))))) (t token.Op "}" none))))
    none)))))))) none))

array_added_in_a_loop : Comes 200 (file array_added_in_a_loop_tree) (file array_added_in_a_loop_tree) (codes "a.php")
    ((codes "123"), ended)
    ((codes "123"), ended)
unfolding builtin_rows named_constants word_constants is_same_name newer_functions newer_classes newer_constants beyond_functions beyond_classes beyond_constants
array_added_in_a_loop = (refl, refl)

-- <?php foreach ($_GET as &$v) { echo $v; if ($v == "2") { $_GET = ["x", "y"]; } }
abbrev request_in_a_loop_tree : Forest
request_in_a_loop_tree =
    (node kind.Foreach (t token.Keyword "foreach" (t token.Op "(" (node kind.Variable (t token.Variable
    "$_GET" none) (t token.Keyword "as" (t token.Op "&" (node kind.Variable (t token.Variable "$v" none) (t
    token.Op ")" (node kind.Block (t token.Op "{" (node kind.Echo (t token.Keyword "echo" (node kind.Variable
    (t token.Variable "$v" none) (t token.Semi ";" none))) (node kind.If (t token.Keyword "if" (t token.Op "("
    (node kind.Binary (node kind.Variable (t token.Variable "$v" none) (t token.Op "==" (node kind.Text (t
    token.Text "\"2\"" none) none))) (t token.Op ")" (node kind.Block (t token.Op "{" (node kind.ExprStmt
    (node kind.Assign (node kind.Variable (t token.Variable "$_GET" none) (t token.Op "=" (node kind.Array (t
    token.Op "[" (node kind.Item (node kind.Text (t token.Text "\"x\"" none) none) (t token.Op "," (node
    kind.Item (node kind.Text (t token.Text "\"y\"" none) none) (t token.Op "]" none))))) none))) (t
    token.Semi ";" none)) (t token.Op "}" none))) none))))) (t token.Op "}" none)))) none)))))))) none)

request_in_a_loop : Comes 200 (file request_in_a_loop_tree) (file request_in_a_loop_tree) (codes "a.php")
    ((codes "2xy"), ended)
    ((codes "2xy"), ended)
unfolding builtin_rows named_constants word_constants is_same_name newer_functions newer_classes newer_constants beyond_functions beyond_classes beyond_constants
request_in_a_loop = (refl, refl)

-- <?php $a = [1, 2]; $c = [5, 6]; foreach ($a as &$v) { echo $v; if ($v == 2) { $a = $c; } }
abbrev other_array_in_a_loop_tree : Forest
other_array_in_a_loop_tree =
    (node kind.ExprStmt (node kind.Assign (node kind.Variable (t token.Variable "$a" none) (t token.Op "="
    (node kind.Array (t token.Op "[" (node kind.Item (node kind.Number (t token.Int "1" none) none) (t
    token.Op "," (node kind.Item (node kind.Number (t token.Int "2" none) none) (t token.Op "]" none)))))
    none))) (t token.Semi ";" none)) (node kind.ExprStmt (node kind.Assign (node kind.Variable (t
    token.Variable "$c" none) (t token.Op "=" (node kind.Array (t token.Op "[" (node kind.Item (node
    kind.Number (t token.Int "5" none) none) (t token.Op "," (node kind.Item (node kind.Number (t token.Int
    "6" none) none) (t token.Op "]" none))))) none))) (t token.Semi ";" none)) (node kind.Foreach (t
    token.Keyword "foreach" (t token.Op "(" (node kind.Variable (t token.Variable "$a" none) (t token.Keyword
    "as" (t token.Op "&" (node kind.Variable (t token.Variable "$v" none) (t token.Op ")" (node kind.Block (t
    token.Op "{" (node kind.Echo (t token.Keyword "echo" (node kind.Variable (t token.Variable "$v" none) (t
    token.Semi ";" none))) (node kind.If (t token.Keyword "if" (t token.Op "(" (node kind.Binary (node
    kind.Variable (t token.Variable "$v" none) (t token.Op "==" (node kind.Number (t token.Int "2" none)
    none))) (t token.Op ")" (node kind.Block (t token.Op "{" (node kind.ExprStmt (node kind.Assign (node
    kind.Variable (t token.Variable "$a" none) (t token.Op "=" (node kind.Variable (t token.Variable "$c"
    none) none))) (t token.Semi ";" none)) (t token.Op "}" none))) none))))) (t token.Op "}" none))))
    none)))))))) none)))

other_array_in_a_loop : Comes 200 (file other_array_in_a_loop_tree) (file other_array_in_a_loop_tree) (codes "a.php")
    ((codes "1256"), ended)
    ((codes "1256"), ended)
unfolding builtin_rows named_constants word_constants is_same_name newer_functions newer_classes newer_constants beyond_functions beyond_classes beyond_constants
other_array_in_a_loop = (refl, refl)

-- ---- targets, found once the right side was evaluated

-- <?php class N { public $a; public $v = 1; } function f($o) { $o->a = new N; return 7; } $o = new N; $o->a = new N; $old = $o->a; $o->a->v = f($o); echo $old->v,
--   $o->a->v;
abbrev object_of_target_changed_tree : Forest
object_of_target_changed_tree =
    (node kind.Class (t token.Keyword "class" (t token.Label "N" (t token.Op "{" (node kind.Property (t
    token.Keyword "public" (t token.Variable "$a" (t token.Semi ";" none))) (node kind.Property (t
    token.Keyword "public" (t token.Variable "$v" (t token.Op "=" (node kind.Number (t token.Int "1" none) (t
    token.Semi ";" none))))) (t token.Op "}" none)))))) (node kind.Function (t token.Keyword "function" (t
    token.Label "f" (t token.Op "(" (node kind.Param (t token.Variable "$o" none) (t token.Op ")" (node
    kind.Block (t token.Op "{" (node kind.ExprStmt (node kind.Assign (node kind.Prop (node kind.Variable (t
    token.Variable "$o" none) (t token.Op "->" (t token.Label "a" none))) (t token.Op "=" (node kind.New (t
    token.Keyword "new" (t token.Label "N" none)) none))) (t token.Semi ";" none)) (node kind.Return (t
    token.Keyword "return" (node kind.Number (t token.Int "7" none) (t token.Semi ";" none))) (t token.Op "}"
    none)))) none)))))) (node kind.ExprStmt (node kind.Assign (node kind.Variable (t token.Variable "$o" none)
    (t token.Op "=" (node kind.New (t token.Keyword "new" (t token.Label "N" none)) none))) (t token.Semi ";"
    none)) (node kind.ExprStmt (node kind.Assign (node kind.Prop (node kind.Variable (t token.Variable "$o"
    none) (t token.Op "->" (t token.Label "a" none))) (t token.Op "=" (node kind.New (t token.Keyword "new" (t
    token.Label "N" none)) none))) (t token.Semi ";" none)) (node kind.ExprStmt (node kind.Assign (node
    kind.Variable (t token.Variable "$old" none) (t token.Op "=" (node kind.Prop (node kind.Variable (t
    token.Variable "$o" none) (t token.Op "->" (t token.Label "a" none))) none))) (t token.Semi ";" none))
    (node kind.ExprStmt (node kind.Assign (node kind.Prop (node kind.Prop (node kind.Variable (t
    token.Variable "$o" none) (t token.Op "->" (t token.Label "a" none))) (t token.Op "->" (t token.Label "v"
    none))) (t token.Op "=" (node kind.Call (t token.Label "f" (t token.Op "(" (node kind.Args (node
    kind.Variable (t token.Variable "$o" none) none) (t token.Op ")" none)))) none))) (t token.Semi ";" none))
    (node kind.Echo (t token.Keyword "echo" (node kind.Prop (node kind.Variable (t token.Variable "$old" none)
    (t token.Op "->" (t token.Label "v" none))) (t token.Op "," (node kind.Prop (node kind.Prop (node
    kind.Variable (t token.Variable "$o" none) (t token.Op "->" (t token.Label "a" none))) (t token.Op "->" (t
    token.Label "v" none))) (t token.Semi ";" none))))) none)))))))

object_of_target_changed : Comes 200 (file object_of_target_changed_tree) (file object_of_target_changed_tree) (codes "a.php")
    ((codes "17"), ended)
    ((codes "17"), ended)
unfolding builtin_rows named_constants word_constants is_same_name newer_functions newer_classes newer_constants beyond_functions beyond_classes beyond_constants
object_of_target_changed = (refl, refl)

-- <?php class N { public $v = 1; } function f() { global $o; $o = new N; return 7; } $o = new N; $old = $o; $o->v = f(); echo $old->v, $o->v;
abbrev object_variable_of_target_changed_tree : Forest
object_variable_of_target_changed_tree =
    (node kind.Class (t token.Keyword "class" (t token.Label "N" (t token.Op "{" (node kind.Property (t
    token.Keyword "public" (t token.Variable "$v" (t token.Op "=" (node kind.Number (t token.Int "1" none) (t
    token.Semi ";" none))))) (t token.Op "}" none))))) (node kind.Function (t token.Keyword "function" (t
    token.Label "f" (t token.Op "(" (t token.Op ")" (node kind.Block (t token.Op "{" (node kind.Global (t
    token.Keyword "global" (node kind.Variable (t token.Variable "$o" none) (t token.Semi ";" none))) (node
    kind.ExprStmt (node kind.Assign (node kind.Variable (t token.Variable "$o" none) (t token.Op "=" (node
    kind.New (t token.Keyword "new" (t token.Label "N" none)) none))) (t token.Semi ";" none)) (node
    kind.Return (t token.Keyword "return" (node kind.Number (t token.Int "7" none) (t token.Semi ";" none)))
    (t token.Op "}" none))))) none))))) (node kind.ExprStmt (node kind.Assign (node kind.Variable (t
    token.Variable "$o" none) (t token.Op "=" (node kind.New (t token.Keyword "new" (t token.Label "N" none))
    none))) (t token.Semi ";" none)) (node kind.ExprStmt (node kind.Assign (node kind.Variable (t
    token.Variable "$old" none) (t token.Op "=" (node kind.Variable (t token.Variable "$o" none) none))) (t
    token.Semi ";" none)) (node kind.ExprStmt (node kind.Assign (node kind.Prop (node kind.Variable (t
    token.Variable "$o" none) (t token.Op "->" (t token.Label "v" none))) (t token.Op "=" (node kind.Call (t
    token.Label "f" (t token.Op "(" (node kind.Args none (t token.Op ")" none)))) none))) (t token.Semi ";"
    none)) (node kind.Echo (t token.Keyword "echo" (node kind.Prop (node kind.Variable (t token.Variable
    "$old" none) (t token.Op "->" (t token.Label "v" none))) (t token.Op "," (node kind.Prop (node
    kind.Variable (t token.Variable "$o" none) (t token.Op "->" (t token.Label "v" none))) (t token.Semi ";"
    none))))) none))))))

object_variable_of_target_changed : Comes 200 (file object_variable_of_target_changed_tree) (file object_variable_of_target_changed_tree) (codes "a.php")
    ((codes "17"), ended)
    ((codes "17"), ended)
unfolding builtin_rows named_constants word_constants is_same_name newer_functions newer_classes newer_constants beyond_functions beyond_classes beyond_constants
object_variable_of_target_changed = (refl, refl)

-- <?php class A {} function f() { echo "f"; return 1; } try { A::$none = f(); } catch (Error $e) { echo "E"; }
abbrev missing_static_target_tree : Forest
missing_static_target_tree =
    (node kind.Class (t token.Keyword "class" (t token.Label "A" (t token.Op "{" (t token.Op "}" none))))
    (node kind.Function (t token.Keyword "function" (t token.Label "f" (t token.Op "(" (t token.Op ")" (node
    kind.Block (t token.Op "{" (node kind.Echo (t token.Keyword "echo" (node kind.Text (t token.Text "\"f\""
    none) (t token.Semi ";" none))) (node kind.Return (t token.Keyword "return" (node kind.Number (t token.Int
    "1" none) (t token.Semi ";" none))) (t token.Op "}" none)))) none))))) (node kind.Try (t token.Keyword
    "try" (node kind.Block (t token.Op "{" (node kind.ExprStmt (node kind.Assign (node kind.StaticProp (t
    token.Label "A" (t token.Op "::" (t token.Variable "$none" none))) (t token.Op "=" (node kind.Call (t
    token.Label "f" (t token.Op "(" (node kind.Args none (t token.Op ")" none)))) none))) (t token.Semi ";"
    none)) (t token.Op "}" none))) (t token.Keyword "catch" (t token.Op "(" (t token.Label "Error" (t
    token.Variable "$e" (t token.Op ")" (node kind.Block (t token.Op "{" (node kind.Echo (t token.Keyword
    "echo" (node kind.Text (t token.Text "\"E\"" none) (t token.Semi ";" none))) (t token.Op "}" none)))
    none)))))))) none)))

missing_static_target : Comes 200 (file missing_static_target_tree) (file missing_static_target_tree) (codes "a.php")
    ((codes "fE"), ended)
    ((codes "fE"), ended)
unfolding builtin_rows named_constants word_constants is_same_name newer_functions newer_classes newer_constants beyond_functions beyond_classes beyond_constants
missing_static_target = (refl, refl)

-- <?php class A { static $s = []; } function f() { echo "f"; A::$s = [1, 2]; return 3; } A::$s[] = f(); echo count(A::$s), A::$s[2];
abbrev missing_static_of_element_tree : Forest
missing_static_of_element_tree =
    (node kind.Class (t token.Keyword "class" (t token.Label "A" (t token.Op "{" (node kind.Property (t
    token.Keyword "static" (t token.Variable "$s" (t token.Op "=" (node kind.Array (t token.Op "[" (t token.Op
    "]" none)) (t token.Semi ";" none))))) (t token.Op "}" none))))) (node kind.Function (t token.Keyword
    "function" (t token.Label "f" (t token.Op "(" (t token.Op ")" (node kind.Block (t token.Op "{" (node
    kind.Echo (t token.Keyword "echo" (node kind.Text (t token.Text "\"f\"" none) (t token.Semi ";" none)))
    (node kind.ExprStmt (node kind.Assign (node kind.StaticProp (t token.Label "A" (t token.Op "::" (t
    token.Variable "$s" none))) (t token.Op "=" (node kind.Array (t token.Op "[" (node kind.Item (node
    kind.Number (t token.Int "1" none) none) (t token.Op "," (node kind.Item (node kind.Number (t token.Int
    "2" none) none) (t token.Op "]" none))))) none))) (t token.Semi ";" none)) (node kind.Return (t
    token.Keyword "return" (node kind.Number (t token.Int "3" none) (t token.Semi ";" none))) (t token.Op "}"
    none))))) none))))) (node kind.ExprStmt (node kind.Assign (node kind.Offset (node kind.StaticProp (t
    token.Label "A" (t token.Op "::" (t token.Variable "$s" none))) (t token.Op "[" (t token.Op "]" none))) (t
    token.Op "=" (node kind.Call (t token.Label "f" (t token.Op "(" (node kind.Args none (t token.Op ")"
    none)))) none))) (t token.Semi ";" none)) (node kind.Echo (t token.Keyword "echo" (node kind.Call (t
    token.Label "count" (t token.Op "(" (node kind.Args (node kind.StaticProp (t token.Label "A" (t token.Op
    "::" (t token.Variable "$s" none))) none) (t token.Op ")" none)))) (t token.Op "," (node kind.Offset (node
    kind.StaticProp (t token.Label "A" (t token.Op "::" (t token.Variable "$s" none))) (t token.Op "[" (node
    kind.Number (t token.Int "2" none) (t token.Op "]" none)))) (t token.Semi ";" none))))) none))))

missing_static_of_element : Comes 200 (file missing_static_of_element_tree) (file missing_static_of_element_tree) (codes "a.php")
    ((codes "f33"), ended)
    ((codes "f33"), ended)
unfolding builtin_rows named_constants word_constants is_same_name newer_functions newer_classes newer_constants beyond_functions beyond_classes beyond_constants
missing_static_of_element = (refl, refl)

-- <?php class T { private $p; } $t = new T; function f() { echo "f"; return 1; } try { $t->p ??= f(); } catch (Error $e) { echo "E"; }
abbrev if_null_throws_after_tree : Forest
if_null_throws_after_tree =
    (node kind.Class (t token.Keyword "class" (t token.Label "T" (t token.Op "{" (node kind.Property (t
    token.Keyword "private" (t token.Variable "$p" (t token.Semi ";" none))) (t token.Op "}" none))))) (node
    kind.ExprStmt (node kind.Assign (node kind.Variable (t token.Variable "$t" none) (t token.Op "=" (node
    kind.New (t token.Keyword "new" (t token.Label "T" none)) none))) (t token.Semi ";" none)) (node
    kind.Function (t token.Keyword "function" (t token.Label "f" (t token.Op "(" (t token.Op ")" (node
    kind.Block (t token.Op "{" (node kind.Echo (t token.Keyword "echo" (node kind.Text (t token.Text "\"f\""
    none) (t token.Semi ";" none))) (node kind.Return (t token.Keyword "return" (node kind.Number (t token.Int
    "1" none) (t token.Semi ";" none))) (t token.Op "}" none)))) none))))) (node kind.Try (t token.Keyword
    "try" (node kind.Block (t token.Op "{" (node kind.ExprStmt (node kind.CompoundAssign (node kind.Prop (node
    kind.Variable (t token.Variable "$t" none) (t token.Op "->" (t token.Label "p" none))) (t token.Op "??="
    (node kind.Call (t token.Label "f" (t token.Op "(" (node kind.Args none (t token.Op ")" none)))) none)))
    (t token.Semi ";" none)) (t token.Op "}" none))) (t token.Keyword "catch" (t token.Op "(" (t token.Label
    "Error" (t token.Variable "$e" (t token.Op ")" (node kind.Block (t token.Op "{" (node kind.Echo (t
    token.Keyword "echo" (node kind.Text (t token.Text "\"E\"" none) (t token.Semi ";" none))) (t token.Op "}"
    none))) none)))))))) none))))

if_null_throws_after : Comes 200 (file if_null_throws_after_tree) (file if_null_throws_after_tree) (codes "a.php")
    ((codes "fE"), ended)
    ((codes "fE"), ended)
unfolding builtin_rows named_constants word_constants is_same_name newer_functions newer_classes newer_constants beyond_functions beyond_classes beyond_constants
if_null_throws_after = (refl, refl)

-- <?php class T { public $d = [1, 2]; function n() { $this->d = [10, 20]; return 1; } function go() { $this->d[$this->n()] += 5; $this->d[0]++; return $this->d; } } $t =
--   new T; echo implode(",", $t->go());
abbrev compound_with_changed_base_tree : Forest
compound_with_changed_base_tree =
    (node kind.Class (t token.Keyword "class" (t token.Label "T" (t token.Op "{" (node kind.Property (t
    token.Keyword "public" (t token.Variable "$d" (t token.Op "=" (node kind.Array (t token.Op "[" (node
    kind.Item (node kind.Number (t token.Int "1" none) none) (t token.Op "," (node kind.Item (node kind.Number
    (t token.Int "2" none) none) (t token.Op "]" none))))) (t token.Semi ";" none))))) (node kind.Method (t
    token.Keyword "function" (t token.Label "n" (t token.Op "(" (t token.Op ")" (node kind.Block (t token.Op
    "{" (node kind.ExprStmt (node kind.Assign (node kind.Prop (node kind.Variable (t token.Variable "$this"
    none) (t token.Op "->" (t token.Label "d" none))) (t token.Op "=" (node kind.Array (t token.Op "[" (node
    kind.Item (node kind.Number (t token.Int "10" none) none) (t token.Op "," (node kind.Item (node
    kind.Number (t token.Int "20" none) none) (t token.Op "]" none))))) none))) (t token.Semi ";" none)) (node
    kind.Return (t token.Keyword "return" (node kind.Number (t token.Int "1" none) (t token.Semi ";" none)))
    (t token.Op "}" none)))) none))))) (node kind.Method (t token.Keyword "function" (t token.Label "go" (t
    token.Op "(" (t token.Op ")" (node kind.Block (t token.Op "{" (node kind.ExprStmt (node
    kind.CompoundAssign (node kind.Offset (node kind.Prop (node kind.Variable (t token.Variable "$this" none)
    (t token.Op "->" (t token.Label "d" none))) (t token.Op "[" (node kind.MethodCall (node kind.Variable (t
    token.Variable "$this" none) (t token.Op "->" (t token.Label "n" (t token.Op "(" (node kind.Args none (t
    token.Op ")" none)))))) (t token.Op "]" none)))) (t token.Op "+=" (node kind.Number (t token.Int "5" none)
    none))) (t token.Semi ";" none)) (node kind.ExprStmt (node kind.Postfix (node kind.Offset (node kind.Prop
    (node kind.Variable (t token.Variable "$this" none) (t token.Op "->" (t token.Label "d" none))) (t
    token.Op "[" (node kind.Number (t token.Int "0" none) (t token.Op "]" none)))) (t token.Op "++" none)) (t
    token.Semi ";" none)) (node kind.Return (t token.Keyword "return" (node kind.Prop (node kind.Variable (t
    token.Variable "$this" none) (t token.Op "->" (t token.Label "d" none))) (t token.Semi ";" none))) (t
    token.Op "}" none))))) none))))) (t token.Op "}" none))))))) (node kind.ExprStmt (node kind.Assign (node
    kind.Variable (t token.Variable "$t" none) (t token.Op "=" (node kind.New (t token.Keyword "new" (t
    token.Label "T" none)) none))) (t token.Semi ";" none)) (node kind.Echo (t token.Keyword "echo" (node
    kind.Call (t token.Label "implode" (t token.Op "(" (node kind.Args (node kind.Text (t token.Text "\",\""
    none) (t token.Op "," (node kind.MethodCall (node kind.Variable (t token.Variable "$t" none) (t token.Op
    "->" (t token.Label "go" (t token.Op "(" (node kind.Args none (t token.Op ")" none)))))) none))) (t
    token.Op ")" none)))) (t token.Semi ";" none))) none)))

compound_with_changed_base : Comes 200 (file compound_with_changed_base_tree) (file compound_with_changed_base_tree) (codes "a.php")
    ((codes "11,25"), ended)
    ((codes "11,25"), ended)
unfolding builtin_rows named_constants word_constants is_same_name newer_functions newer_classes newer_constants beyond_functions beyond_classes beyond_constants
compound_with_changed_base = (refl, refl)

-- <?php $a = [1]; $b = &$a; echo 1; $a[1] = $b;
abbrev right_side_refers_to_the_array_tree : Forest
right_side_refers_to_the_array_tree =
    (node kind.ExprStmt (node kind.Assign (node kind.Variable (t token.Variable "$a" none) (t token.Op "="
    (node kind.Array (t token.Op "[" (node kind.Item (node kind.Number (t token.Int "1" none) none) (t
    token.Op "]" none))) none))) (t token.Semi ";" none)) (node kind.ExprStmt (node kind.AssignRef (node
    kind.Variable (t token.Variable "$b" none) (t token.Op "=" (t token.Op "&" (node kind.Variable (t
    token.Variable "$a" none) none)))) (t token.Semi ";" none)) (node kind.Echo (t token.Keyword "echo" (node
    kind.Number (t token.Int "1" none) (t token.Semi ";" none))) (node kind.ExprStmt (node kind.Assign (node
    kind.Offset (node kind.Variable (t token.Variable "$a" none) (t token.Op "[" (node kind.Number (t
    token.Int "1" none) (t token.Op "]" none)))) (t token.Op "=" (node kind.Variable (t token.Variable "$b"
    none) none))) (t token.Semi ";" none)) none))))

right_side_refers_to_the_array : Comes 200 (file right_side_refers_to_the_array_tree) (file right_side_refers_to_the_array_tree) (codes "a.php")
    ((codes "1"), outside Reference)
    ((codes "1"), outside Reference)
unfolding builtin_rows named_constants word_constants is_same_name newer_functions newer_classes newer_constants beyond_functions beyond_classes beyond_constants
right_side_refers_to_the_array = (refl, refl)

-- <?php $a = [1, 2]; $r = &$a[0]; $a[1] = $r; $a[0] = $a[1]; $i = 1; $a[$i] = $i; echo $a[0], $a[1];
abbrev right_side_in_the_array_tree : Forest
right_side_in_the_array_tree =
    (node kind.ExprStmt (node kind.Assign (node kind.Variable (t token.Variable "$a" none) (t token.Op "="
    (node kind.Array (t token.Op "[" (node kind.Item (node kind.Number (t token.Int "1" none) none) (t
    token.Op "," (node kind.Item (node kind.Number (t token.Int "2" none) none) (t token.Op "]" none)))))
    none))) (t token.Semi ";" none)) (node kind.ExprStmt (node kind.AssignRef (node kind.Variable (t
    token.Variable "$r" none) (t token.Op "=" (t token.Op "&" (node kind.Offset (node kind.Variable (t
    token.Variable "$a" none) (t token.Op "[" (node kind.Number (t token.Int "0" none) (t token.Op "]"
    none)))) none)))) (t token.Semi ";" none)) (node kind.ExprStmt (node kind.Assign (node kind.Offset (node
    kind.Variable (t token.Variable "$a" none) (t token.Op "[" (node kind.Number (t token.Int "1" none) (t
    token.Op "]" none)))) (t token.Op "=" (node kind.Variable (t token.Variable "$r" none) none))) (t
    token.Semi ";" none)) (node kind.ExprStmt (node kind.Assign (node kind.Offset (node kind.Variable (t
    token.Variable "$a" none) (t token.Op "[" (node kind.Number (t token.Int "0" none) (t token.Op "]"
    none)))) (t token.Op "=" (node kind.Offset (node kind.Variable (t token.Variable "$a" none) (t token.Op
    "[" (node kind.Number (t token.Int "1" none) (t token.Op "]" none)))) none))) (t token.Semi ";" none))
    (node kind.ExprStmt (node kind.Assign (node kind.Variable (t token.Variable "$i" none) (t token.Op "="
    (node kind.Number (t token.Int "1" none) none))) (t token.Semi ";" none)) (node kind.ExprStmt (node
    kind.Assign (node kind.Offset (node kind.Variable (t token.Variable "$a" none) (t token.Op "[" (node
    kind.Variable (t token.Variable "$i" none) (t token.Op "]" none)))) (t token.Op "=" (node kind.Variable (t
    token.Variable "$i" none) none))) (t token.Semi ";" none)) (node kind.Echo (t token.Keyword "echo" (node
    kind.Offset (node kind.Variable (t token.Variable "$a" none) (t token.Op "[" (node kind.Number (t
    token.Int "0" none) (t token.Op "]" none)))) (t token.Op "," (node kind.Offset (node kind.Variable (t
    token.Variable "$a" none) (t token.Op "[" (node kind.Number (t token.Int "1" none) (t token.Op "]"
    none)))) (t token.Semi ";" none))))) none)))))))

right_side_in_the_array : Comes 200 (file right_side_in_the_array_tree) (file right_side_in_the_array_tree) (codes "a.php")
    ((codes "11"), ended)
    ((codes "11"), ended)
unfolding builtin_rows named_constants word_constants is_same_name newer_functions newer_classes newer_constants beyond_functions beyond_classes beyond_constants
right_side_in_the_array = (refl, refl)

-- <?php $rows = [["x" => 1], ["x" => 2]]; foreach ($rows as $i => &$row) { $row["y"] = $row["x"]; $rows[$i] = $row; } unset($row); echo $rows[1]["y"], count($rows[0]);
abbrev element_written_to_itself_tree : Forest
element_written_to_itself_tree =
    (node kind.ExprStmt (node kind.Assign (node kind.Variable (t token.Variable "$rows" none) (t token.Op "="
    (node kind.Array (t token.Op "[" (node kind.Item (node kind.Array (t token.Op "[" (node kind.Item (node
    kind.Text (t token.Text "\"x\"" none) (t token.Op "=>" (node kind.Number (t token.Int "1" none) none))) (t
    token.Op "]" none))) none) (t token.Op "," (node kind.Item (node kind.Array (t token.Op "[" (node
    kind.Item (node kind.Text (t token.Text "\"x\"" none) (t token.Op "=>" (node kind.Number (t token.Int "2"
    none) none))) (t token.Op "]" none))) none) (t token.Op "]" none))))) none))) (t token.Semi ";" none))
    (node kind.Foreach (t token.Keyword "foreach" (t token.Op "(" (node kind.Variable (t token.Variable
    "$rows" none) (t token.Keyword "as" (node kind.Variable (t token.Variable "$i" none) (t token.Op "=>" (t
    token.Op "&" (node kind.Variable (t token.Variable "$row" none) (t token.Op ")" (node kind.Block (t
    token.Op "{" (node kind.ExprStmt (node kind.Assign (node kind.Offset (node kind.Variable (t token.Variable
    "$row" none) (t token.Op "[" (node kind.Text (t token.Text "\"y\"" none) (t token.Op "]" none)))) (t
    token.Op "=" (node kind.Offset (node kind.Variable (t token.Variable "$row" none) (t token.Op "[" (node
    kind.Text (t token.Text "\"x\"" none) (t token.Op "]" none)))) none))) (t token.Semi ";" none)) (node
    kind.ExprStmt (node kind.Assign (node kind.Offset (node kind.Variable (t token.Variable "$rows" none) (t
    token.Op "[" (node kind.Variable (t token.Variable "$i" none) (t token.Op "]" none)))) (t token.Op "="
    (node kind.Variable (t token.Variable "$row" none) none))) (t token.Semi ";" none)) (t token.Op "}"
    none)))) none)))))))))) (node kind.Unset (t token.Keyword "unset" (t token.Op "(" (node kind.Variable (t
    token.Variable "$row" none) (t token.Op ")" (t token.Semi ";" none))))) (node kind.Echo (t token.Keyword
    "echo" (node kind.Offset (node kind.Offset (node kind.Variable (t token.Variable "$rows" none) (t token.Op
    "[" (node kind.Number (t token.Int "1" none) (t token.Op "]" none)))) (t token.Op "[" (node kind.Text (t
    token.Text "\"y\"" none) (t token.Op "]" none)))) (t token.Op "," (node kind.Call (t token.Label "count"
    (t token.Op "(" (node kind.Args (node kind.Offset (node kind.Variable (t token.Variable "$rows" none) (t
    token.Op "[" (node kind.Number (t token.Int "0" none) (t token.Op "]" none)))) none) (t token.Op ")"
    none)))) (t token.Semi ";" none))))) none))))

element_written_to_itself : Comes 200 (file element_written_to_itself_tree) (file element_written_to_itself_tree) (codes "a.php")
    ((codes "22"), ended)
    ((codes "22"), ended)
unfolding builtin_rows named_constants word_constants is_same_name newer_functions newer_classes newer_constants
element_written_to_itself = (refl, refl)

-- <?php function g() { global $i, $o; $i = 1; return $o; } $i = 0; $o = new stdClass; $o->p = 5; $a = [1, 2]; echo 1; $a[$i] = &g()->p;
abbrev reference_to_a_key_that_changes_tree : Forest
reference_to_a_key_that_changes_tree =
    (node kind.Function (t token.Keyword "function" (t token.Label "g" (t token.Op "(" (t token.Op ")" (node
    kind.Block (t token.Op "{" (node kind.Global (t token.Keyword "global" (node kind.Variable (t
    token.Variable "$i" none) (t token.Op "," (node kind.Variable (t token.Variable "$o" none) (t token.Semi
    ";" none))))) (node kind.ExprStmt (node kind.Assign (node kind.Variable (t token.Variable "$i" none) (t
    token.Op "=" (node kind.Number (t token.Int "1" none) none))) (t token.Semi ";" none)) (node kind.Return
    (t token.Keyword "return" (node kind.Variable (t token.Variable "$o" none) (t token.Semi ";" none))) (t
    token.Op "}" none))))) none))))) (node kind.ExprStmt (node kind.Assign (node kind.Variable (t
    token.Variable "$i" none) (t token.Op "=" (node kind.Number (t token.Int "0" none) none))) (t token.Semi
    ";" none)) (node kind.ExprStmt (node kind.Assign (node kind.Variable (t token.Variable "$o" none) (t
    token.Op "=" (node kind.New (t token.Keyword "new" (t token.Label "stdClass" none)) none))) (t token.Semi
    ";" none)) (node kind.ExprStmt (node kind.Assign (node kind.Prop (node kind.Variable (t token.Variable
    "$o" none) (t token.Op "->" (t token.Label "p" none))) (t token.Op "=" (node kind.Number (t token.Int "5"
    none) none))) (t token.Semi ";" none)) (node kind.ExprStmt (node kind.Assign (node kind.Variable (t
    token.Variable "$a" none) (t token.Op "=" (node kind.Array (t token.Op "[" (node kind.Item (node
    kind.Number (t token.Int "1" none) none) (t token.Op "," (node kind.Item (node kind.Number (t token.Int
    "2" none) none) (t token.Op "]" none))))) none))) (t token.Semi ";" none)) (node kind.Echo (t
    token.Keyword "echo" (node kind.Number (t token.Int "1" none) (t token.Semi ";" none))) (node
    kind.ExprStmt (node kind.AssignRef (node kind.Offset (node kind.Variable (t token.Variable "$a" none) (t
    token.Op "[" (node kind.Variable (t token.Variable "$i" none) (t token.Op "]" none)))) (t token.Op "=" (t
    token.Op "&" (node kind.Prop (node kind.Call (t token.Label "g" (t token.Op "(" (node kind.Args none (t
    token.Op ")" none)))) (t token.Op "->" (t token.Label "p" none))) none)))) (t token.Semi ";" none))
    none)))))))

reference_to_a_key_that_changes : Comes 200 (file reference_to_a_key_that_changes_tree) (file reference_to_a_key_that_changes_tree) (codes "a.php")
    ((codes "1"), outside Reference)
    ((codes "1"), outside Reference)
unfolding builtin_rows named_constants word_constants is_same_name newer_functions newer_classes newer_constants beyond_functions beyond_classes beyond_constants
reference_to_a_key_that_changes = (refl, refl)

-- <?php class T { public $d = ["x"]; function n() { $this->d = ["y", "z"]; return 1; } function go() { $v = 5; $this->d[$this->n()] = &$v; $v = 6; unset($v); return
--   $this->d; } } $t = new T; echo implode("", $t->go());
abbrev reference_whose_target_moves_tree : Forest
reference_whose_target_moves_tree =
    (node kind.Class (t token.Keyword "class" (t token.Label "T" (t token.Op "{" (node kind.Property (t
    token.Keyword "public" (t token.Variable "$d" (t token.Op "=" (node kind.Array (t token.Op "[" (node
    kind.Item (node kind.Text (t token.Text "\"x\"" none) none) (t token.Op "]" none))) (t token.Semi ";"
    none))))) (node kind.Method (t token.Keyword "function" (t token.Label "n" (t token.Op "(" (t token.Op ")"
    (node kind.Block (t token.Op "{" (node kind.ExprStmt (node kind.Assign (node kind.Prop (node kind.Variable
    (t token.Variable "$this" none) (t token.Op "->" (t token.Label "d" none))) (t token.Op "=" (node
    kind.Array (t token.Op "[" (node kind.Item (node kind.Text (t token.Text "\"y\"" none) none) (t token.Op
    "," (node kind.Item (node kind.Text (t token.Text "\"z\"" none) none) (t token.Op "]" none))))) none))) (t
    token.Semi ";" none)) (node kind.Return (t token.Keyword "return" (node kind.Number (t token.Int "1" none)
    (t token.Semi ";" none))) (t token.Op "}" none)))) none))))) (node kind.Method (t token.Keyword "function"
    (t token.Label "go" (t token.Op "(" (t token.Op ")" (node kind.Block (t token.Op "{" (node kind.ExprStmt
    (node kind.Assign (node kind.Variable (t token.Variable "$v" none) (t token.Op "=" (node kind.Number (t
    token.Int "5" none) none))) (t token.Semi ";" none)) (node kind.ExprStmt (node kind.AssignRef (node
    kind.Offset (node kind.Prop (node kind.Variable (t token.Variable "$this" none) (t token.Op "->" (t
    token.Label "d" none))) (t token.Op "[" (node kind.MethodCall (node kind.Variable (t token.Variable
    "$this" none) (t token.Op "->" (t token.Label "n" (t token.Op "(" (node kind.Args none (t token.Op ")"
    none)))))) (t token.Op "]" none)))) (t token.Op "=" (t token.Op "&" (node kind.Variable (t token.Variable
    "$v" none) none)))) (t token.Semi ";" none)) (node kind.ExprStmt (node kind.Assign (node kind.Variable (t
    token.Variable "$v" none) (t token.Op "=" (node kind.Number (t token.Int "6" none) none))) (t token.Semi
    ";" none)) (node kind.Unset (t token.Keyword "unset" (t token.Op "(" (node kind.Variable (t token.Variable
    "$v" none) (t token.Op ")" (t token.Semi ";" none))))) (node kind.Return (t token.Keyword "return" (node
    kind.Prop (node kind.Variable (t token.Variable "$this" none) (t token.Op "->" (t token.Label "d" none)))
    (t token.Semi ";" none))) (t token.Op "}" none))))))) none))))) (t token.Op "}" none))))))) (node
    kind.ExprStmt (node kind.Assign (node kind.Variable (t token.Variable "$t" none) (t token.Op "=" (node
    kind.New (t token.Keyword "new" (t token.Label "T" none)) none))) (t token.Semi ";" none)) (node kind.Echo
    (t token.Keyword "echo" (node kind.Call (t token.Label "implode" (t token.Op "(" (node kind.Args (node
    kind.Text (t token.Text "\"\"" none) (t token.Op "," (node kind.MethodCall (node kind.Variable (t
    token.Variable "$t" none) (t token.Op "->" (t token.Label "go" (t token.Op "(" (node kind.Args none (t
    token.Op ")" none)))))) none))) (t token.Op ")" none)))) (t token.Semi ";" none))) none)))

reference_whose_target_moves : Comes 200 (file reference_whose_target_moves_tree) (file reference_whose_target_moves_tree) (codes "a.php")
    ((codes "y6"), ended)
    ((codes "y6"), ended)
unfolding builtin_rows named_constants word_constants is_same_name newer_functions newer_classes newer_constants beyond_functions beyond_classes beyond_constants
reference_whose_target_moves = (refl, refl)

-- ---- bases of offsets, found once the key was evaluated

-- <?php class T { public $d = ["a", "b"]; function n() { $this->d = ["c", "d"]; return 1; } function get() { return $this->d[$this->n()]; } } $t = new T; echo $t->get();
abbrev base_changed_by_key_tree : Forest
base_changed_by_key_tree =
    (node kind.Class (t token.Keyword "class" (t token.Label "T" (t token.Op "{" (node kind.Property (t
    token.Keyword "public" (t token.Variable "$d" (t token.Op "=" (node kind.Array (t token.Op "[" (node
    kind.Item (node kind.Text (t token.Text "\"a\"" none) none) (t token.Op "," (node kind.Item (node
    kind.Text (t token.Text "\"b\"" none) none) (t token.Op "]" none))))) (t token.Semi ";" none))))) (node
    kind.Method (t token.Keyword "function" (t token.Label "n" (t token.Op "(" (t token.Op ")" (node
    kind.Block (t token.Op "{" (node kind.ExprStmt (node kind.Assign (node kind.Prop (node kind.Variable (t
    token.Variable "$this" none) (t token.Op "->" (t token.Label "d" none))) (t token.Op "=" (node kind.Array
    (t token.Op "[" (node kind.Item (node kind.Text (t token.Text "\"c\"" none) none) (t token.Op "," (node
    kind.Item (node kind.Text (t token.Text "\"d\"" none) none) (t token.Op "]" none))))) none))) (t
    token.Semi ";" none)) (node kind.Return (t token.Keyword "return" (node kind.Number (t token.Int "1" none)
    (t token.Semi ";" none))) (t token.Op "}" none)))) none))))) (node kind.Method (t token.Keyword "function"
    (t token.Label "get" (t token.Op "(" (t token.Op ")" (node kind.Block (t token.Op "{" (node kind.Return (t
    token.Keyword "return" (node kind.Offset (node kind.Prop (node kind.Variable (t token.Variable "$this"
    none) (t token.Op "->" (t token.Label "d" none))) (t token.Op "[" (node kind.MethodCall (node
    kind.Variable (t token.Variable "$this" none) (t token.Op "->" (t token.Label "n" (t token.Op "(" (node
    kind.Args none (t token.Op ")" none)))))) (t token.Op "]" none)))) (t token.Semi ";" none))) (t token.Op
    "}" none))) none))))) (t token.Op "}" none))))))) (node kind.ExprStmt (node kind.Assign (node
    kind.Variable (t token.Variable "$t" none) (t token.Op "=" (node kind.New (t token.Keyword "new" (t
    token.Label "T" none)) none))) (t token.Semi ";" none)) (node kind.Echo (t token.Keyword "echo" (node
    kind.MethodCall (node kind.Variable (t token.Variable "$t" none) (t token.Op "->" (t token.Label "get" (t
    token.Op "(" (node kind.Args none (t token.Op ")" none)))))) (t token.Semi ";" none))) none)))

base_changed_by_key : Comes 200 (file base_changed_by_key_tree) (file base_changed_by_key_tree) (codes "a.php")
    ((codes "d"), ended)
    ((codes "d"), ended)
unfolding builtin_rows named_constants word_constants is_same_name newer_functions newer_classes newer_constants beyond_functions beyond_classes beyond_constants
base_changed_by_key = (refl, refl)

-- <?php class P { private $t = ["x", "y", "z"]; private $i = 0; function next() { return $this->t[$this->i++]; } } $p = new P; echo $p->next(), $p->next(), $p->next();
abbrev base_read_by_position_tree : Forest
base_read_by_position_tree =
    (node kind.Class (t token.Keyword "class" (t token.Label "P" (t token.Op "{" (node kind.Property (t
    token.Keyword "private" (t token.Variable "$t" (t token.Op "=" (node kind.Array (t token.Op "[" (node
    kind.Item (node kind.Text (t token.Text "\"x\"" none) none) (t token.Op "," (node kind.Item (node
    kind.Text (t token.Text "\"y\"" none) none) (t token.Op "," (node kind.Item (node kind.Text (t token.Text
    "\"z\"" none) none) (t token.Op "]" none))))))) (t token.Semi ";" none))))) (node kind.Property (t
    token.Keyword "private" (t token.Variable "$i" (t token.Op "=" (node kind.Number (t token.Int "0" none) (t
    token.Semi ";" none))))) (node kind.Method (t token.Keyword "function" (t token.Label "next" (t token.Op
    "(" (t token.Op ")" (node kind.Block (t token.Op "{" (node kind.Return (t token.Keyword "return" (node
    kind.Offset (node kind.Prop (node kind.Variable (t token.Variable "$this" none) (t token.Op "->" (t
    token.Label "t" none))) (t token.Op "[" (node kind.Postfix (node kind.Prop (node kind.Variable (t
    token.Variable "$this" none) (t token.Op "->" (t token.Label "i" none))) (t token.Op "++" none)) (t
    token.Op "]" none)))) (t token.Semi ";" none))) (t token.Op "}" none))) none))))) (t token.Op "}"
    none))))))) (node kind.ExprStmt (node kind.Assign (node kind.Variable (t token.Variable "$p" none) (t
    token.Op "=" (node kind.New (t token.Keyword "new" (t token.Label "P" none)) none))) (t token.Semi ";"
    none)) (node kind.Echo (t token.Keyword "echo" (node kind.MethodCall (node kind.Variable (t token.Variable
    "$p" none) (t token.Op "->" (t token.Label "next" (t token.Op "(" (node kind.Args none (t token.Op ")"
    none)))))) (t token.Op "," (node kind.MethodCall (node kind.Variable (t token.Variable "$p" none) (t
    token.Op "->" (t token.Label "next" (t token.Op "(" (node kind.Args none (t token.Op ")" none)))))) (t
    token.Op "," (node kind.MethodCall (node kind.Variable (t token.Variable "$p" none) (t token.Op "->" (t
    token.Label "next" (t token.Op "(" (node kind.Args none (t token.Op ")" none)))))) (t token.Semi ";"
    none))))))) none)))

base_read_by_position : Comes 200 (file base_read_by_position_tree) (file base_read_by_position_tree) (codes "a.php")
    ((codes "xyz"), ended)
    ((codes "xyz"), ended)
unfolding builtin_rows named_constants word_constants is_same_name newer_functions newer_classes newer_constants beyond_functions beyond_classes beyond_constants
base_read_by_position = (refl, refl)

-- <?php $a = ["x"]; $b = ["y"]; function k() { global $a, $b; $a = $b; return 0; } echo $a[k()], $a[0];
abbrev base_changed_by_its_key_tree : Forest
base_changed_by_its_key_tree =
    (node kind.ExprStmt (node kind.Assign (node kind.Variable (t token.Variable "$a" none) (t token.Op "="
    (node kind.Array (t token.Op "[" (node kind.Item (node kind.Text (t token.Text "\"x\"" none) none) (t
    token.Op "]" none))) none))) (t token.Semi ";" none)) (node kind.ExprStmt (node kind.Assign (node
    kind.Variable (t token.Variable "$b" none) (t token.Op "=" (node kind.Array (t token.Op "[" (node
    kind.Item (node kind.Text (t token.Text "\"y\"" none) none) (t token.Op "]" none))) none))) (t token.Semi
    ";" none)) (node kind.Function (t token.Keyword "function" (t token.Label "k" (t token.Op "(" (t token.Op
    ")" (node kind.Block (t token.Op "{" (node kind.Global (t token.Keyword "global" (node kind.Variable (t
    token.Variable "$a" none) (t token.Op "," (node kind.Variable (t token.Variable "$b" none) (t token.Semi
    ";" none))))) (node kind.ExprStmt (node kind.Assign (node kind.Variable (t token.Variable "$a" none) (t
    token.Op "=" (node kind.Variable (t token.Variable "$b" none) none))) (t token.Semi ";" none)) (node
    kind.Return (t token.Keyword "return" (node kind.Number (t token.Int "0" none) (t token.Semi ";" none)))
    (t token.Op "}" none))))) none))))) (node kind.Echo (t token.Keyword "echo" (node kind.Offset (node
    kind.Variable (t token.Variable "$a" none) (t token.Op "[" (node kind.Call (t token.Label "k" (t token.Op
    "(" (node kind.Args none (t token.Op ")" none)))) (t token.Op "]" none)))) (t token.Op "," (node
    kind.Offset (node kind.Variable (t token.Variable "$a" none) (t token.Op "[" (node kind.Number (t
    token.Int "0" none) (t token.Op "]" none)))) (t token.Semi ";" none))))) none))))

base_changed_by_its_key : Comes 200 (file base_changed_by_its_key_tree) (file base_changed_by_its_key_tree) (codes "a.php")
    ((codes "yy"), ended)
    ((codes "yy"), ended)
unfolding builtin_rows named_constants word_constants is_same_name newer_functions newer_classes newer_constants beyond_functions beyond_classes beyond_constants
base_changed_by_its_key = (refl, refl)

-- <?php class A {} function k() { echo "k"; return 0; } try { echo A::$none[k()]; } catch (Error $e) { echo "E"; }
abbrev base_throws_after_key_tree : Forest
base_throws_after_key_tree =
    (node kind.Class (t token.Keyword "class" (t token.Label "A" (t token.Op "{" (t token.Op "}" none))))
    (node kind.Function (t token.Keyword "function" (t token.Label "k" (t token.Op "(" (t token.Op ")" (node
    kind.Block (t token.Op "{" (node kind.Echo (t token.Keyword "echo" (node kind.Text (t token.Text "\"k\""
    none) (t token.Semi ";" none))) (node kind.Return (t token.Keyword "return" (node kind.Number (t token.Int
    "0" none) (t token.Semi ";" none))) (t token.Op "}" none)))) none))))) (node kind.Try (t token.Keyword
    "try" (node kind.Block (t token.Op "{" (node kind.Echo (t token.Keyword "echo" (node kind.Offset (node
    kind.StaticProp (t token.Label "A" (t token.Op "::" (t token.Variable "$none" none))) (t token.Op "["
    (node kind.Call (t token.Label "k" (t token.Op "(" (node kind.Args none (t token.Op ")" none)))) (t
    token.Op "]" none)))) (t token.Semi ";" none))) (t token.Op "}" none))) (t token.Keyword "catch" (t
    token.Op "(" (t token.Label "Error" (t token.Variable "$e" (t token.Op ")" (node kind.Block (t token.Op
    "{" (node kind.Echo (t token.Keyword "echo" (node kind.Text (t token.Text "\"E\"" none) (t token.Semi ";"
    none))) (t token.Op "}" none))) none)))))))) none)))

base_throws_after_key : Comes 200 (file base_throws_after_key_tree) (file base_throws_after_key_tree) (codes "a.php")
    ((codes "kE"), ended)
    ((codes "kE"), ended)
unfolding builtin_rows named_constants word_constants is_same_name newer_functions newer_classes newer_constants beyond_functions beyond_classes beyond_constants
base_throws_after_key = (refl, refl)

-- <?php $a = [["x", "y"], ["z", "w"]]; $i = 0; echo 1; echo $a[$i][$i++];
abbrev key_of_an_inner_offset_late_tree : Forest
key_of_an_inner_offset_late_tree =
    (node kind.ExprStmt (node kind.Assign (node kind.Variable (t token.Variable "$a" none) (t token.Op "="
    (node kind.Array (t token.Op "[" (node kind.Item (node kind.Array (t token.Op "[" (node kind.Item (node
    kind.Text (t token.Text "\"x\"" none) none) (t token.Op "," (node kind.Item (node kind.Text (t token.Text
    "\"y\"" none) none) (t token.Op "]" none))))) none) (t token.Op "," (node kind.Item (node kind.Array (t
    token.Op "[" (node kind.Item (node kind.Text (t token.Text "\"z\"" none) none) (t token.Op "," (node
    kind.Item (node kind.Text (t token.Text "\"w\"" none) none) (t token.Op "]" none))))) none) (t token.Op
    "]" none))))) none))) (t token.Semi ";" none)) (node kind.ExprStmt (node kind.Assign (node kind.Variable
    (t token.Variable "$i" none) (t token.Op "=" (node kind.Number (t token.Int "0" none) none))) (t
    token.Semi ";" none)) (node kind.Echo (t token.Keyword "echo" (node kind.Number (t token.Int "1" none) (t
    token.Semi ";" none))) (node kind.Echo (t token.Keyword "echo" (node kind.Offset (node kind.Offset (node
    kind.Variable (t token.Variable "$a" none) (t token.Op "[" (node kind.Variable (t token.Variable "$i"
    none) (t token.Op "]" none)))) (t token.Op "[" (node kind.Postfix (node kind.Variable (t token.Variable
    "$i" none) (t token.Op "++" none)) (t token.Op "]" none)))) (t token.Semi ";" none))) none))))

key_of_an_inner_offset_late : Comes 200 (file key_of_an_inner_offset_late_tree) (file key_of_an_inner_offset_late_tree) (codes "a.php")
    ((codes "1"), outside Reference)
    ((codes "1"), outside Reference)
unfolding builtin_rows named_constants word_constants is_same_name newer_functions newer_classes newer_constants beyond_functions beyond_classes beyond_constants
key_of_an_inner_offset_late = (refl, refl)

-- <?php class T { public $d = ["a"]; function n() { $this->d = ["c", "d"]; return 2; } function put() { $this->d[$this->n()] = "e"; return $this->d; } } $t = new T; echo
--   implode("", $t->put());
abbrev base_written_changed_by_key_tree : Forest
base_written_changed_by_key_tree =
    (node kind.Class (t token.Keyword "class" (t token.Label "T" (t token.Op "{" (node kind.Property (t
    token.Keyword "public" (t token.Variable "$d" (t token.Op "=" (node kind.Array (t token.Op "[" (node
    kind.Item (node kind.Text (t token.Text "\"a\"" none) none) (t token.Op "]" none))) (t token.Semi ";"
    none))))) (node kind.Method (t token.Keyword "function" (t token.Label "n" (t token.Op "(" (t token.Op ")"
    (node kind.Block (t token.Op "{" (node kind.ExprStmt (node kind.Assign (node kind.Prop (node kind.Variable
    (t token.Variable "$this" none) (t token.Op "->" (t token.Label "d" none))) (t token.Op "=" (node
    kind.Array (t token.Op "[" (node kind.Item (node kind.Text (t token.Text "\"c\"" none) none) (t token.Op
    "," (node kind.Item (node kind.Text (t token.Text "\"d\"" none) none) (t token.Op "]" none))))) none))) (t
    token.Semi ";" none)) (node kind.Return (t token.Keyword "return" (node kind.Number (t token.Int "2" none)
    (t token.Semi ";" none))) (t token.Op "}" none)))) none))))) (node kind.Method (t token.Keyword "function"
    (t token.Label "put" (t token.Op "(" (t token.Op ")" (node kind.Block (t token.Op "{" (node kind.ExprStmt
    (node kind.Assign (node kind.Offset (node kind.Prop (node kind.Variable (t token.Variable "$this" none) (t
    token.Op "->" (t token.Label "d" none))) (t token.Op "[" (node kind.MethodCall (node kind.Variable (t
    token.Variable "$this" none) (t token.Op "->" (t token.Label "n" (t token.Op "(" (node kind.Args none (t
    token.Op ")" none)))))) (t token.Op "]" none)))) (t token.Op "=" (node kind.Text (t token.Text "\"e\""
    none) none))) (t token.Semi ";" none)) (node kind.Return (t token.Keyword "return" (node kind.Prop (node
    kind.Variable (t token.Variable "$this" none) (t token.Op "->" (t token.Label "d" none))) (t token.Semi
    ";" none))) (t token.Op "}" none)))) none))))) (t token.Op "}" none))))))) (node kind.ExprStmt (node
    kind.Assign (node kind.Variable (t token.Variable "$t" none) (t token.Op "=" (node kind.New (t
    token.Keyword "new" (t token.Label "T" none)) none))) (t token.Semi ";" none)) (node kind.Echo (t
    token.Keyword "echo" (node kind.Call (t token.Label "implode" (t token.Op "(" (node kind.Args (node
    kind.Text (t token.Text "\"\"" none) (t token.Op "," (node kind.MethodCall (node kind.Variable (t
    token.Variable "$t" none) (t token.Op "->" (t token.Label "put" (t token.Op "(" (node kind.Args none (t
    token.Op ")" none)))))) none))) (t token.Op ")" none)))) (t token.Semi ";" none))) none)))

base_written_changed_by_key : Comes 200 (file base_written_changed_by_key_tree) (file base_written_changed_by_key_tree) (codes "a.php")
    ((codes "cde"), ended)
    ((codes "cde"), ended)
unfolding builtin_rows named_constants word_constants is_same_name newer_functions newer_classes newer_constants beyond_functions beyond_classes beyond_constants
base_written_changed_by_key = (refl, refl)

-- <?php class T { public $d = []; function n() { $this->d = [5 => "v"]; return 5; } function has() { return isset($this->d[$this->n()]); } } $t = new T; echo $t->has() ?
--   "y" : "n", empty($t->d[$t->n()]) ? "y" : "n", $t->d[$t->n()] ?? "none";
abbrev base_asked_changed_by_key_tree : Forest
base_asked_changed_by_key_tree =
    (node kind.Class (t token.Keyword "class" (t token.Label "T" (t token.Op "{" (node kind.Property (t
    token.Keyword "public" (t token.Variable "$d" (t token.Op "=" (node kind.Array (t token.Op "[" (t token.Op
    "]" none)) (t token.Semi ";" none))))) (node kind.Method (t token.Keyword "function" (t token.Label "n" (t
    token.Op "(" (t token.Op ")" (node kind.Block (t token.Op "{" (node kind.ExprStmt (node kind.Assign (node
    kind.Prop (node kind.Variable (t token.Variable "$this" none) (t token.Op "->" (t token.Label "d" none)))
    (t token.Op "=" (node kind.Array (t token.Op "[" (node kind.Item (node kind.Number (t token.Int "5" none)
    (t token.Op "=>" (node kind.Text (t token.Text "\"v\"" none) none))) (t token.Op "]" none))) none))) (t
    token.Semi ";" none)) (node kind.Return (t token.Keyword "return" (node kind.Number (t token.Int "5" none)
    (t token.Semi ";" none))) (t token.Op "}" none)))) none))))) (node kind.Method (t token.Keyword "function"
    (t token.Label "has" (t token.Op "(" (t token.Op ")" (node kind.Block (t token.Op "{" (node kind.Return (t
    token.Keyword "return" (node kind.Isset (t token.Keyword "isset" (t token.Op "(" (node kind.Offset (node
    kind.Prop (node kind.Variable (t token.Variable "$this" none) (t token.Op "->" (t token.Label "d" none)))
    (t token.Op "[" (node kind.MethodCall (node kind.Variable (t token.Variable "$this" none) (t token.Op "->"
    (t token.Label "n" (t token.Op "(" (node kind.Args none (t token.Op ")" none)))))) (t token.Op "]"
    none)))) (t token.Op ")" none)))) (t token.Semi ";" none))) (t token.Op "}" none))) none))))) (t token.Op
    "}" none))))))) (node kind.ExprStmt (node kind.Assign (node kind.Variable (t token.Variable "$t" none) (t
    token.Op "=" (node kind.New (t token.Keyword "new" (t token.Label "T" none)) none))) (t token.Semi ";"
    none)) (node kind.Echo (t token.Keyword "echo" (node kind.Ternary (node kind.MethodCall (node
    kind.Variable (t token.Variable "$t" none) (t token.Op "->" (t token.Label "has" (t token.Op "(" (node
    kind.Args none (t token.Op ")" none)))))) (t token.Op "?" (node kind.Text (t token.Text "\"y\"" none) (t
    token.Op ":" (node kind.Text (t token.Text "\"n\"" none) none))))) (t token.Op "," (node kind.Ternary
    (node kind.EmptyTest (t token.Keyword "empty" (t token.Op "(" (node kind.Offset (node kind.Prop (node
    kind.Variable (t token.Variable "$t" none) (t token.Op "->" (t token.Label "d" none))) (t token.Op "["
    (node kind.MethodCall (node kind.Variable (t token.Variable "$t" none) (t token.Op "->" (t token.Label "n"
    (t token.Op "(" (node kind.Args none (t token.Op ")" none)))))) (t token.Op "]" none)))) (t token.Op ")"
    none)))) (t token.Op "?" (node kind.Text (t token.Text "\"y\"" none) (t token.Op ":" (node kind.Text (t
    token.Text "\"n\"" none) none))))) (t token.Op "," (node kind.Binary (node kind.Offset (node kind.Prop
    (node kind.Variable (t token.Variable "$t" none) (t token.Op "->" (t token.Label "d" none))) (t token.Op
    "[" (node kind.MethodCall (node kind.Variable (t token.Variable "$t" none) (t token.Op "->" (t token.Label
    "n" (t token.Op "(" (node kind.Args none (t token.Op ")" none)))))) (t token.Op "]" none)))) (t token.Op
    "??" (node kind.Text (t token.Text "\"none\"" none) none))) (t token.Semi ";" none))))))) none)))

base_asked_changed_by_key : Comes 200 (file base_asked_changed_by_key_tree) (file base_asked_changed_by_key_tree) (codes "a.php")
    ((codes "ynv"), ended)
    ((codes "ynv"), ended)
unfolding builtin_rows named_constants word_constants is_same_name newer_functions newer_classes newer_constants beyond_functions beyond_classes beyond_constants
base_asked_changed_by_key = (refl, refl)

-- ---- references in values that nothing holds yet

-- <?php function f() { global $x; return [&$x]; } $x = 1; echo 1; $r = f(); $r[0] = 2; echo $x;
abbrev returned_reference_stays_tree : Forest
returned_reference_stays_tree =
    (node kind.Function (t token.Keyword "function" (t token.Label "f" (t token.Op "(" (t token.Op ")" (node
    kind.Block (t token.Op "{" (node kind.Global (t token.Keyword "global" (node kind.Variable (t
    token.Variable "$x" none) (t token.Semi ";" none))) (node kind.Return (t token.Keyword "return" (node
    kind.Array (t token.Op "[" (node kind.Item (t token.Op "&" (node kind.Variable (t token.Variable "$x"
    none) none)) (t token.Op "]" none))) (t token.Semi ";" none))) (t token.Op "}" none)))) none))))) (node
    kind.ExprStmt (node kind.Assign (node kind.Variable (t token.Variable "$x" none) (t token.Op "=" (node
    kind.Number (t token.Int "1" none) none))) (t token.Semi ";" none)) (node kind.Echo (t token.Keyword
    "echo" (node kind.Number (t token.Int "1" none) (t token.Semi ";" none))) (node kind.ExprStmt (node
    kind.Assign (node kind.Variable (t token.Variable "$r" none) (t token.Op "=" (node kind.Call (t
    token.Label "f" (t token.Op "(" (node kind.Args none (t token.Op ")" none)))) none))) (t token.Semi ";"
    none)) (node kind.ExprStmt (node kind.Assign (node kind.Offset (node kind.Variable (t token.Variable "$r"
    none) (t token.Op "[" (node kind.Number (t token.Int "0" none) (t token.Op "]" none)))) (t token.Op "="
    (node kind.Number (t token.Int "2" none) none))) (t token.Semi ";" none)) (node kind.Echo (t token.Keyword
    "echo" (node kind.Variable (t token.Variable "$x" none) (t token.Semi ";" none))) none))))))

returned_reference_stays : Comes 200 (file returned_reference_stays_tree) (file returned_reference_stays_tree) (codes "a.php")
    ((codes "12"), ended)
    ((codes "12"), ended)
unfolding builtin_rows named_constants word_constants is_same_name newer_functions newer_classes newer_constants beyond_functions beyond_classes beyond_constants
returned_reference_stays = (refl, refl)

-- <?php $x = 1; $r = [&$x, "k" => &$y]; $r[0] = 2; $r["k"] = 3; echo $x, $y;
abbrev literal_reference_stays_tree : Forest
literal_reference_stays_tree =
    (node kind.ExprStmt (node kind.Assign (node kind.Variable (t token.Variable "$x" none) (t token.Op "="
    (node kind.Number (t token.Int "1" none) none))) (t token.Semi ";" none)) (node kind.ExprStmt (node
    kind.Assign (node kind.Variable (t token.Variable "$r" none) (t token.Op "=" (node kind.Array (t token.Op
    "[" (node kind.Item (t token.Op "&" (node kind.Variable (t token.Variable "$x" none) none)) (t token.Op
    "," (node kind.Item (node kind.Text (t token.Text "\"k\"" none) (t token.Op "=>" (t token.Op "&" (node
    kind.Variable (t token.Variable "$y" none) none)))) (t token.Op "]" none))))) none))) (t token.Semi ";"
    none)) (node kind.ExprStmt (node kind.Assign (node kind.Offset (node kind.Variable (t token.Variable "$r"
    none) (t token.Op "[" (node kind.Number (t token.Int "0" none) (t token.Op "]" none)))) (t token.Op "="
    (node kind.Number (t token.Int "2" none) none))) (t token.Semi ";" none)) (node kind.ExprStmt (node
    kind.Assign (node kind.Offset (node kind.Variable (t token.Variable "$r" none) (t token.Op "[" (node
    kind.Text (t token.Text "\"k\"" none) (t token.Op "]" none)))) (t token.Op "=" (node kind.Number (t
    token.Int "3" none) none))) (t token.Semi ";" none)) (node kind.Echo (t token.Keyword "echo" (node
    kind.Variable (t token.Variable "$x" none) (t token.Op "," (node kind.Variable (t token.Variable "$y"
    none) (t token.Semi ";" none))))) none)))))

literal_reference_stays : Comes 200 (file literal_reference_stays_tree) (file literal_reference_stays_tree) (codes "a.php")
    ((codes "23"), ended)
    ((codes "23"), ended)
unfolding builtin_rows named_constants word_constants is_same_name newer_functions newer_classes newer_constants beyond_functions beyond_classes beyond_constants
literal_reference_stays = (refl, refl)

-- <?php function g($p) { $p[0] = 5; } $x = 1; g([&$x]); echo $x;
abbrev reference_in_an_argument_tree : Forest
reference_in_an_argument_tree =
    (node kind.Function (t token.Keyword "function" (t token.Label "g" (t token.Op "(" (node kind.Param (t
    token.Variable "$p" none) (t token.Op ")" (node kind.Block (t token.Op "{" (node kind.ExprStmt (node
    kind.Assign (node kind.Offset (node kind.Variable (t token.Variable "$p" none) (t token.Op "[" (node
    kind.Number (t token.Int "0" none) (t token.Op "]" none)))) (t token.Op "=" (node kind.Number (t token.Int
    "5" none) none))) (t token.Semi ";" none)) (t token.Op "}" none))) none)))))) (node kind.ExprStmt (node
    kind.Assign (node kind.Variable (t token.Variable "$x" none) (t token.Op "=" (node kind.Number (t
    token.Int "1" none) none))) (t token.Semi ";" none)) (node kind.ExprStmt (node kind.Call (t token.Label
    "g" (t token.Op "(" (node kind.Args (node kind.Array (t token.Op "[" (node kind.Item (t token.Op "&" (node
    kind.Variable (t token.Variable "$x" none) none)) (t token.Op "]" none))) none) (t token.Op ")" none))))
    (t token.Semi ";" none)) (node kind.Echo (t token.Keyword "echo" (node kind.Variable (t token.Variable
    "$x" none) (t token.Semi ";" none))) none))))

reference_in_an_argument : Comes 200 (file reference_in_an_argument_tree) (file reference_in_an_argument_tree) (codes "a.php")
    ((codes "5"), ended)
    ((codes "5"), ended)
unfolding builtin_rows named_constants word_constants is_same_name newer_functions newer_classes newer_constants beyond_functions beyond_classes beyond_constants
reference_in_an_argument = (refl, refl)

-- <?php function f(&$p, $q) { $p = 5; return $q; } $a = [1]; echo 1; $c = f($a[0], $b = $a); echo $c[0];
abbrev argument_held_by_reference_tree : Forest
argument_held_by_reference_tree =
    (node kind.Function (t token.Keyword "function" (t token.Label "f" (t token.Op "(" (node kind.Param (t
    token.Op "&" (t token.Variable "$p" none)) (t token.Op "," (node kind.Param (t token.Variable "$q" none)
    (t token.Op ")" (node kind.Block (t token.Op "{" (node kind.ExprStmt (node kind.Assign (node kind.Variable
    (t token.Variable "$p" none) (t token.Op "=" (node kind.Number (t token.Int "5" none) none))) (t
    token.Semi ";" none)) (node kind.Return (t token.Keyword "return" (node kind.Variable (t token.Variable
    "$q" none) (t token.Semi ";" none))) (t token.Op "}" none)))) none)))))))) (node kind.ExprStmt (node
    kind.Assign (node kind.Variable (t token.Variable "$a" none) (t token.Op "=" (node kind.Array (t token.Op
    "[" (node kind.Item (node kind.Number (t token.Int "1" none) none) (t token.Op "]" none))) none))) (t
    token.Semi ";" none)) (node kind.Echo (t token.Keyword "echo" (node kind.Number (t token.Int "1" none) (t
    token.Semi ";" none))) (node kind.ExprStmt (node kind.Assign (node kind.Variable (t token.Variable "$c"
    none) (t token.Op "=" (node kind.Call (t token.Label "f" (t token.Op "(" (node kind.Args (node kind.Offset
    (node kind.Variable (t token.Variable "$a" none) (t token.Op "[" (node kind.Number (t token.Int "0" none)
    (t token.Op "]" none)))) (t token.Op "," (node kind.Assign (node kind.Variable (t token.Variable "$b"
    none) (t token.Op "=" (node kind.Variable (t token.Variable "$a" none) none))) none))) (t token.Op ")"
    none)))) none))) (t token.Semi ";" none)) (node kind.Echo (t token.Keyword "echo" (node kind.Offset (node
    kind.Variable (t token.Variable "$c" none) (t token.Op "[" (node kind.Number (t token.Int "0" none) (t
    token.Op "]" none)))) (t token.Semi ";" none))) none)))))

argument_held_by_reference : Comes 200 (file argument_held_by_reference_tree) (file argument_held_by_reference_tree) (codes "a.php")
    ((codes "1"), outside Reference)
    ((codes "1"), outside Reference)
unfolding builtin_rows named_constants word_constants is_same_name newer_functions newer_classes newer_constants beyond_functions beyond_classes beyond_constants
argument_held_by_reference = (refl, refl)

-- <?php $a = [1]; echo 1; $b = [&$a[0], $c = $a];
abbrev item_of_an_element_tree : Forest
item_of_an_element_tree =
    (node kind.ExprStmt (node kind.Assign (node kind.Variable (t token.Variable "$a" none) (t token.Op "="
    (node kind.Array (t token.Op "[" (node kind.Item (node kind.Number (t token.Int "1" none) none) (t
    token.Op "]" none))) none))) (t token.Semi ";" none)) (node kind.Echo (t token.Keyword "echo" (node
    kind.Number (t token.Int "1" none) (t token.Semi ";" none))) (node kind.ExprStmt (node kind.Assign (node
    kind.Variable (t token.Variable "$b" none) (t token.Op "=" (node kind.Array (t token.Op "[" (node
    kind.Item (t token.Op "&" (node kind.Offset (node kind.Variable (t token.Variable "$a" none) (t token.Op
    "[" (node kind.Number (t token.Int "0" none) (t token.Op "]" none)))) none)) (t token.Op "," (node
    kind.Item (node kind.Assign (node kind.Variable (t token.Variable "$c" none) (t token.Op "=" (node
    kind.Variable (t token.Variable "$a" none) none))) none) (t token.Op "]" none))))) none))) (t token.Semi
    ";" none)) none)))

item_of_an_element : Comes 200 (file item_of_an_element_tree) (file item_of_an_element_tree) (codes "a.php")
    ((codes "1"), outside NoRule)
    ((codes "1"), outside NoRule)
unfolding builtin_rows named_constants word_constants is_same_name newer_functions newer_classes newer_constants beyond_functions beyond_classes beyond_constants
item_of_an_element = (refl, refl)

-- <?php function f(&$p) { $p = 5; } $a = [1, 2]; f($a[0]); $b = $a; $b[0] = 9; echo $a[0], $b[0];
abbrev argument_by_reference_then_copied_tree : Forest
argument_by_reference_then_copied_tree =
    (node kind.Function (t token.Keyword "function" (t token.Label "f" (t token.Op "(" (node kind.Param (t
    token.Op "&" (t token.Variable "$p" none)) (t token.Op ")" (node kind.Block (t token.Op "{" (node
    kind.ExprStmt (node kind.Assign (node kind.Variable (t token.Variable "$p" none) (t token.Op "=" (node
    kind.Number (t token.Int "5" none) none))) (t token.Semi ";" none)) (t token.Op "}" none))) none))))))
    (node kind.ExprStmt (node kind.Assign (node kind.Variable (t token.Variable "$a" none) (t token.Op "="
    (node kind.Array (t token.Op "[" (node kind.Item (node kind.Number (t token.Int "1" none) none) (t
    token.Op "," (node kind.Item (node kind.Number (t token.Int "2" none) none) (t token.Op "]" none)))))
    none))) (t token.Semi ";" none)) (node kind.ExprStmt (node kind.Call (t token.Label "f" (t token.Op "("
    (node kind.Args (node kind.Offset (node kind.Variable (t token.Variable "$a" none) (t token.Op "[" (node
    kind.Number (t token.Int "0" none) (t token.Op "]" none)))) none) (t token.Op ")" none)))) (t token.Semi
    ";" none)) (node kind.ExprStmt (node kind.Assign (node kind.Variable (t token.Variable "$b" none) (t
    token.Op "=" (node kind.Variable (t token.Variable "$a" none) none))) (t token.Semi ";" none)) (node
    kind.ExprStmt (node kind.Assign (node kind.Offset (node kind.Variable (t token.Variable "$b" none) (t
    token.Op "[" (node kind.Number (t token.Int "0" none) (t token.Op "]" none)))) (t token.Op "=" (node
    kind.Number (t token.Int "9" none) none))) (t token.Semi ";" none)) (node kind.Echo (t token.Keyword
    "echo" (node kind.Offset (node kind.Variable (t token.Variable "$a" none) (t token.Op "[" (node
    kind.Number (t token.Int "0" none) (t token.Op "]" none)))) (t token.Op "," (node kind.Offset (node
    kind.Variable (t token.Variable "$b" none) (t token.Op "[" (node kind.Number (t token.Int "0" none) (t
    token.Op "]" none)))) (t token.Semi ";" none))))) none))))))

argument_by_reference_then_copied : Comes 200 (file argument_by_reference_then_copied_tree) (file argument_by_reference_then_copied_tree) (codes "a.php")
    ((codes "59"), ended)
    ((codes "59"), ended)
unfolding builtin_rows named_constants word_constants is_same_name newer_functions newer_classes newer_constants beyond_functions beyond_classes beyond_constants
argument_by_reference_then_copied = (refl, refl)

-- ---- arguments of builtins

-- <?php $k = "a"; echo 1; echo array_key_exists($k, ($k = "b") ? ["b" => 1] : []) ? "y" : "n";
abbrev key_exists_of_a_changed_variable_tree : Forest
key_exists_of_a_changed_variable_tree =
    (node kind.ExprStmt (node kind.Assign (node kind.Variable (t token.Variable "$k" none) (t token.Op "="
    (node kind.Text (t token.Text "\"a\"" none) none))) (t token.Semi ";" none)) (node kind.Echo (t
    token.Keyword "echo" (node kind.Number (t token.Int "1" none) (t token.Semi ";" none))) (node kind.Echo (t
    token.Keyword "echo" (node kind.Ternary (node kind.Call (t token.Label "array_key_exists" (t token.Op "("
    (node kind.Args (node kind.Variable (t token.Variable "$k" none) (t token.Op "," (node kind.Ternary (node
    kind.Paren (t token.Op "(" (node kind.Assign (node kind.Variable (t token.Variable "$k" none) (t token.Op
    "=" (node kind.Text (t token.Text "\"b\"" none) none))) (t token.Op ")" none))) (t token.Op "?" (node
    kind.Array (t token.Op "[" (node kind.Item (node kind.Text (t token.Text "\"b\"" none) (t token.Op "=>"
    (node kind.Number (t token.Int "1" none) none))) (t token.Op "]" none))) (t token.Op ":" (node kind.Array
    (t token.Op "[" (t token.Op "]" none)) none))))) none))) (t token.Op ")" none)))) (t token.Op "?" (node
    kind.Text (t token.Text "\"y\"" none) (t token.Op ":" (node kind.Text (t token.Text "\"n\"" none)
    none))))) (t token.Semi ";" none))) none)))

key_exists_of_a_changed_variable : Comes 200 (file key_exists_of_a_changed_variable_tree) (file key_exists_of_a_changed_variable_tree) (codes "a.php")
    ((codes "1"), outside Reference)
    ((codes "1"), outside Reference)
unfolding builtin_rows named_constants word_constants is_same_name newer_functions newer_classes newer_constants beyond_functions beyond_classes beyond_constants
key_exists_of_a_changed_variable = (refl, refl)

-- <?php $i = 1; echo substr("abcdef", $i++, $i), str_repeat("x", $i--), $i, array_key_exists($i, [1 => 2]) ? "y" : "n";
abbrev builtin_arguments_of_counters_tree : Forest
builtin_arguments_of_counters_tree =
    (node kind.ExprStmt (node kind.Assign (node kind.Variable (t token.Variable "$i" none) (t token.Op "="
    (node kind.Number (t token.Int "1" none) none))) (t token.Semi ";" none)) (node kind.Echo (t token.Keyword
    "echo" (node kind.Call (t token.Label "substr" (t token.Op "(" (node kind.Args (node kind.Text (t
    token.Text "\"abcdef\"" none) (t token.Op "," (node kind.Postfix (node kind.Variable (t token.Variable
    "$i" none) (t token.Op "++" none)) (t token.Op "," (node kind.Variable (t token.Variable "$i" none)
    none))))) (t token.Op ")" none)))) (t token.Op "," (node kind.Call (t token.Label "str_repeat" (t token.Op
    "(" (node kind.Args (node kind.Text (t token.Text "\"x\"" none) (t token.Op "," (node kind.Postfix (node
    kind.Variable (t token.Variable "$i" none) (t token.Op "--" none)) none))) (t token.Op ")" none)))) (t
    token.Op "," (node kind.Variable (t token.Variable "$i" none) (t token.Op "," (node kind.Ternary (node
    kind.Call (t token.Label "array_key_exists" (t token.Op "(" (node kind.Args (node kind.Variable (t
    token.Variable "$i" none) (t token.Op "," (node kind.Array (t token.Op "[" (node kind.Item (node
    kind.Number (t token.Int "1" none) (t token.Op "=>" (node kind.Number (t token.Int "2" none) none))) (t
    token.Op "]" none))) none))) (t token.Op ")" none)))) (t token.Op "?" (node kind.Text (t token.Text
    "\"y\"" none) (t token.Op ":" (node kind.Text (t token.Text "\"n\"" none) none))))) (t token.Semi ";"
    none))))))))) none))

builtin_arguments_of_counters : Comes 200 (file builtin_arguments_of_counters_tree) (file builtin_arguments_of_counters_tree) (codes "a.php")
    ((codes "bcxx1y"), ended)
    ((codes "bcxx1y"), ended)
unfolding builtin_rows named_constants word_constants is_same_name newer_functions newer_classes newer_constants beyond_functions beyond_classes beyond_constants
builtin_arguments_of_counters = (refl, refl)

-- <?php declare(strict_types=1); try { echo strpos("a5", 5) === false ? "n" : "y"; } catch (TypeError $e) { echo "T"; }
abbrev strpos_of_an_int_strictly_tree : Forest
strpos_of_an_int_strictly_tree =
    (node kind.Declare (t token.Keyword "declare" (t token.Op "(" (t token.Label "strict_types" (t token.Op
    "=" (node kind.Number (t token.Int "1" none) (t token.Op ")" (node kind.Empty (t token.Semi ";" none)
    none))))))) (node kind.Try (t token.Keyword "try" (node kind.Block (t token.Op "{" (node kind.Echo (t
    token.Keyword "echo" (node kind.Ternary (node kind.Binary (node kind.Call (t token.Label "strpos" (t
    token.Op "(" (node kind.Args (node kind.Text (t token.Text "\"a5\"" none) (t token.Op "," (node
    kind.Number (t token.Int "5" none) none))) (t token.Op ")" none)))) (t token.Op "===" (node kind.Constant
    (t token.Label "false" none) none))) (t token.Op "?" (node kind.Text (t token.Text "\"n\"" none) (t
    token.Op ":" (node kind.Text (t token.Text "\"y\"" none) none))))) (t token.Semi ";" none))) (t token.Op
    "}" none))) (t token.Keyword "catch" (t token.Op "(" (t token.Label "TypeError" (t token.Variable "$e" (t
    token.Op ")" (node kind.Block (t token.Op "{" (node kind.Echo (t token.Keyword "echo" (node kind.Text (t
    token.Text "\"T\"" none) (t token.Semi ";" none))) (t token.Op "}" none))) none)))))))) none))

strpos_of_an_int_strictly : Comes 200 (file strpos_of_an_int_strictly_tree) (file strpos_of_an_int_strictly_tree) (codes "a.php")
    ((codes "n"), ended)
    ((codes "T"), ended)
unfolding builtin_rows named_constants word_constants is_same_name newer_functions newer_classes newer_constants beyond_functions beyond_classes beyond_constants
strpos_of_an_int_strictly = (refl, refl)

-- <?php declare(strict_types=0); echo strpos("a5", 5) === false ? "n" : "y"; echo strpos("aA", 65);
abbrev strpos_of_an_int_not_strictly_tree : Forest
strpos_of_an_int_not_strictly_tree =
    (node kind.Declare (t token.Keyword "declare" (t token.Op "(" (t token.Label "strict_types" (t token.Op
    "=" (node kind.Number (t token.Int "0" none) (t token.Op ")" (node kind.Empty (t token.Semi ";" none)
    none))))))) (node kind.Echo (t token.Keyword "echo" (node kind.Ternary (node kind.Binary (node kind.Call
    (t token.Label "strpos" (t token.Op "(" (node kind.Args (node kind.Text (t token.Text "\"a5\"" none) (t
    token.Op "," (node kind.Number (t token.Int "5" none) none))) (t token.Op ")" none)))) (t token.Op "==="
    (node kind.Constant (t token.Label "false" none) none))) (t token.Op "?" (node kind.Text (t token.Text
    "\"n\"" none) (t token.Op ":" (node kind.Text (t token.Text "\"y\"" none) none))))) (t token.Semi ";"
    none))) (node kind.Echo (t token.Keyword "echo" (node kind.Call (t token.Label "strpos" (t token.Op "("
    (node kind.Args (node kind.Text (t token.Text "\"aA\"" none) (t token.Op "," (node kind.Number (t
    token.Int "65" none) none))) (t token.Op ")" none)))) (t token.Semi ";" none))) none)))

strpos_of_an_int_not_strictly : Comes 200 (file strpos_of_an_int_not_strictly_tree) (file strpos_of_an_int_not_strictly_tree) (codes "a.php")
    ((codes "n1"), ended)
    ((codes "y"), ended)
unfolding builtin_rows named_constants word_constants is_same_name newer_functions newer_classes newer_constants beyond_functions beyond_classes beyond_constants
strpos_of_an_int_not_strictly = (refl, refl)
