-- Rows of whole programs: values, references and loops together. The 8.3 side is what PHP 8.2 echoes, where it has a meaning here.
use Rattle.std.proofs.Common.{refl, codes}
use Rattle.php_tree.specs.declared.token.TokenKind.TheVariants as token
use Rattle.php_tree.specs.declared.kind.NodeKind.TheVariants as kind
use Rattle.php_tree.specs.Tree.{Forest, none, node}
use Rattle.builtin_tables.specs.Beyond.{beyond_functions, beyond_classes, beyond_constants}
use Rattle.builtin_tables.specs.Builtins.{builtin_rows}
use Rattle.builtin_tables.specs.Constants.{named_constants, word_constants}
use Rattle.builtin_tables.specs.Named.{is_same_name}
use Rattle.builtin_tables.specs.Newer.{newer_functions, newer_classes, newer_constants}
use Rattle.meaning_rows.specs.Words.{t, b, file, ended, Comes}

-- <?php $a = 1; $b = $a; $a = 2; echo $a, $b;
abbrev mixed_assigned_tree : Forest
mixed_assigned_tree =
    (node kind.ExprStmt (node kind.Assign (node kind.Variable (t token.Variable "$a" none) (t token.Op "=" (node
    kind.Number (t token.Int "1" none) none))) (t token.Semi ";" none)) (node kind.ExprStmt (node kind.Assign (node
    kind.Variable (t token.Variable "$b" none) (t token.Op "=" (node kind.Variable (t token.Variable "$a" none)
    none))) (t token.Semi ";" none)) (node kind.ExprStmt (node kind.Assign (node kind.Variable (t token.Variable "$a"
    none) (t token.Op "=" (node kind.Number (t token.Int "2" none) none))) (t token.Semi ";" none)) (node kind.Echo (t
    token.Keyword "echo" (node kind.Variable (t token.Variable "$a" none) (t token.Op "," (node kind.Variable (t
    token.Variable "$b" none) (t token.Semi ";" none))))) none))))

mixed_assigned : Comes 200 (file mixed_assigned_tree) (file mixed_assigned_tree) (codes "a.php")
    ((codes "21"), ended)
    ((codes "21"), ended)
unfolding builtin_rows named_constants word_constants is_same_name newer_functions newer_classes newer_constants beyond_functions beyond_classes beyond_constants
mixed_assigned = (refl, refl)

-- <?php $a = [1, 2]; foreach ($a as &$v) { $v = "x"; } unset($v); echo $a[0] == 0 ? "y" : "n";
abbrev mixed_loop_by_reference_tree : Forest
mixed_loop_by_reference_tree =
    (node kind.ExprStmt (node kind.Assign (node kind.Variable (t token.Variable "$a" none) (t token.Op "=" (node
    kind.Array (t token.Op "[" (node kind.Item (node kind.Number (t token.Int "1" none) none) (t token.Op "," (node
    kind.Item (node kind.Number (t token.Int "2" none) none) (t token.Op "]" none))))) none))) (t token.Semi ";"
    none)) (node kind.Foreach (t token.Keyword "foreach" (t token.Op "(" (node kind.Variable (t token.Variable "$a"
    none) (t token.Keyword "as" (t token.Op "&" (node kind.Variable (t token.Variable "$v" none) (t token.Op ")" (node
    kind.Block (t token.Op "{" (node kind.ExprStmt (node kind.Assign (node kind.Variable (t token.Variable "$v" none)
    (t token.Op "=" (node kind.Text (t token.Text "\"x\"" none) none))) (t token.Semi ";" none)) (t token.Op "}"
    none))) none)))))))) (node kind.Unset (t token.Keyword "unset" (t token.Op "(" (node kind.Variable (t
    token.Variable "$v" none) (t token.Op ")" (t token.Semi ";" none))))) (node kind.Echo (t token.Keyword "echo"
    (node kind.Ternary (node kind.Binary (node kind.Offset (node kind.Variable (t token.Variable "$a" none) (t
    token.Op "[" (node kind.Number (t token.Int "0" none) (t token.Op "]" none)))) (t token.Op "==" (node kind.Number
    (t token.Int "0" none) none))) (t token.Op "?" (node kind.Text (t token.Text "\"y\"" none) (t token.Op ":" (node
    kind.Text (t token.Text "\"n\"" none) none))))) (t token.Semi ";" none))) none))))

mixed_loop_by_reference : Comes 200 (file mixed_loop_by_reference_tree) (file mixed_loop_by_reference_tree) (codes "a.php")
    ((codes "y"), ended)
    ((codes "n"), ended)
unfolding builtin_rows named_constants word_constants is_same_name newer_functions newer_classes newer_constants beyond_functions beyond_classes beyond_constants
mixed_loop_by_reference = (refl, refl)

-- <?php function f() { global $g; $g = "x"; } $g = 0; $h = 0; f(); echo $g == 0, $h == 0;
abbrev mixed_global_of_a_body_tree : Forest
mixed_global_of_a_body_tree =
    (node kind.Function (t token.Keyword "function" (t token.Label "f" (t token.Op "(" (t token.Op ")" (node
    kind.Block (t token.Op "{" (node kind.Global (t token.Keyword "global" (node kind.Variable (t token.Variable "$g"
    none) (t token.Semi ";" none))) (node kind.ExprStmt (node kind.Assign (node kind.Variable (t token.Variable "$g"
    none) (t token.Op "=" (node kind.Text (t token.Text "\"x\"" none) none))) (t token.Semi ";" none)) (t token.Op "}"
    none)))) none))))) (node kind.ExprStmt (node kind.Assign (node kind.Variable (t token.Variable "$g" none) (t
    token.Op "=" (node kind.Number (t token.Int "0" none) none))) (t token.Semi ";" none)) (node kind.ExprStmt (node
    kind.Assign (node kind.Variable (t token.Variable "$h" none) (t token.Op "=" (node kind.Number (t token.Int "0"
    none) none))) (t token.Semi ";" none)) (node kind.ExprStmt (node kind.Call (t token.Label "f" (t token.Op "("
    (node kind.Args none (t token.Op ")" none)))) (t token.Semi ";" none)) (node kind.Echo (t token.Keyword "echo"
    (node kind.Binary (node kind.Variable (t token.Variable "$g" none) (t token.Op "==" (node kind.Number (t token.Int
    "0" none) none))) (t token.Op "," (node kind.Binary (node kind.Variable (t token.Variable "$h" none) (t token.Op
    "==" (node kind.Number (t token.Int "0" none) none))) (t token.Semi ";" none))))) none)))))

mixed_global_of_a_body : Comes 200 (file mixed_global_of_a_body_tree) (file mixed_global_of_a_body_tree) (codes "a.php")
    ((codes "11"), ended)
    ((codes "1"), ended)
unfolding builtin_rows named_constants word_constants is_same_name newer_functions newer_classes newer_constants beyond_functions beyond_classes beyond_constants
mixed_global_of_a_body = (refl, refl)

-- <?php $a['x'][] = 1; $a['x'][] = 2; $a['y']['z'] = 3; $b = $a; $b['x'][0] = 9; echo count($a), count($a['x']), $a['x'][0], $b['x'][0], $a['y']['z'];
abbrev mixed_nested_writes_tree : Forest
mixed_nested_writes_tree =
    (node kind.ExprStmt (node kind.Assign (node kind.Offset (node kind.Offset (node kind.Variable (t token.Variable
    "$a" none) (t token.Op "[" (node kind.Text (t token.Text "'x'" none) (t token.Op "]" none)))) (t token.Op "[" (t
    token.Op "]" none))) (t token.Op "=" (node kind.Number (t token.Int "1" none) none))) (t token.Semi ";" none))
    (node kind.ExprStmt (node kind.Assign (node kind.Offset (node kind.Offset (node kind.Variable (t token.Variable
    "$a" none) (t token.Op "[" (node kind.Text (t token.Text "'x'" none) (t token.Op "]" none)))) (t token.Op "[" (t
    token.Op "]" none))) (t token.Op "=" (node kind.Number (t token.Int "2" none) none))) (t token.Semi ";" none))
    (node kind.ExprStmt (node kind.Assign (node kind.Offset (node kind.Offset (node kind.Variable (t token.Variable
    "$a" none) (t token.Op "[" (node kind.Text (t token.Text "'y'" none) (t token.Op "]" none)))) (t token.Op "["
    (node kind.Text (t token.Text "'z'" none) (t token.Op "]" none)))) (t token.Op "=" (node kind.Number (t token.Int
    "3" none) none))) (t token.Semi ";" none)) (node kind.ExprStmt (node kind.Assign (node kind.Variable (t
    token.Variable "$b" none) (t token.Op "=" (node kind.Variable (t token.Variable "$a" none) none))) (t token.Semi
    ";" none)) (node kind.ExprStmt (node kind.Assign (node kind.Offset (node kind.Offset (node kind.Variable (t
    token.Variable "$b" none) (t token.Op "[" (node kind.Text (t token.Text "'x'" none) (t token.Op "]" none)))) (t
    token.Op "[" (node kind.Number (t token.Int "0" none) (t token.Op "]" none)))) (t token.Op "=" (node kind.Number
    (t token.Int "9" none) none))) (t token.Semi ";" none)) (node kind.Echo (t token.Keyword "echo" (node kind.Call (t
    token.Label "count" (t token.Op "(" (node kind.Args (node kind.Variable (t token.Variable "$a" none) none) (t
    token.Op ")" none)))) (t token.Op "," (node kind.Call (t token.Label "count" (t token.Op "(" (node kind.Args (node
    kind.Offset (node kind.Variable (t token.Variable "$a" none) (t token.Op "[" (node kind.Text (t token.Text "'x'"
    none) (t token.Op "]" none)))) none) (t token.Op ")" none)))) (t token.Op "," (node kind.Offset (node kind.Offset
    (node kind.Variable (t token.Variable "$a" none) (t token.Op "[" (node kind.Text (t token.Text "'x'" none) (t
    token.Op "]" none)))) (t token.Op "[" (node kind.Number (t token.Int "0" none) (t token.Op "]" none)))) (t
    token.Op "," (node kind.Offset (node kind.Offset (node kind.Variable (t token.Variable "$b" none) (t token.Op "["
    (node kind.Text (t token.Text "'x'" none) (t token.Op "]" none)))) (t token.Op "[" (node kind.Number (t token.Int
    "0" none) (t token.Op "]" none)))) (t token.Op "," (node kind.Offset (node kind.Offset (node kind.Variable (t
    token.Variable "$a" none) (t token.Op "[" (node kind.Text (t token.Text "'y'" none) (t token.Op "]" none)))) (t
    token.Op "[" (node kind.Text (t token.Text "'z'" none) (t token.Op "]" none)))) (t token.Semi ";" none)))))))))))
    none))))))

mixed_nested_writes : Comes 200 (file mixed_nested_writes_tree) (file mixed_nested_writes_tree) (codes "a.php")
    ((codes "22193"), ended)
    ((codes "22193"), ended)
unfolding builtin_rows named_constants word_constants is_same_name newer_functions newer_classes newer_constants beyond_functions beyond_classes beyond_constants
mixed_nested_writes = (refl, refl)

-- <?php $a = 1; $b = &$a; $b++; $c = [1, 2]; $d = &$c[1]; $d = 7; echo $a, $c[1]; unset($b); $b = 5; echo $a;
abbrev mixed_references_tree : Forest
mixed_references_tree =
    (node kind.ExprStmt (node kind.Assign (node kind.Variable (t token.Variable "$a" none) (t token.Op "=" (node
    kind.Number (t token.Int "1" none) none))) (t token.Semi ";" none)) (node kind.ExprStmt (node kind.AssignRef (node
    kind.Variable (t token.Variable "$b" none) (t token.Op "=" (t token.Op "&" (node kind.Variable (t token.Variable
    "$a" none) none)))) (t token.Semi ";" none)) (node kind.ExprStmt (node kind.Postfix (node kind.Variable (t
    token.Variable "$b" none) (t token.Op "++" none)) (t token.Semi ";" none)) (node kind.ExprStmt (node kind.Assign
    (node kind.Variable (t token.Variable "$c" none) (t token.Op "=" (node kind.Array (t token.Op "[" (node kind.Item
    (node kind.Number (t token.Int "1" none) none) (t token.Op "," (node kind.Item (node kind.Number (t token.Int "2"
    none) none) (t token.Op "]" none))))) none))) (t token.Semi ";" none)) (node kind.ExprStmt (node kind.AssignRef
    (node kind.Variable (t token.Variable "$d" none) (t token.Op "=" (t token.Op "&" (node kind.Offset (node
    kind.Variable (t token.Variable "$c" none) (t token.Op "[" (node kind.Number (t token.Int "1" none) (t token.Op
    "]" none)))) none)))) (t token.Semi ";" none)) (node kind.ExprStmt (node kind.Assign (node kind.Variable (t
    token.Variable "$d" none) (t token.Op "=" (node kind.Number (t token.Int "7" none) none))) (t token.Semi ";"
    none)) (node kind.Echo (t token.Keyword "echo" (node kind.Variable (t token.Variable "$a" none) (t token.Op ","
    (node kind.Offset (node kind.Variable (t token.Variable "$c" none) (t token.Op "[" (node kind.Number (t token.Int
    "1" none) (t token.Op "]" none)))) (t token.Semi ";" none))))) (node kind.Unset (t token.Keyword "unset" (t
    token.Op "(" (node kind.Variable (t token.Variable "$b" none) (t token.Op ")" (t token.Semi ";" none))))) (node
    kind.ExprStmt (node kind.Assign (node kind.Variable (t token.Variable "$b" none) (t token.Op "=" (node kind.Number
    (t token.Int "5" none) none))) (t token.Semi ";" none)) (node kind.Echo (t token.Keyword "echo" (node
    kind.Variable (t token.Variable "$a" none) (t token.Semi ";" none))) none))))))))))

mixed_references : Comes 200 (file mixed_references_tree) (file mixed_references_tree) (codes "a.php")
    ((codes "272"), ended)
    ((codes "272"), ended)
unfolding builtin_rows named_constants word_constants is_same_name newer_functions newer_classes newer_constants beyond_functions beyond_classes beyond_constants
mixed_references = (refl, refl)

-- <?php $i = 5; echo $i++, $i, ++$i, $i--, --$i; $i += 3; $i .= "x"; echo $i; $n = null; $n++; echo $n; $q["k"] = 1; $q["k"] += 2; echo $q["k"];
abbrev mixed_steps_tree : Forest
mixed_steps_tree =
    (node kind.ExprStmt (node kind.Assign (node kind.Variable (t token.Variable "$i" none) (t token.Op "=" (node
    kind.Number (t token.Int "5" none) none))) (t token.Semi ";" none)) (node kind.Echo (t token.Keyword "echo" (node
    kind.Postfix (node kind.Variable (t token.Variable "$i" none) (t token.Op "++" none)) (t token.Op "," (node
    kind.Variable (t token.Variable "$i" none) (t token.Op "," (node kind.Prefix (t token.Op "++" (node kind.Variable
    (t token.Variable "$i" none) none)) (t token.Op "," (node kind.Postfix (node kind.Variable (t token.Variable "$i"
    none) (t token.Op "--" none)) (t token.Op "," (node kind.Prefix (t token.Op "--" (node kind.Variable (t
    token.Variable "$i" none) none)) (t token.Semi ";" none))))))))))) (node kind.ExprStmt (node kind.CompoundAssign
    (node kind.Variable (t token.Variable "$i" none) (t token.Op "+=" (node kind.Number (t token.Int "3" none) none)))
    (t token.Semi ";" none)) (node kind.ExprStmt (node kind.CompoundAssign (node kind.Variable (t token.Variable "$i"
    none) (t token.Op ".=" (node kind.Text (t token.Text "\"x\"" none) none))) (t token.Semi ";" none)) (node
    kind.Echo (t token.Keyword "echo" (node kind.Variable (t token.Variable "$i" none) (t token.Semi ";" none))) (node
    kind.ExprStmt (node kind.Assign (node kind.Variable (t token.Variable "$n" none) (t token.Op "=" (node
    kind.Constant (t token.Label "null" none) none))) (t token.Semi ";" none)) (node kind.ExprStmt (node kind.Postfix
    (node kind.Variable (t token.Variable "$n" none) (t token.Op "++" none)) (t token.Semi ";" none)) (node kind.Echo
    (t token.Keyword "echo" (node kind.Variable (t token.Variable "$n" none) (t token.Semi ";" none))) (node
    kind.ExprStmt (node kind.Assign (node kind.Offset (node kind.Variable (t token.Variable "$q" none) (t token.Op "["
    (node kind.Text (t token.Text "\"k\"" none) (t token.Op "]" none)))) (t token.Op "=" (node kind.Number (t
    token.Int "1" none) none))) (t token.Semi ";" none)) (node kind.ExprStmt (node kind.CompoundAssign (node
    kind.Offset (node kind.Variable (t token.Variable "$q" none) (t token.Op "[" (node kind.Text (t token.Text "\"k\""
    none) (t token.Op "]" none)))) (t token.Op "+=" (node kind.Number (t token.Int "2" none) none))) (t token.Semi ";"
    none)) (node kind.Echo (t token.Keyword "echo" (node kind.Offset (node kind.Variable (t token.Variable "$q" none)
    (t token.Op "[" (node kind.Text (t token.Text "\"k\"" none) (t token.Op "]" none)))) (t token.Semi ";" none)))
    none)))))))))))

mixed_steps : Comes 200 (file mixed_steps_tree) (file mixed_steps_tree) (codes "a.php")
    ((codes "567758x13"), ended)
    ((codes "567758x13"), ended)
unfolding builtin_rows named_constants word_constants is_same_name newer_functions newer_classes newer_constants beyond_functions beyond_classes beyond_constants
mixed_steps = (refl, refl)

-- <?php $i = 0; while ($i < 4) { $i++; if ($i == 2) continue; if ($i == 4) break; echo $i; } echo "e";
abbrev mixed_while_loop_tree : Forest
mixed_while_loop_tree =
    (node kind.ExprStmt (node kind.Assign (node kind.Variable (t token.Variable "$i" none) (t token.Op "=" (node
    kind.Number (t token.Int "0" none) none))) (t token.Semi ";" none)) (node kind.While (t token.Keyword "while" (t
    token.Op "(" (node kind.Binary (node kind.Variable (t token.Variable "$i" none) (t token.Op "<" (node kind.Number
    (t token.Int "4" none) none))) (t token.Op ")" (node kind.Block (t token.Op "{" (node kind.ExprStmt (node
    kind.Postfix (node kind.Variable (t token.Variable "$i" none) (t token.Op "++" none)) (t token.Semi ";" none))
    (node kind.If (t token.Keyword "if" (t token.Op "(" (node kind.Binary (node kind.Variable (t token.Variable "$i"
    none) (t token.Op "==" (node kind.Number (t token.Int "2" none) none))) (t token.Op ")" (node kind.Continue (t
    token.Keyword "continue" (t token.Semi ";" none)) none))))) (node kind.If (t token.Keyword "if" (t token.Op "("
    (node kind.Binary (node kind.Variable (t token.Variable "$i" none) (t token.Op "==" (node kind.Number (t token.Int
    "4" none) none))) (t token.Op ")" (node kind.Break (t token.Keyword "break" (t token.Semi ";" none)) none)))))
    (node kind.Echo (t token.Keyword "echo" (node kind.Variable (t token.Variable "$i" none) (t token.Semi ";" none)))
    (t token.Op "}" none)))))) none))))) (node kind.Echo (t token.Keyword "echo" (node kind.Text (t token.Text "\"e\""
    none) (t token.Semi ";" none))) none)))

mixed_while_loop : Comes 200 (file mixed_while_loop_tree) (file mixed_while_loop_tree) (codes "a.php")
    ((codes "13e"), ended)
    ((codes "13e"), ended)
unfolding builtin_rows named_constants word_constants is_same_name newer_functions newer_classes newer_constants beyond_functions beyond_classes beyond_constants
mixed_while_loop = (refl, refl)

-- <?php for ($i = 0, $j = 5; $i < $j; $i++, $j--) { if ($i == 1) continue; echo $i, $j, " "; } for (;;) { break; } echo $i;
abbrev mixed_for_loop_tree : Forest
mixed_for_loop_tree =
    (node kind.For (t token.Keyword "for" (t token.Op "(" (node kind.Assign (node kind.Variable (t token.Variable "$i"
    none) (t token.Op "=" (node kind.Number (t token.Int "0" none) none))) (t token.Op "," (node kind.Assign (node
    kind.Variable (t token.Variable "$j" none) (t token.Op "=" (node kind.Number (t token.Int "5" none) none))) (t
    token.Semi ";" (node kind.Binary (node kind.Variable (t token.Variable "$i" none) (t token.Op "<" (node
    kind.Variable (t token.Variable "$j" none) none))) (t token.Semi ";" (node kind.Postfix (node kind.Variable (t
    token.Variable "$i" none) (t token.Op "++" none)) (t token.Op "," (node kind.Postfix (node kind.Variable (t
    token.Variable "$j" none) (t token.Op "--" none)) (t token.Op ")" (node kind.Block (t token.Op "{" (node kind.If
    (t token.Keyword "if" (t token.Op "(" (node kind.Binary (node kind.Variable (t token.Variable "$i" none) (t
    token.Op "==" (node kind.Number (t token.Int "1" none) none))) (t token.Op ")" (node kind.Continue (t
    token.Keyword "continue" (t token.Semi ";" none)) none))))) (node kind.Echo (t token.Keyword "echo" (node
    kind.Variable (t token.Variable "$i" none) (t token.Op "," (node kind.Variable (t token.Variable "$j" none) (t
    token.Op "," (node kind.Text (t token.Text "\" \"" none) (t token.Semi ";" none))))))) (t token.Op "}" none))))
    none))))))))))))) (node kind.For (t token.Keyword "for" (t token.Op "(" (t token.Semi ";" (t token.Semi ";" (t
    token.Op ")" (node kind.Block (t token.Op "{" (node kind.Break (t token.Keyword "break" (t token.Semi ";" none))
    (t token.Op "}" none))) none)))))) (node kind.Echo (t token.Keyword "echo" (node kind.Variable (t token.Variable
    "$i" none) (t token.Semi ";" none))) none)))

mixed_for_loop : Comes 200 (file mixed_for_loop_tree) (file mixed_for_loop_tree) (codes "a.php")
    ((codes "05 23 3"), ended)
    ((codes "05 23 3"), ended)
unfolding builtin_rows named_constants word_constants is_same_name newer_functions newer_classes newer_constants beyond_functions beyond_classes beyond_constants
mixed_for_loop = (refl, refl)

-- <?php for ($i = 0; $i < 3; $i++): foreach ([1, 2, 3] as $k => $v): if ($v == 2) continue 2; if ($i == 2) break 2;
--  echo $i, $k, $v, ";"; endforeach; endfor; do { echo $i; } while ($i-- > 1);
abbrev mixed_nested_loops_tree : Forest
mixed_nested_loops_tree =
    (node kind.For (t token.Keyword "for" (t token.Op "(" (node kind.Assign (node kind.Variable (t token.Variable "$i"
    none) (t token.Op "=" (node kind.Number (t token.Int "0" none) none))) (t token.Semi ";" (node kind.Binary (node
    kind.Variable (t token.Variable "$i" none) (t token.Op "<" (node kind.Number (t token.Int "3" none) none))) (t
    token.Semi ";" (node kind.Postfix (node kind.Variable (t token.Variable "$i" none) (t token.Op "++" none)) (t
    token.Op ")" (t token.Op ":" (node kind.Foreach (t token.Keyword "foreach" (t token.Op "(" (node kind.Array (t
    token.Op "[" (node kind.Item (node kind.Number (t token.Int "1" none) none) (t token.Op "," (node kind.Item (node
    kind.Number (t token.Int "2" none) none) (t token.Op "," (node kind.Item (node kind.Number (t token.Int "3" none)
    none) (t token.Op "]" none))))))) (t token.Keyword "as" (node kind.Variable (t token.Variable "$k" none) (t
    token.Op "=>" (node kind.Variable (t token.Variable "$v" none) (t token.Op ")" (t token.Op ":" (node kind.If (t
    token.Keyword "if" (t token.Op "(" (node kind.Binary (node kind.Variable (t token.Variable "$v" none) (t token.Op
    "==" (node kind.Number (t token.Int "2" none) none))) (t token.Op ")" (node kind.Continue (t token.Keyword
    "continue" (t token.Int "2" (t token.Semi ";" none))) none))))) (node kind.If (t token.Keyword "if" (t token.Op
    "(" (node kind.Binary (node kind.Variable (t token.Variable "$i" none) (t token.Op "==" (node kind.Number (t
    token.Int "2" none) none))) (t token.Op ")" (node kind.Break (t token.Keyword "break" (t token.Int "2" (t
    token.Semi ";" none))) none))))) (node kind.Echo (t token.Keyword "echo" (node kind.Variable (t token.Variable
    "$i" none) (t token.Op "," (node kind.Variable (t token.Variable "$k" none) (t token.Op "," (node kind.Variable (t
    token.Variable "$v" none) (t token.Op "," (node kind.Text (t token.Text "\";\"" none) (t token.Semi ";"
    none))))))))) (t token.Keyword "endforeach" (t token.Semi ";" none)))))))))))))) (t token.Keyword "endfor" (t
    token.Semi ";" none)))))))))))) (node kind.DoWhile (t token.Keyword "do" (node kind.Block (t token.Op "{" (node
    kind.Echo (t token.Keyword "echo" (node kind.Variable (t token.Variable "$i" none) (t token.Semi ";" none))) (t
    token.Op "}" none))) (t token.Keyword "while" (t token.Op "(" (node kind.Binary (node kind.Postfix (node
    kind.Variable (t token.Variable "$i" none) (t token.Op "--" none)) (t token.Op ">" (node kind.Number (t token.Int
    "1" none) none))) (t token.Op ")" (t token.Semi ";" none))))))) none))

mixed_nested_loops : Comes 200 (file mixed_nested_loops_tree) (file mixed_nested_loops_tree) (codes "a.php")
    ((codes "001;101;21"), ended)
    ((codes "001;101;21"), ended)
unfolding builtin_rows named_constants word_constants is_same_name newer_functions newer_classes newer_constants beyond_functions beyond_classes beyond_constants
mixed_nested_loops = (refl, refl)

-- <?php switch ("1") { case 1: echo "one"; case 2: echo "two"; break; default: echo "d"; } switch (9) { case 1: echo
--  1; default: echo "D"; case 3: echo 3; } foreach ([1, 2] as $x) { switch ($x) { case 1: continue 2; } echo $x; }
abbrev mixed_switched_tree : Forest
mixed_switched_tree =
    (node kind.Switch (t token.Keyword "switch" (t token.Op "(" (node kind.Text (t token.Text "\"1\"" none) (t
    token.Op ")" (t token.Op "{" (node kind.Case (t token.Keyword "case" (node kind.Number (t token.Int "1" none) (t
    token.Op ":" (node kind.Echo (t token.Keyword "echo" (node kind.Text (t token.Text "\"one\"" none) (t token.Semi
    ";" none))) none)))) (node kind.Case (t token.Keyword "case" (node kind.Number (t token.Int "2" none) (t token.Op
    ":" (node kind.Echo (t token.Keyword "echo" (node kind.Text (t token.Text "\"two\"" none) (t token.Semi ";"
    none))) (node kind.Break (t token.Keyword "break" (t token.Semi ";" none)) none))))) (node kind.Case (t
    token.Keyword "default" (t token.Op ":" (node kind.Echo (t token.Keyword "echo" (node kind.Text (t token.Text
    "\"d\"" none) (t token.Semi ";" none))) none))) (t token.Op "}" none))))))))) (node kind.Switch (t token.Keyword
    "switch" (t token.Op "(" (node kind.Number (t token.Int "9" none) (t token.Op ")" (t token.Op "{" (node kind.Case
    (t token.Keyword "case" (node kind.Number (t token.Int "1" none) (t token.Op ":" (node kind.Echo (t token.Keyword
    "echo" (node kind.Number (t token.Int "1" none) (t token.Semi ";" none))) none)))) (node kind.Case (t
    token.Keyword "default" (t token.Op ":" (node kind.Echo (t token.Keyword "echo" (node kind.Text (t token.Text
    "\"D\"" none) (t token.Semi ";" none))) none))) (node kind.Case (t token.Keyword "case" (node kind.Number (t
    token.Int "3" none) (t token.Op ":" (node kind.Echo (t token.Keyword "echo" (node kind.Number (t token.Int "3"
    none) (t token.Semi ";" none))) none)))) (t token.Op "}" none))))))))) (node kind.Foreach (t token.Keyword
    "foreach" (t token.Op "(" (node kind.Array (t token.Op "[" (node kind.Item (node kind.Number (t token.Int "1"
    none) none) (t token.Op "," (node kind.Item (node kind.Number (t token.Int "2" none) none) (t token.Op "]"
    none))))) (t token.Keyword "as" (node kind.Variable (t token.Variable "$x" none) (t token.Op ")" (node kind.Block
    (t token.Op "{" (node kind.Switch (t token.Keyword "switch" (t token.Op "(" (node kind.Variable (t token.Variable
    "$x" none) (t token.Op ")" (t token.Op "{" (node kind.Case (t token.Keyword "case" (node kind.Number (t token.Int
    "1" none) (t token.Op ":" (node kind.Continue (t token.Keyword "continue" (t token.Int "2" (t token.Semi ";"
    none))) none)))) (t token.Op "}" none))))))) (node kind.Echo (t token.Keyword "echo" (node kind.Variable (t
    token.Variable "$x" none) (t token.Semi ";" none))) (t token.Op "}" none)))) none))))))) none)))

mixed_switched : Comes 200 (file mixed_switched_tree) (file mixed_switched_tree) (codes "a.php")
    ((codes "onetwoD32"), ended)
    ((codes "onetwoD32"), ended)
unfolding builtin_rows named_constants word_constants is_same_name newer_functions newer_classes newer_constants beyond_functions beyond_classes beyond_constants
mixed_switched = (refl, refl)

-- <?php $a = [1, 2, 3]; foreach ($a as $v) { $a[] = $v; } echo count($a); foreach ([1, 2] as $i => $i) { echo $i; } foreach (null as $z) { echo "no"; }
abbrev mixed_foreach_copy_tree : Forest
mixed_foreach_copy_tree =
    (node kind.ExprStmt (node kind.Assign (node kind.Variable (t token.Variable "$a" none) (t token.Op "=" (node
    kind.Array (t token.Op "[" (node kind.Item (node kind.Number (t token.Int "1" none) none) (t token.Op "," (node
    kind.Item (node kind.Number (t token.Int "2" none) none) (t token.Op "," (node kind.Item (node kind.Number (t
    token.Int "3" none) none) (t token.Op "]" none))))))) none))) (t token.Semi ";" none)) (node kind.Foreach (t
    token.Keyword "foreach" (t token.Op "(" (node kind.Variable (t token.Variable "$a" none) (t token.Keyword "as"
    (node kind.Variable (t token.Variable "$v" none) (t token.Op ")" (node kind.Block (t token.Op "{" (node
    kind.ExprStmt (node kind.Assign (node kind.Offset (node kind.Variable (t token.Variable "$a" none) (t token.Op "["
    (t token.Op "]" none))) (t token.Op "=" (node kind.Variable (t token.Variable "$v" none) none))) (t token.Semi ";"
    none)) (t token.Op "}" none))) none))))))) (node kind.Echo (t token.Keyword "echo" (node kind.Call (t token.Label
    "count" (t token.Op "(" (node kind.Args (node kind.Variable (t token.Variable "$a" none) none) (t token.Op ")"
    none)))) (t token.Semi ";" none))) (node kind.Foreach (t token.Keyword "foreach" (t token.Op "(" (node kind.Array
    (t token.Op "[" (node kind.Item (node kind.Number (t token.Int "1" none) none) (t token.Op "," (node kind.Item
    (node kind.Number (t token.Int "2" none) none) (t token.Op "]" none))))) (t token.Keyword "as" (node kind.Variable
    (t token.Variable "$i" none) (t token.Op "=>" (node kind.Variable (t token.Variable "$i" none) (t token.Op ")"
    (node kind.Block (t token.Op "{" (node kind.Echo (t token.Keyword "echo" (node kind.Variable (t token.Variable
    "$i" none) (t token.Semi ";" none))) (t token.Op "}" none))) none))))))))) (node kind.Foreach (t token.Keyword
    "foreach" (t token.Op "(" (node kind.Constant (t token.Label "null" none) (t token.Keyword "as" (node
    kind.Variable (t token.Variable "$z" none) (t token.Op ")" (node kind.Block (t token.Op "{" (node kind.Echo (t
    token.Keyword "echo" (node kind.Text (t token.Text "\"no\"" none) (t token.Semi ";" none))) (t token.Op "}"
    none))) none))))))) none)))))

mixed_foreach_copy : Comes 200 (file mixed_foreach_copy_tree) (file mixed_foreach_copy_tree) (codes "a.php")
    ((codes "601"), ended)
    ((codes "601"), ended)
unfolding builtin_rows named_constants word_constants is_same_name newer_functions newer_classes newer_constants beyond_functions beyond_classes beyond_constants
mixed_foreach_copy = (refl, refl)

-- <?php $a = [1, 2, 3]; foreach ($a as &$v) { echo $v; if ($v == 1) { $a = [7, 8, 9]; } } unset($v); $b = [1, 2]; $n
--  = 0; foreach ($b as $k => &$v) { if ($n++ < 3) $b[] = 9; echo $v; } unset($v); echo count($b);
abbrev mixed_foreach_reference_tree : Forest
mixed_foreach_reference_tree =
    (node kind.ExprStmt (node kind.Assign (node kind.Variable (t token.Variable "$a" none) (t token.Op "=" (node
    kind.Array (t token.Op "[" (node kind.Item (node kind.Number (t token.Int "1" none) none) (t token.Op "," (node
    kind.Item (node kind.Number (t token.Int "2" none) none) (t token.Op "," (node kind.Item (node kind.Number (t
    token.Int "3" none) none) (t token.Op "]" none))))))) none))) (t token.Semi ";" none)) (node kind.Foreach (t
    token.Keyword "foreach" (t token.Op "(" (node kind.Variable (t token.Variable "$a" none) (t token.Keyword "as" (t
    token.Op "&" (node kind.Variable (t token.Variable "$v" none) (t token.Op ")" (node kind.Block (t token.Op "{"
    (node kind.Echo (t token.Keyword "echo" (node kind.Variable (t token.Variable "$v" none) (t token.Semi ";" none)))
    (node kind.If (t token.Keyword "if" (t token.Op "(" (node kind.Binary (node kind.Variable (t token.Variable "$v"
    none) (t token.Op "==" (node kind.Number (t token.Int "1" none) none))) (t token.Op ")" (node kind.Block (t
    token.Op "{" (node kind.ExprStmt (node kind.Assign (node kind.Variable (t token.Variable "$a" none) (t token.Op
    "=" (node kind.Array (t token.Op "[" (node kind.Item (node kind.Number (t token.Int "7" none) none) (t token.Op
    "," (node kind.Item (node kind.Number (t token.Int "8" none) none) (t token.Op "," (node kind.Item (node
    kind.Number (t token.Int "9" none) none) (t token.Op "]" none))))))) none))) (t token.Semi ";" none)) (t token.Op
    "}" none))) none))))) (t token.Op "}" none)))) none)))))))) (node kind.Unset (t token.Keyword "unset" (t token.Op
    "(" (node kind.Variable (t token.Variable "$v" none) (t token.Op ")" (t token.Semi ";" none))))) (node
    kind.ExprStmt (node kind.Assign (node kind.Variable (t token.Variable "$b" none) (t token.Op "=" (node kind.Array
    (t token.Op "[" (node kind.Item (node kind.Number (t token.Int "1" none) none) (t token.Op "," (node kind.Item
    (node kind.Number (t token.Int "2" none) none) (t token.Op "]" none))))) none))) (t token.Semi ";" none)) (node
    kind.ExprStmt (node kind.Assign (node kind.Variable (t token.Variable "$n" none) (t token.Op "=" (node kind.Number
    (t token.Int "0" none) none))) (t token.Semi ";" none)) (node kind.Foreach (t token.Keyword "foreach" (t token.Op
    "(" (node kind.Variable (t token.Variable "$b" none) (t token.Keyword "as" (node kind.Variable (t token.Variable
    "$k" none) (t token.Op "=>" (t token.Op "&" (node kind.Variable (t token.Variable "$v" none) (t token.Op ")" (node
    kind.Block (t token.Op "{" (node kind.If (t token.Keyword "if" (t token.Op "(" (node kind.Binary (node
    kind.Postfix (node kind.Variable (t token.Variable "$n" none) (t token.Op "++" none)) (t token.Op "<" (node
    kind.Number (t token.Int "3" none) none))) (t token.Op ")" (node kind.ExprStmt (node kind.Assign (node kind.Offset
    (node kind.Variable (t token.Variable "$b" none) (t token.Op "[" (t token.Op "]" none))) (t token.Op "=" (node
    kind.Number (t token.Int "9" none) none))) (t token.Semi ";" none)) none))))) (node kind.Echo (t token.Keyword
    "echo" (node kind.Variable (t token.Variable "$v" none) (t token.Semi ";" none))) (t token.Op "}" none))))
    none)))))))))) (node kind.Unset (t token.Keyword "unset" (t token.Op "(" (node kind.Variable (t token.Variable
    "$v" none) (t token.Op ")" (t token.Semi ";" none))))) (node kind.Echo (t token.Keyword "echo" (node kind.Call (t
    token.Label "count" (t token.Op "(" (node kind.Args (node kind.Variable (t token.Variable "$b" none) none) (t
    token.Op ")" none)))) (t token.Semi ";" none))) none))))))))

mixed_foreach_reference : Comes 200 (file mixed_foreach_reference_tree) (file mixed_foreach_reference_tree) (codes "a.php")
    ((codes "1789129995"), ended)
    ((codes "1789129995"), ended)
unfolding builtin_rows named_constants word_constants is_same_name newer_functions newer_classes newer_constants beyond_functions beyond_classes beyond_constants
mixed_foreach_reference = (refl, refl)
