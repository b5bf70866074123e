-- Rows of whole programs: arrays. The 8.3 side is what PHP 8.2 echoes, where it has a meaning here.
use Rattle.std.proofs.Common.{refl, codes}
use Rattle.php_tree.specs.declared.token.TokenKind.TheVariants as token
use Rattle.php_tree.specs.declared.kind.NodeKind.TheVariants as kind
use Rattle.php_tree.specs.Tree.{Forest, none, node}
use Rattle.builtin_tables.specs.Beyond.{beyond_functions, beyond_classes, beyond_constants}
use Rattle.builtin_tables.specs.Builtins.{builtin_rows}
use Rattle.builtin_tables.specs.Constants.{named_constants, word_constants}
use Rattle.builtin_tables.specs.Named.{is_same_name}
use Rattle.builtin_tables.specs.Newer.{newer_functions, newer_classes, newer_constants}
use Rattle.meaning_rows.specs.Words.{t, b, file, ended, Comes}

-- <?php $a = ['1' => 'a', '01' => 'b', true => 'c', null => 'd', 2 => 'e', '-0' => 'f', '-5' => 'g']; foreach ($a as
--  $k => $v) { echo is_int($k) ? 'i' : 's', $k, $v, ' '; }
abbrev keys_tree : Forest
keys_tree =
    (node kind.ExprStmt (node kind.Assign (node kind.Variable (t token.Variable "$a" none) (t token.Op "=" (node
    kind.Array (t token.Op "[" (node kind.Item (node kind.Text (t token.Text "'1'" none) (t token.Op "=>" (node
    kind.Text (t token.Text "'a'" none) none))) (t token.Op "," (node kind.Item (node kind.Text (t token.Text "'01'"
    none) (t token.Op "=>" (node kind.Text (t token.Text "'b'" none) none))) (t token.Op "," (node kind.Item (node
    kind.Constant (t token.Label "true" none) (t token.Op "=>" (node kind.Text (t token.Text "'c'" none) none))) (t
    token.Op "," (node kind.Item (node kind.Constant (t token.Label "null" none) (t token.Op "=>" (node kind.Text (t
    token.Text "'d'" none) none))) (t token.Op "," (node kind.Item (node kind.Number (t token.Int "2" none) (t
    token.Op "=>" (node kind.Text (t token.Text "'e'" none) none))) (t token.Op "," (node kind.Item (node kind.Text (t
    token.Text "'-0'" none) (t token.Op "=>" (node kind.Text (t token.Text "'f'" none) none))) (t token.Op "," (node
    kind.Item (node kind.Text (t token.Text "'-5'" none) (t token.Op "=>" (node kind.Text (t token.Text "'g'" none)
    none))) (t token.Op "]" none))))))))))))))) none))) (t token.Semi ";" none)) (node kind.Foreach (t token.Keyword
    "foreach" (t token.Op "(" (node kind.Variable (t token.Variable "$a" none) (t token.Keyword "as" (node
    kind.Variable (t token.Variable "$k" none) (t token.Op "=>" (node kind.Variable (t token.Variable "$v" none) (t
    token.Op ")" (node kind.Block (t token.Op "{" (node kind.Echo (t token.Keyword "echo" (node kind.Ternary (node
    kind.Call (t token.Label "is_int" (t token.Op "(" (node kind.Args (node kind.Variable (t token.Variable "$k" none)
    none) (t token.Op ")" none)))) (t token.Op "?" (node kind.Text (t token.Text "'i'" none) (t token.Op ":" (node
    kind.Text (t token.Text "'s'" none) none))))) (t token.Op "," (node kind.Variable (t token.Variable "$k" none) (t
    token.Op "," (node kind.Variable (t token.Variable "$v" none) (t token.Op "," (node kind.Text (t token.Text "' '"
    none) (t token.Semi ";" none))))))))) (t token.Op "}" none))) none))))))))) none))

keys : Comes 200 (file keys_tree) (file keys_tree) (codes "a.php")
    ((codes "i1c s01b sd i2e s-0f i-5g "), ended)
    ((codes "i1c s01b sd i2e s-0f i-5g "), ended)
unfolding builtin_rows named_constants word_constants is_same_name newer_functions newer_classes newer_constants beyond_functions beyond_classes beyond_constants
keys = (refl, refl)

-- <?php $a = [5 => 'a', 'b', 'x' => 'c', 'd', 2 => 'e', 'f']; foreach ($a as $k => $v) { echo $k, $v; } $b = []; $b[]
--  = 1; unset($b[0]); $b[] = 2; echo array_keys($b)[0];
abbrev next_keys_tree : Forest
next_keys_tree =
    (node kind.ExprStmt (node kind.Assign (node kind.Variable (t token.Variable "$a" none) (t token.Op "=" (node
    kind.Array (t token.Op "[" (node kind.Item (node kind.Number (t token.Int "5" none) (t token.Op "=>" (node
    kind.Text (t token.Text "'a'" none) none))) (t token.Op "," (node kind.Item (node kind.Text (t token.Text "'b'"
    none) none) (t token.Op "," (node kind.Item (node kind.Text (t token.Text "'x'" none) (t token.Op "=>" (node
    kind.Text (t token.Text "'c'" none) none))) (t token.Op "," (node kind.Item (node kind.Text (t token.Text "'d'"
    none) none) (t token.Op "," (node kind.Item (node kind.Number (t token.Int "2" none) (t token.Op "=>" (node
    kind.Text (t token.Text "'e'" none) none))) (t token.Op "," (node kind.Item (node kind.Text (t token.Text "'f'"
    none) none) (t token.Op "]" none))))))))))))) none))) (t token.Semi ";" none)) (node kind.Foreach (t token.Keyword
    "foreach" (t token.Op "(" (node kind.Variable (t token.Variable "$a" none) (t token.Keyword "as" (node
    kind.Variable (t token.Variable "$k" none) (t token.Op "=>" (node kind.Variable (t token.Variable "$v" none) (t
    token.Op ")" (node kind.Block (t token.Op "{" (node kind.Echo (t token.Keyword "echo" (node kind.Variable (t
    token.Variable "$k" none) (t token.Op "," (node kind.Variable (t token.Variable "$v" none) (t token.Semi ";"
    none))))) (t token.Op "}" none))) none))))))))) (node kind.ExprStmt (node kind.Assign (node kind.Variable (t
    token.Variable "$b" none) (t token.Op "=" (node kind.Array (t token.Op "[" (t token.Op "]" none)) none))) (t
    token.Semi ";" none)) (node kind.ExprStmt (node kind.Assign (node kind.Offset (node kind.Variable (t
    token.Variable "$b" none) (t token.Op "[" (t token.Op "]" none))) (t token.Op "=" (node kind.Number (t token.Int
    "1" none) none))) (t token.Semi ";" none)) (node kind.Unset (t token.Keyword "unset" (t token.Op "(" (node
    kind.Offset (node kind.Variable (t token.Variable "$b" none) (t token.Op "[" (node kind.Number (t token.Int "0"
    none) (t token.Op "]" none)))) (t token.Op ")" (t token.Semi ";" none))))) (node kind.ExprStmt (node kind.Assign
    (node kind.Offset (node kind.Variable (t token.Variable "$b" none) (t token.Op "[" (t token.Op "]" none))) (t
    token.Op "=" (node kind.Number (t token.Int "2" none) none))) (t token.Semi ";" none)) (node kind.Echo (t
    token.Keyword "echo" (node kind.Offset (node kind.Call (t token.Label "array_keys" (t token.Op "(" (node kind.Args
    (node kind.Variable (t token.Variable "$b" none) none) (t token.Op ")" none)))) (t token.Op "[" (node kind.Number
    (t token.Int "0" none) (t token.Op "]" none)))) (t token.Semi ";" none))) none)))))))

next_keys : Comes 200 (file next_keys_tree) (file next_keys_tree) (codes "a.php")
    ((codes "5a6bxc7d2e8f1"), ended)
    ((codes "5a6bxc7d2e8f1"), ended)
unfolding builtin_rows named_constants word_constants is_same_name newer_functions newer_classes newer_constants beyond_functions beyond_classes beyond_constants
next_keys = (refl, refl)

-- <?php $a = [-5 => 'a', 'b', 'c']; echo implode(',', array_keys($a));
abbrev key_after_negative_tree : Forest
key_after_negative_tree =
    (node kind.ExprStmt (node kind.Assign (node kind.Variable (t token.Variable "$a" none) (t token.Op "=" (node
    kind.Array (t token.Op "[" (node kind.Item (node kind.Prefix (t token.Op "-" (node kind.Number (t token.Int "5"
    none) none)) (t token.Op "=>" (node kind.Text (t token.Text "'a'" none) none))) (t token.Op "," (node kind.Item
    (node kind.Text (t token.Text "'b'" none) none) (t token.Op "," (node kind.Item (node kind.Text (t token.Text
    "'c'" none) none) (t token.Op "]" none))))))) none))) (t token.Semi ";" none)) (node kind.Echo (t token.Keyword
    "echo" (node kind.Call (t token.Label "implode" (t token.Op "(" (node kind.Args (node kind.Text (t token.Text
    "','" none) (t token.Op "," (node kind.Call (t token.Label "array_keys" (t token.Op "(" (node kind.Args (node
    kind.Variable (t token.Variable "$a" none) none) (t token.Op ")" none)))) none))) (t token.Op ")" none)))) (t
    token.Semi ";" none))) none))

key_after_negative : Comes 200 (file key_after_negative_tree) (file key_after_negative_tree) (codes "a.php")
    ((codes "-5,0,1"), ended)
    ((codes "-5,-4,-3"), ended)
unfolding builtin_rows named_constants word_constants is_same_name newer_functions newer_classes newer_constants beyond_functions beyond_classes beyond_constants
key_after_negative = (refl, refl)

-- <?php $a = [-5 => 'a', 'b', 'c']; echo implode(',', array_keys($a));
-- rewritten:
-- <?php $a = [-5 => 'a', 0 => 'b', 'c']; echo implode(',', array_keys($a));
abbrev key_after_negative_rewritten_tree : Forest
key_after_negative_rewritten_tree =
    (node kind.ExprStmt (node kind.Assign (node kind.Variable (t token.Variable "$a" none) (t token.Op "=" (node
    kind.Array (t token.Op "[" (node kind.Item (node kind.Prefix (t token.Op "-" (node kind.Number (t token.Int "5"
    none) none)) (t token.Op "=>" (node kind.Text (t token.Text "'a'" none) none))) (t token.Op "," (node kind.Item
    (node kind.Text (t token.Text "'b'" none) none) (t token.Op "," (node kind.Item (node kind.Text (t token.Text
    "'c'" none) none) (t token.Op "]" none))))))) none))) (t token.Semi ";" none)) (node kind.Echo (t token.Keyword
    "echo" (node kind.Call (t token.Label "implode" (t token.Op "(" (node kind.Args (node kind.Text (t token.Text
    "','" none) (t token.Op "," (node kind.Call (t token.Label "array_keys" (t token.Op "(" (node kind.Args (node
    kind.Variable (t token.Variable "$a" none) none) (t token.Op ")" none)))) none))) (t token.Op ")" none)))) (t
    token.Semi ";" none))) none))

abbrev key_after_negative_rewritten_new_tree : Forest
key_after_negative_rewritten_new_tree =
    (node kind.ExprStmt (node kind.Assign (node kind.Variable (t token.Variable "$a" none) (t token.Op "=" (node
    kind.Array (t token.Op "[" (node kind.Item (node kind.Prefix (t token.Op "-" (node kind.Number (t token.Int "5"
    none) none)) (t token.Op "=>" (node kind.Text (t token.Text "'a'" none) none))) (t token.Op "," (node kind.Item
    (node kind.Number (t token.Int "0" none) (t token.Op "=>" (node kind.Text (t token.Text "'b'" none) none))) (t
    token.Op "," (node kind.Item (node kind.Text (t token.Text "'c'" none) none) (t token.Op "]" none))))))) none)))
    (t token.Semi ";" none)) (node kind.Echo (t token.Keyword "echo" (node kind.Call (t token.Label "implode" (t
    token.Op "(" (node kind.Args (node kind.Text (t token.Text "','" none) (t token.Op "," (node kind.Call (t
    token.Label "array_keys" (t token.Op "(" (node kind.Args (node kind.Variable (t token.Variable "$a" none) none) (t
    token.Op ")" none)))) none))) (t token.Op ")" none)))) (t token.Semi ";" none))) none))

key_after_negative_rewritten : Comes 200 (file key_after_negative_rewritten_tree) (file key_after_negative_rewritten_new_tree) (codes "a.php")
    ((codes "-5,0,1"), ended)
    ((codes "-5,0,1"), ended)
unfolding builtin_rows named_constants word_constants is_same_name newer_functions newer_classes newer_constants beyond_functions beyond_classes beyond_constants
key_after_negative_rewritten = (refl, refl)

-- <?php $a = []; $a['x']['y'][] = 1; $a['x']['z'] = 2; $a[] = 3; unset($a['x']['y']); echo count($a), count($a['x']),
--  $a[0]; $n = null; $n['k'] = 'v'; echo $n['k'];
abbrev written_elements_tree : Forest
written_elements_tree =
    (node kind.ExprStmt (node kind.Assign (node kind.Variable (t token.Variable "$a" none) (t token.Op "=" (node
    kind.Array (t token.Op "[" (t token.Op "]" none)) none))) (t token.Semi ";" none)) (node kind.ExprStmt (node
    kind.Assign (node kind.Offset (node kind.Offset (node kind.Offset (node kind.Variable (t token.Variable "$a" none)
    (t token.Op "[" (node kind.Text (t token.Text "'x'" none) (t token.Op "]" none)))) (t token.Op "[" (node kind.Text
    (t token.Text "'y'" none) (t token.Op "]" none)))) (t token.Op "[" (t token.Op "]" none))) (t token.Op "=" (node
    kind.Number (t token.Int "1" none) none))) (t token.Semi ";" none)) (node kind.ExprStmt (node kind.Assign (node
    kind.Offset (node kind.Offset (node kind.Variable (t token.Variable "$a" none) (t token.Op "[" (node kind.Text (t
    token.Text "'x'" none) (t token.Op "]" none)))) (t token.Op "[" (node kind.Text (t token.Text "'z'" none) (t
    token.Op "]" none)))) (t token.Op "=" (node kind.Number (t token.Int "2" none) none))) (t token.Semi ";" none))
    (node kind.ExprStmt (node kind.Assign (node kind.Offset (node kind.Variable (t token.Variable "$a" none) (t
    token.Op "[" (t token.Op "]" none))) (t token.Op "=" (node kind.Number (t token.Int "3" none) none))) (t
    token.Semi ";" none)) (node kind.Unset (t token.Keyword "unset" (t token.Op "(" (node kind.Offset (node
    kind.Offset (node kind.Variable (t token.Variable "$a" none) (t token.Op "[" (node kind.Text (t token.Text "'x'"
    none) (t token.Op "]" none)))) (t token.Op "[" (node kind.Text (t token.Text "'y'" none) (t token.Op "]" none))))
    (t token.Op ")" (t token.Semi ";" none))))) (node kind.Echo (t token.Keyword "echo" (node kind.Call (t token.Label
    "count" (t token.Op "(" (node kind.Args (node kind.Variable (t token.Variable "$a" none) none) (t token.Op ")"
    none)))) (t token.Op "," (node kind.Call (t token.Label "count" (t token.Op "(" (node kind.Args (node kind.Offset
    (node kind.Variable (t token.Variable "$a" none) (t token.Op "[" (node kind.Text (t token.Text "'x'" none) (t
    token.Op "]" none)))) none) (t token.Op ")" none)))) (t token.Op "," (node kind.Offset (node kind.Variable (t
    token.Variable "$a" none) (t token.Op "[" (node kind.Number (t token.Int "0" none) (t token.Op "]" none)))) (t
    token.Semi ";" none))))))) (node kind.ExprStmt (node kind.Assign (node kind.Variable (t token.Variable "$n" none)
    (t token.Op "=" (node kind.Constant (t token.Label "null" none) none))) (t token.Semi ";" none)) (node
    kind.ExprStmt (node kind.Assign (node kind.Offset (node kind.Variable (t token.Variable "$n" none) (t token.Op "["
    (node kind.Text (t token.Text "'k'" none) (t token.Op "]" none)))) (t token.Op "=" (node kind.Text (t token.Text
    "'v'" none) none))) (t token.Semi ";" none)) (node kind.Echo (t token.Keyword "echo" (node kind.Offset (node
    kind.Variable (t token.Variable "$n" none) (t token.Op "[" (node kind.Text (t token.Text "'k'" none) (t token.Op
    "]" none)))) (t token.Semi ";" none))) none)))))))))

written_elements : Comes 200 (file written_elements_tree) (file written_elements_tree) (codes "a.php")
    ((codes "213v"), ended)
    ((codes "213v"), ended)
unfolding builtin_rows named_constants word_constants is_same_name newer_functions newer_classes newer_constants beyond_functions beyond_classes beyond_constants
written_elements = (refl, refl)

-- <?php $a = [1, [2]]; $b = $a; $b[1][0] = 9; $b[] = 3; echo $a[1][0], count($a), $b[1][0], count($b); function f($x)
--  { $x[0] = 'p'; return $x; } $c = f($a); echo $a[0], $c[0];
abbrev copies_tree : Forest
copies_tree =
    (node kind.ExprStmt (node kind.Assign (node kind.Variable (t token.Variable "$a" none) (t token.Op "=" (node
    kind.Array (t token.Op "[" (node kind.Item (node kind.Number (t token.Int "1" none) none) (t token.Op "," (node
    kind.Item (node kind.Array (t token.Op "[" (node kind.Item (node kind.Number (t token.Int "2" none) none) (t
    token.Op "]" none))) none) (t token.Op "]" none))))) none))) (t token.Semi ";" none)) (node kind.ExprStmt (node
    kind.Assign (node kind.Variable (t token.Variable "$b" none) (t token.Op "=" (node kind.Variable (t token.Variable
    "$a" none) none))) (t token.Semi ";" none)) (node kind.ExprStmt (node kind.Assign (node kind.Offset (node
    kind.Offset (node kind.Variable (t token.Variable "$b" none) (t token.Op "[" (node kind.Number (t token.Int "1"
    none) (t token.Op "]" none)))) (t token.Op "[" (node kind.Number (t token.Int "0" none) (t token.Op "]" none))))
    (t token.Op "=" (node kind.Number (t token.Int "9" none) none))) (t token.Semi ";" none)) (node kind.ExprStmt
    (node kind.Assign (node kind.Offset (node kind.Variable (t token.Variable "$b" none) (t token.Op "[" (t token.Op
    "]" none))) (t token.Op "=" (node kind.Number (t token.Int "3" none) none))) (t token.Semi ";" none)) (node
    kind.Echo (t token.Keyword "echo" (node kind.Offset (node kind.Offset (node kind.Variable (t token.Variable "$a"
    none) (t token.Op "[" (node kind.Number (t token.Int "1" none) (t token.Op "]" none)))) (t token.Op "[" (node
    kind.Number (t token.Int "0" none) (t token.Op "]" none)))) (t token.Op "," (node kind.Call (t token.Label "count"
    (t token.Op "(" (node kind.Args (node kind.Variable (t token.Variable "$a" none) none) (t token.Op ")" none)))) (t
    token.Op "," (node kind.Offset (node kind.Offset (node kind.Variable (t token.Variable "$b" none) (t token.Op "["
    (node kind.Number (t token.Int "1" none) (t token.Op "]" none)))) (t token.Op "[" (node kind.Number (t token.Int
    "0" none) (t token.Op "]" none)))) (t token.Op "," (node kind.Call (t token.Label "count" (t token.Op "(" (node
    kind.Args (node kind.Variable (t token.Variable "$b" none) none) (t token.Op ")" none)))) (t token.Semi ";"
    none))))))))) (node kind.Function (t token.Keyword "function" (t token.Label "f" (t token.Op "(" (node kind.Param
    (t token.Variable "$x" none) (t token.Op ")" (node kind.Block (t token.Op "{" (node kind.ExprStmt (node
    kind.Assign (node kind.Offset (node kind.Variable (t token.Variable "$x" none) (t token.Op "[" (node kind.Number
    (t token.Int "0" none) (t token.Op "]" none)))) (t token.Op "=" (node kind.Text (t token.Text "'p'" none) none)))
    (t token.Semi ";" none)) (node kind.Return (t token.Keyword "return" (node kind.Variable (t token.Variable "$x"
    none) (t token.Semi ";" none))) (t token.Op "}" none)))) none)))))) (node kind.ExprStmt (node kind.Assign (node
    kind.Variable (t token.Variable "$c" none) (t token.Op "=" (node kind.Call (t token.Label "f" (t token.Op "("
    (node kind.Args (node kind.Variable (t token.Variable "$a" none) none) (t token.Op ")" none)))) none))) (t
    token.Semi ";" none)) (node kind.Echo (t token.Keyword "echo" (node kind.Offset (node kind.Variable (t
    token.Variable "$a" none) (t token.Op "[" (node kind.Number (t token.Int "0" none) (t token.Op "]" none)))) (t
    token.Op "," (node kind.Offset (node kind.Variable (t token.Variable "$c" none) (t token.Op "[" (node kind.Number
    (t token.Int "0" none) (t token.Op "]" none)))) (t token.Semi ";" none))))) none))))))))

copies : Comes 200 (file copies_tree) (file copies_tree) (codes "a.php")
    ((codes "22931p"), ended)
    ((codes "22931p"), ended)
unfolding builtin_rows named_constants word_constants is_same_name newer_functions newer_classes newer_constants beyond_functions beyond_classes beyond_constants
copies = (refl, refl)

-- <?php $a = [1, 2] + [7, 8, 9] + ['k' => 'v']; echo implode(',', $a), count($a); $a[] = 'n'; echo array_keys($a)[4];
abbrev unions_tree : Forest
unions_tree =
    (node kind.ExprStmt (node kind.Assign (node kind.Variable (t token.Variable "$a" none) (t token.Op "=" (node
    kind.Binary (node kind.Binary (node kind.Array (t token.Op "[" (node kind.Item (node kind.Number (t token.Int "1"
    none) none) (t token.Op "," (node kind.Item (node kind.Number (t token.Int "2" none) none) (t token.Op "]"
    none))))) (t token.Op "+" (node kind.Array (t token.Op "[" (node kind.Item (node kind.Number (t token.Int "7"
    none) none) (t token.Op "," (node kind.Item (node kind.Number (t token.Int "8" none) none) (t token.Op "," (node
    kind.Item (node kind.Number (t token.Int "9" none) none) (t token.Op "]" none))))))) none))) (t token.Op "+" (node
    kind.Array (t token.Op "[" (node kind.Item (node kind.Text (t token.Text "'k'" none) (t token.Op "=>" (node
    kind.Text (t token.Text "'v'" none) none))) (t token.Op "]" none))) none))) none))) (t token.Semi ";" none)) (node
    kind.Echo (t token.Keyword "echo" (node kind.Call (t token.Label "implode" (t token.Op "(" (node kind.Args (node
    kind.Text (t token.Text "','" none) (t token.Op "," (node kind.Variable (t token.Variable "$a" none) none))) (t
    token.Op ")" none)))) (t token.Op "," (node kind.Call (t token.Label "count" (t token.Op "(" (node kind.Args (node
    kind.Variable (t token.Variable "$a" none) none) (t token.Op ")" none)))) (t token.Semi ";" none))))) (node
    kind.ExprStmt (node kind.Assign (node kind.Offset (node kind.Variable (t token.Variable "$a" none) (t token.Op "["
    (t token.Op "]" none))) (t token.Op "=" (node kind.Text (t token.Text "'n'" none) none))) (t token.Semi ";" none))
    (node kind.Echo (t token.Keyword "echo" (node kind.Offset (node kind.Call (t token.Label "array_keys" (t token.Op
    "(" (node kind.Args (node kind.Variable (t token.Variable "$a" none) none) (t token.Op ")" none)))) (t token.Op
    "[" (node kind.Number (t token.Int "4" none) (t token.Op "]" none)))) (t token.Semi ";" none))) none))))

unions : Comes 200 (file unions_tree) (file unions_tree) (codes "a.php")
    ((codes "1,2,9,v43"), ended)
    ((codes "1,2,9,v43"), ended)
unfolding builtin_rows named_constants word_constants is_same_name newer_functions newer_classes newer_constants beyond_functions beyond_classes beyond_constants
unions = (refl, refl)

-- <?php $a = [1]; echo '[', @$a[5], @$a['x']['y'], ']', isset($a[5]) ? 't' : 'f', isset($a[0]) ? 't' : 'f', empty($a[0]) ? 't' : 'f', $a[7] ?? 'd';
abbrev missing_elements_tree : Forest
missing_elements_tree =
    (node kind.ExprStmt (node kind.Assign (node kind.Variable (t token.Variable "$a" none) (t token.Op "=" (node
    kind.Array (t token.Op "[" (node kind.Item (node kind.Number (t token.Int "1" none) none) (t token.Op "]" none)))
    none))) (t token.Semi ";" none)) (node kind.Echo (t token.Keyword "echo" (node kind.Text (t token.Text "'['" none)
    (t token.Op "," (node kind.Prefix (t token.Op "@" (node kind.Offset (node kind.Variable (t token.Variable "$a"
    none) (t token.Op "[" (node kind.Number (t token.Int "5" none) (t token.Op "]" none)))) none)) (t token.Op ","
    (node kind.Prefix (t token.Op "@" (node kind.Offset (node kind.Offset (node kind.Variable (t token.Variable "$a"
    none) (t token.Op "[" (node kind.Text (t token.Text "'x'" none) (t token.Op "]" none)))) (t token.Op "[" (node
    kind.Text (t token.Text "'y'" none) (t token.Op "]" none)))) none)) (t token.Op "," (node kind.Text (t token.Text
    "']'" none) (t token.Op "," (node kind.Ternary (node kind.Isset (t token.Keyword "isset" (t token.Op "(" (node
    kind.Offset (node kind.Variable (t token.Variable "$a" none) (t token.Op "[" (node kind.Number (t token.Int "5"
    none) (t token.Op "]" none)))) (t token.Op ")" none)))) (t token.Op "?" (node kind.Text (t token.Text "'t'" none)
    (t token.Op ":" (node kind.Text (t token.Text "'f'" none) none))))) (t token.Op "," (node kind.Ternary (node
    kind.Isset (t token.Keyword "isset" (t token.Op "(" (node kind.Offset (node kind.Variable (t token.Variable "$a"
    none) (t token.Op "[" (node kind.Number (t token.Int "0" none) (t token.Op "]" none)))) (t token.Op ")" none))))
    (t token.Op "?" (node kind.Text (t token.Text "'t'" none) (t token.Op ":" (node kind.Text (t token.Text "'f'"
    none) none))))) (t token.Op "," (node kind.Ternary (node kind.EmptyTest (t token.Keyword "empty" (t token.Op "("
    (node kind.Offset (node kind.Variable (t token.Variable "$a" none) (t token.Op "[" (node kind.Number (t token.Int
    "0" none) (t token.Op "]" none)))) (t token.Op ")" none)))) (t token.Op "?" (node kind.Text (t token.Text "'t'"
    none) (t token.Op ":" (node kind.Text (t token.Text "'f'" none) none))))) (t token.Op "," (node kind.Binary (node
    kind.Offset (node kind.Variable (t token.Variable "$a" none) (t token.Op "[" (node kind.Number (t token.Int "7"
    none) (t token.Op "]" none)))) (t token.Op "??" (node kind.Text (t token.Text "'d'" none) none))) (t token.Semi
    ";" none))))))))))))))))) none))

missing_elements : Comes 200 (file missing_elements_tree) (file missing_elements_tree) (codes "a.php")
    ((codes "[]ftfd"), ended)
    ((codes "[]ftfd"), ended)
unfolding builtin_rows named_constants word_constants is_same_name newer_functions newer_classes newer_constants beyond_functions beyond_classes beyond_constants
missing_elements = (refl, refl)

-- <?php $a = [1, 2]; $r = &$a[0]; $r = 9; echo $a[0]; $x = 5; $b = [&$x, 1]; $b[0] = 7; echo $x;
abbrev references_to_elements_tree : Forest
references_to_elements_tree =
    (node kind.ExprStmt (node kind.Assign (node kind.Variable (t token.Variable "$a" none) (t token.Op "=" (node
    kind.Array (t token.Op "[" (node kind.Item (node kind.Number (t token.Int "1" none) none) (t token.Op "," (node
    kind.Item (node kind.Number (t token.Int "2" none) none) (t token.Op "]" none))))) none))) (t token.Semi ";"
    none)) (node kind.ExprStmt (node kind.AssignRef (node kind.Variable (t token.Variable "$r" none) (t token.Op "="
    (t token.Op "&" (node kind.Offset (node kind.Variable (t token.Variable "$a" none) (t token.Op "[" (node
    kind.Number (t token.Int "0" none) (t token.Op "]" none)))) none)))) (t token.Semi ";" none)) (node kind.ExprStmt
    (node kind.Assign (node kind.Variable (t token.Variable "$r" none) (t token.Op "=" (node kind.Number (t token.Int
    "9" none) none))) (t token.Semi ";" none)) (node kind.Echo (t token.Keyword "echo" (node kind.Offset (node
    kind.Variable (t token.Variable "$a" none) (t token.Op "[" (node kind.Number (t token.Int "0" none) (t token.Op
    "]" none)))) (t token.Semi ";" none))) (node kind.ExprStmt (node kind.Assign (node kind.Variable (t token.Variable
    "$x" none) (t token.Op "=" (node kind.Number (t token.Int "5" none) none))) (t token.Semi ";" none)) (node
    kind.ExprStmt (node kind.Assign (node kind.Variable (t token.Variable "$b" none) (t token.Op "=" (node kind.Array
    (t token.Op "[" (node kind.Item (t token.Op "&" (node kind.Variable (t token.Variable "$x" none) none)) (t
    token.Op "," (node kind.Item (node kind.Number (t token.Int "1" none) none) (t token.Op "]" none))))) none))) (t
    token.Semi ";" none)) (node kind.ExprStmt (node kind.Assign (node kind.Offset (node kind.Variable (t
    token.Variable "$b" none) (t token.Op "[" (node kind.Number (t token.Int "0" none) (t token.Op "]" none)))) (t
    token.Op "=" (node kind.Number (t token.Int "7" none) none))) (t token.Semi ";" none)) (node kind.Echo (t
    token.Keyword "echo" (node kind.Variable (t token.Variable "$x" none) (t token.Semi ";" none))) none))))))))

references_to_elements : Comes 200 (file references_to_elements_tree) (file references_to_elements_tree) (codes "a.php")
    ((codes "97"), ended)
    ((codes "97"), ended)
unfolding builtin_rows named_constants word_constants is_same_name newer_functions newer_classes newer_constants beyond_functions beyond_classes beyond_constants
references_to_elements = (refl, refl)

-- <?php $a = [1, 2]; foreach ($a as &$v) { $v = "x"; } unset($v); echo $a[0] == 0 ? 'y' : 'n';
abbrev loop_by_reference_tree : Forest
loop_by_reference_tree =
    (node kind.ExprStmt (node kind.Assign (node kind.Variable (t token.Variable "$a" none) (t token.Op "=" (node
    kind.Array (t token.Op "[" (node kind.Item (node kind.Number (t token.Int "1" none) none) (t token.Op "," (node
    kind.Item (node kind.Number (t token.Int "2" none) none) (t token.Op "]" none))))) none))) (t token.Semi ";"
    none)) (node kind.Foreach (t token.Keyword "foreach" (t token.Op "(" (node kind.Variable (t token.Variable "$a"
    none) (t token.Keyword "as" (t token.Op "&" (node kind.Variable (t token.Variable "$v" none) (t token.Op ")" (node
    kind.Block (t token.Op "{" (node kind.ExprStmt (node kind.Assign (node kind.Variable (t token.Variable "$v" none)
    (t token.Op "=" (node kind.Text (t token.Text "\"x\"" none) none))) (t token.Semi ";" none)) (t token.Op "}"
    none))) none)))))))) (node kind.Unset (t token.Keyword "unset" (t token.Op "(" (node kind.Variable (t
    token.Variable "$v" none) (t token.Op ")" (t token.Semi ";" none))))) (node kind.Echo (t token.Keyword "echo"
    (node kind.Ternary (node kind.Binary (node kind.Offset (node kind.Variable (t token.Variable "$a" none) (t
    token.Op "[" (node kind.Number (t token.Int "0" none) (t token.Op "]" none)))) (t token.Op "==" (node kind.Number
    (t token.Int "0" none) none))) (t token.Op "?" (node kind.Text (t token.Text "'y'" none) (t token.Op ":" (node
    kind.Text (t token.Text "'n'" none) none))))) (t token.Semi ";" none))) none))))

loop_by_reference : Comes 200 (file loop_by_reference_tree) (file loop_by_reference_tree) (codes "a.php")
    ((codes "y"), ended)
    ((codes "n"), ended)
unfolding builtin_rows named_constants word_constants is_same_name newer_functions newer_classes newer_constants beyond_functions beyond_classes beyond_constants
loop_by_reference = (refl, refl)

-- <?php $a = [1, 2]; foreach ($a as &$v) { $v = "x"; } unset($v); echo $a[0] == 0 ? 'y' : 'n';
-- rewritten:
-- <?php $a = [1, 2]; foreach ($a as &$v) { $v = "x"; } unset($v); echo (int)$a[0] == 0 ? 'y' : 'n';
abbrev loop_by_reference_rewritten_tree : Forest
loop_by_reference_rewritten_tree =
    (node kind.ExprStmt (node kind.Assign (node kind.Variable (t token.Variable "$a" none) (t token.Op "=" (node
    kind.Array (t token.Op "[" (node kind.Item (node kind.Number (t token.Int "1" none) none) (t token.Op "," (node
    kind.Item (node kind.Number (t token.Int "2" none) none) (t token.Op "]" none))))) none))) (t token.Semi ";"
    none)) (node kind.Foreach (t token.Keyword "foreach" (t token.Op "(" (node kind.Variable (t token.Variable "$a"
    none) (t token.Keyword "as" (t token.Op "&" (node kind.Variable (t token.Variable "$v" none) (t token.Op ")" (node
    kind.Block (t token.Op "{" (node kind.ExprStmt (node kind.Assign (node kind.Variable (t token.Variable "$v" none)
    (t token.Op "=" (node kind.Text (t token.Text "\"x\"" none) none))) (t token.Semi ";" none)) (t token.Op "}"
    none))) none)))))))) (node kind.Unset (t token.Keyword "unset" (t token.Op "(" (node kind.Variable (t
    token.Variable "$v" none) (t token.Op ")" (t token.Semi ";" none))))) (node kind.Echo (t token.Keyword "echo"
    (node kind.Ternary (node kind.Binary (node kind.Offset (node kind.Variable (t token.Variable "$a" none) (t
    token.Op "[" (node kind.Number (t token.Int "0" none) (t token.Op "]" none)))) (t token.Op "==" (node kind.Number
    (t token.Int "0" none) none))) (t token.Op "?" (node kind.Text (t token.Text "'y'" none) (t token.Op ":" (node
    kind.Text (t token.Text "'n'" none) none))))) (t token.Semi ";" none))) none))))

abbrev loop_by_reference_rewritten_new_tree : Forest
loop_by_reference_rewritten_new_tree =
    (node kind.ExprStmt (node kind.Assign (node kind.Variable (t token.Variable "$a" none) (t token.Op "=" (node
    kind.Array (t token.Op "[" (node kind.Item (node kind.Number (t token.Int "1" none) none) (t token.Op "," (node
    kind.Item (node kind.Number (t token.Int "2" none) none) (t token.Op "]" none))))) none))) (t token.Semi ";"
    none)) (node kind.Foreach (t token.Keyword "foreach" (t token.Op "(" (node kind.Variable (t token.Variable "$a"
    none) (t token.Keyword "as" (t token.Op "&" (node kind.Variable (t token.Variable "$v" none) (t token.Op ")" (node
    kind.Block (t token.Op "{" (node kind.ExprStmt (node kind.Assign (node kind.Variable (t token.Variable "$v" none)
    (t token.Op "=" (node kind.Text (t token.Text "\"x\"" none) none))) (t token.Semi ";" none)) (t token.Op "}"
    none))) none)))))))) (node kind.Unset (t token.Keyword "unset" (t token.Op "(" (node kind.Variable (t
    token.Variable "$v" none) (t token.Op ")" (t token.Semi ";" none))))) (node kind.Echo (t token.Keyword "echo"
    (node kind.Ternary (node kind.Binary (node kind.Cast (t token.Cast "(int)" (node kind.Offset (node kind.Variable
    (t token.Variable "$a" none) (t token.Op "[" (node kind.Number (t token.Int "0" none) (t token.Op "]" none))))
    none)) (t token.Op "==" (node kind.Number (t token.Int "0" none) none))) (t token.Op "?" (node kind.Text (t
    token.Text "'y'" none) (t token.Op ":" (node kind.Text (t token.Text "'n'" none) none))))) (t token.Semi ";"
    none))) none))))

loop_by_reference_rewritten : Comes 200 (file loop_by_reference_rewritten_tree) (file loop_by_reference_rewritten_new_tree) (codes "a.php")
    ((codes "y"), ended)
    ((codes "y"), ended)
unfolding builtin_rows named_constants word_constants is_same_name newer_functions newer_classes newer_constants beyond_functions beyond_classes beyond_constants
loop_by_reference_rewritten = (refl, refl)

-- <?php $a = [1, 2]; $n = 0; foreach ($a as &$v) { if ($n++ < 2) $a[] = $n * 10; echo $v, ' '; } unset($v); echo count($a);
abbrev loop_that_grows_tree : Forest
loop_that_grows_tree =
    (node kind.ExprStmt (node kind.Assign (node kind.Variable (t token.Variable "$a" none) (t token.Op "=" (node
    kind.Array (t token.Op "[" (node kind.Item (node kind.Number (t token.Int "1" none) none) (t token.Op "," (node
    kind.Item (node kind.Number (t token.Int "2" none) none) (t token.Op "]" none))))) none))) (t token.Semi ";"
    none)) (node kind.ExprStmt (node kind.Assign (node kind.Variable (t token.Variable "$n" none) (t token.Op "="
    (node kind.Number (t token.Int "0" none) none))) (t token.Semi ";" none)) (node kind.Foreach (t token.Keyword
    "foreach" (t token.Op "(" (node kind.Variable (t token.Variable "$a" none) (t token.Keyword "as" (t token.Op "&"
    (node kind.Variable (t token.Variable "$v" none) (t token.Op ")" (node kind.Block (t token.Op "{" (node kind.If (t
    token.Keyword "if" (t token.Op "(" (node kind.Binary (node kind.Postfix (node kind.Variable (t token.Variable "$n"
    none) (t token.Op "++" none)) (t token.Op "<" (node kind.Number (t token.Int "2" none) none))) (t token.Op ")"
    (node kind.ExprStmt (node kind.Assign (node kind.Offset (node kind.Variable (t token.Variable "$a" none) (t
    token.Op "[" (t token.Op "]" none))) (t token.Op "=" (node kind.Binary (node kind.Variable (t token.Variable "$n"
    none) (t token.Op "*" (node kind.Number (t token.Int "10" none) none))) none))) (t token.Semi ";" none)) none)))))
    (node kind.Echo (t token.Keyword "echo" (node kind.Variable (t token.Variable "$v" none) (t token.Op "," (node
    kind.Text (t token.Text "' '" none) (t token.Semi ";" none))))) (t token.Op "}" none)))) none)))))))) (node
    kind.Unset (t token.Keyword "unset" (t token.Op "(" (node kind.Variable (t token.Variable "$v" none) (t token.Op
    ")" (t token.Semi ";" none))))) (node kind.Echo (t token.Keyword "echo" (node kind.Call (t token.Label "count" (t
    token.Op "(" (node kind.Args (node kind.Variable (t token.Variable "$a" none) none) (t token.Op ")" none)))) (t
    token.Semi ";" none))) none)))))

loop_that_grows : Comes 200 (file loop_that_grows_tree) (file loop_that_grows_tree) (codes "a.php")
    ((codes "1 2 10 20 4"), ended)
    ((codes "1 2 10 20 4"), ended)
unfolding builtin_rows named_constants word_constants is_same_name newer_functions newer_classes newer_constants beyond_functions beyond_classes beyond_constants
loop_that_grows = (refl, refl)

-- <?php $a = [1, 2, 3]; foreach ($a as $k => $v) { if ($k == 0) { $a[] = 4; unset($a[1]); } echo $v; } echo count($a);
abbrev loop_over_a_copy_tree : Forest
loop_over_a_copy_tree =
    (node kind.ExprStmt (node kind.Assign (node kind.Variable (t token.Variable "$a" none) (t token.Op "=" (node
    kind.Array (t token.Op "[" (node kind.Item (node kind.Number (t token.Int "1" none) none) (t token.Op "," (node
    kind.Item (node kind.Number (t token.Int "2" none) none) (t token.Op "," (node kind.Item (node kind.Number (t
    token.Int "3" none) none) (t token.Op "]" none))))))) none))) (t token.Semi ";" none)) (node kind.Foreach (t
    token.Keyword "foreach" (t token.Op "(" (node kind.Variable (t token.Variable "$a" none) (t token.Keyword "as"
    (node kind.Variable (t token.Variable "$k" none) (t token.Op "=>" (node kind.Variable (t token.Variable "$v" none)
    (t token.Op ")" (node kind.Block (t token.Op "{" (node kind.If (t token.Keyword "if" (t token.Op "(" (node
    kind.Binary (node kind.Variable (t token.Variable "$k" none) (t token.Op "==" (node kind.Number (t token.Int "0"
    none) none))) (t token.Op ")" (node kind.Block (t token.Op "{" (node kind.ExprStmt (node kind.Assign (node
    kind.Offset (node kind.Variable (t token.Variable "$a" none) (t token.Op "[" (t token.Op "]" none))) (t token.Op
    "=" (node kind.Number (t token.Int "4" none) none))) (t token.Semi ";" none)) (node kind.Unset (t token.Keyword
    "unset" (t token.Op "(" (node kind.Offset (node kind.Variable (t token.Variable "$a" none) (t token.Op "[" (node
    kind.Number (t token.Int "1" none) (t token.Op "]" none)))) (t token.Op ")" (t token.Semi ";" none))))) (t
    token.Op "}" none)))) none))))) (node kind.Echo (t token.Keyword "echo" (node kind.Variable (t token.Variable "$v"
    none) (t token.Semi ";" none))) (t token.Op "}" none)))) none))))))))) (node kind.Echo (t token.Keyword "echo"
    (node kind.Call (t token.Label "count" (t token.Op "(" (node kind.Args (node kind.Variable (t token.Variable "$a"
    none) none) (t token.Op ")" none)))) (t token.Semi ";" none))) none)))

loop_over_a_copy : Comes 200 (file loop_over_a_copy_tree) (file loop_over_a_copy_tree) (codes "a.php")
    ((codes "1233"), ended)
    ((codes "1233"), ended)
unfolding builtin_rows named_constants word_constants is_same_name newer_functions newer_classes newer_constants beyond_functions beyond_classes beyond_constants
loop_over_a_copy = (refl, refl)

-- <?php foreach ([1, 2, 3] as $k => $v) { if ($v == 2) break; } echo $k, $v;
abbrev loop_keeps_its_variable_tree : Forest
loop_keeps_its_variable_tree =
    (node kind.Foreach (t token.Keyword "foreach" (t token.Op "(" (node kind.Array (t token.Op "[" (node kind.Item
    (node kind.Number (t token.Int "1" none) none) (t token.Op "," (node kind.Item (node kind.Number (t token.Int "2"
    none) none) (t token.Op "," (node kind.Item (node kind.Number (t token.Int "3" none) none) (t token.Op "]"
    none))))))) (t token.Keyword "as" (node kind.Variable (t token.Variable "$k" none) (t token.Op "=>" (node
    kind.Variable (t token.Variable "$v" none) (t token.Op ")" (node kind.Block (t token.Op "{" (node kind.If (t
    token.Keyword "if" (t token.Op "(" (node kind.Binary (node kind.Variable (t token.Variable "$v" none) (t token.Op
    "==" (node kind.Number (t token.Int "2" none) none))) (t token.Op ")" (node kind.Break (t token.Keyword "break" (t
    token.Semi ";" none)) none))))) (t token.Op "}" none))) none))))))))) (node kind.Echo (t token.Keyword "echo"
    (node kind.Variable (t token.Variable "$k" none) (t token.Op "," (node kind.Variable (t token.Variable "$v" none)
    (t token.Semi ";" none))))) none))

loop_keeps_its_variable : Comes 200 (file loop_keeps_its_variable_tree) (file loop_keeps_its_variable_tree) (codes "a.php")
    ((codes "12"), ended)
    ((codes "12"), ended)
unfolding builtin_rows named_constants word_constants is_same_name newer_functions newer_classes newer_constants beyond_functions beyond_classes beyond_constants
loop_keeps_its_variable = (refl, refl)

-- <?php foreach (['a' => [1, 2], 'b' => []] as $k => $vs) { echo $k; foreach ($vs as $v) { echo $v; } }
abbrev nested_loops_of_arrays_tree : Forest
nested_loops_of_arrays_tree =
    (node kind.Foreach (t token.Keyword "foreach" (t token.Op "(" (node kind.Array (t token.Op "[" (node kind.Item
    (node kind.Text (t token.Text "'a'" none) (t token.Op "=>" (node kind.Array (t token.Op "[" (node kind.Item (node
    kind.Number (t token.Int "1" none) none) (t token.Op "," (node kind.Item (node kind.Number (t token.Int "2" none)
    none) (t token.Op "]" none))))) none))) (t token.Op "," (node kind.Item (node kind.Text (t token.Text "'b'" none)
    (t token.Op "=>" (node kind.Array (t token.Op "[" (t token.Op "]" none)) none))) (t token.Op "]" none))))) (t
    token.Keyword "as" (node kind.Variable (t token.Variable "$k" none) (t token.Op "=>" (node kind.Variable (t
    token.Variable "$vs" none) (t token.Op ")" (node kind.Block (t token.Op "{" (node kind.Echo (t token.Keyword
    "echo" (node kind.Variable (t token.Variable "$k" none) (t token.Semi ";" none))) (node kind.Foreach (t
    token.Keyword "foreach" (t token.Op "(" (node kind.Variable (t token.Variable "$vs" none) (t token.Keyword "as"
    (node kind.Variable (t token.Variable "$v" none) (t token.Op ")" (node kind.Block (t token.Op "{" (node kind.Echo
    (t token.Keyword "echo" (node kind.Variable (t token.Variable "$v" none) (t token.Semi ";" none))) (t token.Op "}"
    none))) none))))))) (t token.Op "}" none)))) none))))))))) none)

nested_loops_of_arrays : Comes 200 (file nested_loops_of_arrays_tree) (file nested_loops_of_arrays_tree) (codes "a.php")
    ((codes "a12b"), ended)
    ((codes "a12b"), ended)
unfolding builtin_rows named_constants word_constants is_same_name newer_functions newer_classes newer_constants beyond_functions beyond_classes beyond_constants
nested_loops_of_arrays = (refl, refl)
