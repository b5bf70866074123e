-- Rows of whole programs: bodies, holders and jumps together. The 8.3 side is what PHP 8.2 echoes, where it has a meaning here.
use Rattle.std.proofs.Common.{refl, codes}
use Rattle.php_tree.specs.declared.token.TokenKind.TheVariants as token
use Rattle.php_tree.specs.declared.kind.NodeKind.TheVariants as kind
use Rattle.php_tree.specs.Tree.{Forest, none, node}
use Rattle.builtin_tables.specs.Beyond.{beyond_functions, beyond_classes, beyond_constants}
use Rattle.builtin_tables.specs.Builtins.{builtin_rows}
use Rattle.builtin_tables.specs.Constants.{named_constants, word_constants}
use Rattle.builtin_tables.specs.Named.{is_same_name}
use Rattle.builtin_tables.specs.Newer.{newer_functions, newer_classes, newer_constants}
use Rattle.php_meaning.specs.runs.World.{Going}
use Rattle.meaning_rows.specs.Words.{t, b, file, ended, Comes}

-- <?php function f() { f(); } f();
abbrev mixed_endless_tree : Forest
mixed_endless_tree =
    (node kind.Function (t token.Keyword "function" (t token.Label "f" (t token.Op "(" (t token.Op ")" (node
    kind.Block (t token.Op "{" (node kind.ExprStmt (node kind.Call (t token.Label "f" (t token.Op "(" (node kind.Args
    none (t token.Op ")" none)))) (t token.Semi ";" none)) (t token.Op "}" none))) none))))) (node kind.ExprStmt (node
    kind.Call (t token.Label "f" (t token.Op "(" (node kind.Args none (t token.Op ")" none)))) (t token.Semi ";"
    none)) none))

mixed_endless : Comes 12 (file mixed_endless_tree) (file mixed_endless_tree) (codes "a.php")
    ((codes ""), Going)
    ((codes ""), Going)
unfolding builtin_rows named_constants word_constants is_same_name newer_functions newer_classes newer_constants beyond_functions beyond_classes beyond_constants
mixed_endless = (refl, refl)

-- <?php $s = 0; for ($i = 0; $i < 100; $i++) { $s += $i; } echo $s;
abbrev mixed_long_loop_tree : Forest
mixed_long_loop_tree =
    (node kind.ExprStmt (node kind.Assign (node kind.Variable (t token.Variable "$s" none) (t token.Op "=" (node
    kind.Number (t token.Int "0" none) none))) (t token.Semi ";" none)) (node kind.For (t token.Keyword "for" (t
    token.Op "(" (node kind.Assign (node kind.Variable (t token.Variable "$i" none) (t token.Op "=" (node kind.Number
    (t token.Int "0" none) none))) (t token.Semi ";" (node kind.Binary (node kind.Variable (t token.Variable "$i"
    none) (t token.Op "<" (node kind.Number (t token.Int "100" none) none))) (t token.Semi ";" (node kind.Postfix
    (node kind.Variable (t token.Variable "$i" none) (t token.Op "++" none)) (t token.Op ")" (node kind.Block (t
    token.Op "{" (node kind.ExprStmt (node kind.CompoundAssign (node kind.Variable (t token.Variable "$s" none) (t
    token.Op "+=" (node kind.Variable (t token.Variable "$i" none) none))) (t token.Semi ";" none)) (t token.Op "}"
    none))) none))))))))) (node kind.Echo (t token.Keyword "echo" (node kind.Variable (t token.Variable "$s" none) (t
    token.Semi ";" none))) none)))

mixed_long_loop : Comes 400 (file mixed_long_loop_tree) (file mixed_long_loop_tree) (codes "a.php")
    ((codes "4950"), ended)
    ((codes "4950"), ended)
unfolding builtin_rows named_constants word_constants is_same_name newer_functions newer_classes newer_constants beyond_functions beyond_classes beyond_constants
mixed_long_loop = (refl, refl)

-- <?php class P {} function f(int $a, ?string $b, P $c, array $d = []): ?int { return $a; } echo f(1, null, new P), f(2, "x", new P, [1]);
abbrev mixed_typed_tree : Forest
mixed_typed_tree =
    (node kind.Class (t token.Keyword "class" (t token.Label "P" (t token.Op "{" (t token.Op "}" none)))) (node
    kind.Function (t token.Keyword "function" (t token.Label "f" (t token.Op "(" (node kind.Param (node kind.TypeName
    (t token.Label "int" none) (t token.Variable "$a" none)) (t token.Op "," (node kind.Param (node kind.TypeName (t
    token.Op "?" (t token.Label "string" none)) (t token.Variable "$b" none)) (t token.Op "," (node kind.Param (node
    kind.TypeName (t token.Label "P" none) (t token.Variable "$c" none)) (t token.Op "," (node kind.Param (node
    kind.TypeName (t token.Keyword "array" none) (t token.Variable "$d" (t token.Op "=" (node kind.Array (t token.Op
    "[" (t token.Op "]" none)) none)))) (t token.Op ")" (t token.Op ":" (node kind.TypeName (t token.Op "?" (t
    token.Label "int" none)) (node kind.Block (t token.Op "{" (node kind.Return (t token.Keyword "return" (node
    kind.Variable (t token.Variable "$a" none) (t token.Semi ";" none))) (t token.Op "}" none))) none))))))))))))))
    (node kind.Echo (t token.Keyword "echo" (node kind.Call (t token.Label "f" (t token.Op "(" (node kind.Args (node
    kind.Number (t token.Int "1" none) (t token.Op "," (node kind.Constant (t token.Label "null" none) (t token.Op ","
    (node kind.New (t token.Keyword "new" (t token.Label "P" none)) none))))) (t token.Op ")" none)))) (t token.Op ","
    (node kind.Call (t token.Label "f" (t token.Op "(" (node kind.Args (node kind.Number (t token.Int "2" none) (t
    token.Op "," (node kind.Text (t token.Text "\"x\"" none) (t token.Op "," (node kind.New (t token.Keyword "new" (t
    token.Label "P" none)) (t token.Op "," (node kind.Array (t token.Op "[" (node kind.Item (node kind.Number (t
    token.Int "1" none) none) (t token.Op "]" none))) none))))))) (t token.Op ")" none)))) (t token.Semi ";" none)))))
    none)))

mixed_typed : Comes 200 (file mixed_typed_tree) (file mixed_typed_tree) (codes "a.php")
    ((codes "12"), ended)
    ((codes "12"), ended)
unfolding builtin_rows named_constants word_constants is_same_name newer_functions newer_classes newer_constants beyond_functions beyond_classes beyond_constants
mixed_typed = (refl, refl)

-- <?php $a = [1, 2]; $r = &$a[0]; unset($r); $b = $a; $b[0] = 9; echo $a[0], $b[0]; function id($x) { return $x; } $c = id($a); $c[1] = 7; echo $a[1], $c[1];
abbrev mixed_holders_tree : Forest
mixed_holders_tree =
    (node kind.ExprStmt (node kind.Assign (node kind.Variable (t token.Variable "$a" none) (t token.Op "=" (node
    kind.Array (t token.Op "[" (node kind.Item (node kind.Number (t token.Int "1" none) none) (t token.Op "," (node
    kind.Item (node kind.Number (t token.Int "2" none) none) (t token.Op "]" none))))) none))) (t token.Semi ";"
    none)) (node kind.ExprStmt (node kind.AssignRef (node kind.Variable (t token.Variable "$r" none) (t token.Op "="
    (t token.Op "&" (node kind.Offset (node kind.Variable (t token.Variable "$a" none) (t token.Op "[" (node
    kind.Number (t token.Int "0" none) (t token.Op "]" none)))) none)))) (t token.Semi ";" none)) (node kind.Unset (t
    token.Keyword "unset" (t token.Op "(" (node kind.Variable (t token.Variable "$r" none) (t token.Op ")" (t
    token.Semi ";" none))))) (node kind.ExprStmt (node kind.Assign (node kind.Variable (t token.Variable "$b" none) (t
    token.Op "=" (node kind.Variable (t token.Variable "$a" none) none))) (t token.Semi ";" none)) (node kind.ExprStmt
    (node kind.Assign (node kind.Offset (node kind.Variable (t token.Variable "$b" none) (t token.Op "[" (node
    kind.Number (t token.Int "0" none) (t token.Op "]" none)))) (t token.Op "=" (node kind.Number (t token.Int "9"
    none) none))) (t token.Semi ";" none)) (node kind.Echo (t token.Keyword "echo" (node kind.Offset (node
    kind.Variable (t token.Variable "$a" none) (t token.Op "[" (node kind.Number (t token.Int "0" none) (t token.Op
    "]" none)))) (t token.Op "," (node kind.Offset (node kind.Variable (t token.Variable "$b" none) (t token.Op "["
    (node kind.Number (t token.Int "0" none) (t token.Op "]" none)))) (t token.Semi ";" none))))) (node kind.Function
    (t token.Keyword "function" (t token.Label "id" (t token.Op "(" (node kind.Param (t token.Variable "$x" none) (t
    token.Op ")" (node kind.Block (t token.Op "{" (node kind.Return (t token.Keyword "return" (node kind.Variable (t
    token.Variable "$x" none) (t token.Semi ";" none))) (t token.Op "}" none))) none)))))) (node kind.ExprStmt (node
    kind.Assign (node kind.Variable (t token.Variable "$c" none) (t token.Op "=" (node kind.Call (t token.Label "id"
    (t token.Op "(" (node kind.Args (node kind.Variable (t token.Variable "$a" none) none) (t token.Op ")" none))))
    none))) (t token.Semi ";" none)) (node kind.ExprStmt (node kind.Assign (node kind.Offset (node kind.Variable (t
    token.Variable "$c" none) (t token.Op "[" (node kind.Number (t token.Int "1" none) (t token.Op "]" none)))) (t
    token.Op "=" (node kind.Number (t token.Int "7" none) none))) (t token.Semi ";" none)) (node kind.Echo (t
    token.Keyword "echo" (node kind.Offset (node kind.Variable (t token.Variable "$a" none) (t token.Op "[" (node
    kind.Number (t token.Int "1" none) (t token.Op "]" none)))) (t token.Op "," (node kind.Offset (node kind.Variable
    (t token.Variable "$c" none) (t token.Op "[" (node kind.Number (t token.Int "1" none) (t token.Op "]" none)))) (t
    token.Semi ";" none))))) none))))))))))

mixed_holders : Comes 200 (file mixed_holders_tree) (file mixed_holders_tree) (codes "a.php")
    ((codes "1927"), ended)
    ((codes "1927"), ended)
unfolding builtin_rows named_constants word_constants is_same_name newer_functions newer_classes newer_constants beyond_functions beyond_classes beyond_constants
mixed_holders = (refl, refl)

-- <?php function f($n = null) { $n .= 'x'; return $n; } $o = new stdClass; $o->p[] = 1; $o->q += 2; $t .= 'y';
--  $o->r['k']['l'] = 3; echo f(), count($o->p), $o->q, $t, $o->r['k']['l'];
abbrev made_where_they_are_written_tree : Forest
made_where_they_are_written_tree =
    (node kind.Function (t token.Keyword "function" (t token.Label "f" (t token.Op "(" (node kind.Param (t
    token.Variable "$n" (t token.Op "=" (node kind.Constant (t token.Label "null" none) none))) (t token.Op ")"
    (node kind.Block (t token.Op "{" (node kind.ExprStmt (node kind.CompoundAssign (node kind.Variable (t
    token.Variable "$n" none) (t token.Op ".=" (node kind.Text (t token.Text "'x'" none) none))) (t token.Semi ";"
    none)) (node kind.Return (t token.Keyword "return" (node kind.Variable (t token.Variable "$n" none) (t
    token.Semi ";" none))) (t token.Op "}" none)))) none)))))) (node kind.ExprStmt (node kind.Assign (node
    kind.Variable (t token.Variable "$o" none) (t token.Op "=" (node kind.New (t token.Keyword "new" (t token.Label
    "stdClass" none)) none))) (t token.Semi ";" none)) (node kind.ExprStmt (node kind.Assign (node kind.Offset (node
    kind.Prop (node kind.Variable (t token.Variable "$o" none) (t token.Op "->" (t token.Label "p" none))) (t
    token.Op "[" (t token.Op "]" none))) (t token.Op "=" (node kind.Number (t token.Int "1" none) none))) (t
    token.Semi ";" none)) (node kind.ExprStmt (node kind.CompoundAssign (node kind.Prop (node kind.Variable (t
    token.Variable "$o" none) (t token.Op "->" (t token.Label "q" none))) (t token.Op "+=" (node kind.Number (t
    token.Int "2" none) none))) (t token.Semi ";" none)) (node kind.ExprStmt (node kind.CompoundAssign (node
    kind.Variable (t token.Variable "$t" none) (t token.Op ".=" (node kind.Text (t token.Text "'y'" none) none))) (t
    token.Semi ";" none)) (node kind.ExprStmt (node kind.Assign (node kind.Offset (node kind.Offset (node kind.Prop
    (node kind.Variable (t token.Variable "$o" none) (t token.Op "->" (t token.Label "r" none))) (t token.Op "["
    (node kind.Text (t token.Text "'k'" none) (t token.Op "]" none)))) (t token.Op "[" (node kind.Text (t token.Text
    "'l'" none) (t token.Op "]" none)))) (t token.Op "=" (node kind.Number (t token.Int "3" none) none))) (t
    token.Semi ";" none)) (node kind.Echo (t token.Keyword "echo" (node kind.Call (t token.Label "f" (t token.Op "("
    (node kind.Args none (t token.Op ")" none)))) (t token.Op "," (node kind.Call (t token.Label "count" (t token.Op
    "(" (node kind.Args (node kind.Prop (node kind.Variable (t token.Variable "$o" none) (t token.Op "->" (t
    token.Label "p" none))) none) (t token.Op ")" none)))) (t token.Op "," (node kind.Prop (node kind.Variable (t
    token.Variable "$o" none) (t token.Op "->" (t token.Label "q" none))) (t token.Op "," (node kind.Variable (t
    token.Variable "$t" none) (t token.Op "," (node kind.Offset (node kind.Offset (node kind.Prop (node
    kind.Variable (t token.Variable "$o" none) (t token.Op "->" (t token.Label "r" none))) (t token.Op "[" (node
    kind.Text (t token.Text "'k'" none) (t token.Op "]" none)))) (t token.Op "[" (node kind.Text (t token.Text "'l'"
    none) (t token.Op "]" none)))) (t token.Semi ";" none))))))))))) none)))))))

made_where_they_are_written : Comes 200 (file made_where_they_are_written_tree) (file made_where_they_are_written_tree) (codes "a.php")
    ((codes "x12y3"), ended)
    ((codes "x12y3"), ended)
unfolding builtin_rows named_constants word_constants is_same_name newer_functions newer_classes newer_constants beyond_functions beyond_classes beyond_constants
made_where_they_are_written = (refl, refl)
