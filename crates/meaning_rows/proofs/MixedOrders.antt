-- Rows of whole programs: visibility, offsets and orders of evaluation together. The 8.3 side is what PHP 8.2 echoes, where it has a meaning here.
use Rattle.std.proofs.Common.{refl, codes}
use Rattle.php_tree.specs.declared.token.TokenKind.TheVariants as token
use Rattle.php_tree.specs.declared.kind.NodeKind.TheVariants as kind
use Rattle.php_tree.specs.Tree.{Forest, none, node}
use Rattle.builtin_tables.specs.Beyond.{beyond_functions, beyond_classes, beyond_constants}
use Rattle.builtin_tables.specs.Builtins.{builtin_rows}
use Rattle.builtin_tables.specs.Constants.{named_constants, word_constants}
use Rattle.builtin_tables.specs.Named.{is_same_name}
use Rattle.builtin_tables.specs.Newer.{newer_functions, newer_classes, newer_constants}
use Rattle.php_meaning.specs.Cause.{Offset}
use Rattle.meaning_rows.specs.Words.{t, b, file, ended, outside, Comes}

-- <?php class A { private $x = 1; public $y = 2; function a() { return $this->x; } } class B extends A { public $x =
--  5; function b() { return $this->x; } } $b = new B; echo $b->a(), $b->b(), $b->x; $b->x = 7; echo $b->a(), $b->x;
--  function f($o) { $o->y = 9; } f($b); echo $b->y;
abbrev mixed_private_shadow_tree : Forest
mixed_private_shadow_tree =
    (node kind.Class (t token.Keyword "class" (t token.Label "A" (t token.Op "{" (node kind.Property (t token.Keyword
    "private" (t token.Variable "$x" (t token.Op "=" (node kind.Number (t token.Int "1" none) (t token.Semi ";"
    none))))) (node kind.Property (t token.Keyword "public" (t token.Variable "$y" (t token.Op "=" (node kind.Number
    (t token.Int "2" none) (t token.Semi ";" none))))) (node kind.Method (t token.Keyword "function" (t token.Label
    "a" (t token.Op "(" (t token.Op ")" (node kind.Block (t token.Op "{" (node kind.Return (t token.Keyword "return"
    (node kind.Prop (node kind.Variable (t token.Variable "$this" none) (t token.Op "->" (t token.Label "x" none))) (t
    token.Semi ";" none))) (t token.Op "}" none))) none))))) (t token.Op "}" none))))))) (node kind.Class (t
    token.Keyword "class" (t token.Label "B" (t token.Keyword "extends" (t token.Label "A" (t token.Op "{" (node
    kind.Property (t token.Keyword "public" (t token.Variable "$x" (t token.Op "=" (node kind.Number (t token.Int "5"
    none) (t token.Semi ";" none))))) (node kind.Method (t token.Keyword "function" (t token.Label "b" (t token.Op "("
    (t token.Op ")" (node kind.Block (t token.Op "{" (node kind.Return (t token.Keyword "return" (node kind.Prop (node
    kind.Variable (t token.Variable "$this" none) (t token.Op "->" (t token.Label "x" none))) (t token.Semi ";"
    none))) (t token.Op "}" none))) none))))) (t token.Op "}" none)))))))) (node kind.ExprStmt (node kind.Assign (node
    kind.Variable (t token.Variable "$b" none) (t token.Op "=" (node kind.New (t token.Keyword "new" (t token.Label
    "B" none)) none))) (t token.Semi ";" none)) (node kind.Echo (t token.Keyword "echo" (node kind.MethodCall (node
    kind.Variable (t token.Variable "$b" none) (t token.Op "->" (t token.Label "a" (t token.Op "(" (node kind.Args
    none (t token.Op ")" none)))))) (t token.Op "," (node kind.MethodCall (node kind.Variable (t token.Variable "$b"
    none) (t token.Op "->" (t token.Label "b" (t token.Op "(" (node kind.Args none (t token.Op ")" none)))))) (t
    token.Op "," (node kind.Prop (node kind.Variable (t token.Variable "$b" none) (t token.Op "->" (t token.Label "x"
    none))) (t token.Semi ";" none))))))) (node kind.ExprStmt (node kind.Assign (node kind.Prop (node kind.Variable (t
    token.Variable "$b" none) (t token.Op "->" (t token.Label "x" none))) (t token.Op "=" (node kind.Number (t
    token.Int "7" none) none))) (t token.Semi ";" none)) (node kind.Echo (t token.Keyword "echo" (node kind.MethodCall
    (node kind.Variable (t token.Variable "$b" none) (t token.Op "->" (t token.Label "a" (t token.Op "(" (node
    kind.Args none (t token.Op ")" none)))))) (t token.Op "," (node kind.Prop (node kind.Variable (t token.Variable
    "$b" none) (t token.Op "->" (t token.Label "x" none))) (t token.Semi ";" none))))) (node kind.Function (t
    token.Keyword "function" (t token.Label "f" (t token.Op "(" (node kind.Param (t token.Variable "$o" none) (t
    token.Op ")" (node kind.Block (t token.Op "{" (node kind.ExprStmt (node kind.Assign (node kind.Prop (node
    kind.Variable (t token.Variable "$o" none) (t token.Op "->" (t token.Label "y" none))) (t token.Op "=" (node
    kind.Number (t token.Int "9" none) none))) (t token.Semi ";" none)) (t token.Op "}" none))) none)))))) (node
    kind.ExprStmt (node kind.Call (t token.Label "f" (t token.Op "(" (node kind.Args (node kind.Variable (t
    token.Variable "$b" none) none) (t token.Op ")" none)))) (t token.Semi ";" none)) (node kind.Echo (t token.Keyword
    "echo" (node kind.Prop (node kind.Variable (t token.Variable "$b" none) (t token.Op "->" (t token.Label "y"
    none))) (t token.Semi ";" none))) none)))))))))

mixed_private_shadow : Comes 200 (file mixed_private_shadow_tree) (file mixed_private_shadow_tree) (codes "a.php")
    ((codes "155179"), ended)
    ((codes "155179"), ended)
unfolding builtin_rows named_constants word_constants is_same_name newer_functions newer_classes newer_constants beyond_functions beyond_classes beyond_constants
mixed_private_shadow = (refl, refl)

-- <?php for ($i = 0; $i < 3; $i++) { switch ($i) { case 0: continue 2; case 1: echo "a"; break; default: echo "d"; } echo $i; }
abbrev mixed_switch_loop_tree : Forest
mixed_switch_loop_tree =
    (node kind.For (t token.Keyword "for" (t token.Op "(" (node kind.Assign (node kind.Variable (t token.Variable "$i"
    none) (t token.Op "=" (node kind.Number (t token.Int "0" none) none))) (t token.Semi ";" (node kind.Binary (node
    kind.Variable (t token.Variable "$i" none) (t token.Op "<" (node kind.Number (t token.Int "3" none) none))) (t
    token.Semi ";" (node kind.Postfix (node kind.Variable (t token.Variable "$i" none) (t token.Op "++" none)) (t
    token.Op ")" (node kind.Block (t token.Op "{" (node kind.Switch (t token.Keyword "switch" (t token.Op "(" (node
    kind.Variable (t token.Variable "$i" none) (t token.Op ")" (t token.Op "{" (node kind.Case (t token.Keyword "case"
    (node kind.Number (t token.Int "0" none) (t token.Op ":" (node kind.Continue (t token.Keyword "continue" (t
    token.Int "2" (t token.Semi ";" none))) none)))) (node kind.Case (t token.Keyword "case" (node kind.Number (t
    token.Int "1" none) (t token.Op ":" (node kind.Echo (t token.Keyword "echo" (node kind.Text (t token.Text "\"a\""
    none) (t token.Semi ";" none))) (node kind.Break (t token.Keyword "break" (t token.Semi ";" none)) none))))) (node
    kind.Case (t token.Keyword "default" (t token.Op ":" (node kind.Echo (t token.Keyword "echo" (node kind.Text (t
    token.Text "\"d\"" none) (t token.Semi ";" none))) none))) (t token.Op "}" none))))))))) (node kind.Echo (t
    token.Keyword "echo" (node kind.Variable (t token.Variable "$i" none) (t token.Semi ";" none))) (t token.Op "}"
    none)))) none))))))))) none)

mixed_switch_loop : Comes 200 (file mixed_switch_loop_tree) (file mixed_switch_loop_tree) (codes "a.php")
    ((codes "a1d2"), ended)
    ((codes "a1d2"), ended)
unfolding builtin_rows named_constants word_constants is_same_name newer_functions newer_classes newer_constants beyond_functions beyond_classes beyond_constants
mixed_switch_loop = (refl, refl)

-- <?php function g() { try { throw new Exception("x"); } finally { return "g"; } } echo g(); function h() { try { try
--  { throw new Exception("one"); } finally { throw new LogicException("two"); } } catch (Exception $e) { return
--  $e->getMessage(); } } echo h();
abbrev mixed_finally_jumps_tree : Forest
mixed_finally_jumps_tree =
    (node kind.Function (t token.Keyword "function" (t token.Label "g" (t token.Op "(" (t token.Op ")" (node
    kind.Block (t token.Op "{" (node kind.Try (t token.Keyword "try" (node kind.Block (t token.Op "{" (node kind.Throw
    (t token.Keyword "throw" (node kind.New (t token.Keyword "new" (t token.Label "Exception" (t token.Op "(" (node
    kind.Args (node kind.Text (t token.Text "\"x\"" none) none) (t token.Op ")" none))))) (t token.Semi ";" none))) (t
    token.Op "}" none))) (t token.Keyword "finally" (node kind.Block (t token.Op "{" (node kind.Return (t
    token.Keyword "return" (node kind.Text (t token.Text "\"g\"" none) (t token.Semi ";" none))) (t token.Op "}"
    none))) none)))) (t token.Op "}" none))) none))))) (node kind.Echo (t token.Keyword "echo" (node kind.Call (t
    token.Label "g" (t token.Op "(" (node kind.Args none (t token.Op ")" none)))) (t token.Semi ";" none))) (node
    kind.Function (t token.Keyword "function" (t token.Label "h" (t token.Op "(" (t token.Op ")" (node kind.Block (t
    token.Op "{" (node kind.Try (t token.Keyword "try" (node kind.Block (t token.Op "{" (node kind.Try (t
    token.Keyword "try" (node kind.Block (t token.Op "{" (node kind.Throw (t token.Keyword "throw" (node kind.New (t
    token.Keyword "new" (t token.Label "Exception" (t token.Op "(" (node kind.Args (node kind.Text (t token.Text
    "\"one\"" none) none) (t token.Op ")" none))))) (t token.Semi ";" none))) (t token.Op "}" none))) (t token.Keyword
    "finally" (node kind.Block (t token.Op "{" (node kind.Throw (t token.Keyword "throw" (node kind.New (t
    token.Keyword "new" (t token.Label "LogicException" (t token.Op "(" (node kind.Args (node kind.Text (t token.Text
    "\"two\"" none) none) (t token.Op ")" none))))) (t token.Semi ";" none))) (t token.Op "}" none))) none)))) (t
    token.Op "}" none))) (t token.Keyword "catch" (t token.Op "(" (t token.Label "Exception" (t token.Variable "$e" (t
    token.Op ")" (node kind.Block (t token.Op "{" (node kind.Return (t token.Keyword "return" (node kind.MethodCall
    (node kind.Variable (t token.Variable "$e" none) (t token.Op "->" (t token.Label "getMessage" (t token.Op "("
    (node kind.Args none (t token.Op ")" none)))))) (t token.Semi ";" none))) (t token.Op "}" none))) none)))))))) (t
    token.Op "}" none))) none))))) (node kind.Echo (t token.Keyword "echo" (node kind.Call (t token.Label "h" (t
    token.Op "(" (node kind.Args none (t token.Op ")" none)))) (t token.Semi ";" none))) none))))

mixed_finally_jumps : Comes 200 (file mixed_finally_jumps_tree) (file mixed_finally_jumps_tree) (codes "a.php")
    ((codes "gtwo"), ended)
    ((codes "gtwo"), ended)
unfolding builtin_rows named_constants word_constants is_same_name newer_functions newer_classes newer_constants beyond_functions beyond_classes beyond_constants
mixed_finally_jumps = (refl, refl)

-- <?php function add(&$a, $v) { $a[] = $v; } $x = []; add($x, 1); add($x["sub"], 2); echo count($x),
--  count($x["sub"]); function swap(&$a, &$b) { $t = $a; $a = $b; $b = $t; } $p = 1; $q = 2; swap($p, $q); echo $p,
--  $q; $arr = [1, 2]; foreach ($arr as $k => &$r) { $r *= 10; } unset($r); echo $arr[0], $arr[1];
abbrev mixed_references_in_calls_tree : Forest
mixed_references_in_calls_tree =
    (node kind.Function (t token.Keyword "function" (t token.Label "add" (t token.Op "(" (node kind.Param (t token.Op
    "&" (t token.Variable "$a" none)) (t token.Op "," (node kind.Param (t token.Variable "$v" none) (t token.Op ")"
    (node kind.Block (t token.Op "{" (node kind.ExprStmt (node kind.Assign (node kind.Offset (node kind.Variable (t
    token.Variable "$a" none) (t token.Op "[" (t token.Op "]" none))) (t token.Op "=" (node kind.Variable (t
    token.Variable "$v" none) none))) (t token.Semi ";" none)) (t token.Op "}" none))) none)))))))) (node
    kind.ExprStmt (node kind.Assign (node kind.Variable (t token.Variable "$x" none) (t token.Op "=" (node kind.Array
    (t token.Op "[" (t token.Op "]" none)) none))) (t token.Semi ";" none)) (node kind.ExprStmt (node kind.Call (t
    token.Label "add" (t token.Op "(" (node kind.Args (node kind.Variable (t token.Variable "$x" none) (t token.Op ","
    (node kind.Number (t token.Int "1" none) none))) (t token.Op ")" none)))) (t token.Semi ";" none)) (node
    kind.ExprStmt (node kind.Call (t token.Label "add" (t token.Op "(" (node kind.Args (node kind.Offset (node
    kind.Variable (t token.Variable "$x" none) (t token.Op "[" (node kind.Text (t token.Text "\"sub\"" none) (t
    token.Op "]" none)))) (t token.Op "," (node kind.Number (t token.Int "2" none) none))) (t token.Op ")" none)))) (t
    token.Semi ";" none)) (node kind.Echo (t token.Keyword "echo" (node kind.Call (t token.Label "count" (t token.Op
    "(" (node kind.Args (node kind.Variable (t token.Variable "$x" none) none) (t token.Op ")" none)))) (t token.Op
    "," (node kind.Call (t token.Label "count" (t token.Op "(" (node kind.Args (node kind.Offset (node kind.Variable
    (t token.Variable "$x" none) (t token.Op "[" (node kind.Text (t token.Text "\"sub\"" none) (t token.Op "]"
    none)))) none) (t token.Op ")" none)))) (t token.Semi ";" none))))) (node kind.Function (t token.Keyword
    "function" (t token.Label "swap" (t token.Op "(" (node kind.Param (t token.Op "&" (t token.Variable "$a" none)) (t
    token.Op "," (node kind.Param (t token.Op "&" (t token.Variable "$b" none)) (t token.Op ")" (node kind.Block (t
    token.Op "{" (node kind.ExprStmt (node kind.Assign (node kind.Variable (t token.Variable "$t" none) (t token.Op
    "=" (node kind.Variable (t token.Variable "$a" none) none))) (t token.Semi ";" none)) (node kind.ExprStmt (node
    kind.Assign (node kind.Variable (t token.Variable "$a" none) (t token.Op "=" (node kind.Variable (t token.Variable
    "$b" none) none))) (t token.Semi ";" none)) (node kind.ExprStmt (node kind.Assign (node kind.Variable (t
    token.Variable "$b" none) (t token.Op "=" (node kind.Variable (t token.Variable "$t" none) none))) (t token.Semi
    ";" none)) (t token.Op "}" none))))) none)))))))) (node kind.ExprStmt (node kind.Assign (node kind.Variable (t
    token.Variable "$p" none) (t token.Op "=" (node kind.Number (t token.Int "1" none) none))) (t token.Semi ";"
    none)) (node kind.ExprStmt (node kind.Assign (node kind.Variable (t token.Variable "$q" none) (t token.Op "="
    (node kind.Number (t token.Int "2" none) none))) (t token.Semi ";" none)) (node kind.ExprStmt (node kind.Call (t
    token.Label "swap" (t token.Op "(" (node kind.Args (node kind.Variable (t token.Variable "$p" none) (t token.Op
    "," (node kind.Variable (t token.Variable "$q" none) none))) (t token.Op ")" none)))) (t token.Semi ";" none))
    (node kind.Echo (t token.Keyword "echo" (node kind.Variable (t token.Variable "$p" none) (t token.Op "," (node
    kind.Variable (t token.Variable "$q" none) (t token.Semi ";" none))))) (node kind.ExprStmt (node kind.Assign (node
    kind.Variable (t token.Variable "$arr" none) (t token.Op "=" (node kind.Array (t token.Op "[" (node kind.Item
    (node kind.Number (t token.Int "1" none) none) (t token.Op "," (node kind.Item (node kind.Number (t token.Int "2"
    none) none) (t token.Op "]" none))))) none))) (t token.Semi ";" none)) (node kind.Foreach (t token.Keyword
    "foreach" (t token.Op "(" (node kind.Variable (t token.Variable "$arr" none) (t token.Keyword "as" (node
    kind.Variable (t token.Variable "$k" none) (t token.Op "=>" (t token.Op "&" (node kind.Variable (t token.Variable
    "$r" none) (t token.Op ")" (node kind.Block (t token.Op "{" (node kind.ExprStmt (node kind.CompoundAssign (node
    kind.Variable (t token.Variable "$r" none) (t token.Op "*=" (node kind.Number (t token.Int "10" none) none))) (t
    token.Semi ";" none)) (t token.Op "}" none))) none)))))))))) (node kind.Unset (t token.Keyword "unset" (t token.Op
    "(" (node kind.Variable (t token.Variable "$r" none) (t token.Op ")" (t token.Semi ";" none))))) (node kind.Echo
    (t token.Keyword "echo" (node kind.Offset (node kind.Variable (t token.Variable "$arr" none) (t token.Op "[" (node
    kind.Number (t token.Int "0" none) (t token.Op "]" none)))) (t token.Op "," (node kind.Offset (node kind.Variable
    (t token.Variable "$arr" none) (t token.Op "[" (node kind.Number (t token.Int "1" none) (t token.Op "]" none))))
    (t token.Semi ";" none))))) none))))))))))))))

mixed_references_in_calls : Comes 200 (file mixed_references_in_calls_tree) (file mixed_references_in_calls_tree) (codes "a.php")
    ((codes "21211020"), ended)
    ((codes "21211020"), ended)
unfolding builtin_rows named_constants word_constants is_same_name newer_functions newer_classes newer_constants beyond_functions beyond_classes beyond_constants
mixed_references_in_calls = (refl, refl)

-- <?php $t = "abc"; echo $t[0], $t[-1], $t["1"], isset($t[5]) ? 1 : 0, isset($t["x"]["y"]) ? 1 : 0, $t[7] ?? "d";
abbrev mixed_text_offsets_tree : Forest
mixed_text_offsets_tree =
    (node kind.ExprStmt (node kind.Assign (node kind.Variable (t token.Variable "$t" none) (t token.Op "=" (node
    kind.Text (t token.Text "\"abc\"" none) none))) (t token.Semi ";" none)) (node kind.Echo (t token.Keyword "echo"
    (node kind.Offset (node kind.Variable (t token.Variable "$t" none) (t token.Op "[" (node kind.Number (t token.Int
    "0" none) (t token.Op "]" none)))) (t token.Op "," (node kind.Offset (node kind.Variable (t token.Variable "$t"
    none) (t token.Op "[" (node kind.Prefix (t token.Op "-" (node kind.Number (t token.Int "1" none) none)) (t
    token.Op "]" none)))) (t token.Op "," (node kind.Offset (node kind.Variable (t token.Variable "$t" none) (t
    token.Op "[" (node kind.Text (t token.Text "\"1\"" none) (t token.Op "]" none)))) (t token.Op "," (node
    kind.Ternary (node kind.Isset (t token.Keyword "isset" (t token.Op "(" (node kind.Offset (node kind.Variable (t
    token.Variable "$t" none) (t token.Op "[" (node kind.Number (t token.Int "5" none) (t token.Op "]" none)))) (t
    token.Op ")" none)))) (t token.Op "?" (node kind.Number (t token.Int "1" none) (t token.Op ":" (node kind.Number
    (t token.Int "0" none) none))))) (t token.Op "," (node kind.Ternary (node kind.Isset (t token.Keyword "isset" (t
    token.Op "(" (node kind.Offset (node kind.Offset (node kind.Variable (t token.Variable "$t" none) (t token.Op "["
    (node kind.Text (t token.Text "\"x\"" none) (t token.Op "]" none)))) (t token.Op "[" (node kind.Text (t token.Text
    "\"y\"" none) (t token.Op "]" none)))) (t token.Op ")" none)))) (t token.Op "?" (node kind.Number (t token.Int "1"
    none) (t token.Op ":" (node kind.Number (t token.Int "0" none) none))))) (t token.Op "," (node kind.Binary (node
    kind.Offset (node kind.Variable (t token.Variable "$t" none) (t token.Op "[" (node kind.Number (t token.Int "7"
    none) (t token.Op "]" none)))) (t token.Op "??" (node kind.Text (t token.Text "\"d\"" none) none))) (t token.Semi
    ";" none))))))))))))) none))

mixed_text_offsets : Comes 200 (file mixed_text_offsets_tree) (file mixed_text_offsets_tree) (codes "a.php")
    ((codes "acb0"), outside Offset)
    ((codes "acb0"), outside Offset)
unfolding builtin_rows named_constants word_constants is_same_name newer_functions newer_classes newer_constants beyond_functions beyond_classes beyond_constants
mixed_text_offsets = (refl, refl)

-- <?php function c() { static $n = 10; return ++$n; } c(); c(); echo c(); class K { static function s() { static $n = 0; return ++$n; } } K::s(); echo K::s();
abbrev mixed_statics_of_functions_tree : Forest
mixed_statics_of_functions_tree =
    (node kind.Function (t token.Keyword "function" (t token.Label "c" (t token.Op "(" (t token.Op ")" (node
    kind.Block (t token.Op "{" (node kind.Statics (t token.Keyword "static" (t token.Variable "$n" (t token.Op "="
    (node kind.Number (t token.Int "10" none) (t token.Semi ";" none))))) (node kind.Return (t token.Keyword "return"
    (node kind.Prefix (t token.Op "++" (node kind.Variable (t token.Variable "$n" none) none)) (t token.Semi ";"
    none))) (t token.Op "}" none)))) none))))) (node kind.ExprStmt (node kind.Call (t token.Label "c" (t token.Op "("
    (node kind.Args none (t token.Op ")" none)))) (t token.Semi ";" none)) (node kind.ExprStmt (node kind.Call (t
    token.Label "c" (t token.Op "(" (node kind.Args none (t token.Op ")" none)))) (t token.Semi ";" none)) (node
    kind.Echo (t token.Keyword "echo" (node kind.Call (t token.Label "c" (t token.Op "(" (node kind.Args none (t
    token.Op ")" none)))) (t token.Semi ";" none))) (node kind.Class (t token.Keyword "class" (t token.Label "K" (t
    token.Op "{" (node kind.Method (t token.Keyword "static" (t token.Keyword "function" (t token.Label "s" (t
    token.Op "(" (t token.Op ")" (node kind.Block (t token.Op "{" (node kind.Statics (t token.Keyword "static" (t
    token.Variable "$n" (t token.Op "=" (node kind.Number (t token.Int "0" none) (t token.Semi ";" none))))) (node
    kind.Return (t token.Keyword "return" (node kind.Prefix (t token.Op "++" (node kind.Variable (t token.Variable
    "$n" none) none)) (t token.Semi ";" none))) (t token.Op "}" none)))) none)))))) (t token.Op "}" none))))) (node
    kind.ExprStmt (node kind.StaticCall (t token.Label "K" (t token.Op "::" (t token.Label "s" (t token.Op "(" (node
    kind.Args none (t token.Op ")" none)))))) (t token.Semi ";" none)) (node kind.Echo (t token.Keyword "echo" (node
    kind.StaticCall (t token.Label "K" (t token.Op "::" (t token.Label "s" (t token.Op "(" (node kind.Args none (t
    token.Op ")" none)))))) (t token.Semi ";" none))) none)))))))

mixed_statics_of_functions : Comes 200 (file mixed_statics_of_functions_tree) (file mixed_statics_of_functions_tree) (codes "a.php")
    ((codes "132"), ended)
    ((codes "132"), ended)
unfolding builtin_rows named_constants word_constants is_same_name newer_functions newer_classes newer_constants beyond_functions beyond_classes beyond_constants
mixed_statics_of_functions = (refl, refl)

-- <?php $g = 1; function f() { global $g, $h; $g++; $h = "new"; return $g; } echo f(), $g, $h; function u() { global
--  $g; unset($g); return isset($g) ? 1 : 0; } echo u(), $g; function r() { global $g; $g = &$other; $other = 5;
--  return $g; } echo r(), $g;
abbrev mixed_globals_in_bodies_tree : Forest
mixed_globals_in_bodies_tree =
    (node kind.ExprStmt (node kind.Assign (node kind.Variable (t token.Variable "$g" none) (t token.Op "=" (node
    kind.Number (t token.Int "1" none) none))) (t token.Semi ";" none)) (node kind.Function (t token.Keyword
    "function" (t token.Label "f" (t token.Op "(" (t token.Op ")" (node kind.Block (t token.Op "{" (node kind.Global
    (t token.Keyword "global" (node kind.Variable (t token.Variable "$g" none) (t token.Op "," (node kind.Variable (t
    token.Variable "$h" none) (t token.Semi ";" none))))) (node kind.ExprStmt (node kind.Postfix (node kind.Variable
    (t token.Variable "$g" none) (t token.Op "++" none)) (t token.Semi ";" none)) (node kind.ExprStmt (node
    kind.Assign (node kind.Variable (t token.Variable "$h" none) (t token.Op "=" (node kind.Text (t token.Text
    "\"new\"" none) none))) (t token.Semi ";" none)) (node kind.Return (t token.Keyword "return" (node kind.Variable
    (t token.Variable "$g" none) (t token.Semi ";" none))) (t token.Op "}" none)))))) none))))) (node kind.Echo (t
    token.Keyword "echo" (node kind.Call (t token.Label "f" (t token.Op "(" (node kind.Args none (t token.Op ")"
    none)))) (t token.Op "," (node kind.Variable (t token.Variable "$g" none) (t token.Op "," (node kind.Variable (t
    token.Variable "$h" none) (t token.Semi ";" none))))))) (node kind.Function (t token.Keyword "function" (t
    token.Label "u" (t token.Op "(" (t token.Op ")" (node kind.Block (t token.Op "{" (node kind.Global (t
    token.Keyword "global" (node kind.Variable (t token.Variable "$g" none) (t token.Semi ";" none))) (node kind.Unset
    (t token.Keyword "unset" (t token.Op "(" (node kind.Variable (t token.Variable "$g" none) (t token.Op ")" (t
    token.Semi ";" none))))) (node kind.Return (t token.Keyword "return" (node kind.Ternary (node kind.Isset (t
    token.Keyword "isset" (t token.Op "(" (node kind.Variable (t token.Variable "$g" none) (t token.Op ")" none)))) (t
    token.Op "?" (node kind.Number (t token.Int "1" none) (t token.Op ":" (node kind.Number (t token.Int "0" none)
    none))))) (t token.Semi ";" none))) (t token.Op "}" none))))) none))))) (node kind.Echo (t token.Keyword "echo"
    (node kind.Call (t token.Label "u" (t token.Op "(" (node kind.Args none (t token.Op ")" none)))) (t token.Op ","
    (node kind.Variable (t token.Variable "$g" none) (t token.Semi ";" none))))) (node kind.Function (t token.Keyword
    "function" (t token.Label "r" (t token.Op "(" (t token.Op ")" (node kind.Block (t token.Op "{" (node kind.Global
    (t token.Keyword "global" (node kind.Variable (t token.Variable "$g" none) (t token.Semi ";" none))) (node
    kind.ExprStmt (node kind.AssignRef (node kind.Variable (t token.Variable "$g" none) (t token.Op "=" (t token.Op
    "&" (node kind.Variable (t token.Variable "$other" none) none)))) (t token.Semi ";" none)) (node kind.ExprStmt
    (node kind.Assign (node kind.Variable (t token.Variable "$other" none) (t token.Op "=" (node kind.Number (t
    token.Int "5" none) none))) (t token.Semi ";" none)) (node kind.Return (t token.Keyword "return" (node
    kind.Variable (t token.Variable "$g" none) (t token.Semi ";" none))) (t token.Op "}" none)))))) none))))) (node
    kind.Echo (t token.Keyword "echo" (node kind.Call (t token.Label "r" (t token.Op "(" (node kind.Args none (t
    token.Op ")" none)))) (t token.Op "," (node kind.Variable (t token.Variable "$g" none) (t token.Semi ";" none)))))
    none)))))))

mixed_globals_in_bodies : Comes 200 (file mixed_globals_in_bodies_tree) (file mixed_globals_in_bodies_tree) (codes "a.php")
    ((codes "22new0252"), ended)
    ((codes "22new0252"), ended)
unfolding builtin_rows named_constants word_constants is_same_name newer_functions newer_classes newer_constants beyond_functions beyond_classes beyond_constants
mixed_globals_in_bodies = (refl, refl)

-- <?php echo 1 <=> 2, "a" == 0 ? "t" : "f", "1" == "01" ? "t" : "f", null == false ? "t" : "f", [] == false ? "t" :
--  "f", "abc" == "ABC" ? "t" : "f", 5 <= 5 ? "t" : "f", "1 " == 1 ? "t" : "f", 1 === 1 ? "t" : "f", [1] === ["0" =>
--  1] ? "t" : "f";
abbrev mixed_comparisons_tree : Forest
mixed_comparisons_tree =
    (node kind.Echo (t token.Keyword "echo" (node kind.Binary (node kind.Number (t token.Int "1" none) (t token.Op
    "<=>" (node kind.Number (t token.Int "2" none) none))) (t token.Op "," (node kind.Ternary (node kind.Binary (node
    kind.Text (t token.Text "\"a\"" none) (t token.Op "==" (node kind.Number (t token.Int "0" none) none))) (t
    token.Op "?" (node kind.Text (t token.Text "\"t\"" none) (t token.Op ":" (node kind.Text (t token.Text "\"f\""
    none) none))))) (t token.Op "," (node kind.Ternary (node kind.Binary (node kind.Text (t token.Text "\"1\"" none)
    (t token.Op "==" (node kind.Text (t token.Text "\"01\"" none) none))) (t token.Op "?" (node kind.Text (t
    token.Text "\"t\"" none) (t token.Op ":" (node kind.Text (t token.Text "\"f\"" none) none))))) (t token.Op ","
    (node kind.Ternary (node kind.Binary (node kind.Constant (t token.Label "null" none) (t token.Op "==" (node
    kind.Constant (t token.Label "false" none) none))) (t token.Op "?" (node kind.Text (t token.Text "\"t\"" none) (t
    token.Op ":" (node kind.Text (t token.Text "\"f\"" none) none))))) (t token.Op "," (node kind.Ternary (node
    kind.Binary (node kind.Array (t token.Op "[" (t token.Op "]" none)) (t token.Op "==" (node kind.Constant (t
    token.Label "false" none) none))) (t token.Op "?" (node kind.Text (t token.Text "\"t\"" none) (t token.Op ":"
    (node kind.Text (t token.Text "\"f\"" none) none))))) (t token.Op "," (node kind.Ternary (node kind.Binary (node
    kind.Text (t token.Text "\"abc\"" none) (t token.Op "==" (node kind.Text (t token.Text "\"ABC\"" none) none))) (t
    token.Op "?" (node kind.Text (t token.Text "\"t\"" none) (t token.Op ":" (node kind.Text (t token.Text "\"f\""
    none) none))))) (t token.Op "," (node kind.Ternary (node kind.Binary (node kind.Number (t token.Int "5" none) (t
    token.Op "<=" (node kind.Number (t token.Int "5" none) none))) (t token.Op "?" (node kind.Text (t token.Text
    "\"t\"" none) (t token.Op ":" (node kind.Text (t token.Text "\"f\"" none) none))))) (t token.Op "," (node
    kind.Ternary (node kind.Binary (node kind.Text (t token.Text "\"1 \"" none) (t token.Op "==" (node kind.Number (t
    token.Int "1" none) none))) (t token.Op "?" (node kind.Text (t token.Text "\"t\"" none) (t token.Op ":" (node
    kind.Text (t token.Text "\"f\"" none) none))))) (t token.Op "," (node kind.Ternary (node kind.Binary (node
    kind.Number (t token.Int "1" none) (t token.Op "===" (node kind.Number (t token.Int "1" none) none))) (t token.Op
    "?" (node kind.Text (t token.Text "\"t\"" none) (t token.Op ":" (node kind.Text (t token.Text "\"f\"" none)
    none))))) (t token.Op "," (node kind.Ternary (node kind.Binary (node kind.Array (t token.Op "[" (node kind.Item
    (node kind.Number (t token.Int "1" none) none) (t token.Op "]" none))) (t token.Op "===" (node kind.Array (t
    token.Op "[" (node kind.Item (node kind.Text (t token.Text "\"0\"" none) (t token.Op "=>" (node kind.Number (t
    token.Int "1" none) none))) (t token.Op "]" none))) none))) (t token.Op "?" (node kind.Text (t token.Text "\"t\""
    none) (t token.Op ":" (node kind.Text (t token.Text "\"f\"" none) none))))) (t token.Semi ";"
    none))))))))))))))))))))) none)

mixed_comparisons : Comes 200 (file mixed_comparisons_tree) (file mixed_comparisons_tree) (codes "a.php")
    ((codes "-1ttttftttt"), ended)
    ((codes "-1ftttftttt"), ended)
unfolding builtin_rows named_constants word_constants is_same_name newer_functions newer_classes newer_constants beyond_functions beyond_classes beyond_constants
mixed_comparisons = (refl, refl)

-- <?php $x = 5; if ($x < 3) echo "a"; elseif ($x < 6) echo "b"; else echo "c"; if ($x > 9) { echo "d"; } else if ($x == 5) { echo "e"; }
abbrev mixed_elseif_chain_tree : Forest
mixed_elseif_chain_tree =
    (node kind.ExprStmt (node kind.Assign (node kind.Variable (t token.Variable "$x" none) (t token.Op "=" (node
    kind.Number (t token.Int "5" none) none))) (t token.Semi ";" none)) (node kind.If (t token.Keyword "if" (t
    token.Op "(" (node kind.Binary (node kind.Variable (t token.Variable "$x" none) (t token.Op "<" (node kind.Number
    (t token.Int "3" none) none))) (t token.Op ")" (node kind.Echo (t token.Keyword "echo" (node kind.Text (t
    token.Text "\"a\"" none) (t token.Semi ";" none))) (t token.Keyword "elseif" (t token.Op "(" (node kind.Binary
    (node kind.Variable (t token.Variable "$x" none) (t token.Op "<" (node kind.Number (t token.Int "6" none) none)))
    (t token.Op ")" (node kind.Echo (t token.Keyword "echo" (node kind.Text (t token.Text "\"b\"" none) (t token.Semi
    ";" none))) (t token.Keyword "else" (node kind.Echo (t token.Keyword "echo" (node kind.Text (t token.Text "\"c\""
    none) (t token.Semi ";" none))) none)))))))))))) (node kind.If (t token.Keyword "if" (t token.Op "(" (node
    kind.Binary (node kind.Variable (t token.Variable "$x" none) (t token.Op ">" (node kind.Number (t token.Int "9"
    none) none))) (t token.Op ")" (node kind.Block (t token.Op "{" (node kind.Echo (t token.Keyword "echo" (node
    kind.Text (t token.Text "\"d\"" none) (t token.Semi ";" none))) (t token.Op "}" none))) (t token.Keyword "else"
    (node kind.If (t token.Keyword "if" (t token.Op "(" (node kind.Binary (node kind.Variable (t token.Variable "$x"
    none) (t token.Op "==" (node kind.Number (t token.Int "5" none) none))) (t token.Op ")" (node kind.Block (t
    token.Op "{" (node kind.Echo (t token.Keyword "echo" (node kind.Text (t token.Text "\"e\"" none) (t token.Semi ";"
    none))) (t token.Op "}" none))) none))))) none))))))) none)))

mixed_elseif_chain : Comes 200 (file mixed_elseif_chain_tree) (file mixed_elseif_chain_tree) (codes "a.php")
    ((codes "be"), ended)
    ((codes "be"), ended)
unfolding builtin_rows named_constants word_constants is_same_name newer_functions newer_classes newer_constants beyond_functions beyond_classes beyond_constants
mixed_elseif_chain = (refl, refl)

-- <?php $i = 1; $i += $i++; echo $i; function kk($n) { echo "k", $n; return $n; } $arr = []; $arr[kk(1)][kk(2)] =
--  kk(3); class E {} function arg() { echo "arg"; return 1; } new E(arg()); $u = []; unset($u["m"]["n"]); echo
--  count($u); unset($nope["a"]); echo isset($nope) ? 1 : 0, isset($zz->p) ? 1 : 0, isset($zz->p["q"]) ? 1 : 0;
abbrev mixed_orders_tree : Forest
mixed_orders_tree =
    (node kind.ExprStmt (node kind.Assign (node kind.Variable (t token.Variable "$i" none) (t token.Op "=" (node
    kind.Number (t token.Int "1" none) none))) (t token.Semi ";" none)) (node kind.ExprStmt (node kind.CompoundAssign
    (node kind.Variable (t token.Variable "$i" none) (t token.Op "+=" (node kind.Postfix (node kind.Variable (t
    token.Variable "$i" none) (t token.Op "++" none)) none))) (t token.Semi ";" none)) (node kind.Echo (t
    token.Keyword "echo" (node kind.Variable (t token.Variable "$i" none) (t token.Semi ";" none))) (node
    kind.Function (t token.Keyword "function" (t token.Label "kk" (t token.Op "(" (node kind.Param (t token.Variable
    "$n" none) (t token.Op ")" (node kind.Block (t token.Op "{" (node kind.Echo (t token.Keyword "echo" (node
    kind.Text (t token.Text "\"k\"" none) (t token.Op "," (node kind.Variable (t token.Variable "$n" none) (t
    token.Semi ";" none))))) (node kind.Return (t token.Keyword "return" (node kind.Variable (t token.Variable "$n"
    none) (t token.Semi ";" none))) (t token.Op "}" none)))) none)))))) (node kind.ExprStmt (node kind.Assign (node
    kind.Variable (t token.Variable "$arr" none) (t token.Op "=" (node kind.Array (t token.Op "[" (t token.Op "]"
    none)) none))) (t token.Semi ";" none)) (node kind.ExprStmt (node kind.Assign (node kind.Offset (node kind.Offset
    (node kind.Variable (t token.Variable "$arr" none) (t token.Op "[" (node kind.Call (t token.Label "kk" (t token.Op
    "(" (node kind.Args (node kind.Number (t token.Int "1" none) none) (t token.Op ")" none)))) (t token.Op "]"
    none)))) (t token.Op "[" (node kind.Call (t token.Label "kk" (t token.Op "(" (node kind.Args (node kind.Number (t
    token.Int "2" none) none) (t token.Op ")" none)))) (t token.Op "]" none)))) (t token.Op "=" (node kind.Call (t
    token.Label "kk" (t token.Op "(" (node kind.Args (node kind.Number (t token.Int "3" none) none) (t token.Op ")"
    none)))) none))) (t token.Semi ";" none)) (node kind.Class (t token.Keyword "class" (t token.Label "E" (t token.Op
    "{" (t token.Op "}" none)))) (node kind.Function (t token.Keyword "function" (t token.Label "arg" (t token.Op "("
    (t token.Op ")" (node kind.Block (t token.Op "{" (node kind.Echo (t token.Keyword "echo" (node kind.Text (t
    token.Text "\"arg\"" none) (t token.Semi ";" none))) (node kind.Return (t token.Keyword "return" (node kind.Number
    (t token.Int "1" none) (t token.Semi ";" none))) (t token.Op "}" none)))) none))))) (node kind.ExprStmt (node
    kind.New (t token.Keyword "new" (t token.Label "E" (t token.Op "(" (node kind.Args (node kind.Call (t token.Label
    "arg" (t token.Op "(" (node kind.Args none (t token.Op ")" none)))) none) (t token.Op ")" none))))) (t token.Semi
    ";" none)) (node kind.ExprStmt (node kind.Assign (node kind.Variable (t token.Variable "$u" none) (t token.Op "="
    (node kind.Array (t token.Op "[" (t token.Op "]" none)) none))) (t token.Semi ";" none)) (node kind.Unset (t
    token.Keyword "unset" (t token.Op "(" (node kind.Offset (node kind.Offset (node kind.Variable (t token.Variable
    "$u" none) (t token.Op "[" (node kind.Text (t token.Text "\"m\"" none) (t token.Op "]" none)))) (t token.Op "["
    (node kind.Text (t token.Text "\"n\"" none) (t token.Op "]" none)))) (t token.Op ")" (t token.Semi ";" none)))))
    (node kind.Echo (t token.Keyword "echo" (node kind.Call (t token.Label "count" (t token.Op "(" (node kind.Args
    (node kind.Variable (t token.Variable "$u" none) none) (t token.Op ")" none)))) (t token.Semi ";" none))) (node
    kind.Unset (t token.Keyword "unset" (t token.Op "(" (node kind.Offset (node kind.Variable (t token.Variable
    "$nope" none) (t token.Op "[" (node kind.Text (t token.Text "\"a\"" none) (t token.Op "]" none)))) (t token.Op ")"
    (t token.Semi ";" none))))) (node kind.Echo (t token.Keyword "echo" (node kind.Ternary (node kind.Isset (t
    token.Keyword "isset" (t token.Op "(" (node kind.Variable (t token.Variable "$nope" none) (t token.Op ")" none))))
    (t token.Op "?" (node kind.Number (t token.Int "1" none) (t token.Op ":" (node kind.Number (t token.Int "0" none)
    none))))) (t token.Op "," (node kind.Ternary (node kind.Isset (t token.Keyword "isset" (t token.Op "(" (node
    kind.Prop (node kind.Variable (t token.Variable "$zz" none) (t token.Op "->" (t token.Label "p" none))) (t
    token.Op ")" none)))) (t token.Op "?" (node kind.Number (t token.Int "1" none) (t token.Op ":" (node kind.Number
    (t token.Int "0" none) none))))) (t token.Op "," (node kind.Ternary (node kind.Isset (t token.Keyword "isset" (t
    token.Op "(" (node kind.Offset (node kind.Prop (node kind.Variable (t token.Variable "$zz" none) (t token.Op "->"
    (t token.Label "p" none))) (t token.Op "[" (node kind.Text (t token.Text "\"q\"" none) (t token.Op "]" none)))) (t
    token.Op ")" none)))) (t token.Op "?" (node kind.Number (t token.Int "1" none) (t token.Op ":" (node kind.Number
    (t token.Int "0" none) none))))) (t token.Semi ";" none))))))) none))))))))))))))

mixed_orders : Comes 200 (file mixed_orders_tree) (file mixed_orders_tree) (codes "a.php")
    ((codes "3k1k2k3arg0000"), ended)
    ((codes "3k1k2k3arg0000"), ended)
unfolding builtin_rows named_constants word_constants is_same_name newer_functions newer_classes newer_constants beyond_functions beyond_classes beyond_constants
mixed_orders = (refl, refl)

-- <?php class C1 { const X = C2::Y; public $d = self::X; } class C2 { const Y = 4; } echo C1::X, (new C1)->d;
--  function rv() { $v = 1; try { return $v; } finally { $v = 2; } } echo rv(); $q = [1, 2, 3]; foreach ($q as $kq =>
--  &$vq) { if ($kq == 0) unset($q[1]); echo $vq; } unset($vq); $w = [3 => "a"]; foreach ($w as $z) { $w[] = "b"; }
--  foreach ($w as $kw => $z) echo $kw; echo 7 % -3, -7 % 3;
abbrev mixed_late_constants_tree : Forest
mixed_late_constants_tree =
    (node kind.Class (t token.Keyword "class" (t token.Label "C1" (t token.Op "{" (node kind.ClassConst (t
    token.Keyword "const" (t token.Label "X" (t token.Op "=" (node kind.ClassConstant (t token.Label "C2" (t token.Op
    "::" (t token.Label "Y" none))) (t token.Semi ";" none))))) (node kind.Property (t token.Keyword "public" (t
    token.Variable "$d" (t token.Op "=" (node kind.ClassConstant (t token.Label "self" (t token.Op "::" (t token.Label
    "X" none))) (t token.Semi ";" none))))) (t token.Op "}" none)))))) (node kind.Class (t token.Keyword "class" (t
    token.Label "C2" (t token.Op "{" (node kind.ClassConst (t token.Keyword "const" (t token.Label "Y" (t token.Op "="
    (node kind.Number (t token.Int "4" none) (t token.Semi ";" none))))) (t token.Op "}" none))))) (node kind.Echo (t
    token.Keyword "echo" (node kind.ClassConstant (t token.Label "C1" (t token.Op "::" (t token.Label "X" none))) (t
    token.Op "," (node kind.Prop (node kind.Paren (t token.Op "(" (node kind.New (t token.Keyword "new" (t token.Label
    "C1" none)) (t token.Op ")" none))) (t token.Op "->" (t token.Label "d" none))) (t token.Semi ";" none))))) (node
    kind.Function (t token.Keyword "function" (t token.Label "rv" (t token.Op "(" (t token.Op ")" (node kind.Block (t
    token.Op "{" (node kind.ExprStmt (node kind.Assign (node kind.Variable (t token.Variable "$v" none) (t token.Op
    "=" (node kind.Number (t token.Int "1" none) none))) (t token.Semi ";" none)) (node kind.Try (t token.Keyword
    "try" (node kind.Block (t token.Op "{" (node kind.Return (t token.Keyword "return" (node kind.Variable (t
    token.Variable "$v" none) (t token.Semi ";" none))) (t token.Op "}" none))) (t token.Keyword "finally" (node
    kind.Block (t token.Op "{" (node kind.ExprStmt (node kind.Assign (node kind.Variable (t token.Variable "$v" none)
    (t token.Op "=" (node kind.Number (t token.Int "2" none) none))) (t token.Semi ";" none)) (t token.Op "}" none)))
    none)))) (t token.Op "}" none)))) none))))) (node kind.Echo (t token.Keyword "echo" (node kind.Call (t token.Label
    "rv" (t token.Op "(" (node kind.Args none (t token.Op ")" none)))) (t token.Semi ";" none))) (node kind.ExprStmt
    (node kind.Assign (node kind.Variable (t token.Variable "$q" none) (t token.Op "=" (node kind.Array (t token.Op
    "[" (node kind.Item (node kind.Number (t token.Int "1" none) none) (t token.Op "," (node kind.Item (node
    kind.Number (t token.Int "2" none) none) (t token.Op "," (node kind.Item (node kind.Number (t token.Int "3" none)
    none) (t token.Op "]" none))))))) none))) (t token.Semi ";" none)) (node kind.Foreach (t token.Keyword "foreach"
    (t token.Op "(" (node kind.Variable (t token.Variable "$q" none) (t token.Keyword "as" (node kind.Variable (t
    token.Variable "$kq" none) (t token.Op "=>" (t token.Op "&" (node kind.Variable (t token.Variable "$vq" none) (t
    token.Op ")" (node kind.Block (t token.Op "{" (node kind.If (t token.Keyword "if" (t token.Op "(" (node
    kind.Binary (node kind.Variable (t token.Variable "$kq" none) (t token.Op "==" (node kind.Number (t token.Int "0"
    none) none))) (t token.Op ")" (node kind.Unset (t token.Keyword "unset" (t token.Op "(" (node kind.Offset (node
    kind.Variable (t token.Variable "$q" none) (t token.Op "[" (node kind.Number (t token.Int "1" none) (t token.Op
    "]" none)))) (t token.Op ")" (t token.Semi ";" none))))) none))))) (node kind.Echo (t token.Keyword "echo" (node
    kind.Variable (t token.Variable "$vq" none) (t token.Semi ";" none))) (t token.Op "}" none)))) none))))))))))
    (node kind.Unset (t token.Keyword "unset" (t token.Op "(" (node kind.Variable (t token.Variable "$vq" none) (t
    token.Op ")" (t token.Semi ";" none))))) (node kind.ExprStmt (node kind.Assign (node kind.Variable (t
    token.Variable "$w" none) (t token.Op "=" (node kind.Array (t token.Op "[" (node kind.Item (node kind.Number (t
    token.Int "3" none) (t token.Op "=>" (node kind.Text (t token.Text "\"a\"" none) none))) (t token.Op "]" none)))
    none))) (t token.Semi ";" none)) (node kind.Foreach (t token.Keyword "foreach" (t token.Op "(" (node kind.Variable
    (t token.Variable "$w" none) (t token.Keyword "as" (node kind.Variable (t token.Variable "$z" none) (t token.Op
    ")" (node kind.Block (t token.Op "{" (node kind.ExprStmt (node kind.Assign (node kind.Offset (node kind.Variable
    (t token.Variable "$w" none) (t token.Op "[" (t token.Op "]" none))) (t token.Op "=" (node kind.Text (t token.Text
    "\"b\"" none) none))) (t token.Semi ";" none)) (t token.Op "}" none))) none))))))) (node kind.Foreach (t
    token.Keyword "foreach" (t token.Op "(" (node kind.Variable (t token.Variable "$w" none) (t token.Keyword "as"
    (node kind.Variable (t token.Variable "$kw" none) (t token.Op "=>" (node kind.Variable (t token.Variable "$z"
    none) (t token.Op ")" (node kind.Echo (t token.Keyword "echo" (node kind.Variable (t token.Variable "$kw" none) (t
    token.Semi ";" none))) none))))))))) (node kind.Echo (t token.Keyword "echo" (node kind.Binary (node kind.Number
    (t token.Int "7" none) (t token.Op "%" (node kind.Prefix (t token.Op "-" (node kind.Number (t token.Int "3" none)
    none)) none))) (t token.Op "," (node kind.Binary (node kind.Prefix (t token.Op "-" (node kind.Number (t token.Int
    "7" none) none)) (t token.Op "%" (node kind.Number (t token.Int "3" none) none))) (t token.Semi ";" none)))))
    none))))))))))))

mixed_late_constants : Comes 200 (file mixed_late_constants_tree) (file mixed_late_constants_tree) (codes "a.php")
    ((codes "44113341-1"), ended)
    ((codes "44113341-1"), ended)
unfolding builtin_rows named_constants word_constants is_same_name newer_functions newer_classes newer_constants beyond_functions beyond_classes beyond_constants
mixed_late_constants = (refl, refl)
