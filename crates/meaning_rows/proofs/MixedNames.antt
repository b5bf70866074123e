-- Rows of whole programs: names, constants, tests and includes together. The 8.3 side is what PHP 8.2 echoes, where it has a meaning here.
use Rattle.std.proofs.Common.{[], ◌∷◌, refl, pos, codes}
use Rattle.php_tree.specs.declared.token.TokenKind.TheVariants as token
use Rattle.php_tree.specs.declared.kind.NodeKind.TheVariants as kind
use Rattle.php_tree.specs.Tree.{Forest, none, node}
use Rattle.builtin_tables.specs.Beyond.{beyond_functions, beyond_classes, beyond_constants}
use Rattle.builtin_tables.specs.Builtins.{builtin_rows}
use Rattle.builtin_tables.specs.Constants.{named_constants, word_constants}
use Rattle.builtin_tables.specs.Named.{is_same_name}
use Rattle.builtin_tables.specs.Newer.{newer_functions, newer_classes, newer_constants}
use Rattle.php_meaning.specs.runs.World.{Ended}
use Rattle.meaning_rows.specs.Words.{t, b, file, ended, Comes}

-- <?php namespace N\M; use N\M\Inner as I; class Inner { function n() { return __CLASS__; } } function f() { return
--  'ns'; } const C = 'c'; echo f(), \strlen('abc'), strlen('ab'), namespace\f(), C, \N\M\C; $i = new I; echo $i->n(),
--  __NAMESPACE__; try { throw new \LogicException('m'); } catch (\Error | \LogicException $x) { echo
--  $x->getMessage(); }
abbrev mixed_names_tree : Forest
mixed_names_tree =
    (node kind.Namespace (t token.Keyword "namespace" (t token.Label "N" (t token.Op "\\" (t token.Label "M" (t
    token.Semi ";" none))))) (node kind.Use (t token.Keyword "use" (t token.Label "N" (t token.Op "\\" (t token.Label
    "M" (t token.Op "\\" (t token.Label "Inner" (t token.Keyword "as" (t token.Label "I" (t token.Semi ";"
    none))))))))) (node kind.Class (t token.Keyword "class" (t token.Label "Inner" (t token.Op "{" (node kind.Method
    (t token.Keyword "function" (t token.Label "n" (t token.Op "(" (t token.Op ")" (node kind.Block (t token.Op "{"
    (node kind.Return (t token.Keyword "return" (node kind.Constant (t token.Label "__CLASS__" none) (t token.Semi ";"
    none))) (t token.Op "}" none))) none))))) (t token.Op "}" none))))) (node kind.Function (t token.Keyword
    "function" (t token.Label "f" (t token.Op "(" (t token.Op ")" (node kind.Block (t token.Op "{" (node kind.Return
    (t token.Keyword "return" (node kind.Text (t token.Text "'ns'" none) (t token.Semi ";" none))) (t token.Op "}"
    none))) none))))) (node kind.Const (t token.Keyword "const" (t token.Label "C" (t token.Op "=" (node kind.Text (t
    token.Text "'c'" none) (t token.Semi ";" none))))) (node kind.Echo (t token.Keyword "echo" (node kind.Call (t
    token.Label "f" (t token.Op "(" (node kind.Args none (t token.Op ")" none)))) (t token.Op "," (node kind.Call (t
    token.Op "\\" (t token.Label "strlen" (t token.Op "(" (node kind.Args (node kind.Text (t token.Text "'abc'" none)
    none) (t token.Op ")" none))))) (t token.Op "," (node kind.Call (t token.Label "strlen" (t token.Op "(" (node
    kind.Args (node kind.Text (t token.Text "'ab'" none) none) (t token.Op ")" none)))) (t token.Op "," (node
    kind.Call (t token.Keyword "namespace" (t token.Op "\\" (t token.Label "f" (t token.Op "(" (node kind.Args none (t
    token.Op ")" none)))))) (t token.Op "," (node kind.Constant (t token.Label "C" none) (t token.Op "," (node
    kind.Constant (t token.Op "\\" (t token.Label "N" (t token.Op "\\" (t token.Label "M" (t token.Op "\\" (t
    token.Label "C" none)))))) (t token.Semi ";" none))))))))))))) (node kind.ExprStmt (node kind.Assign (node
    kind.Variable (t token.Variable "$i" none) (t token.Op "=" (node kind.New (t token.Keyword "new" (t token.Label
    "I" none)) none))) (t token.Semi ";" none)) (node kind.Echo (t token.Keyword "echo" (node kind.MethodCall (node
    kind.Variable (t token.Variable "$i" none) (t token.Op "->" (t token.Label "n" (t token.Op "(" (node kind.Args
    none (t token.Op ")" none)))))) (t token.Op "," (node kind.Constant (t token.Label "__NAMESPACE__" none) (t
    token.Semi ";" none))))) (node kind.Try (t token.Keyword "try" (node kind.Block (t token.Op "{" (node kind.Throw
    (t token.Keyword "throw" (node kind.New (t token.Keyword "new" (t token.Op "\\" (t token.Label "LogicException" (t
    token.Op "(" (node kind.Args (node kind.Text (t token.Text "'m'" none) none) (t token.Op ")" none)))))) (t
    token.Semi ";" none))) (t token.Op "}" none))) (t token.Keyword "catch" (t token.Op "(" (t token.Op "\\" (t
    token.Label "Error" (t token.Op "|" (t token.Op "\\" (t token.Label "LogicException" (t token.Variable "$x" (t
    token.Op ")" (node kind.Block (t token.Op "{" (node kind.Echo (t token.Keyword "echo" (node kind.MethodCall (node
    kind.Variable (t token.Variable "$x" none) (t token.Op "->" (t token.Label "getMessage" (t token.Op "(" (node
    kind.Args none (t token.Op ")" none)))))) (t token.Semi ";" none))) (t token.Op "}" none))) none))))))))))))
    none)))))))))

abbrev mixed_names_new_tree : Forest
mixed_names_new_tree =
    (node kind.Namespace (t token.Keyword "namespace" (t token.Name "N\\M" (t token.Semi ";" none))) (node kind.Use (t
    token.Keyword "use" (t token.Name "N\\M\\Inner" (t token.Keyword "as" (t token.Label "I" (t token.Semi ";"
    none))))) (node kind.Class (t token.Keyword "class" (t token.Label "Inner" (t token.Op "{" (node kind.Method (t
    token.Keyword "function" (t token.Label "n" (t token.Op "(" (t token.Op ")" (node kind.Block (t token.Op "{" (node
    kind.Return (t token.Keyword "return" (node kind.Constant (t token.Label "__CLASS__" none) (t token.Semi ";"
    none))) (t token.Op "}" none))) none))))) (t token.Op "}" none))))) (node kind.Function (t token.Keyword
    "function" (t token.Label "f" (t token.Op "(" (t token.Op ")" (node kind.Block (t token.Op "{" (node kind.Return
    (t token.Keyword "return" (node kind.Text (t token.Text "'ns'" none) (t token.Semi ";" none))) (t token.Op "}"
    none))) none))))) (node kind.Const (t token.Keyword "const" (t token.Label "C" (t token.Op "=" (node kind.Text (t
    token.Text "'c'" none) (t token.Semi ";" none))))) (node kind.Echo (t token.Keyword "echo" (node kind.Call (t
    token.Label "f" (t token.Op "(" (node kind.Args none (t token.Op ")" none)))) (t token.Op "," (node kind.Call (t
    token.Name "\\strlen" (t token.Op "(" (node kind.Args (node kind.Text (t token.Text "'abc'" none) none) (t
    token.Op ")" none)))) (t token.Op "," (node kind.Call (t token.Label "strlen" (t token.Op "(" (node kind.Args
    (node kind.Text (t token.Text "'ab'" none) none) (t token.Op ")" none)))) (t token.Op "," (node kind.Call (t
    token.Name "namespace\\f" (t token.Op "(" (node kind.Args none (t token.Op ")" none)))) (t token.Op "," (node
    kind.Constant (t token.Label "C" none) (t token.Op "," (node kind.Constant (t token.Name "\\N\\M\\C" none) (t
    token.Semi ";" none))))))))))))) (node kind.ExprStmt (node kind.Assign (node kind.Variable (t token.Variable "$i"
    none) (t token.Op "=" (node kind.New (t token.Keyword "new" (t token.Label "I" none)) none))) (t token.Semi ";"
    none)) (node kind.Echo (t token.Keyword "echo" (node kind.MethodCall (node kind.Variable (t token.Variable "$i"
    none) (t token.Op "->" (t token.Label "n" (t token.Op "(" (node kind.Args none (t token.Op ")" none)))))) (t
    token.Op "," (node kind.Constant (t token.Label "__NAMESPACE__" none) (t token.Semi ";" none))))) (node kind.Try
    (t token.Keyword "try" (node kind.Block (t token.Op "{" (node kind.Throw (t token.Keyword "throw" (node kind.New
    (t token.Keyword "new" (t token.Name "\\LogicException" (t token.Op "(" (node kind.Args (node kind.Text (t
    token.Text "'m'" none) none) (t token.Op ")" none))))) (t token.Semi ";" none))) (t token.Op "}" none))) (t
    token.Keyword "catch" (t token.Op "(" (t token.Name "\\Error" (t token.Op "|" (t token.Name "\\LogicException" (t
    token.Variable "$x" (t token.Op ")" (node kind.Block (t token.Op "{" (node kind.Echo (t token.Keyword "echo" (node
    kind.MethodCall (node kind.Variable (t token.Variable "$x" none) (t token.Op "->" (t token.Label "getMessage" (t
    token.Op "(" (node kind.Args none (t token.Op ")" none)))))) (t token.Semi ";" none))) (t token.Op "}" none)))
    none)))))))))) none)))))))))

mixed_names : Comes 200 (file mixed_names_tree) (file mixed_names_new_tree) (codes "a.php")
    ((codes "ns32nsccN\\M\\InnerN\\Mm"), ended)
    ((codes "ns32nsccN\\M\\InnerN\\Mm"), ended)
unfolding builtin_rows named_constants word_constants is_same_name newer_functions newer_classes newer_constants beyond_functions beyond_classes beyond_constants
mixed_names = (refl, refl)

-- <?php function f() { echo "a"; exit(3); } f(); echo "b";
abbrev mixed_exits_tree : Forest
mixed_exits_tree =
    (node kind.Function (t token.Keyword "function" (t token.Label "f" (t token.Op "(" (t token.Op ")" (node
    kind.Block (t token.Op "{" (node kind.Echo (t token.Keyword "echo" (node kind.Text (t token.Text "\"a\"" none) (t
    token.Semi ";" none))) (node kind.ExprStmt (node kind.Exit (t token.Keyword "exit" (t token.Op "(" (node
    kind.Number (t token.Int "3" none) (t token.Op ")" none)))) (t token.Semi ";" none)) (t token.Op "}" none))))
    none))))) (node kind.ExprStmt (node kind.Call (t token.Label "f" (t token.Op "(" (node kind.Args none (t token.Op
    ")" none)))) (t token.Semi ";" none)) (node kind.Echo (t token.Keyword "echo" (node kind.Text (t token.Text
    "\"b\"" none) (t token.Semi ";" none))) none)))

mixed_exits : Comes 200 (file mixed_exits_tree) (file mixed_exits_tree) (codes "a.php")
    ((codes "a"), Ended (pos 3))
    ((codes "a"), Ended (pos 3))
unfolding builtin_rows named_constants word_constants is_same_name newer_functions newer_classes newer_constants beyond_functions beyond_classes beyond_constants
mixed_exits = (refl, refl)

-- <?php $x = 5; $a = ["k" => 7, 3 => 8]; $id = "z"; echo "v=$x {$a['k']} $a[k] $a[3] ${id}\n";
abbrev mixed_quoted_tree : Forest
mixed_quoted_tree =
    (node kind.ExprStmt (node kind.Assign (node kind.Variable (t token.Variable "$x" none) (t token.Op "=" (node
    kind.Number (t token.Int "5" none) none))) (t token.Semi ";" none)) (node kind.ExprStmt (node kind.Assign (node
    kind.Variable (t token.Variable "$a" none) (t token.Op "=" (node kind.Array (t token.Op "[" (node kind.Item (node
    kind.Text (t token.Text "\"k\"" none) (t token.Op "=>" (node kind.Number (t token.Int "7" none) none))) (t
    token.Op "," (node kind.Item (node kind.Number (t token.Int "3" none) (t token.Op "=>" (node kind.Number (t
    token.Int "8" none) none))) (t token.Op "]" none))))) none))) (t token.Semi ";" none)) (node kind.ExprStmt (node
    kind.Assign (node kind.Variable (t token.Variable "$id" none) (t token.Op "=" (node kind.Text (t token.Text
    "\"z\"" none) none))) (t token.Semi ";" none)) (node kind.Echo (t token.Keyword "echo" (node kind.Quoted (t
    token.Quote "\"" (t token.Piece "v=" (node kind.Variable (t token.Variable "$x" none) (t token.Piece " " (t
    token.CurlyOpen "{" (node kind.Offset (node kind.Variable (t token.Variable "$a" none) (t token.Op "[" (node
    kind.Text (t token.Text "'k'" none) (t token.Op "]" none)))) (t token.Op "}" (t token.Piece " " (node kind.Offset
    (node kind.Variable (t token.Variable "$a" none) (t token.Op "[" (t token.Label "k" (t token.Op "]" none)))) (t
    token.Piece " " (node kind.Offset (node kind.Variable (t token.Variable "$a" none) (t token.Op "[" (t token.Int
    "3" (t token.Op "]" none)))) (t token.Piece " " (t token.DollarBrace "${" (t token.VarName "id" (t token.Op "}" (t
    token.Piece "\\n" (t token.QuotedEnd "\"" none))))))))))))))))) (t token.Semi ";" none))) none))))

mixed_quoted : Comes 200 (file mixed_quoted_tree) (file mixed_quoted_tree) (codes "a.php")
    ((codes "v=5 7 7 8 z\n"), ended)
    ((codes "v=5 7 7 8 z\n"), ended)
unfolding builtin_rows named_constants word_constants is_same_name newer_functions newer_classes newer_constants beyond_functions beyond_classes beyond_constants
mixed_quoted = (refl, refl)

-- <?php const A = 2; echo A . PHP_EOL; try { echo foo; } catch (Error $e) { echo "E"; }
abbrev mixed_constants_tree : Forest
mixed_constants_tree =
    (node kind.Const (t token.Keyword "const" (t token.Label "A" (t token.Op "=" (node kind.Number (t token.Int "2"
    none) (t token.Semi ";" none))))) (node kind.Echo (t token.Keyword "echo" (node kind.Binary (node kind.Constant (t
    token.Label "A" none) (t token.Op "." (node kind.Constant (t token.Label "PHP_EOL" none) none))) (t token.Semi ";"
    none))) (node kind.Try (t token.Keyword "try" (node kind.Block (t token.Op "{" (node kind.Echo (t token.Keyword
    "echo" (node kind.Constant (t token.Label "foo" none) (t token.Semi ";" none))) (t token.Op "}" none))) (t
    token.Keyword "catch" (t token.Op "(" (t token.Label "Error" (t token.Variable "$e" (t token.Op ")" (node
    kind.Block (t token.Op "{" (node kind.Echo (t token.Keyword "echo" (node kind.Text (t token.Text "\"E\"" none) (t
    token.Semi ";" none))) (t token.Op "}" none))) none)))))))) none)))

mixed_constants : Comes 200 (file mixed_constants_tree) (file mixed_constants_tree) (codes "a.php")
    ((codes "2\nfoo"), ended)
    ((codes "2\nE"), ended)
unfolding builtin_rows named_constants word_constants is_same_name newer_functions newer_classes newer_constants beyond_functions beyond_classes beyond_constants
mixed_constants = (refl, refl)

-- <?php $a = ['x' => null, 'y' => 0]; echo isset($a['x']) ? 1 : 0, isset($a['y']) ? 1 : 0, isset($a['z']['w']) ? 1 :
--  0, isset($nope) ? 1 : 0, empty($a['y']) ? 1 : 0, $a['q'] ?? 'd', $nope['a']['b'] ?? 'e'; unset($a['y'],
--  $a['m']['n']); echo count($a), 1 && 0 ? 'T' : 'F', 0 || 2 ? 'T' : 'F', !'' ? 'T' : 'F';
abbrev mixed_tests_tree : Forest
mixed_tests_tree =
    (node kind.ExprStmt (node kind.Assign (node kind.Variable (t token.Variable "$a" none) (t token.Op "=" (node
    kind.Array (t token.Op "[" (node kind.Item (node kind.Text (t token.Text "'x'" none) (t token.Op "=>" (node
    kind.Constant (t token.Label "null" none) none))) (t token.Op "," (node kind.Item (node kind.Text (t token.Text
    "'y'" none) (t token.Op "=>" (node kind.Number (t token.Int "0" none) none))) (t token.Op "]" none))))) none))) (t
    token.Semi ";" none)) (node kind.Echo (t token.Keyword "echo" (node kind.Ternary (node kind.Isset (t token.Keyword
    "isset" (t token.Op "(" (node kind.Offset (node kind.Variable (t token.Variable "$a" none) (t token.Op "[" (node
    kind.Text (t token.Text "'x'" none) (t token.Op "]" none)))) (t token.Op ")" none)))) (t token.Op "?" (node
    kind.Number (t token.Int "1" none) (t token.Op ":" (node kind.Number (t token.Int "0" none) none))))) (t token.Op
    "," (node kind.Ternary (node kind.Isset (t token.Keyword "isset" (t token.Op "(" (node kind.Offset (node
    kind.Variable (t token.Variable "$a" none) (t token.Op "[" (node kind.Text (t token.Text "'y'" none) (t token.Op
    "]" none)))) (t token.Op ")" none)))) (t token.Op "?" (node kind.Number (t token.Int "1" none) (t token.Op ":"
    (node kind.Number (t token.Int "0" none) none))))) (t token.Op "," (node kind.Ternary (node kind.Isset (t
    token.Keyword "isset" (t token.Op "(" (node kind.Offset (node kind.Offset (node kind.Variable (t token.Variable
    "$a" none) (t token.Op "[" (node kind.Text (t token.Text "'z'" none) (t token.Op "]" none)))) (t token.Op "["
    (node kind.Text (t token.Text "'w'" none) (t token.Op "]" none)))) (t token.Op ")" none)))) (t token.Op "?" (node
    kind.Number (t token.Int "1" none) (t token.Op ":" (node kind.Number (t token.Int "0" none) none))))) (t token.Op
    "," (node kind.Ternary (node kind.Isset (t token.Keyword "isset" (t token.Op "(" (node kind.Variable (t
    token.Variable "$nope" none) (t token.Op ")" none)))) (t token.Op "?" (node kind.Number (t token.Int "1" none) (t
    token.Op ":" (node kind.Number (t token.Int "0" none) none))))) (t token.Op "," (node kind.Ternary (node
    kind.EmptyTest (t token.Keyword "empty" (t token.Op "(" (node kind.Offset (node kind.Variable (t token.Variable
    "$a" none) (t token.Op "[" (node kind.Text (t token.Text "'y'" none) (t token.Op "]" none)))) (t token.Op ")"
    none)))) (t token.Op "?" (node kind.Number (t token.Int "1" none) (t token.Op ":" (node kind.Number (t token.Int
    "0" none) none))))) (t token.Op "," (node kind.Binary (node kind.Offset (node kind.Variable (t token.Variable "$a"
    none) (t token.Op "[" (node kind.Text (t token.Text "'q'" none) (t token.Op "]" none)))) (t token.Op "??" (node
    kind.Text (t token.Text "'d'" none) none))) (t token.Op "," (node kind.Binary (node kind.Offset (node kind.Offset
    (node kind.Variable (t token.Variable "$nope" none) (t token.Op "[" (node kind.Text (t token.Text "'a'" none) (t
    token.Op "]" none)))) (t token.Op "[" (node kind.Text (t token.Text "'b'" none) (t token.Op "]" none)))) (t
    token.Op "??" (node kind.Text (t token.Text "'e'" none) none))) (t token.Semi ";" none))))))))))))))) (node
    kind.Unset (t token.Keyword "unset" (t token.Op "(" (node kind.Offset (node kind.Variable (t token.Variable "$a"
    none) (t token.Op "[" (node kind.Text (t token.Text "'y'" none) (t token.Op "]" none)))) (t token.Op "," (node
    kind.Offset (node kind.Offset (node kind.Variable (t token.Variable "$a" none) (t token.Op "[" (node kind.Text (t
    token.Text "'m'" none) (t token.Op "]" none)))) (t token.Op "[" (node kind.Text (t token.Text "'n'" none) (t
    token.Op "]" none)))) (t token.Op ")" (t token.Semi ";" none))))))) (node kind.Echo (t token.Keyword "echo" (node
    kind.Call (t token.Label "count" (t token.Op "(" (node kind.Args (node kind.Variable (t token.Variable "$a" none)
    none) (t token.Op ")" none)))) (t token.Op "," (node kind.Ternary (node kind.Binary (node kind.Number (t token.Int
    "1" none) (t token.Op "&&" (node kind.Number (t token.Int "0" none) none))) (t token.Op "?" (node kind.Text (t
    token.Text "'T'" none) (t token.Op ":" (node kind.Text (t token.Text "'F'" none) none))))) (t token.Op "," (node
    kind.Ternary (node kind.Binary (node kind.Number (t token.Int "0" none) (t token.Op "||" (node kind.Number (t
    token.Int "2" none) none))) (t token.Op "?" (node kind.Text (t token.Text "'T'" none) (t token.Op ":" (node
    kind.Text (t token.Text "'F'" none) none))))) (t token.Op "," (node kind.Ternary (node kind.Prefix (t token.Op "!"
    (node kind.Text (t token.Text "''" none) none)) (t token.Op "?" (node kind.Text (t token.Text "'T'" none) (t
    token.Op ":" (node kind.Text (t token.Text "'F'" none) none))))) (t token.Semi ";" none))))))))) none))))

mixed_tests : Comes 200 (file mixed_tests_tree) (file mixed_tests_tree) (codes "a.php")
    ((codes "01001de1FTT"), ended)
    ((codes "01001de1FTT"), ended)
unfolding builtin_rows named_constants word_constants is_same_name newer_functions newer_classes newer_constants beyond_functions beyond_classes beyond_constants
mixed_tests = (refl, refl)

-- sub/lib.php:
-- <?php function lib() { return 'L'; } $shared = 'S'; return 7;
-- main.php:
-- <?php echo include 'sub/lib.php'; echo lib(), $shared, (include_once 'sub/lib.php') ? 1 : 0;
abbrev mixed_includes_tree0 : Forest
mixed_includes_tree0 =
    (node kind.Function (t token.Keyword "function" (t token.Label "lib" (t token.Op "(" (t token.Op ")" (node
    kind.Block (t token.Op "{" (node kind.Return (t token.Keyword "return" (node kind.Text (t token.Text "'L'" none)
    (t token.Semi ";" none))) (t token.Op "}" none))) none))))) (node kind.ExprStmt (node kind.Assign (node
    kind.Variable (t token.Variable "$shared" none) (t token.Op "=" (node kind.Text (t token.Text "'S'" none) none)))
    (t token.Semi ";" none)) (node kind.Return (t token.Keyword "return" (node kind.Number (t token.Int "7" none) (t
    token.Semi ";" none))) none)))

abbrev mixed_includes_tree1 : Forest
mixed_includes_tree1 =
    (node kind.Echo (t token.Keyword "echo" (node kind.Include (t token.Keyword "include" (node kind.Text (t
    token.Text "'sub/lib.php'" none) none)) (t token.Semi ";" none))) (node kind.Echo (t token.Keyword "echo" (node
    kind.Call (t token.Label "lib" (t token.Op "(" (node kind.Args none (t token.Op ")" none)))) (t token.Op "," (node
    kind.Variable (t token.Variable "$shared" none) (t token.Op "," (node kind.Ternary (node kind.Paren (t token.Op
    "(" (node kind.Include (t token.Keyword "include_once" (node kind.Text (t token.Text "'sub/lib.php'" none) none))
    (t token.Op ")" none))) (t token.Op "?" (node kind.Number (t token.Int "1" none) (t token.Op ":" (node kind.Number
    (t token.Int "0" none) none))))) (t token.Semi ";" none))))))) none))

mixed_includes : Comes 200 ((codes "sub/lib.php", mixed_includes_tree0) ∷ (codes "main.php", mixed_includes_tree1)
    ∷ []) ((codes "sub/lib.php", mixed_includes_tree0) ∷ (codes "main.php", mixed_includes_tree1) ∷ [])
    (codes "main.php")
    ((codes "7LS1"), ended)
    ((codes "7LS1"), ended)
unfolding builtin_rows named_constants word_constants is_same_name newer_functions newer_classes newer_constants beyond_functions beyond_classes beyond_constants
mixed_includes = (refl, refl)

-- <?php class A { function A() { echo 1; } } new A;
abbrev mixed_constructor_by_name_tree : Forest
mixed_constructor_by_name_tree =
    (node kind.Class (t token.Keyword "class" (t token.Label "A" (t token.Op "{" (node kind.Method (t token.Keyword
    "function" (t token.Label "A" (t token.Op "(" (t token.Op ")" (node kind.Block (t token.Op "{" (node kind.Echo (t
    token.Keyword "echo" (node kind.Number (t token.Int "1" none) (t token.Semi ";" none))) (t token.Op "}" none)))
    none))))) (t token.Op "}" none))))) (node kind.ExprStmt (node kind.New (t token.Keyword "new" (t token.Label "A"
    none)) (t token.Semi ";" none)) none))

mixed_constructor_by_name : Comes 200 (file mixed_constructor_by_name_tree) (file mixed_constructor_by_name_tree) (codes "a.php")
    ((codes "1"), ended)
    ((codes ""), ended)
unfolding builtin_rows named_constants word_constants is_same_name newer_functions newer_classes newer_constants beyond_functions beyond_classes beyond_constants
mixed_constructor_by_name = (refl, refl)

-- <?php class A { function f() { return "f"; } } try { echo A::f(); } catch (Error $e) { echo "E"; }
abbrev mixed_static_call_tree : Forest
mixed_static_call_tree =
    (node kind.Class (t token.Keyword "class" (t token.Label "A" (t token.Op "{" (node kind.Method (t token.Keyword
    "function" (t token.Label "f" (t token.Op "(" (t token.Op ")" (node kind.Block (t token.Op "{" (node kind.Return
    (t token.Keyword "return" (node kind.Text (t token.Text "\"f\"" none) (t token.Semi ";" none))) (t token.Op "}"
    none))) none))))) (t token.Op "}" none))))) (node kind.Try (t token.Keyword "try" (node kind.Block (t token.Op "{"
    (node kind.Echo (t token.Keyword "echo" (node kind.StaticCall (t token.Label "A" (t token.Op "::" (t token.Label
    "f" (t token.Op "(" (node kind.Args none (t token.Op ")" none)))))) (t token.Semi ";" none))) (t token.Op "}"
    none))) (t token.Keyword "catch" (t token.Op "(" (t token.Label "Error" (t token.Variable "$e" (t token.Op ")"
    (node kind.Block (t token.Op "{" (node kind.Echo (t token.Keyword "echo" (node kind.Text (t token.Text "\"E\""
    none) (t token.Semi ";" none))) (t token.Op "}" none))) none)))))))) none))

mixed_static_call : Comes 200 (file mixed_static_call_tree) (file mixed_static_call_tree) (codes "a.php")
    ((codes "f"), ended)
    ((codes "E"), ended)
unfolding builtin_rows named_constants word_constants is_same_name newer_functions newer_classes newer_constants beyond_functions beyond_classes beyond_constants
mixed_static_call = (refl, refl)

-- <?php class A { const X = 1, Y = self::X . "y"; public static $n = self::Y; static function up() { self::$n .= "!";
--  return static::X; } } class B extends A { const X = 2; } echo A::Y, B::Y, A::up(), B::up(), A::$n, B::$n,
--  A::class, (new B) instanceof A ? 1 : 0, 5 instanceof A ? 1 : 0; try { echo A::NO; } catch (Error $e) { echo "E"; }
abbrev mixed_class_constants_tree : Forest
mixed_class_constants_tree =
    (node kind.Class (t token.Keyword "class" (t token.Label "A" (t token.Op "{" (node kind.ClassConst (t
    token.Keyword "const" (t token.Label "X" (t token.Op "=" (node kind.Number (t token.Int "1" none) (t token.Op ","
    (t token.Label "Y" (t token.Op "=" (node kind.Binary (node kind.ClassConstant (t token.Label "self" (t token.Op
    "::" (t token.Label "X" none))) (t token.Op "." (node kind.Text (t token.Text "\"y\"" none) none))) (t token.Semi
    ";" none))))))))) (node kind.Property (t token.Keyword "public" (t token.Keyword "static" (t token.Variable "$n"
    (t token.Op "=" (node kind.ClassConstant (t token.Label "self" (t token.Op "::" (t token.Label "Y" none))) (t
    token.Semi ";" none)))))) (node kind.Method (t token.Keyword "static" (t token.Keyword "function" (t token.Label
    "up" (t token.Op "(" (t token.Op ")" (node kind.Block (t token.Op "{" (node kind.ExprStmt (node
    kind.CompoundAssign (node kind.StaticProp (t token.Label "self" (t token.Op "::" (t token.Variable "$n" none))) (t
    token.Op ".=" (node kind.Text (t token.Text "\"!\"" none) none))) (t token.Semi ";" none)) (node kind.Return (t
    token.Keyword "return" (node kind.ClassConstant (t token.Keyword "static" (t token.Op "::" (t token.Label "X"
    none))) (t token.Semi ";" none))) (t token.Op "}" none)))) none)))))) (t token.Op "}" none))))))) (node kind.Class
    (t token.Keyword "class" (t token.Label "B" (t token.Keyword "extends" (t token.Label "A" (t token.Op "{" (node
    kind.ClassConst (t token.Keyword "const" (t token.Label "X" (t token.Op "=" (node kind.Number (t token.Int "2"
    none) (t token.Semi ";" none))))) (t token.Op "}" none))))))) (node kind.Echo (t token.Keyword "echo" (node
    kind.ClassConstant (t token.Label "A" (t token.Op "::" (t token.Label "Y" none))) (t token.Op "," (node
    kind.ClassConstant (t token.Label "B" (t token.Op "::" (t token.Label "Y" none))) (t token.Op "," (node
    kind.StaticCall (t token.Label "A" (t token.Op "::" (t token.Label "up" (t token.Op "(" (node kind.Args none (t
    token.Op ")" none)))))) (t token.Op "," (node kind.StaticCall (t token.Label "B" (t token.Op "::" (t token.Label
    "up" (t token.Op "(" (node kind.Args none (t token.Op ")" none)))))) (t token.Op "," (node kind.StaticProp (t
    token.Label "A" (t token.Op "::" (t token.Variable "$n" none))) (t token.Op "," (node kind.StaticProp (t
    token.Label "B" (t token.Op "::" (t token.Variable "$n" none))) (t token.Op "," (node kind.ClassConstant (t
    token.Label "A" (t token.Op "::" (t token.Keyword "class" none))) (t token.Op "," (node kind.Ternary (node
    kind.InstanceOf (node kind.Paren (t token.Op "(" (node kind.New (t token.Keyword "new" (t token.Label "B" none))
    (t token.Op ")" none))) (t token.Keyword "instanceof" (t token.Label "A" none))) (t token.Op "?" (node kind.Number
    (t token.Int "1" none) (t token.Op ":" (node kind.Number (t token.Int "0" none) none))))) (t token.Op "," (node
    kind.Ternary (node kind.InstanceOf (node kind.Number (t token.Int "5" none) (t token.Keyword "instanceof" (t
    token.Label "A" none))) (t token.Op "?" (node kind.Number (t token.Int "1" none) (t token.Op ":" (node kind.Number
    (t token.Int "0" none) none))))) (t token.Semi ";" none))))))))))))))))))) (node kind.Try (t token.Keyword "try"
    (node kind.Block (t token.Op "{" (node kind.Echo (t token.Keyword "echo" (node kind.ClassConstant (t token.Label
    "A" (t token.Op "::" (t token.Label "NO" none))) (t token.Semi ";" none))) (t token.Op "}" none))) (t
    token.Keyword "catch" (t token.Op "(" (t token.Label "Error" (t token.Variable "$e" (t token.Op ")" (node
    kind.Block (t token.Op "{" (node kind.Echo (t token.Keyword "echo" (node kind.Text (t token.Text "\"E\"" none) (t
    token.Semi ";" none))) (t token.Op "}" none))) none)))))))) none))))

mixed_class_constants : Comes 200 (file mixed_class_constants_tree) (file mixed_class_constants_tree) (codes "a.php")
    ((codes "1y1y121y!!1y!!A10E"), ended)
    ((codes "1y1y121y!!1y!!A10E"), ended)
unfolding builtin_rows named_constants word_constants is_same_name newer_functions newer_classes newer_constants beyond_functions beyond_classes beyond_constants
mixed_class_constants = (refl, refl)

-- <?php class A { function f() { static $n = 0; $n++; echo $n; } } class B extends A {} (new A)->f(); (new B)->f();
abbrev mixed_statics_of_a_child_tree : Forest
mixed_statics_of_a_child_tree =
    (node kind.Class (t token.Keyword "class" (t token.Label "A" (t token.Op "{" (node kind.Method (t token.Keyword
    "function" (t token.Label "f" (t token.Op "(" (t token.Op ")" (node kind.Block (t token.Op "{" (node kind.Statics
    (t token.Keyword "static" (t token.Variable "$n" (t token.Op "=" (node kind.Number (t token.Int "0" none) (t
    token.Semi ";" none))))) (node kind.ExprStmt (node kind.Postfix (node kind.Variable (t token.Variable "$n" none)
    (t token.Op "++" none)) (t token.Semi ";" none)) (node kind.Echo (t token.Keyword "echo" (node kind.Variable (t
    token.Variable "$n" none) (t token.Semi ";" none))) (t token.Op "}" none))))) none))))) (t token.Op "}" none)))))
    (node kind.Class (t token.Keyword "class" (t token.Label "B" (t token.Keyword "extends" (t token.Label "A" (t
    token.Op "{" (t token.Op "}" none)))))) (node kind.ExprStmt (node kind.MethodCall (node kind.Paren (t token.Op "("
    (node kind.New (t token.Keyword "new" (t token.Label "A" none)) (t token.Op ")" none))) (t token.Op "->" (t
    token.Label "f" (t token.Op "(" (node kind.Args none (t token.Op ")" none)))))) (t token.Semi ";" none)) (node
    kind.ExprStmt (node kind.MethodCall (node kind.Paren (t token.Op "(" (node kind.New (t token.Keyword "new" (t
    token.Label "B" none)) (t token.Op ")" none))) (t token.Op "->" (t token.Label "f" (t token.Op "(" (node kind.Args
    none (t token.Op ")" none)))))) (t token.Semi ";" none)) none))))

mixed_statics_of_a_child : Comes 200 (file mixed_statics_of_a_child_tree) (file mixed_statics_of_a_child_tree) (codes "a.php")
    ((codes "11"), ended)
    ((codes "12"), ended)
unfolding builtin_rows named_constants word_constants is_same_name newer_functions newer_classes newer_constants beyond_functions beyond_classes beyond_constants
mixed_statics_of_a_child = (refl, refl)
