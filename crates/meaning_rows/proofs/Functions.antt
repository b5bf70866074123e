-- Rows of whole programs: functions and variables. The 8.3 side is what PHP 8.2 echoes, where it has a meaning here.
use Rattle.std.proofs.Common.{refl, codes}
use Rattle.php_tree.specs.declared.token.TokenKind.TheVariants as token
use Rattle.php_tree.specs.declared.kind.NodeKind.TheVariants as kind
use Rattle.php_tree.specs.Tree.{Forest, none, node}
use Rattle.builtin_tables.specs.Beyond.{beyond_functions, beyond_classes, beyond_constants}
use Rattle.builtin_tables.specs.Builtins.{builtin_rows}
use Rattle.builtin_tables.specs.Constants.{named_constants, word_constants}
use Rattle.builtin_tables.specs.Named.{is_same_name}
use Rattle.builtin_tables.specs.Newer.{newer_functions, newer_classes, newer_constants}
use Rattle.php_meaning.specs.Cause.{Conversion}
use Rattle.meaning_rows.specs.Words.{t, b, file, ended, outside, Comes}

-- <?php function f($a, $b = 2, $c = [1, 'k' => 'v']) { return $a . $b . count($c); } echo f(1), f(1, 'x'), f(1, 'x', []);
abbrev defaults_tree : Forest
defaults_tree =
    (node kind.Function (t token.Keyword "function" (t token.Label "f" (t token.Op "(" (node kind.Param (t
    token.Variable "$a" none) (t token.Op "," (node kind.Param (t token.Variable "$b" (t token.Op "=" (node
    kind.Number (t token.Int "2" none) none))) (t token.Op "," (node kind.Param (t token.Variable "$c" (t token.Op "="
    (node kind.Array (t token.Op "[" (node kind.Item (node kind.Number (t token.Int "1" none) none) (t token.Op ","
    (node kind.Item (node kind.Text (t token.Text "'k'" none) (t token.Op "=>" (node kind.Text (t token.Text "'v'"
    none) none))) (t token.Op "]" none))))) none))) (t token.Op ")" (node kind.Block (t token.Op "{" (node kind.Return
    (t token.Keyword "return" (node kind.Binary (node kind.Binary (node kind.Variable (t token.Variable "$a" none) (t
    token.Op "." (node kind.Variable (t token.Variable "$b" none) none))) (t token.Op "." (node kind.Call (t
    token.Label "count" (t token.Op "(" (node kind.Args (node kind.Variable (t token.Variable "$c" none) none) (t
    token.Op ")" none)))) none))) (t token.Semi ";" none))) (t token.Op "}" none))) none)))))))))) (node kind.Echo (t
    token.Keyword "echo" (node kind.Call (t token.Label "f" (t token.Op "(" (node kind.Args (node kind.Number (t
    token.Int "1" none) none) (t token.Op ")" none)))) (t token.Op "," (node kind.Call (t token.Label "f" (t token.Op
    "(" (node kind.Args (node kind.Number (t token.Int "1" none) (t token.Op "," (node kind.Text (t token.Text "'x'"
    none) none))) (t token.Op ")" none)))) (t token.Op "," (node kind.Call (t token.Label "f" (t token.Op "(" (node
    kind.Args (node kind.Number (t token.Int "1" none) (t token.Op "," (node kind.Text (t token.Text "'x'" none) (t
    token.Op "," (node kind.Array (t token.Op "[" (t token.Op "]" none)) none))))) (t token.Op ")" none)))) (t
    token.Semi ";" none))))))) none))

defaults : Comes 200 (file defaults_tree) (file defaults_tree) (codes "a.php")
    ((codes "1221x21x0"), ended)
    ((codes "1221x21x0"), ended)
unfolding builtin_rows named_constants word_constants is_same_name newer_functions newer_classes newer_constants beyond_functions beyond_classes beyond_constants
defaults = (refl, refl)

-- <?php function inc(&$n) { $n++; } $x = 1; inc($x); inc($x); echo $x; function fill(&$a) { $a['k'][] = 1; } fill($nope['z']); echo count($nope['z']['k']);
abbrev by_reference_tree : Forest
by_reference_tree =
    (node kind.Function (t token.Keyword "function" (t token.Label "inc" (t token.Op "(" (node kind.Param (t token.Op
    "&" (t token.Variable "$n" none)) (t token.Op ")" (node kind.Block (t token.Op "{" (node kind.ExprStmt (node
    kind.Postfix (node kind.Variable (t token.Variable "$n" none) (t token.Op "++" none)) (t token.Semi ";" none)) (t
    token.Op "}" none))) none)))))) (node kind.ExprStmt (node kind.Assign (node kind.Variable (t token.Variable "$x"
    none) (t token.Op "=" (node kind.Number (t token.Int "1" none) none))) (t token.Semi ";" none)) (node
    kind.ExprStmt (node kind.Call (t token.Label "inc" (t token.Op "(" (node kind.Args (node kind.Variable (t
    token.Variable "$x" none) none) (t token.Op ")" none)))) (t token.Semi ";" none)) (node kind.ExprStmt (node
    kind.Call (t token.Label "inc" (t token.Op "(" (node kind.Args (node kind.Variable (t token.Variable "$x" none)
    none) (t token.Op ")" none)))) (t token.Semi ";" none)) (node kind.Echo (t token.Keyword "echo" (node
    kind.Variable (t token.Variable "$x" none) (t token.Semi ";" none))) (node kind.Function (t token.Keyword
    "function" (t token.Label "fill" (t token.Op "(" (node kind.Param (t token.Op "&" (t token.Variable "$a" none)) (t
    token.Op ")" (node kind.Block (t token.Op "{" (node kind.ExprStmt (node kind.Assign (node kind.Offset (node
    kind.Offset (node kind.Variable (t token.Variable "$a" none) (t token.Op "[" (node kind.Text (t token.Text "'k'"
    none) (t token.Op "]" none)))) (t token.Op "[" (t token.Op "]" none))) (t token.Op "=" (node kind.Number (t
    token.Int "1" none) none))) (t token.Semi ";" none)) (t token.Op "}" none))) none)))))) (node kind.ExprStmt (node
    kind.Call (t token.Label "fill" (t token.Op "(" (node kind.Args (node kind.Offset (node kind.Variable (t
    token.Variable "$nope" none) (t token.Op "[" (node kind.Text (t token.Text "'z'" none) (t token.Op "]" none))))
    none) (t token.Op ")" none)))) (t token.Semi ";" none)) (node kind.Echo (t token.Keyword "echo" (node kind.Call (t
    token.Label "count" (t token.Op "(" (node kind.Args (node kind.Offset (node kind.Offset (node kind.Variable (t
    token.Variable "$nope" none) (t token.Op "[" (node kind.Text (t token.Text "'z'" none) (t token.Op "]" none)))) (t
    token.Op "[" (node kind.Text (t token.Text "'k'" none) (t token.Op "]" none)))) none) (t token.Op ")" none)))) (t
    token.Semi ";" none))) none))))))))

by_reference : Comes 200 (file by_reference_tree) (file by_reference_tree) (codes "a.php")
    ((codes "31"), ended)
    ((codes "31"), ended)
unfolding builtin_rows named_constants word_constants is_same_name newer_functions newer_classes newer_constants beyond_functions beyond_classes beyond_constants
by_reference = (refl, refl)

-- <?php function f() { global $g; $g = "x"; } $g = 0; $h = 0; f(); echo $g == 0, $h == 0;
abbrev globals_tree : Forest
globals_tree =
    (node kind.Function (t token.Keyword "function" (t token.Label "f" (t token.Op "(" (t token.Op ")" (node
    kind.Block (t token.Op "{" (node kind.Global (t token.Keyword "global" (node kind.Variable (t token.Variable "$g"
    none) (t token.Semi ";" none))) (node kind.ExprStmt (node kind.Assign (node kind.Variable (t token.Variable "$g"
    none) (t token.Op "=" (node kind.Text (t token.Text "\"x\"" none) none))) (t token.Semi ";" none)) (t token.Op "}"
    none)))) none))))) (node kind.ExprStmt (node kind.Assign (node kind.Variable (t token.Variable "$g" none) (t
    token.Op "=" (node kind.Number (t token.Int "0" none) none))) (t token.Semi ";" none)) (node kind.ExprStmt (node
    kind.Assign (node kind.Variable (t token.Variable "$h" none) (t token.Op "=" (node kind.Number (t token.Int "0"
    none) none))) (t token.Semi ";" none)) (node kind.ExprStmt (node kind.Call (t token.Label "f" (t token.Op "("
    (node kind.Args none (t token.Op ")" none)))) (t token.Semi ";" none)) (node kind.Echo (t token.Keyword "echo"
    (node kind.Binary (node kind.Variable (t token.Variable "$g" none) (t token.Op "==" (node kind.Number (t token.Int
    "0" none) none))) (t token.Op "," (node kind.Binary (node kind.Variable (t token.Variable "$h" none) (t token.Op
    "==" (node kind.Number (t token.Int "0" none) none))) (t token.Semi ";" none))))) none)))))

globals : Comes 200 (file globals_tree) (file globals_tree) (codes "a.php")
    ((codes "11"), ended)
    ((codes "1"), ended)
unfolding builtin_rows named_constants word_constants is_same_name newer_functions newer_classes newer_constants beyond_functions beyond_classes beyond_constants
globals = (refl, refl)

-- <?php function f() { global $g; $g = "x"; } $g = 0; $h = 0; f(); echo $g == 0, $h == 0;
-- rewritten:
-- <?php function f() { global $g; $g = "x"; } $g = 0; $h = 0; f(); echo (int)$g == 0, $h == 0;
abbrev globals_rewritten_tree : Forest
globals_rewritten_tree =
    (node kind.Function (t token.Keyword "function" (t token.Label "f" (t token.Op "(" (t token.Op ")" (node
    kind.Block (t token.Op "{" (node kind.Global (t token.Keyword "global" (node kind.Variable (t token.Variable "$g"
    none) (t token.Semi ";" none))) (node kind.ExprStmt (node kind.Assign (node kind.Variable (t token.Variable "$g"
    none) (t token.Op "=" (node kind.Text (t token.Text "\"x\"" none) none))) (t token.Semi ";" none)) (t token.Op "}"
    none)))) none))))) (node kind.ExprStmt (node kind.Assign (node kind.Variable (t token.Variable "$g" none) (t
    token.Op "=" (node kind.Number (t token.Int "0" none) none))) (t token.Semi ";" none)) (node kind.ExprStmt (node
    kind.Assign (node kind.Variable (t token.Variable "$h" none) (t token.Op "=" (node kind.Number (t token.Int "0"
    none) none))) (t token.Semi ";" none)) (node kind.ExprStmt (node kind.Call (t token.Label "f" (t token.Op "("
    (node kind.Args none (t token.Op ")" none)))) (t token.Semi ";" none)) (node kind.Echo (t token.Keyword "echo"
    (node kind.Binary (node kind.Variable (t token.Variable "$g" none) (t token.Op "==" (node kind.Number (t token.Int
    "0" none) none))) (t token.Op "," (node kind.Binary (node kind.Variable (t token.Variable "$h" none) (t token.Op
    "==" (node kind.Number (t token.Int "0" none) none))) (t token.Semi ";" none))))) none)))))

abbrev globals_rewritten_new_tree : Forest
globals_rewritten_new_tree =
    (node kind.Function (t token.Keyword "function" (t token.Label "f" (t token.Op "(" (t token.Op ")" (node
    kind.Block (t token.Op "{" (node kind.Global (t token.Keyword "global" (node kind.Variable (t token.Variable "$g"
    none) (t token.Semi ";" none))) (node kind.ExprStmt (node kind.Assign (node kind.Variable (t token.Variable "$g"
    none) (t token.Op "=" (node kind.Text (t token.Text "\"x\"" none) none))) (t token.Semi ";" none)) (t token.Op "}"
    none)))) none))))) (node kind.ExprStmt (node kind.Assign (node kind.Variable (t token.Variable "$g" none) (t
    token.Op "=" (node kind.Number (t token.Int "0" none) none))) (t token.Semi ";" none)) (node kind.ExprStmt (node
    kind.Assign (node kind.Variable (t token.Variable "$h" none) (t token.Op "=" (node kind.Number (t token.Int "0"
    none) none))) (t token.Semi ";" none)) (node kind.ExprStmt (node kind.Call (t token.Label "f" (t token.Op "("
    (node kind.Args none (t token.Op ")" none)))) (t token.Semi ";" none)) (node kind.Echo (t token.Keyword "echo"
    (node kind.Binary (node kind.Cast (t token.Cast "(int)" (node kind.Variable (t token.Variable "$g" none) none)) (t
    token.Op "==" (node kind.Number (t token.Int "0" none) none))) (t token.Op "," (node kind.Binary (node
    kind.Variable (t token.Variable "$h" none) (t token.Op "==" (node kind.Number (t token.Int "0" none) none))) (t
    token.Semi ";" none))))) none)))))

globals_rewritten : Comes 200 (file globals_rewritten_tree) (file globals_rewritten_new_tree) (codes "a.php")
    ((codes "11"), ended)
    ((codes "11"), ended)
unfolding builtin_rows named_constants word_constants is_same_name newer_functions newer_classes newer_constants beyond_functions beyond_classes beyond_constants
globals_rewritten = (refl, refl)

-- <?php function f() { static $n = 0; return ++$n; } f(); f(); echo f();
abbrev statics_tree : Forest
statics_tree =
    (node kind.Function (t token.Keyword "function" (t token.Label "f" (t token.Op "(" (t token.Op ")" (node
    kind.Block (t token.Op "{" (node kind.Statics (t token.Keyword "static" (t token.Variable "$n" (t token.Op "="
    (node kind.Number (t token.Int "0" none) (t token.Semi ";" none))))) (node kind.Return (t token.Keyword "return"
    (node kind.Prefix (t token.Op "++" (node kind.Variable (t token.Variable "$n" none) none)) (t token.Semi ";"
    none))) (t token.Op "}" none)))) none))))) (node kind.ExprStmt (node kind.Call (t token.Label "f" (t token.Op "("
    (node kind.Args none (t token.Op ")" none)))) (t token.Semi ";" none)) (node kind.ExprStmt (node kind.Call (t
    token.Label "f" (t token.Op "(" (node kind.Args none (t token.Op ")" none)))) (t token.Semi ";" none)) (node
    kind.Echo (t token.Keyword "echo" (node kind.Call (t token.Label "f" (t token.Op "(" (node kind.Args none (t
    token.Op ")" none)))) (t token.Semi ";" none))) none))))

statics : Comes 200 (file statics_tree) (file statics_tree) (codes "a.php")
    ((codes "3"), ended)
    ((codes "3"), ended)
unfolding builtin_rows named_constants word_constants is_same_name newer_functions newer_classes newer_constants beyond_functions beyond_classes beyond_constants
statics = (refl, refl)

-- <?php function fact($n) { return $n < 2 ? 1 : $n * fact($n - 1); } echo fact(10);
abbrev recursion_tree : Forest
recursion_tree =
    (node kind.Function (t token.Keyword "function" (t token.Label "fact" (t token.Op "(" (node kind.Param (t
    token.Variable "$n" none) (t token.Op ")" (node kind.Block (t token.Op "{" (node kind.Return (t token.Keyword
    "return" (node kind.Ternary (node kind.Binary (node kind.Variable (t token.Variable "$n" none) (t token.Op "<"
    (node kind.Number (t token.Int "2" none) none))) (t token.Op "?" (node kind.Number (t token.Int "1" none) (t
    token.Op ":" (node kind.Binary (node kind.Variable (t token.Variable "$n" none) (t token.Op "*" (node kind.Call (t
    token.Label "fact" (t token.Op "(" (node kind.Args (node kind.Binary (node kind.Variable (t token.Variable "$n"
    none) (t token.Op "-" (node kind.Number (t token.Int "1" none) none))) none) (t token.Op ")" none)))) none)))
    none))))) (t token.Semi ";" none))) (t token.Op "}" none))) none)))))) (node kind.Echo (t token.Keyword "echo"
    (node kind.Call (t token.Label "fact" (t token.Op "(" (node kind.Args (node kind.Number (t token.Int "10" none)
    none) (t token.Op ")" none)))) (t token.Semi ";" none))) none))

recursion : Comes 200 (file recursion_tree) (file recursion_tree) (codes "a.php")
    ((codes "3628800"), ended)
    ((codes "3628800"), ended)
unfolding builtin_rows named_constants word_constants is_same_name newer_functions newer_classes newer_constants beyond_functions beyond_classes beyond_constants
recursion = (refl, refl)

-- <?php function even($n) { return $n == 0 ? 'e' : odd($n - 1); } function odd($n) { return $n == 0 ? 'o' : even($n - 1); } echo even(4), odd(4);
abbrev mutual_recursion_tree : Forest
mutual_recursion_tree =
    (node kind.Function (t token.Keyword "function" (t token.Label "even" (t token.Op "(" (node kind.Param (t
    token.Variable "$n" none) (t token.Op ")" (node kind.Block (t token.Op "{" (node kind.Return (t token.Keyword
    "return" (node kind.Ternary (node kind.Binary (node kind.Variable (t token.Variable "$n" none) (t token.Op "=="
    (node kind.Number (t token.Int "0" none) none))) (t token.Op "?" (node kind.Text (t token.Text "'e'" none) (t
    token.Op ":" (node kind.Call (t token.Label "odd" (t token.Op "(" (node kind.Args (node kind.Binary (node
    kind.Variable (t token.Variable "$n" none) (t token.Op "-" (node kind.Number (t token.Int "1" none) none))) none)
    (t token.Op ")" none)))) none))))) (t token.Semi ";" none))) (t token.Op "}" none))) none)))))) (node
    kind.Function (t token.Keyword "function" (t token.Label "odd" (t token.Op "(" (node kind.Param (t token.Variable
    "$n" none) (t token.Op ")" (node kind.Block (t token.Op "{" (node kind.Return (t token.Keyword "return" (node
    kind.Ternary (node kind.Binary (node kind.Variable (t token.Variable "$n" none) (t token.Op "==" (node kind.Number
    (t token.Int "0" none) none))) (t token.Op "?" (node kind.Text (t token.Text "'o'" none) (t token.Op ":" (node
    kind.Call (t token.Label "even" (t token.Op "(" (node kind.Args (node kind.Binary (node kind.Variable (t
    token.Variable "$n" none) (t token.Op "-" (node kind.Number (t token.Int "1" none) none))) none) (t token.Op ")"
    none)))) none))))) (t token.Semi ";" none))) (t token.Op "}" none))) none)))))) (node kind.Echo (t token.Keyword
    "echo" (node kind.Call (t token.Label "even" (t token.Op "(" (node kind.Args (node kind.Number (t token.Int "4"
    none) none) (t token.Op ")" none)))) (t token.Op "," (node kind.Call (t token.Label "odd" (t token.Op "(" (node
    kind.Args (node kind.Number (t token.Int "4" none) none) (t token.Op ")" none)))) (t token.Semi ";" none)))))
    none)))

mutual_recursion : Comes 200 (file mutual_recursion_tree) (file mutual_recursion_tree) (codes "a.php")
    ((codes "eo"), ended)
    ((codes "eo"), ended)
unfolding builtin_rows named_constants word_constants is_same_name newer_functions newer_classes newer_constants beyond_functions beyond_classes beyond_constants
mutual_recursion = (refl, refl)

-- <?php function f($a, $b) { return 1; } try { f(1); } catch (ArgumentCountError $e) { echo 'A'; } echo f(1, 2, 3);
abbrev missing_argument_tree : Forest
missing_argument_tree =
    (node kind.Function (t token.Keyword "function" (t token.Label "f" (t token.Op "(" (node kind.Param (t
    token.Variable "$a" none) (t token.Op "," (node kind.Param (t token.Variable "$b" none) (t token.Op ")" (node
    kind.Block (t token.Op "{" (node kind.Return (t token.Keyword "return" (node kind.Number (t token.Int "1" none) (t
    token.Semi ";" none))) (t token.Op "}" none))) none)))))))) (node kind.Try (t token.Keyword "try" (node kind.Block
    (t token.Op "{" (node kind.ExprStmt (node kind.Call (t token.Label "f" (t token.Op "(" (node kind.Args (node
    kind.Number (t token.Int "1" none) none) (t token.Op ")" none)))) (t token.Semi ";" none)) (t token.Op "}" none)))
    (t token.Keyword "catch" (t token.Op "(" (t token.Label "ArgumentCountError" (t token.Variable "$e" (t token.Op
    ")" (node kind.Block (t token.Op "{" (node kind.Echo (t token.Keyword "echo" (node kind.Text (t token.Text "'A'"
    none) (t token.Semi ";" none))) (t token.Op "}" none))) none)))))))) (node kind.Echo (t token.Keyword "echo" (node
    kind.Call (t token.Label "f" (t token.Op "(" (node kind.Args (node kind.Number (t token.Int "1" none) (t token.Op
    "," (node kind.Number (t token.Int "2" none) (t token.Op "," (node kind.Number (t token.Int "3" none) none))))) (t
    token.Op ")" none)))) (t token.Semi ";" none))) none)))

missing_argument : Comes 200 (file missing_argument_tree) (file missing_argument_tree) (codes "a.php")
    ((codes "A1"), ended)
    ((codes "A1"), ended)
unfolding builtin_rows named_constants word_constants is_same_name newer_functions newer_classes newer_constants beyond_functions beyond_classes beyond_constants
missing_argument = (refl, refl)

-- <?php class P {} function f(int $i, string $s, ?array $a, bool $b = false): string { return $i . $s; } echo f(1,
--  'x', null), f(2, 'y', [], true); function g(?P $p = null): ?P { return $p; } echo is_null(g()) ? 'n' : 'o',
--  is_null(g(new P)) ? 'n' : 'o';
abbrev types_that_pass_tree : Forest
types_that_pass_tree =
    (node kind.Class (t token.Keyword "class" (t token.Label "P" (t token.Op "{" (t token.Op "}" none)))) (node
    kind.Function (t token.Keyword "function" (t token.Label "f" (t token.Op "(" (node kind.Param (node kind.TypeName
    (t token.Label "int" none) (t token.Variable "$i" none)) (t token.Op "," (node kind.Param (node kind.TypeName (t
    token.Label "string" none) (t token.Variable "$s" none)) (t token.Op "," (node kind.Param (node kind.TypeName (t
    token.Op "?" (t token.Keyword "array" none)) (t token.Variable "$a" none)) (t token.Op "," (node kind.Param (node
    kind.TypeName (t token.Label "bool" none) (t token.Variable "$b" (t token.Op "=" (node kind.Constant (t
    token.Label "false" none) none)))) (t token.Op ")" (t token.Op ":" (node kind.TypeName (t token.Label "string"
    none) (node kind.Block (t token.Op "{" (node kind.Return (t token.Keyword "return" (node kind.Binary (node
    kind.Variable (t token.Variable "$i" none) (t token.Op "." (node kind.Variable (t token.Variable "$s" none)
    none))) (t token.Semi ";" none))) (t token.Op "}" none))) none)))))))))))))) (node kind.Echo (t token.Keyword
    "echo" (node kind.Call (t token.Label "f" (t token.Op "(" (node kind.Args (node kind.Number (t token.Int "1" none)
    (t token.Op "," (node kind.Text (t token.Text "'x'" none) (t token.Op "," (node kind.Constant (t token.Label
    "null" none) none))))) (t token.Op ")" none)))) (t token.Op "," (node kind.Call (t token.Label "f" (t token.Op "("
    (node kind.Args (node kind.Number (t token.Int "2" none) (t token.Op "," (node kind.Text (t token.Text "'y'" none)
    (t token.Op "," (node kind.Array (t token.Op "[" (t token.Op "]" none)) (t token.Op "," (node kind.Constant (t
    token.Label "true" none) none))))))) (t token.Op ")" none)))) (t token.Semi ";" none))))) (node kind.Function (t
    token.Keyword "function" (t token.Label "g" (t token.Op "(" (node kind.Param (node kind.TypeName (t token.Op "?"
    (t token.Label "P" none)) (t token.Variable "$p" (t token.Op "=" (node kind.Constant (t token.Label "null" none)
    none)))) (t token.Op ")" (t token.Op ":" (node kind.TypeName (t token.Op "?" (t token.Label "P" none)) (node
    kind.Block (t token.Op "{" (node kind.Return (t token.Keyword "return" (node kind.Variable (t token.Variable "$p"
    none) (t token.Semi ";" none))) (t token.Op "}" none))) none)))))))) (node kind.Echo (t token.Keyword "echo" (node
    kind.Ternary (node kind.Call (t token.Label "is_null" (t token.Op "(" (node kind.Args (node kind.Call (t
    token.Label "g" (t token.Op "(" (node kind.Args none (t token.Op ")" none)))) none) (t token.Op ")" none)))) (t
    token.Op "?" (node kind.Text (t token.Text "'n'" none) (t token.Op ":" (node kind.Text (t token.Text "'o'" none)
    none))))) (t token.Op "," (node kind.Ternary (node kind.Call (t token.Label "is_null" (t token.Op "(" (node
    kind.Args (node kind.Call (t token.Label "g" (t token.Op "(" (node kind.Args (node kind.New (t token.Keyword "new"
    (t token.Label "P" none)) none) (t token.Op ")" none)))) none) (t token.Op ")" none)))) (t token.Op "?" (node
    kind.Text (t token.Text "'n'" none) (t token.Op ":" (node kind.Text (t token.Text "'o'" none) none))))) (t
    token.Semi ";" none))))) none)))))

types_that_pass : Comes 200 (file types_that_pass_tree) (file types_that_pass_tree) (codes "a.php")
    ((codes "1x2yno"), ended)
    ((codes "1x2yno"), ended)
unfolding builtin_rows named_constants word_constants is_same_name newer_functions newer_classes newer_constants beyond_functions beyond_classes beyond_constants
types_that_pass = (refl, refl)

-- <?php function f(int $i) { return $i; } echo 'a'; echo f('1');
abbrev type_that_refuses_tree : Forest
type_that_refuses_tree =
    (node kind.Function (t token.Keyword "function" (t token.Label "f" (t token.Op "(" (node kind.Param (node
    kind.TypeName (t token.Label "int" none) (t token.Variable "$i" none)) (t token.Op ")" (node kind.Block (t
    token.Op "{" (node kind.Return (t token.Keyword "return" (node kind.Variable (t token.Variable "$i" none) (t
    token.Semi ";" none))) (t token.Op "}" none))) none)))))) (node kind.Echo (t token.Keyword "echo" (node kind.Text
    (t token.Text "'a'" none) (t token.Semi ";" none))) (node kind.Echo (t token.Keyword "echo" (node kind.Call (t
    token.Label "f" (t token.Op "(" (node kind.Args (node kind.Text (t token.Text "'1'" none) none) (t token.Op ")"
    none)))) (t token.Semi ";" none))) none)))

type_that_refuses : Comes 200 (file type_that_refuses_tree) (file type_that_refuses_tree) (codes "a.php")
    ((codes "a"), outside Conversion)
    ((codes "a"), outside Conversion)
unfolding builtin_rows named_constants word_constants is_same_name newer_functions newer_classes newer_constants beyond_functions beyond_classes beyond_constants
type_that_refuses = (refl, refl)

-- <?php function Foo() { return 'foo'; } echo foo(), FOO();
abbrev case_of_functions_tree : Forest
case_of_functions_tree =
    (node kind.Function (t token.Keyword "function" (t token.Label "Foo" (t token.Op "(" (t token.Op ")" (node
    kind.Block (t token.Op "{" (node kind.Return (t token.Keyword "return" (node kind.Text (t token.Text "'foo'" none)
    (t token.Semi ";" none))) (t token.Op "}" none))) none))))) (node kind.Echo (t token.Keyword "echo" (node
    kind.Call (t token.Label "foo" (t token.Op "(" (node kind.Args none (t token.Op ")" none)))) (t token.Op "," (node
    kind.Call (t token.Label "FOO" (t token.Op "(" (node kind.Args none (t token.Op ")" none)))) (t token.Semi ";"
    none))))) none))

case_of_functions : Comes 200 (file case_of_functions_tree) (file case_of_functions_tree) (codes "a.php")
    ((codes "foofoo"), ended)
    ((codes "foofoo"), ended)
unfolding builtin_rows named_constants word_constants is_same_name newer_functions newer_classes newer_constants beyond_functions beyond_classes beyond_constants
case_of_functions = (refl, refl)

-- <?php if (true) { function g() { return 'one'; } } else { function g() { return 'two'; } } echo g();
abbrev conditional_function_tree : Forest
conditional_function_tree =
    (node kind.If (t token.Keyword "if" (t token.Op "(" (node kind.Constant (t token.Label "true" none) (t token.Op
    ")" (node kind.Block (t token.Op "{" (node kind.Function (t token.Keyword "function" (t token.Label "g" (t
    token.Op "(" (t token.Op ")" (node kind.Block (t token.Op "{" (node kind.Return (t token.Keyword "return" (node
    kind.Text (t token.Text "'one'" none) (t token.Semi ";" none))) (t token.Op "}" none))) none))))) (t token.Op "}"
    none))) (t token.Keyword "else" (node kind.Block (t token.Op "{" (node kind.Function (t token.Keyword "function"
    (t token.Label "g" (t token.Op "(" (t token.Op ")" (node kind.Block (t token.Op "{" (node kind.Return (t
    token.Keyword "return" (node kind.Text (t token.Text "'two'" none) (t token.Semi ";" none))) (t token.Op "}"
    none))) none))))) (t token.Op "}" none))) none))))))) (node kind.Echo (t token.Keyword "echo" (node kind.Call (t
    token.Label "g" (t token.Op "(" (node kind.Args none (t token.Op ")" none)))) (t token.Semi ";" none))) none))

conditional_function : Comes 200 (file conditional_function_tree) (file conditional_function_tree) (codes "a.php")
    ((codes "one"), ended)
    ((codes "one"), ended)
unfolding builtin_rows named_constants word_constants is_same_name newer_functions newer_classes newer_constants beyond_functions beyond_classes beyond_constants
conditional_function = (refl, refl)

-- <?php function f($x) { if ($x) { return 'r'; } } echo f(1), is_null(f(0)) ? 'n' : 'x'; function g() { foreach ([1,
--  2] as $v) { while (true) { return $v; } } } echo g();
abbrev returns_tree : Forest
returns_tree =
    (node kind.Function (t token.Keyword "function" (t token.Label "f" (t token.Op "(" (node kind.Param (t
    token.Variable "$x" none) (t token.Op ")" (node kind.Block (t token.Op "{" (node kind.If (t token.Keyword "if" (t
    token.Op "(" (node kind.Variable (t token.Variable "$x" none) (t token.Op ")" (node kind.Block (t token.Op "{"
    (node kind.Return (t token.Keyword "return" (node kind.Text (t token.Text "'r'" none) (t token.Semi ";" none))) (t
    token.Op "}" none))) none))))) (t token.Op "}" none))) none)))))) (node kind.Echo (t token.Keyword "echo" (node
    kind.Call (t token.Label "f" (t token.Op "(" (node kind.Args (node kind.Number (t token.Int "1" none) none) (t
    token.Op ")" none)))) (t token.Op "," (node kind.Ternary (node kind.Call (t token.Label "is_null" (t token.Op "("
    (node kind.Args (node kind.Call (t token.Label "f" (t token.Op "(" (node kind.Args (node kind.Number (t token.Int
    "0" none) none) (t token.Op ")" none)))) none) (t token.Op ")" none)))) (t token.Op "?" (node kind.Text (t
    token.Text "'n'" none) (t token.Op ":" (node kind.Text (t token.Text "'x'" none) none))))) (t token.Semi ";"
    none))))) (node kind.Function (t token.Keyword "function" (t token.Label "g" (t token.Op "(" (t token.Op ")" (node
    kind.Block (t token.Op "{" (node kind.Foreach (t token.Keyword "foreach" (t token.Op "(" (node kind.Array (t
    token.Op "[" (node kind.Item (node kind.Number (t token.Int "1" none) none) (t token.Op "," (node kind.Item (node
    kind.Number (t token.Int "2" none) none) (t token.Op "]" none))))) (t token.Keyword "as" (node kind.Variable (t
    token.Variable "$v" none) (t token.Op ")" (node kind.Block (t token.Op "{" (node kind.While (t token.Keyword
    "while" (t token.Op "(" (node kind.Constant (t token.Label "true" none) (t token.Op ")" (node kind.Block (t
    token.Op "{" (node kind.Return (t token.Keyword "return" (node kind.Variable (t token.Variable "$v" none) (t
    token.Semi ";" none))) (t token.Op "}" none))) none))))) (t token.Op "}" none))) none))))))) (t token.Op "}"
    none))) none))))) (node kind.Echo (t token.Keyword "echo" (node kind.Call (t token.Label "g" (t token.Op "(" (node
    kind.Args none (t token.Op ")" none)))) (t token.Semi ";" none))) none))))

returns : Comes 200 (file returns_tree) (file returns_tree) (codes "a.php")
    ((codes "rn1"), ended)
    ((codes "rn1"), ended)
unfolding builtin_rows named_constants word_constants is_same_name newer_functions newer_classes newer_constants beyond_functions beyond_classes beyond_constants
returns = (refl, refl)
