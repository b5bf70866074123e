-- Rows of whole programs: calls, exceptions and classes together. The 8.3 side is what PHP 8.2 echoes, where it has a meaning here.
use Rattle.std.proofs.Common.{refl, codes}
use Rattle.php_tree.specs.declared.token.TokenKind.TheVariants as token
use Rattle.php_tree.specs.declared.kind.NodeKind.TheVariants as kind
use Rattle.php_tree.specs.Tree.{Forest, none, node}
use Rattle.builtin_tables.specs.Beyond.{beyond_functions, beyond_classes, beyond_constants}
use Rattle.builtin_tables.specs.Builtins.{builtin_rows}
use Rattle.builtin_tables.specs.Constants.{named_constants, word_constants}
use Rattle.builtin_tables.specs.Named.{is_same_name}
use Rattle.builtin_tables.specs.Newer.{newer_functions, newer_classes, newer_constants}
use Rattle.php_meaning.specs.runs.World.{Threw}
use Rattle.meaning_rows.specs.Words.{t, b, file, ended, Comes}

-- <?php echo g(3), f(1, 2); function f($a, $b = 5, $c = 'z') { return $a . $b . $c; } function g($n) { if ($n == 0)
--  return 'e'; return $n . g($n - 1); } function h(&$r, $d = 5) { $r .= $d; } $q = 'a'; h($q); h($q, 'z'); echo $q;
--  function s() { static $n = 0, $m; $n++; return $n; } s(); s(); echo s();
abbrev mixed_functions_tree : Forest
mixed_functions_tree =
    (node kind.Echo (t token.Keyword "echo" (node kind.Call (t token.Label "g" (t token.Op "(" (node kind.Args (node
    kind.Number (t token.Int "3" none) none) (t token.Op ")" none)))) (t token.Op "," (node kind.Call (t token.Label
    "f" (t token.Op "(" (node kind.Args (node kind.Number (t token.Int "1" none) (t token.Op "," (node kind.Number (t
    token.Int "2" none) none))) (t token.Op ")" none)))) (t token.Semi ";" none))))) (node kind.Function (t
    token.Keyword "function" (t token.Label "f" (t token.Op "(" (node kind.Param (t token.Variable "$a" none) (t
    token.Op "," (node kind.Param (t token.Variable "$b" (t token.Op "=" (node kind.Number (t token.Int "5" none)
    none))) (t token.Op "," (node kind.Param (t token.Variable "$c" (t token.Op "=" (node kind.Text (t token.Text
    "'z'" none) none))) (t token.Op ")" (node kind.Block (t token.Op "{" (node kind.Return (t token.Keyword "return"
    (node kind.Binary (node kind.Binary (node kind.Variable (t token.Variable "$a" none) (t token.Op "." (node
    kind.Variable (t token.Variable "$b" none) none))) (t token.Op "." (node kind.Variable (t token.Variable "$c"
    none) none))) (t token.Semi ";" none))) (t token.Op "}" none))) none)))))))))) (node kind.Function (t
    token.Keyword "function" (t token.Label "g" (t token.Op "(" (node kind.Param (t token.Variable "$n" none) (t
    token.Op ")" (node kind.Block (t token.Op "{" (node kind.If (t token.Keyword "if" (t token.Op "(" (node
    kind.Binary (node kind.Variable (t token.Variable "$n" none) (t token.Op "==" (node kind.Number (t token.Int "0"
    none) none))) (t token.Op ")" (node kind.Return (t token.Keyword "return" (node kind.Text (t token.Text "'e'"
    none) (t token.Semi ";" none))) none))))) (node kind.Return (t token.Keyword "return" (node kind.Binary (node
    kind.Variable (t token.Variable "$n" none) (t token.Op "." (node kind.Call (t token.Label "g" (t token.Op "("
    (node kind.Args (node kind.Binary (node kind.Variable (t token.Variable "$n" none) (t token.Op "-" (node
    kind.Number (t token.Int "1" none) none))) none) (t token.Op ")" none)))) none))) (t token.Semi ";" none))) (t
    token.Op "}" none)))) none)))))) (node kind.Function (t token.Keyword "function" (t token.Label "h" (t token.Op
    "(" (node kind.Param (t token.Op "&" (t token.Variable "$r" none)) (t token.Op "," (node kind.Param (t
    token.Variable "$d" (t token.Op "=" (node kind.Number (t token.Int "5" none) none))) (t token.Op ")" (node
    kind.Block (t token.Op "{" (node kind.ExprStmt (node kind.CompoundAssign (node kind.Variable (t token.Variable
    "$r" none) (t token.Op ".=" (node kind.Variable (t token.Variable "$d" none) none))) (t token.Semi ";" none)) (t
    token.Op "}" none))) none)))))))) (node kind.ExprStmt (node kind.Assign (node kind.Variable (t token.Variable "$q"
    none) (t token.Op "=" (node kind.Text (t token.Text "'a'" none) none))) (t token.Semi ";" none)) (node
    kind.ExprStmt (node kind.Call (t token.Label "h" (t token.Op "(" (node kind.Args (node kind.Variable (t
    token.Variable "$q" none) none) (t token.Op ")" none)))) (t token.Semi ";" none)) (node kind.ExprStmt (node
    kind.Call (t token.Label "h" (t token.Op "(" (node kind.Args (node kind.Variable (t token.Variable "$q" none) (t
    token.Op "," (node kind.Text (t token.Text "'z'" none) none))) (t token.Op ")" none)))) (t token.Semi ";" none))
    (node kind.Echo (t token.Keyword "echo" (node kind.Variable (t token.Variable "$q" none) (t token.Semi ";" none)))
    (node kind.Function (t token.Keyword "function" (t token.Label "s" (t token.Op "(" (t token.Op ")" (node
    kind.Block (t token.Op "{" (node kind.Statics (t token.Keyword "static" (t token.Variable "$n" (t token.Op "="
    (node kind.Number (t token.Int "0" none) (t token.Op "," (t token.Variable "$m" (t token.Semi ";" none)))))))
    (node kind.ExprStmt (node kind.Postfix (node kind.Variable (t token.Variable "$n" none) (t token.Op "++" none)) (t
    token.Semi ";" none)) (node kind.Return (t token.Keyword "return" (node kind.Variable (t token.Variable "$n" none)
    (t token.Semi ";" none))) (t token.Op "}" none))))) none))))) (node kind.ExprStmt (node kind.Call (t token.Label
    "s" (t token.Op "(" (node kind.Args none (t token.Op ")" none)))) (t token.Semi ";" none)) (node kind.ExprStmt
    (node kind.Call (t token.Label "s" (t token.Op "(" (node kind.Args none (t token.Op ")" none)))) (t token.Semi ";"
    none)) (node kind.Echo (t token.Keyword "echo" (node kind.Call (t token.Label "s" (t token.Op "(" (node kind.Args
    none (t token.Op ")" none)))) (t token.Semi ";" none))) none))))))))))))

mixed_functions : Comes 200 (file mixed_functions_tree) (file mixed_functions_tree) (codes "a.php")
    ((codes "321e12za5z3"), ended)
    ((codes "321e12za5z3"), ended)
unfolding builtin_rows named_constants word_constants is_same_name newer_functions newer_classes newer_constants beyond_functions beyond_classes beyond_constants
mixed_functions = (refl, refl)

-- <?php if (true) { function late() { return "l"; } } echo late(); function outer() { function inner() { return "i"; } return "o"; } echo outer(), inner();
abbrev mixed_conditional_tree : Forest
mixed_conditional_tree =
    (node kind.If (t token.Keyword "if" (t token.Op "(" (node kind.Constant (t token.Label "true" none) (t token.Op
    ")" (node kind.Block (t token.Op "{" (node kind.Function (t token.Keyword "function" (t token.Label "late" (t
    token.Op "(" (t token.Op ")" (node kind.Block (t token.Op "{" (node kind.Return (t token.Keyword "return" (node
    kind.Text (t token.Text "\"l\"" none) (t token.Semi ";" none))) (t token.Op "}" none))) none))))) (t token.Op "}"
    none))) none))))) (node kind.Echo (t token.Keyword "echo" (node kind.Call (t token.Label "late" (t token.Op "("
    (node kind.Args none (t token.Op ")" none)))) (t token.Semi ";" none))) (node kind.Function (t token.Keyword
    "function" (t token.Label "outer" (t token.Op "(" (t token.Op ")" (node kind.Block (t token.Op "{" (node
    kind.Function (t token.Keyword "function" (t token.Label "inner" (t token.Op "(" (t token.Op ")" (node kind.Block
    (t token.Op "{" (node kind.Return (t token.Keyword "return" (node kind.Text (t token.Text "\"i\"" none) (t
    token.Semi ";" none))) (t token.Op "}" none))) none))))) (node kind.Return (t token.Keyword "return" (node
    kind.Text (t token.Text "\"o\"" none) (t token.Semi ";" none))) (t token.Op "}" none)))) none))))) (node kind.Echo
    (t token.Keyword "echo" (node kind.Call (t token.Label "outer" (t token.Op "(" (node kind.Args none (t token.Op
    ")" none)))) (t token.Op "," (node kind.Call (t token.Label "inner" (t token.Op "(" (node kind.Args none (t
    token.Op ")" none)))) (t token.Semi ";" none))))) none))))

mixed_conditional : Comes 200 (file mixed_conditional_tree) (file mixed_conditional_tree) (codes "a.php")
    ((codes "loi"), ended)
    ((codes "loi"), ended)
unfolding builtin_rows named_constants word_constants is_same_name newer_functions newer_classes newer_constants beyond_functions beyond_classes beyond_constants
mixed_conditional = (refl, refl)

-- <?php function h() { try { return "t"; } finally { echo "F"; } } echo h(); function h2() { foreach ([1, 2] as $x) {
--  try { continue; } finally { echo "c", $x; } } return "r"; } echo h2(); function h3() { try { return "t"; } finally
--  { return "f"; } } echo h3();
abbrev mixed_jumps_tree : Forest
mixed_jumps_tree =
    (node kind.Function (t token.Keyword "function" (t token.Label "h" (t token.Op "(" (t token.Op ")" (node
    kind.Block (t token.Op "{" (node kind.Try (t token.Keyword "try" (node kind.Block (t token.Op "{" (node
    kind.Return (t token.Keyword "return" (node kind.Text (t token.Text "\"t\"" none) (t token.Semi ";" none))) (t
    token.Op "}" none))) (t token.Keyword "finally" (node kind.Block (t token.Op "{" (node kind.Echo (t token.Keyword
    "echo" (node kind.Text (t token.Text "\"F\"" none) (t token.Semi ";" none))) (t token.Op "}" none))) none)))) (t
    token.Op "}" none))) none))))) (node kind.Echo (t token.Keyword "echo" (node kind.Call (t token.Label "h" (t
    token.Op "(" (node kind.Args none (t token.Op ")" none)))) (t token.Semi ";" none))) (node kind.Function (t
    token.Keyword "function" (t token.Label "h2" (t token.Op "(" (t token.Op ")" (node kind.Block (t token.Op "{"
    (node kind.Foreach (t token.Keyword "foreach" (t token.Op "(" (node kind.Array (t token.Op "[" (node kind.Item
    (node kind.Number (t token.Int "1" none) none) (t token.Op "," (node kind.Item (node kind.Number (t token.Int "2"
    none) none) (t token.Op "]" none))))) (t token.Keyword "as" (node kind.Variable (t token.Variable "$x" none) (t
    token.Op ")" (node kind.Block (t token.Op "{" (node kind.Try (t token.Keyword "try" (node kind.Block (t token.Op
    "{" (node kind.Continue (t token.Keyword "continue" (t token.Semi ";" none)) (t token.Op "}" none))) (t
    token.Keyword "finally" (node kind.Block (t token.Op "{" (node kind.Echo (t token.Keyword "echo" (node kind.Text
    (t token.Text "\"c\"" none) (t token.Op "," (node kind.Variable (t token.Variable "$x" none) (t token.Semi ";"
    none))))) (t token.Op "}" none))) none)))) (t token.Op "}" none))) none))))))) (node kind.Return (t token.Keyword
    "return" (node kind.Text (t token.Text "\"r\"" none) (t token.Semi ";" none))) (t token.Op "}" none)))) none)))))
    (node kind.Echo (t token.Keyword "echo" (node kind.Call (t token.Label "h2" (t token.Op "(" (node kind.Args none
    (t token.Op ")" none)))) (t token.Semi ";" none))) (node kind.Function (t token.Keyword "function" (t token.Label
    "h3" (t token.Op "(" (t token.Op ")" (node kind.Block (t token.Op "{" (node kind.Try (t token.Keyword "try" (node
    kind.Block (t token.Op "{" (node kind.Return (t token.Keyword "return" (node kind.Text (t token.Text "\"t\"" none)
    (t token.Semi ";" none))) (t token.Op "}" none))) (t token.Keyword "finally" (node kind.Block (t token.Op "{"
    (node kind.Return (t token.Keyword "return" (node kind.Text (t token.Text "\"f\"" none) (t token.Semi ";" none)))
    (t token.Op "}" none))) none)))) (t token.Op "}" none))) none))))) (node kind.Echo (t token.Keyword "echo" (node
    kind.Call (t token.Label "h3" (t token.Op "(" (node kind.Args none (t token.Op ")" none)))) (t token.Semi ";"
    none))) none))))))

mixed_jumps : Comes 200 (file mixed_jumps_tree) (file mixed_jumps_tree) (codes "a.php")
    ((codes "Ftc1c2rf"), ended)
    ((codes "Ftc1c2rf"), ended)
unfolding builtin_rows named_constants word_constants is_same_name newer_functions newer_classes newer_constants beyond_functions beyond_classes beyond_constants
mixed_jumps = (refl, refl)

-- <?php function thrower($n) { if ($n == 0) throw new RuntimeException("deep", 4); thrower($n - 1); echo "never"; }
--  try { try { thrower(2); } catch (LogicException $e) { echo "no"; } finally { echo "fin"; } } catch (LogicException
--  | RuntimeException $e) { echo $e->getMessage(), $e->getCode(); } try { echo 1 % 0; } catch (Error $e) { echo
--  "div"; } function two($a, $b) {} try { two(1); } catch (ArgumentCountError $e) { echo "args"; } throw new
--  Exception("x");
abbrev mixed_exceptions_tree : Forest
mixed_exceptions_tree =
    (node kind.Function (t token.Keyword "function" (t token.Label "thrower" (t token.Op "(" (node kind.Param (t
    token.Variable "$n" none) (t token.Op ")" (node kind.Block (t token.Op "{" (node kind.If (t token.Keyword "if" (t
    token.Op "(" (node kind.Binary (node kind.Variable (t token.Variable "$n" none) (t token.Op "==" (node kind.Number
    (t token.Int "0" none) none))) (t token.Op ")" (node kind.Throw (t token.Keyword "throw" (node kind.New (t
    token.Keyword "new" (t token.Label "RuntimeException" (t token.Op "(" (node kind.Args (node kind.Text (t
    token.Text "\"deep\"" none) (t token.Op "," (node kind.Number (t token.Int "4" none) none))) (t token.Op ")"
    none))))) (t token.Semi ";" none))) none))))) (node kind.ExprStmt (node kind.Call (t token.Label "thrower" (t
    token.Op "(" (node kind.Args (node kind.Binary (node kind.Variable (t token.Variable "$n" none) (t token.Op "-"
    (node kind.Number (t token.Int "1" none) none))) none) (t token.Op ")" none)))) (t token.Semi ";" none)) (node
    kind.Echo (t token.Keyword "echo" (node kind.Text (t token.Text "\"never\"" none) (t token.Semi ";" none))) (t
    token.Op "}" none))))) none)))))) (node kind.Try (t token.Keyword "try" (node kind.Block (t token.Op "{" (node
    kind.Try (t token.Keyword "try" (node kind.Block (t token.Op "{" (node kind.ExprStmt (node kind.Call (t
    token.Label "thrower" (t token.Op "(" (node kind.Args (node kind.Number (t token.Int "2" none) none) (t token.Op
    ")" none)))) (t token.Semi ";" none)) (t token.Op "}" none))) (t token.Keyword "catch" (t token.Op "(" (t
    token.Label "LogicException" (t token.Variable "$e" (t token.Op ")" (node kind.Block (t token.Op "{" (node
    kind.Echo (t token.Keyword "echo" (node kind.Text (t token.Text "\"no\"" none) (t token.Semi ";" none))) (t
    token.Op "}" none))) (t token.Keyword "finally" (node kind.Block (t token.Op "{" (node kind.Echo (t token.Keyword
    "echo" (node kind.Text (t token.Text "\"fin\"" none) (t token.Semi ";" none))) (t token.Op "}" none)))
    none)))))))))) (t token.Op "}" none))) (t token.Keyword "catch" (t token.Op "(" (t token.Label "LogicException" (t
    token.Op "|" (t token.Label "RuntimeException" (t token.Variable "$e" (t token.Op ")" (node kind.Block (t token.Op
    "{" (node kind.Echo (t token.Keyword "echo" (node kind.MethodCall (node kind.Variable (t token.Variable "$e" none)
    (t token.Op "->" (t token.Label "getMessage" (t token.Op "(" (node kind.Args none (t token.Op ")" none)))))) (t
    token.Op "," (node kind.MethodCall (node kind.Variable (t token.Variable "$e" none) (t token.Op "->" (t
    token.Label "getCode" (t token.Op "(" (node kind.Args none (t token.Op ")" none)))))) (t token.Semi ";" none)))))
    (t token.Op "}" none))) none)))))))))) (node kind.Try (t token.Keyword "try" (node kind.Block (t token.Op "{"
    (node kind.Echo (t token.Keyword "echo" (node kind.Binary (node kind.Number (t token.Int "1" none) (t token.Op "%"
    (node kind.Number (t token.Int "0" none) none))) (t token.Semi ";" none))) (t token.Op "}" none))) (t
    token.Keyword "catch" (t token.Op "(" (t token.Label "Error" (t token.Variable "$e" (t token.Op ")" (node
    kind.Block (t token.Op "{" (node kind.Echo (t token.Keyword "echo" (node kind.Text (t token.Text "\"div\"" none)
    (t token.Semi ";" none))) (t token.Op "}" none))) none)))))))) (node kind.Function (t token.Keyword "function" (t
    token.Label "two" (t token.Op "(" (node kind.Param (t token.Variable "$a" none) (t token.Op "," (node kind.Param
    (t token.Variable "$b" none) (t token.Op ")" (node kind.Block (t token.Op "{" (t token.Op "}" none)) none))))))))
    (node kind.Try (t token.Keyword "try" (node kind.Block (t token.Op "{" (node kind.ExprStmt (node kind.Call (t
    token.Label "two" (t token.Op "(" (node kind.Args (node kind.Number (t token.Int "1" none) none) (t token.Op ")"
    none)))) (t token.Semi ";" none)) (t token.Op "}" none))) (t token.Keyword "catch" (t token.Op "(" (t token.Label
    "ArgumentCountError" (t token.Variable "$e" (t token.Op ")" (node kind.Block (t token.Op "{" (node kind.Echo (t
    token.Keyword "echo" (node kind.Text (t token.Text "\"args\"" none) (t token.Semi ";" none))) (t token.Op "}"
    none))) none)))))))) (node kind.Throw (t token.Keyword "throw" (node kind.New (t token.Keyword "new" (t
    token.Label "Exception" (t token.Op "(" (node kind.Args (node kind.Text (t token.Text "\"x\"" none) none) (t
    token.Op ")" none))))) (t token.Semi ";" none))) none))))))

mixed_exceptions : Comes 200 (file mixed_exceptions_tree) (file mixed_exceptions_tree) (codes "a.php")
    ((codes "findeep4divargs"), Threw (codes "Exception"))
    ((codes "findeep4divargs"), Threw (codes "Exception"))
unfolding builtin_rows named_constants word_constants is_same_name newer_functions newer_classes newer_constants beyond_functions beyond_classes beyond_constants
mixed_exceptions = (refl, refl)

-- <?php class A { public $p = 1; private $s = "sec"; protected $q = [1, 2]; function __construct($p) { $this->p = $p;
--  } function get() { return $this->s . count($this->q); } private function hid() { return "h"; } function call() {
--  return $this->hid(); } static function make($x) { return new self($x); } } class B extends A { private $s = "b";
--  function get() { return "B" . parent::get() . $this->s; } } $a = new A(5); $b = new B(6); echo $a->p, $a->get(),
--  $b->get(), $b->call(); try { $a->hid(); } catch (Error $e) { echo "E"; } try { echo $a->s; } catch (Error $e) {
--  echo "P"; } $c = A::make(8); $c->d = 3; $c->d++; $e = $c; $e->d++; echo $c->d, $c->p; $c->l["x"][] = 4; echo
--  count($c->l["x"]);
abbrev mixed_classes_tree : Forest
mixed_classes_tree =
    (node kind.Class (t token.Keyword "class" (t token.Label "A" (t token.Op "{" (node kind.Property (t token.Keyword
    "public" (t token.Variable "$p" (t token.Op "=" (node kind.Number (t token.Int "1" none) (t token.Semi ";"
    none))))) (node kind.Property (t token.Keyword "private" (t token.Variable "$s" (t token.Op "=" (node kind.Text (t
    token.Text "\"sec\"" none) (t token.Semi ";" none))))) (node kind.Property (t token.Keyword "protected" (t
    token.Variable "$q" (t token.Op "=" (node kind.Array (t token.Op "[" (node kind.Item (node kind.Number (t
    token.Int "1" none) none) (t token.Op "," (node kind.Item (node kind.Number (t token.Int "2" none) none) (t
    token.Op "]" none))))) (t token.Semi ";" none))))) (node kind.Method (t token.Keyword "function" (t token.Label
    "__construct" (t token.Op "(" (node kind.Param (t token.Variable "$p" none) (t token.Op ")" (node kind.Block (t
    token.Op "{" (node kind.ExprStmt (node kind.Assign (node kind.Prop (node kind.Variable (t token.Variable "$this"
    none) (t token.Op "->" (t token.Label "p" none))) (t token.Op "=" (node kind.Variable (t token.Variable "$p" none)
    none))) (t token.Semi ";" none)) (t token.Op "}" none))) none)))))) (node kind.Method (t token.Keyword "function"
    (t token.Label "get" (t token.Op "(" (t token.Op ")" (node kind.Block (t token.Op "{" (node kind.Return (t
    token.Keyword "return" (node kind.Binary (node kind.Prop (node kind.Variable (t token.Variable "$this" none) (t
    token.Op "->" (t token.Label "s" none))) (t token.Op "." (node kind.Call (t token.Label "count" (t token.Op "("
    (node kind.Args (node kind.Prop (node kind.Variable (t token.Variable "$this" none) (t token.Op "->" (t
    token.Label "q" none))) none) (t token.Op ")" none)))) none))) (t token.Semi ";" none))) (t token.Op "}" none)))
    none))))) (node kind.Method (t token.Keyword "private" (t token.Keyword "function" (t token.Label "hid" (t
    token.Op "(" (t token.Op ")" (node kind.Block (t token.Op "{" (node kind.Return (t token.Keyword "return" (node
    kind.Text (t token.Text "\"h\"" none) (t token.Semi ";" none))) (t token.Op "}" none))) none)))))) (node
    kind.Method (t token.Keyword "function" (t token.Label "call" (t token.Op "(" (t token.Op ")" (node kind.Block (t
    token.Op "{" (node kind.Return (t token.Keyword "return" (node kind.MethodCall (node kind.Variable (t
    token.Variable "$this" none) (t token.Op "->" (t token.Label "hid" (t token.Op "(" (node kind.Args none (t
    token.Op ")" none)))))) (t token.Semi ";" none))) (t token.Op "}" none))) none))))) (node kind.Method (t
    token.Keyword "static" (t token.Keyword "function" (t token.Label "make" (t token.Op "(" (node kind.Param (t
    token.Variable "$x" none) (t token.Op ")" (node kind.Block (t token.Op "{" (node kind.Return (t token.Keyword
    "return" (node kind.New (t token.Keyword "new" (t token.Label "self" (t token.Op "(" (node kind.Args (node
    kind.Variable (t token.Variable "$x" none) none) (t token.Op ")" none))))) (t token.Semi ";" none))) (t token.Op
    "}" none))) none))))))) (t token.Op "}" none)))))))))))) (node kind.Class (t token.Keyword "class" (t token.Label
    "B" (t token.Keyword "extends" (t token.Label "A" (t token.Op "{" (node kind.Property (t token.Keyword "private"
    (t token.Variable "$s" (t token.Op "=" (node kind.Text (t token.Text "\"b\"" none) (t token.Semi ";" none)))))
    (node kind.Method (t token.Keyword "function" (t token.Label "get" (t token.Op "(" (t token.Op ")" (node
    kind.Block (t token.Op "{" (node kind.Return (t token.Keyword "return" (node kind.Binary (node kind.Binary (node
    kind.Text (t token.Text "\"B\"" none) (t token.Op "." (node kind.StaticCall (t token.Label "parent" (t token.Op
    "::" (t token.Label "get" (t token.Op "(" (node kind.Args none (t token.Op ")" none)))))) none))) (t token.Op "."
    (node kind.Prop (node kind.Variable (t token.Variable "$this" none) (t token.Op "->" (t token.Label "s" none)))
    none))) (t token.Semi ";" none))) (t token.Op "}" none))) none))))) (t token.Op "}" none)))))))) (node
    kind.ExprStmt (node kind.Assign (node kind.Variable (t token.Variable "$a" none) (t token.Op "=" (node kind.New (t
    token.Keyword "new" (t token.Label "A" (t token.Op "(" (node kind.Args (node kind.Number (t token.Int "5" none)
    none) (t token.Op ")" none))))) none))) (t token.Semi ";" none)) (node kind.ExprStmt (node kind.Assign (node
    kind.Variable (t token.Variable "$b" none) (t token.Op "=" (node kind.New (t token.Keyword "new" (t token.Label
    "B" (t token.Op "(" (node kind.Args (node kind.Number (t token.Int "6" none) none) (t token.Op ")" none)))))
    none))) (t token.Semi ";" none)) (node kind.Echo (t token.Keyword "echo" (node kind.Prop (node kind.Variable (t
    token.Variable "$a" none) (t token.Op "->" (t token.Label "p" none))) (t token.Op "," (node kind.MethodCall (node
    kind.Variable (t token.Variable "$a" none) (t token.Op "->" (t token.Label "get" (t token.Op "(" (node kind.Args
    none (t token.Op ")" none)))))) (t token.Op "," (node kind.MethodCall (node kind.Variable (t token.Variable "$b"
    none) (t token.Op "->" (t token.Label "get" (t token.Op "(" (node kind.Args none (t token.Op ")" none)))))) (t
    token.Op "," (node kind.MethodCall (node kind.Variable (t token.Variable "$b" none) (t token.Op "->" (t
    token.Label "call" (t token.Op "(" (node kind.Args none (t token.Op ")" none)))))) (t token.Semi ";" none)))))))))
    (node kind.Try (t token.Keyword "try" (node kind.Block (t token.Op "{" (node kind.ExprStmt (node kind.MethodCall
    (node kind.Variable (t token.Variable "$a" none) (t token.Op "->" (t token.Label "hid" (t token.Op "(" (node
    kind.Args none (t token.Op ")" none)))))) (t token.Semi ";" none)) (t token.Op "}" none))) (t token.Keyword
    "catch" (t token.Op "(" (t token.Label "Error" (t token.Variable "$e" (t token.Op ")" (node kind.Block (t token.Op
    "{" (node kind.Echo (t token.Keyword "echo" (node kind.Text (t token.Text "\"E\"" none) (t token.Semi ";" none)))
    (t token.Op "}" none))) none)))))))) (node kind.Try (t token.Keyword "try" (node kind.Block (t token.Op "{" (node
    kind.Echo (t token.Keyword "echo" (node kind.Prop (node kind.Variable (t token.Variable "$a" none) (t token.Op
    "->" (t token.Label "s" none))) (t token.Semi ";" none))) (t token.Op "}" none))) (t token.Keyword "catch" (t
    token.Op "(" (t token.Label "Error" (t token.Variable "$e" (t token.Op ")" (node kind.Block (t token.Op "{" (node
    kind.Echo (t token.Keyword "echo" (node kind.Text (t token.Text "\"P\"" none) (t token.Semi ";" none))) (t
    token.Op "}" none))) none)))))))) (node kind.ExprStmt (node kind.Assign (node kind.Variable (t token.Variable "$c"
    none) (t token.Op "=" (node kind.StaticCall (t token.Label "A" (t token.Op "::" (t token.Label "make" (t token.Op
    "(" (node kind.Args (node kind.Number (t token.Int "8" none) none) (t token.Op ")" none)))))) none))) (t
    token.Semi ";" none)) (node kind.ExprStmt (node kind.Assign (node kind.Prop (node kind.Variable (t token.Variable
    "$c" none) (t token.Op "->" (t token.Label "d" none))) (t token.Op "=" (node kind.Number (t token.Int "3" none)
    none))) (t token.Semi ";" none)) (node kind.ExprStmt (node kind.Postfix (node kind.Prop (node kind.Variable (t
    token.Variable "$c" none) (t token.Op "->" (t token.Label "d" none))) (t token.Op "++" none)) (t token.Semi ";"
    none)) (node kind.ExprStmt (node kind.Assign (node kind.Variable (t token.Variable "$e" none) (t token.Op "="
    (node kind.Variable (t token.Variable "$c" none) none))) (t token.Semi ";" none)) (node kind.ExprStmt (node
    kind.Postfix (node kind.Prop (node kind.Variable (t token.Variable "$e" none) (t token.Op "->" (t token.Label "d"
    none))) (t token.Op "++" none)) (t token.Semi ";" none)) (node kind.Echo (t token.Keyword "echo" (node kind.Prop
    (node kind.Variable (t token.Variable "$c" none) (t token.Op "->" (t token.Label "d" none))) (t token.Op "," (node
    kind.Prop (node kind.Variable (t token.Variable "$c" none) (t token.Op "->" (t token.Label "p" none))) (t
    token.Semi ";" none))))) (node kind.ExprStmt (node kind.Assign (node kind.Offset (node kind.Offset (node kind.Prop
    (node kind.Variable (t token.Variable "$c" none) (t token.Op "->" (t token.Label "l" none))) (t token.Op "[" (node
    kind.Text (t token.Text "\"x\"" none) (t token.Op "]" none)))) (t token.Op "[" (t token.Op "]" none))) (t token.Op
    "=" (node kind.Number (t token.Int "4" none) none))) (t token.Semi ";" none)) (node kind.Echo (t token.Keyword
    "echo" (node kind.Call (t token.Label "count" (t token.Op "(" (node kind.Args (node kind.Offset (node kind.Prop
    (node kind.Variable (t token.Variable "$c" none) (t token.Op "->" (t token.Label "l" none))) (t token.Op "[" (node
    kind.Text (t token.Text "\"x\"" none) (t token.Op "]" none)))) none) (t token.Op ")" none)))) (t token.Semi ";"
    none))) none)))))))))))))))

mixed_classes : Comes 200 (file mixed_classes_tree) (file mixed_classes_tree) (codes "a.php")
    ((codes "5sec2Bsec2bhEP581"), ended)
    ((codes "5sec2Bsec2bhEP581"), ended)
unfolding builtin_rows named_constants word_constants is_same_name newer_functions newer_classes newer_constants beyond_functions beyond_classes beyond_constants
mixed_classes = (refl, refl)
