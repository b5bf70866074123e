-- Rows of whole programs: classes, references and loops together. The 8.3 side is what PHP 8.2 echoes.
use Rattle.std.proofs.Common.{refl, codes}
use Rattle.php_tree.specs.declared.token.TokenKind.TheVariants as token
use Rattle.php_tree.specs.declared.kind.NodeKind.TheVariants as kind
use Rattle.php_tree.specs.Tree.{Forest, none, node}
use Rattle.builtin_tables.specs.Beyond.{beyond_functions, beyond_classes, beyond_constants}
use Rattle.builtin_tables.specs.Builtins.{builtin_rows}
use Rattle.builtin_tables.specs.Constants.{named_constants, word_constants}
use Rattle.builtin_tables.specs.Named.{is_same_name}
use Rattle.builtin_tables.specs.Newer.{newer_functions, newer_classes, newer_constants}
use Rattle.meaning_rows.specs.Words.{t, file, ended, Comes}

-- <?php class A { public $n = 1; function f() { return $this->n; } } class B extends A { public $n = 2; function
--  g() { return A::f(); } } echo (new B)->g();
abbrev parent_method_in_the_object_tree : Forest
parent_method_in_the_object_tree =
    (node kind.Class (t token.Keyword "class" (t token.Label "A" (t token.Op "{" (node kind.Property (t
    token.Keyword "public" (t token.Variable "$n" (t token.Op "=" (node kind.Number (t token.Int "1" none) (t
    token.Semi ";" none))))) (node kind.Method (t token.Keyword "function" (t token.Label "f" (t token.Op "(" (t
    token.Op ")" (node kind.Block (t token.Op "{" (node kind.Return (t token.Keyword "return" (node kind.Prop
    (node kind.Variable (t token.Variable "$this" none) (t token.Op "->" (t token.Label "n" none))) (t
    token.Semi ";" none))) (t token.Op "}" none))) none))))) (t token.Op "}" none)))))) (node kind.Class (t
    token.Keyword "class" (t token.Label "B" (t token.Keyword "extends" (t token.Label "A" (t token.Op "{" (node
    kind.Property (t token.Keyword "public" (t token.Variable "$n" (t token.Op "=" (node kind.Number (t
    token.Int "2" none) (t token.Semi ";" none))))) (node kind.Method (t token.Keyword "function" (t token.Label
    "g" (t token.Op "(" (t token.Op ")" (node kind.Block (t token.Op "{" (node kind.Return (t token.Keyword
    "return" (node kind.StaticCall (t token.Label "A" (t token.Op "::" (t token.Label "f" (t token.Op "(" (node
    kind.Args none (t token.Op ")" none)))))) (t token.Semi ";" none))) (t token.Op "}" none))) none))))) (t
    token.Op "}" none)))))))) (node kind.Echo (t token.Keyword "echo" (node kind.MethodCall (node kind.Paren (t
    token.Op "(" (node kind.New (t token.Keyword "new" (t token.Label "B" none)) (t token.Op ")" none))) (t
    token.Op "->" (t token.Label "g" (t token.Op "(" (node kind.Args none (t token.Op ")" none)))))) (t
    token.Semi ";" none))) none)))

parent_method_in_the_object : Comes 200 (file parent_method_in_the_object_tree) (file parent_method_in_the_object_tree) (codes "a.php")
    ((codes "2"), ended)
    ((codes "2"), ended)
unfolding builtin_rows named_constants word_constants is_same_name newer_functions newer_classes newer_constants beyond_functions beyond_classes beyond_constants
parent_method_in_the_object = (refl, refl)

-- <?php class A { static function c() { return static::class; } static function s() { return self::c(); } } class
--  B extends A { static function p() { return parent::s(); } } echo A::s(), B::s(), B::p();
abbrev class_that_was_called_tree : Forest
class_that_was_called_tree =
    (node kind.Class (t token.Keyword "class" (t token.Label "A" (t token.Op "{" (node kind.Method (t
    token.Keyword "static" (t token.Keyword "function" (t token.Label "c" (t token.Op "(" (t token.Op ")" (node
    kind.Block (t token.Op "{" (node kind.Return (t token.Keyword "return" (node kind.ClassConstant (t
    token.Keyword "static" (t token.Op "::" (t token.Keyword "class" none))) (t token.Semi ";" none))) (t
    token.Op "}" none))) none)))))) (node kind.Method (t token.Keyword "static" (t token.Keyword "function" (t
    token.Label "s" (t token.Op "(" (t token.Op ")" (node kind.Block (t token.Op "{" (node kind.Return (t
    token.Keyword "return" (node kind.StaticCall (t token.Label "self" (t token.Op "::" (t token.Label "c" (t
    token.Op "(" (node kind.Args none (t token.Op ")" none)))))) (t token.Semi ";" none))) (t token.Op "}"
    none))) none)))))) (t token.Op "}" none)))))) (node kind.Class (t token.Keyword "class" (t token.Label "B"
    (t token.Keyword "extends" (t token.Label "A" (t token.Op "{" (node kind.Method (t token.Keyword "static" (t
    token.Keyword "function" (t token.Label "p" (t token.Op "(" (t token.Op ")" (node kind.Block (t token.Op "{"
    (node kind.Return (t token.Keyword "return" (node kind.StaticCall (t token.Label "parent" (t token.Op "::"
    (t token.Label "s" (t token.Op "(" (node kind.Args none (t token.Op ")" none)))))) (t token.Semi ";" none)))
    (t token.Op "}" none))) none)))))) (t token.Op "}" none))))))) (node kind.Echo (t token.Keyword "echo" (node
    kind.StaticCall (t token.Label "A" (t token.Op "::" (t token.Label "s" (t token.Op "(" (node kind.Args none
    (t token.Op ")" none)))))) (t token.Op "," (node kind.StaticCall (t token.Label "B" (t token.Op "::" (t
    token.Label "s" (t token.Op "(" (node kind.Args none (t token.Op ")" none)))))) (t token.Op "," (node
    kind.StaticCall (t token.Label "B" (t token.Op "::" (t token.Label "p" (t token.Op "(" (node kind.Args none
    (t token.Op ")" none)))))) (t token.Semi ";" none))))))) none)))

class_that_was_called : Comes 200 (file class_that_was_called_tree) (file class_that_was_called_tree) (codes "a.php")
    ((codes "ABB"), ended)
    ((codes "ABB"), ended)
unfolding builtin_rows named_constants word_constants is_same_name newer_functions newer_classes newer_constants beyond_functions beyond_classes beyond_constants
class_that_was_called = (refl, refl)

-- <?php class A { private $p = 1; function one() { return $this->p; } } class B extends A { private $p = 2;
--  function two() { $this->p++; return $this->p; } } $b = new B; echo $b->one(), $b->two(), $b->one();
abbrev private_properties_of_two_classes_tree : Forest
private_properties_of_two_classes_tree =
    (node kind.Class (t token.Keyword "class" (t token.Label "A" (t token.Op "{" (node kind.Property (t
    token.Keyword "private" (t token.Variable "$p" (t token.Op "=" (node kind.Number (t token.Int "1" none) (t
    token.Semi ";" none))))) (node kind.Method (t token.Keyword "function" (t token.Label "one" (t token.Op "("
    (t token.Op ")" (node kind.Block (t token.Op "{" (node kind.Return (t token.Keyword "return" (node kind.Prop
    (node kind.Variable (t token.Variable "$this" none) (t token.Op "->" (t token.Label "p" none))) (t
    token.Semi ";" none))) (t token.Op "}" none))) none))))) (t token.Op "}" none)))))) (node kind.Class (t
    token.Keyword "class" (t token.Label "B" (t token.Keyword "extends" (t token.Label "A" (t token.Op "{" (node
    kind.Property (t token.Keyword "private" (t token.Variable "$p" (t token.Op "=" (node kind.Number (t
    token.Int "2" none) (t token.Semi ";" none))))) (node kind.Method (t token.Keyword "function" (t token.Label
    "two" (t token.Op "(" (t token.Op ")" (node kind.Block (t token.Op "{" (node kind.ExprStmt (node
    kind.Postfix (node kind.Prop (node kind.Variable (t token.Variable "$this" none) (t token.Op "->" (t
    token.Label "p" none))) (t token.Op "++" none)) (t token.Semi ";" none)) (node kind.Return (t token.Keyword
    "return" (node kind.Prop (node kind.Variable (t token.Variable "$this" none) (t token.Op "->" (t token.Label
    "p" none))) (t token.Semi ";" none))) (t token.Op "}" none)))) none))))) (t token.Op "}" none)))))))) (node
    kind.ExprStmt (node kind.Assign (node kind.Variable (t token.Variable "$b" none) (t token.Op "=" (node
    kind.New (t token.Keyword "new" (t token.Label "B" none)) none))) (t token.Semi ";" none)) (node kind.Echo
    (t token.Keyword "echo" (node kind.MethodCall (node kind.Variable (t token.Variable "$b" none) (t token.Op
    "->" (t token.Label "one" (t token.Op "(" (node kind.Args none (t token.Op ")" none)))))) (t token.Op ","
    (node kind.MethodCall (node kind.Variable (t token.Variable "$b" none) (t token.Op "->" (t token.Label "two"
    (t token.Op "(" (node kind.Args none (t token.Op ")" none)))))) (t token.Op "," (node kind.MethodCall (node
    kind.Variable (t token.Variable "$b" none) (t token.Op "->" (t token.Label "one" (t token.Op "(" (node
    kind.Args none (t token.Op ")" none)))))) (t token.Semi ";" none))))))) none))))

private_properties_of_two_classes : Comes 200 (file private_properties_of_two_classes_tree) (file private_properties_of_two_classes_tree) (codes "a.php")
    ((codes "131"), ended)
    ((codes "131"), ended)
unfolding builtin_rows named_constants word_constants is_same_name newer_functions newer_classes newer_constants beyond_functions beyond_classes beyond_constants
private_properties_of_two_classes = (refl, refl)

-- <?php function f() { foreach ([1, 2] as $i) { try { if ($i == 2) return "r$i"; continue; } finally { echo "f$i";
--  } } } echo f();
abbrev finally_in_each_pass_tree : Forest
finally_in_each_pass_tree =
    (node kind.Function (t token.Keyword "function" (t token.Label "f" (t token.Op "(" (t token.Op ")" (node
    kind.Block (t token.Op "{" (node kind.Foreach (t token.Keyword "foreach" (t token.Op "(" (node kind.Array (t
    token.Op "[" (node kind.Item (node kind.Number (t token.Int "1" none) none) (t token.Op "," (node kind.Item
    (node kind.Number (t token.Int "2" none) none) (t token.Op "]" none))))) (t token.Keyword "as" (node
    kind.Variable (t token.Variable "$i" none) (t token.Op ")" (node kind.Block (t token.Op "{" (node kind.Try
    (t token.Keyword "try" (node kind.Block (t token.Op "{" (node kind.If (t token.Keyword "if" (t token.Op "("
    (node kind.Binary (node kind.Variable (t token.Variable "$i" none) (t token.Op "==" (node kind.Number (t
    token.Int "2" none) none))) (t token.Op ")" (node kind.Return (t token.Keyword "return" (node kind.Quoted (t
    token.Quote "\"" (t token.Piece "r" (node kind.Variable (t token.Variable "$i" none) (t token.QuotedEnd "\""
    none)))) (t token.Semi ";" none))) none))))) (node kind.Continue (t token.Keyword "continue" (t token.Semi
    ";" none)) (t token.Op "}" none)))) (t token.Keyword "finally" (node kind.Block (t token.Op "{" (node
    kind.Echo (t token.Keyword "echo" (node kind.Quoted (t token.Quote "\"" (t token.Piece "f" (node
    kind.Variable (t token.Variable "$i" none) (t token.QuotedEnd "\"" none)))) (t token.Semi ";" none))) (t
    token.Op "}" none))) none)))) (t token.Op "}" none))) none))))))) (t token.Op "}" none))) none))))) (node
    kind.Echo (t token.Keyword "echo" (node kind.Call (t token.Label "f" (t token.Op "(" (node kind.Args none (t
    token.Op ")" none)))) (t token.Semi ";" none))) none))

finally_in_each_pass : Comes 200 (file finally_in_each_pass_tree) (file finally_in_each_pass_tree) (codes "a.php")
    ((codes "f1f2r2"), ended)
    ((codes "f1f2r2"), ended)
unfolding builtin_rows named_constants word_constants is_same_name newer_functions newer_classes newer_constants beyond_functions beyond_classes beyond_constants
finally_in_each_pass = (refl, refl)

-- <?php function f() { static $a = [1]; $a[] = count($a); return $a; } f(); echo implode(",", f());
abbrev static_array_that_grows_tree : Forest
static_array_that_grows_tree =
    (node kind.Function (t token.Keyword "function" (t token.Label "f" (t token.Op "(" (t token.Op ")" (node
    kind.Block (t token.Op "{" (node kind.Statics (t token.Keyword "static" (t token.Variable "$a" (t token.Op
    "=" (node kind.Array (t token.Op "[" (node kind.Item (node kind.Number (t token.Int "1" none) none) (t
    token.Op "]" none))) (t token.Semi ";" none))))) (node kind.ExprStmt (node kind.Assign (node kind.Offset
    (node kind.Variable (t token.Variable "$a" none) (t token.Op "[" (t token.Op "]" none))) (t token.Op "="
    (node kind.Call (t token.Label "count" (t token.Op "(" (node kind.Args (node kind.Variable (t token.Variable
    "$a" none) none) (t token.Op ")" none)))) none))) (t token.Semi ";" none)) (node kind.Return (t
    token.Keyword "return" (node kind.Variable (t token.Variable "$a" none) (t token.Semi ";" none))) (t
    token.Op "}" none))))) none))))) (node kind.ExprStmt (node kind.Call (t token.Label "f" (t token.Op "("
    (node kind.Args none (t token.Op ")" none)))) (t token.Semi ";" none)) (node kind.Echo (t token.Keyword
    "echo" (node kind.Call (t token.Label "implode" (t token.Op "(" (node kind.Args (node kind.Text (t
    token.Text "\",\"" none) (t token.Op "," (node kind.Call (t token.Label "f" (t token.Op "(" (node kind.Args
    none (t token.Op ")" none)))) none))) (t token.Op ")" none)))) (t token.Semi ";" none))) none)))

static_array_that_grows : Comes 200 (file static_array_that_grows_tree) (file static_array_that_grows_tree) (codes "a.php")
    ((codes "1,1,2"), ended)
    ((codes "1,1,2"), ended)
unfolding builtin_rows named_constants word_constants is_same_name newer_functions newer_classes newer_constants beyond_functions beyond_classes beyond_constants
static_array_that_grows = (refl, refl)

-- <?php $m = ["a" => ["x" => 1], "b" => ["x" => 2]]; foreach ($m as $k => &$row) { $row["y"] = $k . $row["x"]; }
--  unset($row); echo $m["a"]["y"], $m["b"]["y"], count($m);
abbrev rows_by_reference_with_keys_tree : Forest
rows_by_reference_with_keys_tree =
    (node kind.ExprStmt (node kind.Assign (node kind.Variable (t token.Variable "$m" none) (t token.Op "=" (node
    kind.Array (t token.Op "[" (node kind.Item (node kind.Text (t token.Text "\"a\"" none) (t token.Op "=>"
    (node kind.Array (t token.Op "[" (node kind.Item (node kind.Text (t token.Text "\"x\"" none) (t token.Op
    "=>" (node kind.Number (t token.Int "1" none) none))) (t token.Op "]" none))) none))) (t token.Op "," (node
    kind.Item (node kind.Text (t token.Text "\"b\"" none) (t token.Op "=>" (node kind.Array (t token.Op "["
    (node kind.Item (node kind.Text (t token.Text "\"x\"" none) (t token.Op "=>" (node kind.Number (t token.Int
    "2" none) none))) (t token.Op "]" none))) none))) (t token.Op "]" none))))) none))) (t token.Semi ";" none))
    (node kind.Foreach (t token.Keyword "foreach" (t token.Op "(" (node kind.Variable (t token.Variable "$m"
    none) (t token.Keyword "as" (node kind.Variable (t token.Variable "$k" none) (t token.Op "=>" (t token.Op
    "&" (node kind.Variable (t token.Variable "$row" none) (t token.Op ")" (node kind.Block (t token.Op "{"
    (node kind.ExprStmt (node kind.Assign (node kind.Offset (node kind.Variable (t token.Variable "$row" none)
    (t token.Op "[" (node kind.Text (t token.Text "\"y\"" none) (t token.Op "]" none)))) (t token.Op "=" (node
    kind.Binary (node kind.Variable (t token.Variable "$k" none) (t token.Op "." (node kind.Offset (node
    kind.Variable (t token.Variable "$row" none) (t token.Op "[" (node kind.Text (t token.Text "\"x\"" none) (t
    token.Op "]" none)))) none))) none))) (t token.Semi ";" none)) (t token.Op "}" none))) none)))))))))) (node
    kind.Unset (t token.Keyword "unset" (t token.Op "(" (node kind.Variable (t token.Variable "$row" none) (t
    token.Op ")" (t token.Semi ";" none))))) (node kind.Echo (t token.Keyword "echo" (node kind.Offset (node
    kind.Offset (node kind.Variable (t token.Variable "$m" none) (t token.Op "[" (node kind.Text (t token.Text
    "\"a\"" none) (t token.Op "]" none)))) (t token.Op "[" (node kind.Text (t token.Text "\"y\"" none) (t
    token.Op "]" none)))) (t token.Op "," (node kind.Offset (node kind.Offset (node kind.Variable (t
    token.Variable "$m" none) (t token.Op "[" (node kind.Text (t token.Text "\"b\"" none) (t token.Op "]"
    none)))) (t token.Op "[" (node kind.Text (t token.Text "\"y\"" none) (t token.Op "]" none)))) (t token.Op
    "," (node kind.Call (t token.Label "count" (t token.Op "(" (node kind.Args (node kind.Variable (t
    token.Variable "$m" none) none) (t token.Op ")" none)))) (t token.Semi ";" none))))))) none))))

rows_by_reference_with_keys : Comes 200 (file rows_by_reference_with_keys_tree) (file rows_by_reference_with_keys_tree) (codes "a.php")
    ((codes "a1b22"), ended)
    ((codes "a1b22"), ended)
unfolding builtin_rows named_constants word_constants is_same_name newer_functions newer_classes newer_constants beyond_functions beyond_classes beyond_constants
rows_by_reference_with_keys = (refl, refl)

-- <?php $x = 1; function f() { global $x; $x++; unset($x); $x = 50; return $x; } echo f(), $x;
abbrev global_that_is_unset_in_a_function_tree : Forest
global_that_is_unset_in_a_function_tree =
    (node kind.ExprStmt (node kind.Assign (node kind.Variable (t token.Variable "$x" none) (t token.Op "=" (node
    kind.Number (t token.Int "1" none) none))) (t token.Semi ";" none)) (node kind.Function (t token.Keyword
    "function" (t token.Label "f" (t token.Op "(" (t token.Op ")" (node kind.Block (t token.Op "{" (node
    kind.Global (t token.Keyword "global" (node kind.Variable (t token.Variable "$x" none) (t token.Semi ";"
    none))) (node kind.ExprStmt (node kind.Postfix (node kind.Variable (t token.Variable "$x" none) (t token.Op
    "++" none)) (t token.Semi ";" none)) (node kind.Unset (t token.Keyword "unset" (t token.Op "(" (node
    kind.Variable (t token.Variable "$x" none) (t token.Op ")" (t token.Semi ";" none))))) (node kind.ExprStmt
    (node kind.Assign (node kind.Variable (t token.Variable "$x" none) (t token.Op "=" (node kind.Number (t
    token.Int "50" none) none))) (t token.Semi ";" none)) (node kind.Return (t token.Keyword "return" (node
    kind.Variable (t token.Variable "$x" none) (t token.Semi ";" none))) (t token.Op "}" none))))))) none)))))
    (node kind.Echo (t token.Keyword "echo" (node kind.Call (t token.Label "f" (t token.Op "(" (node kind.Args
    none (t token.Op ")" none)))) (t token.Op "," (node kind.Variable (t token.Variable "$x" none) (t token.Semi
    ";" none))))) none)))

global_that_is_unset_in_a_function : Comes 200 (file global_that_is_unset_in_a_function_tree) (file global_that_is_unset_in_a_function_tree) (codes "a.php")
    ((codes "502"), ended)
    ((codes "502"), ended)
unfolding builtin_rows named_constants word_constants is_same_name newer_functions newer_classes newer_constants beyond_functions beyond_classes beyond_constants
global_that_is_unset_in_a_function = (refl, refl)

-- <?php interface I { const A = "i"; } interface J extends I { const B = self::A . "j"; } class K implements J {
--  const C = self::B . "k"; } echo K::A, K::B, K::C, J::A;
abbrev constants_of_interfaces_in_line_tree : Forest
constants_of_interfaces_in_line_tree =
    (node kind.Interface (t token.Keyword "interface" (t token.Label "I" (t token.Op "{" (node kind.ClassConst
    (t token.Keyword "const" (t token.Label "A" (t token.Op "=" (node kind.Text (t token.Text "\"i\"" none) (t
    token.Semi ";" none))))) (t token.Op "}" none))))) (node kind.Interface (t token.Keyword "interface" (t
    token.Label "J" (t token.Keyword "extends" (t token.Label "I" (t token.Op "{" (node kind.ClassConst (t
    token.Keyword "const" (t token.Label "B" (t token.Op "=" (node kind.Binary (node kind.ClassConstant (t
    token.Label "self" (t token.Op "::" (t token.Label "A" none))) (t token.Op "." (node kind.Text (t token.Text
    "\"j\"" none) none))) (t token.Semi ";" none))))) (t token.Op "}" none))))))) (node kind.Class (t
    token.Keyword "class" (t token.Label "K" (t token.Keyword "implements" (t token.Label "J" (t token.Op "{"
    (node kind.ClassConst (t token.Keyword "const" (t token.Label "C" (t token.Op "=" (node kind.Binary (node
    kind.ClassConstant (t token.Label "self" (t token.Op "::" (t token.Label "B" none))) (t token.Op "." (node
    kind.Text (t token.Text "\"k\"" none) none))) (t token.Semi ";" none))))) (t token.Op "}" none))))))) (node
    kind.Echo (t token.Keyword "echo" (node kind.ClassConstant (t token.Label "K" (t token.Op "::" (t
    token.Label "A" none))) (t token.Op "," (node kind.ClassConstant (t token.Label "K" (t token.Op "::" (t
    token.Label "B" none))) (t token.Op "," (node kind.ClassConstant (t token.Label "K" (t token.Op "::" (t
    token.Label "C" none))) (t token.Op "," (node kind.ClassConstant (t token.Label "J" (t token.Op "::" (t
    token.Label "A" none))) (t token.Semi ";" none))))))))) none))))

constants_of_interfaces_in_line : Comes 200 (file constants_of_interfaces_in_line_tree) (file constants_of_interfaces_in_line_tree) (codes "a.php")
    ((codes "iijijki"), ended)
    ((codes "iijijki"), ended)
unfolding builtin_rows named_constants word_constants is_same_name newer_functions newer_classes newer_constants beyond_functions beyond_classes beyond_constants
constants_of_interfaces_in_line = (refl, refl)

-- <?php abstract class S { abstract protected function v(); function show() { return $this->v(); } } class T
--  extends S { protected function v() { return "t"; } } echo (new T)->show(); try { (new T)->v(); } catch (Error
--  $e) { echo "e"; }
abbrev abstract_method_that_is_protected_tree : Forest
abstract_method_that_is_protected_tree =
    (node kind.Class (t token.Keyword "abstract" (t token.Keyword "class" (t token.Label "S" (t token.Op "{"
    (node kind.Method (t token.Keyword "abstract" (t token.Keyword "protected" (t token.Keyword "function" (t
    token.Label "v" (t token.Op "(" (t token.Op ")" (t token.Semi ";" none))))))) (node kind.Method (t
    token.Keyword "function" (t token.Label "show" (t token.Op "(" (t token.Op ")" (node kind.Block (t token.Op
    "{" (node kind.Return (t token.Keyword "return" (node kind.MethodCall (node kind.Variable (t token.Variable
    "$this" none) (t token.Op "->" (t token.Label "v" (t token.Op "(" (node kind.Args none (t token.Op ")"
    none)))))) (t token.Semi ";" none))) (t token.Op "}" none))) none))))) (t token.Op "}" none))))))) (node
    kind.Class (t token.Keyword "class" (t token.Label "T" (t token.Keyword "extends" (t token.Label "S" (t
    token.Op "{" (node kind.Method (t token.Keyword "protected" (t token.Keyword "function" (t token.Label "v"
    (t token.Op "(" (t token.Op ")" (node kind.Block (t token.Op "{" (node kind.Return (t token.Keyword "return"
    (node kind.Text (t token.Text "\"t\"" none) (t token.Semi ";" none))) (t token.Op "}" none))) none)))))) (t
    token.Op "}" none))))))) (node kind.Echo (t token.Keyword "echo" (node kind.MethodCall (node kind.Paren (t
    token.Op "(" (node kind.New (t token.Keyword "new" (t token.Label "T" none)) (t token.Op ")" none))) (t
    token.Op "->" (t token.Label "show" (t token.Op "(" (node kind.Args none (t token.Op ")" none)))))) (t
    token.Semi ";" none))) (node kind.Try (t token.Keyword "try" (node kind.Block (t token.Op "{" (node
    kind.ExprStmt (node kind.MethodCall (node kind.Paren (t token.Op "(" (node kind.New (t token.Keyword "new"
    (t token.Label "T" none)) (t token.Op ")" none))) (t token.Op "->" (t token.Label "v" (t token.Op "(" (node
    kind.Args none (t token.Op ")" none)))))) (t token.Semi ";" none)) (t token.Op "}" none))) (t token.Keyword
    "catch" (t token.Op "(" (t token.Label "Error" (t token.Variable "$e" (t token.Op ")" (node kind.Block (t
    token.Op "{" (node kind.Echo (t token.Keyword "echo" (node kind.Text (t token.Text "\"e\"" none) (t
    token.Semi ";" none))) (t token.Op "}" none))) none)))))))) none))))

abstract_method_that_is_protected : Comes 200 (file abstract_method_that_is_protected_tree) (file abstract_method_that_is_protected_tree) (codes "a.php")
    ((codes "te"), ended)
    ((codes "te"), ended)
unfolding builtin_rows named_constants word_constants is_same_name newer_functions newer_classes newer_constants beyond_functions beyond_classes beyond_constants
abstract_method_that_is_protected = (refl, refl)

-- <?php class E1 extends Exception { private $x; function __construct($m, $x) { parent::__construct($m, 7);
--  $this->x = $x; } function x() { return $this->x; } } try { throw new E1("m", "xx"); } catch (LogicException |
--  E1 $e) { echo $e->getMessage(), $e->getCode(), $e->x(); } finally { echo "f"; }
abbrev exception_with_a_property_tree : Forest
exception_with_a_property_tree =
    (node kind.Class (t token.Keyword "class" (t token.Label "E1" (t token.Keyword "extends" (t token.Label
    "Exception" (t token.Op "{" (node kind.Property (t token.Keyword "private" (t token.Variable "$x" (t
    token.Semi ";" none))) (node kind.Method (t token.Keyword "function" (t token.Label "__construct" (t
    token.Op "(" (node kind.Param (t token.Variable "$m" none) (t token.Op "," (node kind.Param (t
    token.Variable "$x" none) (t token.Op ")" (node kind.Block (t token.Op "{" (node kind.ExprStmt (node
    kind.StaticCall (t token.Label "parent" (t token.Op "::" (t token.Label "__construct" (t token.Op "(" (node
    kind.Args (node kind.Variable (t token.Variable "$m" none) (t token.Op "," (node kind.Number (t token.Int
    "7" none) none))) (t token.Op ")" none)))))) (t token.Semi ";" none)) (node kind.ExprStmt (node kind.Assign
    (node kind.Prop (node kind.Variable (t token.Variable "$this" none) (t token.Op "->" (t token.Label "x"
    none))) (t token.Op "=" (node kind.Variable (t token.Variable "$x" none) none))) (t token.Semi ";" none)) (t
    token.Op "}" none)))) none)))))))) (node kind.Method (t token.Keyword "function" (t token.Label "x" (t
    token.Op "(" (t token.Op ")" (node kind.Block (t token.Op "{" (node kind.Return (t token.Keyword "return"
    (node kind.Prop (node kind.Variable (t token.Variable "$this" none) (t token.Op "->" (t token.Label "x"
    none))) (t token.Semi ";" none))) (t token.Op "}" none))) none))))) (t token.Op "}" none))))))))) (node
    kind.Try (t token.Keyword "try" (node kind.Block (t token.Op "{" (node kind.Throw (t token.Keyword "throw"
    (node kind.New (t token.Keyword "new" (t token.Label "E1" (t token.Op "(" (node kind.Args (node kind.Text (t
    token.Text "\"m\"" none) (t token.Op "," (node kind.Text (t token.Text "\"xx\"" none) none))) (t token.Op
    ")" none))))) (t token.Semi ";" none))) (t token.Op "}" none))) (t token.Keyword "catch" (t token.Op "(" (t
    token.Label "LogicException" (t token.Op "|" (t token.Label "E1" (t token.Variable "$e" (t token.Op ")"
    (node kind.Block (t token.Op "{" (node kind.Echo (t token.Keyword "echo" (node kind.MethodCall (node
    kind.Variable (t token.Variable "$e" none) (t token.Op "->" (t token.Label "getMessage" (t token.Op "("
    (node kind.Args none (t token.Op ")" none)))))) (t token.Op "," (node kind.MethodCall (node kind.Variable (t
    token.Variable "$e" none) (t token.Op "->" (t token.Label "getCode" (t token.Op "(" (node kind.Args none (t
    token.Op ")" none)))))) (t token.Op "," (node kind.MethodCall (node kind.Variable (t token.Variable "$e"
    none) (t token.Op "->" (t token.Label "x" (t token.Op "(" (node kind.Args none (t token.Op ")" none)))))) (t
    token.Semi ";" none))))))) (t token.Op "}" none))) (t token.Keyword "finally" (node kind.Block (t token.Op
    "{" (node kind.Echo (t token.Keyword "echo" (node kind.Text (t token.Text "\"f\"" none) (t token.Semi ";"
    none))) (t token.Op "}" none))) none)))))))))))) none))

exception_with_a_property : Comes 200 (file exception_with_a_property_tree) (file exception_with_a_property_tree) (codes "a.php")
    ((codes "m7xxf"), ended)
    ((codes "m7xxf"), ended)
unfolding builtin_rows named_constants word_constants is_same_name newer_functions newer_classes newer_constants beyond_functions beyond_classes beyond_constants
exception_with_a_property = (refl, refl)

-- <?php $s = "hello"; echo $s[-1], $s["1"], isset($s[9]) ? 1 : 0, isset($s[1][0]) ? 1 : 0, isset($s[1][1]) ? 1 :
--  0, $s[0][0], $s[7] ?? "d";
abbrev offsets_of_a_text_tree : Forest
offsets_of_a_text_tree =
    (node kind.ExprStmt (node kind.Assign (node kind.Variable (t token.Variable "$s" none) (t token.Op "=" (node
    kind.Text (t token.Text "\"hello\"" none) none))) (t token.Semi ";" none)) (node kind.Echo (t token.Keyword
    "echo" (node kind.Offset (node kind.Variable (t token.Variable "$s" none) (t token.Op "[" (node kind.Prefix
    (t token.Op "-" (node kind.Number (t token.Int "1" none) none)) (t token.Op "]" none)))) (t token.Op ","
    (node kind.Offset (node kind.Variable (t token.Variable "$s" none) (t token.Op "[" (node kind.Text (t
    token.Text "\"1\"" none) (t token.Op "]" none)))) (t token.Op "," (node kind.Ternary (node kind.Isset (t
    token.Keyword "isset" (t token.Op "(" (node kind.Offset (node kind.Variable (t token.Variable "$s" none) (t
    token.Op "[" (node kind.Number (t token.Int "9" none) (t token.Op "]" none)))) (t token.Op ")" none)))) (t
    token.Op "?" (node kind.Number (t token.Int "1" none) (t token.Op ":" (node kind.Number (t token.Int "0"
    none) none))))) (t token.Op "," (node kind.Ternary (node kind.Isset (t token.Keyword "isset" (t token.Op "("
    (node kind.Offset (node kind.Offset (node kind.Variable (t token.Variable "$s" none) (t token.Op "[" (node
    kind.Number (t token.Int "1" none) (t token.Op "]" none)))) (t token.Op "[" (node kind.Number (t token.Int
    "0" none) (t token.Op "]" none)))) (t token.Op ")" none)))) (t token.Op "?" (node kind.Number (t token.Int
    "1" none) (t token.Op ":" (node kind.Number (t token.Int "0" none) none))))) (t token.Op "," (node
    kind.Ternary (node kind.Isset (t token.Keyword "isset" (t token.Op "(" (node kind.Offset (node kind.Offset
    (node kind.Variable (t token.Variable "$s" none) (t token.Op "[" (node kind.Number (t token.Int "1" none) (t
    token.Op "]" none)))) (t token.Op "[" (node kind.Number (t token.Int "1" none) (t token.Op "]" none)))) (t
    token.Op ")" none)))) (t token.Op "?" (node kind.Number (t token.Int "1" none) (t token.Op ":" (node
    kind.Number (t token.Int "0" none) none))))) (t token.Op "," (node kind.Offset (node kind.Offset (node
    kind.Variable (t token.Variable "$s" none) (t token.Op "[" (node kind.Number (t token.Int "0" none) (t
    token.Op "]" none)))) (t token.Op "[" (node kind.Number (t token.Int "0" none) (t token.Op "]" none)))) (t
    token.Op "," (node kind.Binary (node kind.Offset (node kind.Variable (t token.Variable "$s" none) (t
    token.Op "[" (node kind.Number (t token.Int "7" none) (t token.Op "]" none)))) (t token.Op "??" (node
    kind.Text (t token.Text "\"d\"" none) none))) (t token.Semi ";" none))))))))))))))) none))

offsets_of_a_text : Comes 200 (file offsets_of_a_text_tree) (file offsets_of_a_text_tree) (codes "a.php")
    ((codes "oe010hd"), ended)
    ((codes "oe010hd"), ended)
unfolding builtin_rows named_constants word_constants is_same_name newer_functions newer_classes newer_constants beyond_functions beyond_classes beyond_constants
offsets_of_a_text = (refl, refl)

-- <?php function f(int $a, ?string $b = null, array $c = []): ?array { return $b === null ? null : [$a, $b,
--  count($c)]; } echo f(1) === null ? "n" : "x", implode(",", f(2, "q", [1, 2]));
abbrev types_that_are_nullable_tree : Forest
types_that_are_nullable_tree =
    (node kind.Function (t token.Keyword "function" (t token.Label "f" (t token.Op "(" (node kind.Param (node
    kind.TypeName (t token.Label "int" none) (t token.Variable "$a" none)) (t token.Op "," (node kind.Param
    (node kind.TypeName (t token.Op "?" (t token.Label "string" none)) (t token.Variable "$b" (t token.Op "="
    (node kind.Constant (t token.Label "null" none) none)))) (t token.Op "," (node kind.Param (node
    kind.TypeName (t token.Keyword "array" none) (t token.Variable "$c" (t token.Op "=" (node kind.Array (t
    token.Op "[" (t token.Op "]" none)) none)))) (t token.Op ")" (t token.Op ":" (node kind.TypeName (t token.Op
    "?" (t token.Keyword "array" none)) (node kind.Block (t token.Op "{" (node kind.Return (t token.Keyword
    "return" (node kind.Ternary (node kind.Binary (node kind.Variable (t token.Variable "$b" none) (t token.Op
    "===" (node kind.Constant (t token.Label "null" none) none))) (t token.Op "?" (node kind.Constant (t
    token.Label "null" none) (t token.Op ":" (node kind.Array (t token.Op "[" (node kind.Item (node
    kind.Variable (t token.Variable "$a" none) none) (t token.Op "," (node kind.Item (node kind.Variable (t
    token.Variable "$b" none) none) (t token.Op "," (node kind.Item (node kind.Call (t token.Label "count" (t
    token.Op "(" (node kind.Args (node kind.Variable (t token.Variable "$c" none) none) (t token.Op ")" none))))
    none) (t token.Op "]" none))))))) none))))) (t token.Semi ";" none))) (t token.Op "}" none)))
    none)))))))))))) (node kind.Echo (t token.Keyword "echo" (node kind.Ternary (node kind.Binary (node
    kind.Call (t token.Label "f" (t token.Op "(" (node kind.Args (node kind.Number (t token.Int "1" none) none)
    (t token.Op ")" none)))) (t token.Op "===" (node kind.Constant (t token.Label "null" none) none))) (t
    token.Op "?" (node kind.Text (t token.Text "\"n\"" none) (t token.Op ":" (node kind.Text (t token.Text
    "\"x\"" none) none))))) (t token.Op "," (node kind.Call (t token.Label "implode" (t token.Op "(" (node
    kind.Args (node kind.Text (t token.Text "\",\"" none) (t token.Op "," (node kind.Call (t token.Label "f" (t
    token.Op "(" (node kind.Args (node kind.Number (t token.Int "2" none) (t token.Op "," (node kind.Text (t
    token.Text "\"q\"" none) (t token.Op "," (node kind.Array (t token.Op "[" (node kind.Item (node kind.Number
    (t token.Int "1" none) none) (t token.Op "," (node kind.Item (node kind.Number (t token.Int "2" none) none)
    (t token.Op "]" none))))) none))))) (t token.Op ")" none)))) none))) (t token.Op ")" none)))) (t token.Semi
    ";" none))))) none))

types_that_are_nullable : Comes 200 (file types_that_are_nullable_tree) (file types_that_are_nullable_tree) (codes "a.php")
    ((codes "n2,q,2"), ended)
    ((codes "n2,q,2"), ended)
unfolding builtin_rows named_constants word_constants is_same_name newer_functions newer_classes newer_constants beyond_functions beyond_classes beyond_constants
types_that_are_nullable = (refl, refl)

-- <?php function push(array &$a, $v) { $a[] = $v; return count($a); } $l = []; echo push($l, "a"), push($l, "b"),
--  implode("-", $l);
abbrev array_by_reference_that_grows_tree : Forest
array_by_reference_that_grows_tree =
    (node kind.Function (t token.Keyword "function" (t token.Label "push" (t token.Op "(" (node kind.Param (node
    kind.TypeName (t token.Keyword "array" none) (t token.Op "&" (t token.Variable "$a" none))) (t token.Op ","
    (node kind.Param (t token.Variable "$v" none) (t token.Op ")" (node kind.Block (t token.Op "{" (node
    kind.ExprStmt (node kind.Assign (node kind.Offset (node kind.Variable (t token.Variable "$a" none) (t
    token.Op "[" (t token.Op "]" none))) (t token.Op "=" (node kind.Variable (t token.Variable "$v" none)
    none))) (t token.Semi ";" none)) (node kind.Return (t token.Keyword "return" (node kind.Call (t token.Label
    "count" (t token.Op "(" (node kind.Args (node kind.Variable (t token.Variable "$a" none) none) (t token.Op
    ")" none)))) (t token.Semi ";" none))) (t token.Op "}" none)))) none)))))))) (node kind.ExprStmt (node
    kind.Assign (node kind.Variable (t token.Variable "$l" none) (t token.Op "=" (node kind.Array (t token.Op
    "[" (t token.Op "]" none)) none))) (t token.Semi ";" none)) (node kind.Echo (t token.Keyword "echo" (node
    kind.Call (t token.Label "push" (t token.Op "(" (node kind.Args (node kind.Variable (t token.Variable "$l"
    none) (t token.Op "," (node kind.Text (t token.Text "\"a\"" none) none))) (t token.Op ")" none)))) (t
    token.Op "," (node kind.Call (t token.Label "push" (t token.Op "(" (node kind.Args (node kind.Variable (t
    token.Variable "$l" none) (t token.Op "," (node kind.Text (t token.Text "\"b\"" none) none))) (t token.Op
    ")" none)))) (t token.Op "," (node kind.Call (t token.Label "implode" (t token.Op "(" (node kind.Args (node
    kind.Text (t token.Text "\"-\"" none) (t token.Op "," (node kind.Variable (t token.Variable "$l" none)
    none))) (t token.Op ")" none)))) (t token.Semi ";" none))))))) none)))

array_by_reference_that_grows : Comes 200 (file array_by_reference_that_grows_tree) (file array_by_reference_that_grows_tree) (codes "a.php")
    ((codes "12a-b"), ended)
    ((codes "12a-b"), ended)
unfolding builtin_rows named_constants word_constants is_same_name newer_functions newer_classes newer_constants beyond_functions beyond_classes beyond_constants
array_by_reference_that_grows = (refl, refl)

-- <?php for ($i = 0; $i < 4; $i++) { switch ($i) { case "1": continue 2; case 2: echo "two"; default: echo "d";
--  break; case 3: echo "three"; } echo "."; }
abbrev switch_in_a_loop_that_goes_on_tree : Forest
switch_in_a_loop_that_goes_on_tree =
    (node kind.For (t token.Keyword "for" (t token.Op "(" (node kind.Assign (node kind.Variable (t
    token.Variable "$i" none) (t token.Op "=" (node kind.Number (t token.Int "0" none) none))) (t token.Semi ";"
    (node kind.Binary (node kind.Variable (t token.Variable "$i" none) (t token.Op "<" (node kind.Number (t
    token.Int "4" none) none))) (t token.Semi ";" (node kind.Postfix (node kind.Variable (t token.Variable "$i"
    none) (t token.Op "++" none)) (t token.Op ")" (node kind.Block (t token.Op "{" (node kind.Switch (t
    token.Keyword "switch" (t token.Op "(" (node kind.Variable (t token.Variable "$i" none) (t token.Op ")" (t
    token.Op "{" (node kind.Case (t token.Keyword "case" (node kind.Text (t token.Text "\"1\"" none) (t token.Op
    ":" (node kind.Continue (t token.Keyword "continue" (t token.Int "2" (t token.Semi ";" none))) none))))
    (node kind.Case (t token.Keyword "case" (node kind.Number (t token.Int "2" none) (t token.Op ":" (node
    kind.Echo (t token.Keyword "echo" (node kind.Text (t token.Text "\"two\"" none) (t token.Semi ";" none)))
    none)))) (node kind.Case (t token.Keyword "default" (t token.Op ":" (node kind.Echo (t token.Keyword "echo"
    (node kind.Text (t token.Text "\"d\"" none) (t token.Semi ";" none))) (node kind.Break (t token.Keyword
    "break" (t token.Semi ";" none)) none)))) (node kind.Case (t token.Keyword "case" (node kind.Number (t
    token.Int "3" none) (t token.Op ":" (node kind.Echo (t token.Keyword "echo" (node kind.Text (t token.Text
    "\"three\"" none) (t token.Semi ";" none))) none)))) (t token.Op "}" none)))))))))) (node kind.Echo (t
    token.Keyword "echo" (node kind.Text (t token.Text "\".\"" none) (t token.Semi ";" none))) (t token.Op "}"
    none)))) none))))))))) none)

switch_in_a_loop_that_goes_on : Comes 200 (file switch_in_a_loop_that_goes_on_tree) (file switch_in_a_loop_that_goes_on_tree) (codes "a.php")
    ((codes "d.twod.three."), ended)
    ((codes "d.twod.three."), ended)
unfolding builtin_rows named_constants word_constants is_same_name newer_functions newer_classes newer_constants beyond_functions beyond_classes beyond_constants
switch_in_a_loop_that_goes_on = (refl, refl)

-- <?php $o = new stdClass; $o->p = "v"; $o->q = $o; $b = ["k" => ["n" => 3], 0 => "z"]; echo "x$o->p {$o->q->p}
--  $b[0] {$b["k"]["n"]}";
abbrev quoted_text_of_properties_tree : Forest
quoted_text_of_properties_tree =
    (node kind.ExprStmt (node kind.Assign (node kind.Variable (t token.Variable "$o" none) (t token.Op "=" (node
    kind.New (t token.Keyword "new" (t token.Label "stdClass" none)) none))) (t token.Semi ";" none)) (node
    kind.ExprStmt (node kind.Assign (node kind.Prop (node kind.Variable (t token.Variable "$o" none) (t token.Op
    "->" (t token.Label "p" none))) (t token.Op "=" (node kind.Text (t token.Text "\"v\"" none) none))) (t
    token.Semi ";" none)) (node kind.ExprStmt (node kind.Assign (node kind.Prop (node kind.Variable (t
    token.Variable "$o" none) (t token.Op "->" (t token.Label "q" none))) (t token.Op "=" (node kind.Variable (t
    token.Variable "$o" none) none))) (t token.Semi ";" none)) (node kind.ExprStmt (node kind.Assign (node
    kind.Variable (t token.Variable "$b" none) (t token.Op "=" (node kind.Array (t token.Op "[" (node kind.Item
    (node kind.Text (t token.Text "\"k\"" none) (t token.Op "=>" (node kind.Array (t token.Op "[" (node
    kind.Item (node kind.Text (t token.Text "\"n\"" none) (t token.Op "=>" (node kind.Number (t token.Int "3"
    none) none))) (t token.Op "]" none))) none))) (t token.Op "," (node kind.Item (node kind.Number (t token.Int
    "0" none) (t token.Op "=>" (node kind.Text (t token.Text "\"z\"" none) none))) (t token.Op "]" none)))))
    none))) (t token.Semi ";" none)) (node kind.Echo (t token.Keyword "echo" (node kind.Quoted (t token.Quote
    "\"" (t token.Piece "x" (node kind.Prop (node kind.Variable (t token.Variable "$o" none) (t token.Op "->" (t
    token.Label "p" none))) (t token.Piece " " (t token.CurlyOpen "{" (node kind.Prop (node kind.Prop (node
    kind.Variable (t token.Variable "$o" none) (t token.Op "->" (t token.Label "q" none))) (t token.Op "->" (t
    token.Label "p" none))) (t token.Op "}" (t token.Piece " " (node kind.Offset (node kind.Variable (t
    token.Variable "$b" none) (t token.Op "[" (t token.Int "0" (t token.Op "]" none)))) (t token.Piece " " (t
    token.CurlyOpen "{" (node kind.Offset (node kind.Offset (node kind.Variable (t token.Variable "$b" none) (t
    token.Op "[" (node kind.Text (t token.Text "\"k\"" none) (t token.Op "]" none)))) (t token.Op "[" (node
    kind.Text (t token.Text "\"n\"" none) (t token.Op "]" none)))) (t token.Op "}" (t token.QuotedEnd "\""
    none)))))))))))))) (t token.Semi ";" none))) none)))))

quoted_text_of_properties : Comes 200 (file quoted_text_of_properties_tree) (file quoted_text_of_properties_tree) (codes "a.php")
    ((codes "xv v z 3"), ended)
    ((codes "xv v z 3"), ended)
unfolding builtin_rows named_constants word_constants is_same_name newer_functions newer_classes newer_constants beyond_functions beyond_classes beyond_constants
quoted_text_of_properties = (refl, refl)

-- <?php $a = [1, 2, 3]; $r = &$a[1]; $s = &$r; $s++; unset($r, $s); $b = $a; $b[1] = 0; echo implode($a[1] === 3 ?
--  "," : ";", $a), count($b);
abbrev element_that_two_names_hold_tree : Forest
element_that_two_names_hold_tree =
    (node kind.ExprStmt (node kind.Assign (node kind.Variable (t token.Variable "$a" none) (t token.Op "=" (node
    kind.Array (t token.Op "[" (node kind.Item (node kind.Number (t token.Int "1" none) none) (t token.Op ","
    (node kind.Item (node kind.Number (t token.Int "2" none) none) (t token.Op "," (node kind.Item (node
    kind.Number (t token.Int "3" none) none) (t token.Op "]" none))))))) none))) (t token.Semi ";" none)) (node
    kind.ExprStmt (node kind.AssignRef (node kind.Variable (t token.Variable "$r" none) (t token.Op "=" (t
    token.Op "&" (node kind.Offset (node kind.Variable (t token.Variable "$a" none) (t token.Op "[" (node
    kind.Number (t token.Int "1" none) (t token.Op "]" none)))) none)))) (t token.Semi ";" none)) (node
    kind.ExprStmt (node kind.AssignRef (node kind.Variable (t token.Variable "$s" none) (t token.Op "=" (t
    token.Op "&" (node kind.Variable (t token.Variable "$r" none) none)))) (t token.Semi ";" none)) (node
    kind.ExprStmt (node kind.Postfix (node kind.Variable (t token.Variable "$s" none) (t token.Op "++" none)) (t
    token.Semi ";" none)) (node kind.Unset (t token.Keyword "unset" (t token.Op "(" (node kind.Variable (t
    token.Variable "$r" none) (t token.Op "," (node kind.Variable (t token.Variable "$s" none) (t token.Op ")"
    (t token.Semi ";" none))))))) (node kind.ExprStmt (node kind.Assign (node kind.Variable (t token.Variable
    "$b" none) (t token.Op "=" (node kind.Variable (t token.Variable "$a" none) none))) (t token.Semi ";" none))
    (node kind.ExprStmt (node kind.Assign (node kind.Offset (node kind.Variable (t token.Variable "$b" none) (t
    token.Op "[" (node kind.Number (t token.Int "1" none) (t token.Op "]" none)))) (t token.Op "=" (node
    kind.Number (t token.Int "0" none) none))) (t token.Semi ";" none)) (node kind.Echo (t token.Keyword "echo"
    (node kind.Call (t token.Label "implode" (t token.Op "(" (node kind.Args (node kind.Ternary (node
    kind.Binary (node kind.Offset (node kind.Variable (t token.Variable "$a" none) (t token.Op "[" (node
    kind.Number (t token.Int "1" none) (t token.Op "]" none)))) (t token.Op "===" (node kind.Number (t token.Int
    "3" none) none))) (t token.Op "?" (node kind.Text (t token.Text "\",\"" none) (t token.Op ":" (node
    kind.Text (t token.Text "\";\"" none) none))))) (t token.Op "," (node kind.Variable (t token.Variable "$a"
    none) none))) (t token.Op ")" none)))) (t token.Op "," (node kind.Call (t token.Label "count" (t token.Op
    "(" (node kind.Args (node kind.Variable (t token.Variable "$b" none) none) (t token.Op ")" none)))) (t
    token.Semi ";" none))))) none))))))))

element_that_two_names_hold : Comes 200 (file element_that_two_names_hold_tree) (file element_that_two_names_hold_tree) (codes "a.php")
    ((codes "1,3,33"), ended)
    ((codes "1,3,33"), ended)
unfolding builtin_rows named_constants word_constants is_same_name newer_functions newer_classes newer_constants beyond_functions beyond_classes beyond_constants
element_that_two_names_hold = (refl, refl)

-- <?php class Q { private $w = []; function add($k, $v = null) { $this->w[$k][] = $v ?? $k; return $this; }
--  function text() { $t = ""; foreach ($this->w as $k => $vs) { $t .= $k . ":" . implode("+", $vs) . ";"; } return
--  $t; } } echo (new Q)->add("a")->add("b", 2)->add("a", "x")->text();
abbrev method_that_returns_itself_tree : Forest
method_that_returns_itself_tree =
    (node kind.Class (t token.Keyword "class" (t token.Label "Q" (t token.Op "{" (node kind.Property (t
    token.Keyword "private" (t token.Variable "$w" (t token.Op "=" (node kind.Array (t token.Op "[" (t token.Op
    "]" none)) (t token.Semi ";" none))))) (node kind.Method (t token.Keyword "function" (t token.Label "add" (t
    token.Op "(" (node kind.Param (t token.Variable "$k" none) (t token.Op "," (node kind.Param (t
    token.Variable "$v" (t token.Op "=" (node kind.Constant (t token.Label "null" none) none))) (t token.Op ")"
    (node kind.Block (t token.Op "{" (node kind.ExprStmt (node kind.Assign (node kind.Offset (node kind.Offset
    (node kind.Prop (node kind.Variable (t token.Variable "$this" none) (t token.Op "->" (t token.Label "w"
    none))) (t token.Op "[" (node kind.Variable (t token.Variable "$k" none) (t token.Op "]" none)))) (t
    token.Op "[" (t token.Op "]" none))) (t token.Op "=" (node kind.Binary (node kind.Variable (t token.Variable
    "$v" none) (t token.Op "??" (node kind.Variable (t token.Variable "$k" none) none))) none))) (t token.Semi
    ";" none)) (node kind.Return (t token.Keyword "return" (node kind.Variable (t token.Variable "$this" none)
    (t token.Semi ";" none))) (t token.Op "}" none)))) none)))))))) (node kind.Method (t token.Keyword
    "function" (t token.Label "text" (t token.Op "(" (t token.Op ")" (node kind.Block (t token.Op "{" (node
    kind.ExprStmt (node kind.Assign (node kind.Variable (t token.Variable "$t" none) (t token.Op "=" (node
    kind.Text (t token.Text "\"\"" none) none))) (t token.Semi ";" none)) (node kind.Foreach (t token.Keyword
    "foreach" (t token.Op "(" (node kind.Prop (node kind.Variable (t token.Variable "$this" none) (t token.Op
    "->" (t token.Label "w" none))) (t token.Keyword "as" (node kind.Variable (t token.Variable "$k" none) (t
    token.Op "=>" (node kind.Variable (t token.Variable "$vs" none) (t token.Op ")" (node kind.Block (t token.Op
    "{" (node kind.ExprStmt (node kind.CompoundAssign (node kind.Variable (t token.Variable "$t" none) (t
    token.Op ".=" (node kind.Binary (node kind.Binary (node kind.Binary (node kind.Variable (t token.Variable
    "$k" none) (t token.Op "." (node kind.Text (t token.Text "\":\"" none) none))) (t token.Op "." (node
    kind.Call (t token.Label "implode" (t token.Op "(" (node kind.Args (node kind.Text (t token.Text "\"+\""
    none) (t token.Op "," (node kind.Variable (t token.Variable "$vs" none) none))) (t token.Op ")" none))))
    none))) (t token.Op "." (node kind.Text (t token.Text "\";\"" none) none))) none))) (t token.Semi ";" none))
    (t token.Op "}" none))) none))))))))) (node kind.Return (t token.Keyword "return" (node kind.Variable (t
    token.Variable "$t" none) (t token.Semi ";" none))) (t token.Op "}" none))))) none))))) (t token.Op "}"
    none))))))) (node kind.Echo (t token.Keyword "echo" (node kind.MethodCall (node kind.MethodCall (node
    kind.MethodCall (node kind.MethodCall (node kind.Paren (t token.Op "(" (node kind.New (t token.Keyword "new"
    (t token.Label "Q" none)) (t token.Op ")" none))) (t token.Op "->" (t token.Label "add" (t token.Op "("
    (node kind.Args (node kind.Text (t token.Text "\"a\"" none) none) (t token.Op ")" none)))))) (t token.Op
    "->" (t token.Label "add" (t token.Op "(" (node kind.Args (node kind.Text (t token.Text "\"b\"" none) (t
    token.Op "," (node kind.Number (t token.Int "2" none) none))) (t token.Op ")" none)))))) (t token.Op "->" (t
    token.Label "add" (t token.Op "(" (node kind.Args (node kind.Text (t token.Text "\"a\"" none) (t token.Op
    "," (node kind.Text (t token.Text "\"x\"" none) none))) (t token.Op ")" none)))))) (t token.Op "->" (t
    token.Label "text" (t token.Op "(" (node kind.Args none (t token.Op ")" none)))))) (t token.Semi ";" none)))
    none))

method_that_returns_itself : Comes 200 (file method_that_returns_itself_tree) (file method_that_returns_itself_tree) (codes "a.php")
    ((codes "a:a+x;b:2;"), ended)
    ((codes "a:a+x;b:2;"), ended)
unfolding builtin_rows named_constants word_constants is_same_name newer_functions newer_classes newer_constants beyond_functions beyond_classes beyond_constants
method_that_returns_itself = (refl, refl)

-- <?php $i = 5; $a = [$i++ => $i--, ++$i => $i--, "k" => $i]; foreach ($a as $k => $v) { echo $k, $v; } echo $i;
--  $o = new stdClass; echo $o->n++ ?? "z", $o->n;
abbrev old_values_of_what_is_counted_tree : Forest
old_values_of_what_is_counted_tree =
    (node kind.ExprStmt (node kind.Assign (node kind.Variable (t token.Variable "$i" none) (t token.Op "=" (node
    kind.Number (t token.Int "5" none) none))) (t token.Semi ";" none)) (node kind.ExprStmt (node kind.Assign
    (node kind.Variable (t token.Variable "$a" none) (t token.Op "=" (node kind.Array (t token.Op "[" (node
    kind.Item (node kind.Postfix (node kind.Variable (t token.Variable "$i" none) (t token.Op "++" none)) (t
    token.Op "=>" (node kind.Postfix (node kind.Variable (t token.Variable "$i" none) (t token.Op "--" none))
    none))) (t token.Op "," (node kind.Item (node kind.Prefix (t token.Op "++" (node kind.Variable (t
    token.Variable "$i" none) none)) (t token.Op "=>" (node kind.Postfix (node kind.Variable (t token.Variable
    "$i" none) (t token.Op "--" none)) none))) (t token.Op "," (node kind.Item (node kind.Text (t token.Text
    "\"k\"" none) (t token.Op "=>" (node kind.Variable (t token.Variable "$i" none) none))) (t token.Op "]"
    none))))))) none))) (t token.Semi ";" none)) (node kind.Foreach (t token.Keyword "foreach" (t token.Op "("
    (node kind.Variable (t token.Variable "$a" none) (t token.Keyword "as" (node kind.Variable (t token.Variable
    "$k" none) (t token.Op "=>" (node kind.Variable (t token.Variable "$v" none) (t token.Op ")" (node
    kind.Block (t token.Op "{" (node kind.Echo (t token.Keyword "echo" (node kind.Variable (t token.Variable
    "$k" none) (t token.Op "," (node kind.Variable (t token.Variable "$v" none) (t token.Semi ";" none))))) (t
    token.Op "}" none))) none))))))))) (node kind.Echo (t token.Keyword "echo" (node kind.Variable (t
    token.Variable "$i" none) (t token.Semi ";" none))) (node kind.ExprStmt (node kind.Assign (node
    kind.Variable (t token.Variable "$o" none) (t token.Op "=" (node kind.New (t token.Keyword "new" (t
    token.Label "stdClass" none)) none))) (t token.Semi ";" none)) (node kind.Echo (t token.Keyword "echo" (node
    kind.Binary (node kind.Postfix (node kind.Prop (node kind.Variable (t token.Variable "$o" none) (t token.Op
    "->" (t token.Label "n" none))) (t token.Op "++" none)) (t token.Op "??" (node kind.Text (t token.Text
    "\"z\"" none) none))) (t token.Op "," (node kind.Prop (node kind.Variable (t token.Variable "$o" none) (t
    token.Op "->" (t token.Label "n" none))) (t token.Semi ";" none))))) none))))))

old_values_of_what_is_counted : Comes 200 (file old_values_of_what_is_counted_tree) (file old_values_of_what_is_counted_tree) (codes "a.php")
    ((codes "5666k55z1"), ended)
    ((codes "5666k55z1"), ended)
unfolding builtin_rows named_constants word_constants is_same_name newer_functions newer_classes newer_constants beyond_functions beyond_classes beyond_constants
old_values_of_what_is_counted = (refl, refl)
