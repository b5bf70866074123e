-- Rows of whole programs: where the meanings are held against real PHP. The 8.3 side is what PHP 8.2 echoes, where it has a meaning here.
use Rattle.std.proofs.Common.{[], refl, codes}
use Rattle.php_tree.specs.declared.token.TokenKind.TheVariants as token
use Rattle.php_tree.specs.declared.kind.NodeKind.TheVariants as kind
use Rattle.php_tree.specs.Tree.{Forest, none, node}
use Rattle.builtin_tables.specs.Beyond.{beyond_functions, beyond_classes, beyond_constants}
use Rattle.builtin_tables.specs.Builtins.{builtin_rows}
use Rattle.builtin_tables.specs.Constants.{named_constants, word_constants}
use Rattle.builtin_tables.specs.Named.{is_same_name}
use Rattle.builtin_tables.specs.Newer.{newer_functions, newer_classes, newer_constants}
use Rattle.php_meaning.specs.Cause.{Call, Declaration, NoRule, Offset, Reference}
use Rattle.meaning_rows.specs.Words.{t, b, file, ended, outside, Comes}

-- <?php function str_contains($a, $b) { return true; } echo 1;
abbrev function_of_8_0_tree : Forest
function_of_8_0_tree =
    (node kind.Function (t token.Keyword "function" (t token.Label "str_contains" (t token.Op "(" (node kind.Param
    (t token.Variable "$a" none) (t token.Op "," (node kind.Param (t token.Variable "$b" none) (t token.Op ")"
    (node kind.Block (t token.Op "{" (node kind.Return (t token.Keyword "return" (node kind.Constant (t
    token.Label "true" none) (t token.Semi ";" none))) (t token.Op "}" none))) none)))))))) (node kind.Echo (t
    token.Keyword "echo" (node kind.Number (t token.Int "1" none) (t token.Semi ";" none))) none))

function_of_8_0 : Comes 200 (file function_of_8_0_tree) (file function_of_8_0_tree) (codes "a.php")
    ((codes ""), outside Declaration)
    ((codes ""), outside Declaration)
unfolding builtin_rows named_constants word_constants is_same_name newer_functions newer_classes newer_constants beyond_functions beyond_classes beyond_constants
function_of_8_0 = (refl, refl)

-- <?php echo 1; if (true) { function JSON_validate() {} }
abbrev function_of_8_3_tree : Forest
function_of_8_3_tree =
    (node kind.Echo (t token.Keyword "echo" (node kind.Number (t token.Int "1" none) (t token.Semi ";" none)))
    (node kind.If (t token.Keyword "if" (t token.Op "(" (node kind.Constant (t token.Label "true" none) (t
    token.Op ")" (node kind.Block (t token.Op "{" (node kind.Function (t token.Keyword "function" (t token.Label
    "JSON_validate" (t token.Op "(" (t token.Op ")" (node kind.Block (t token.Op "{" (t token.Op "}" none))
    none))))) (t token.Op "}" none))) none))))) none))

function_of_8_3 : Comes 200 (file function_of_8_3_tree) (file function_of_8_3_tree) (codes "a.php")
    ((codes "1"), outside Declaration)
    ((codes "1"), outside Declaration)
unfolding builtin_rows named_constants word_constants is_same_name newer_functions newer_classes newer_constants beyond_functions beyond_classes beyond_constants
function_of_8_3 = (refl, refl)

-- <?php namespace N; function str_contains($a, $b) { return "own"; } echo str_contains(1, 2);
abbrev function_of_8_0_in_a_namespace_tree : Forest
function_of_8_0_in_a_namespace_tree =
    (node kind.Namespace (t token.Keyword "namespace" (t token.Label "N" (t token.Semi ";" none))) (node
    kind.Function (t token.Keyword "function" (t token.Label "str_contains" (t token.Op "(" (node kind.Param (t
    token.Variable "$a" none) (t token.Op "," (node kind.Param (t token.Variable "$b" none) (t token.Op ")" (node
    kind.Block (t token.Op "{" (node kind.Return (t token.Keyword "return" (node kind.Text (t token.Text "\"own\""
    none) (t token.Semi ";" none))) (t token.Op "}" none))) none)))))))) (node kind.Echo (t token.Keyword "echo"
    (node kind.Call (t token.Label "str_contains" (t token.Op "(" (node kind.Args (node kind.Number (t token.Int
    "1" none) (t token.Op "," (node kind.Number (t token.Int "2" none) none))) (t token.Op ")" none)))) (t
    token.Semi ";" none))) none)))

function_of_8_0_in_a_namespace : Comes 200 (file function_of_8_0_in_a_namespace_tree) (file function_of_8_0_in_a_namespace_tree) (codes "a.php")
    ((codes "own"), ended)
    ((codes "own"), ended)
unfolding builtin_rows named_constants word_constants is_same_name newer_functions newer_classes newer_constants beyond_functions beyond_classes beyond_constants
function_of_8_0_in_a_namespace = (refl, refl)

-- <?php namespace N; function StrLen($a) { return 1; }
abbrev function_of_7_4_tree : Forest
function_of_7_4_tree =
    (node kind.Namespace (t token.Keyword "namespace" (t token.Label "N" (t token.Semi ";" none))) (node
    kind.Function (t token.Keyword "function" (t token.Label "StrLen" (t token.Op "(" (node kind.Param (t
    token.Variable "$a" none) (t token.Op ")" (node kind.Block (t token.Op "{" (node kind.Return (t token.Keyword
    "return" (node kind.Number (t token.Int "1" none) (t token.Semi ";" none))) (t token.Op "}" none))) none))))))
    none))

function_of_7_4 : Comes 200 (file function_of_7_4_tree) (file function_of_7_4_tree) (codes "a.php")
    ((codes ""), outside Declaration)
    ((codes ""), outside Declaration)
unfolding builtin_rows named_constants word_constants is_same_name newer_functions newer_classes newer_constants beyond_functions beyond_classes beyond_constants
function_of_7_4 = (refl, refl)

-- <?php class Attribute {} echo 1;
abbrev class_of_8_0_tree : Forest
class_of_8_0_tree =
    (node kind.Class (t token.Keyword "class" (t token.Label "Attribute" (t token.Op "{" (t token.Op "}" none))))
    (node kind.Echo (t token.Keyword "echo" (node kind.Number (t token.Int "1" none) (t token.Semi ";" none)))
    none))

class_of_8_0 : Comes 200 (file class_of_8_0_tree) (file class_of_8_0_tree) (codes "a.php")
    ((codes ""), outside Declaration)
    ((codes ""), outside Declaration)
unfolding builtin_rows named_constants word_constants is_same_name newer_functions newer_classes newer_constants beyond_functions beyond_classes beyond_constants
class_of_8_0 = (refl, refl)

-- <?php echo 1; if (true) { interface Stringable {} }
abbrev interface_of_8_0_tree : Forest
interface_of_8_0_tree =
    (node kind.Echo (t token.Keyword "echo" (node kind.Number (t token.Int "1" none) (t token.Semi ";" none)))
    (node kind.If (t token.Keyword "if" (t token.Op "(" (node kind.Constant (t token.Label "true" none) (t
    token.Op ")" (node kind.Block (t token.Op "{" (node kind.Interface (t token.Keyword "interface" (t token.Label
    "Stringable" (t token.Op "{" (t token.Op "}" none)))) (t token.Op "}" none))) none))))) none))

interface_of_8_0 : Comes 200 (file interface_of_8_0_tree) (file interface_of_8_0_tree) (codes "a.php")
    ((codes "1"), outside Declaration)
    ((codes "1"), outside Declaration)
unfolding builtin_rows named_constants word_constants is_same_name newer_functions newer_classes newer_constants beyond_functions beyond_classes beyond_constants
interface_of_8_0 = (refl, refl)

-- <?php namespace Random; class Randomizer {}
abbrev class_of_8_2_tree : Forest
class_of_8_2_tree =
    (node kind.Namespace (t token.Keyword "namespace" (t token.Label "Random" (t token.Semi ";" none))) (node
    kind.Class (t token.Keyword "class" (t token.Label "Randomizer" (t token.Op "{" (t token.Op "}" none))))
    none))

class_of_8_2 : Comes 200 (file class_of_8_2_tree) (file class_of_8_2_tree) (codes "a.php")
    ((codes ""), outside Declaration)
    ((codes ""), outside Declaration)
unfolding builtin_rows named_constants word_constants is_same_name newer_functions newer_classes newer_constants beyond_functions beyond_classes beyond_constants
class_of_8_2 = (refl, refl)

-- <?php class LogicException {}
abbrev class_of_exceptions_tree : Forest
class_of_exceptions_tree =
    (node kind.Class (t token.Keyword "class" (t token.Label "LogicException" (t token.Op "{" (t token.Op "}"
    none)))) none)

class_of_exceptions : Comes 200 (file class_of_exceptions_tree) (file class_of_exceptions_tree) (codes "a.php")
    ((codes ""), outside Declaration)
    ((codes ""), outside Declaration)
unfolding builtin_rows named_constants word_constants is_same_name newer_functions newer_classes newer_constants beyond_functions beyond_classes beyond_constants
class_of_exceptions = (refl, refl)

-- <?php class StdClass {}
abbrev class_without_a_class_tree : Forest
class_without_a_class_tree =
    (node kind.Class (t token.Keyword "class" (t token.Label "StdClass" (t token.Op "{" (t token.Op "}" none))))
    none)

class_without_a_class : Comes 200 (file class_without_a_class_tree) (file class_without_a_class_tree) (codes "a.php")
    ((codes ""), outside Declaration)
    ((codes ""), outside Declaration)
unfolding builtin_rows named_constants word_constants is_same_name newer_functions newer_classes newer_constants beyond_functions beyond_classes beyond_constants
class_without_a_class = (refl, refl)

-- <?php const T_ENUM = 1;
abbrev constant_of_8_1_tree : Forest
constant_of_8_1_tree =
    (node kind.Const (t token.Keyword "const" (t token.Label "T_ENUM" (t token.Op "=" (node kind.Number (t
    token.Int "1" none) (t token.Semi ";" none))))) none)

constant_of_8_1 : Comes 200 (file constant_of_8_1_tree) (file constant_of_8_1_tree) (codes "a.php")
    ((codes ""), outside Declaration)
    ((codes ""), outside Declaration)
unfolding builtin_rows named_constants word_constants is_same_name newer_functions newer_classes newer_constants beyond_functions beyond_classes beyond_constants
constant_of_8_1 = (refl, refl)

-- <?php echo 1; define("T_MATCH", 2);
abbrev constant_of_8_0_defined_tree : Forest
constant_of_8_0_defined_tree =
    (node kind.Echo (t token.Keyword "echo" (node kind.Number (t token.Int "1" none) (t token.Semi ";" none)))
    (node kind.ExprStmt (node kind.Call (t token.Label "define" (t token.Op "(" (node kind.Args (node kind.Text (t
    token.Text "\"T_MATCH\"" none) (t token.Op "," (node kind.Number (t token.Int "2" none) none))) (t token.Op
    ")" none)))) (t token.Semi ";" none)) none))

constant_of_8_0_defined : Comes 200 (file constant_of_8_0_defined_tree) (file constant_of_8_0_defined_tree) (codes "a.php")
    ((codes "1"), outside Declaration)
    ((codes "1"), outside Declaration)
unfolding builtin_rows named_constants word_constants is_same_name newer_functions newer_classes newer_constants beyond_functions beyond_classes beyond_constants
constant_of_8_0_defined = (refl, refl)

-- <?php namespace N; const E_ALL2 = 1, PHP_EOL = 2;
abbrev constant_of_7_4_tree : Forest
constant_of_7_4_tree =
    (node kind.Namespace (t token.Keyword "namespace" (t token.Label "N" (t token.Semi ";" none))) (node
    kind.Const (t token.Keyword "const" (t token.Label "E_ALL2" (t token.Op "=" (node kind.Number (t token.Int "1"
    none) (t token.Op "," (t token.Label "PHP_EOL" (t token.Op "=" (node kind.Number (t token.Int "2" none) (t
    token.Semi ";" none))))))))) none))

constant_of_7_4 : Comes 200 (file constant_of_7_4_tree) (file constant_of_7_4_tree) (codes "a.php")
    ((codes ""), outside Declaration)
    ((codes ""), outside Declaration)
unfolding builtin_rows named_constants word_constants is_same_name newer_functions newer_classes newer_constants beyond_functions beyond_classes beyond_constants
constant_of_7_4 = (refl, refl)

-- <?php class E extends Exception { protected int $line = 1; }
abbrev line_of_an_exception_typed_tree : Forest
line_of_an_exception_typed_tree =
    (node kind.Class (t token.Keyword "class" (t token.Label "E" (t token.Keyword "extends" (t token.Label
    "Exception" (t token.Op "{" (node kind.Property (t token.Keyword "protected" (node kind.TypeName (t
    token.Label "int" none) (t token.Variable "$line" (t token.Op "=" (node kind.Number (t token.Int "1" none) (t
    token.Semi ";" none)))))) (t token.Op "}" none))))))) none)

line_of_an_exception_typed : Comes 200 (file line_of_an_exception_typed_tree) (file line_of_an_exception_typed_tree) (codes "a.php")
    ((codes ""), outside Declaration)
    ((codes ""), outside Declaration)
unfolding builtin_rows named_constants word_constants is_same_name newer_functions newer_classes newer_constants beyond_functions beyond_classes beyond_constants
line_of_an_exception_typed = (refl, refl)

-- <?php echo 1; if (true) { class E extends Error { protected $message = "m"; } }
abbrev message_of_an_exception_declared_tree : Forest
message_of_an_exception_declared_tree =
    (node kind.Echo (t token.Keyword "echo" (node kind.Number (t token.Int "1" none) (t token.Semi ";" none)))
    (node kind.If (t token.Keyword "if" (t token.Op "(" (node kind.Constant (t token.Label "true" none) (t
    token.Op ")" (node kind.Block (t token.Op "{" (node kind.Class (t token.Keyword "class" (t token.Label "E" (t
    token.Keyword "extends" (t token.Label "Error" (t token.Op "{" (node kind.Property (t token.Keyword
    "protected" (t token.Variable "$message" (t token.Op "=" (node kind.Text (t token.Text "\"m\"" none) (t
    token.Semi ";" none))))) (t token.Op "}" none))))))) (t token.Op "}" none))) none))))) none))

message_of_an_exception_declared : Comes 200 (file message_of_an_exception_declared_tree) (file message_of_an_exception_declared_tree) (codes "a.php")
    ((codes "1"), outside Declaration)
    ((codes "1"), outside Declaration)
unfolding builtin_rows named_constants word_constants is_same_name newer_functions newer_classes newer_constants beyond_functions beyond_classes beyond_constants
message_of_an_exception_declared = (refl, refl)

-- <?php class E extends ErrorException { protected int $severity = 1; }
abbrev severity_typed_tree : Forest
severity_typed_tree =
    (node kind.Class (t token.Keyword "class" (t token.Label "E" (t token.Keyword "extends" (t token.Label
    "ErrorException" (t token.Op "{" (node kind.Property (t token.Keyword "protected" (node kind.TypeName (t
    token.Label "int" none) (t token.Variable "$severity" (t token.Op "=" (node kind.Number (t token.Int "1" none)
    (t token.Semi ";" none)))))) (t token.Op "}" none))))))) none)

severity_typed : Comes 200 (file severity_typed_tree) (file severity_typed_tree) (codes "a.php")
    ((codes ""), outside Declaration)
    ((codes ""), outside Declaration)
unfolding builtin_rows named_constants word_constants is_same_name newer_functions newer_classes newer_constants beyond_functions beyond_classes beyond_constants
severity_typed = (refl, refl)

-- <?php class E extends Exception { function m() { return $this->message; } } $e = new E("m"); echo 1, $e->m();
abbrev message_of_an_exception_read_tree : Forest
message_of_an_exception_read_tree =
    (node kind.Class (t token.Keyword "class" (t token.Label "E" (t token.Keyword "extends" (t token.Label
    "Exception" (t token.Op "{" (node kind.Method (t token.Keyword "function" (t token.Label "m" (t token.Op "("
    (t token.Op ")" (node kind.Block (t token.Op "{" (node kind.Return (t token.Keyword "return" (node kind.Prop
    (node kind.Variable (t token.Variable "$this" none) (t token.Op "->" (t token.Label "message" none))) (t
    token.Semi ";" none))) (t token.Op "}" none))) none))))) (t token.Op "}" none))))))) (node kind.ExprStmt (node
    kind.Assign (node kind.Variable (t token.Variable "$e" none) (t token.Op "=" (node kind.New (t token.Keyword
    "new" (t token.Label "E" (t token.Op "(" (node kind.Args (node kind.Text (t token.Text "\"m\"" none) none) (t
    token.Op ")" none))))) none))) (t token.Semi ";" none)) (node kind.Echo (t token.Keyword "echo" (node
    kind.Number (t token.Int "1" none) (t token.Op "," (node kind.MethodCall (node kind.Variable (t token.Variable
    "$e" none) (t token.Op "->" (t token.Label "m" (t token.Op "(" (node kind.Args none (t token.Op ")" none))))))
    (t token.Semi ";" none))))) none)))

message_of_an_exception_read : Comes 200 (file message_of_an_exception_read_tree) (file message_of_an_exception_read_tree) (codes "a.php")
    ((codes "1"), outside NoRule)
    ((codes "1"), outside NoRule)
unfolding builtin_rows named_constants word_constants is_same_name newer_functions newer_classes newer_constants beyond_functions beyond_classes beyond_constants
message_of_an_exception_read = (refl, refl)

-- <?php echo 1; new Exception("m", "5");
abbrev code_that_is_a_text_tree : Forest
code_that_is_a_text_tree =
    (node kind.Echo (t token.Keyword "echo" (node kind.Number (t token.Int "1" none) (t token.Semi ";" none)))
    (node kind.ExprStmt (node kind.New (t token.Keyword "new" (t token.Label "Exception" (t token.Op "(" (node
    kind.Args (node kind.Text (t token.Text "\"m\"" none) (t token.Op "," (node kind.Text (t token.Text "\"5\""
    none) none))) (t token.Op ")" none))))) (t token.Semi ";" none)) none))

code_that_is_a_text : Comes 200 (file code_that_is_a_text_tree) (file code_that_is_a_text_tree) (codes "a.php")
    ((codes "1"), outside Call)
    ((codes "1"), outside Call)
unfolding builtin_rows named_constants word_constants is_same_name newer_functions newer_classes newer_constants beyond_functions beyond_classes beyond_constants
code_that_is_a_text = (refl, refl)

-- <?php echo 1; throw new LogicException("m", null);
abbrev code_that_is_null_tree : Forest
code_that_is_null_tree =
    (node kind.Echo (t token.Keyword "echo" (node kind.Number (t token.Int "1" none) (t token.Semi ";" none)))
    (node kind.Throw (t token.Keyword "throw" (node kind.New (t token.Keyword "new" (t token.Label
    "LogicException" (t token.Op "(" (node kind.Args (node kind.Text (t token.Text "\"m\"" none) (t token.Op ","
    (node kind.Constant (t token.Label "null" none) none))) (t token.Op ")" none))))) (t token.Semi ";" none)))
    none))

code_that_is_null : Comes 200 (file code_that_is_null_tree) (file code_that_is_null_tree) (codes "a.php")
    ((codes "1"), outside Call)
    ((codes "1"), outside Call)
unfolding builtin_rows named_constants word_constants is_same_name newer_functions newer_classes newer_constants beyond_functions beyond_classes beyond_constants
code_that_is_null = (refl, refl)

-- <?php try { throw new RuntimeException("m", 5); } catch (Exception $e) { echo $e->getMessage(), $e->getCode(); }
abbrev code_that_is_an_int_tree : Forest
code_that_is_an_int_tree =
    (node kind.Try (t token.Keyword "try" (node kind.Block (t token.Op "{" (node kind.Throw (t token.Keyword
    "throw" (node kind.New (t token.Keyword "new" (t token.Label "RuntimeException" (t token.Op "(" (node
    kind.Args (node kind.Text (t token.Text "\"m\"" none) (t token.Op "," (node kind.Number (t token.Int "5" none)
    none))) (t token.Op ")" none))))) (t token.Semi ";" none))) (t token.Op "}" none))) (t token.Keyword "catch"
    (t token.Op "(" (t token.Label "Exception" (t token.Variable "$e" (t token.Op ")" (node kind.Block (t token.Op
    "{" (node kind.Echo (t token.Keyword "echo" (node kind.MethodCall (node kind.Variable (t token.Variable "$e"
    none) (t token.Op "->" (t token.Label "getMessage" (t token.Op "(" (node kind.Args none (t token.Op ")"
    none)))))) (t token.Op "," (node kind.MethodCall (node kind.Variable (t token.Variable "$e" none) (t token.Op
    "->" (t token.Label "getCode" (t token.Op "(" (node kind.Args none (t token.Op ")" none)))))) (t token.Semi
    ";" none))))) (t token.Op "}" none))) none)))))))) none)

code_that_is_an_int : Comes 200 (file code_that_is_an_int_tree) (file code_that_is_an_int_tree) (codes "a.php")
    ((codes "m5"), ended)
    ((codes "m5"), ended)
unfolding builtin_rows named_constants word_constants is_same_name newer_functions newer_classes newer_constants beyond_functions beyond_classes beyond_constants
code_that_is_an_int = (refl, refl)

-- <?php $s = "abc"; echo isset($s[1]) ? 1 : 2, isset($s["1"]) ? 1 : 2, isset($s[5]) ? 1 : 2; echo isset($s[true]) ? 1 : 2;
abbrev isset_at_true_of_a_text_tree : Forest
isset_at_true_of_a_text_tree =
    (node kind.ExprStmt (node kind.Assign (node kind.Variable (t token.Variable "$s" none) (t token.Op "=" (node
    kind.Text (t token.Text "\"abc\"" none) none))) (t token.Semi ";" none)) (node kind.Echo (t token.Keyword
    "echo" (node kind.Ternary (node kind.Isset (t token.Keyword "isset" (t token.Op "(" (node kind.Offset (node
    kind.Variable (t token.Variable "$s" none) (t token.Op "[" (node kind.Number (t token.Int "1" none) (t
    token.Op "]" none)))) (t token.Op ")" none)))) (t token.Op "?" (node kind.Number (t token.Int "1" none) (t
    token.Op ":" (node kind.Number (t token.Int "2" none) none))))) (t token.Op "," (node kind.Ternary (node
    kind.Isset (t token.Keyword "isset" (t token.Op "(" (node kind.Offset (node kind.Variable (t token.Variable
    "$s" none) (t token.Op "[" (node kind.Text (t token.Text "\"1\"" none) (t token.Op "]" none)))) (t token.Op
    ")" none)))) (t token.Op "?" (node kind.Number (t token.Int "1" none) (t token.Op ":" (node kind.Number (t
    token.Int "2" none) none))))) (t token.Op "," (node kind.Ternary (node kind.Isset (t token.Keyword "isset" (t
    token.Op "(" (node kind.Offset (node kind.Variable (t token.Variable "$s" none) (t token.Op "[" (node
    kind.Number (t token.Int "5" none) (t token.Op "]" none)))) (t token.Op ")" none)))) (t token.Op "?" (node
    kind.Number (t token.Int "1" none) (t token.Op ":" (node kind.Number (t token.Int "2" none) none))))) (t
    token.Semi ";" none))))))) (node kind.Echo (t token.Keyword "echo" (node kind.Ternary (node kind.Isset (t
    token.Keyword "isset" (t token.Op "(" (node kind.Offset (node kind.Variable (t token.Variable "$s" none) (t
    token.Op "[" (node kind.Constant (t token.Label "true" none) (t token.Op "]" none)))) (t token.Op ")" none))))
    (t token.Op "?" (node kind.Number (t token.Int "1" none) (t token.Op ":" (node kind.Number (t token.Int "2"
    none) none))))) (t token.Semi ";" none))) none)))

isset_at_true_of_a_text : Comes 200 (file isset_at_true_of_a_text_tree) (file isset_at_true_of_a_text_tree) (codes "a.php")
    ((codes "112"), outside Offset)
    ((codes "112"), outside Offset)
unfolding builtin_rows named_constants word_constants is_same_name newer_functions newer_classes newer_constants beyond_functions beyond_classes beyond_constants
isset_at_true_of_a_text = (refl, refl)

-- <?php $s = "abc"; echo 1; echo isset($s["x"]) ? 1 : 2;
abbrev isset_at_a_word_of_a_text_tree : Forest
isset_at_a_word_of_a_text_tree =
    (node kind.ExprStmt (node kind.Assign (node kind.Variable (t token.Variable "$s" none) (t token.Op "=" (node
    kind.Text (t token.Text "\"abc\"" none) none))) (t token.Semi ";" none)) (node kind.Echo (t token.Keyword
    "echo" (node kind.Number (t token.Int "1" none) (t token.Semi ";" none))) (node kind.Echo (t token.Keyword
    "echo" (node kind.Ternary (node kind.Isset (t token.Keyword "isset" (t token.Op "(" (node kind.Offset (node
    kind.Variable (t token.Variable "$s" none) (t token.Op "[" (node kind.Text (t token.Text "\"x\"" none) (t
    token.Op "]" none)))) (t token.Op ")" none)))) (t token.Op "?" (node kind.Number (t token.Int "1" none) (t
    token.Op ":" (node kind.Number (t token.Int "2" none) none))))) (t token.Semi ";" none))) none)))

isset_at_a_word_of_a_text : Comes 200 (file isset_at_a_word_of_a_text_tree) (file isset_at_a_word_of_a_text_tree) (codes "a.php")
    ((codes "1"), outside Offset)
    ((codes "1"), outside Offset)
unfolding builtin_rows named_constants word_constants is_same_name newer_functions newer_classes newer_constants beyond_functions beyond_classes beyond_constants
isset_at_a_word_of_a_text = (refl, refl)

-- <?php $s = "abc"; echo $s["-1"] ?? "none"; echo $s[null] ?? "none";
abbrev coalesce_at_null_of_a_text_tree : Forest
coalesce_at_null_of_a_text_tree =
    (node kind.ExprStmt (node kind.Assign (node kind.Variable (t token.Variable "$s" none) (t token.Op "=" (node
    kind.Text (t token.Text "\"abc\"" none) none))) (t token.Semi ";" none)) (node kind.Echo (t token.Keyword
    "echo" (node kind.Binary (node kind.Offset (node kind.Variable (t token.Variable "$s" none) (t token.Op "["
    (node kind.Text (t token.Text "\"-1\"" none) (t token.Op "]" none)))) (t token.Op "??" (node kind.Text (t
    token.Text "\"none\"" none) none))) (t token.Semi ";" none))) (node kind.Echo (t token.Keyword "echo" (node
    kind.Binary (node kind.Offset (node kind.Variable (t token.Variable "$s" none) (t token.Op "[" (node
    kind.Constant (t token.Label "null" none) (t token.Op "]" none)))) (t token.Op "??" (node kind.Text (t
    token.Text "\"none\"" none) none))) (t token.Semi ";" none))) none)))

coalesce_at_null_of_a_text : Comes 200 (file coalesce_at_null_of_a_text_tree) (file coalesce_at_null_of_a_text_tree) (codes "a.php")
    ((codes "c"), outside Offset)
    ((codes "c"), outside Offset)
unfolding builtin_rows named_constants word_constants is_same_name newer_functions newer_classes newer_constants beyond_functions beyond_classes beyond_constants
coalesce_at_null_of_a_text = (refl, refl)

-- <?php $s = "a0"; echo empty($s[1]) ? 1 : 2; echo empty($s[" 1"]) ? 1 : 2;
abbrev empty_at_blanks_of_a_text_tree : Forest
empty_at_blanks_of_a_text_tree =
    (node kind.ExprStmt (node kind.Assign (node kind.Variable (t token.Variable "$s" none) (t token.Op "=" (node
    kind.Text (t token.Text "\"a0\"" none) none))) (t token.Semi ";" none)) (node kind.Echo (t token.Keyword
    "echo" (node kind.Ternary (node kind.EmptyTest (t token.Keyword "empty" (t token.Op "(" (node kind.Offset
    (node kind.Variable (t token.Variable "$s" none) (t token.Op "[" (node kind.Number (t token.Int "1" none) (t
    token.Op "]" none)))) (t token.Op ")" none)))) (t token.Op "?" (node kind.Number (t token.Int "1" none) (t
    token.Op ":" (node kind.Number (t token.Int "2" none) none))))) (t token.Semi ";" none))) (node kind.Echo (t
    token.Keyword "echo" (node kind.Ternary (node kind.EmptyTest (t token.Keyword "empty" (t token.Op "(" (node
    kind.Offset (node kind.Variable (t token.Variable "$s" none)
    (t token.Op "[" (node kind.Text (t token.Text "\" 1\"" none) (t token.Op "]" none)))) (t token.Op ")" none))))
    (t token.Op "?" (node kind.Number (t token.Int
    "1" none) (t token.Op ":" (node kind.Number (t token.Int "2" none) none))))) (t token.Semi ";" none))) none)))

empty_at_blanks_of_a_text : Comes 200 (file empty_at_blanks_of_a_text_tree) (file empty_at_blanks_of_a_text_tree) (codes "a.php")
    ((codes "1"), outside Offset)
    ((codes "1"), outside Offset)
unfolding builtin_rows named_constants word_constants is_same_name newer_functions newer_classes newer_constants beyond_functions beyond_classes beyond_constants
empty_at_blanks_of_a_text = (refl, refl)

-- <?php class A { private $p = 1; protected $q = 2; private static $s = 3; static $t = 4; function t() { return
--  isset($this->p, $this->q, self::$s) ? 1 : 2; } } $a = new A; echo isset($a->p) ? 1 : 2, empty($a->q) ? 1 : 2,
--  $a->p ?? "none", isset(A::$s) ? 1 : 2, A::$s ?? "none", isset(A::$t) ? 1 : 2, A::$missing ?? "none", $a->t();
abbrev isset_of_what_may_not_be_seen_tree : Forest
isset_of_what_may_not_be_seen_tree =
    (node kind.Class (t token.Keyword "class" (t token.Label "A" (t token.Op "{" (node kind.Property (t
    token.Keyword "private" (t token.Variable "$p" (t token.Op "=" (node kind.Number (t token.Int "1" none) (t
    token.Semi ";" none))))) (node kind.Property (t token.Keyword "protected" (t token.Variable "$q" (t token.Op
    "=" (node kind.Number (t token.Int "2" none) (t token.Semi ";" none))))) (node kind.Property (t token.Keyword
    "private" (t token.Keyword "static" (t token.Variable "$s" (t token.Op "=" (node kind.Number (t token.Int "3"
    none) (t token.Semi ";" none)))))) (node kind.Property (t token.Keyword "static" (t token.Variable "$t" (t
    token.Op "=" (node kind.Number (t token.Int "4" none) (t token.Semi ";" none))))) (node kind.Method (t
    token.Keyword "function" (t token.Label "t" (t token.Op "(" (t token.Op ")" (node kind.Block (t token.Op "{"
    (node kind.Return (t token.Keyword "return" (node kind.Ternary (node kind.Isset (t token.Keyword "isset" (t
    token.Op "(" (node kind.Prop (node kind.Variable (t token.Variable "$this" none) (t token.Op "->" (t
    token.Label "p" none))) (t token.Op "," (node kind.Prop (node kind.Variable (t token.Variable "$this" none) (t
    token.Op "->" (t token.Label "q" none))) (t token.Op "," (node kind.StaticProp (t token.Label "self" (t
    token.Op "::" (t token.Variable "$s" none))) (t token.Op ")" none)))))))) (t token.Op "?" (node kind.Number (t
    token.Int "1" none) (t token.Op ":" (node kind.Number (t token.Int "2" none) none))))) (t token.Semi ";"
    none))) (t token.Op "}" none))) none))))) (t token.Op "}" none))))))))) (node kind.ExprStmt (node kind.Assign
    (node kind.Variable (t token.Variable "$a" none) (t token.Op "=" (node kind.New (t token.Keyword "new" (t
    token.Label "A" none)) none))) (t token.Semi ";" none)) (node kind.Echo (t token.Keyword "echo" (node
    kind.Ternary (node kind.Isset (t token.Keyword "isset" (t token.Op "(" (node kind.Prop (node kind.Variable (t
    token.Variable "$a" none) (t token.Op "->" (t token.Label "p" none))) (t token.Op ")" none)))) (t token.Op "?"
    (node kind.Number (t token.Int "1" none) (t token.Op ":" (node kind.Number (t token.Int "2" none) none))))) (t
    token.Op "," (node kind.Ternary (node kind.EmptyTest (t token.Keyword "empty" (t token.Op "(" (node kind.Prop
    (node kind.Variable (t token.Variable "$a" none) (t token.Op "->" (t token.Label "q" none))) (t token.Op ")"
    none)))) (t token.Op "?" (node kind.Number (t token.Int "1" none) (t token.Op ":" (node kind.Number (t
    token.Int "2" none) none))))) (t token.Op "," (node kind.Binary (node kind.Prop (node kind.Variable (t
    token.Variable "$a" none) (t token.Op "->" (t token.Label "p" none))) (t token.Op "??" (node kind.Text (t
    token.Text "\"none\"" none) none))) (t token.Op "," (node kind.Ternary (node kind.Isset (t token.Keyword
    "isset" (t token.Op "(" (node kind.StaticProp (t token.Label "A" (t token.Op "::" (t token.Variable "$s"
    none))) (t token.Op ")" none)))) (t token.Op "?" (node kind.Number (t token.Int "1" none) (t token.Op ":"
    (node kind.Number (t token.Int "2" none) none))))) (t token.Op "," (node kind.Binary (node kind.StaticProp (t
    token.Label "A" (t token.Op "::" (t token.Variable "$s" none))) (t token.Op "??" (node kind.Text (t token.Text
    "\"none\"" none) none))) (t token.Op "," (node kind.Ternary (node kind.Isset (t token.Keyword "isset" (t
    token.Op "(" (node kind.StaticProp (t token.Label "A" (t token.Op "::" (t token.Variable "$t" none))) (t
    token.Op ")" none)))) (t token.Op "?" (node kind.Number (t token.Int "1" none) (t token.Op ":" (node
    kind.Number (t token.Int "2" none) none))))) (t token.Op "," (node kind.Binary (node kind.StaticProp (t
    token.Label "A" (t token.Op "::" (t token.Variable "$missing" none))) (t token.Op "??" (node kind.Text (t
    token.Text "\"none\"" none) none))) (t token.Op "," (node kind.MethodCall (node kind.Variable (t
    token.Variable "$a" none) (t token.Op "->" (t token.Label "t" (t token.Op "(" (node kind.Args none (t token.Op
    ")" none)))))) (t token.Semi ";" none))))))))))))))))) none)))

isset_of_what_may_not_be_seen : Comes 200 (file isset_of_what_may_not_be_seen_tree) (file isset_of_what_may_not_be_seen_tree) (codes "a.php")
    ((codes "21none2none1none1"), ended)
    ((codes "21none2none1none1"), ended)
unfolding builtin_rows named_constants word_constants is_same_name newer_functions newer_classes newer_constants beyond_functions beyond_classes beyond_constants
isset_of_what_may_not_be_seen = (refl, refl)

-- <?php function f($a = 1, $b) { return $a . $b; } echo f(2, 3); function g(int $a = null, $b) { return ($a ?? "null") . $b; } echo g(null, 4);
abbrev default_before_a_required_one_tree : Forest
default_before_a_required_one_tree =
    (node kind.Function (t token.Keyword "function" (t token.Label "f" (t token.Op "(" (node kind.Param (t
    token.Variable "$a" (t token.Op "=" (node kind.Number (t token.Int "1" none) none))) (t token.Op "," (node
    kind.Param (t token.Variable "$b" none) (t token.Op ")" (node kind.Block (t token.Op "{" (node kind.Return (t
    token.Keyword "return" (node kind.Binary (node kind.Variable (t token.Variable "$a" none) (t token.Op "."
    (node kind.Variable (t token.Variable "$b" none) none))) (t token.Semi ";" none))) (t token.Op "}" none)))
    none)))))))) (node kind.Echo (t token.Keyword "echo" (node kind.Call (t token.Label "f" (t token.Op "(" (node
    kind.Args (node kind.Number (t token.Int "2" none) (t token.Op "," (node kind.Number (t token.Int "3" none)
    none))) (t token.Op ")" none)))) (t token.Semi ";" none))) (node kind.Function (t token.Keyword "function" (t
    token.Label "g" (t token.Op "(" (node kind.Param (node kind.TypeName (t token.Label "int" none) (t
    token.Variable "$a" (t token.Op "=" (node kind.Constant (t token.Label "null" none) none)))) (t token.Op ","
    (node kind.Param (t token.Variable "$b" none) (t token.Op ")" (node kind.Block (t token.Op "{" (node
    kind.Return (t token.Keyword "return" (node kind.Binary (node kind.Paren (t token.Op "(" (node kind.Binary
    (node kind.Variable (t token.Variable "$a" none) (t token.Op "??" (node kind.Text (t token.Text "\"null\""
    none) none))) (t token.Op ")" none))) (t token.Op "." (node kind.Variable (t token.Variable "$b" none) none)))
    (t token.Semi ";" none))) (t token.Op "}" none))) none)))))))) (node kind.Echo (t token.Keyword "echo" (node
    kind.Call (t token.Label "g" (t token.Op "(" (node kind.Args (node kind.Constant (t token.Label "null" none)
    (t token.Op "," (node kind.Number (t token.Int "4" none) none))) (t token.Op ")" none)))) (t token.Semi ";"
    none))) none))))

default_before_a_required_one : Comes 200 (file default_before_a_required_one_tree) (file default_before_a_required_one_tree) (codes "a.php")
    ((codes "23null4"), ended)
    ((codes "23null4"), ended)
unfolding builtin_rows named_constants word_constants is_same_name newer_functions newer_classes newer_constants beyond_functions beyond_classes beyond_constants
default_before_a_required_one = (refl, refl)

-- <?php function f($a = 1, $b) { return $a . $b; } echo 1; f();
abbrev default_before_a_required_one_taken_tree : Forest
default_before_a_required_one_taken_tree =
    (node kind.Function (t token.Keyword "function" (t token.Label "f" (t token.Op "(" (node kind.Param (t
    token.Variable "$a" (t token.Op "=" (node kind.Number (t token.Int "1" none) none))) (t token.Op "," (node
    kind.Param (t token.Variable "$b" none) (t token.Op ")" (node kind.Block (t token.Op "{" (node kind.Return (t
    token.Keyword "return" (node kind.Binary (node kind.Variable (t token.Variable "$a" none) (t token.Op "."
    (node kind.Variable (t token.Variable "$b" none) none))) (t token.Semi ";" none))) (t token.Op "}" none)))
    none)))))))) (node kind.Echo (t token.Keyword "echo" (node kind.Number (t token.Int "1" none) (t token.Semi
    ";" none))) (node kind.ExprStmt (node kind.Call (t token.Label "f" (t token.Op "(" (node kind.Args none (t
    token.Op ")" none)))) (t token.Semi ";" none)) none)))

default_before_a_required_one_taken : Comes 200 (file default_before_a_required_one_taken_tree) (file default_before_a_required_one_taken_tree) (codes "a.php")
    ((codes "1"), outside Call)
    ((codes "1"), outside Call)
unfolding builtin_rows named_constants word_constants is_same_name newer_functions newer_classes newer_constants beyond_functions beyond_classes beyond_constants
default_before_a_required_one_taken = (refl, refl)

-- <?php foreach ([1, 2] as $x) { try { echo $x; } finally { foreach ([3, 4] as $y) { if ($y == 4) break; echo $y; } } }
abbrev break_inside_finally_tree : Forest
break_inside_finally_tree =
    (node kind.Foreach (t token.Keyword "foreach" (t token.Op "(" (node kind.Array (t token.Op "[" (node kind.Item
    (node kind.Number (t token.Int "1" none) none) (t token.Op "," (node kind.Item (node kind.Number (t token.Int
    "2" none) none) (t token.Op "]" none))))) (t token.Keyword "as" (node kind.Variable (t token.Variable "$x"
    none) (t token.Op ")" (node kind.Block (t token.Op "{" (node kind.Try (t token.Keyword "try" (node kind.Block
    (t token.Op "{" (node kind.Echo (t token.Keyword "echo" (node kind.Variable (t token.Variable "$x" none) (t
    token.Semi ";" none))) (t token.Op "}" none))) (t token.Keyword "finally" (node kind.Block (t token.Op "{"
    (node kind.Foreach (t token.Keyword "foreach" (t token.Op "(" (node kind.Array (t token.Op "[" (node kind.Item
    (node kind.Number (t token.Int "3" none) none) (t token.Op "," (node kind.Item (node kind.Number (t token.Int
    "4" none) none) (t token.Op "]" none))))) (t token.Keyword "as" (node kind.Variable (t token.Variable "$y"
    none) (t token.Op ")" (node kind.Block (t token.Op "{" (node kind.If (t token.Keyword "if" (t token.Op "("
    (node kind.Binary (node kind.Variable (t token.Variable "$y" none) (t token.Op "==" (node kind.Number (t
    token.Int "4" none) none))) (t token.Op ")" (node kind.Break (t token.Keyword "break" (t token.Semi ";" none))
    none))))) (node kind.Echo (t token.Keyword "echo" (node kind.Variable (t token.Variable "$y" none) (t
    token.Semi ";" none))) (t token.Op "}" none)))) none))))))) (t token.Op "}" none))) none)))) (t token.Op "}"
    none))) none))))))) none)

break_inside_finally : Comes 200 (file break_inside_finally_tree) (file break_inside_finally_tree) (codes "a.php")
    ((codes "1323"), ended)
    ((codes "1323"), ended)
unfolding builtin_rows named_constants word_constants is_same_name newer_functions newer_classes newer_constants beyond_functions beyond_classes beyond_constants
break_inside_finally = (refl, refl)

-- <?php foreach ([1, 2] as $x) { try { echo $x; } finally { break; } }
abbrev break_out_of_finally_tree : Forest
break_out_of_finally_tree =
    (node kind.Foreach (t token.Keyword "foreach" (t token.Op "(" (node kind.Array (t token.Op "[" (node kind.Item
    (node kind.Number (t token.Int "1" none) none) (t token.Op "," (node kind.Item (node kind.Number (t token.Int
    "2" none) none) (t token.Op "]" none))))) (t token.Keyword "as" (node kind.Variable (t token.Variable "$x"
    none) (t token.Op ")" (node kind.Block (t token.Op "{" (node kind.Try (t token.Keyword "try" (node kind.Block
    (t token.Op "{" (node kind.Echo (t token.Keyword "echo" (node kind.Variable (t token.Variable "$x" none) (t
    token.Semi ";" none))) (t token.Op "}" none))) (t token.Keyword "finally" (node kind.Block (t token.Op "{"
    (node kind.Break (t token.Keyword "break" (t token.Semi ";" none)) (t token.Op "}" none))) none)))) (t
    token.Op "}" none))) none))))))) none)

break_out_of_finally : Comes 200 (file break_out_of_finally_tree) (file break_out_of_finally_tree) (codes "a.php")
    ((codes "1"), outside NoRule)
    ((codes "1"), outside NoRule)
unfolding builtin_rows named_constants word_constants is_same_name newer_functions newer_classes newer_constants beyond_functions beyond_classes beyond_constants
break_out_of_finally = (refl, refl)

-- <?php foreach ([1, 2] as $x) { try { throw new Error; } finally { echo $x; continue; } }
abbrev continue_out_of_finally_tree : Forest
continue_out_of_finally_tree =
    (node kind.Foreach (t token.Keyword "foreach" (t token.Op "(" (node kind.Array (t token.Op "[" (node kind.Item
    (node kind.Number (t token.Int "1" none) none) (t token.Op "," (node kind.Item (node kind.Number (t token.Int
    "2" none) none) (t token.Op "]" none))))) (t token.Keyword "as" (node kind.Variable (t token.Variable "$x"
    none) (t token.Op ")" (node kind.Block (t token.Op "{" (node kind.Try (t token.Keyword "try" (node kind.Block
    (t token.Op "{" (node kind.Throw (t token.Keyword "throw" (node kind.New (t token.Keyword "new" (t token.Label
    "Error" none)) (t token.Semi ";" none))) (t token.Op "}" none))) (t token.Keyword "finally" (node kind.Block
    (t token.Op "{" (node kind.Echo (t token.Keyword "echo" (node kind.Variable (t token.Variable "$x" none) (t
    token.Semi ";" none))) (node kind.Continue (t token.Keyword "continue" (t token.Semi ";" none)) (t token.Op
    "}" none)))) none)))) (t token.Op "}" none))) none))))))) none)

continue_out_of_finally : Comes 200 (file continue_out_of_finally_tree) (file continue_out_of_finally_tree) (codes "a.php")
    ((codes "1"), outside NoRule)
    ((codes "1"), outside NoRule)
unfolding builtin_rows named_constants word_constants is_same_name newer_functions newer_classes newer_constants beyond_functions beyond_classes beyond_constants
continue_out_of_finally = (refl, refl)

-- <?php $a = [1, 2]; $r = &$a[0]; $r = 5; echo count($a), implode(",", $a), count(array_keys($a)), is_array($a) ? 1 : 2, array_key_exists(0, $a) ? 1 : 2;
abbrev builtins_copy_nothing_tree : Forest
builtins_copy_nothing_tree =
    (node kind.ExprStmt (node kind.Assign (node kind.Variable (t token.Variable "$a" none) (t token.Op "=" (node
    kind.Array (t token.Op "[" (node kind.Item (node kind.Number (t token.Int "1" none) none) (t token.Op ","
    (node kind.Item (node kind.Number (t token.Int "2" none) none) (t token.Op "]" none))))) none))) (t token.Semi
    ";" none)) (node kind.ExprStmt (node kind.AssignRef (node kind.Variable (t token.Variable "$r" none) (t
    token.Op "=" (t token.Op "&" (node kind.Offset (node kind.Variable (t token.Variable "$a" none) (t token.Op
    "[" (node kind.Number (t token.Int "0" none) (t token.Op "]" none)))) none)))) (t token.Semi ";" none)) (node
    kind.ExprStmt (node kind.Assign (node kind.Variable (t token.Variable "$r" none) (t token.Op "=" (node
    kind.Number (t token.Int "5" none) none))) (t token.Semi ";" none)) (node kind.Echo (t token.Keyword "echo"
    (node kind.Call (t token.Label "count" (t token.Op "(" (node kind.Args (node kind.Variable (t token.Variable
    "$a" none) none) (t token.Op ")" none)))) (t token.Op "," (node kind.Call (t token.Label "implode" (t token.Op
    "(" (node kind.Args (node kind.Text (t token.Text "\",\"" none) (t token.Op "," (node kind.Variable (t
    token.Variable "$a" none) none))) (t token.Op ")" none)))) (t token.Op "," (node kind.Call (t token.Label
    "count" (t token.Op "(" (node kind.Args (node kind.Call (t token.Label "array_keys" (t token.Op "(" (node
    kind.Args (node kind.Variable (t token.Variable "$a" none) none) (t token.Op ")" none)))) none) (t token.Op
    ")" none)))) (t token.Op "," (node kind.Ternary (node kind.Call (t token.Label "is_array" (t token.Op "("
    (node kind.Args (node kind.Variable (t token.Variable "$a" none) none) (t token.Op ")" none)))) (t token.Op
    "?" (node kind.Number (t token.Int "1" none) (t token.Op ":" (node kind.Number (t token.Int "2" none)
    none))))) (t token.Op "," (node kind.Ternary (node kind.Call (t token.Label "array_key_exists" (t token.Op "("
    (node kind.Args (node kind.Number (t token.Int "0" none) (t token.Op "," (node kind.Variable (t token.Variable
    "$a" none) none))) (t token.Op ")" none)))) (t token.Op "?" (node kind.Number (t token.Int "1" none) (t
    token.Op ":" (node kind.Number (t token.Int "2" none) none))))) (t token.Semi ";" none))))))))))) none))))

builtins_copy_nothing : Comes 200 (file builtins_copy_nothing_tree) (file builtins_copy_nothing_tree) (codes "a.php")
    ((codes "25,2211"), ended)
    ((codes "25,2211"), ended)
unfolding builtin_rows named_constants word_constants is_same_name newer_functions newer_classes newer_constants beyond_functions beyond_classes beyond_constants
builtins_copy_nothing = (refl, refl)

-- <?php $x = 1; echo $x; $GLOBALS = [];
abbrev globals_as_a_whole_tree : Forest
globals_as_a_whole_tree =
    (node kind.ExprStmt (node kind.Assign (node kind.Variable (t token.Variable "$x" none) (t token.Op "=" (node
    kind.Number (t token.Int "1" none) none))) (t token.Semi ";" none)) (node kind.Echo (t token.Keyword "echo"
    (node kind.Variable (t token.Variable "$x" none) (t token.Semi ";" none))) (node kind.ExprStmt (node
    kind.Assign (node kind.Variable (t token.Variable "$GLOBALS" none) (t token.Op "=" (node kind.Array (t
    token.Op "[" (t token.Op "]" none)) none))) (t token.Semi ";" none)) none)))

globals_as_a_whole : Comes 200 (file globals_as_a_whole_tree) (file globals_as_a_whole_tree) (codes "a.php")
    ((codes "1"), outside NoRule)
    ((codes "1"), outside NoRule)
unfolding builtin_rows named_constants word_constants is_same_name newer_functions newer_classes newer_constants beyond_functions beyond_classes beyond_constants
globals_as_a_whole = (refl, refl)

-- <?php echo 1; $g = &$GLOBALS;
abbrev globals_referred_to_tree : Forest
globals_referred_to_tree =
    (node kind.Echo (t token.Keyword "echo" (node kind.Number (t token.Int "1" none) (t token.Semi ";" none)))
    (node kind.ExprStmt (node kind.AssignRef (node kind.Variable (t token.Variable "$g" none) (t token.Op "=" (t
    token.Op "&" (node kind.Variable (t token.Variable "$GLOBALS" none) none)))) (t token.Semi ";" none)) none))

globals_referred_to : Comes 200 (file globals_referred_to_tree) (file globals_referred_to_tree) (codes "a.php")
    ((codes "1"), outside NoRule)
    ((codes "1"), outside NoRule)
unfolding builtin_rows named_constants word_constants is_same_name newer_functions newer_classes newer_constants beyond_functions beyond_classes beyond_constants
globals_referred_to = (refl, refl)

-- <?php $x = 1; echo $x; echo $GLOBALS["x"];
abbrev globals_read_tree : Forest
globals_read_tree =
    (node kind.ExprStmt (node kind.Assign (node kind.Variable (t token.Variable "$x" none) (t token.Op "=" (node
    kind.Number (t token.Int "1" none) none))) (t token.Semi ";" none)) (node kind.Echo (t token.Keyword "echo"
    (node kind.Variable (t token.Variable "$x" none) (t token.Semi ";" none))) (node kind.Echo (t token.Keyword
    "echo" (node kind.Offset (node kind.Variable (t token.Variable "$GLOBALS" none) (t token.Op "[" (node
    kind.Text (t token.Text "\"x\"" none) (t token.Op "]" none)))) (t token.Semi ";" none))) none)))

globals_read : Comes 200 (file globals_read_tree) (file globals_read_tree) (codes "a.php")
    ((codes "1"), outside NoRule)
    ((codes "1"), outside NoRule)
unfolding builtin_rows named_constants word_constants is_same_name newer_functions newer_classes newer_constants beyond_functions beyond_classes beyond_constants
globals_read = (refl, refl)

-- <?php echo 1; echo "$GLOBALS[x]";
abbrev globals_in_a_text_tree : Forest
globals_in_a_text_tree =
    (node kind.Echo (t token.Keyword "echo" (node kind.Number (t token.Int "1" none) (t token.Semi ";" none)))
    (node kind.Echo (t token.Keyword "echo" (node kind.Quoted (t token.Quote "\"" (node kind.Offset (node
    kind.Variable (t token.Variable "$GLOBALS" none) (t token.Op "[" (t token.Label "x" (t token.Op "]" none))))
    (t token.QuotedEnd "\"" none))) (t token.Semi ";" none))) none))

globals_in_a_text : Comes 200 (file globals_in_a_text_tree) (file globals_in_a_text_tree) (codes "a.php")
    ((codes "1"), outside NoRule)
    ((codes "1"), outside NoRule)
unfolding builtin_rows named_constants word_constants is_same_name newer_functions newer_classes newer_constants beyond_functions beyond_classes beyond_constants
globals_in_a_text = (refl, refl)

-- <?php echo 1; echo $_SERVER["argc"] ?? 0;
abbrev server_read_tree : Forest
server_read_tree =
    (node kind.Echo (t token.Keyword "echo" (node kind.Number (t token.Int "1" none) (t token.Semi ";" none)))
    (node kind.Echo (t token.Keyword "echo" (node kind.Binary (node kind.Offset (node kind.Variable (t
    token.Variable "$_SERVER" none) (t token.Op "[" (node kind.Text (t token.Text "\"argc\"" none) (t token.Op "]"
    none)))) (t token.Op "??" (node kind.Number (t token.Int "0" none) none))) (t token.Semi ";" none))) none))

server_read : Comes 200 (file server_read_tree) (file server_read_tree) (codes "a.php")
    ((codes "1"), outside NoRule)
    ((codes "1"), outside NoRule)
unfolding builtin_rows named_constants word_constants is_same_name newer_functions newer_classes newer_constants beyond_functions beyond_classes beyond_constants
server_read = (refl, refl)

-- <?php $i = 1; $j = 2; function g() { global $j; $j = 5; return 1; } echo $i + $j++, $i . g(), $i == ($j = 1) ? 1 :
--  2, "$i{$j}"; $a = [1, 2, 3]; $k = 0; $a[$k] = 7; echo $a[$k], $a[$k + 1] + $k++;
abbrev late_without_a_write_tree : Forest
late_without_a_write_tree =
    (node kind.ExprStmt (node kind.Assign (node kind.Variable (t token.Variable "$i" none) (t token.Op "=" (node
    kind.Number (t token.Int "1" none) none))) (t token.Semi ";" none)) (node kind.ExprStmt (node kind.Assign
    (node kind.Variable (t token.Variable "$j" none) (t token.Op "=" (node kind.Number (t token.Int "2" none)
    none))) (t token.Semi ";" none)) (node kind.Function (t token.Keyword "function" (t token.Label "g" (t
    token.Op "(" (t token.Op ")" (node kind.Block (t token.Op "{" (node kind.Global (t token.Keyword "global"
    (node kind.Variable (t token.Variable "$j" none) (t token.Semi ";" none))) (node kind.ExprStmt (node
    kind.Assign (node kind.Variable (t token.Variable "$j" none) (t token.Op "=" (node kind.Number (t token.Int
    "5" none) none))) (t token.Semi ";" none)) (node kind.Return (t token.Keyword "return" (node kind.Number (t
    token.Int "1" none) (t token.Semi ";" none))) (t token.Op "}" none))))) none))))) (node kind.Echo (t
    token.Keyword "echo" (node kind.Binary (node kind.Variable (t token.Variable "$i" none) (t token.Op "+" (node
    kind.Postfix (node kind.Variable (t token.Variable "$j" none) (t token.Op "++" none)) none))) (t token.Op ","
    (node kind.Binary (node kind.Variable (t token.Variable "$i" none) (t token.Op "." (node kind.Call (t
    token.Label "g" (t token.Op "(" (node kind.Args none (t token.Op ")" none)))) none))) (t token.Op "," (node
    kind.Ternary (node kind.Binary (node kind.Variable (t token.Variable "$i" none) (t token.Op "==" (node
    kind.Paren (t token.Op "(" (node kind.Assign (node kind.Variable (t token.Variable "$j" none) (t token.Op "="
    (node kind.Number (t token.Int "1" none) none))) (t token.Op ")" none))) none))) (t token.Op "?" (node
    kind.Number (t token.Int "1" none) (t token.Op ":" (node kind.Number (t token.Int "2" none) none))))) (t
    token.Op "," (node kind.Quoted (t token.Quote "\"" (node kind.Variable (t token.Variable "$i" none) (t
    token.CurlyOpen "{" (node kind.Variable (t token.Variable "$j" none) (t token.Op "}" (t token.QuotedEnd "\""
    none)))))) (t token.Semi ";" none))))))))) (node kind.ExprStmt (node kind.Assign (node kind.Variable (t
    token.Variable "$a" none) (t token.Op "=" (node kind.Array (t token.Op "[" (node kind.Item (node kind.Number
    (t token.Int "1" none) none) (t token.Op "," (node kind.Item (node kind.Number (t token.Int "2" none) none) (t
    token.Op "," (node kind.Item (node kind.Number (t token.Int "3" none) none) (t token.Op "]" none)))))))
    none))) (t token.Semi ";" none)) (node kind.ExprStmt (node kind.Assign (node kind.Variable (t token.Variable
    "$k" none) (t token.Op "=" (node kind.Number (t token.Int "0" none) none))) (t token.Semi ";" none)) (node
    kind.ExprStmt (node kind.Assign (node kind.Offset (node kind.Variable (t token.Variable "$a" none) (t token.Op
    "[" (node kind.Variable (t token.Variable "$k" none) (t token.Op "]" none)))) (t token.Op "=" (node
    kind.Number (t token.Int "7" none) none))) (t token.Semi ";" none)) (node kind.Echo (t token.Keyword "echo"
    (node kind.Offset (node kind.Variable (t token.Variable "$a" none) (t token.Op "[" (node kind.Variable (t
    token.Variable "$k" none) (t token.Op "]" none)))) (t token.Op "," (node kind.Binary (node kind.Offset (node
    kind.Variable (t token.Variable "$a" none) (t token.Op "[" (node kind.Binary (node kind.Variable (t
    token.Variable "$k" none) (t token.Op "+" (node kind.Number (t token.Int "1" none) none))) (t token.Op "]"
    none)))) (t token.Op "+" (node kind.Postfix (node kind.Variable (t token.Variable "$k" none) (t token.Op "++"
    none)) none))) (t token.Semi ";" none))))) none))))))))

late_without_a_write : Comes 200 (file late_without_a_write_tree) (file late_without_a_write_tree) (codes "a.php")
    ((codes "31111172"), ended)
    ((codes "31111172"), ended)
unfolding builtin_rows named_constants word_constants is_same_name newer_functions newer_classes newer_constants beyond_functions beyond_classes beyond_constants
late_without_a_write = (refl, refl)

-- <?php $i = 1; echo $i; echo $i + $i++;
abbrev sum_read_late_tree : Forest
sum_read_late_tree =
    (node kind.ExprStmt (node kind.Assign (node kind.Variable (t token.Variable "$i" none) (t token.Op "=" (node
    kind.Number (t token.Int "1" none) none))) (t token.Semi ";" none)) (node kind.Echo (t token.Keyword "echo"
    (node kind.Variable (t token.Variable "$i" none) (t token.Semi ";" none))) (node kind.Echo (t token.Keyword
    "echo" (node kind.Binary (node kind.Variable (t token.Variable "$i" none) (t token.Op "+" (node kind.Postfix
    (node kind.Variable (t token.Variable "$i" none) (t token.Op "++" none)) none))) (t token.Semi ";" none)))
    none)))

sum_read_late : Comes 200 (file sum_read_late_tree) (file sum_read_late_tree) (codes "a.php")
    ((codes "1"), outside Reference)
    ((codes "1"), outside Reference)
unfolding builtin_rows named_constants word_constants is_same_name newer_functions newer_classes newer_constants beyond_functions beyond_classes beyond_constants
sum_read_late = (refl, refl)

-- <?php $i = 1; echo $i; echo $i . ($i = 2);
abbrev text_read_late_tree : Forest
text_read_late_tree =
    (node kind.ExprStmt (node kind.Assign (node kind.Variable (t token.Variable "$i" none) (t token.Op "=" (node
    kind.Number (t token.Int "1" none) none))) (t token.Semi ";" none)) (node kind.Echo (t token.Keyword "echo"
    (node kind.Variable (t token.Variable "$i" none) (t token.Semi ";" none))) (node kind.Echo (t token.Keyword
    "echo" (node kind.Binary (node kind.Variable (t token.Variable "$i" none) (t token.Op "." (node kind.Paren (t
    token.Op "(" (node kind.Assign (node kind.Variable (t token.Variable "$i" none) (t token.Op "=" (node
    kind.Number (t token.Int "2" none) none))) (t token.Op ")" none))) none))) (t token.Semi ";" none))) none)))

text_read_late : Comes 200 (file text_read_late_tree) (file text_read_late_tree) (codes "a.php")
    ((codes "1"), outside Reference)
    ((codes "1"), outside Reference)
unfolding builtin_rows named_constants word_constants is_same_name newer_functions newer_classes newer_constants beyond_functions beyond_classes beyond_constants
text_read_late = (refl, refl)

-- <?php $i = 1; echo $i; echo $i == ++$i ? 1 : 2;
abbrev comparison_read_late_tree : Forest
comparison_read_late_tree =
    (node kind.ExprStmt (node kind.Assign (node kind.Variable (t token.Variable "$i" none) (t token.Op "=" (node
    kind.Number (t token.Int "1" none) none))) (t token.Semi ";" none)) (node kind.Echo (t token.Keyword "echo"
    (node kind.Variable (t token.Variable "$i" none) (t token.Semi ";" none))) (node kind.Echo (t token.Keyword
    "echo" (node kind.Ternary (node kind.Binary (node kind.Variable (t token.Variable "$i" none) (t token.Op "=="
    (node kind.Prefix (t token.Op "++" (node kind.Variable (t token.Variable "$i" none) none)) none))) (t token.Op
    "?" (node kind.Number (t token.Int "1" none) (t token.Op ":" (node kind.Number (t token.Int "2" none)
    none))))) (t token.Semi ";" none))) none)))

comparison_read_late : Comes 200 (file comparison_read_late_tree) (file comparison_read_late_tree) (codes "a.php")
    ((codes "1"), outside Reference)
    ((codes "1"), outside Reference)
unfolding builtin_rows named_constants word_constants is_same_name newer_functions newer_classes newer_constants beyond_functions beyond_classes beyond_constants
comparison_read_late = (refl, refl)

-- <?php $k = [0, 0, 0]; $j = 1; echo $j; $k[$j] = ++$j;
abbrev key_read_late_tree : Forest
key_read_late_tree =
    (node kind.ExprStmt (node kind.Assign (node kind.Variable (t token.Variable "$k" none) (t token.Op "=" (node
    kind.Array (t token.Op "[" (node kind.Item (node kind.Number (t token.Int "0" none) none) (t token.Op ","
    (node kind.Item (node kind.Number (t token.Int "0" none) none) (t token.Op "," (node kind.Item (node
    kind.Number (t token.Int "0" none) none) (t token.Op "]" none))))))) none))) (t token.Semi ";" none)) (node
    kind.ExprStmt (node kind.Assign (node kind.Variable (t token.Variable "$j" none) (t token.Op "=" (node
    kind.Number (t token.Int "1" none) none))) (t token.Semi ";" none)) (node kind.Echo (t token.Keyword "echo"
    (node kind.Variable (t token.Variable "$j" none) (t token.Semi ";" none))) (node kind.ExprStmt (node
    kind.Assign (node kind.Offset (node kind.Variable (t token.Variable "$k" none) (t token.Op "[" (node
    kind.Variable (t token.Variable "$j" none) (t token.Op "]" none)))) (t token.Op "=" (node kind.Prefix (t
    token.Op "++" (node kind.Variable (t token.Variable "$j" none) none)) none))) (t token.Semi ";" none))
    none))))

key_read_late : Comes 200 (file key_read_late_tree) (file key_read_late_tree) (codes "a.php")
    ((codes "1"), outside Reference)
    ((codes "1"), outside Reference)
unfolding builtin_rows named_constants word_constants is_same_name newer_functions newer_classes newer_constants beyond_functions beyond_classes beyond_constants
key_read_late = (refl, refl)

-- <?php $i = 1; function g() { global $i; $i = 5; return 1; } echo $i; echo $i + g();
abbrev global_read_late_tree : Forest
global_read_late_tree =
    (node kind.ExprStmt (node kind.Assign (node kind.Variable (t token.Variable "$i" none) (t token.Op "=" (node
    kind.Number (t token.Int "1" none) none))) (t token.Semi ";" none)) (node kind.Function (t token.Keyword
    "function" (t token.Label "g" (t token.Op "(" (t token.Op ")" (node kind.Block (t token.Op "{" (node
    kind.Global (t token.Keyword "global" (node kind.Variable (t token.Variable "$i" none) (t token.Semi ";"
    none))) (node kind.ExprStmt (node kind.Assign (node kind.Variable (t token.Variable "$i" none) (t token.Op "="
    (node kind.Number (t token.Int "5" none) none))) (t token.Semi ";" none)) (node kind.Return (t token.Keyword
    "return" (node kind.Number (t token.Int "1" none) (t token.Semi ";" none))) (t token.Op "}" none)))))
    none))))) (node kind.Echo (t token.Keyword "echo" (node kind.Variable (t token.Variable "$i" none) (t
    token.Semi ";" none))) (node kind.Echo (t token.Keyword "echo" (node kind.Binary (node kind.Variable (t
    token.Variable "$i" none) (t token.Op "+" (node kind.Call (t token.Label "g" (t token.Op "(" (node kind.Args
    none (t token.Op ")" none)))) none))) (t token.Semi ";" none))) none))))

global_read_late : Comes 200 (file global_read_late_tree) (file global_read_late_tree) (codes "a.php")
    ((codes "1"), outside Reference)
    ((codes "1"), outside Reference)
unfolding builtin_rows named_constants word_constants is_same_name newer_functions newer_classes newer_constants beyond_functions beyond_classes beyond_constants
global_read_late = (refl, refl)

-- <?php $i = 1; echo $i; $a = [$i => $i++];
abbrev item_key_read_late_tree : Forest
item_key_read_late_tree =
    (node kind.ExprStmt (node kind.Assign (node kind.Variable (t token.Variable "$i" none) (t token.Op "=" (node
    kind.Number (t token.Int "1" none) none))) (t token.Semi ";" none)) (node kind.Echo (t token.Keyword "echo"
    (node kind.Variable (t token.Variable "$i" none) (t token.Semi ";" none))) (node kind.ExprStmt (node
    kind.Assign (node kind.Variable (t token.Variable "$a" none) (t token.Op "=" (node kind.Array (t token.Op "["
    (node kind.Item (node kind.Variable (t token.Variable "$i" none) (t token.Op "=>" (node kind.Postfix (node
    kind.Variable (t token.Variable "$i" none) (t token.Op "++" none)) none))) (t token.Op "]" none))) none))) (t
    token.Semi ";" none)) none)))

item_key_read_late : Comes 200 (file item_key_read_late_tree) (file item_key_read_late_tree) (codes "a.php")
    ((codes "1"), outside Reference)
    ((codes "1"), outside Reference)
unfolding builtin_rows named_constants word_constants is_same_name newer_functions newer_classes newer_constants beyond_functions beyond_classes beyond_constants
item_key_read_late = (refl, refl)

-- <?php class A { public $p; } $o = new A; echo 1; $o->p = ($o = new A);
abbrev object_read_late_tree : Forest
object_read_late_tree =
    (node kind.Class (t token.Keyword "class" (t token.Label "A" (t token.Op "{" (node kind.Property (t
    token.Keyword "public" (t token.Variable "$p" (t token.Semi ";" none))) (t token.Op "}" none))))) (node
    kind.ExprStmt (node kind.Assign (node kind.Variable (t token.Variable "$o" none) (t token.Op "=" (node
    kind.New (t token.Keyword "new" (t token.Label "A" none)) none))) (t token.Semi ";" none)) (node kind.Echo (t
    token.Keyword "echo" (node kind.Number (t token.Int "1" none) (t token.Semi ";" none))) (node kind.ExprStmt
    (node kind.Assign (node kind.Prop (node kind.Variable (t token.Variable "$o" none) (t token.Op "->" (t
    token.Label "p" none))) (t token.Op "=" (node kind.Paren (t token.Op "(" (node kind.Assign (node kind.Variable
    (t token.Variable "$o" none) (t token.Op "=" (node kind.New (t token.Keyword "new" (t token.Label "A" none))
    none))) (t token.Op ")" none))) none))) (t token.Semi ";" none)) none))))

object_read_late : Comes 200 (file object_read_late_tree) (file object_read_late_tree) (codes "a.php")
    ((codes "1"), ended)
    ((codes "1"), ended)
unfolding builtin_rows named_constants word_constants is_same_name newer_functions newer_classes newer_constants beyond_functions beyond_classes beyond_constants
object_read_late = (refl, refl)

-- <?php $i = 1; switch ($i) { case 2: echo 2; case $i++: echo "x"; }
abbrev subject_read_late_tree : Forest
subject_read_late_tree =
    (node kind.ExprStmt (node kind.Assign (node kind.Variable (t token.Variable "$i" none) (t token.Op "=" (node
    kind.Number (t token.Int "1" none) none))) (t token.Semi ";" none)) (node kind.Switch (t token.Keyword
    "switch" (t token.Op "(" (node kind.Variable (t token.Variable "$i" none) (t token.Op ")" (t token.Op "{"
    (node kind.Case (t token.Keyword "case" (node kind.Number (t token.Int "2" none) (t token.Op ":" (node
    kind.Echo (t token.Keyword "echo" (node kind.Number (t token.Int "2" none) (t token.Semi ";" none))) none))))
    (node kind.Case (t token.Keyword "case" (node kind.Postfix (node kind.Variable (t token.Variable "$i" none) (t
    token.Op "++" none)) (t token.Op ":" (node kind.Echo (t token.Keyword "echo" (node kind.Text (t token.Text
    "\"x\"" none) (t token.Semi ";" none))) none)))) (t token.Op "}" none)))))))) none))

subject_read_late : Comes 200 (file subject_read_late_tree) (file subject_read_late_tree) (codes "a.php")
    ((codes ""), outside Reference)
    ((codes ""), outside Reference)
unfolding builtin_rows named_constants word_constants is_same_name newer_functions newer_classes newer_constants beyond_functions beyond_classes beyond_constants
subject_read_late = (refl, refl)

-- <?php $i = 1; echo $i; echo ($i) + $i++;
abbrev brackets_read_late_tree : Forest
brackets_read_late_tree =
    (node kind.ExprStmt (node kind.Assign (node kind.Variable (t token.Variable "$i" none) (t token.Op "=" (node
    kind.Number (t token.Int "1" none) none))) (t token.Semi ";" none)) (node kind.Echo (t token.Keyword "echo"
    (node kind.Variable (t token.Variable "$i" none) (t token.Semi ";" none))) (node kind.Echo (t token.Keyword
    "echo" (node kind.Binary (node kind.Paren (t token.Op "(" (node kind.Variable (t token.Variable "$i" none) (t
    token.Op ")" none))) (t token.Op "+" (node kind.Postfix (node kind.Variable (t token.Variable "$i" none) (t
    token.Op "++" none)) none))) (t token.Semi ";" none))) none)))

brackets_read_late : Comes 200 (file brackets_read_late_tree) (file brackets_read_late_tree) (codes "a.php")
    ((codes "1"), outside Reference)
    ((codes "1"), outside Reference)
unfolding builtin_rows named_constants word_constants is_same_name newer_functions newer_classes newer_constants beyond_functions beyond_classes beyond_constants
brackets_read_late = (refl, refl)

-- <?php echo 1; echo __line__;
abbrev line_in_lower_case_tree : Forest
line_in_lower_case_tree =
    (node kind.Echo (t token.Keyword "echo" (node kind.Number (t token.Int "1" none) (t token.Semi ";" none)))
    (node kind.Echo (t token.Keyword "echo" (node kind.Constant (t token.Label "__line__" none) (t token.Semi ";"
    none))) none))

line_in_lower_case : Comes 200 (file line_in_lower_case_tree) (file line_in_lower_case_tree) (codes "a.php")
    ((codes "1"), outside NoRule)
    ((codes "1"), outside NoRule)
unfolding builtin_rows named_constants word_constants is_same_name newer_functions newer_classes newer_constants beyond_functions beyond_classes beyond_constants
line_in_lower_case = (refl, refl)

-- <?php function f() { echo 1; return __Function__; } f();
abbrev function_in_any_case_tree : Forest
function_in_any_case_tree =
    (node kind.Function (t token.Keyword "function" (t token.Label "f" (t token.Op "(" (t token.Op ")" (node
    kind.Block (t token.Op "{" (node kind.Echo (t token.Keyword "echo" (node kind.Number (t token.Int "1" none) (t
    token.Semi ";" none))) (node kind.Return (t token.Keyword "return" (node kind.Constant (t token.Label
    "__Function__" none) (t token.Semi ";" none))) (t token.Op "}" none)))) none))))) (node kind.ExprStmt (node
    kind.Call (t token.Label "f" (t token.Op "(" (node kind.Args none (t token.Op ")" none)))) (t token.Semi ";"
    none)) none))

function_in_any_case : Comes 200 (file function_in_any_case_tree) (file function_in_any_case_tree) (codes "a.php")
    ((codes "1"), outside NoRule)
    ((codes "1"), outside NoRule)
unfolding builtin_rows named_constants word_constants is_same_name newer_functions newer_classes newer_constants beyond_functions beyond_classes beyond_constants
function_in_any_case = (refl, refl)
