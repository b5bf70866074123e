-- Rows of whole programs: what is declared when a file starts and what is defined later on, and where includes lead. The 8.3 side
-- is what PHP 8.2 echoes, where it has a meaning here.
use Rattle.std.proofs.Common.{[], ◌∷◌, refl, codes}
use Rattle.php_tree.specs.declared.token.TokenKind.TheVariants as token
use Rattle.php_tree.specs.declared.kind.NodeKind.TheVariants as kind
use Rattle.php_tree.specs.Tree.{Forest, none, node}
use Rattle.builtin_tables.specs.Beyond.{beyond_functions, beyond_classes, beyond_constants}
use Rattle.builtin_tables.specs.Builtins.{builtin_rows}
use Rattle.builtin_tables.specs.Constants.{named_constants, word_constants}
use Rattle.builtin_tables.specs.Named.{is_same_name}
use Rattle.builtin_tables.specs.Newer.{newer_functions, newer_classes, newer_constants}
use Rattle.php_meaning.specs.Cause.{Call, Declaration, NoRule}
use Rattle.php_meaning.specs.runs.World.{Threw}
use Rattle.meaning_rows.specs.Words.{t, file, ended, outside, Comes}

-- <?php f(); { function f() { echo "f"; } class A { public $p = 2; } } echo (new A)->p;
abbrev functions_in_a_bare_block_tree : Forest
functions_in_a_bare_block_tree =
    (node kind.ExprStmt (node kind.Call (t token.Label "f" (t token.Op "(" (node kind.Args none (t token.Op ")"
    none)))) (t token.Semi ";" none)) (node kind.Block (t token.Op "{" (node kind.Function (t token.Keyword
    "function" (t token.Label "f" (t token.Op "(" (t token.Op ")" (node kind.Block (t token.Op "{" (node
    kind.Echo (t token.Keyword "echo" (node kind.Text (t token.Text "\"f\"" none) (t token.Semi ";" none))) (t
    token.Op "}" none))) none))))) (node kind.Class (t token.Keyword "class" (t token.Label "A" (t token.Op "{"
    (node kind.Property (t token.Keyword "public" (t token.Variable "$p" (t token.Op "=" (node kind.Number (t
    token.Int "2" none) (t token.Semi ";" none))))) (t token.Op "}" none))))) (t token.Op "}" none)))) (node
    kind.Echo (t token.Keyword "echo" (node kind.Prop (node kind.Paren (t token.Op "(" (node kind.New (t
    token.Keyword "new" (t token.Label "A" none)) (t token.Op ")" none))) (t token.Op "->" (t token.Label "p"
    none))) (t token.Semi ";" none))) none)))

functions_in_a_bare_block : Comes 200 (file functions_in_a_bare_block_tree) (file functions_in_a_bare_block_tree) (codes "a.php")
    ((codes "f2"), ended)
    ((codes "f2"), ended)
unfolding builtin_rows named_constants word_constants is_same_name newer_functions newer_classes newer_constants beyond_functions beyond_classes beyond_constants
functions_in_a_bare_block = (refl, refl)

-- <?php try { f(); } catch (Error $e) { echo "no"; } if (true) { { function f() { echo "f"; } } } f();
abbrev function_in_a_block_of_an_if_tree : Forest
function_in_a_block_of_an_if_tree =
    (node kind.Try (t token.Keyword "try" (node kind.Block (t token.Op "{" (node kind.ExprStmt (node kind.Call
    (t token.Label "f" (t token.Op "(" (node kind.Args none (t token.Op ")" none)))) (t token.Semi ";" none)) (t
    token.Op "}" none))) (t token.Keyword "catch" (t token.Op "(" (t token.Label "Error" (t token.Variable "$e"
    (t token.Op ")" (node kind.Block (t token.Op "{" (node kind.Echo (t token.Keyword "echo" (node kind.Text (t
    token.Text "\"no\"" none) (t token.Semi ";" none))) (t token.Op "}" none))) none)))))))) (node kind.If (t
    token.Keyword "if" (t token.Op "(" (node kind.Constant (t token.Label "true" none) (t token.Op ")" (node
    kind.Block (t token.Op "{" (node kind.Block (t token.Op "{" (node kind.Function (t token.Keyword "function"
    (t token.Label "f" (t token.Op "(" (t token.Op ")" (node kind.Block (t token.Op "{" (node kind.Echo (t
    token.Keyword "echo" (node kind.Text (t token.Text "\"f\"" none) (t token.Semi ";" none))) (t token.Op "}"
    none))) none))))) (t token.Op "}" none))) (t token.Op "}" none))) none))))) (node kind.ExprStmt (node
    kind.Call (t token.Label "f" (t token.Op "(" (node kind.Args none (t token.Op ")" none)))) (t token.Semi ";"
    none)) none)))

function_in_a_block_of_an_if : Comes 200 (file function_in_a_block_of_an_if_tree) (file function_in_a_block_of_an_if_tree) (codes "a.php")
    ((codes "nof"), ended)
    ((codes "nof"), ended)
unfolding builtin_rows named_constants word_constants is_same_name newer_functions newer_classes newer_constants beyond_functions beyond_classes beyond_constants
function_in_a_block_of_an_if = (refl, refl)

-- <?php echo 1; new A; class A { function __toString() { return ""; } }
abbrev class_with_to_text_used_before_tree : Forest
class_with_to_text_used_before_tree =
    (node kind.Echo (t token.Keyword "echo" (node kind.Number (t token.Int "1" none) (t token.Semi ";" none)))
    (node kind.ExprStmt (node kind.New (t token.Keyword "new" (t token.Label "A" none)) (t token.Semi ";" none))
    (node kind.Class (t token.Keyword "class" (t token.Label "A" (t token.Op "{" (node kind.Method (t
    token.Keyword "function" (t token.Label "__toString" (t token.Op "(" (t token.Op ")" (node kind.Block (t
    token.Op "{" (node kind.Return (t token.Keyword "return" (node kind.Text (t token.Text "\"\"" none) (t
    token.Semi ";" none))) (t token.Op "}" none))) none))))) (t token.Op "}" none))))) none)))

class_with_to_text_used_before : Comes 200 (file class_with_to_text_used_before_tree) (file class_with_to_text_used_before_tree) (codes "a.php")
    ((codes "1"), outside Declaration)
    ((codes "1"), outside Declaration)
unfolding builtin_rows named_constants word_constants is_same_name newer_functions newer_classes newer_constants beyond_functions beyond_classes beyond_constants
class_with_to_text_used_before = (refl, refl)

-- <?php interface I { const C = 3; function __toString(); } echo I::C;
abbrev interface_with_to_text_reached_tree : Forest
interface_with_to_text_reached_tree =
    (node kind.Interface (t token.Keyword "interface" (t token.Label "I" (t token.Op "{" (node kind.ClassConst
    (t token.Keyword "const" (t token.Label "C" (t token.Op "=" (node kind.Number (t token.Int "3" none) (t
    token.Semi ";" none))))) (node kind.Method (t token.Keyword "function" (t token.Label "__toString" (t
    token.Op "(" (t token.Op ")" (t token.Semi ";" none))))) (t token.Op "}" none)))))) (node kind.Echo (t
    token.Keyword "echo" (node kind.ClassConstant (t token.Label "I" (t token.Op "::" (t token.Label "C" none)))
    (t token.Semi ";" none))) none))

interface_with_to_text_reached : Comes 200 (file interface_with_to_text_reached_tree) (file interface_with_to_text_reached_tree) (codes "a.php")
    ((codes "3"), ended)
    ((codes "3"), ended)
unfolding builtin_rows named_constants word_constants is_same_name newer_functions newer_classes newer_constants beyond_functions beyond_classes beyond_constants
interface_with_to_text_reached = (refl, refl)

-- <?php class A { private $p = 1; function f() { echo 2; include 'b.php'; } } (new A)->f();
abbrev include_in_a_method_tree : Forest
include_in_a_method_tree =
    (node kind.Class (t token.Keyword "class" (t token.Label "A" (t token.Op "{" (node kind.Property (t
    token.Keyword "private" (t token.Variable "$p" (t token.Op "=" (node kind.Number (t token.Int "1" none) (t
    token.Semi ";" none))))) (node kind.Method (t token.Keyword "function" (t token.Label "f" (t token.Op "(" (t
    token.Op ")" (node kind.Block (t token.Op "{" (node kind.Echo (t token.Keyword "echo" (node kind.Number (t
    token.Int "2" none) (t token.Semi ";" none))) (node kind.ExprStmt (node kind.Include (t token.Keyword
    "include" (node kind.Text (t token.Text "'b.php'" none) none)) (t token.Semi ";" none)) (t token.Op "}"
    none)))) none))))) (t token.Op "}" none)))))) (node kind.ExprStmt (node kind.MethodCall (node kind.Paren (t
    token.Op "(" (node kind.New (t token.Keyword "new" (t token.Label "A" none)) (t token.Op ")" none))) (t
    token.Op "->" (t token.Label "f" (t token.Op "(" (node kind.Args none (t token.Op ")" none)))))) (t
    token.Semi ";" none)) none))

-- in b.php
-- <?php echo $this->p;
abbrev include_in_a_method_b_tree : Forest
include_in_a_method_b_tree =
    (node kind.Echo (t token.Keyword "echo" (node kind.Prop (node kind.Variable (t token.Variable "$this" none)
    (t token.Op "->" (t token.Label "p" none))) (t token.Semi ";" none))) none)

include_in_a_method : Comes 200
    ((codes "a.php", include_in_a_method_tree) ∷ (codes "b.php", include_in_a_method_b_tree) ∷ [])
    ((codes "a.php", include_in_a_method_tree) ∷ (codes "b.php", include_in_a_method_b_tree) ∷ [])
    (codes "a.php")
    ((codes "2"), outside Call)
    ((codes "2"), outside Call)
unfolding builtin_rows named_constants word_constants is_same_name newer_functions newer_classes newer_constants beyond_functions beyond_classes beyond_constants
include_in_a_method = (refl, refl)

-- <?php function f() { $v = 1; include 'b.php'; return $v; } echo f(), isset($v) ? 1 : 0;
abbrev include_in_a_function_tree : Forest
include_in_a_function_tree =
    (node kind.Function (t token.Keyword "function" (t token.Label "f" (t token.Op "(" (t token.Op ")" (node
    kind.Block (t token.Op "{" (node kind.ExprStmt (node kind.Assign (node kind.Variable (t token.Variable "$v"
    none) (t token.Op "=" (node kind.Number (t token.Int "1" none) none))) (t token.Semi ";" none)) (node
    kind.ExprStmt (node kind.Include (t token.Keyword "include" (node kind.Text (t token.Text "'b.php'" none)
    none)) (t token.Semi ";" none)) (node kind.Return (t token.Keyword "return" (node kind.Variable (t
    token.Variable "$v" none) (t token.Semi ";" none))) (t token.Op "}" none))))) none))))) (node kind.Echo (t
    token.Keyword "echo" (node kind.Call (t token.Label "f" (t token.Op "(" (node kind.Args none (t token.Op ")"
    none)))) (t token.Op "," (node kind.Ternary (node kind.Isset (t token.Keyword "isset" (t token.Op "(" (node
    kind.Variable (t token.Variable "$v" none) (t token.Op ")" none)))) (t token.Op "?" (node kind.Number (t
    token.Int "1" none) (t token.Op ":" (node kind.Number (t token.Int "0" none) none))))) (t token.Semi ";"
    none))))) none))

-- in b.php
-- <?php $v = $v + 4;
abbrev include_in_a_function_b_tree : Forest
include_in_a_function_b_tree =
    (node kind.ExprStmt (node kind.Assign (node kind.Variable (t token.Variable "$v" none) (t token.Op "=" (node
    kind.Binary (node kind.Variable (t token.Variable "$v" none) (t token.Op "+" (node kind.Number (t token.Int
    "4" none) none))) none))) (t token.Semi ";" none)) none)

include_in_a_function : Comes 200
    ((codes "a.php", include_in_a_function_tree) ∷ (codes "b.php", include_in_a_function_b_tree) ∷ [])
    ((codes "a.php", include_in_a_function_tree) ∷ (codes "b.php", include_in_a_function_b_tree) ∷ [])
    (codes "a.php")
    ((codes "50"), ended)
    ((codes "50"), ended)
unfolding builtin_rows named_constants word_constants is_same_name newer_functions newer_classes newer_constants beyond_functions beyond_classes beyond_constants
include_in_a_function = (refl, refl)

-- <?php echo 1; include '/b.php';
abbrev path_from_the_root_tree : Forest
path_from_the_root_tree =
    (node kind.Echo (t token.Keyword "echo" (node kind.Number (t token.Int "1" none) (t token.Semi ";" none)))
    (node kind.ExprStmt (node kind.Include (t token.Keyword "include" (node kind.Text (t token.Text "'/b.php'"
    none) none)) (t token.Semi ";" none)) none))

-- in b.php
-- <?php echo 2;
abbrev path_from_the_root_b_tree : Forest
path_from_the_root_b_tree =
    (node kind.Echo (t token.Keyword "echo" (node kind.Number (t token.Int "2" none) (t token.Semi ";" none)))
    none)

path_from_the_root : Comes 200
    ((codes "a.php", path_from_the_root_tree) ∷ (codes "b.php", path_from_the_root_b_tree) ∷ [])
    ((codes "a.php", path_from_the_root_tree) ∷ (codes "b.php", path_from_the_root_b_tree) ∷ [])
    (codes "a.php")
    ((codes "1"), outside NoRule)
    ((codes "1"), outside NoRule)
unfolding builtin_rows named_constants word_constants is_same_name newer_functions newer_classes newer_constants beyond_functions beyond_classes beyond_constants
path_from_the_root = (refl, refl)

-- <?php echo 1; include __DIR__ . 'b.php';
abbrev folder_without_a_slash_tree : Forest
folder_without_a_slash_tree =
    (node kind.Echo (t token.Keyword "echo" (node kind.Number (t token.Int "1" none) (t token.Semi ";" none)))
    (node kind.ExprStmt (node kind.Include (t token.Keyword "include" (node kind.Binary (node kind.Constant (t
    token.Label "__DIR__" none) (t token.Op "." (node kind.Text (t token.Text "'b.php'" none) none))) none)) (t
    token.Semi ";" none)) none))

-- in b.php
-- <?php echo 2;
abbrev folder_without_a_slash_b_tree : Forest
folder_without_a_slash_b_tree =
    (node kind.Echo (t token.Keyword "echo" (node kind.Number (t token.Int "2" none) (t token.Semi ";" none)))
    none)

folder_without_a_slash : Comes 200
    ((codes "a.php", folder_without_a_slash_tree) ∷ (codes "b.php", folder_without_a_slash_b_tree) ∷ [])
    ((codes "a.php", folder_without_a_slash_tree) ∷ (codes "b.php", folder_without_a_slash_b_tree) ∷ [])
    (codes "a.php")
    ((codes "1"), outside NoRule)
    ((codes "1"), outside NoRule)
unfolding builtin_rows named_constants word_constants is_same_name newer_functions newer_classes newer_constants beyond_functions beyond_classes beyond_constants
folder_without_a_slash = (refl, refl)

-- <?php echo 1; echo foo; const foo = 2;
abbrev constant_read_before_const_tree : Forest
constant_read_before_const_tree =
    (node kind.Echo (t token.Keyword "echo" (node kind.Number (t token.Int "1" none) (t token.Semi ";" none)))
    (node kind.Echo (t token.Keyword "echo" (node kind.Constant (t token.Label "foo" none) (t token.Semi ";"
    none))) (node kind.Const (t token.Keyword "const" (t token.Label "foo" (t token.Op "=" (node kind.Number (t
    token.Int "2" none) (t token.Semi ";" none))))) none)))

constant_read_before_const : Comes 200 (file constant_read_before_const_tree) (file constant_read_before_const_tree) (codes "a.php")
    ((codes "1"), outside Declaration)
    ((codes "1"), outside Declaration)
unfolding builtin_rows named_constants word_constants is_same_name newer_functions newer_classes newer_constants beyond_functions beyond_classes beyond_constants
constant_read_before_const = (refl, refl)

-- <?php echo 1; echo foo; if ($argc) { define('foo', 2); }
abbrev constant_read_before_define_tree : Forest
constant_read_before_define_tree =
    (node kind.Echo (t token.Keyword "echo" (node kind.Number (t token.Int "1" none) (t token.Semi ";" none)))
    (node kind.Echo (t token.Keyword "echo" (node kind.Constant (t token.Label "foo" none) (t token.Semi ";"
    none))) (node kind.If (t token.Keyword "if" (t token.Op "(" (node kind.Variable (t token.Variable "$argc"
    none) (t token.Op ")" (node kind.Block (t token.Op "{" (node kind.ExprStmt (node kind.Call (t token.Label
    "define" (t token.Op "(" (node kind.Args (node kind.Text (t token.Text "'foo'" none) (t token.Op "," (node
    kind.Number (t token.Int "2" none) none))) (t token.Op ")" none)))) (t token.Semi ";" none)) (t token.Op "}"
    none))) none))))) none)))

constant_read_before_define : Comes 200 (file constant_read_before_define_tree) (file constant_read_before_define_tree) (codes "a.php")
    ((codes "1"), outside Declaration)
    ((codes "1"), outside Declaration)
unfolding builtin_rows named_constants word_constants is_same_name newer_functions newer_classes newer_constants beyond_functions beyond_classes beyond_constants
constant_read_before_define = (refl, refl)

-- <?php echo 1; echo foo; include 'b.php';
abbrev constant_read_before_define_in_another_file_tree : Forest
constant_read_before_define_in_another_file_tree =
    (node kind.Echo (t token.Keyword "echo" (node kind.Number (t token.Int "1" none) (t token.Semi ";" none)))
    (node kind.Echo (t token.Keyword "echo" (node kind.Constant (t token.Label "foo" none) (t token.Semi ";"
    none))) (node kind.ExprStmt (node kind.Include (t token.Keyword "include" (node kind.Text (t token.Text
    "'b.php'" none) none)) (t token.Semi ";" none)) none)))

-- in b.php
-- <?php function f() { return [\define("foo", 2)]; }
abbrev constant_read_before_define_in_another_file_b_tree : Forest
constant_read_before_define_in_another_file_b_tree =
    (node kind.Function (t token.Keyword "function" (t token.Label "f" (t token.Op "(" (t token.Op ")" (node
    kind.Block (t token.Op "{" (node kind.Return (t token.Keyword "return" (node kind.Array (t token.Op "["
    (node kind.Item (node kind.Call (t token.Op "\\" (t token.Label "define" (t token.Op "(" (node kind.Args
    (node kind.Text (t token.Text "\"foo\"" none) (t token.Op "," (node kind.Number (t token.Int "2" none)
    none))) (t token.Op ")" none))))) none) (t token.Op "]" none))) (t token.Semi ";" none))) (t token.Op "}"
    none))) none))))) none)

constant_read_before_define_in_another_file : Comes 200
    ((codes "a.php", constant_read_before_define_in_another_file_tree) ∷ (codes "b.php", constant_read_before_define_in_another_file_b_tree) ∷ [])
    ((codes "a.php", constant_read_before_define_in_another_file_tree) ∷ (codes "b.php", constant_read_before_define_in_another_file_b_tree) ∷ [])
    (codes "a.php")
    ((codes "1"), outside Declaration)
    ((codes "1"), outside Declaration)
unfolding builtin_rows named_constants word_constants is_same_name newer_functions newer_classes newer_constants beyond_functions beyond_classes beyond_constants
constant_read_before_define_in_another_file = (refl, refl)

-- <?php echo foo; define('bar', 2); define('FOO', 3);
abbrev constant_that_another_name_defines_tree : Forest
constant_that_another_name_defines_tree =
    (node kind.Echo (t token.Keyword "echo" (node kind.Constant (t token.Label "foo" none) (t token.Semi ";"
    none))) (node kind.ExprStmt (node kind.Call (t token.Label "define" (t token.Op "(" (node kind.Args (node
    kind.Text (t token.Text "'bar'" none) (t token.Op "," (node kind.Number (t token.Int "2" none) none))) (t
    token.Op ")" none)))) (t token.Semi ";" none)) (node kind.ExprStmt (node kind.Call (t token.Label "define"
    (t token.Op "(" (node kind.Args (node kind.Text (t token.Text "'FOO'" none) (t token.Op "," (node
    kind.Number (t token.Int "3" none) none))) (t token.Op ")" none)))) (t token.Semi ";" none)) none)))

constant_that_another_name_defines : Comes 200 (file constant_that_another_name_defines_tree) (file constant_that_another_name_defines_tree) (codes "a.php")
    ((codes "foo"), ended)
    ((codes ""), Threw (codes "Error"))
unfolding builtin_rows named_constants word_constants is_same_name newer_functions newer_classes newer_constants beyond_functions beyond_classes beyond_constants
constant_that_another_name_defines = (refl, refl)

-- <?php namespace { echo foo; } namespace N { const foo = 2; }
abbrev constant_of_a_namespace_elsewhere_tree : Forest
constant_of_a_namespace_elsewhere_tree =
    (node kind.Namespace (t token.Keyword "namespace" (t token.Op "{" (node kind.Echo (t token.Keyword "echo"
    (node kind.Constant (t token.Label "foo" none) (t token.Semi ";" none))) (t token.Op "}" none)))) (node
    kind.Namespace (t token.Keyword "namespace" (t token.Label "N" (t token.Op "{" (node kind.Const (t
    token.Keyword "const" (t token.Label "foo" (t token.Op "=" (node kind.Number (t token.Int "2" none) (t
    token.Semi ";" none))))) (t token.Op "}" none))))) none))

constant_of_a_namespace_elsewhere : Comes 200 (file constant_of_a_namespace_elsewhere_tree) (file constant_of_a_namespace_elsewhere_tree) (codes "a.php")
    ((codes "foo"), ended)
    ((codes ""), Threw (codes "Error"))
unfolding builtin_rows named_constants word_constants is_same_name newer_functions newer_classes newer_constants beyond_functions beyond_classes beyond_constants
constant_of_a_namespace_elsewhere = (refl, refl)

-- <?php const foo = 2; echo foo; define('bar', foo + 1); echo bar;
abbrev constant_read_once_defined_tree : Forest
constant_read_once_defined_tree =
    (node kind.Const (t token.Keyword "const" (t token.Label "foo" (t token.Op "=" (node kind.Number (t
    token.Int "2" none) (t token.Semi ";" none))))) (node kind.Echo (t token.Keyword "echo" (node kind.Constant
    (t token.Label "foo" none) (t token.Semi ";" none))) (node kind.ExprStmt (node kind.Call (t token.Label
    "define" (t token.Op "(" (node kind.Args (node kind.Text (t token.Text "'bar'" none) (t token.Op "," (node
    kind.Binary (node kind.Constant (t token.Label "foo" none) (t token.Op "+" (node kind.Number (t token.Int
    "1" none) none))) none))) (t token.Op ")" none)))) (t token.Semi ";" none)) (node kind.Echo (t token.Keyword
    "echo" (node kind.Constant (t token.Label "bar" none) (t token.Semi ";" none))) none))))

constant_read_once_defined : Comes 200 (file constant_read_once_defined_tree) (file constant_read_once_defined_tree) (codes "a.php")
    ((codes "23"), ended)
    ((codes "23"), ended)
unfolding builtin_rows named_constants word_constants is_same_name newer_functions newer_classes newer_constants beyond_functions beyond_classes beyond_constants
constant_read_once_defined = (refl, refl)
