-- Rows of whole programs: files, input and namespaces. The 8.3 side is what PHP 8.2 echoes, where it has a meaning here.
use Rattle.std.proofs.Common.{[], ◌∷◌, refl, codes}
use Rattle.php_tree.specs.declared.token.TokenKind.TheVariants as token
use Rattle.php_tree.specs.declared.kind.NodeKind.TheVariants as kind
use Rattle.php_tree.specs.Tree.{Forest, none, node}
use Rattle.builtin_tables.specs.Beyond.{beyond_functions, beyond_classes, beyond_constants}
use Rattle.builtin_tables.specs.Builtins.{builtin_rows}
use Rattle.builtin_tables.specs.Constants.{named_constants, word_constants}
use Rattle.builtin_tables.specs.Named.{is_same_name}
use Rattle.builtin_tables.specs.Newer.{newer_functions, newer_classes, newer_constants}
use Rattle.php_meaning.specs.Cause.{NoRule, Declaration}
use Rattle.meaning_rows.specs.Words.{t, file, ended, outside, Comes}

-- lib.php:
-- <?php $v = 'lib'; function helper() { return 'h'; } return 42;
-- a.php:
-- <?php $r = include 'lib.php'; echo $r, $v, helper(); echo (include_once 'lib.php') === true ? 't' : 'f';
abbrev included_tree0 : Forest
included_tree0 =
    (node kind.ExprStmt (node kind.Assign (node kind.Variable (t token.Variable "$v" none) (t token.Op "=" (node
    kind.Text (t token.Text "'lib'" none) none))) (t token.Semi ";" none)) (node kind.Function (t token.Keyword
    "function" (t token.Label "helper" (t token.Op "(" (t token.Op ")" (node kind.Block (t token.Op "{" (node
    kind.Return (t token.Keyword "return" (node kind.Text (t token.Text "'h'" none) (t token.Semi ";" none))) (t
    token.Op "}" none))) none))))) (node kind.Return (t token.Keyword "return" (node kind.Number (t token.Int "42"
    none) (t token.Semi ";" none))) none)))

abbrev included_tree1 : Forest
included_tree1 =
    (node kind.ExprStmt (node kind.Assign (node kind.Variable (t token.Variable "$r" none) (t token.Op "=" (node
    kind.Include (t token.Keyword "include" (node kind.Text (t token.Text "'lib.php'" none) none)) none))) (t
    token.Semi ";" none)) (node kind.Echo (t token.Keyword "echo" (node kind.Variable (t token.Variable "$r" none) (t
    token.Op "," (node kind.Variable (t token.Variable "$v" none) (t token.Op "," (node kind.Call (t token.Label
    "helper" (t token.Op "(" (node kind.Args none (t token.Op ")" none)))) (t token.Semi ";" none))))))) (node
    kind.Echo (t token.Keyword "echo" (node kind.Ternary (node kind.Binary (node kind.Paren (t token.Op "(" (node
    kind.Include (t token.Keyword "include_once" (node kind.Text (t token.Text "'lib.php'" none) none)) (t token.Op
    ")" none))) (t token.Op "===" (node kind.Constant (t token.Label "true" none) none))) (t token.Op "?" (node
    kind.Text (t token.Text "'t'" none) (t token.Op ":" (node kind.Text (t token.Text "'f'" none) none))))) (t
    token.Semi ";" none))) none)))

included : Comes 200 ((codes "lib.php", included_tree0) ∷ (codes "a.php", included_tree1) ∷ [])
    ((codes "lib.php", included_tree0) ∷ (codes "a.php", included_tree1) ∷ []) (codes "a.php")
    ((codes "42libht"), ended)
    ((codes "42libht"), ended)
unfolding builtin_rows named_constants word_constants is_same_name newer_functions newer_classes newer_constants beyond_functions beyond_classes beyond_constants
included = (refl, refl)

-- sub/b.php:
-- <?php return 'b';
-- a.php:
-- <?php echo require __DIR__ . '/sub/b.php';
abbrev required_by_folder_tree0 : Forest
required_by_folder_tree0 =
    (node kind.Return (t token.Keyword "return" (node kind.Text (t token.Text "'b'" none) (t token.Semi ";" none)))
    none)

abbrev required_by_folder_tree1 : Forest
required_by_folder_tree1 =
    (node kind.Echo (t token.Keyword "echo" (node kind.Include (t token.Keyword "require" (node kind.Binary (node
    kind.Constant (t token.Label "__DIR__" none) (t token.Op "." (node kind.Text (t token.Text "'/sub/b.php'" none)
    none))) none)) (t token.Semi ";" none))) none)

required_by_folder : Comes 200 ((codes "sub/b.php", required_by_folder_tree0)
    ∷ (codes "a.php", required_by_folder_tree1) ∷ [])
    ((codes "sub/b.php", required_by_folder_tree0) ∷ (codes "a.php", required_by_folder_tree1) ∷ []) (codes "a.php")
    ((codes "b"), ended)
    ((codes "b"), ended)
unfolding builtin_rows named_constants word_constants is_same_name newer_functions newer_classes newer_constants beyond_functions beyond_classes beyond_constants
required_by_folder = (refl, refl)

-- <?php echo $_GET['id'], isset($_GET['no']) ? 't' : 'f', count($_POST), $_GET['id'] + 1; function f() { return $_GET['id']; } echo f();
abbrev input_tree : Forest
input_tree =
    (node kind.Echo (t token.Keyword "echo" (node kind.Offset (node kind.Variable (t token.Variable "$_GET" none) (t
    token.Op "[" (node kind.Text (t token.Text "'id'" none) (t token.Op "]" none)))) (t token.Op "," (node
    kind.Ternary (node kind.Isset (t token.Keyword "isset" (t token.Op "(" (node kind.Offset (node kind.Variable (t
    token.Variable "$_GET" none) (t token.Op "[" (node kind.Text (t token.Text "'no'" none) (t token.Op "]" none))))
    (t token.Op ")" none)))) (t token.Op "?" (node kind.Text (t token.Text "'t'" none) (t token.Op ":" (node kind.Text
    (t token.Text "'f'" none) none))))) (t token.Op "," (node kind.Call (t token.Label "count" (t token.Op "(" (node
    kind.Args (node kind.Variable (t token.Variable "$_POST" none) none) (t token.Op ")" none)))) (t token.Op ","
    (node kind.Binary (node kind.Offset (node kind.Variable (t token.Variable "$_GET" none) (t token.Op "[" (node
    kind.Text (t token.Text "'id'" none) (t token.Op "]" none)))) (t token.Op "+" (node kind.Number (t token.Int "1"
    none) none))) (t token.Semi ";" none))))))))) (node kind.Function (t token.Keyword "function" (t token.Label "f"
    (t token.Op "(" (t token.Op ")" (node kind.Block (t token.Op "{" (node kind.Return (t token.Keyword "return" (node
    kind.Offset (node kind.Variable (t token.Variable "$_GET" none) (t token.Op "[" (node kind.Text (t token.Text
    "'id'" none) (t token.Op "]" none)))) (t token.Semi ";" none))) (t token.Op "}" none))) none))))) (node kind.Echo
    (t token.Keyword "echo" (node kind.Call (t token.Label "f" (t token.Op "(" (node kind.Args none (t token.Op ")"
    none)))) (t token.Semi ";" none))) none)))

input : Comes 200 (file input_tree) (file input_tree) (codes "a.php")
    ((codes "2f032"), ended)
    ((codes "2f032"), ended)
unfolding builtin_rows named_constants word_constants is_same_name newer_functions newer_classes newer_constants beyond_functions beyond_classes beyond_constants
input = (refl, refl)

-- <?php namespace A\B; use A\B\C as D; class C { const K = 'k'; function n() { return __NAMESPACE__; } } function f()
--  { return 'f'; } echo f(), \A\B\f(), namespace\f(), D::K, (new C)->n(), C::class;
abbrev namespaces_tree : Forest
namespaces_tree =
    (node kind.Namespace (t token.Keyword "namespace" (t token.Label "A" (t token.Op "\\" (t token.Label "B" (t
    token.Semi ";" none))))) (node kind.Use (t token.Keyword "use" (t token.Label "A" (t token.Op "\\" (t token.Label
    "B" (t token.Op "\\" (t token.Label "C" (t token.Keyword "as" (t token.Label "D" (t token.Semi ";" none)))))))))
    (node kind.Class (t token.Keyword "class" (t token.Label "C" (t token.Op "{" (node kind.ClassConst (t
    token.Keyword "const" (t token.Label "K" (t token.Op "=" (node kind.Text (t token.Text "'k'" none) (t token.Semi
    ";" none))))) (node kind.Method (t token.Keyword "function" (t token.Label "n" (t token.Op "(" (t token.Op ")"
    (node kind.Block (t token.Op "{" (node kind.Return (t token.Keyword "return" (node kind.Constant (t token.Label
    "__NAMESPACE__" none) (t token.Semi ";" none))) (t token.Op "}" none))) none))))) (t token.Op "}" none)))))) (node
    kind.Function (t token.Keyword "function" (t token.Label "f" (t token.Op "(" (t token.Op ")" (node kind.Block (t
    token.Op "{" (node kind.Return (t token.Keyword "return" (node kind.Text (t token.Text "'f'" none) (t token.Semi
    ";" none))) (t token.Op "}" none))) none))))) (node kind.Echo (t token.Keyword "echo" (node kind.Call (t
    token.Label "f" (t token.Op "(" (node kind.Args none (t token.Op ")" none)))) (t token.Op "," (node kind.Call (t
    token.Op "\\" (t token.Label "A" (t token.Op "\\" (t token.Label "B" (t token.Op "\\" (t token.Label "f" (t
    token.Op "(" (node kind.Args none (t token.Op ")" none))))))))) (t token.Op "," (node kind.Call (t token.Keyword
    "namespace" (t token.Op "\\" (t token.Label "f" (t token.Op "(" (node kind.Args none (t token.Op ")" none)))))) (t
    token.Op "," (node kind.ClassConstant (t token.Label "D" (t token.Op "::" (t token.Label "K" none))) (t token.Op
    "," (node kind.MethodCall (node kind.Paren (t token.Op "(" (node kind.New (t token.Keyword "new" (t token.Label
    "C" none)) (t token.Op ")" none))) (t token.Op "->" (t token.Label "n" (t token.Op "(" (node kind.Args none (t
    token.Op ")" none)))))) (t token.Op "," (node kind.ClassConstant (t token.Label "C" (t token.Op "::" (t
    token.Keyword "class" none))) (t token.Semi ";" none))))))))))))) none)))))

abbrev namespaces_new_tree : Forest
namespaces_new_tree =
    (node kind.Namespace (t token.Keyword "namespace" (t token.Name "A\\B" (t token.Semi ";" none))) (node kind.Use (t
    token.Keyword "use" (t token.Name "A\\B\\C" (t token.Keyword "as" (t token.Label "D" (t token.Semi ";" none)))))
    (node kind.Class (t token.Keyword "class" (t token.Label "C" (t token.Op "{" (node kind.ClassConst (t
    token.Keyword "const" (t token.Label "K" (t token.Op "=" (node kind.Text (t token.Text "'k'" none) (t token.Semi
    ";" none))))) (node kind.Method (t token.Keyword "function" (t token.Label "n" (t token.Op "(" (t token.Op ")"
    (node kind.Block (t token.Op "{" (node kind.Return (t token.Keyword "return" (node kind.Constant (t token.Label
    "__NAMESPACE__" none) (t token.Semi ";" none))) (t token.Op "}" none))) none))))) (t token.Op "}" none)))))) (node
    kind.Function (t token.Keyword "function" (t token.Label "f" (t token.Op "(" (t token.Op ")" (node kind.Block (t
    token.Op "{" (node kind.Return (t token.Keyword "return" (node kind.Text (t token.Text "'f'" none) (t token.Semi
    ";" none))) (t token.Op "}" none))) none))))) (node kind.Echo (t token.Keyword "echo" (node kind.Call (t
    token.Label "f" (t token.Op "(" (node kind.Args none (t token.Op ")" none)))) (t token.Op "," (node kind.Call (t
    token.Name "\\A\\B\\f" (t token.Op "(" (node kind.Args none (t token.Op ")" none)))) (t token.Op "," (node
    kind.Call (t token.Name "namespace\\f" (t token.Op "(" (node kind.Args none (t token.Op ")" none)))) (t token.Op
    "," (node kind.ClassConstant (t token.Label "D" (t token.Op "::" (t token.Label "K" none))) (t token.Op "," (node
    kind.MethodCall (node kind.Paren (t token.Op "(" (node kind.New (t token.Keyword "new" (t token.Label "C" none))
    (t token.Op ")" none))) (t token.Op "->" (t token.Label "n" (t token.Op "(" (node kind.Args none (t token.Op ")"
    none)))))) (t token.Op "," (node kind.ClassConstant (t token.Label "C" (t token.Op "::" (t token.Keyword "class"
    none))) (t token.Semi ";" none))))))))))))) none)))))

namespaces : Comes 200 (file namespaces_tree) (file namespaces_new_tree) (codes "a.php")
    ((codes "fffkA\\BA\\B\\C"), ended)
    ((codes "fffkA\\BA\\B\\C"), ended)
unfolding builtin_rows named_constants word_constants is_same_name newer_functions newer_classes newer_constants beyond_functions beyond_classes beyond_constants
namespaces = (refl, refl)

-- <?php namespace A { function f() { return 'af'; } const K = 'ak'; } namespace B { use function A\f; use const A\K; echo f(), K, \strlen('x'); }
abbrev use_of_functions_tree : Forest
use_of_functions_tree =
    (node kind.Namespace (t token.Keyword "namespace" (t token.Label "A" (t token.Op "{" (node kind.Function (t
    token.Keyword "function" (t token.Label "f" (t token.Op "(" (t token.Op ")" (node kind.Block (t token.Op "{" (node
    kind.Return (t token.Keyword "return" (node kind.Text (t token.Text "'af'" none) (t token.Semi ";" none))) (t
    token.Op "}" none))) none))))) (node kind.Const (t token.Keyword "const" (t token.Label "K" (t token.Op "=" (node
    kind.Text (t token.Text "'ak'" none) (t token.Semi ";" none))))) (t token.Op "}" none)))))) (node kind.Namespace
    (t token.Keyword "namespace" (t token.Label "B" (t token.Op "{" (node kind.Use (t token.Keyword "use" (t
    token.Keyword "function" (t token.Label "A" (t token.Op "\\" (t token.Label "f" (t token.Semi ";" none)))))) (node
    kind.Use (t token.Keyword "use" (t token.Keyword "const" (t token.Label "A" (t token.Op "\\" (t token.Label "K" (t
    token.Semi ";" none)))))) (node kind.Echo (t token.Keyword "echo" (node kind.Call (t token.Label "f" (t token.Op
    "(" (node kind.Args none (t token.Op ")" none)))) (t token.Op "," (node kind.Constant (t token.Label "K" none) (t
    token.Op "," (node kind.Call (t token.Op "\\" (t token.Label "strlen" (t token.Op "(" (node kind.Args (node
    kind.Text (t token.Text "'x'" none) none) (t token.Op ")" none))))) (t token.Semi ";" none))))))) (t token.Op "}"
    none))))))) none))

abbrev use_of_functions_new_tree : Forest
use_of_functions_new_tree =
    (node kind.Namespace (t token.Keyword "namespace" (t token.Label "A" (t token.Op "{" (node kind.Function (t
    token.Keyword "function" (t token.Label "f" (t token.Op "(" (t token.Op ")" (node kind.Block (t token.Op "{" (node
    kind.Return (t token.Keyword "return" (node kind.Text (t token.Text "'af'" none) (t token.Semi ";" none))) (t
    token.Op "}" none))) none))))) (node kind.Const (t token.Keyword "const" (t token.Label "K" (t token.Op "=" (node
    kind.Text (t token.Text "'ak'" none) (t token.Semi ";" none))))) (t token.Op "}" none)))))) (node kind.Namespace
    (t token.Keyword "namespace" (t token.Label "B" (t token.Op "{" (node kind.Use (t token.Keyword "use" (t
    token.Keyword "function" (t token.Name "A\\f" (t token.Semi ";" none)))) (node kind.Use (t token.Keyword "use" (t
    token.Keyword "const" (t token.Name "A\\K" (t token.Semi ";" none)))) (node kind.Echo (t token.Keyword "echo"
    (node kind.Call (t token.Label "f" (t token.Op "(" (node kind.Args none (t token.Op ")" none)))) (t token.Op ","
    (node kind.Constant (t token.Label "K" none) (t token.Op "," (node kind.Call (t token.Name "\\strlen" (t token.Op
    "(" (node kind.Args (node kind.Text (t token.Text "'x'" none) none) (t token.Op ")" none)))) (t token.Semi ";"
    none))))))) (t token.Op "}" none))))))) none))

use_of_functions : Comes 200 (file use_of_functions_tree) (file use_of_functions_new_tree) (codes "a.php")
    ((codes "afak1"), ended)
    ((codes "afak1"), ended)
unfolding builtin_rows named_constants word_constants is_same_name newer_functions newer_classes newer_constants beyond_functions beyond_classes beyond_constants
use_of_functions = (refl, refl)

-- in sub/a.php, b.php and sub/c.php
-- <?php echo include __DIR__ . '/../b.php', include './c.php', include_once '../sub//c.php'; include '../../b.php';
abbrev paths_tree : Forest
paths_tree =
    (node kind.Echo (t token.Keyword "echo" (node kind.Include (t token.Keyword "include" (node kind.Binary (node
    kind.Constant (t token.Label "__DIR__" none) (t token.Op "." (node kind.Text (t token.Text "'/../b.php'" none)
    none))) none)) (t token.Op "," (node kind.Include (t token.Keyword "include" (node kind.Text (t token.Text
    "'./c.php'" none) none)) (t token.Op "," (node kind.Include (t token.Keyword "include_once" (node kind.Text (t
    token.Text "'../sub//c.php'" none) none)) (t token.Semi ";" none))))))) (node kind.ExprStmt (node kind.Include
    (t token.Keyword "include" (node kind.Text (t token.Text "'../../b.php'" none) none)) (t token.Semi ";" none))
    none))

-- <?php return 'b';
abbrev paths_b_tree : Forest
paths_b_tree =
    (node kind.Return (t token.Keyword "return" (node kind.Text (t token.Text "'b'" none) (t token.Semi ";" none)))
    none)

-- <?php return 'c';
abbrev paths_c_tree : Forest
paths_c_tree =
    (node kind.Return (t token.Keyword "return" (node kind.Text (t token.Text "'c'" none) (t token.Semi ";" none)))
    none)

paths_from_the_folder : Comes 200
    ((codes "sub/a.php", paths_tree) ∷ (codes "b.php", paths_b_tree) ∷ (codes "sub/c.php", paths_c_tree) ∷ [])
    ((codes "sub/a.php", paths_tree) ∷ (codes "b.php", paths_b_tree) ∷ (codes "sub/c.php", paths_c_tree) ∷ [])
    (codes "sub/a.php")
    ((codes "bc1"), outside NoRule)
    ((codes "bc1"), outside NoRule)
unfolding builtin_rows named_constants word_constants is_same_name newer_functions newer_classes newer_constants beyond_functions beyond_classes beyond_constants
paths_from_the_folder = (refl, refl)

-- <?php include 'b.php'; include 'b.php';
abbrev included_twice_tree : Forest
included_twice_tree =
    (node kind.ExprStmt (node kind.Include (t token.Keyword "include" (node kind.Text (t token.Text "'b.php'" none)
    none)) (t token.Semi ";" none)) (node kind.ExprStmt (node kind.Include (t token.Keyword "include" (node
    kind.Text (t token.Text "'b.php'" none) none)) (t token.Semi ";" none)) none))

-- in b.php
-- <?php static $n = 0; echo ++$n;
abbrev included_twice_b_tree : Forest
included_twice_b_tree =
    (node kind.Statics (t token.Keyword "static" (t token.Variable "$n" (t token.Op "=" (node kind.Number (t
    token.Int "0" none) (t token.Semi ";" none))))) (node kind.Echo (t token.Keyword "echo" (node kind.Prefix (t
    token.Op "++" (node kind.Variable (t token.Variable "$n" none) none)) (t token.Semi ";" none))) none))

static_of_a_file_included_twice : Comes 200
    ((codes "a.php", included_twice_tree) ∷ (codes "b.php", included_twice_b_tree) ∷ [])
    ((codes "a.php", included_twice_tree) ∷ (codes "b.php", included_twice_b_tree) ∷ [])
    (codes "a.php")
    ((codes "1"), outside Declaration)
    ((codes "1"), outside Declaration)
unfolding builtin_rows named_constants word_constants is_same_name newer_functions newer_classes newer_constants beyond_functions beyond_classes beyond_constants
static_of_a_file_included_twice = (refl, refl)
