-- Rows of whole programs: names, classes, functions, constants and declarations, held against real PHP. The 8.3 side is what PHP 8.2 does,
-- where it has a meaning here; so is each refusal, but where 8.3 alone refuses.
use Rattle.std.proofs.Common.{[], refl, codes}
use Rattle.php_tree.specs.declared.token.TokenKind.TheVariants as token
use Rattle.php_tree.specs.declared.kind.NodeKind.TheVariants as kind
use Rattle.php_tree.specs.Tree.{Forest, none, node}
use Rattle.builtin_tables.specs.Beyond.{beyond_functions, beyond_classes, beyond_constants}
use Rattle.builtin_tables.specs.Builtins.{builtin_rows}
use Rattle.builtin_tables.specs.Constants.{named_constants, word_constants}
use Rattle.builtin_tables.specs.Named.{is_same_name}
use Rattle.builtin_tables.specs.Newer.{newer_functions, newer_classes, newer_constants}
use Rattle.php_meaning.specs.Cause.{Call, Declaration, NoRule}
use Rattle.php_meaning.specs.runs.World.{Threw}
use Rattle.meaning_rows.specs.Words.{t, b, file, ended, outside, Comes}

-- ---- `Stringable`, which every class of exceptions is of in 8.x alone

-- <?php try { throw new Exception("a"); } catch (Stringable $e) { echo "s"; } catch (Exception $e) { echo "e"; }
abbrev stringable_in_catch_tree : Forest
stringable_in_catch_tree =
    (node kind.Try (t token.Keyword "try" (node kind.Block (t token.Op "{" (node kind.Throw (t token.Keyword
    "throw" (node kind.New (t token.Keyword "new" (t token.Label "Exception" (t token.Op "(" (node kind.Args (node
    kind.Text (t token.Text "\"a\"" none) none) (t token.Op ")" none))))) (t token.Semi ";" none))) (t token.Op
    "}" none))) (t token.Keyword "catch" (t token.Op "(" (t token.Label "Stringable" (t token.Variable "$e" (t
    token.Op ")" (node kind.Block (t token.Op "{" (node kind.Echo (t token.Keyword "echo" (node kind.Text (t
    token.Text "\"s\"" none) (t token.Semi ";" none))) (t token.Op "}" none))) (t token.Keyword "catch" (t
    token.Op "(" (t token.Label "Exception" (t token.Variable "$e" (t token.Op ")" (node kind.Block (t token.Op
    "{" (node kind.Echo (t token.Keyword "echo" (node kind.Text (t token.Text "\"e\"" none) (t token.Semi ";"
    none))) (t token.Op "}" none))) none)))))))))))))) none)

stringable_in_catch : Comes 200 (file stringable_in_catch_tree) (file stringable_in_catch_tree) (codes "a.php")
    ((codes ""), outside Declaration)
    ((codes ""), outside Declaration)
unfolding builtin_rows named_constants word_constants is_same_name newer_functions newer_classes newer_constants beyond_functions beyond_classes beyond_constants
stringable_in_catch = (refl, refl)

-- <?php try { throw new Exception("a"); } catch (Exception $e) { echo "e"; } catch (Stringable $e) { echo "s"; }
abbrev stringable_behind_the_class_tree : Forest
stringable_behind_the_class_tree =
    (node kind.Try (t token.Keyword "try" (node kind.Block (t token.Op "{" (node kind.Throw (t token.Keyword
    "throw" (node kind.New (t token.Keyword "new" (t token.Label "Exception" (t token.Op "(" (node kind.Args (node
    kind.Text (t token.Text "\"a\"" none) none) (t token.Op ")" none))))) (t token.Semi ";" none))) (t token.Op
    "}" none))) (t token.Keyword "catch" (t token.Op "(" (t token.Label "Exception" (t token.Variable "$e" (t
    token.Op ")" (node kind.Block (t token.Op "{" (node kind.Echo (t token.Keyword "echo" (node kind.Text (t
    token.Text "\"e\"" none) (t token.Semi ";" none))) (t token.Op "}" none))) (t token.Keyword "catch" (t
    token.Op "(" (t token.Label "Stringable" (t token.Variable "$e" (t token.Op ")" (node kind.Block (t token.Op
    "{" (node kind.Echo (t token.Keyword "echo" (node kind.Text (t token.Text "\"s\"" none) (t token.Semi ";"
    none))) (t token.Op "}" none))) none)))))))))))))) none)

stringable_behind_the_class : Comes 200 (file stringable_behind_the_class_tree) (file stringable_behind_the_class_tree) (codes "a.php")
    ((codes "e"), ended)
    ((codes "e"), ended)
unfolding builtin_rows named_constants word_constants is_same_name newer_functions newer_classes newer_constants beyond_functions beyond_classes beyond_constants
stringable_behind_the_class = (refl, refl)

-- <?php $e = new Error; echo $e instanceof Stringable ? 1 : 2;
abbrev exception_of_stringable_tree : Forest
exception_of_stringable_tree =
    (node kind.ExprStmt (node kind.Assign (node kind.Variable (t token.Variable "$e" none) (t token.Op "=" (node
    kind.New (t token.Keyword "new" (t token.Label "Error" none)) none))) (t token.Semi ";" none)) (node kind.Echo
    (t token.Keyword "echo" (node kind.Ternary (node kind.InstanceOf (node kind.Variable (t token.Variable "$e"
    none) (t token.Keyword "instanceof" (t token.Label "Stringable" none))) (t token.Op "?" (node kind.Number (t
    token.Int "1" none) (t token.Op ":" (node kind.Number (t token.Int "2" none) none))))) (t token.Semi ";"
    none))) none))

exception_of_stringable : Comes 200 (file exception_of_stringable_tree) (file exception_of_stringable_tree) (codes "a.php")
    ((codes ""), outside Declaration)
    ((codes ""), outside Declaration)
unfolding builtin_rows named_constants word_constants is_same_name newer_functions newer_classes newer_constants beyond_functions beyond_classes beyond_constants
exception_of_stringable = (refl, refl)

-- <?php class A {} $a = new A; echo $a instanceof Stringable ? 1 : 2;
abbrev object_of_no_stringable_tree : Forest
object_of_no_stringable_tree =
    (node kind.Class (t token.Keyword "class" (t token.Label "A" (t token.Op "{" (t token.Op "}" none)))) (node
    kind.ExprStmt (node kind.Assign (node kind.Variable (t token.Variable "$a" none) (t token.Op "=" (node
    kind.New (t token.Keyword "new" (t token.Label "A" none)) none))) (t token.Semi ";" none)) (node kind.Echo (t
    token.Keyword "echo" (node kind.Ternary (node kind.InstanceOf (node kind.Variable (t token.Variable "$a" none)
    (t token.Keyword "instanceof" (t token.Label "Stringable" none))) (t token.Op "?" (node kind.Number (t
    token.Int "1" none) (t token.Op ":" (node kind.Number (t token.Int "2" none) none))))) (t token.Semi ";"
    none))) none)))

object_of_no_stringable : Comes 200 (file object_of_no_stringable_tree) (file object_of_no_stringable_tree) (codes "a.php")
    ((codes "2"), ended)
    ((codes "2"), ended)
unfolding builtin_rows named_constants word_constants is_same_name newer_functions newer_classes newer_constants beyond_functions beyond_classes beyond_constants
object_of_no_stringable = (refl, refl)

-- ---- all of a class is found at its first use

-- <?php class A { const K = bar; } new A; echo 1;
abbrev constant_found_by_new_tree : Forest
constant_found_by_new_tree =
    (node kind.Class (t token.Keyword "class" (t token.Label "A" (t token.Op "{" (node kind.ClassConst (t
    token.Keyword "const" (t token.Label "K" (t token.Op "=" (node kind.Constant (t token.Label "bar" none) (t
    token.Semi ";" none))))) (t token.Op "}" none))))) (node kind.ExprStmt (node kind.New (t token.Keyword "new"
    (t token.Label "A" none)) (t token.Semi ";" none)) (node kind.Echo (t token.Keyword "echo" (node kind.Number
    (t token.Int "1" none) (t token.Semi ";" none))) none)))

constant_found_by_new : Comes 200 (file constant_found_by_new_tree) (file constant_found_by_new_tree) (codes "a.php")
    ((codes "1"), ended)
    ((codes ""), Threw (codes "Error"))
unfolding builtin_rows named_constants word_constants is_same_name newer_functions newer_classes newer_constants beyond_functions beyond_classes beyond_constants
constant_found_by_new = (refl, refl)

-- <?php class A { const K = bar; } $a = new A; define("ba" . "r", 2); echo A::K;
abbrev constant_found_once_tree : Forest
constant_found_once_tree =
    (node kind.Class (t token.Keyword "class" (t token.Label "A" (t token.Op "{" (node kind.ClassConst (t
    token.Keyword "const" (t token.Label "K" (t token.Op "=" (node kind.Constant (t token.Label "bar" none) (t
    token.Semi ";" none))))) (t token.Op "}" none))))) (node kind.ExprStmt (node kind.Assign (node kind.Variable
    (t token.Variable "$a" none) (t token.Op "=" (node kind.New (t token.Keyword "new" (t token.Label "A" none))
    none))) (t token.Semi ";" none)) (node kind.ExprStmt (node kind.Call (t token.Label "define" (t token.Op "("
    (node kind.Args (node kind.Binary (node kind.Text (t token.Text "\"ba\"" none) (t token.Op "." (node
    kind.Text (t token.Text "\"r\"" none) none))) (t token.Op "," (node kind.Number (t token.Int "2" none)
    none))) (t token.Op ")" none)))) (t token.Semi ";" none)) (node kind.Echo (t token.Keyword "echo" (node
    kind.ClassConstant (t token.Label "A" (t token.Op "::" (t token.Label "K" none))) (t token.Semi ";" none)))
    none))))

constant_found_once : Comes 200 (file constant_found_once_tree) (file constant_found_once_tree) (codes "a.php")
    ((codes "bar"), ended)
    ((codes ""), Threw (codes "Error"))
unfolding builtin_rows named_constants word_constants is_same_name newer_functions newer_classes newer_constants beyond_functions beyond_classes beyond_constants
constant_found_once = (refl, refl)

-- <?php class A { public $p = bar; } try { new A; } catch (Error $e) { echo "e"; } define("ba" . "r", 2); $a = new
--  A; echo $a->p;
abbrev default_found_again_tree : Forest
default_found_again_tree =
    (node kind.Class (t token.Keyword "class" (t token.Label "A" (t token.Op "{" (node kind.Property (t
    token.Keyword "public" (t token.Variable "$p" (t token.Op "=" (node kind.Constant (t token.Label "bar" none)
    (t token.Semi ";" none))))) (t token.Op "}" none))))) (node kind.Try (t token.Keyword "try" (node kind.Block
    (t token.Op "{" (node kind.ExprStmt (node kind.New (t token.Keyword "new" (t token.Label "A" none)) (t
    token.Semi ";" none)) (t token.Op "}" none))) (t token.Keyword "catch" (t token.Op "(" (t token.Label
    "Error" (t token.Variable "$e" (t token.Op ")" (node kind.Block (t token.Op "{" (node kind.Echo (t
    token.Keyword "echo" (node kind.Text (t token.Text "\"e\"" none) (t token.Semi ";" none))) (t token.Op "}"
    none))) none)))))))) (node kind.ExprStmt (node kind.Call (t token.Label "define" (t token.Op "(" (node
    kind.Args (node kind.Binary (node kind.Text (t token.Text "\"ba\"" none) (t token.Op "." (node kind.Text (t
    token.Text "\"r\"" none) none))) (t token.Op "," (node kind.Number (t token.Int "2" none) none))) (t
    token.Op ")" none)))) (t token.Semi ";" none)) (node kind.ExprStmt (node kind.Assign (node kind.Variable (t
    token.Variable "$a" none) (t token.Op "=" (node kind.New (t token.Keyword "new" (t token.Label "A" none))
    none))) (t token.Semi ";" none)) (node kind.Echo (t token.Keyword "echo" (node kind.Prop (node kind.Variable
    (t token.Variable "$a" none) (t token.Op "->" (t token.Label "p" none))) (t token.Semi ";" none))) none)))))

default_found_again : Comes 200 (file default_found_again_tree) (file default_found_again_tree) (codes "a.php")
    ((codes "bar"), ended)
    ((codes "e2"), ended)
unfolding builtin_rows named_constants word_constants is_same_name newer_functions newer_classes newer_constants beyond_functions beyond_classes beyond_constants
default_found_again = (refl, refl)

-- <?php class A { const K = bar; static $s = 1; } echo A::$s;
abbrev constant_found_by_a_static_property_tree : Forest
constant_found_by_a_static_property_tree =
    (node kind.Class (t token.Keyword "class" (t token.Label "A" (t token.Op "{" (node kind.ClassConst (t
    token.Keyword "const" (t token.Label "K" (t token.Op "=" (node kind.Constant (t token.Label "bar" none) (t
    token.Semi ";" none))))) (node kind.Property (t token.Keyword "static" (t token.Variable "$s" (t token.Op "="
    (node kind.Number (t token.Int "1" none) (t token.Semi ";" none))))) (t token.Op "}" none)))))) (node
    kind.Echo (t token.Keyword "echo" (node kind.StaticProp (t token.Label "A" (t token.Op "::" (t token.Variable
    "$s" none))) (t token.Semi ";" none))) none))

constant_found_by_a_static_property : Comes 200 (file constant_found_by_a_static_property_tree) (file constant_found_by_a_static_property_tree) (codes "a.php")
    ((codes "1"), ended)
    ((codes ""), Threw (codes "Error"))
unfolding builtin_rows named_constants word_constants is_same_name newer_functions newer_classes newer_constants beyond_functions beyond_classes beyond_constants
constant_found_by_a_static_property = (refl, refl)

-- <?php interface I { const K = bar; } class A implements I {} new A; echo 1;
abbrev constant_of_an_interface_found_by_new_tree : Forest
constant_of_an_interface_found_by_new_tree =
    (node kind.Interface (t token.Keyword "interface" (t token.Label "I" (t token.Op "{" (node kind.ClassConst (t
    token.Keyword "const" (t token.Label "K" (t token.Op "=" (node kind.Constant (t token.Label "bar" none) (t
    token.Semi ";" none))))) (t token.Op "}" none))))) (node kind.Class (t token.Keyword "class" (t token.Label
    "A" (t token.Keyword "implements" (t token.Label "I" (t token.Op "{" (t token.Op "}" none)))))) (node
    kind.ExprStmt (node kind.New (t token.Keyword "new" (t token.Label "A" none)) (t token.Semi ";" none)) (node
    kind.Echo (t token.Keyword "echo" (node kind.Number (t token.Int "1" none) (t token.Semi ";" none))) none))))

constant_of_an_interface_found_by_new : Comes 200 (file constant_of_an_interface_found_by_new_tree) (file constant_of_an_interface_found_by_new_tree) (codes "a.php")
    ((codes "1"), ended)
    ((codes ""), Threw (codes "Error"))
unfolding builtin_rows named_constants word_constants is_same_name newer_functions newer_classes newer_constants beyond_functions beyond_classes beyond_constants
constant_of_an_interface_found_by_new = (refl, refl)

-- <?php class P { const K = bar; } class A extends P {} new A; echo 1;
abbrev constant_of_a_parent_found_by_new_tree : Forest
constant_of_a_parent_found_by_new_tree =
    (node kind.Class (t token.Keyword "class" (t token.Label "P" (t token.Op "{" (node kind.ClassConst (t
    token.Keyword "const" (t token.Label "K" (t token.Op "=" (node kind.Constant (t token.Label "bar" none) (t
    token.Semi ";" none))))) (t token.Op "}" none))))) (node kind.Class (t token.Keyword "class" (t token.Label
    "A" (t token.Keyword "extends" (t token.Label "P" (t token.Op "{" (t token.Op "}" none)))))) (node
    kind.ExprStmt (node kind.New (t token.Keyword "new" (t token.Label "A" none)) (t token.Semi ";" none)) (node
    kind.Echo (t token.Keyword "echo" (node kind.Number (t token.Int "1" none) (t token.Semi ";" none))) none))))

constant_of_a_parent_found_by_new : Comes 200 (file constant_of_a_parent_found_by_new_tree) (file constant_of_a_parent_found_by_new_tree) (codes "a.php")
    ((codes "1"), ended)
    ((codes ""), Threw (codes "Error"))
unfolding builtin_rows named_constants word_constants is_same_name newer_functions newer_classes newer_constants beyond_functions beyond_classes beyond_constants
constant_of_a_parent_found_by_new = (refl, refl)

-- <?php class A { const K = bar; const L = 2; } echo A::L;
abbrev constant_asked_for_alone_tree : Forest
constant_asked_for_alone_tree =
    (node kind.Class (t token.Keyword "class" (t token.Label "A" (t token.Op "{" (node kind.ClassConst (t
    token.Keyword "const" (t token.Label "K" (t token.Op "=" (node kind.Constant (t token.Label "bar" none) (t
    token.Semi ";" none))))) (node kind.ClassConst (t token.Keyword "const" (t token.Label "L" (t token.Op "="
    (node kind.Number (t token.Int "2" none) (t token.Semi ";" none))))) (t token.Op "}" none)))))) (node
    kind.Echo (t token.Keyword "echo" (node kind.ClassConstant (t token.Label "A" (t token.Op "::" (t token.Label
    "L" none))) (t token.Semi ";" none))) none))

constant_asked_for_alone : Comes 200 (file constant_asked_for_alone_tree) (file constant_asked_for_alone_tree) (codes "a.php")
    ((codes "2"), ended)
    ((codes "2"), ended)
unfolding builtin_rows named_constants word_constants is_same_name newer_functions newer_classes newer_constants beyond_functions beyond_classes beyond_constants
constant_asked_for_alone = (refl, refl)

-- <?php class A { public $p = [1]; } $a = new A; $a->p[] = 2; $b = new A; echo count($a->p), count($b->p);
abbrev default_is_an_array_of_each_object_tree : Forest
default_is_an_array_of_each_object_tree =
    (node kind.Class (t token.Keyword "class" (t token.Label "A" (t token.Op "{" (node kind.Property (t
    token.Keyword "public" (t token.Variable "$p" (t token.Op "=" (node kind.Array (t token.Op "[" (node kind.Item
    (node kind.Number (t token.Int "1" none) none) (t token.Op "]" none))) (t token.Semi ";" none))))) (t token.Op
    "}" none))))) (node kind.ExprStmt (node kind.Assign (node kind.Variable (t token.Variable "$a" none) (t
    token.Op "=" (node kind.New (t token.Keyword "new" (t token.Label "A" none)) none))) (t token.Semi ";" none))
    (node kind.ExprStmt (node kind.Assign (node kind.Offset (node kind.Prop (node kind.Variable (t token.Variable
    "$a" none) (t token.Op "->" (t token.Label "p" none))) (t token.Op "[" (t token.Op "]" none))) (t token.Op "="
    (node kind.Number (t token.Int "2" none) none))) (t token.Semi ";" none)) (node kind.ExprStmt (node
    kind.Assign (node kind.Variable (t token.Variable "$b" none) (t token.Op "=" (node kind.New (t token.Keyword
    "new" (t token.Label "A" none)) none))) (t token.Semi ";" none)) (node kind.Echo (t token.Keyword "echo" (node
    kind.Call (t token.Label "count" (t token.Op "(" (node kind.Args (node kind.Prop (node kind.Variable (t
    token.Variable "$a" none) (t token.Op "->" (t token.Label "p" none))) none) (t token.Op ")" none)))) (t
    token.Op "," (node kind.Call (t token.Label "count" (t token.Op "(" (node kind.Args (node kind.Prop (node
    kind.Variable (t token.Variable "$b" none) (t token.Op "->" (t token.Label "p" none))) none) (t token.Op ")"
    none)))) (t token.Semi ";" none))))) none)))))

default_is_an_array_of_each_object : Comes 200 (file default_is_an_array_of_each_object_tree) (file default_is_an_array_of_each_object_tree) (codes "a.php")
    ((codes "21"), ended)
    ((codes "21"), ended)
unfolding builtin_rows named_constants word_constants is_same_name newer_functions newer_classes newer_constants beyond_functions beyond_classes beyond_constants
default_is_an_array_of_each_object = (refl, refl)

-- ---- what PHP has beyond the profile

-- <?php namespace N; if (false) { function str_contains($a, $b) { return 1; } } echo str_contains("ab", "a");
abbrev newer_function_in_a_branch_not_taken_tree : Forest
newer_function_in_a_branch_not_taken_tree =
    (node kind.Namespace (t token.Keyword "namespace" (t token.Label "N" (t token.Semi ";" none))) (node kind.If
    (t token.Keyword "if" (t token.Op "(" (node kind.Constant (t token.Label "false" none) (t token.Op ")" (node
    kind.Block (t token.Op "{" (node kind.Function (t token.Keyword "function" (t token.Label "str_contains" (t
    token.Op "(" (node kind.Param (t token.Variable "$a" none) (t token.Op "," (node kind.Param (t token.Variable
    "$b" none) (t token.Op ")" (node kind.Block (t token.Op "{" (node kind.Return (t token.Keyword "return" (node
    kind.Number (t token.Int "1" none) (t token.Semi ";" none))) (t token.Op "}" none))) none)))))))) (t token.Op
    "}" none))) none))))) (node kind.Echo (t token.Keyword "echo" (node kind.Call (t token.Label "str_contains" (t
    token.Op "(" (node kind.Args (node kind.Text (t token.Text "\"ab\"" none) (t token.Op "," (node kind.Text (t
    token.Text "\"a\"" none) none))) (t token.Op ")" none)))) (t token.Semi ";" none))) none)))

newer_function_in_a_branch_not_taken : Comes 200 (file newer_function_in_a_branch_not_taken_tree) (file newer_function_in_a_branch_not_taken_tree) (codes "a.php")
    ((codes ""), outside Call)
    ((codes ""), outside Call)
unfolding builtin_rows named_constants word_constants is_same_name newer_functions newer_classes newer_constants beyond_functions beyond_classes beyond_constants
newer_function_in_a_branch_not_taken = (refl, refl)

-- <?php echo 1; echo str_contains("ab", "a");
abbrev newer_function_called_tree : Forest
newer_function_called_tree =
    (node kind.Echo (t token.Keyword "echo" (node kind.Number (t token.Int "1" none) (t token.Semi ";" none)))
    (node kind.Echo (t token.Keyword "echo" (node kind.Call (t token.Label "str_contains" (t token.Op "(" (node
    kind.Args (node kind.Text (t token.Text "\"ab\"" none) (t token.Op "," (node kind.Text (t token.Text "\"a\""
    none) none))) (t token.Op ")" none)))) (t token.Semi ";" none))) none))

newer_function_called : Comes 200 (file newer_function_called_tree) (file newer_function_called_tree) (codes "a.php")
    ((codes "1"), outside Call)
    ((codes "1"), outside Call)
unfolding builtin_rows named_constants word_constants is_same_name newer_functions newer_classes newer_constants beyond_functions beyond_classes beyond_constants
newer_function_called = (refl, refl)

-- <?php echo 1; echo strtolower("A");
abbrev older_function_called_tree : Forest
older_function_called_tree =
    (node kind.Echo (t token.Keyword "echo" (node kind.Number (t token.Int "1" none) (t token.Semi ";" none)))
    (node kind.Echo (t token.Keyword "echo" (node kind.Call (t token.Label "strtolower" (t token.Op "(" (node
    kind.Args (node kind.Text (t token.Text "\"A\"" none) none) (t token.Op ")" none)))) (t token.Semi ";" none)))
    none))

older_function_called : Comes 200 (file older_function_called_tree) (file older_function_called_tree) (codes "a.php")
    ((codes "1"), outside Call)
    ((codes "1"), outside Call)
unfolding builtin_rows named_constants word_constants is_same_name newer_functions newer_classes newer_constants beyond_functions beyond_classes beyond_constants
older_function_called = (refl, refl)

-- <?php function StrToLower($s) { return 1; } echo 1;
abbrev older_function_declared_tree : Forest
older_function_declared_tree =
    (node kind.Function (t token.Keyword "function" (t token.Label "StrToLower" (t token.Op "(" (node kind.Param
    (t token.Variable "$s" none) (t token.Op ")" (node kind.Block (t token.Op "{" (node kind.Return (t
    token.Keyword "return" (node kind.Number (t token.Int "1" none) (t token.Semi ";" none))) (t token.Op "}"
    none))) none)))))) (node kind.Echo (t token.Keyword "echo" (node kind.Number (t token.Int "1" none) (t
    token.Semi ";" none))) none))

older_function_declared : Comes 200 (file older_function_declared_tree) (file older_function_declared_tree) (codes "a.php")
    ((codes ""), outside Declaration)
    ((codes ""), outside Declaration)
unfolding builtin_rows named_constants word_constants is_same_name newer_functions newer_classes newer_constants beyond_functions beyond_classes beyond_constants
older_function_declared = (refl, refl)

-- <?php namespace N; function strtolower($s) { return "n"; } echo strtolower("A");
abbrev older_function_in_a_namespace_tree : Forest
older_function_in_a_namespace_tree =
    (node kind.Namespace (t token.Keyword "namespace" (t token.Label "N" (t token.Semi ";" none))) (node
    kind.Function (t token.Keyword "function" (t token.Label "strtolower" (t token.Op "(" (node kind.Param (t
    token.Variable "$s" none) (t token.Op ")" (node kind.Block (t token.Op "{" (node kind.Return (t token.Keyword
    "return" (node kind.Text (t token.Text "\"n\"" none) (t token.Semi ";" none))) (t token.Op "}" none)))
    none)))))) (node kind.Echo (t token.Keyword "echo" (node kind.Call (t token.Label "strtolower" (t token.Op "("
    (node kind.Args (node kind.Text (t token.Text "\"A\"" none) none) (t token.Op ")" none)))) (t token.Semi ";"
    none))) none)))

older_function_in_a_namespace : Comes 200 (file older_function_in_a_namespace_tree) (file older_function_in_a_namespace_tree) (codes "a.php")
    ((codes "n"), ended)
    ((codes "n"), ended)
unfolding builtin_rows named_constants word_constants is_same_name newer_functions newer_classes newer_constants beyond_functions beyond_classes beyond_constants
older_function_in_a_namespace = (refl, refl)

-- <?php try { my_function(); } catch (Error $e) { echo "e"; }
abbrev own_function_not_there_tree : Forest
own_function_not_there_tree =
    (node kind.Try (t token.Keyword "try" (node kind.Block (t token.Op "{" (node kind.ExprStmt (node kind.Call (t
    token.Label "my_function" (t token.Op "(" (node kind.Args none (t token.Op ")" none)))) (t token.Semi ";"
    none)) (t token.Op "}" none))) (t token.Keyword "catch" (t token.Op "(" (t token.Label "Error" (t
    token.Variable "$e" (t token.Op ")" (node kind.Block (t token.Op "{" (node kind.Echo (t token.Keyword "echo"
    (node kind.Text (t token.Text "\"e\"" none) (t token.Semi ";" none))) (t token.Op "}" none))) none))))))))
    none)

own_function_not_there : Comes 200 (file own_function_not_there_tree) (file own_function_not_there_tree) (codes "a.php")
    ((codes "e"), ended)
    ((codes "e"), ended)
unfolding builtin_rows named_constants word_constants is_same_name newer_functions newer_classes newer_constants beyond_functions beyond_classes beyond_constants
own_function_not_there = (refl, refl)

-- <?php class DateTime {} echo 1;
abbrev older_class_declared_tree : Forest
older_class_declared_tree =
    (node kind.Class (t token.Keyword "class" (t token.Label "DateTime" (t token.Op "{" (t token.Op "}" none))))
    (node kind.Echo (t token.Keyword "echo" (node kind.Number (t token.Int "1" none) (t token.Semi ";" none)))
    none))

older_class_declared : Comes 200 (file older_class_declared_tree) (file older_class_declared_tree) (codes "a.php")
    ((codes ""), outside Declaration)
    ((codes ""), outside Declaration)
unfolding builtin_rows named_constants word_constants is_same_name newer_functions newer_classes newer_constants beyond_functions beyond_classes beyond_constants
older_class_declared = (refl, refl)

-- <?php echo 1; new DateTime;
abbrev older_class_made_tree : Forest
older_class_made_tree =
    (node kind.Echo (t token.Keyword "echo" (node kind.Number (t token.Int "1" none) (t token.Semi ";" none)))
    (node kind.ExprStmt (node kind.New (t token.Keyword "new" (t token.Label "DateTime" none)) (t token.Semi ";"
    none)) none))

older_class_made : Comes 200 (file older_class_made_tree) (file older_class_made_tree) (codes "a.php")
    ((codes "1"), outside Declaration)
    ((codes "1"), outside Declaration)
unfolding builtin_rows named_constants word_constants is_same_name newer_functions newer_classes newer_constants beyond_functions beyond_classes beyond_constants
older_class_made = (refl, refl)

-- <?php namespace N; class DateTime { const K = 1; } echo DateTime::K;
abbrev older_class_in_a_namespace_tree : Forest
older_class_in_a_namespace_tree =
    (node kind.Namespace (t token.Keyword "namespace" (t token.Label "N" (t token.Semi ";" none))) (node
    kind.Class (t token.Keyword "class" (t token.Label "DateTime" (t token.Op "{" (node kind.ClassConst (t
    token.Keyword "const" (t token.Label "K" (t token.Op "=" (node kind.Number (t token.Int "1" none) (t
    token.Semi ";" none))))) (t token.Op "}" none))))) (node kind.Echo (t token.Keyword "echo" (node
    kind.ClassConstant (t token.Label "DateTime" (t token.Op "::" (t token.Label "K" none))) (t token.Semi ";"
    none))) none)))

older_class_in_a_namespace : Comes 200 (file older_class_in_a_namespace_tree) (file older_class_in_a_namespace_tree) (codes "a.php")
    ((codes "1"), ended)
    ((codes "1"), ended)
unfolding builtin_rows named_constants word_constants is_same_name newer_functions newer_classes newer_constants beyond_functions beyond_classes beyond_constants
older_class_in_a_namespace = (refl, refl)

-- <?php echo 1; const M_PI = 3;
abbrev older_constant_declared_tree : Forest
older_constant_declared_tree =
    (node kind.Echo (t token.Keyword "echo" (node kind.Number (t token.Int "1" none) (t token.Semi ";" none)))
    (node kind.Const (t token.Keyword "const" (t token.Label "M_PI" (t token.Op "=" (node kind.Number (t token.Int
    "3" none) (t token.Semi ";" none))))) none))

older_constant_declared : Comes 200 (file older_constant_declared_tree) (file older_constant_declared_tree) (codes "a.php")
    ((codes "1"), outside Declaration)
    ((codes "1"), outside Declaration)
unfolding builtin_rows named_constants word_constants is_same_name newer_functions newer_classes newer_constants beyond_functions beyond_classes beyond_constants
older_constant_declared = (refl, refl)

-- <?php echo 1; define("M_PI", 3);
abbrev older_constant_defined_tree : Forest
older_constant_defined_tree =
    (node kind.Echo (t token.Keyword "echo" (node kind.Number (t token.Int "1" none) (t token.Semi ";" none)))
    (node kind.ExprStmt (node kind.Call (t token.Label "define" (t token.Op "(" (node kind.Args (node kind.Text (t
    token.Text "\"M_PI\"" none) (t token.Op "," (node kind.Number (t token.Int "3" none) none))) (t token.Op ")"
    none)))) (t token.Semi ";" none)) none))

older_constant_defined : Comes 200 (file older_constant_defined_tree) (file older_constant_defined_tree) (codes "a.php")
    ((codes "1"), outside Declaration)
    ((codes "1"), outside Declaration)
unfolding builtin_rows named_constants word_constants is_same_name newer_functions newer_classes newer_constants beyond_functions beyond_classes beyond_constants
older_constant_defined = (refl, refl)

-- <?php echo 1; echo STREAM_CRYPTO_METHOD_TLSv1_2_CLIENT;
abbrev older_constant_with_a_small_letter_tree : Forest
older_constant_with_a_small_letter_tree =
    (node kind.Echo (t token.Keyword "echo" (node kind.Number (t token.Int "1" none) (t token.Semi ";" none)))
    (node kind.Echo (t token.Keyword "echo" (node kind.Constant (t token.Label
    "STREAM_CRYPTO_METHOD_TLSv1_2_CLIENT" none) (t token.Semi ";" none))) none))

older_constant_with_a_small_letter : Comes 200 (file older_constant_with_a_small_letter_tree) (file older_constant_with_a_small_letter_tree) (codes "a.php")
    ((codes "1"), outside Declaration)
    ((codes "1"), outside Declaration)
unfolding builtin_rows named_constants word_constants is_same_name newer_functions newer_classes newer_constants beyond_functions beyond_classes beyond_constants
older_constant_with_a_small_letter = (refl, refl)

-- ---- copies of methods, and the class that was called

-- <?php class A { function f() { static $n = 0; $n++; echo $n; } } class B extends A { function f() { parent::f(); } } $a =
-- new A; $b = new B; $a->f(); $b->f();
abbrev statics_by_parent_tree : Forest
statics_by_parent_tree =
    (node kind.Class (t token.Keyword "class" (t token.Label "A" (t token.Op "{" (node kind.Method (t
    token.Keyword "function" (t token.Label "f" (t token.Op "(" (t token.Op ")" (node kind.Block (t token.Op "{"
    (node kind.Statics (t token.Keyword "static" (t token.Variable "$n" (t token.Op "=" (node kind.Number (t
    token.Int "0" none) (t token.Semi ";" none))))) (node kind.ExprStmt (node kind.Postfix (node kind.Variable (t
    token.Variable "$n" none) (t token.Op "++" none)) (t token.Semi ";" none)) (node kind.Echo (t token.Keyword
    "echo" (node kind.Variable (t token.Variable "$n" none) (t token.Semi ";" none))) (t token.Op "}" none)))))
    none))))) (t token.Op "}" none))))) (node kind.Class (t token.Keyword "class" (t token.Label "B" (t
    token.Keyword "extends" (t token.Label "A" (t token.Op "{" (node kind.Method (t token.Keyword "function" (t
    token.Label "f" (t token.Op "(" (t token.Op ")" (node kind.Block (t token.Op "{" (node kind.ExprStmt (node
    kind.StaticCall (t token.Label "parent" (t token.Op "::" (t token.Label "f" (t token.Op "(" (node kind.Args
    none (t token.Op ")" none)))))) (t token.Semi ";" none)) (t token.Op "}" none))) none))))) (t token.Op "}"
    none))))))) (node kind.ExprStmt (node kind.Assign (node kind.Variable (t token.Variable "$a" none) (t token.Op
    "=" (node kind.New (t token.Keyword "new" (t token.Label "A" none)) none))) (t token.Semi ";" none)) (node
    kind.ExprStmt (node kind.Assign (node kind.Variable (t token.Variable "$b" none) (t token.Op "=" (node
    kind.New (t token.Keyword "new" (t token.Label "B" none)) none))) (t token.Semi ";" none)) (node kind.ExprStmt
    (node kind.MethodCall (node kind.Variable (t token.Variable "$a" none) (t token.Op "->" (t token.Label "f" (t
    token.Op "(" (node kind.Args none (t token.Op ")" none)))))) (t token.Semi ";" none)) (node kind.ExprStmt
    (node kind.MethodCall (node kind.Variable (t token.Variable "$b" none) (t token.Op "->" (t token.Label "f" (t
    token.Op "(" (node kind.Args none (t token.Op ")" none)))))) (t token.Semi ";" none)) none))))))

statics_by_parent : Comes 200 (file statics_by_parent_tree) (file statics_by_parent_tree) (codes "a.php")
    ((codes "12"), ended)
    ((codes "12"), ended)
unfolding builtin_rows named_constants word_constants is_same_name newer_functions newer_classes newer_constants beyond_functions beyond_classes beyond_constants
statics_by_parent = (refl, refl)

-- <?php class A { function f() { static $n = 0; $n++; echo $n; } } class B extends A { function g() { parent::f(); } } $a =
-- new A; $b = new B; $a->f(); $b->g(); $b->f();
abbrev statics_by_parent_of_an_inherited_method_tree : Forest
statics_by_parent_of_an_inherited_method_tree =
    (node kind.Class (t token.Keyword "class" (t token.Label "A" (t token.Op "{" (node kind.Method (t
    token.Keyword "function" (t token.Label "f" (t token.Op "(" (t token.Op ")" (node kind.Block (t token.Op "{"
    (node kind.Statics (t token.Keyword "static" (t token.Variable "$n" (t token.Op "=" (node kind.Number (t
    token.Int "0" none) (t token.Semi ";" none))))) (node kind.ExprStmt (node kind.Postfix (node kind.Variable (t
    token.Variable "$n" none) (t token.Op "++" none)) (t token.Semi ";" none)) (node kind.Echo (t token.Keyword
    "echo" (node kind.Variable (t token.Variable "$n" none) (t token.Semi ";" none))) (t token.Op "}" none)))))
    none))))) (t token.Op "}" none))))) (node kind.Class (t token.Keyword "class" (t token.Label "B" (t
    token.Keyword "extends" (t token.Label "A" (t token.Op "{" (node kind.Method (t token.Keyword "function" (t
    token.Label "g" (t token.Op "(" (t token.Op ")" (node kind.Block (t token.Op "{" (node kind.ExprStmt (node
    kind.StaticCall (t token.Label "parent" (t token.Op "::" (t token.Label "f" (t token.Op "(" (node kind.Args
    none (t token.Op ")" none)))))) (t token.Semi ";" none)) (t token.Op "}" none))) none))))) (t token.Op "}"
    none))))))) (node kind.ExprStmt (node kind.Assign (node kind.Variable (t token.Variable "$a" none) (t token.Op
    "=" (node kind.New (t token.Keyword "new" (t token.Label "A" none)) none))) (t token.Semi ";" none)) (node
    kind.ExprStmt (node kind.Assign (node kind.Variable (t token.Variable "$b" none) (t token.Op "=" (node
    kind.New (t token.Keyword "new" (t token.Label "B" none)) none))) (t token.Semi ";" none)) (node kind.ExprStmt
    (node kind.MethodCall (node kind.Variable (t token.Variable "$a" none) (t token.Op "->" (t token.Label "f" (t
    token.Op "(" (node kind.Args none (t token.Op ")" none)))))) (t token.Semi ";" none)) (node kind.ExprStmt
    (node kind.MethodCall (node kind.Variable (t token.Variable "$b" none) (t token.Op "->" (t token.Label "g" (t
    token.Op "(" (node kind.Args none (t token.Op ")" none)))))) (t token.Semi ";" none)) (node kind.ExprStmt
    (node kind.MethodCall (node kind.Variable (t token.Variable "$b" none) (t token.Op "->" (t token.Label "f" (t
    token.Op "(" (node kind.Args none (t token.Op ")" none)))))) (t token.Semi ";" none)) none)))))))

statics_by_parent_of_an_inherited_method : Comes 200 (file statics_by_parent_of_an_inherited_method_tree) (file statics_by_parent_of_an_inherited_method_tree) (codes "a.php")
    ((codes "121"), ended)
    ((codes "123"), ended)
unfolding builtin_rows named_constants word_constants is_same_name newer_functions newer_classes newer_constants beyond_functions beyond_classes beyond_constants
statics_by_parent_of_an_inherited_method = (refl, refl)

-- <?php class A { function f() { static $n = 0; $n++; echo $n; } } $a = new A; $a->f(); class B extends A {} $b = new B;
-- $b->f();
abbrev statics_before_the_child_tree : Forest
statics_before_the_child_tree =
    (node kind.Class (t token.Keyword "class" (t token.Label "A" (t token.Op "{" (node kind.Method (t
    token.Keyword "function" (t token.Label "f" (t token.Op "(" (t token.Op ")" (node kind.Block (t token.Op "{"
    (node kind.Statics (t token.Keyword "static" (t token.Variable "$n" (t token.Op "=" (node kind.Number (t
    token.Int "0" none) (t token.Semi ";" none))))) (node kind.ExprStmt (node kind.Postfix (node kind.Variable (t
    token.Variable "$n" none) (t token.Op "++" none)) (t token.Semi ";" none)) (node kind.Echo (t token.Keyword
    "echo" (node kind.Variable (t token.Variable "$n" none) (t token.Semi ";" none))) (t token.Op "}" none)))))
    none))))) (t token.Op "}" none))))) (node kind.ExprStmt (node kind.Assign (node kind.Variable (t
    token.Variable "$a" none) (t token.Op "=" (node kind.New (t token.Keyword "new" (t token.Label "A" none))
    none))) (t token.Semi ";" none)) (node kind.ExprStmt (node kind.MethodCall (node kind.Variable (t
    token.Variable "$a" none) (t token.Op "->" (t token.Label "f" (t token.Op "(" (node kind.Args none (t token.Op
    ")" none)))))) (t token.Semi ";" none)) (node kind.Class (t token.Keyword "class" (t token.Label "B" (t
    token.Keyword "extends" (t token.Label "A" (t token.Op "{" (t token.Op "}" none)))))) (node kind.ExprStmt
    (node kind.Assign (node kind.Variable (t token.Variable "$b" none) (t token.Op "=" (node kind.New (t
    token.Keyword "new" (t token.Label "B" none)) none))) (t token.Semi ";" none)) (node kind.ExprStmt (node
    kind.MethodCall (node kind.Variable (t token.Variable "$b" none) (t token.Op "->" (t token.Label "f" (t
    token.Op "(" (node kind.Args none (t token.Op ")" none)))))) (t token.Semi ";" none)) none))))))

statics_before_the_child : Comes 200 (file statics_before_the_child_tree) (file statics_before_the_child_tree) (codes "a.php")
    ((codes "1"), outside Declaration)
    ((codes "1"), outside Declaration)
unfolding builtin_rows named_constants word_constants is_same_name newer_functions newer_classes newer_constants beyond_functions beyond_classes beyond_constants
statics_before_the_child = (refl, refl)

-- <?php class A { static function f() { static::g(); } static function g() { echo "a"; } } class B extends A { static function
-- h() { parent::f(); self::f(); A::f(); } static function g() { echo "b"; } } B::h();
abbrev self_and_parent_forward_tree : Forest
self_and_parent_forward_tree =
    (node kind.Class (t token.Keyword "class" (t token.Label "A" (t token.Op "{" (node kind.Method (t
    token.Keyword "static" (t token.Keyword "function" (t token.Label "f" (t token.Op "(" (t token.Op ")" (node
    kind.Block (t token.Op "{" (node kind.ExprStmt (node kind.StaticCall (t token.Keyword "static" (t token.Op
    "::" (t token.Label "g" (t token.Op "(" (node kind.Args none (t token.Op ")" none)))))) (t token.Semi ";"
    none)) (t token.Op "}" none))) none)))))) (node kind.Method (t token.Keyword "static" (t token.Keyword
    "function" (t token.Label "g" (t token.Op "(" (t token.Op ")" (node kind.Block (t token.Op "{" (node kind.Echo
    (t token.Keyword "echo" (node kind.Text (t token.Text "\"a\"" none) (t token.Semi ";" none))) (t token.Op "}"
    none))) none)))))) (t token.Op "}" none)))))) (node kind.Class (t token.Keyword "class" (t token.Label "B" (t
    token.Keyword "extends" (t token.Label "A" (t token.Op "{" (node kind.Method (t token.Keyword "static" (t
    token.Keyword "function" (t token.Label "h" (t token.Op "(" (t token.Op ")" (node kind.Block (t token.Op "{"
    (node kind.ExprStmt (node kind.StaticCall (t token.Label "parent" (t token.Op "::" (t token.Label "f" (t
    token.Op "(" (node kind.Args none (t token.Op ")" none)))))) (t token.Semi ";" none)) (node kind.ExprStmt
    (node kind.StaticCall (t token.Label "self" (t token.Op "::" (t token.Label "f" (t token.Op "(" (node
    kind.Args none (t token.Op ")" none)))))) (t token.Semi ";" none)) (node kind.ExprStmt (node kind.StaticCall
    (t token.Label "A" (t token.Op "::" (t token.Label "f" (t token.Op "(" (node kind.Args none (t token.Op ")"
    none)))))) (t token.Semi ";" none)) (t token.Op "}" none))))) none)))))) (node kind.Method (t token.Keyword
    "static" (t token.Keyword "function" (t token.Label "g" (t token.Op "(" (t token.Op ")" (node kind.Block (t
    token.Op "{" (node kind.Echo (t token.Keyword "echo" (node kind.Text (t token.Text "\"b\"" none) (t token.Semi
    ";" none))) (t token.Op "}" none))) none)))))) (t token.Op "}" none)))))))) (node kind.ExprStmt (node
    kind.StaticCall (t token.Label "B" (t token.Op "::" (t token.Label "h" (t token.Op "(" (node kind.Args none (t
    token.Op ")" none)))))) (t token.Semi ";" none)) none)))

self_and_parent_forward : Comes 200 (file self_and_parent_forward_tree) (file self_and_parent_forward_tree) (codes "a.php")
    ((codes "bba"), ended)
    ((codes "bba"), ended)
unfolding builtin_rows named_constants word_constants is_same_name newer_functions newer_classes newer_constants beyond_functions beyond_classes beyond_constants
self_and_parent_forward = (refl, refl)

-- ---- declarations that take place twice

-- <?php for ($i = 0; $i < 2; $i++) { echo $i; if (true) { class A {} } }
abbrev class_reached_twice_tree : Forest
class_reached_twice_tree =
    (node kind.For (t token.Keyword "for" (t token.Op "(" (node kind.Assign (node kind.Variable (t token.Variable
    "$i" none) (t token.Op "=" (node kind.Number (t token.Int "0" none) none))) (t token.Semi ";" (node
    kind.Binary (node kind.Variable (t token.Variable "$i" none) (t token.Op "<" (node kind.Number (t token.Int
    "2" none) none))) (t token.Semi ";" (node kind.Postfix (node kind.Variable (t token.Variable "$i" none) (t
    token.Op "++" none)) (t token.Op ")" (node kind.Block (t token.Op "{" (node kind.Echo (t token.Keyword "echo"
    (node kind.Variable (t token.Variable "$i" none) (t token.Semi ";" none))) (node kind.If (t token.Keyword "if"
    (t token.Op "(" (node kind.Constant (t token.Label "true" none) (t token.Op ")" (node kind.Block (t token.Op
    "{" (node kind.Class (t token.Keyword "class" (t token.Label "A" (t token.Op "{" (t token.Op "}" none)))) (t
    token.Op "}" none))) none))))) (t token.Op "}" none)))) none))))))))) none)

class_reached_twice : Comes 200 (file class_reached_twice_tree) (file class_reached_twice_tree) (codes "a.php")
    ((codes "01"), outside Declaration)
    ((codes "01"), outside Declaration)
unfolding builtin_rows named_constants word_constants is_same_name newer_functions newer_classes newer_constants beyond_functions beyond_classes beyond_constants
class_reached_twice = (refl, refl)

-- <?php class P {} if (true) { class A {} } echo 1; class A extends P {}
abbrev class_in_a_branch_and_declared_early_tree : Forest
class_in_a_branch_and_declared_early_tree =
    (node kind.Class (t token.Keyword "class" (t token.Label "P" (t token.Op "{" (t token.Op "}" none)))) (node
    kind.If (t token.Keyword "if" (t token.Op "(" (node kind.Constant (t token.Label "true" none) (t token.Op ")"
    (node kind.Block (t token.Op "{" (node kind.Class (t token.Keyword "class" (t token.Label "A" (t token.Op "{"
    (t token.Op "}" none)))) (t token.Op "}" none))) none))))) (node kind.Echo (t token.Keyword "echo" (node
    kind.Number (t token.Int "1" none) (t token.Semi ";" none))) (node kind.Class (t token.Keyword "class" (t
    token.Label "A" (t token.Keyword "extends" (t token.Label "P" (t token.Op "{" (t token.Op "}" none))))))
    none))))

class_in_a_branch_and_declared_early : Comes 200 (file class_in_a_branch_and_declared_early_tree) (file class_in_a_branch_and_declared_early_tree) (codes "a.php")
    ((codes ""), outside Declaration)
    ((codes ""), outside Declaration)
unfolding builtin_rows named_constants word_constants is_same_name newer_functions newer_classes newer_constants beyond_functions beyond_classes beyond_constants
class_in_a_branch_and_declared_early = (refl, refl)

-- ---- types of results and of properties

-- <?php function f(): ?int {} try { f(); } catch (TypeError $e) { echo "t"; }
abbrev no_return_under_a_nullable_type_tree : Forest
no_return_under_a_nullable_type_tree =
    (node kind.Function (t token.Keyword "function" (t token.Label "f" (t token.Op "(" (t token.Op ")" (t token.Op
    ":" (node kind.TypeName (t token.Op "?" (t token.Label "int" none)) (node kind.Block (t token.Op "{" (t
    token.Op "}" none)) none))))))) (node kind.Try (t token.Keyword "try" (node kind.Block (t token.Op "{" (node
    kind.ExprStmt (node kind.Call (t token.Label "f" (t token.Op "(" (node kind.Args none (t token.Op ")" none))))
    (t token.Semi ";" none)) (t token.Op "}" none))) (t token.Keyword "catch" (t token.Op "(" (t token.Label
    "TypeError" (t token.Variable "$e" (t token.Op ")" (node kind.Block (t token.Op "{" (node kind.Echo (t
    token.Keyword "echo" (node kind.Text (t token.Text "\"t\"" none) (t token.Semi ";" none))) (t token.Op "}"
    none))) none)))))))) none))

no_return_under_a_nullable_type : Comes 200 (file no_return_under_a_nullable_type_tree) (file no_return_under_a_nullable_type_tree) (codes "a.php")
    ((codes "t"), ended)
    ((codes "t"), ended)
unfolding builtin_rows named_constants word_constants is_same_name newer_functions newer_classes newer_constants beyond_functions beyond_classes beyond_constants
no_return_under_a_nullable_type = (refl, refl)

-- <?php function f(): void {} f(); echo 1;
abbrev no_return_under_void_tree : Forest
no_return_under_void_tree =
    (node kind.Function (t token.Keyword "function" (t token.Label "f" (t token.Op "(" (t token.Op ")" (t token.Op
    ":" (node kind.TypeName (t token.Label "void" none) (node kind.Block (t token.Op "{" (t token.Op "}" none))
    none))))))) (node kind.ExprStmt (node kind.Call (t token.Label "f" (t token.Op "(" (node kind.Args none (t
    token.Op ")" none)))) (t token.Semi ";" none)) (node kind.Echo (t token.Keyword "echo" (node kind.Number (t
    token.Int "1" none) (t token.Semi ";" none))) none)))

no_return_under_void : Comes 200 (file no_return_under_void_tree) (file no_return_under_void_tree) (codes "a.php")
    ((codes "1"), ended)
    ((codes "1"), ended)
unfolding builtin_rows named_constants word_constants is_same_name newer_functions newer_classes newer_constants beyond_functions beyond_classes beyond_constants
no_return_under_void = (refl, refl)

-- <?php namespace M { class T {} class A { public T $p; } } namespace N { class T {} class B extends \M\A { public T $p; }
-- echo 1; }
abbrev type_of_another_namespace_tree : Forest
type_of_another_namespace_tree =
    (node kind.Namespace (t token.Keyword "namespace" (t token.Label "M" (t token.Op "{" (node kind.Class (t
    token.Keyword "class" (t token.Label "T" (t token.Op "{" (t token.Op "}" none)))) (node kind.Class (t
    token.Keyword "class" (t token.Label "A" (t token.Op "{" (node kind.Property (t token.Keyword "public" (node
    kind.TypeName (t token.Label "T" none) (t token.Variable "$p" (t token.Semi ";" none)))) (t token.Op "}"
    none))))) (t token.Op "}" none)))))) (node kind.Namespace (t token.Keyword "namespace" (t token.Label "N" (t
    token.Op "{" (node kind.Class (t token.Keyword "class" (t token.Label "T" (t token.Op "{" (t token.Op "}"
    none)))) (node kind.Class (t token.Keyword "class" (t token.Label "B" (t token.Keyword "extends" (t token.Op
    "\\" (t token.Label "M" (t token.Op "\\" (t token.Label "A" (t token.Op "{" (node kind.Property (t
    token.Keyword "public" (node kind.TypeName (t token.Label "T" none) (t token.Variable "$p" (t token.Semi ";"
    none)))) (t token.Op "}" none)))))))))) (node kind.Echo (t token.Keyword "echo" (node kind.Number (t token.Int
    "1" none) (t token.Semi ";" none))) (t token.Op "}" none))))))) none))

abbrev type_of_another_namespace_tree_in_8_3 : Forest
type_of_another_namespace_tree_in_8_3 =
    (node kind.Namespace (t token.Keyword "namespace" (t token.Label "M" (t token.Op "{" (node kind.Class (t
    token.Keyword "class" (t token.Label "T" (t token.Op "{" (t token.Op "}" none)))) (node kind.Class (t
    token.Keyword "class" (t token.Label "A" (t token.Op "{" (node kind.Property (t token.Keyword "public" (node
    kind.TypeName (t token.Label "T" none) (t token.Variable "$p" (t token.Semi ";" none)))) (t token.Op "}"
    none))))) (t token.Op "}" none)))))) (node kind.Namespace (t token.Keyword "namespace" (t token.Label "N" (t
    token.Op "{" (node kind.Class (t token.Keyword "class" (t token.Label "T" (t token.Op "{" (t token.Op "}"
    none)))) (node kind.Class (t token.Keyword "class" (t token.Label "B" (t token.Keyword "extends" (t token.Name
    "\\M\\A" (t token.Op "{" (node kind.Property (t token.Keyword "public" (node kind.TypeName (t token.Label "T"
    none) (t token.Variable "$p" (t token.Semi ";" none)))) (t token.Op "}" none))))))) (node kind.Echo (t
    token.Keyword "echo" (node kind.Number (t token.Int "1" none) (t token.Semi ";" none))) (t token.Op "}"
    none))))))) none))

type_of_another_namespace : Comes 200 (file type_of_another_namespace_tree) (file type_of_another_namespace_tree_in_8_3) (codes "a.php")
    ((codes ""), outside Declaration)
    ((codes ""), outside Declaration)
unfolding builtin_rows named_constants word_constants is_same_name newer_functions newer_classes newer_constants beyond_functions beyond_classes beyond_constants
type_of_another_namespace = (refl, refl)

-- <?php namespace M { class T {} class A { public T $p; } } namespace N { class B extends \M\A { public \M\T $p; } echo 1; }
abbrev type_by_its_full_name_tree : Forest
type_by_its_full_name_tree =
    (node kind.Namespace (t token.Keyword "namespace" (t token.Label "M" (t token.Op "{" (node kind.Class (t
    token.Keyword "class" (t token.Label "T" (t token.Op "{" (t token.Op "}" none)))) (node kind.Class (t
    token.Keyword "class" (t token.Label "A" (t token.Op "{" (node kind.Property (t token.Keyword "public" (node
    kind.TypeName (t token.Label "T" none) (t token.Variable "$p" (t token.Semi ";" none)))) (t token.Op "}"
    none))))) (t token.Op "}" none)))))) (node kind.Namespace (t token.Keyword "namespace" (t token.Label "N" (t
    token.Op "{" (node kind.Class (t token.Keyword "class" (t token.Label "B" (t token.Keyword "extends" (t
    token.Op "\\" (t token.Label "M" (t token.Op "\\" (t token.Label "A" (t token.Op "{" (node kind.Property (t
    token.Keyword "public" (node kind.TypeName (t token.Op "\\" (t token.Label "M" (t token.Op "\\" (t token.Label
    "T" none)))) (t token.Variable "$p" (t token.Semi ";" none)))) (t token.Op "}" none)))))))))) (node kind.Echo
    (t token.Keyword "echo" (node kind.Number (t token.Int "1" none) (t token.Semi ";" none))) (t token.Op "}"
    none)))))) none))

abbrev type_by_its_full_name_tree_in_8_3 : Forest
type_by_its_full_name_tree_in_8_3 =
    (node kind.Namespace (t token.Keyword "namespace" (t token.Label "M" (t token.Op "{" (node kind.Class (t
    token.Keyword "class" (t token.Label "T" (t token.Op "{" (t token.Op "}" none)))) (node kind.Class (t
    token.Keyword "class" (t token.Label "A" (t token.Op "{" (node kind.Property (t token.Keyword "public" (node
    kind.TypeName (t token.Label "T" none) (t token.Variable "$p" (t token.Semi ";" none)))) (t token.Op "}"
    none))))) (t token.Op "}" none)))))) (node kind.Namespace (t token.Keyword "namespace" (t token.Label "N" (t
    token.Op "{" (node kind.Class (t token.Keyword "class" (t token.Label "B" (t token.Keyword "extends" (t
    token.Name "\\M\\A" (t token.Op "{" (node kind.Property (t token.Keyword "public" (node kind.TypeName (t
    token.Name "\\M\\T" none) (t token.Variable "$p" (t token.Semi ";" none)))) (t token.Op "}" none))))))) (node
    kind.Echo (t token.Keyword "echo" (node kind.Number (t token.Int "1" none) (t token.Semi ";" none))) (t
    token.Op "}" none)))))) none))

type_by_its_full_name : Comes 200 (file type_by_its_full_name_tree) (file type_by_its_full_name_tree_in_8_3) (codes "a.php")
    ((codes "1"), ended)
    ((codes "1"), ended)
unfolding builtin_rows named_constants word_constants is_same_name newer_functions newer_classes newer_constants beyond_functions beyond_classes beyond_constants
type_by_its_full_name = (refl, refl)

-- ---- who sees what

-- <?php class P { protected function m() { return "p"; } } class A extends P { protected function m() { return "a"; } } class
-- B extends P { function g($o) { return $o->m(); } } $b = new B; echo $b->g(new A);
abbrev protected_method_of_a_sibling_tree : Forest
protected_method_of_a_sibling_tree =
    (node kind.Class (t token.Keyword "class" (t token.Label "P" (t token.Op "{" (node kind.Method (t
    token.Keyword "protected" (t token.Keyword "function" (t token.Label "m" (t token.Op "(" (t token.Op ")" (node
    kind.Block (t token.Op "{" (node kind.Return (t token.Keyword "return" (node kind.Text (t token.Text "\"p\""
    none) (t token.Semi ";" none))) (t token.Op "}" none))) none)))))) (t token.Op "}" none))))) (node kind.Class
    (t token.Keyword "class" (t token.Label "A" (t token.Keyword "extends" (t token.Label "P" (t token.Op "{"
    (node kind.Method (t token.Keyword "protected" (t token.Keyword "function" (t token.Label "m" (t token.Op "("
    (t token.Op ")" (node kind.Block (t token.Op "{" (node kind.Return (t token.Keyword "return" (node kind.Text
    (t token.Text "\"a\"" none) (t token.Semi ";" none))) (t token.Op "}" none))) none)))))) (t token.Op "}"
    none))))))) (node kind.Class (t token.Keyword "class" (t token.Label "B" (t token.Keyword "extends" (t
    token.Label "P" (t token.Op "{" (node kind.Method (t token.Keyword "function" (t token.Label "g" (t token.Op
    "(" (node kind.Param (t token.Variable "$o" none) (t token.Op ")" (node kind.Block (t token.Op "{" (node
    kind.Return (t token.Keyword "return" (node kind.MethodCall (node kind.Variable (t token.Variable "$o" none)
    (t token.Op "->" (t token.Label "m" (t token.Op "(" (node kind.Args none (t token.Op ")" none)))))) (t
    token.Semi ";" none))) (t token.Op "}" none))) none)))))) (t token.Op "}" none))))))) (node kind.ExprStmt
    (node kind.Assign (node kind.Variable (t token.Variable "$b" none) (t token.Op "=" (node kind.New (t
    token.Keyword "new" (t token.Label "B" none)) none))) (t token.Semi ";" none)) (node kind.Echo (t
    token.Keyword "echo" (node kind.MethodCall (node kind.Variable (t token.Variable "$b" none) (t token.Op "->"
    (t token.Label "g" (t token.Op "(" (node kind.Args (node kind.New (t token.Keyword "new" (t token.Label "A"
    none)) none) (t token.Op ")" none)))))) (t token.Semi ";" none))) none)))))

protected_method_of_a_sibling : Comes 200 (file protected_method_of_a_sibling_tree) (file protected_method_of_a_sibling_tree) (codes "a.php")
    ((codes "a"), ended)
    ((codes "a"), ended)
unfolding builtin_rows named_constants word_constants is_same_name newer_functions newer_classes newer_constants beyond_functions beyond_classes beyond_constants
protected_method_of_a_sibling = (refl, refl)

-- <?php class A { protected function m() { return "a"; } } class B { function g($o) { return $o->m(); } } $b = new B; try {
-- echo $b->g(new A); } catch (Error $e) { echo "e"; }
abbrev protected_method_of_a_stranger_tree : Forest
protected_method_of_a_stranger_tree =
    (node kind.Class (t token.Keyword "class" (t token.Label "A" (t token.Op "{" (node kind.Method (t
    token.Keyword "protected" (t token.Keyword "function" (t token.Label "m" (t token.Op "(" (t token.Op ")" (node
    kind.Block (t token.Op "{" (node kind.Return (t token.Keyword "return" (node kind.Text (t token.Text "\"a\""
    none) (t token.Semi ";" none))) (t token.Op "}" none))) none)))))) (t token.Op "}" none))))) (node kind.Class
    (t token.Keyword "class" (t token.Label "B" (t token.Op "{" (node kind.Method (t token.Keyword "function" (t
    token.Label "g" (t token.Op "(" (node kind.Param (t token.Variable "$o" none) (t token.Op ")" (node kind.Block
    (t token.Op "{" (node kind.Return (t token.Keyword "return" (node kind.MethodCall (node kind.Variable (t
    token.Variable "$o" none) (t token.Op "->" (t token.Label "m" (t token.Op "(" (node kind.Args none (t token.Op
    ")" none)))))) (t token.Semi ";" none))) (t token.Op "}" none))) none)))))) (t token.Op "}" none))))) (node
    kind.ExprStmt (node kind.Assign (node kind.Variable (t token.Variable "$b" none) (t token.Op "=" (node
    kind.New (t token.Keyword "new" (t token.Label "B" none)) none))) (t token.Semi ";" none)) (node kind.Try (t
    token.Keyword "try" (node kind.Block (t token.Op "{" (node kind.Echo (t token.Keyword "echo" (node
    kind.MethodCall (node kind.Variable (t token.Variable "$b" none) (t token.Op "->" (t token.Label "g" (t
    token.Op "(" (node kind.Args (node kind.New (t token.Keyword "new" (t token.Label "A" none)) none) (t token.Op
    ")" none)))))) (t token.Semi ";" none))) (t token.Op "}" none))) (t token.Keyword "catch" (t token.Op "(" (t
    token.Label "Error" (t token.Variable "$e" (t token.Op ")" (node kind.Block (t token.Op "{" (node kind.Echo (t
    token.Keyword "echo" (node kind.Text (t token.Text "\"e\"" none) (t token.Semi ";" none))) (t token.Op "}"
    none))) none)))))))) none))))

protected_method_of_a_stranger : Comes 200 (file protected_method_of_a_stranger_tree) (file protected_method_of_a_stranger_tree) (codes "a.php")
    ((codes "e"), ended)
    ((codes "e"), ended)
unfolding builtin_rows named_constants word_constants is_same_name newer_functions newer_classes newer_constants beyond_functions beyond_classes beyond_constants
protected_method_of_a_stranger = (refl, refl)

-- <?php class A { private const K = 1; static function f() { return B::K; } } class B extends A {} try { echo A::f(); } catch
-- (Error $e) { echo "e"; }
abbrev private_constant_of_a_parent_tree : Forest
private_constant_of_a_parent_tree =
    (node kind.Class (t token.Keyword "class" (t token.Label "A" (t token.Op "{" (node kind.ClassConst (t
    token.Keyword "private" (t token.Keyword "const" (t token.Label "K" (t token.Op "=" (node kind.Number (t
    token.Int "1" none) (t token.Semi ";" none)))))) (node kind.Method (t token.Keyword "static" (t token.Keyword
    "function" (t token.Label "f" (t token.Op "(" (t token.Op ")" (node kind.Block (t token.Op "{" (node
    kind.Return (t token.Keyword "return" (node kind.ClassConstant (t token.Label "B" (t token.Op "::" (t
    token.Label "K" none))) (t token.Semi ";" none))) (t token.Op "}" none))) none)))))) (t token.Op "}"
    none)))))) (node kind.Class (t token.Keyword "class" (t token.Label "B" (t token.Keyword "extends" (t
    token.Label "A" (t token.Op "{" (t token.Op "}" none)))))) (node kind.Try (t token.Keyword "try" (node
    kind.Block (t token.Op "{" (node kind.Echo (t token.Keyword "echo" (node kind.StaticCall (t token.Label "A" (t
    token.Op "::" (t token.Label "f" (t token.Op "(" (node kind.Args none (t token.Op ")" none)))))) (t token.Semi
    ";" none))) (t token.Op "}" none))) (t token.Keyword "catch" (t token.Op "(" (t token.Label "Error" (t
    token.Variable "$e" (t token.Op ")" (node kind.Block (t token.Op "{" (node kind.Echo (t token.Keyword "echo"
    (node kind.Text (t token.Text "\"e\"" none) (t token.Semi ";" none))) (t token.Op "}" none))) none))))))))
    none)))

private_constant_of_a_parent : Comes 200 (file private_constant_of_a_parent_tree) (file private_constant_of_a_parent_tree) (codes "a.php")
    ((codes "e"), ended)
    ((codes "e"), ended)
unfolding builtin_rows named_constants word_constants is_same_name newer_functions newer_classes newer_constants beyond_functions beyond_classes beyond_constants
private_constant_of_a_parent = (refl, refl)

-- <?php class A { private const K = 1; static function f() { return self::K; } } class B extends A {} echo B::f();
abbrev private_constant_of_its_class_tree : Forest
private_constant_of_its_class_tree =
    (node kind.Class (t token.Keyword "class" (t token.Label "A" (t token.Op "{" (node kind.ClassConst (t
    token.Keyword "private" (t token.Keyword "const" (t token.Label "K" (t token.Op "=" (node kind.Number (t
    token.Int "1" none) (t token.Semi ";" none)))))) (node kind.Method (t token.Keyword "static" (t token.Keyword
    "function" (t token.Label "f" (t token.Op "(" (t token.Op ")" (node kind.Block (t token.Op "{" (node
    kind.Return (t token.Keyword "return" (node kind.ClassConstant (t token.Label "self" (t token.Op "::" (t
    token.Label "K" none))) (t token.Semi ";" none))) (t token.Op "}" none))) none)))))) (t token.Op "}"
    none)))))) (node kind.Class (t token.Keyword "class" (t token.Label "B" (t token.Keyword "extends" (t
    token.Label "A" (t token.Op "{" (t token.Op "}" none)))))) (node kind.Echo (t token.Keyword "echo" (node
    kind.StaticCall (t token.Label "B" (t token.Op "::" (t token.Label "f" (t token.Op "(" (node kind.Args none (t
    token.Op ")" none)))))) (t token.Semi ";" none))) none)))

private_constant_of_its_class : Comes 200 (file private_constant_of_its_class_tree) (file private_constant_of_its_class_tree) (codes "a.php")
    ((codes "1"), ended)
    ((codes "1"), ended)
unfolding builtin_rows named_constants word_constants is_same_name newer_functions newer_classes newer_constants beyond_functions beyond_classes beyond_constants
private_constant_of_its_class = (refl, refl)

-- <?php class A { private static $p = 1; } $a = new A; echo 1; echo $a->p;
abbrev private_static_through_an_object_tree : Forest
private_static_through_an_object_tree =
    (node kind.Class (t token.Keyword "class" (t token.Label "A" (t token.Op "{" (node kind.Property (t
    token.Keyword "private" (t token.Keyword "static" (t token.Variable "$p" (t token.Op "=" (node kind.Number (t
    token.Int "1" none) (t token.Semi ";" none)))))) (t token.Op "}" none))))) (node kind.ExprStmt (node
    kind.Assign (node kind.Variable (t token.Variable "$a" none) (t token.Op "=" (node kind.New (t token.Keyword
    "new" (t token.Label "A" none)) none))) (t token.Semi ";" none)) (node kind.Echo (t token.Keyword "echo" (node
    kind.Number (t token.Int "1" none) (t token.Semi ";" none))) (node kind.Echo (t token.Keyword "echo" (node
    kind.Prop (node kind.Variable (t token.Variable "$a" none) (t token.Op "->" (t token.Label "p" none))) (t
    token.Semi ";" none))) none))))

private_static_through_an_object : Comes 200 (file private_static_through_an_object_tree) (file private_static_through_an_object_tree) (codes "a.php")
    ((codes "1"), outside NoRule)
    ((codes "1"), outside NoRule)
unfolding builtin_rows named_constants word_constants is_same_name newer_functions newer_classes newer_constants beyond_functions beyond_classes beyond_constants
private_static_through_an_object = (refl, refl)

-- ---- names, arguments, exceptions

-- <?php namespace A; use const B\PHP_EOL; echo 1; echo PHP_EOL;
abbrev imported_constant_tree : Forest
imported_constant_tree =
    (node kind.Namespace (t token.Keyword "namespace" (t token.Label "A" (t token.Semi ";" none))) (node kind.Use
    (t token.Keyword "use" (t token.Keyword "const" (t token.Label "B" (t token.Op "\\" (t token.Label "PHP_EOL"
    (t token.Semi ";" none)))))) (node kind.Echo (t token.Keyword "echo" (node kind.Number (t token.Int "1" none)
    (t token.Semi ";" none))) (node kind.Echo (t token.Keyword "echo" (node kind.Constant (t token.Label "PHP_EOL"
    none) (t token.Semi ";" none))) none))))

abbrev imported_constant_tree_in_8_3 : Forest
imported_constant_tree_in_8_3 =
    (node kind.Namespace (t token.Keyword "namespace" (t token.Label "A" (t token.Semi ";" none))) (node kind.Use
    (t token.Keyword "use" (t token.Keyword "const" (t token.Name "B\\PHP_EOL" (t token.Semi ";" none)))) (node
    kind.Echo (t token.Keyword "echo" (node kind.Number (t token.Int "1" none) (t token.Semi ";" none))) (node
    kind.Echo (t token.Keyword "echo" (node kind.Constant (t token.Label "PHP_EOL" none) (t token.Semi ";" none)))
    none))))

imported_constant : Comes 200 (file imported_constant_tree) (file imported_constant_tree_in_8_3) (codes "a.php")
    ((codes "1"), outside Declaration)
    ((codes "1"), outside Declaration)
unfolding builtin_rows named_constants word_constants is_same_name newer_functions newer_classes newer_constants beyond_functions beyond_classes beyond_constants
imported_constant = (refl, refl)

-- <?php echo $argc === count($argv) ? 1 : 2;
abbrev argc_counts_argv_tree : Forest
argc_counts_argv_tree =
    (node kind.Echo (t token.Keyword "echo" (node kind.Ternary (node kind.Binary (node kind.Variable (t
    token.Variable "$argc" none) (t token.Op "===" (node kind.Call (t token.Label "count" (t token.Op "(" (node
    kind.Args (node kind.Variable (t token.Variable "$argv" none) none) (t token.Op ")" none)))) none))) (t
    token.Op "?" (node kind.Number (t token.Int "1" none) (t token.Op ":" (node kind.Number (t token.Int "2" none)
    none))))) (t token.Semi ";" none))) none)

argc_counts_argv : Comes 200 (file argc_counts_argv_tree) (file argc_counts_argv_tree) (codes "a.php")
    ((codes "1"), ended)
    ((codes "1"), ended)
unfolding builtin_rows named_constants word_constants is_same_name newer_functions newer_classes newer_constants beyond_functions beyond_classes beyond_constants
argc_counts_argv = (refl, refl)

-- <?php class E extends Exception { function again() { parent::__construct("b"); } } $e = new E("a", 5); $e->again(); echo
-- $e->getMessage(), $e->getCode();
abbrev second_constructor_of_an_exception_tree : Forest
second_constructor_of_an_exception_tree =
    (node kind.Class (t token.Keyword "class" (t token.Label "E" (t token.Keyword "extends" (t token.Label
    "Exception" (t token.Op "{" (node kind.Method (t token.Keyword "function" (t token.Label "again" (t token.Op
    "(" (t token.Op ")" (node kind.Block (t token.Op "{" (node kind.ExprStmt (node kind.StaticCall (t token.Label
    "parent" (t token.Op "::" (t token.Label "__construct" (t token.Op "(" (node kind.Args (node kind.Text (t
    token.Text "\"b\"" none) none) (t token.Op ")" none)))))) (t token.Semi ";" none)) (t token.Op "}" none)))
    none))))) (t token.Op "}" none))))))) (node kind.ExprStmt (node kind.Assign (node kind.Variable (t
    token.Variable "$e" none) (t token.Op "=" (node kind.New (t token.Keyword "new" (t token.Label "E" (t token.Op
    "(" (node kind.Args (node kind.Text (t token.Text "\"a\"" none) (t token.Op "," (node kind.Number (t token.Int
    "5" none) none))) (t token.Op ")" none))))) none))) (t token.Semi ";" none)) (node kind.ExprStmt (node
    kind.MethodCall (node kind.Variable (t token.Variable "$e" none) (t token.Op "->" (t token.Label "again" (t
    token.Op "(" (node kind.Args none (t token.Op ")" none)))))) (t token.Semi ";" none)) (node kind.Echo (t
    token.Keyword "echo" (node kind.MethodCall (node kind.Variable (t token.Variable "$e" none) (t token.Op "->"
    (t token.Label "getMessage" (t token.Op "(" (node kind.Args none (t token.Op ")" none)))))) (t token.Op ","
    (node kind.MethodCall (node kind.Variable (t token.Variable "$e" none) (t token.Op "->" (t token.Label
    "getCode" (t token.Op "(" (node kind.Args none (t token.Op ")" none)))))) (t token.Semi ";" none))))) none))))

second_constructor_of_an_exception : Comes 200 (file second_constructor_of_an_exception_tree) (file second_constructor_of_an_exception_tree) (codes "a.php")
    ((codes "b5"), ended)
    ((codes "b5"), ended)
unfolding builtin_rows named_constants word_constants is_same_name newer_functions newer_classes newer_constants beyond_functions beyond_classes beyond_constants
second_constructor_of_an_exception = (refl, refl)

-- ---- what PHP refuses to compile

-- <?php echo 1; function f($a, $a) {}
abbrev two_parameters_of_one_name_tree : Forest
two_parameters_of_one_name_tree =
    (node kind.Echo (t token.Keyword "echo" (node kind.Number (t token.Int "1" none) (t token.Semi ";" none)))
    (node kind.Function (t token.Keyword "function" (t token.Label "f" (t token.Op "(" (node kind.Param (t
    token.Variable "$a" none) (t token.Op "," (node kind.Param (t token.Variable "$a" none) (t token.Op ")" (node
    kind.Block (t token.Op "{" (t token.Op "}" none)) none)))))))) none))

two_parameters_of_one_name : Comes 200 (file two_parameters_of_one_name_tree) (file two_parameters_of_one_name_tree) (codes "a.php")
    ((codes ""), outside Declaration)
    ((codes ""), outside Declaration)
unfolding builtin_rows named_constants word_constants is_same_name newer_functions newer_classes newer_constants beyond_functions beyond_classes beyond_constants
two_parameters_of_one_name = (refl, refl)

-- <?php echo 1; class A { function f($this) {} }
abbrev parameter_named_this_tree : Forest
parameter_named_this_tree =
    (node kind.Echo (t token.Keyword "echo" (node kind.Number (t token.Int "1" none) (t token.Semi ";" none)))
    (node kind.Class (t token.Keyword "class" (t token.Label "A" (t token.Op "{" (node kind.Method (t
    token.Keyword "function" (t token.Label "f" (t token.Op "(" (node kind.Param (t token.Variable "$this" none)
    (t token.Op ")" (node kind.Block (t token.Op "{" (t token.Op "}" none)) none)))))) (t token.Op "}" none)))))
    none))

parameter_named_this : Comes 200 (file parameter_named_this_tree) (file parameter_named_this_tree) (codes "a.php")
    ((codes ""), outside Declaration)
    ((codes ""), outside Declaration)
unfolding builtin_rows named_constants word_constants is_same_name newer_functions newer_classes newer_constants beyond_functions beyond_classes beyond_constants
parameter_named_this = (refl, refl)

-- <?php try { echo 1; } catch (Exception $this) {}
abbrev catch_into_this_tree : Forest
catch_into_this_tree =
    (node kind.Try (t token.Keyword "try" (node kind.Block (t token.Op "{" (node kind.Echo (t token.Keyword "echo"
    (node kind.Number (t token.Int "1" none) (t token.Semi ";" none))) (t token.Op "}" none))) (t token.Keyword
    "catch" (t token.Op "(" (t token.Label "Exception" (t token.Variable "$this" (t token.Op ")" (node kind.Block
    (t token.Op "{" (t token.Op "}" none)) none)))))))) none)

catch_into_this : Comes 200 (file catch_into_this_tree) (file catch_into_this_tree) (codes "a.php")
    ((codes ""), outside Declaration)
    ((codes ""), outside Declaration)
unfolding builtin_rows named_constants word_constants is_same_name newer_functions newer_classes newer_constants beyond_functions beyond_classes beyond_constants
catch_into_this = (refl, refl)

-- <?php echo 1; class String {}
abbrev class_named_string_tree : Forest
class_named_string_tree =
    (node kind.Echo (t token.Keyword "echo" (node kind.Number (t token.Int "1" none) (t token.Semi ";" none)))
    (node kind.Class (t token.Keyword "class" (t token.Label "String" (t token.Op "{" (t token.Op "}" none))))
    none))

class_named_string : Comes 200 (file class_named_string_tree) (file class_named_string_tree) (codes "a.php")
    ((codes ""), outside Declaration)
    ((codes ""), outside Declaration)
unfolding builtin_rows named_constants word_constants is_same_name newer_functions newer_classes newer_constants beyond_functions beyond_classes beyond_constants
class_named_string = (refl, refl)

-- <?php namespace N; echo 1; if (false) { class Iterable {} }
abbrev class_named_iterable_in_a_namespace_tree : Forest
class_named_iterable_in_a_namespace_tree =
    (node kind.Namespace (t token.Keyword "namespace" (t token.Label "N" (t token.Semi ";" none))) (node kind.Echo
    (t token.Keyword "echo" (node kind.Number (t token.Int "1" none) (t token.Semi ";" none))) (node kind.If (t
    token.Keyword "if" (t token.Op "(" (node kind.Constant (t token.Label "false" none) (t token.Op ")" (node
    kind.Block (t token.Op "{" (node kind.Class (t token.Keyword "class" (t token.Label "Iterable" (t token.Op "{"
    (t token.Op "}" none)))) (t token.Op "}" none))) none))))) none)))

class_named_iterable_in_a_namespace : Comes 200 (file class_named_iterable_in_a_namespace_tree) (file class_named_iterable_in_a_namespace_tree) (codes "a.php")
    ((codes ""), outside Declaration)
    ((codes ""), outside Declaration)
unfolding builtin_rows named_constants word_constants is_same_name newer_functions newer_classes newer_constants beyond_functions beyond_classes beyond_constants
class_named_iterable_in_a_namespace = (refl, refl)

-- <?php echo 1; if (false) { break; }
abbrev break_outside_loops_tree : Forest
break_outside_loops_tree =
    (node kind.Echo (t token.Keyword "echo" (node kind.Number (t token.Int "1" none) (t token.Semi ";" none)))
    (node kind.If (t token.Keyword "if" (t token.Op "(" (node kind.Constant (t token.Label "false" none) (t
    token.Op ")" (node kind.Block (t token.Op "{" (node kind.Break (t token.Keyword "break" (t token.Semi ";"
    none)) (t token.Op "}" none))) none))))) none))

break_outside_loops : Comes 200 (file break_outside_loops_tree) (file break_outside_loops_tree) (codes "a.php")
    ((codes ""), outside Declaration)
    ((codes ""), outside Declaration)
unfolding builtin_rows named_constants word_constants is_same_name newer_functions newer_classes newer_constants beyond_functions beyond_classes beyond_constants
break_outside_loops = (refl, refl)

-- <?php echo 1; while (false) { if (true) { break 2; } }
abbrev break_out_of_too_many_tree : Forest
break_out_of_too_many_tree =
    (node kind.Echo (t token.Keyword "echo" (node kind.Number (t token.Int "1" none) (t token.Semi ";" none)))
    (node kind.While (t token.Keyword "while" (t token.Op "(" (node kind.Constant (t token.Label "false" none) (t
    token.Op ")" (node kind.Block (t token.Op "{" (node kind.If (t token.Keyword "if" (t token.Op "(" (node
    kind.Constant (t token.Label "true" none) (t token.Op ")" (node kind.Block (t token.Op "{" (node kind.Break (t
    token.Keyword "break" (t token.Int "2" (t token.Semi ";" none))) (t token.Op "}" none))) none))))) (t token.Op
    "}" none))) none))))) none))

break_out_of_too_many : Comes 200 (file break_out_of_too_many_tree) (file break_out_of_too_many_tree) (codes "a.php")
    ((codes ""), outside Declaration)
    ((codes ""), outside Declaration)
unfolding builtin_rows named_constants word_constants is_same_name newer_functions newer_classes newer_constants beyond_functions beyond_classes beyond_constants
break_out_of_too_many = (refl, refl)

-- <?php while (false) { function f() { continue; } } echo 1;
abbrev continue_in_a_function_in_a_loop_tree : Forest
continue_in_a_function_in_a_loop_tree =
    (node kind.While (t token.Keyword "while" (t token.Op "(" (node kind.Constant (t token.Label "false" none) (t
    token.Op ")" (node kind.Block (t token.Op "{" (node kind.Function (t token.Keyword "function" (t token.Label
    "f" (t token.Op "(" (t token.Op ")" (node kind.Block (t token.Op "{" (node kind.Continue (t token.Keyword
    "continue" (t token.Semi ";" none)) (t token.Op "}" none))) none))))) (t token.Op "}" none))) none))))) (node
    kind.Echo (t token.Keyword "echo" (node kind.Number (t token.Int "1" none) (t token.Semi ";" none))) none))

continue_in_a_function_in_a_loop : Comes 200 (file continue_in_a_function_in_a_loop_tree) (file continue_in_a_function_in_a_loop_tree) (codes "a.php")
    ((codes ""), outside Declaration)
    ((codes ""), outside Declaration)
unfolding builtin_rows named_constants word_constants is_same_name newer_functions newer_classes newer_constants beyond_functions beyond_classes beyond_constants
continue_in_a_function_in_a_loop = (refl, refl)

-- <?php while (true) { while (true) { break 2; } } echo 1;
abbrev break_out_of_two_tree : Forest
break_out_of_two_tree =
    (node kind.While (t token.Keyword "while" (t token.Op "(" (node kind.Constant (t token.Label "true" none) (t
    token.Op ")" (node kind.Block (t token.Op "{" (node kind.While (t token.Keyword "while" (t token.Op "(" (node
    kind.Constant (t token.Label "true" none) (t token.Op ")" (node kind.Block (t token.Op "{" (node kind.Break (t
    token.Keyword "break" (t token.Int "2" (t token.Semi ";" none))) (t token.Op "}" none))) none))))) (t token.Op
    "}" none))) none))))) (node kind.Echo (t token.Keyword "echo" (node kind.Number (t token.Int "1" none) (t
    token.Semi ";" none))) none))

break_out_of_two : Comes 200 (file break_out_of_two_tree) (file break_out_of_two_tree) (codes "a.php")
    ((codes "1"), ended)
    ((codes "1"), ended)
unfolding builtin_rows named_constants word_constants is_same_name newer_functions newer_classes newer_constants beyond_functions beyond_classes beyond_constants
break_out_of_two = (refl, refl)

-- <?php echo 1; function f(): ?int { return; }
abbrev return_of_nothing_under_a_type_tree : Forest
return_of_nothing_under_a_type_tree =
    (node kind.Echo (t token.Keyword "echo" (node kind.Number (t token.Int "1" none) (t token.Semi ";" none)))
    (node kind.Function (t token.Keyword "function" (t token.Label "f" (t token.Op "(" (t token.Op ")" (t token.Op
    ":" (node kind.TypeName (t token.Op "?" (t token.Label "int" none)) (node kind.Block (t token.Op "{" (node
    kind.Return (t token.Keyword "return" (t token.Semi ";" none)) (t token.Op "}" none))) none))))))) none))

return_of_nothing_under_a_type : Comes 200 (file return_of_nothing_under_a_type_tree) (file return_of_nothing_under_a_type_tree) (codes "a.php")
    ((codes ""), outside Declaration)
    ((codes ""), outside Declaration)
unfolding builtin_rows named_constants word_constants is_same_name newer_functions newer_classes newer_constants beyond_functions beyond_classes beyond_constants
return_of_nothing_under_a_type = (refl, refl)

-- <?php echo 1; function f(): void { return 1; }
abbrev return_of_a_value_under_void_tree : Forest
return_of_a_value_under_void_tree =
    (node kind.Echo (t token.Keyword "echo" (node kind.Number (t token.Int "1" none) (t token.Semi ";" none)))
    (node kind.Function (t token.Keyword "function" (t token.Label "f" (t token.Op "(" (t token.Op ")" (t token.Op
    ":" (node kind.TypeName (t token.Label "void" none) (node kind.Block (t token.Op "{" (node kind.Return (t
    token.Keyword "return" (node kind.Number (t token.Int "1" none) (t token.Semi ";" none))) (t token.Op "}"
    none))) none))))))) none))

return_of_a_value_under_void : Comes 200 (file return_of_a_value_under_void_tree) (file return_of_a_value_under_void_tree) (codes "a.php")
    ((codes ""), outside Declaration)
    ((codes ""), outside Declaration)
unfolding builtin_rows named_constants word_constants is_same_name newer_functions newer_classes newer_constants beyond_functions beyond_classes beyond_constants
return_of_a_value_under_void = (refl, refl)

-- <?php echo 1; function f() { static $a; static $a; }
-- (refused from 8.3 on)
abbrev static_variable_twice_tree : Forest
static_variable_twice_tree =
    (node kind.Echo (t token.Keyword "echo" (node kind.Number (t token.Int "1" none) (t token.Semi ";" none)))
    (node kind.Function (t token.Keyword "function" (t token.Label "f" (t token.Op "(" (t token.Op ")" (node
    kind.Block (t token.Op "{" (node kind.Statics (t token.Keyword "static" (t token.Variable "$a" (t token.Semi
    ";" none))) (node kind.Statics (t token.Keyword "static" (t token.Variable "$a" (t token.Semi ";" none))) (t
    token.Op "}" none)))) none))))) none))

static_variable_twice : Comes 200 (file static_variable_twice_tree) (file static_variable_twice_tree) (codes "a.php")
    ((codes ""), outside Declaration)
    ((codes ""), outside Declaration)
unfolding builtin_rows named_constants word_constants is_same_name newer_functions newer_classes newer_constants beyond_functions beyond_classes beyond_constants
static_variable_twice = (refl, refl)

-- <?php echo 1; if (false) { class A { function f() {} function F() {} } }
abbrev method_twice_tree : Forest
method_twice_tree =
    (node kind.Echo (t token.Keyword "echo" (node kind.Number (t token.Int "1" none) (t token.Semi ";" none)))
    (node kind.If (t token.Keyword "if" (t token.Op "(" (node kind.Constant (t token.Label "false" none) (t
    token.Op ")" (node kind.Block (t token.Op "{" (node kind.Class (t token.Keyword "class" (t token.Label "A" (t
    token.Op "{" (node kind.Method (t token.Keyword "function" (t token.Label "f" (t token.Op "(" (t token.Op ")"
    (node kind.Block (t token.Op "{" (t token.Op "}" none)) none))))) (node kind.Method (t token.Keyword
    "function" (t token.Label "F" (t token.Op "(" (t token.Op ")" (node kind.Block (t token.Op "{" (t token.Op "}"
    none)) none))))) (t token.Op "}" none)))))) (t token.Op "}" none))) none))))) none))

method_twice : Comes 200 (file method_twice_tree) (file method_twice_tree) (codes "a.php")
    ((codes ""), outside Declaration)
    ((codes ""), outside Declaration)
unfolding builtin_rows named_constants word_constants is_same_name newer_functions newer_classes newer_constants beyond_functions beyond_classes beyond_constants
method_twice = (refl, refl)

-- <?php namespace N; use M\A; echo 1; class A {}
abbrev imported_class_declared_tree : Forest
imported_class_declared_tree =
    (node kind.Namespace (t token.Keyword "namespace" (t token.Label "N" (t token.Semi ";" none))) (node kind.Use
    (t token.Keyword "use" (t token.Label "M" (t token.Op "\\" (t token.Label "A" (t token.Semi ";" none)))))
    (node kind.Echo (t token.Keyword "echo" (node kind.Number (t token.Int "1" none) (t token.Semi ";" none)))
    (node kind.Class (t token.Keyword "class" (t token.Label "A" (t token.Op "{" (t token.Op "}" none)))) none))))

abbrev imported_class_declared_tree_in_8_3 : Forest
imported_class_declared_tree_in_8_3 =
    (node kind.Namespace (t token.Keyword "namespace" (t token.Label "N" (t token.Semi ";" none))) (node kind.Use
    (t token.Keyword "use" (t token.Name "M\\A" (t token.Semi ";" none))) (node kind.Echo (t token.Keyword "echo"
    (node kind.Number (t token.Int "1" none) (t token.Semi ";" none))) (node kind.Class (t token.Keyword "class"
    (t token.Label "A" (t token.Op "{" (t token.Op "}" none)))) none))))

imported_class_declared : Comes 200 (file imported_class_declared_tree) (file imported_class_declared_tree_in_8_3) (codes "a.php")
    ((codes ""), outside Declaration)
    ((codes ""), outside Declaration)
unfolding builtin_rows named_constants word_constants is_same_name newer_functions newer_classes newer_constants beyond_functions beyond_classes beyond_constants
imported_class_declared = (refl, refl)
