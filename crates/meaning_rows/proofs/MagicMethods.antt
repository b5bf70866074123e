-- Rows of whole programs: methods that PHP calls by itself, and methods against those that they override, held against real PHP. The 8.3
-- side is what PHP 8.2 does, where it has a meaning here.
use Rattle.std.proofs.Common.{[], refl, codes}
use Rattle.php_tree.specs.declared.token.TokenKind.TheVariants as token
use Rattle.php_tree.specs.declared.kind.NodeKind.TheVariants as kind
use Rattle.php_tree.specs.Tree.{Forest, none, node}
use Rattle.builtin_tables.specs.Beyond.{beyond_functions, beyond_classes, beyond_constants}
use Rattle.builtin_tables.specs.Builtins.{builtin_rows}
use Rattle.builtin_tables.specs.Constants.{named_constants, word_constants}
use Rattle.builtin_tables.specs.Named.{is_same_name}
use Rattle.builtin_tables.specs.Newer.{newer_functions, newer_classes, newer_constants}
use Rattle.php_meaning.specs.Cause.{Call, Declaration}
use Rattle.meaning_rows.specs.Words.{t, b, file, ended, outside, Comes}

-- ---- `__toString`

-- <?php class A { function __toString() { return "a"; } } $a = new A; echo 1; echo $a->__toString();
abbrev to_string_called_tree : Forest
to_string_called_tree =
    (node kind.Class (t token.Keyword "class" (t token.Label "A" (t token.Op "{" (node kind.Method (t
    token.Keyword "function" (t token.Label "__toString" (t token.Op "(" (t token.Op ")" (node kind.Block (t
    token.Op "{" (node kind.Return (t token.Keyword "return" (node kind.Text (t token.Text "\"a\"" none) (t
    token.Semi ";" none))) (t token.Op "}" none))) none))))) (t token.Op "}" none))))) (node kind.ExprStmt (node
    kind.Assign (node kind.Variable (t token.Variable "$a" none) (t token.Op "=" (node kind.New (t token.Keyword
    "new" (t token.Label "A" none)) none))) (t token.Semi ";" none)) (node kind.Echo (t token.Keyword "echo" (node
    kind.Number (t token.Int "1" none) (t token.Semi ";" none))) (node kind.Echo (t token.Keyword "echo" (node
    kind.MethodCall (node kind.Variable (t token.Variable "$a" none) (t token.Op "->" (t token.Label "__toString"
    (t token.Op "(" (node kind.Args none (t token.Op ")" none)))))) (t token.Semi ";" none))) none))))

to_string_called : Comes 200 (file to_string_called_tree) (file to_string_called_tree) (codes "a.php")
    ((codes "1"), outside Call)
    ((codes "1"), outside Call)
unfolding builtin_rows named_constants word_constants is_same_name newer_functions newer_classes newer_constants beyond_functions beyond_classes beyond_constants
to_string_called = (refl, refl)

-- <?php class E extends Exception { function f() { return parent::__toString(); } } $e = new E; echo 1; $e->f();
abbrev to_string_of_a_parent_tree : Forest
to_string_of_a_parent_tree =
    (node kind.Class (t token.Keyword "class" (t token.Label "E" (t token.Keyword "extends" (t token.Label
    "Exception" (t token.Op "{" (node kind.Method (t token.Keyword "function" (t token.Label "f" (t token.Op "("
    (t token.Op ")" (node kind.Block (t token.Op "{" (node kind.Return (t token.Keyword "return" (node
    kind.StaticCall (t token.Label "parent" (t token.Op "::" (t token.Label "__toString" (t token.Op "(" (node
    kind.Args none (t token.Op ")" none)))))) (t token.Semi ";" none))) (t token.Op "}" none))) none))))) (t
    token.Op "}" none))))))) (node kind.ExprStmt (node kind.Assign (node kind.Variable (t token.Variable "$e"
    none) (t token.Op "=" (node kind.New (t token.Keyword "new" (t token.Label "E" none)) none))) (t token.Semi
    ";" none)) (node kind.Echo (t token.Keyword "echo" (node kind.Number (t token.Int "1" none) (t token.Semi ";"
    none))) (node kind.ExprStmt (node kind.MethodCall (node kind.Variable (t token.Variable "$e" none) (t token.Op
    "->" (t token.Label "f" (t token.Op "(" (node kind.Args none (t token.Op ")" none)))))) (t token.Semi ";"
    none)) none))))

to_string_of_a_parent : Comes 200 (file to_string_of_a_parent_tree) (file to_string_of_a_parent_tree) (codes "a.php")
    ((codes "1"), outside Call)
    ((codes "1"), outside Call)
unfolding builtin_rows named_constants word_constants is_same_name newer_functions newer_classes newer_constants beyond_functions beyond_classes beyond_constants
to_string_of_a_parent = (refl, refl)

-- <?php class A { function __toString() { return 5; } } $a = new A; echo 1; echo $a->__ToString();
abbrev to_string_that_gives_an_int_tree : Forest
to_string_that_gives_an_int_tree =
    (node kind.Class (t token.Keyword "class" (t token.Label "A" (t token.Op "{" (node kind.Method (t
    token.Keyword "function" (t token.Label "__toString" (t token.Op "(" (t token.Op ")" (node kind.Block (t
    token.Op "{" (node kind.Return (t token.Keyword "return" (node kind.Number (t token.Int "5" none) (t
    token.Semi ";" none))) (t token.Op "}" none))) none))))) (t token.Op "}" none))))) (node kind.ExprStmt (node
    kind.Assign (node kind.Variable (t token.Variable "$a" none) (t token.Op "=" (node kind.New (t token.Keyword
    "new" (t token.Label "A" none)) none))) (t token.Semi ";" none)) (node kind.Echo (t token.Keyword "echo" (node
    kind.Number (t token.Int "1" none) (t token.Semi ";" none))) (node kind.Echo (t token.Keyword "echo" (node
    kind.MethodCall (node kind.Variable (t token.Variable "$a" none) (t token.Op "->" (t token.Label "__ToString"
    (t token.Op "(" (node kind.Args none (t token.Op ")" none)))))) (t token.Semi ";" none))) none))))

to_string_that_gives_an_int : Comes 200 (file to_string_that_gives_an_int_tree) (file to_string_that_gives_an_int_tree) (codes "a.php")
    ((codes "1"), outside Call)
    ((codes "1"), outside Call)
unfolding builtin_rows named_constants word_constants is_same_name newer_functions newer_classes newer_constants beyond_functions beyond_classes beyond_constants
to_string_that_gives_an_int = (refl, refl)

-- <?php class A { public $p = 1; function __toString() { return "a"; } } $a = new A; echo $a->p;
abbrev object_with_to_string_tree : Forest
object_with_to_string_tree =
    (node kind.Class (t token.Keyword "class" (t token.Label "A" (t token.Op "{" (node kind.Property (t
    token.Keyword "public" (t token.Variable "$p" (t token.Op "=" (node kind.Number (t token.Int "1" none) (t
    token.Semi ";" none))))) (node kind.Method (t token.Keyword "function" (t token.Label "__toString" (t token.Op
    "(" (t token.Op ")" (node kind.Block (t token.Op "{" (node kind.Return (t token.Keyword "return" (node
    kind.Text (t token.Text "\"a\"" none) (t token.Semi ";" none))) (t token.Op "}" none))) none))))) (t token.Op
    "}" none)))))) (node kind.ExprStmt (node kind.Assign (node kind.Variable (t token.Variable "$a" none) (t
    token.Op "=" (node kind.New (t token.Keyword "new" (t token.Label "A" none)) none))) (t token.Semi ";" none))
    (node kind.Echo (t token.Keyword "echo" (node kind.Prop (node kind.Variable (t token.Variable "$a" none) (t
    token.Op "->" (t token.Label "p" none))) (t token.Semi ";" none))) none)))

object_with_to_string : Comes 200 (file object_with_to_string_tree) (file object_with_to_string_tree) (codes "a.php")
    ((codes "1"), ended)
    ((codes "1"), ended)
unfolding builtin_rows named_constants word_constants is_same_name newer_functions newer_classes newer_constants beyond_functions beyond_classes beyond_constants
object_with_to_string = (refl, refl)

-- <?php class A { function __toString() { return "a"; } } $a = new A; echo 1; echo $a instanceof Stringable ? 1 : 2;
abbrev stringable_by_to_string_tree : Forest
stringable_by_to_string_tree =
    (node kind.Class (t token.Keyword "class" (t token.Label "A" (t token.Op "{" (node kind.Method (t
    token.Keyword "function" (t token.Label "__toString" (t token.Op "(" (t token.Op ")" (node kind.Block (t
    token.Op "{" (node kind.Return (t token.Keyword "return" (node kind.Text (t token.Text "\"a\"" none) (t
    token.Semi ";" none))) (t token.Op "}" none))) none))))) (t token.Op "}" none))))) (node kind.ExprStmt (node
    kind.Assign (node kind.Variable (t token.Variable "$a" none) (t token.Op "=" (node kind.New (t token.Keyword
    "new" (t token.Label "A" none)) none))) (t token.Semi ";" none)) (node kind.Echo (t token.Keyword "echo" (node
    kind.Number (t token.Int "1" none) (t token.Semi ";" none))) (node kind.Echo (t token.Keyword "echo" (node
    kind.Ternary (node kind.InstanceOf (node kind.Variable (t token.Variable "$a" none) (t token.Keyword
    "instanceof" (t token.Label "Stringable" none))) (t token.Op "?" (node kind.Number (t token.Int "1" none) (t
    token.Op ":" (node kind.Number (t token.Int "2" none) none))))) (t token.Semi ";" none))) none))))

stringable_by_to_string : Comes 200 (file stringable_by_to_string_tree) (file stringable_by_to_string_tree) (codes "a.php")
    ((codes "1"), outside Declaration)
    ((codes "1"), outside Declaration)
unfolding builtin_rows named_constants word_constants is_same_name newer_functions newer_classes newer_constants beyond_functions beyond_classes beyond_constants
stringable_by_to_string = (refl, refl)

-- <?php echo 1; class A { function __toString($a) { return "a"; } }
abbrev to_string_with_a_parameter_tree : Forest
to_string_with_a_parameter_tree =
    (node kind.Echo (t token.Keyword "echo" (node kind.Number (t token.Int "1" none) (t token.Semi ";" none)))
    (node kind.Class (t token.Keyword "class" (t token.Label "A" (t token.Op "{" (node kind.Method (t
    token.Keyword "function" (t token.Label "__toString" (t token.Op "(" (node kind.Param (t token.Variable "$a"
    none) (t token.Op ")" (node kind.Block (t token.Op "{" (node kind.Return (t token.Keyword "return" (node
    kind.Text (t token.Text "\"a\"" none) (t token.Semi ";" none))) (t token.Op "}" none))) none)))))) (t token.Op
    "}" none))))) none))

to_string_with_a_parameter : Comes 200 (file to_string_with_a_parameter_tree) (file to_string_with_a_parameter_tree) (codes "a.php")
    ((codes ""), outside Declaration)
    ((codes ""), outside Declaration)
unfolding builtin_rows named_constants word_constants is_same_name newer_functions newer_classes newer_constants beyond_functions beyond_classes beyond_constants
to_string_with_a_parameter = (refl, refl)

-- <?php echo 1; class A { function __toString(): int { return 1; } }
abbrev to_string_of_another_type_tree : Forest
to_string_of_another_type_tree =
    (node kind.Echo (t token.Keyword "echo" (node kind.Number (t token.Int "1" none) (t token.Semi ";" none)))
    (node kind.Class (t token.Keyword "class" (t token.Label "A" (t token.Op "{" (node kind.Method (t
    token.Keyword "function" (t token.Label "__toString" (t token.Op "(" (t token.Op ")" (t token.Op ":" (node
    kind.TypeName (t token.Label "int" none) (node kind.Block (t token.Op "{" (node kind.Return (t token.Keyword
    "return" (node kind.Number (t token.Int "1" none) (t token.Semi ";" none))) (t token.Op "}" none)))
    none))))))) (t token.Op "}" none))))) none))

to_string_of_another_type : Comes 200 (file to_string_of_another_type_tree) (file to_string_of_another_type_tree) (codes "a.php")
    ((codes ""), outside Declaration)
    ((codes ""), outside Declaration)
unfolding builtin_rows named_constants word_constants is_same_name newer_functions newer_classes newer_constants beyond_functions beyond_classes beyond_constants
to_string_of_another_type = (refl, refl)

-- <?php echo 1; class A { static function __construct() {} }
abbrev static_constructor_tree : Forest
static_constructor_tree =
    (node kind.Echo (t token.Keyword "echo" (node kind.Number (t token.Int "1" none) (t token.Semi ";" none)))
    (node kind.Class (t token.Keyword "class" (t token.Label "A" (t token.Op "{" (node kind.Method (t
    token.Keyword "static" (t token.Keyword "function" (t token.Label "__construct" (t token.Op "(" (t token.Op
    ")" (node kind.Block (t token.Op "{" (t token.Op "}" none)) none)))))) (t token.Op "}" none))))) none))

static_constructor : Comes 200 (file static_constructor_tree) (file static_constructor_tree) (codes "a.php")
    ((codes ""), outside Declaration)
    ((codes ""), outside Declaration)
unfolding builtin_rows named_constants word_constants is_same_name newer_functions newer_classes newer_constants beyond_functions beyond_classes beyond_constants
static_constructor = (refl, refl)

-- <?php echo 1; class A { function __construct(): void {} }
abbrev constructor_with_a_type_tree : Forest
constructor_with_a_type_tree =
    (node kind.Echo (t token.Keyword "echo" (node kind.Number (t token.Int "1" none) (t token.Semi ";" none)))
    (node kind.Class (t token.Keyword "class" (t token.Label "A" (t token.Op "{" (node kind.Method (t
    token.Keyword "function" (t token.Label "__construct" (t token.Op "(" (t token.Op ")" (t token.Op ":" (node
    kind.TypeName (t token.Label "void" none) (node kind.Block (t token.Op "{" (t token.Op "}" none)) none)))))))
    (t token.Op "}" none))))) none))

constructor_with_a_type : Comes 200 (file constructor_with_a_type_tree) (file constructor_with_a_type_tree) (codes "a.php")
    ((codes ""), outside Declaration)
    ((codes ""), outside Declaration)
unfolding builtin_rows named_constants word_constants is_same_name newer_functions newer_classes newer_constants beyond_functions beyond_classes beyond_constants
constructor_with_a_type = (refl, refl)

-- ---- methods that PHP calls by itself

-- <?php class A { function __get($n) { return 1; } } $a = new A; echo $a->p;
abbrev magic_get_tree : Forest
magic_get_tree =
    (node kind.Class (t token.Keyword "class" (t token.Label "A" (t token.Op "{" (node kind.Method (t
    token.Keyword "function" (t token.Label "__get" (t token.Op "(" (node kind.Param (t token.Variable "$n" none)
    (t token.Op ")" (node kind.Block (t token.Op "{" (node kind.Return (t token.Keyword "return" (node kind.Number
    (t token.Int "1" none) (t token.Semi ";" none))) (t token.Op "}" none))) none)))))) (t token.Op "}" none)))))
    (node kind.ExprStmt (node kind.Assign (node kind.Variable (t token.Variable "$a" none) (t token.Op "=" (node
    kind.New (t token.Keyword "new" (t token.Label "A" none)) none))) (t token.Semi ";" none)) (node kind.Echo (t
    token.Keyword "echo" (node kind.Prop (node kind.Variable (t token.Variable "$a" none) (t token.Op "->" (t
    token.Label "p" none))) (t token.Semi ";" none))) none)))

magic_get : Comes 200 (file magic_get_tree) (file magic_get_tree) (codes "a.php")
    ((codes ""), outside Declaration)
    ((codes ""), outside Declaration)
unfolding builtin_rows named_constants word_constants is_same_name newer_functions newer_classes newer_constants beyond_functions beyond_classes beyond_constants
magic_get = (refl, refl)

-- <?php class A { function __set($n, $v) { echo 1; } } $a = new A; $a->p = 2;
abbrev magic_set_tree : Forest
magic_set_tree =
    (node kind.Class (t token.Keyword "class" (t token.Label "A" (t token.Op "{" (node kind.Method (t
    token.Keyword "function" (t token.Label "__set" (t token.Op "(" (node kind.Param (t token.Variable "$n" none)
    (t token.Op "," (node kind.Param (t token.Variable "$v" none) (t token.Op ")" (node kind.Block (t token.Op "{"
    (node kind.Echo (t token.Keyword "echo" (node kind.Number (t token.Int "1" none) (t token.Semi ";" none))) (t
    token.Op "}" none))) none)))))))) (t token.Op "}" none))))) (node kind.ExprStmt (node kind.Assign (node
    kind.Variable (t token.Variable "$a" none) (t token.Op "=" (node kind.New (t token.Keyword "new" (t
    token.Label "A" none)) none))) (t token.Semi ";" none)) (node kind.ExprStmt (node kind.Assign (node kind.Prop
    (node kind.Variable (t token.Variable "$a" none) (t token.Op "->" (t token.Label "p" none))) (t token.Op "="
    (node kind.Number (t token.Int "2" none) none))) (t token.Semi ";" none)) none)))

magic_set : Comes 200 (file magic_set_tree) (file magic_set_tree) (codes "a.php")
    ((codes ""), outside Declaration)
    ((codes ""), outside Declaration)
unfolding builtin_rows named_constants word_constants is_same_name newer_functions newer_classes newer_constants beyond_functions beyond_classes beyond_constants
magic_set = (refl, refl)

-- <?php class A { function __isset($n) { return true; } } $a = new A; echo isset($a->p) ? 1 : 2;
abbrev magic_isset_tree : Forest
magic_isset_tree =
    (node kind.Class (t token.Keyword "class" (t token.Label "A" (t token.Op "{" (node kind.Method (t
    token.Keyword "function" (t token.Label "__isset" (t token.Op "(" (node kind.Param (t token.Variable "$n"
    none) (t token.Op ")" (node kind.Block (t token.Op "{" (node kind.Return (t token.Keyword "return" (node
    kind.Constant (t token.Label "true" none) (t token.Semi ";" none))) (t token.Op "}" none))) none)))))) (t
    token.Op "}" none))))) (node kind.ExprStmt (node kind.Assign (node kind.Variable (t token.Variable "$a" none)
    (t token.Op "=" (node kind.New (t token.Keyword "new" (t token.Label "A" none)) none))) (t token.Semi ";"
    none)) (node kind.Echo (t token.Keyword "echo" (node kind.Ternary (node kind.Isset (t token.Keyword "isset" (t
    token.Op "(" (node kind.Prop (node kind.Variable (t token.Variable "$a" none) (t token.Op "->" (t token.Label
    "p" none))) (t token.Op ")" none)))) (t token.Op "?" (node kind.Number (t token.Int "1" none) (t token.Op ":"
    (node kind.Number (t token.Int "2" none) none))))) (t token.Semi ";" none))) none)))

magic_isset : Comes 200 (file magic_isset_tree) (file magic_isset_tree) (codes "a.php")
    ((codes ""), outside Declaration)
    ((codes ""), outside Declaration)
unfolding builtin_rows named_constants word_constants is_same_name newer_functions newer_classes newer_constants beyond_functions beyond_classes beyond_constants
magic_isset = (refl, refl)

-- <?php class A { function __unset($n) { echo 1; } } $a = new A; unset($a->p);
abbrev magic_unset_tree : Forest
magic_unset_tree =
    (node kind.Class (t token.Keyword "class" (t token.Label "A" (t token.Op "{" (node kind.Method (t
    token.Keyword "function" (t token.Label "__unset" (t token.Op "(" (node kind.Param (t token.Variable "$n"
    none) (t token.Op ")" (node kind.Block (t token.Op "{" (node kind.Echo (t token.Keyword "echo" (node
    kind.Number (t token.Int "1" none) (t token.Semi ";" none))) (t token.Op "}" none))) none)))))) (t token.Op
    "}" none))))) (node kind.ExprStmt (node kind.Assign (node kind.Variable (t token.Variable "$a" none) (t
    token.Op "=" (node kind.New (t token.Keyword "new" (t token.Label "A" none)) none))) (t token.Semi ";" none))
    (node kind.Unset (t token.Keyword "unset" (t token.Op "(" (node kind.Prop (node kind.Variable (t
    token.Variable "$a" none) (t token.Op "->" (t token.Label "p" none))) (t token.Op ")" (t token.Semi ";"
    none))))) none)))

magic_unset : Comes 200 (file magic_unset_tree) (file magic_unset_tree) (codes "a.php")
    ((codes ""), outside Declaration)
    ((codes ""), outside Declaration)
unfolding builtin_rows named_constants word_constants is_same_name newer_functions newer_classes newer_constants beyond_functions beyond_classes beyond_constants
magic_unset = (refl, refl)

-- <?php class A { function __call($n, $a) { return 1; } } $a = new A; echo $a->f();
abbrev magic_call_tree : Forest
magic_call_tree =
    (node kind.Class (t token.Keyword "class" (t token.Label "A" (t token.Op "{" (node kind.Method (t
    token.Keyword "function" (t token.Label "__call" (t token.Op "(" (node kind.Param (t token.Variable "$n" none)
    (t token.Op "," (node kind.Param (t token.Variable "$a" none) (t token.Op ")" (node kind.Block (t token.Op "{"
    (node kind.Return (t token.Keyword "return" (node kind.Number (t token.Int "1" none) (t token.Semi ";" none)))
    (t token.Op "}" none))) none)))))))) (t token.Op "}" none))))) (node kind.ExprStmt (node kind.Assign (node
    kind.Variable (t token.Variable "$a" none) (t token.Op "=" (node kind.New (t token.Keyword "new" (t
    token.Label "A" none)) none))) (t token.Semi ";" none)) (node kind.Echo (t token.Keyword "echo" (node
    kind.MethodCall (node kind.Variable (t token.Variable "$a" none) (t token.Op "->" (t token.Label "f" (t
    token.Op "(" (node kind.Args none (t token.Op ")" none)))))) (t token.Semi ";" none))) none)))

magic_call : Comes 200 (file magic_call_tree) (file magic_call_tree) (codes "a.php")
    ((codes ""), outside Declaration)
    ((codes ""), outside Declaration)
unfolding builtin_rows named_constants word_constants is_same_name newer_functions newer_classes newer_constants beyond_functions beyond_classes beyond_constants
magic_call = (refl, refl)

-- <?php class A { static function __callStatic($n, $a) { return 1; } } echo A::f();
abbrev magic_static_call_tree : Forest
magic_static_call_tree =
    (node kind.Class (t token.Keyword "class" (t token.Label "A" (t token.Op "{" (node kind.Method (t
    token.Keyword "static" (t token.Keyword "function" (t token.Label "__callStatic" (t token.Op "(" (node
    kind.Param (t token.Variable "$n" none) (t token.Op "," (node kind.Param (t token.Variable "$a" none) (t
    token.Op ")" (node kind.Block (t token.Op "{" (node kind.Return (t token.Keyword "return" (node kind.Number (t
    token.Int "1" none) (t token.Semi ";" none))) (t token.Op "}" none))) none))))))))) (t token.Op "}" none)))))
    (node kind.Echo (t token.Keyword "echo" (node kind.StaticCall (t token.Label "A" (t token.Op "::" (t
    token.Label "f" (t token.Op "(" (node kind.Args none (t token.Op ")" none)))))) (t token.Semi ";" none)))
    none))

magic_static_call : Comes 200 (file magic_static_call_tree) (file magic_static_call_tree) (codes "a.php")
    ((codes ""), outside Declaration)
    ((codes ""), outside Declaration)
unfolding builtin_rows named_constants word_constants is_same_name newer_functions newer_classes newer_constants beyond_functions beyond_classes beyond_constants
magic_static_call = (refl, refl)

-- <?php class A {} echo 1; class B extends A { function __destruct() { echo 2; } } new B;
abbrev magic_destructor_of_a_child_tree : Forest
magic_destructor_of_a_child_tree =
    (node kind.Class (t token.Keyword "class" (t token.Label "A" (t token.Op "{" (t token.Op "}" none)))) (node
    kind.Echo (t token.Keyword "echo" (node kind.Number (t token.Int "1" none) (t token.Semi ";" none))) (node
    kind.Class (t token.Keyword "class" (t token.Label "B" (t token.Keyword "extends" (t token.Label "A" (t
    token.Op "{" (node kind.Method (t token.Keyword "function" (t token.Label "__destruct" (t token.Op "(" (t
    token.Op ")" (node kind.Block (t token.Op "{" (node kind.Echo (t token.Keyword "echo" (node kind.Number (t
    token.Int "2" none) (t token.Semi ";" none))) (t token.Op "}" none))) none))))) (t token.Op "}" none)))))))
    (node kind.ExprStmt (node kind.New (t token.Keyword "new" (t token.Label "B" none)) (t token.Semi ";" none))
    none))))

magic_destructor_of_a_child : Comes 200 (file magic_destructor_of_a_child_tree) (file magic_destructor_of_a_child_tree) (codes "a.php")
    ((codes ""), outside Declaration)
    ((codes ""), outside Declaration)
unfolding builtin_rows named_constants word_constants is_same_name newer_functions newer_classes newer_constants beyond_functions beyond_classes beyond_constants
magic_destructor_of_a_child = (refl, refl)

-- <?php class A { function __invoke() { return 1; } } $a = new A; echo $a();
abbrev magic_invoke_tree : Forest
magic_invoke_tree =
    (node kind.Class (t token.Keyword "class" (t token.Label "A" (t token.Op "{" (node kind.Method (t
    token.Keyword "function" (t token.Label "__invoke" (t token.Op "(" (t token.Op ")" (node kind.Block (t
    token.Op "{" (node kind.Return (t token.Keyword "return" (node kind.Number (t token.Int "1" none) (t
    token.Semi ";" none))) (t token.Op "}" none))) none))))) (t token.Op "}" none))))) (node kind.ExprStmt (node
    kind.Assign (node kind.Variable (t token.Variable "$a" none) (t token.Op "=" (node kind.New (t token.Keyword
    "new" (t token.Label "A" none)) none))) (t token.Semi ";" none)) (node kind.Echo (t token.Keyword "echo" (node
    kind.Call (node kind.Variable (t token.Variable "$a" none) (t token.Op "(" (node kind.Args none (t token.Op
    ")" none)))) (t token.Semi ";" none))) none)))

magic_invoke : Comes 200 (file magic_invoke_tree) (file magic_invoke_tree) (codes "a.php")
    ((codes ""), outside Declaration)
    ((codes ""), outside Declaration)
unfolding builtin_rows named_constants word_constants is_same_name newer_functions newer_classes newer_constants beyond_functions beyond_classes beyond_constants
magic_invoke = (refl, refl)

-- <?php class A { function __WakeUp() {} } echo 1;
abbrev magic_wakeup_tree : Forest
magic_wakeup_tree =
    (node kind.Class (t token.Keyword "class" (t token.Label "A" (t token.Op "{" (node kind.Method (t
    token.Keyword "function" (t token.Label "__WakeUp" (t token.Op "(" (t token.Op ")" (node kind.Block (t
    token.Op "{" (t token.Op "}" none)) none))))) (t token.Op "}" none))))) (node kind.Echo (t token.Keyword
    "echo" (node kind.Number (t token.Int "1" none) (t token.Semi ";" none))) none))

magic_wakeup : Comes 200 (file magic_wakeup_tree) (file magic_wakeup_tree) (codes "a.php")
    ((codes ""), outside Declaration)
    ((codes ""), outside Declaration)
unfolding builtin_rows named_constants word_constants is_same_name newer_functions newer_classes newer_constants beyond_functions beyond_classes beyond_constants
magic_wakeup = (refl, refl)

-- ---- functions that 8.x refuses

-- <?php echo 1; function __autoload($c) {}
abbrev function_autoload_tree : Forest
function_autoload_tree =
    (node kind.Echo (t token.Keyword "echo" (node kind.Number (t token.Int "1" none) (t token.Semi ";" none)))
    (node kind.Function (t token.Keyword "function" (t token.Label "__autoload" (t token.Op "(" (node kind.Param
    (t token.Variable "$c" none) (t token.Op ")" (node kind.Block (t token.Op "{" (t token.Op "}" none))
    none)))))) none))

function_autoload : Comes 200 (file function_autoload_tree) (file function_autoload_tree) (codes "a.php")
    ((codes ""), outside Declaration)
    ((codes ""), outside Declaration)
unfolding builtin_rows named_constants word_constants is_same_name newer_functions newer_classes newer_constants beyond_functions beyond_classes beyond_constants
function_autoload = (refl, refl)

-- <?php namespace N; echo 1; if (false) { function Assert($a) {} }
abbrev function_assert_tree : Forest
function_assert_tree =
    (node kind.Namespace (t token.Keyword "namespace" (t token.Label "N" (t token.Semi ";" none))) (node kind.Echo
    (t token.Keyword "echo" (node kind.Number (t token.Int "1" none) (t token.Semi ";" none))) (node kind.If (t
    token.Keyword "if" (t token.Op "(" (node kind.Constant (t token.Label "false" none) (t token.Op ")" (node
    kind.Block (t token.Op "{" (node kind.Function (t token.Keyword "function" (t token.Label "Assert" (t token.Op
    "(" (node kind.Param (t token.Variable "$a" none) (t token.Op ")" (node kind.Block (t token.Op "{" (t token.Op
    "}" none)) none)))))) (t token.Op "}" none))) none))))) none)))

function_assert : Comes 200 (file function_assert_tree) (file function_assert_tree) (codes "a.php")
    ((codes ""), outside Declaration)
    ((codes ""), outside Declaration)
unfolding builtin_rows named_constants word_constants is_same_name newer_functions newer_classes newer_constants beyond_functions beyond_classes beyond_constants
function_assert = (refl, refl)

-- ---- what a method takes that overrides another one

-- <?php class A { function f($a) {} } echo 1; class B extends A { function f() {} }
abbrev overrides_with_fewer_parameters_tree : Forest
overrides_with_fewer_parameters_tree =
    (node kind.Class (t token.Keyword "class" (t token.Label "A" (t token.Op "{" (node kind.Method (t
    token.Keyword "function" (t token.Label "f" (t token.Op "(" (node kind.Param (t token.Variable "$a" none) (t
    token.Op ")" (node kind.Block (t token.Op "{" (t token.Op "}" none)) none)))))) (t token.Op "}" none)))))
    (node kind.Echo (t token.Keyword "echo" (node kind.Number (t token.Int "1" none) (t token.Semi ";" none)))
    (node kind.Class (t token.Keyword "class" (t token.Label "B" (t token.Keyword "extends" (t token.Label "A" (t
    token.Op "{" (node kind.Method (t token.Keyword "function" (t token.Label "f" (t token.Op "(" (t token.Op ")"
    (node kind.Block (t token.Op "{" (t token.Op "}" none)) none))))) (t token.Op "}" none))))))) none)))

overrides_with_fewer_parameters : Comes 200 (file overrides_with_fewer_parameters_tree) (file overrides_with_fewer_parameters_tree) (codes "a.php")
    ((codes ""), outside Declaration)
    ((codes ""), outside Declaration)
unfolding builtin_rows named_constants word_constants is_same_name newer_functions newer_classes newer_constants beyond_functions beyond_classes beyond_constants
overrides_with_fewer_parameters = (refl, refl)

-- <?php class A { function f($a, $b = 1) {} } echo 1; class B extends A { function f($a, $b) {} }
abbrev overrides_with_more_required_tree : Forest
overrides_with_more_required_tree =
    (node kind.Class (t token.Keyword "class" (t token.Label "A" (t token.Op "{" (node kind.Method (t
    token.Keyword "function" (t token.Label "f" (t token.Op "(" (node kind.Param (t token.Variable "$a" none) (t
    token.Op "," (node kind.Param (t token.Variable "$b" (t token.Op "=" (node kind.Number (t token.Int "1" none)
    none))) (t token.Op ")" (node kind.Block (t token.Op "{" (t token.Op "}" none)) none)))))))) (t token.Op "}"
    none))))) (node kind.Echo (t token.Keyword "echo" (node kind.Number (t token.Int "1" none) (t token.Semi ";"
    none))) (node kind.Class (t token.Keyword "class" (t token.Label "B" (t token.Keyword "extends" (t token.Label
    "A" (t token.Op "{" (node kind.Method (t token.Keyword "function" (t token.Label "f" (t token.Op "(" (node
    kind.Param (t token.Variable "$a" none) (t token.Op "," (node kind.Param (t token.Variable "$b" none) (t
    token.Op ")" (node kind.Block (t token.Op "{" (t token.Op "}" none)) none)))))))) (t token.Op "}" none)))))))
    none)))

overrides_with_more_required : Comes 200 (file overrides_with_more_required_tree) (file overrides_with_more_required_tree) (codes "a.php")
    ((codes ""), outside Declaration)
    ((codes ""), outside Declaration)
unfolding builtin_rows named_constants word_constants is_same_name newer_functions newer_classes newer_constants beyond_functions beyond_classes beyond_constants
overrides_with_more_required = (refl, refl)

-- <?php class A { function f($a) { return $a; } } class B extends A { function f($a, $b = 2) { return $b; } } $b = new B; echo
-- $b->f(1);
abbrev overrides_with_a_further_default_tree : Forest
overrides_with_a_further_default_tree =
    (node kind.Class (t token.Keyword "class" (t token.Label "A" (t token.Op "{" (node kind.Method (t
    token.Keyword "function" (t token.Label "f" (t token.Op "(" (node kind.Param (t token.Variable "$a" none) (t
    token.Op ")" (node kind.Block (t token.Op "{" (node kind.Return (t token.Keyword "return" (node kind.Variable
    (t token.Variable "$a" none) (t token.Semi ";" none))) (t token.Op "}" none))) none)))))) (t token.Op "}"
    none))))) (node kind.Class (t token.Keyword "class" (t token.Label "B" (t token.Keyword "extends" (t
    token.Label "A" (t token.Op "{" (node kind.Method (t token.Keyword "function" (t token.Label "f" (t token.Op
    "(" (node kind.Param (t token.Variable "$a" none) (t token.Op "," (node kind.Param (t token.Variable "$b" (t
    token.Op "=" (node kind.Number (t token.Int "2" none) none))) (t token.Op ")" (node kind.Block (t token.Op "{"
    (node kind.Return (t token.Keyword "return" (node kind.Variable (t token.Variable "$b" none) (t token.Semi ";"
    none))) (t token.Op "}" none))) none)))))))) (t token.Op "}" none))))))) (node kind.ExprStmt (node kind.Assign
    (node kind.Variable (t token.Variable "$b" none) (t token.Op "=" (node kind.New (t token.Keyword "new" (t
    token.Label "B" none)) none))) (t token.Semi ";" none)) (node kind.Echo (t token.Keyword "echo" (node
    kind.MethodCall (node kind.Variable (t token.Variable "$b" none) (t token.Op "->" (t token.Label "f" (t
    token.Op "(" (node kind.Args (node kind.Number (t token.Int "1" none) none) (t token.Op ")" none)))))) (t
    token.Semi ";" none))) none))))

overrides_with_a_further_default : Comes 200 (file overrides_with_a_further_default_tree) (file overrides_with_a_further_default_tree) (codes "a.php")
    ((codes "2"), ended)
    ((codes "2"), ended)
unfolding builtin_rows named_constants word_constants is_same_name newer_functions newer_classes newer_constants beyond_functions beyond_classes beyond_constants
overrides_with_a_further_default = (refl, refl)

-- <?php class A { function f($a) {} } echo 1; class B extends A { function f(&$a) {} }
abbrev overrides_by_reference_tree : Forest
overrides_by_reference_tree =
    (node kind.Class (t token.Keyword "class" (t token.Label "A" (t token.Op "{" (node kind.Method (t
    token.Keyword "function" (t token.Label "f" (t token.Op "(" (node kind.Param (t token.Variable "$a" none) (t
    token.Op ")" (node kind.Block (t token.Op "{" (t token.Op "}" none)) none)))))) (t token.Op "}" none)))))
    (node kind.Echo (t token.Keyword "echo" (node kind.Number (t token.Int "1" none) (t token.Semi ";" none)))
    (node kind.Class (t token.Keyword "class" (t token.Label "B" (t token.Keyword "extends" (t token.Label "A" (t
    token.Op "{" (node kind.Method (t token.Keyword "function" (t token.Label "f" (t token.Op "(" (node kind.Param
    (t token.Op "&" (t token.Variable "$a" none)) (t token.Op ")" (node kind.Block (t token.Op "{" (t token.Op "}"
    none)) none)))))) (t token.Op "}" none))))))) none)))

overrides_by_reference : Comes 200 (file overrides_by_reference_tree) (file overrides_by_reference_tree) (codes "a.php")
    ((codes ""), outside Declaration)
    ((codes ""), outside Declaration)
unfolding builtin_rows named_constants word_constants is_same_name newer_functions newer_classes newer_constants beyond_functions beyond_classes beyond_constants
overrides_by_reference = (refl, refl)

-- <?php class A { function f(?int $a): int { return 1; } } class B extends A { function f(?int $a): int { return 2; } } $b =
-- new B; echo $b->f(1);
abbrev overrides_with_the_same_types_tree : Forest
overrides_with_the_same_types_tree =
    (node kind.Class (t token.Keyword "class" (t token.Label "A" (t token.Op "{" (node kind.Method (t
    token.Keyword "function" (t token.Label "f" (t token.Op "(" (node kind.Param (node kind.TypeName (t token.Op
    "?" (t token.Label "int" none)) (t token.Variable "$a" none)) (t token.Op ")" (t token.Op ":" (node
    kind.TypeName (t token.Label "int" none) (node kind.Block (t token.Op "{" (node kind.Return (t token.Keyword
    "return" (node kind.Number (t token.Int "1" none) (t token.Semi ";" none))) (t token.Op "}" none)))
    none)))))))) (t token.Op "}" none))))) (node kind.Class (t token.Keyword "class" (t token.Label "B" (t
    token.Keyword "extends" (t token.Label "A" (t token.Op "{" (node kind.Method (t token.Keyword "function" (t
    token.Label "f" (t token.Op "(" (node kind.Param (node kind.TypeName (t token.Op "?" (t token.Label "int"
    none)) (t token.Variable "$a" none)) (t token.Op ")" (t token.Op ":" (node kind.TypeName (t token.Label "int"
    none) (node kind.Block (t token.Op "{" (node kind.Return (t token.Keyword "return" (node kind.Number (t
    token.Int "2" none) (t token.Semi ";" none))) (t token.Op "}" none))) none)))))))) (t token.Op "}" none)))))))
    (node kind.ExprStmt (node kind.Assign (node kind.Variable (t token.Variable "$b" none) (t token.Op "=" (node
    kind.New (t token.Keyword "new" (t token.Label "B" none)) none))) (t token.Semi ";" none)) (node kind.Echo (t
    token.Keyword "echo" (node kind.MethodCall (node kind.Variable (t token.Variable "$b" none) (t token.Op "->"
    (t token.Label "f" (t token.Op "(" (node kind.Args (node kind.Number (t token.Int "1" none) none) (t token.Op
    ")" none)))))) (t token.Semi ";" none))) none))))

overrides_with_the_same_types : Comes 200 (file overrides_with_the_same_types_tree) (file overrides_with_the_same_types_tree) (codes "a.php")
    ((codes "2"), ended)
    ((codes "2"), ended)
unfolding builtin_rows named_constants word_constants is_same_name newer_functions newer_classes newer_constants beyond_functions beyond_classes beyond_constants
overrides_with_the_same_types = (refl, refl)

-- <?php class A { function f(int $a) {} } echo 1; class B extends A { function f(string $a) {} }
abbrev overrides_with_another_type_tree : Forest
overrides_with_another_type_tree =
    (node kind.Class (t token.Keyword "class" (t token.Label "A" (t token.Op "{" (node kind.Method (t
    token.Keyword "function" (t token.Label "f" (t token.Op "(" (node kind.Param (node kind.TypeName (t
    token.Label "int" none) (t token.Variable "$a" none)) (t token.Op ")" (node kind.Block (t token.Op "{" (t
    token.Op "}" none)) none)))))) (t token.Op "}" none))))) (node kind.Echo (t token.Keyword "echo" (node
    kind.Number (t token.Int "1" none) (t token.Semi ";" none))) (node kind.Class (t token.Keyword "class" (t
    token.Label "B" (t token.Keyword "extends" (t token.Label "A" (t token.Op "{" (node kind.Method (t
    token.Keyword "function" (t token.Label "f" (t token.Op "(" (node kind.Param (node kind.TypeName (t
    token.Label "string" none) (t token.Variable "$a" none)) (t token.Op ")" (node kind.Block (t token.Op "{" (t
    token.Op "}" none)) none)))))) (t token.Op "}" none))))))) none)))

overrides_with_another_type : Comes 200 (file overrides_with_another_type_tree) (file overrides_with_another_type_tree) (codes "a.php")
    ((codes ""), outside Declaration)
    ((codes ""), outside Declaration)
unfolding builtin_rows named_constants word_constants is_same_name newer_functions newer_classes newer_constants beyond_functions beyond_classes beyond_constants
overrides_with_another_type = (refl, refl)

-- <?php class A { function f(int $a): ?int { return 1; } } class B extends A { function f(?int $a): int { return 2; } } $b =
-- new B; echo $b->f(null);
abbrev overrides_with_a_wider_type_tree : Forest
overrides_with_a_wider_type_tree =
    (node kind.Class (t token.Keyword "class" (t token.Label "A" (t token.Op "{" (node kind.Method (t
    token.Keyword "function" (t token.Label "f" (t token.Op "(" (node kind.Param (node kind.TypeName (t
    token.Label "int" none) (t token.Variable "$a" none)) (t token.Op ")" (t token.Op ":" (node kind.TypeName (t
    token.Op "?" (t token.Label "int" none)) (node kind.Block (t token.Op "{" (node kind.Return (t token.Keyword
    "return" (node kind.Number (t token.Int "1" none) (t token.Semi ";" none))) (t token.Op "}" none)))
    none)))))))) (t token.Op "}" none))))) (node kind.Class (t token.Keyword "class" (t token.Label "B" (t
    token.Keyword "extends" (t token.Label "A" (t token.Op "{" (node kind.Method (t token.Keyword "function" (t
    token.Label "f" (t token.Op "(" (node kind.Param (node kind.TypeName (t token.Op "?" (t token.Label "int"
    none)) (t token.Variable "$a" none)) (t token.Op ")" (t token.Op ":" (node kind.TypeName (t token.Label "int"
    none) (node kind.Block (t token.Op "{" (node kind.Return (t token.Keyword "return" (node kind.Number (t
    token.Int "2" none) (t token.Semi ";" none))) (t token.Op "}" none))) none)))))))) (t token.Op "}" none)))))))
    (node kind.ExprStmt (node kind.Assign (node kind.Variable (t token.Variable "$b" none) (t token.Op "=" (node
    kind.New (t token.Keyword "new" (t token.Label "B" none)) none))) (t token.Semi ";" none)) (node kind.Echo (t
    token.Keyword "echo" (node kind.MethodCall (node kind.Variable (t token.Variable "$b" none) (t token.Op "->"
    (t token.Label "f" (t token.Op "(" (node kind.Args (node kind.Constant (t token.Label "null" none) none) (t
    token.Op ")" none)))))) (t token.Semi ";" none))) none))))

overrides_with_a_wider_type : Comes 200 (file overrides_with_a_wider_type_tree) (file overrides_with_a_wider_type_tree) (codes "a.php")
    ((codes "2"), ended)
    ((codes "2"), ended)
unfolding builtin_rows named_constants word_constants is_same_name newer_functions newer_classes newer_constants beyond_functions beyond_classes beyond_constants
overrides_with_a_wider_type = (refl, refl)

-- <?php class A { function f(): int { return 1; } } echo 1; class B extends A { function f() { return 2; } }
abbrev overrides_without_the_type_tree : Forest
overrides_without_the_type_tree =
    (node kind.Class (t token.Keyword "class" (t token.Label "A" (t token.Op "{" (node kind.Method (t
    token.Keyword "function" (t token.Label "f" (t token.Op "(" (t token.Op ")" (t token.Op ":" (node
    kind.TypeName (t token.Label "int" none) (node kind.Block (t token.Op "{" (node kind.Return (t token.Keyword
    "return" (node kind.Number (t token.Int "1" none) (t token.Semi ";" none))) (t token.Op "}" none)))
    none))))))) (t token.Op "}" none))))) (node kind.Echo (t token.Keyword "echo" (node kind.Number (t token.Int
    "1" none) (t token.Semi ";" none))) (node kind.Class (t token.Keyword "class" (t token.Label "B" (t
    token.Keyword "extends" (t token.Label "A" (t token.Op "{" (node kind.Method (t token.Keyword "function" (t
    token.Label "f" (t token.Op "(" (t token.Op ")" (node kind.Block (t token.Op "{" (node kind.Return (t
    token.Keyword "return" (node kind.Number (t token.Int "2" none) (t token.Semi ";" none))) (t token.Op "}"
    none))) none))))) (t token.Op "}" none))))))) none)))

overrides_without_the_type : Comes 200 (file overrides_without_the_type_tree) (file overrides_without_the_type_tree) (codes "a.php")
    ((codes ""), outside Declaration)
    ((codes ""), outside Declaration)
unfolding builtin_rows named_constants word_constants is_same_name newer_functions newer_classes newer_constants beyond_functions beyond_classes beyond_constants
overrides_without_the_type = (refl, refl)

-- <?php class A { function f($a) {} } echo 1; return; class B extends A { function f() {} }
abbrev overrides_wrongly_and_is_not_reached_tree : Forest
overrides_wrongly_and_is_not_reached_tree =
    (node kind.Class (t token.Keyword "class" (t token.Label "A" (t token.Op "{" (node kind.Method (t
    token.Keyword "function" (t token.Label "f" (t token.Op "(" (node kind.Param (t token.Variable "$a" none) (t
    token.Op ")" (node kind.Block (t token.Op "{" (t token.Op "}" none)) none)))))) (t token.Op "}" none)))))
    (node kind.Echo (t token.Keyword "echo" (node kind.Number (t token.Int "1" none) (t token.Semi ";" none)))
    (node kind.Return (t token.Keyword "return" (t token.Semi ";" none)) (node kind.Class (t token.Keyword "class"
    (t token.Label "B" (t token.Keyword "extends" (t token.Label "A" (t token.Op "{" (node kind.Method (t
    token.Keyword "function" (t token.Label "f" (t token.Op "(" (t token.Op ")" (node kind.Block (t token.Op "{"
    (t token.Op "}" none)) none))))) (t token.Op "}" none))))))) none))))

overrides_wrongly_and_is_not_reached : Comes 200 (file overrides_wrongly_and_is_not_reached_tree) (file overrides_wrongly_and_is_not_reached_tree) (codes "a.php")
    ((codes ""), outside Declaration)
    ((codes ""), outside Declaration)
unfolding builtin_rows named_constants word_constants is_same_name newer_functions newer_classes newer_constants beyond_functions beyond_classes beyond_constants
overrides_wrongly_and_is_not_reached = (refl, refl)

-- <?php class A { function f($a) {} } echo 1; if (true) { class B extends A { function f() {} } }
abbrev overrides_wrongly_in_a_branch_tree : Forest
overrides_wrongly_in_a_branch_tree =
    (node kind.Class (t token.Keyword "class" (t token.Label "A" (t token.Op "{" (node kind.Method (t
    token.Keyword "function" (t token.Label "f" (t token.Op "(" (node kind.Param (t token.Variable "$a" none) (t
    token.Op ")" (node kind.Block (t token.Op "{" (t token.Op "}" none)) none)))))) (t token.Op "}" none)))))
    (node kind.Echo (t token.Keyword "echo" (node kind.Number (t token.Int "1" none) (t token.Semi ";" none)))
    (node kind.If (t token.Keyword "if" (t token.Op "(" (node kind.Constant (t token.Label "true" none) (t
    token.Op ")" (node kind.Block (t token.Op "{" (node kind.Class (t token.Keyword "class" (t token.Label "B" (t
    token.Keyword "extends" (t token.Label "A" (t token.Op "{" (node kind.Method (t token.Keyword "function" (t
    token.Label "f" (t token.Op "(" (t token.Op ")" (node kind.Block (t token.Op "{" (t token.Op "}" none))
    none))))) (t token.Op "}" none))))))) (t token.Op "}" none))) none))))) none)))

overrides_wrongly_in_a_branch : Comes 200 (file overrides_wrongly_in_a_branch_tree) (file overrides_wrongly_in_a_branch_tree) (codes "a.php")
    ((codes "1"), outside Declaration)
    ((codes "1"), outside Declaration)
unfolding builtin_rows named_constants word_constants is_same_name newer_functions newer_classes newer_constants beyond_functions beyond_classes beyond_constants
overrides_wrongly_in_a_branch = (refl, refl)

-- <?php class A { function __construct($a) {} } class B extends A { function __construct() { echo 1; } } new B;
abbrev constructor_takes_other_parameters_tree : Forest
constructor_takes_other_parameters_tree =
    (node kind.Class (t token.Keyword "class" (t token.Label "A" (t token.Op "{" (node kind.Method (t
    token.Keyword "function" (t token.Label "__construct" (t token.Op "(" (node kind.Param (t token.Variable "$a"
    none) (t token.Op ")" (node kind.Block (t token.Op "{" (t token.Op "}" none)) none)))))) (t token.Op "}"
    none))))) (node kind.Class (t token.Keyword "class" (t token.Label "B" (t token.Keyword "extends" (t
    token.Label "A" (t token.Op "{" (node kind.Method (t token.Keyword "function" (t token.Label "__construct" (t
    token.Op "(" (t token.Op ")" (node kind.Block (t token.Op "{" (node kind.Echo (t token.Keyword "echo" (node
    kind.Number (t token.Int "1" none) (t token.Semi ";" none))) (t token.Op "}" none))) none))))) (t token.Op "}"
    none))))))) (node kind.ExprStmt (node kind.New (t token.Keyword "new" (t token.Label "B" none)) (t token.Semi
    ";" none)) none)))

constructor_takes_other_parameters : Comes 200 (file constructor_takes_other_parameters_tree) (file constructor_takes_other_parameters_tree) (codes "a.php")
    ((codes "1"), ended)
    ((codes "1"), ended)
unfolding builtin_rows named_constants word_constants is_same_name newer_functions newer_classes newer_constants beyond_functions beyond_classes beyond_constants
constructor_takes_other_parameters = (refl, refl)

-- <?php interface I { function f(self $a): I; } class A implements I { function f(I $a): I { return $a; } } $a = new A; echo
-- $a->f($a) === $a ? 1 : 2;
abbrev implements_with_the_class_itself_tree : Forest
implements_with_the_class_itself_tree =
    (node kind.Interface (t token.Keyword "interface" (t token.Label "I" (t token.Op "{" (node kind.Method (t
    token.Keyword "function" (t token.Label "f" (t token.Op "(" (node kind.Param (node kind.TypeName (t
    token.Label "self" none) (t token.Variable "$a" none)) (t token.Op ")" (t token.Op ":" (node kind.TypeName (t
    token.Label "I" none) (t token.Semi ";" none)))))))) (t token.Op "}" none))))) (node kind.Class (t
    token.Keyword "class" (t token.Label "A" (t token.Keyword "implements" (t token.Label "I" (t token.Op "{"
    (node kind.Method (t token.Keyword "function" (t token.Label "f" (t token.Op "(" (node kind.Param (node
    kind.TypeName (t token.Label "I" none) (t token.Variable "$a" none)) (t token.Op ")" (t token.Op ":" (node
    kind.TypeName (t token.Label "I" none) (node kind.Block (t token.Op "{" (node kind.Return (t token.Keyword
    "return" (node kind.Variable (t token.Variable "$a" none) (t token.Semi ";" none))) (t token.Op "}" none)))
    none)))))))) (t token.Op "}" none))))))) (node kind.ExprStmt (node kind.Assign (node kind.Variable (t
    token.Variable "$a" none) (t token.Op "=" (node kind.New (t token.Keyword "new" (t token.Label "A" none))
    none))) (t token.Semi ";" none)) (node kind.Echo (t token.Keyword "echo" (node kind.Ternary (node kind.Binary
    (node kind.MethodCall (node kind.Variable (t token.Variable "$a" none) (t token.Op "->" (t token.Label "f" (t
    token.Op "(" (node kind.Args (node kind.Variable (t token.Variable "$a" none) none) (t token.Op ")" none))))))
    (t token.Op "===" (node kind.Variable (t token.Variable "$a" none) none))) (t token.Op "?" (node kind.Number
    (t token.Int "1" none) (t token.Op ":" (node kind.Number (t token.Int "2" none) none))))) (t token.Semi ";"
    none))) none))))

implements_with_the_class_itself : Comes 200 (file implements_with_the_class_itself_tree) (file implements_with_the_class_itself_tree) (codes "a.php")
    ((codes "1"), ended)
    ((codes "1"), ended)
unfolding builtin_rows named_constants word_constants is_same_name newer_functions newer_classes newer_constants beyond_functions beyond_classes beyond_constants
implements_with_the_class_itself = (refl, refl)

-- <?php interface I { function f($a); } echo 1; class A implements I { function f() {} }
abbrev implements_with_fewer_parameters_tree : Forest
implements_with_fewer_parameters_tree =
    (node kind.Interface (t token.Keyword "interface" (t token.Label "I" (t token.Op "{" (node kind.Method (t
    token.Keyword "function" (t token.Label "f" (t token.Op "(" (node kind.Param (t token.Variable "$a" none) (t
    token.Op ")" (t token.Semi ";" none)))))) (t token.Op "}" none))))) (node kind.Echo (t token.Keyword "echo"
    (node kind.Number (t token.Int "1" none) (t token.Semi ";" none))) (node kind.Class (t token.Keyword "class"
    (t token.Label "A" (t token.Keyword "implements" (t token.Label "I" (t token.Op "{" (node kind.Method (t
    token.Keyword "function" (t token.Label "f" (t token.Op "(" (t token.Op ")" (node kind.Block (t token.Op "{"
    (t token.Op "}" none)) none))))) (t token.Op "}" none))))))) none)))

implements_with_fewer_parameters : Comes 200 (file implements_with_fewer_parameters_tree) (file implements_with_fewer_parameters_tree) (codes "a.php")
    ((codes "1"), outside Declaration)
    ((codes "1"), outside Declaration)
unfolding builtin_rows named_constants word_constants is_same_name newer_functions newer_classes newer_constants beyond_functions beyond_classes beyond_constants
implements_with_fewer_parameters = (refl, refl)

-- <?php class A { private function f($a) {} } class B extends A { function f() { echo 1; } } $b = new B; $b->f();
abbrev private_method_takes_less_tree : Forest
private_method_takes_less_tree =
    (node kind.Class (t token.Keyword "class" (t token.Label "A" (t token.Op "{" (node kind.Method (t
    token.Keyword "private" (t token.Keyword "function" (t token.Label "f" (t token.Op "(" (node kind.Param (t
    token.Variable "$a" none) (t token.Op ")" (node kind.Block (t token.Op "{" (t token.Op "}" none)) none)))))))
    (t token.Op "}" none))))) (node kind.Class (t token.Keyword "class" (t token.Label "B" (t token.Keyword
    "extends" (t token.Label "A" (t token.Op "{" (node kind.Method (t token.Keyword "function" (t token.Label "f"
    (t token.Op "(" (t token.Op ")" (node kind.Block (t token.Op "{" (node kind.Echo (t token.Keyword "echo" (node
    kind.Number (t token.Int "1" none) (t token.Semi ";" none))) (t token.Op "}" none))) none))))) (t token.Op "}"
    none))))))) (node kind.ExprStmt (node kind.Assign (node kind.Variable (t token.Variable "$b" none) (t token.Op
    "=" (node kind.New (t token.Keyword "new" (t token.Label "B" none)) none))) (t token.Semi ";" none)) (node
    kind.ExprStmt (node kind.MethodCall (node kind.Variable (t token.Variable "$b" none) (t token.Op "->" (t
    token.Label "f" (t token.Op "(" (node kind.Args none (t token.Op ")" none)))))) (t token.Semi ";" none))
    none))))

private_method_takes_less : Comes 200 (file private_method_takes_less_tree) (file private_method_takes_less_tree) (codes "a.php")
    ((codes "1"), ended)
    ((codes "1"), ended)
unfolding builtin_rows named_constants word_constants is_same_name newer_functions newer_classes newer_constants beyond_functions beyond_classes beyond_constants
private_method_takes_less = (refl, refl)

-- ---- traits, and methods of exceptions

-- <?php echo 1; class A { use T; } trait T { public $p = 1; }
abbrev class_with_a_trait_tree : Forest
class_with_a_trait_tree =
    (node kind.Echo (t token.Keyword "echo" (node kind.Number (t token.Int "1" none) (t token.Semi ";" none)))
    (node kind.Class (t token.Keyword "class" (t token.Label "A" (t token.Op "{" (node kind.TraitUse (t
    token.Keyword "use" (t token.Label "T" (t token.Semi ";" none))) (t token.Op "}" none))))) (node kind.Trait (t
    token.Keyword "trait" (t token.Label "T" (t token.Op "{" (node kind.Property (t token.Keyword "public" (t
    token.Variable "$p" (t token.Op "=" (node kind.Number (t token.Int "1" none) (t token.Semi ";" none))))) (t
    token.Op "}" none))))) none)))

class_with_a_trait : Comes 200 (file class_with_a_trait_tree) (file class_with_a_trait_tree) (codes "a.php")
    ((codes ""), outside Declaration)
    ((codes ""), outside Declaration)
unfolding builtin_rows named_constants word_constants is_same_name newer_functions newer_classes newer_constants beyond_functions beyond_classes beyond_constants
class_with_a_trait = (refl, refl)

-- <?php $e = new Exception("a"); echo 1; echo $e->getMessage(1);
abbrev message_with_an_argument_tree : Forest
message_with_an_argument_tree =
    (node kind.ExprStmt (node kind.Assign (node kind.Variable (t token.Variable "$e" none) (t token.Op "=" (node
    kind.New (t token.Keyword "new" (t token.Label "Exception" (t token.Op "(" (node kind.Args (node kind.Text (t
    token.Text "\"a\"" none) none) (t token.Op ")" none))))) none))) (t token.Semi ";" none)) (node kind.Echo (t
    token.Keyword "echo" (node kind.Number (t token.Int "1" none) (t token.Semi ";" none))) (node kind.Echo (t
    token.Keyword "echo" (node kind.MethodCall (node kind.Variable (t token.Variable "$e" none) (t token.Op "->"
    (t token.Label "getMessage" (t token.Op "(" (node kind.Args (node kind.Number (t token.Int "1" none) none) (t
    token.Op ")" none)))))) (t token.Semi ";" none))) none)))

message_with_an_argument : Comes 200 (file message_with_an_argument_tree) (file message_with_an_argument_tree) (codes "a.php")
    ((codes "1"), outside Call)
    ((codes "1"), outside Call)
unfolding builtin_rows named_constants word_constants is_same_name newer_functions newer_classes newer_constants beyond_functions beyond_classes beyond_constants
message_with_an_argument = (refl, refl)

-- <?php $e = new Exception("a", 3); echo $e->getCode();
abbrev code_without_arguments_tree : Forest
code_without_arguments_tree =
    (node kind.ExprStmt (node kind.Assign (node kind.Variable (t token.Variable "$e" none) (t token.Op "=" (node
    kind.New (t token.Keyword "new" (t token.Label "Exception" (t token.Op "(" (node kind.Args (node kind.Text (t
    token.Text "\"a\"" none) (t token.Op "," (node kind.Number (t token.Int "3" none) none))) (t token.Op ")"
    none))))) none))) (t token.Semi ";" none)) (node kind.Echo (t token.Keyword "echo" (node kind.MethodCall (node
    kind.Variable (t token.Variable "$e" none) (t token.Op "->" (t token.Label "getCode" (t token.Op "(" (node
    kind.Args none (t token.Op ")" none)))))) (t token.Semi ";" none))) none))

code_without_arguments : Comes 200 (file code_without_arguments_tree) (file code_without_arguments_tree) (codes "a.php")
    ((codes "3"), ended)
    ((codes "3"), ended)
unfolding builtin_rows named_constants word_constants is_same_name newer_functions newer_classes newer_constants beyond_functions beyond_classes beyond_constants
code_without_arguments = (refl, refl)
