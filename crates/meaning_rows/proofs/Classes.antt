-- Rows of whole programs: classes. The 8.3 side is what PHP 8.2 echoes, where it has a meaning here.
use Rattle.std.proofs.Common.{refl, codes}
use Rattle.php_tree.specs.declared.token.TokenKind.TheVariants as token
use Rattle.php_tree.specs.declared.kind.NodeKind.TheVariants as kind
use Rattle.php_tree.specs.Tree.{Forest, none, node}
use Rattle.builtin_tables.specs.Beyond.{beyond_functions, beyond_classes, beyond_constants}
use Rattle.builtin_tables.specs.Builtins.{builtin_rows}
use Rattle.builtin_tables.specs.Constants.{named_constants, word_constants}
use Rattle.builtin_tables.specs.Named.{is_same_name}
use Rattle.builtin_tables.specs.Newer.{newer_functions, newer_classes, newer_constants}
use Rattle.php_meaning.specs.Cause.{Reference}
use Rattle.meaning_rows.specs.Words.{t, b, file, ended, outside, Comes}

-- <?php class A { public $n = 1; function add($k) { $this->n += $k; return $this; } } echo (new A)->add(2)->add(3)->n;
abbrev methods_tree : Forest
methods_tree =
    (node kind.Class (t token.Keyword "class" (t token.Label "A" (t token.Op "{" (node kind.Property (t token.Keyword
    "public" (t token.Variable "$n" (t token.Op "=" (node kind.Number (t token.Int "1" none) (t token.Semi ";"
    none))))) (node kind.Method (t token.Keyword "function" (t token.Label "add" (t token.Op "(" (node kind.Param (t
    token.Variable "$k" none) (t token.Op ")" (node kind.Block (t token.Op "{" (node kind.ExprStmt (node
    kind.CompoundAssign (node kind.Prop (node kind.Variable (t token.Variable "$this" none) (t token.Op "->" (t
    token.Label "n" none))) (t token.Op "+=" (node kind.Variable (t token.Variable "$k" none) none))) (t token.Semi
    ";" none)) (node kind.Return (t token.Keyword "return" (node kind.Variable (t token.Variable "$this" none) (t
    token.Semi ";" none))) (t token.Op "}" none)))) none)))))) (t token.Op "}" none)))))) (node kind.Echo (t
    token.Keyword "echo" (node kind.Prop (node kind.MethodCall (node kind.MethodCall (node kind.Paren (t token.Op "("
    (node kind.New (t token.Keyword "new" (t token.Label "A" none)) (t token.Op ")" none))) (t token.Op "->" (t
    token.Label "add" (t token.Op "(" (node kind.Args (node kind.Number (t token.Int "2" none) none) (t token.Op ")"
    none)))))) (t token.Op "->" (t token.Label "add" (t token.Op "(" (node kind.Args (node kind.Number (t token.Int
    "3" none) none) (t token.Op ")" none)))))) (t token.Op "->" (t token.Label "n" none))) (t token.Semi ";" none)))
    none))

methods : Comes 200 (file methods_tree) (file methods_tree) (codes "a.php")
    ((codes "6"), ended)
    ((codes "6"), ended)
unfolding builtin_rows named_constants word_constants is_same_name newer_functions newer_classes newer_constants beyond_functions beyond_classes beyond_constants
methods = (refl, refl)

-- <?php class A { function f() { return 'A' . $this->g(); } function g() { return 'a'; } } class B extends A {
--  function g() { return 'b' . parent::g(); } } echo (new B)->f(), (new A)->f();
abbrev inheritance_tree : Forest
inheritance_tree =
    (node kind.Class (t token.Keyword "class" (t token.Label "A" (t token.Op "{" (node kind.Method (t token.Keyword
    "function" (t token.Label "f" (t token.Op "(" (t token.Op ")" (node kind.Block (t token.Op "{" (node kind.Return
    (t token.Keyword "return" (node kind.Binary (node kind.Text (t token.Text "'A'" none) (t token.Op "." (node
    kind.MethodCall (node kind.Variable (t token.Variable "$this" none) (t token.Op "->" (t token.Label "g" (t
    token.Op "(" (node kind.Args none (t token.Op ")" none)))))) none))) (t token.Semi ";" none))) (t token.Op "}"
    none))) none))))) (node kind.Method (t token.Keyword "function" (t token.Label "g" (t token.Op "(" (t token.Op ")"
    (node kind.Block (t token.Op "{" (node kind.Return (t token.Keyword "return" (node kind.Text (t token.Text "'a'"
    none) (t token.Semi ";" none))) (t token.Op "}" none))) none))))) (t token.Op "}" none)))))) (node kind.Class (t
    token.Keyword "class" (t token.Label "B" (t token.Keyword "extends" (t token.Label "A" (t token.Op "{" (node
    kind.Method (t token.Keyword "function" (t token.Label "g" (t token.Op "(" (t token.Op ")" (node kind.Block (t
    token.Op "{" (node kind.Return (t token.Keyword "return" (node kind.Binary (node kind.Text (t token.Text "'b'"
    none) (t token.Op "." (node kind.StaticCall (t token.Label "parent" (t token.Op "::" (t token.Label "g" (t
    token.Op "(" (node kind.Args none (t token.Op ")" none)))))) none))) (t token.Semi ";" none))) (t token.Op "}"
    none))) none))))) (t token.Op "}" none))))))) (node kind.Echo (t token.Keyword "echo" (node kind.MethodCall (node
    kind.Paren (t token.Op "(" (node kind.New (t token.Keyword "new" (t token.Label "B" none)) (t token.Op ")" none)))
    (t token.Op "->" (t token.Label "f" (t token.Op "(" (node kind.Args none (t token.Op ")" none)))))) (t token.Op
    "," (node kind.MethodCall (node kind.Paren (t token.Op "(" (node kind.New (t token.Keyword "new" (t token.Label
    "A" none)) (t token.Op ")" none))) (t token.Op "->" (t token.Label "f" (t token.Op "(" (node kind.Args none (t
    token.Op ")" none)))))) (t token.Semi ";" none))))) none)))

inheritance : Comes 200 (file inheritance_tree) (file inheritance_tree) (codes "a.php")
    ((codes "AbaAa"), ended)
    ((codes "AbaAa"), ended)
unfolding builtin_rows named_constants word_constants is_same_name newer_functions newer_classes newer_constants beyond_functions beyond_classes beyond_constants
inheritance = (refl, refl)

-- <?php class A { static $n = 0; const C = 'c'; static function up() { return ++self::$n . static::C; } } class B
--  extends A { const C = 'd'; } echo A::up(), B::up(), A::$n, B::$n;
abbrev static_members_tree : Forest
static_members_tree =
    (node kind.Class (t token.Keyword "class" (t token.Label "A" (t token.Op "{" (node kind.Property (t token.Keyword
    "static" (t token.Variable "$n" (t token.Op "=" (node kind.Number (t token.Int "0" none) (t token.Semi ";"
    none))))) (node kind.ClassConst (t token.Keyword "const" (t token.Label "C" (t token.Op "=" (node kind.Text (t
    token.Text "'c'" none) (t token.Semi ";" none))))) (node kind.Method (t token.Keyword "static" (t token.Keyword
    "function" (t token.Label "up" (t token.Op "(" (t token.Op ")" (node kind.Block (t token.Op "{" (node kind.Return
    (t token.Keyword "return" (node kind.Binary (node kind.Prefix (t token.Op "++" (node kind.StaticProp (t
    token.Label "self" (t token.Op "::" (t token.Variable "$n" none))) none)) (t token.Op "." (node kind.ClassConstant
    (t token.Keyword "static" (t token.Op "::" (t token.Label "C" none))) none))) (t token.Semi ";" none))) (t
    token.Op "}" none))) none)))))) (t token.Op "}" none))))))) (node kind.Class (t token.Keyword "class" (t
    token.Label "B" (t token.Keyword "extends" (t token.Label "A" (t token.Op "{" (node kind.ClassConst (t
    token.Keyword "const" (t token.Label "C" (t token.Op "=" (node kind.Text (t token.Text "'d'" none) (t token.Semi
    ";" none))))) (t token.Op "}" none))))))) (node kind.Echo (t token.Keyword "echo" (node kind.StaticCall (t
    token.Label "A" (t token.Op "::" (t token.Label "up" (t token.Op "(" (node kind.Args none (t token.Op ")"
    none)))))) (t token.Op "," (node kind.StaticCall (t token.Label "B" (t token.Op "::" (t token.Label "up" (t
    token.Op "(" (node kind.Args none (t token.Op ")" none)))))) (t token.Op "," (node kind.StaticProp (t token.Label
    "A" (t token.Op "::" (t token.Variable "$n" none))) (t token.Op "," (node kind.StaticProp (t token.Label "B" (t
    token.Op "::" (t token.Variable "$n" none))) (t token.Semi ";" none))))))))) none)))

static_members : Comes 200 (file static_members_tree) (file static_members_tree) (codes "a.php")
    ((codes "1c2d22"), ended)
    ((codes "1c2d22"), ended)
unfolding builtin_rows named_constants word_constants is_same_name newer_functions newer_classes newer_constants beyond_functions beyond_classes beyond_constants
static_members = (refl, refl)

-- <?php abstract class S { abstract function area(); function twice() { return $this->area() * 2; } } class Q extends
--  S { function area() { return 3; } } echo (new Q)->twice();
abbrev abstract_class_tree : Forest
abstract_class_tree =
    (node kind.Class (t token.Keyword "abstract" (t token.Keyword "class" (t token.Label "S" (t token.Op "{" (node
    kind.Method (t token.Keyword "abstract" (t token.Keyword "function" (t token.Label "area" (t token.Op "(" (t
    token.Op ")" (t token.Semi ";" none)))))) (node kind.Method (t token.Keyword "function" (t token.Label "twice" (t
    token.Op "(" (t token.Op ")" (node kind.Block (t token.Op "{" (node kind.Return (t token.Keyword "return" (node
    kind.Binary (node kind.MethodCall (node kind.Variable (t token.Variable "$this" none) (t token.Op "->" (t
    token.Label "area" (t token.Op "(" (node kind.Args none (t token.Op ")" none)))))) (t token.Op "*" (node
    kind.Number (t token.Int "2" none) none))) (t token.Semi ";" none))) (t token.Op "}" none))) none))))) (t token.Op
    "}" none))))))) (node kind.Class (t token.Keyword "class" (t token.Label "Q" (t token.Keyword "extends" (t
    token.Label "S" (t token.Op "{" (node kind.Method (t token.Keyword "function" (t token.Label "area" (t token.Op
    "(" (t token.Op ")" (node kind.Block (t token.Op "{" (node kind.Return (t token.Keyword "return" (node kind.Number
    (t token.Int "3" none) (t token.Semi ";" none))) (t token.Op "}" none))) none))))) (t token.Op "}" none)))))))
    (node kind.Echo (t token.Keyword "echo" (node kind.MethodCall (node kind.Paren (t token.Op "(" (node kind.New (t
    token.Keyword "new" (t token.Label "Q" none)) (t token.Op ")" none))) (t token.Op "->" (t token.Label "twice" (t
    token.Op "(" (node kind.Args none (t token.Op ")" none)))))) (t token.Semi ";" none))) none)))

abstract_class : Comes 200 (file abstract_class_tree) (file abstract_class_tree) (codes "a.php")
    ((codes "6"), ended)
    ((codes "6"), ended)
unfolding builtin_rows named_constants word_constants is_same_name newer_functions newer_classes newer_constants beyond_functions beyond_classes beyond_constants
abstract_class = (refl, refl)

-- <?php class A { function A() { echo 1; } } new A;
-- rewritten:
-- <?php class A { function __construct() { echo 1; } } new A;
abbrev old_constructor_tree : Forest
old_constructor_tree =
    (node kind.Class (t token.Keyword "class" (t token.Label "A" (t token.Op "{" (node kind.Method (t token.Keyword
    "function" (t token.Label "A" (t token.Op "(" (t token.Op ")" (node kind.Block (t token.Op "{" (node kind.Echo (t
    token.Keyword "echo" (node kind.Number (t token.Int "1" none) (t token.Semi ";" none))) (t token.Op "}" none)))
    none))))) (t token.Op "}" none))))) (node kind.ExprStmt (node kind.New (t token.Keyword "new" (t token.Label "A"
    none)) (t token.Semi ";" none)) none))

abbrev old_constructor_new_tree : Forest
old_constructor_new_tree =
    (node kind.Class (t token.Keyword "class" (t token.Label "A" (t token.Op "{" (node kind.Method (t token.Keyword
    "function" (t token.Label "__construct" (t token.Op "(" (t token.Op ")" (node kind.Block (t token.Op "{" (node
    kind.Echo (t token.Keyword "echo" (node kind.Number (t token.Int "1" none) (t token.Semi ";" none))) (t token.Op
    "}" none))) none))))) (t token.Op "}" none))))) (node kind.ExprStmt (node kind.New (t token.Keyword "new" (t
    token.Label "A" none)) (t token.Semi ";" none)) none))

old_constructor : Comes 200 (file old_constructor_tree) (file old_constructor_new_tree) (codes "a.php")
    ((codes "1"), ended)
    ((codes "1"), ended)
unfolding builtin_rows named_constants word_constants is_same_name newer_functions newer_classes newer_constants beyond_functions beyond_classes beyond_constants
old_constructor = (refl, refl)

-- <?php class A { function A() { echo 1; } } new A; echo 2;
abbrev old_constructor_asked_tree : Forest
old_constructor_asked_tree =
    (node kind.Class (t token.Keyword "class" (t token.Label "A" (t token.Op "{" (node kind.Method (t token.Keyword
    "function" (t token.Label "A" (t token.Op "(" (t token.Op ")" (node kind.Block (t token.Op "{" (node kind.Echo (t
    token.Keyword "echo" (node kind.Number (t token.Int "1" none) (t token.Semi ";" none))) (t token.Op "}" none)))
    none))))) (t token.Op "}" none))))) (node kind.ExprStmt (node kind.New (t token.Keyword "new" (t token.Label "A"
    none)) (t token.Semi ";" none)) (node kind.Echo (t token.Keyword "echo" (node kind.Number (t token.Int "2" none)
    (t token.Semi ";" none))) none)))

old_constructor_asked : Comes 200 (file old_constructor_asked_tree) (file old_constructor_asked_tree) (codes "a.php")
    ((codes "12"), ended)
    ((codes "2"), ended)
unfolding builtin_rows named_constants word_constants is_same_name newer_functions newer_classes newer_constants beyond_functions beyond_classes beyond_constants
old_constructor_asked = (refl, refl)

-- <?php class A { function f() { static $n = 0; $n++; echo $n; } } class B extends A {} (new A)->f(); (new B)->f();
abbrev inherited_static_tree : Forest
inherited_static_tree =
    (node kind.Class (t token.Keyword "class" (t token.Label "A" (t token.Op "{" (node kind.Method (t token.Keyword
    "function" (t token.Label "f" (t token.Op "(" (t token.Op ")" (node kind.Block (t token.Op "{" (node kind.Statics
    (t token.Keyword "static" (t token.Variable "$n" (t token.Op "=" (node kind.Number (t token.Int "0" none) (t
    token.Semi ";" none))))) (node kind.ExprStmt (node kind.Postfix (node kind.Variable (t token.Variable "$n" none)
    (t token.Op "++" none)) (t token.Semi ";" none)) (node kind.Echo (t token.Keyword "echo" (node kind.Variable (t
    token.Variable "$n" none) (t token.Semi ";" none))) (t token.Op "}" none))))) none))))) (t token.Op "}" none)))))
    (node kind.Class (t token.Keyword "class" (t token.Label "B" (t token.Keyword "extends" (t token.Label "A" (t
    token.Op "{" (t token.Op "}" none)))))) (node kind.ExprStmt (node kind.MethodCall (node kind.Paren (t token.Op "("
    (node kind.New (t token.Keyword "new" (t token.Label "A" none)) (t token.Op ")" none))) (t token.Op "->" (t
    token.Label "f" (t token.Op "(" (node kind.Args none (t token.Op ")" none)))))) (t token.Semi ";" none)) (node
    kind.ExprStmt (node kind.MethodCall (node kind.Paren (t token.Op "(" (node kind.New (t token.Keyword "new" (t
    token.Label "B" none)) (t token.Op ")" none))) (t token.Op "->" (t token.Label "f" (t token.Op "(" (node kind.Args
    none (t token.Op ")" none)))))) (t token.Semi ";" none)) none))))

inherited_static : Comes 200 (file inherited_static_tree) (file inherited_static_tree) (codes "a.php")
    ((codes "11"), ended)
    ((codes "12"), ended)
unfolding builtin_rows named_constants word_constants is_same_name newer_functions newer_classes newer_constants beyond_functions beyond_classes beyond_constants
inherited_static = (refl, refl)

-- <?php class A { function f() { return 'f'; } } try { echo A::f(); } catch (Error $e) { echo 'E'; }
abbrev static_call_of_a_method_tree : Forest
static_call_of_a_method_tree =
    (node kind.Class (t token.Keyword "class" (t token.Label "A" (t token.Op "{" (node kind.Method (t token.Keyword
    "function" (t token.Label "f" (t token.Op "(" (t token.Op ")" (node kind.Block (t token.Op "{" (node kind.Return
    (t token.Keyword "return" (node kind.Text (t token.Text "'f'" none) (t token.Semi ";" none))) (t token.Op "}"
    none))) none))))) (t token.Op "}" none))))) (node kind.Try (t token.Keyword "try" (node kind.Block (t token.Op "{"
    (node kind.Echo (t token.Keyword "echo" (node kind.StaticCall (t token.Label "A" (t token.Op "::" (t token.Label
    "f" (t token.Op "(" (node kind.Args none (t token.Op ")" none)))))) (t token.Semi ";" none))) (t token.Op "}"
    none))) (t token.Keyword "catch" (t token.Op "(" (t token.Label "Error" (t token.Variable "$e" (t token.Op ")"
    (node kind.Block (t token.Op "{" (node kind.Echo (t token.Keyword "echo" (node kind.Text (t token.Text "'E'" none)
    (t token.Semi ";" none))) (t token.Op "}" none))) none)))))))) none))

static_call_of_a_method : Comes 200 (file static_call_of_a_method_tree) (file static_call_of_a_method_tree) (codes "a.php")
    ((codes "f"), ended)
    ((codes "E"), ended)
unfolding builtin_rows named_constants word_constants is_same_name newer_functions newer_classes newer_constants beyond_functions beyond_classes beyond_constants
static_call_of_a_method = (refl, refl)

-- <?php class A { public $v = 1; } function f($o) { $o->v = 2; } $a = new A; f($a); $b = $a; $b->v++; echo $a->v; $c = [$a]; $c[0]->v = 9; echo $a->v;
abbrev objects_are_shared_tree : Forest
objects_are_shared_tree =
    (node kind.Class (t token.Keyword "class" (t token.Label "A" (t token.Op "{" (node kind.Property (t token.Keyword
    "public" (t token.Variable "$v" (t token.Op "=" (node kind.Number (t token.Int "1" none) (t token.Semi ";"
    none))))) (t token.Op "}" none))))) (node kind.Function (t token.Keyword "function" (t token.Label "f" (t token.Op
    "(" (node kind.Param (t token.Variable "$o" none) (t token.Op ")" (node kind.Block (t token.Op "{" (node
    kind.ExprStmt (node kind.Assign (node kind.Prop (node kind.Variable (t token.Variable "$o" none) (t token.Op "->"
    (t token.Label "v" none))) (t token.Op "=" (node kind.Number (t token.Int "2" none) none))) (t token.Semi ";"
    none)) (t token.Op "}" none))) none)))))) (node kind.ExprStmt (node kind.Assign (node kind.Variable (t
    token.Variable "$a" none) (t token.Op "=" (node kind.New (t token.Keyword "new" (t token.Label "A" none)) none)))
    (t token.Semi ";" none)) (node kind.ExprStmt (node kind.Call (t token.Label "f" (t token.Op "(" (node kind.Args
    (node kind.Variable (t token.Variable "$a" none) none) (t token.Op ")" none)))) (t token.Semi ";" none)) (node
    kind.ExprStmt (node kind.Assign (node kind.Variable (t token.Variable "$b" none) (t token.Op "=" (node
    kind.Variable (t token.Variable "$a" none) none))) (t token.Semi ";" none)) (node kind.ExprStmt (node kind.Postfix
    (node kind.Prop (node kind.Variable (t token.Variable "$b" none) (t token.Op "->" (t token.Label "v" none))) (t
    token.Op "++" none)) (t token.Semi ";" none)) (node kind.Echo (t token.Keyword "echo" (node kind.Prop (node
    kind.Variable (t token.Variable "$a" none) (t token.Op "->" (t token.Label "v" none))) (t token.Semi ";" none)))
    (node kind.ExprStmt (node kind.Assign (node kind.Variable (t token.Variable "$c" none) (t token.Op "=" (node
    kind.Array (t token.Op "[" (node kind.Item (node kind.Variable (t token.Variable "$a" none) none) (t token.Op "]"
    none))) none))) (t token.Semi ";" none)) (node kind.ExprStmt (node kind.Assign (node kind.Prop (node kind.Offset
    (node kind.Variable (t token.Variable "$c" none) (t token.Op "[" (node kind.Number (t token.Int "0" none) (t
    token.Op "]" none)))) (t token.Op "->" (t token.Label "v" none))) (t token.Op "=" (node kind.Number (t token.Int
    "9" none) none))) (t token.Semi ";" none)) (node kind.Echo (t token.Keyword "echo" (node kind.Prop (node
    kind.Variable (t token.Variable "$a" none) (t token.Op "->" (t token.Label "v" none))) (t token.Semi ";" none)))
    none))))))))))

objects_are_shared : Comes 200 (file objects_are_shared_tree) (file objects_are_shared_tree) (codes "a.php")
    ((codes "39"), ended)
    ((codes "39"), ended)
unfolding builtin_rows named_constants word_constants is_same_name newer_functions newer_classes newer_constants beyond_functions beyond_classes beyond_constants
objects_are_shared = (refl, refl)

-- <?php class A { function n() { return __CLASS__ . self::class . static::class; } } class B extends A {} echo (new B)->n(), B::class;
abbrev class_names_tree : Forest
class_names_tree =
    (node kind.Class (t token.Keyword "class" (t token.Label "A" (t token.Op "{" (node kind.Method (t token.Keyword
    "function" (t token.Label "n" (t token.Op "(" (t token.Op ")" (node kind.Block (t token.Op "{" (node kind.Return
    (t token.Keyword "return" (node kind.Binary (node kind.Binary (node kind.Constant (t token.Label "__CLASS__" none)
    (t token.Op "." (node kind.ClassConstant (t token.Label "self" (t token.Op "::" (t token.Keyword "class" none)))
    none))) (t token.Op "." (node kind.ClassConstant (t token.Keyword "static" (t token.Op "::" (t token.Keyword
    "class" none))) none))) (t token.Semi ";" none))) (t token.Op "}" none))) none))))) (t token.Op "}" none)))))
    (node kind.Class (t token.Keyword "class" (t token.Label "B" (t token.Keyword "extends" (t token.Label "A" (t
    token.Op "{" (t token.Op "}" none)))))) (node kind.Echo (t token.Keyword "echo" (node kind.MethodCall (node
    kind.Paren (t token.Op "(" (node kind.New (t token.Keyword "new" (t token.Label "B" none)) (t token.Op ")" none)))
    (t token.Op "->" (t token.Label "n" (t token.Op "(" (node kind.Args none (t token.Op ")" none)))))) (t token.Op
    "," (node kind.ClassConstant (t token.Label "B" (t token.Op "::" (t token.Keyword "class" none))) (t token.Semi
    ";" none))))) none)))

class_names : Comes 200 (file class_names_tree) (file class_names_tree) (codes "a.php")
    ((codes "AABB"), ended)
    ((codes "AABB"), ended)
unfolding builtin_rows named_constants word_constants is_same_name newer_functions newer_classes newer_constants beyond_functions beyond_classes beyond_constants
class_names = (refl, refl)

-- <?php class A {} try { (new A)->f(); } catch (Error $e) { echo 'M'; } try { A::g(); } catch (Error $e) { echo 'S';
--  } try { echo A::C; } catch (Error $e) { echo 'C'; } try { echo A::$p; } catch (Error $e) { echo 'P'; } try { new
--  Nowhere; } catch (Error $e) { echo 'N'; }
abbrev missing_members_tree : Forest
missing_members_tree =
    (node kind.Class (t token.Keyword "class" (t token.Label "A" (t token.Op "{" (t token.Op "}" none)))) (node
    kind.Try (t token.Keyword "try" (node kind.Block (t token.Op "{" (node kind.ExprStmt (node kind.MethodCall (node
    kind.Paren (t token.Op "(" (node kind.New (t token.Keyword "new" (t token.Label "A" none)) (t token.Op ")" none)))
    (t token.Op "->" (t token.Label "f" (t token.Op "(" (node kind.Args none (t token.Op ")" none)))))) (t token.Semi
    ";" none)) (t token.Op "}" none))) (t token.Keyword "catch" (t token.Op "(" (t token.Label "Error" (t
    token.Variable "$e" (t token.Op ")" (node kind.Block (t token.Op "{" (node kind.Echo (t token.Keyword "echo" (node
    kind.Text (t token.Text "'M'" none) (t token.Semi ";" none))) (t token.Op "}" none))) none)))))))) (node kind.Try
    (t token.Keyword "try" (node kind.Block (t token.Op "{" (node kind.ExprStmt (node kind.StaticCall (t token.Label
    "A" (t token.Op "::" (t token.Label "g" (t token.Op "(" (node kind.Args none (t token.Op ")" none)))))) (t
    token.Semi ";" none)) (t token.Op "}" none))) (t token.Keyword "catch" (t token.Op "(" (t token.Label "Error" (t
    token.Variable "$e" (t token.Op ")" (node kind.Block (t token.Op "{" (node kind.Echo (t token.Keyword "echo" (node
    kind.Text (t token.Text "'S'" none) (t token.Semi ";" none))) (t token.Op "}" none))) none)))))))) (node kind.Try
    (t token.Keyword "try" (node kind.Block (t token.Op "{" (node kind.Echo (t token.Keyword "echo" (node
    kind.ClassConstant (t token.Label "A" (t token.Op "::" (t token.Label "C" none))) (t token.Semi ";" none))) (t
    token.Op "}" none))) (t token.Keyword "catch" (t token.Op "(" (t token.Label "Error" (t token.Variable "$e" (t
    token.Op ")" (node kind.Block (t token.Op "{" (node kind.Echo (t token.Keyword "echo" (node kind.Text (t
    token.Text "'C'" none) (t token.Semi ";" none))) (t token.Op "}" none))) none)))))))) (node kind.Try (t
    token.Keyword "try" (node kind.Block (t token.Op "{" (node kind.Echo (t token.Keyword "echo" (node kind.StaticProp
    (t token.Label "A" (t token.Op "::" (t token.Variable "$p" none))) (t token.Semi ";" none))) (t token.Op "}"
    none))) (t token.Keyword "catch" (t token.Op "(" (t token.Label "Error" (t token.Variable "$e" (t token.Op ")"
    (node kind.Block (t token.Op "{" (node kind.Echo (t token.Keyword "echo" (node kind.Text (t token.Text "'P'" none)
    (t token.Semi ";" none))) (t token.Op "}" none))) none)))))))) (node kind.Try (t token.Keyword "try" (node
    kind.Block (t token.Op "{" (node kind.ExprStmt (node kind.New (t token.Keyword "new" (t token.Label "Nowhere"
    none)) (t token.Semi ";" none)) (t token.Op "}" none))) (t token.Keyword "catch" (t token.Op "(" (t token.Label
    "Error" (t token.Variable "$e" (t token.Op ")" (node kind.Block (t token.Op "{" (node kind.Echo (t token.Keyword
    "echo" (node kind.Text (t token.Text "'N'" none) (t token.Semi ";" none))) (t token.Op "}" none))) none))))))))
    none))))))

missing_members : Comes 200 (file missing_members_tree) (file missing_members_tree) (codes "a.php")
    ((codes "MSCPN"), ended)
    ((codes "MSCPN"), ended)
unfolding builtin_rows named_constants word_constants is_same_name newer_functions newer_classes newer_constants beyond_functions beyond_classes beyond_constants
missing_members = (refl, refl)

-- <?php $n = null; try { $n->f(); } catch (Error $e) { echo 'E'; }
abbrev method_on_no_object_tree : Forest
method_on_no_object_tree =
    (node kind.ExprStmt (node kind.Assign (node kind.Variable (t token.Variable "$n" none) (t token.Op "=" (node
    kind.Constant (t token.Label "null" none) none))) (t token.Semi ";" none)) (node kind.Try (t token.Keyword "try"
    (node kind.Block (t token.Op "{" (node kind.ExprStmt (node kind.MethodCall (node kind.Variable (t token.Variable
    "$n" none) (t token.Op "->" (t token.Label "f" (t token.Op "(" (node kind.Args none (t token.Op ")" none)))))) (t
    token.Semi ";" none)) (t token.Op "}" none))) (t token.Keyword "catch" (t token.Op "(" (t token.Label "Error" (t
    token.Variable "$e" (t token.Op ")" (node kind.Block (t token.Op "{" (node kind.Echo (t token.Keyword "echo" (node
    kind.Text (t token.Text "'E'" none) (t token.Semi ";" none))) (t token.Op "}" none))) none)))))))) none))

method_on_no_object : Comes 200 (file method_on_no_object_tree) (file method_on_no_object_tree) (codes "a.php")
    ((codes "E"), ended)
    ((codes "E"), ended)
unfolding builtin_rows named_constants word_constants is_same_name newer_functions newer_classes newer_constants beyond_functions beyond_classes beyond_constants
method_on_no_object = (refl, refl)

-- <?php class A { function A() { echo 1; } } $a = new A; $a->A();
abbrev old_constructor_called_tree : Forest
old_constructor_called_tree =
    (node kind.Class (t token.Keyword "class" (t token.Label "A" (t token.Op "{" (node kind.Method (t token.Keyword
    "function" (t token.Label "A" (t token.Op "(" (t token.Op ")" (node kind.Block (t token.Op "{" (node kind.Echo
    (t token.Keyword "echo" (node kind.Number (t token.Int "1" none) (t token.Semi ";" none))) (t token.Op "}"
    none))) none))))) (t token.Op "}" none))))) (node kind.ExprStmt (node kind.Assign (node kind.Variable (t
    token.Variable "$a" none) (t token.Op "=" (node kind.New (t token.Keyword "new" (t token.Label "A" none))
    none))) (t token.Semi ";" none)) (node kind.ExprStmt (node kind.MethodCall (node kind.Variable (t token.Variable
    "$a" none) (t token.Op "->" (t token.Label "A" (t token.Op "(" (node kind.Args none (t token.Op ")" none))))))
    (t token.Semi ";" none)) none)))

old_constructor_called : Comes 200 (file old_constructor_called_tree) (file old_constructor_called_tree) (codes "a.php")
    ((codes "11"), ended)
    ((codes "1"), ended)
unfolding builtin_rows named_constants word_constants is_same_name newer_functions newer_classes newer_constants beyond_functions beyond_classes beyond_constants
old_constructor_called = (refl, refl)

-- <?php class A { public $p = 1; } $x = 5; $o = new A; $o->p = &$x; $x = 6; echo $o->p; $o->p = 7; echo $x; $o->n
--  = &$x; $o->n++; echo $x, $o->p;
abbrev property_bound_tree : Forest
property_bound_tree =
    (node kind.Class (t token.Keyword "class" (t token.Label "A" (t token.Op "{" (node kind.Property (t
    token.Keyword "public" (t token.Variable "$p" (t token.Op "=" (node kind.Number (t token.Int "1" none) (t
    token.Semi ";" none))))) (t token.Op "}" none))))) (node kind.ExprStmt (node kind.Assign (node kind.Variable
    (t token.Variable "$x" none) (t token.Op "=" (node kind.Number (t token.Int "5" none) none))) (t token.Semi
    ";" none)) (node kind.ExprStmt (node kind.Assign (node kind.Variable (t token.Variable "$o" none) (t
    token.Op "=" (node kind.New (t token.Keyword "new" (t token.Label "A" none)) none))) (t token.Semi ";"
    none)) (node kind.ExprStmt (node kind.AssignRef (node kind.Prop (node kind.Variable (t token.Variable "$o"
    none) (t token.Op "->" (t token.Label "p" none))) (t token.Op "=" (t token.Op "&" (node kind.Variable (t
    token.Variable "$x" none) none)))) (t token.Semi ";" none)) (node kind.ExprStmt (node kind.Assign (node
    kind.Variable (t token.Variable "$x" none) (t token.Op "=" (node kind.Number (t token.Int "6" none) none)))
    (t token.Semi ";" none)) (node kind.Echo (t token.Keyword "echo" (node kind.Prop (node kind.Variable (t
    token.Variable "$o" none) (t token.Op "->" (t token.Label "p" none))) (t token.Semi ";" none))) (node
    kind.ExprStmt (node kind.Assign (node kind.Prop (node kind.Variable (t token.Variable "$o" none) (t token.Op
    "->" (t token.Label "p" none))) (t token.Op "=" (node kind.Number (t token.Int "7" none) none))) (t
    token.Semi ";" none)) (node kind.Echo (t token.Keyword "echo" (node kind.Variable (t token.Variable "$x"
    none) (t token.Semi ";" none))) (node kind.ExprStmt (node kind.AssignRef (node kind.Prop (node kind.Variable
    (t token.Variable "$o" none) (t token.Op "->" (t token.Label "n" none))) (t token.Op "=" (t token.Op "&"
    (node kind.Variable (t token.Variable "$x" none) none)))) (t token.Semi ";" none)) (node kind.ExprStmt (node
    kind.Postfix (node kind.Prop (node kind.Variable (t token.Variable "$o" none) (t token.Op "->" (t
    token.Label "n" none))) (t token.Op "++" none)) (t token.Semi ";" none)) (node kind.Echo (t token.Keyword
    "echo" (node kind.Variable (t token.Variable "$x" none) (t token.Op "," (node kind.Prop (node kind.Variable
    (t token.Variable "$o" none) (t token.Op "->" (t token.Label "p" none))) (t token.Semi ";" none)))))
    none)))))))))))

property_bound : Comes 200 (file property_bound_tree) (file property_bound_tree) (codes "a.php")
    ((codes "6788"), ended)
    ((codes "6788"), ended)
unfolding builtin_rows named_constants word_constants is_same_name newer_functions newer_classes newer_constants beyond_functions beyond_classes beyond_constants
property_bound = (refl, refl)

-- <?php $o = new stdClass; $a = [1, 2]; $o->p = &$a[0]; $o->p = 9; echo $a[0]; unset($o->p); echo isset($o->p) ? 1
--  : 0; $b = $a; $b[0] = 3; echo $a[0];
abbrev property_bound_to_an_element_tree : Forest
property_bound_to_an_element_tree =
    (node kind.ExprStmt (node kind.Assign (node kind.Variable (t token.Variable "$o" none) (t token.Op "=" (node
    kind.New (t token.Keyword "new" (t token.Label "stdClass" none)) none))) (t token.Semi ";" none)) (node
    kind.ExprStmt (node kind.Assign (node kind.Variable (t token.Variable "$a" none) (t token.Op "=" (node
    kind.Array (t token.Op "[" (node kind.Item (node kind.Number (t token.Int "1" none) none) (t token.Op ","
    (node kind.Item (node kind.Number (t token.Int "2" none) none) (t token.Op "]" none))))) none))) (t
    token.Semi ";" none)) (node kind.ExprStmt (node kind.AssignRef (node kind.Prop (node kind.Variable (t
    token.Variable "$o" none) (t token.Op "->" (t token.Label "p" none))) (t token.Op "=" (t token.Op "&" (node
    kind.Offset (node kind.Variable (t token.Variable "$a" none) (t token.Op "[" (node kind.Number (t token.Int
    "0" none) (t token.Op "]" none)))) none)))) (t token.Semi ";" none)) (node kind.ExprStmt (node kind.Assign
    (node kind.Prop (node kind.Variable (t token.Variable "$o" none) (t token.Op "->" (t token.Label "p" none)))
    (t token.Op "=" (node kind.Number (t token.Int "9" none) none))) (t token.Semi ";" none)) (node kind.Echo (t
    token.Keyword "echo" (node kind.Offset (node kind.Variable (t token.Variable "$a" none) (t token.Op "["
    (node kind.Number (t token.Int "0" none) (t token.Op "]" none)))) (t token.Semi ";" none))) (node kind.Unset
    (t token.Keyword "unset" (t token.Op "(" (node kind.Prop (node kind.Variable (t token.Variable "$o" none) (t
    token.Op "->" (t token.Label "p" none))) (t token.Op ")" (t token.Semi ";" none))))) (node kind.Echo (t
    token.Keyword "echo" (node kind.Ternary (node kind.Isset (t token.Keyword "isset" (t token.Op "(" (node
    kind.Prop (node kind.Variable (t token.Variable "$o" none) (t token.Op "->" (t token.Label "p" none))) (t
    token.Op ")" none)))) (t token.Op "?" (node kind.Number (t token.Int "1" none) (t token.Op ":" (node
    kind.Number (t token.Int "0" none) none))))) (t token.Semi ";" none))) (node kind.ExprStmt (node kind.Assign
    (node kind.Variable (t token.Variable "$b" none) (t token.Op "=" (node kind.Variable (t token.Variable "$a"
    none) none))) (t token.Semi ";" none)) (node kind.ExprStmt (node kind.Assign (node kind.Offset (node
    kind.Variable (t token.Variable "$b" none) (t token.Op "[" (node kind.Number (t token.Int "0" none) (t
    token.Op "]" none)))) (t token.Op "=" (node kind.Number (t token.Int "3" none) none))) (t token.Semi ";"
    none)) (node kind.Echo (t token.Keyword "echo" (node kind.Offset (node kind.Variable (t token.Variable "$a"
    none) (t token.Op "[" (node kind.Number (t token.Int "0" none) (t token.Op "]" none)))) (t token.Semi ";"
    none))) none))))))))))

property_bound_to_an_element : Comes 200 (file property_bound_to_an_element_tree) (file property_bound_to_an_element_tree) (codes "a.php")
    ((codes "909"), ended)
    ((codes "909"), ended)
unfolding builtin_rows named_constants word_constants is_same_name newer_functions newer_classes newer_constants beyond_functions beyond_classes beyond_constants
property_bound_to_an_element = (refl, refl)

-- <?php class A { private $q = 2; function bind(&$x) { $this->q = &$x; return $this; } function q() { return
--  $this->q; } } $y = 4; $o = new A; echo $o->bind($y)->q(); $y = 8; echo $o->q();
abbrev private_property_bound_tree : Forest
private_property_bound_tree =
    (node kind.Class (t token.Keyword "class" (t token.Label "A" (t token.Op "{" (node kind.Property (t
    token.Keyword "private" (t token.Variable "$q" (t token.Op "=" (node kind.Number (t token.Int "2" none) (t
    token.Semi ";" none))))) (node kind.Method (t token.Keyword "function" (t token.Label "bind" (t token.Op "("
    (node kind.Param (t token.Op "&" (t token.Variable "$x" none)) (t token.Op ")" (node kind.Block (t token.Op
    "{" (node kind.ExprStmt (node kind.AssignRef (node kind.Prop (node kind.Variable (t token.Variable "$this"
    none) (t token.Op "->" (t token.Label "q" none))) (t token.Op "=" (t token.Op "&" (node kind.Variable (t
    token.Variable "$x" none) none)))) (t token.Semi ";" none)) (node kind.Return (t token.Keyword "return"
    (node kind.Variable (t token.Variable "$this" none) (t token.Semi ";" none))) (t token.Op "}" none))))
    none)))))) (node kind.Method (t token.Keyword "function" (t token.Label "q" (t token.Op "(" (t token.Op ")"
    (node kind.Block (t token.Op "{" (node kind.Return (t token.Keyword "return" (node kind.Prop (node
    kind.Variable (t token.Variable "$this" none) (t token.Op "->" (t token.Label "q" none))) (t token.Semi ";"
    none))) (t token.Op "}" none))) none))))) (t token.Op "}" none))))))) (node kind.ExprStmt (node kind.Assign
    (node kind.Variable (t token.Variable "$y" none) (t token.Op "=" (node kind.Number (t token.Int "4" none)
    none))) (t token.Semi ";" none)) (node kind.ExprStmt (node kind.Assign (node kind.Variable (t token.Variable
    "$o" none) (t token.Op "=" (node kind.New (t token.Keyword "new" (t token.Label "A" none)) none))) (t
    token.Semi ";" none)) (node kind.Echo (t token.Keyword "echo" (node kind.MethodCall (node kind.MethodCall
    (node kind.Variable (t token.Variable "$o" none) (t token.Op "->" (t token.Label "bind" (t token.Op "("
    (node kind.Args (node kind.Variable (t token.Variable "$y" none) none) (t token.Op ")" none)))))) (t
    token.Op "->" (t token.Label "q" (t token.Op "(" (node kind.Args none (t token.Op ")" none)))))) (t
    token.Semi ";" none))) (node kind.ExprStmt (node kind.Assign (node kind.Variable (t token.Variable "$y"
    none) (t token.Op "=" (node kind.Number (t token.Int "8" none) none))) (t token.Semi ";" none)) (node
    kind.Echo (t token.Keyword "echo" (node kind.MethodCall (node kind.Variable (t token.Variable "$o" none) (t
    token.Op "->" (t token.Label "q" (t token.Op "(" (node kind.Args none (t token.Op ")" none)))))) (t
    token.Semi ";" none))) none))))))

private_property_bound : Comes 200 (file private_property_bound_tree) (file private_property_bound_tree) (codes "a.php")
    ((codes "48"), ended)
    ((codes "48"), ended)
unfolding builtin_rows named_constants word_constants is_same_name newer_functions newer_classes newer_constants beyond_functions beyond_classes beyond_constants
private_property_bound = (refl, refl)

-- <?php $o = new stdClass; $l = [3, 4]; foreach ($l as &$o->p) { $o->p *= 2; } echo $l[0], $l[1]; $o->p = 5; echo
--  $l[1];
abbrev property_of_a_loop_tree : Forest
property_of_a_loop_tree =
    (node kind.ExprStmt (node kind.Assign (node kind.Variable (t token.Variable "$o" none) (t token.Op "=" (node
    kind.New (t token.Keyword "new" (t token.Label "stdClass" none)) none))) (t token.Semi ";" none)) (node
    kind.ExprStmt (node kind.Assign (node kind.Variable (t token.Variable "$l" none) (t token.Op "=" (node
    kind.Array (t token.Op "[" (node kind.Item (node kind.Number (t token.Int "3" none) none) (t token.Op ","
    (node kind.Item (node kind.Number (t token.Int "4" none) none) (t token.Op "]" none))))) none))) (t
    token.Semi ";" none)) (node kind.Foreach (t token.Keyword "foreach" (t token.Op "(" (node kind.Variable (t
    token.Variable "$l" none) (t token.Keyword "as" (t token.Op "&" (node kind.Prop (node kind.Variable (t
    token.Variable "$o" none) (t token.Op "->" (t token.Label "p" none))) (t token.Op ")" (node kind.Block (t
    token.Op "{" (node kind.ExprStmt (node kind.CompoundAssign (node kind.Prop (node kind.Variable (t
    token.Variable "$o" none) (t token.Op "->" (t token.Label "p" none))) (t token.Op "*=" (node kind.Number (t
    token.Int "2" none) none))) (t token.Semi ";" none)) (t token.Op "}" none))) none)))))))) (node kind.Echo (t
    token.Keyword "echo" (node kind.Offset (node kind.Variable (t token.Variable "$l" none) (t token.Op "["
    (node kind.Number (t token.Int "0" none) (t token.Op "]" none)))) (t token.Op "," (node kind.Offset (node
    kind.Variable (t token.Variable "$l" none) (t token.Op "[" (node kind.Number (t token.Int "1" none) (t
    token.Op "]" none)))) (t token.Semi ";" none))))) (node kind.ExprStmt (node kind.Assign (node kind.Prop
    (node kind.Variable (t token.Variable "$o" none) (t token.Op "->" (t token.Label "p" none))) (t token.Op "="
    (node kind.Number (t token.Int "5" none) none))) (t token.Semi ";" none)) (node kind.Echo (t token.Keyword
    "echo" (node kind.Offset (node kind.Variable (t token.Variable "$l" none) (t token.Op "[" (node kind.Number
    (t token.Int "1" none) (t token.Op "]" none)))) (t token.Semi ";" none))) none))))))

property_of_a_loop : Comes 200 (file property_of_a_loop_tree) (file property_of_a_loop_tree) (codes "a.php")
    ((codes "685"), ended)
    ((codes "685"), ended)
unfolding builtin_rows named_constants word_constants is_same_name newer_functions newer_classes newer_constants beyond_functions beyond_classes beyond_constants
property_of_a_loop = (refl, refl)

-- <?php $o = new stdClass; $a = [1]; $o->p = &$a[0]; echo 1; $b = $a;
abbrev array_with_an_element_of_a_property_tree : Forest
array_with_an_element_of_a_property_tree =
    (node kind.ExprStmt (node kind.Assign (node kind.Variable (t token.Variable "$o" none) (t token.Op "=" (node
    kind.New (t token.Keyword "new" (t token.Label "stdClass" none)) none))) (t token.Semi ";" none)) (node
    kind.ExprStmt (node kind.Assign (node kind.Variable (t token.Variable "$a" none) (t token.Op "=" (node
    kind.Array (t token.Op "[" (node kind.Item (node kind.Number (t token.Int "1" none) none) (t token.Op "]"
    none))) none))) (t token.Semi ";" none)) (node kind.ExprStmt (node kind.AssignRef (node kind.Prop (node
    kind.Variable (t token.Variable "$o" none) (t token.Op "->" (t token.Label "p" none))) (t token.Op "=" (t
    token.Op "&" (node kind.Offset (node kind.Variable (t token.Variable "$a" none) (t token.Op "[" (node
    kind.Number (t token.Int "0" none) (t token.Op "]" none)))) none)))) (t token.Semi ";" none)) (node
    kind.Echo (t token.Keyword "echo" (node kind.Number (t token.Int "1" none) (t token.Semi ";" none))) (node
    kind.ExprStmt (node kind.Assign (node kind.Variable (t token.Variable "$b" none) (t token.Op "=" (node
    kind.Variable (t token.Variable "$a" none) none))) (t token.Semi ";" none)) none)))))

array_with_an_element_of_a_property : Comes 200 (file array_with_an_element_of_a_property_tree) (file array_with_an_element_of_a_property_tree) (codes "a.php")
    ((codes "1"), outside Reference)
    ((codes "1"), outside Reference)
unfolding builtin_rows named_constants word_constants is_same_name newer_functions newer_classes newer_constants beyond_functions beyond_classes beyond_constants
array_with_an_element_of_a_property = (refl, refl)

-- <?php class A { public int $t = 3; } $x = 1; $o = new A; echo 1; $o->t = &$x;
abbrev typed_property_bound_tree : Forest
typed_property_bound_tree =
    (node kind.Class (t token.Keyword "class" (t token.Label "A" (t token.Op "{" (node kind.Property (t
    token.Keyword "public" (node kind.TypeName (t token.Label "int" none) (t token.Variable "$t" (t token.Op "="
    (node kind.Number (t token.Int "3" none) (t token.Semi ";" none)))))) (t token.Op "}" none))))) (node
    kind.ExprStmt (node kind.Assign (node kind.Variable (t token.Variable "$x" none) (t token.Op "=" (node
    kind.Number (t token.Int "1" none) none))) (t token.Semi ";" none)) (node kind.ExprStmt (node kind.Assign
    (node kind.Variable (t token.Variable "$o" none) (t token.Op "=" (node kind.New (t token.Keyword "new" (t
    token.Label "A" none)) none))) (t token.Semi ";" none)) (node kind.Echo (t token.Keyword "echo" (node
    kind.Number (t token.Int "1" none) (t token.Semi ";" none))) (node kind.ExprStmt (node kind.AssignRef (node
    kind.Prop (node kind.Variable (t token.Variable "$o" none) (t token.Op "->" (t token.Label "t" none))) (t
    token.Op "=" (t token.Op "&" (node kind.Variable (t token.Variable "$x" none) none)))) (t token.Semi ";"
    none)) none)))))

typed_property_bound : Comes 200 (file typed_property_bound_tree) (file typed_property_bound_tree) (codes "a.php")
    ((codes "1"), outside Reference)
    ((codes "1"), outside Reference)
unfolding builtin_rows named_constants word_constants is_same_name newer_functions newer_classes newer_constants beyond_functions beyond_classes beyond_constants
typed_property_bound = (refl, refl)

-- <?php class A { private $q = 3; } $x = 1; $o = new A; echo 1; $o->q = &$x;
abbrev unseen_property_bound_tree : Forest
unseen_property_bound_tree =
    (node kind.Class (t token.Keyword "class" (t token.Label "A" (t token.Op "{" (node kind.Property (t
    token.Keyword "private" (t token.Variable "$q" (t token.Op "=" (node kind.Number (t token.Int "3" none) (t
    token.Semi ";" none))))) (t token.Op "}" none))))) (node kind.ExprStmt (node kind.Assign (node kind.Variable
    (t token.Variable "$x" none) (t token.Op "=" (node kind.Number (t token.Int "1" none) none))) (t token.Semi
    ";" none)) (node kind.ExprStmt (node kind.Assign (node kind.Variable (t token.Variable "$o" none) (t
    token.Op "=" (node kind.New (t token.Keyword "new" (t token.Label "A" none)) none))) (t token.Semi ";"
    none)) (node kind.Echo (t token.Keyword "echo" (node kind.Number (t token.Int "1" none) (t token.Semi ";"
    none))) (node kind.ExprStmt (node kind.AssignRef (node kind.Prop (node kind.Variable (t token.Variable "$o"
    none) (t token.Op "->" (t token.Label "q" none))) (t token.Op "=" (t token.Op "&" (node kind.Variable (t
    token.Variable "$x" none) none)))) (t token.Semi ";" none)) none)))))

unseen_property_bound : Comes 200 (file unseen_property_bound_tree) (file unseen_property_bound_tree) (codes "a.php")
    ((codes "1"), outside Reference)
    ((codes "1"), outside Reference)
unfolding builtin_rows named_constants word_constants is_same_name newer_functions newer_classes newer_constants beyond_functions beyond_classes beyond_constants
unseen_property_bound = (refl, refl)

-- <?php class A { static $s = 1; static $r = 2; } class B extends A {} $x = 5; A::$s = &$x; $x = 6; echo A::$s,
--  B::$s; B::$s = 7; echo $x; A::$r = &A::$s; A::$r++; echo $x; $y = 3; A::$s = &$y; echo A::$s, A::$r, $x;
abbrev static_property_bound_tree : Forest
static_property_bound_tree =
    (node kind.Class (t token.Keyword "class" (t token.Label "A" (t token.Op "{" (node kind.Property (t
    token.Keyword "static" (t token.Variable "$s" (t token.Op "=" (node kind.Number (t token.Int "1" none) (t
    token.Semi ";" none))))) (node kind.Property (t token.Keyword "static" (t token.Variable "$r" (t token.Op
    "=" (node kind.Number (t token.Int "2" none) (t token.Semi ";" none))))) (t token.Op "}" none)))))) (node
    kind.Class (t token.Keyword "class" (t token.Label "B" (t token.Keyword "extends" (t token.Label "A" (t
    token.Op "{" (t token.Op "}" none)))))) (node kind.ExprStmt (node kind.Assign (node kind.Variable (t
    token.Variable "$x" none) (t token.Op "=" (node kind.Number (t token.Int "5" none) none))) (t token.Semi ";"
    none)) (node kind.ExprStmt (node kind.AssignRef (node kind.StaticProp (t token.Label "A" (t token.Op "::" (t
    token.Variable "$s" none))) (t token.Op "=" (t token.Op "&" (node kind.Variable (t token.Variable "$x" none)
    none)))) (t token.Semi ";" none)) (node kind.ExprStmt (node kind.Assign (node kind.Variable (t
    token.Variable "$x" none) (t token.Op "=" (node kind.Number (t token.Int "6" none) none))) (t token.Semi ";"
    none)) (node kind.Echo (t token.Keyword "echo" (node kind.StaticProp (t token.Label "A" (t token.Op "::" (t
    token.Variable "$s" none))) (t token.Op "," (node kind.StaticProp (t token.Label "B" (t token.Op "::" (t
    token.Variable "$s" none))) (t token.Semi ";" none))))) (node kind.ExprStmt (node kind.Assign (node
    kind.StaticProp (t token.Label "B" (t token.Op "::" (t token.Variable "$s" none))) (t token.Op "=" (node
    kind.Number (t token.Int "7" none) none))) (t token.Semi ";" none)) (node kind.Echo (t token.Keyword "echo"
    (node kind.Variable (t token.Variable "$x" none) (t token.Semi ";" none))) (node kind.ExprStmt (node
    kind.AssignRef (node kind.StaticProp (t token.Label "A" (t token.Op "::" (t token.Variable "$r" none))) (t
    token.Op "=" (t token.Op "&" (node kind.StaticProp (t token.Label "A" (t token.Op "::" (t token.Variable
    "$s" none))) none)))) (t token.Semi ";" none)) (node kind.ExprStmt (node kind.Postfix (node kind.StaticProp
    (t token.Label "A" (t token.Op "::" (t token.Variable "$r" none))) (t token.Op "++" none)) (t token.Semi ";"
    none)) (node kind.Echo (t token.Keyword "echo" (node kind.Variable (t token.Variable "$x" none) (t
    token.Semi ";" none))) (node kind.ExprStmt (node kind.Assign (node kind.Variable (t token.Variable "$y"
    none) (t token.Op "=" (node kind.Number (t token.Int "3" none) none))) (t token.Semi ";" none)) (node
    kind.ExprStmt (node kind.AssignRef (node kind.StaticProp (t token.Label "A" (t token.Op "::" (t
    token.Variable "$s" none))) (t token.Op "=" (t token.Op "&" (node kind.Variable (t token.Variable "$y" none)
    none)))) (t token.Semi ";" none)) (node kind.Echo (t token.Keyword "echo" (node kind.StaticProp (t
    token.Label "A" (t token.Op "::" (t token.Variable "$s" none))) (t token.Op "," (node kind.StaticProp (t
    token.Label "A" (t token.Op "::" (t token.Variable "$r" none))) (t token.Op "," (node kind.Variable (t
    token.Variable "$x" none) (t token.Semi ";" none))))))) none))))))))))))))

static_property_bound : Comes 200 (file static_property_bound_tree) (file static_property_bound_tree) (codes "a.php")
    ((codes "6678388"), ended)
    ((codes "6678388"), ended)
unfolding builtin_rows named_constants word_constants is_same_name newer_functions newer_classes newer_constants beyond_functions beyond_classes beyond_constants
static_property_bound = (refl, refl)

-- <?php class A { static $s; } $l = [1, 2]; foreach ($l as &A::$s) { A::$s += 5; } echo $l[0], $l[1]; A::$s = 9;
--  echo $l[1]; echo 1; $m = $l;
abbrev static_property_of_a_loop_tree : Forest
static_property_of_a_loop_tree =
    (node kind.Class (t token.Keyword "class" (t token.Label "A" (t token.Op "{" (node kind.Property (t
    token.Keyword "static" (t token.Variable "$s" (t token.Semi ";" none))) (t token.Op "}" none))))) (node
    kind.ExprStmt (node kind.Assign (node kind.Variable (t token.Variable "$l" none) (t token.Op "=" (node
    kind.Array (t token.Op "[" (node kind.Item (node kind.Number (t token.Int "1" none) none) (t token.Op ","
    (node kind.Item (node kind.Number (t token.Int "2" none) none) (t token.Op "]" none))))) none))) (t
    token.Semi ";" none)) (node kind.Foreach (t token.Keyword "foreach" (t token.Op "(" (node kind.Variable (t
    token.Variable "$l" none) (t token.Keyword "as" (t token.Op "&" (node kind.StaticProp (t token.Label "A" (t
    token.Op "::" (t token.Variable "$s" none))) (t token.Op ")" (node kind.Block (t token.Op "{" (node
    kind.ExprStmt (node kind.CompoundAssign (node kind.StaticProp (t token.Label "A" (t token.Op "::" (t
    token.Variable "$s" none))) (t token.Op "+=" (node kind.Number (t token.Int "5" none) none))) (t token.Semi
    ";" none)) (t token.Op "}" none))) none)))))))) (node kind.Echo (t token.Keyword "echo" (node kind.Offset
    (node kind.Variable (t token.Variable "$l" none) (t token.Op "[" (node kind.Number (t token.Int "0" none) (t
    token.Op "]" none)))) (t token.Op "," (node kind.Offset (node kind.Variable (t token.Variable "$l" none) (t
    token.Op "[" (node kind.Number (t token.Int "1" none) (t token.Op "]" none)))) (t token.Semi ";" none)))))
    (node kind.ExprStmt (node kind.Assign (node kind.StaticProp (t token.Label "A" (t token.Op "::" (t
    token.Variable "$s" none))) (t token.Op "=" (node kind.Number (t token.Int "9" none) none))) (t token.Semi
    ";" none)) (node kind.Echo (t token.Keyword "echo" (node kind.Offset (node kind.Variable (t token.Variable
    "$l" none) (t token.Op "[" (node kind.Number (t token.Int "1" none) (t token.Op "]" none)))) (t token.Semi
    ";" none))) (node kind.Echo (t token.Keyword "echo" (node kind.Number (t token.Int "1" none) (t token.Semi
    ";" none))) (node kind.ExprStmt (node kind.Assign (node kind.Variable (t token.Variable "$m" none) (t
    token.Op "=" (node kind.Variable (t token.Variable "$l" none) none))) (t token.Semi ";" none)) none))))))))

static_property_of_a_loop : Comes 200 (file static_property_of_a_loop_tree) (file static_property_of_a_loop_tree) (codes "a.php")
    ((codes "6791"), outside Reference)
    ((codes "6791"), outside Reference)
unfolding builtin_rows named_constants word_constants is_same_name newer_functions newer_classes newer_constants beyond_functions beyond_classes beyond_constants
static_property_of_a_loop = (refl, refl)
