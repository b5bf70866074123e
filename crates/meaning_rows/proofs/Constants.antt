-- Rows of whole programs: constants, and how they are defined. The 8.3 side is what PHP 8.2 echoes, where it has a meaning here.
use Rattle.std.proofs.Common.{[], refl, codes}
use Rattle.php_tree.specs.declared.token.TokenKind.TheVariants as token
use Rattle.php_tree.specs.declared.kind.NodeKind.TheVariants as kind
use Rattle.php_tree.specs.Tree.{Forest, none, node}
use Rattle.builtin_tables.specs.Beyond.{beyond_functions, beyond_classes, beyond_constants}
use Rattle.builtin_tables.specs.Builtins.{builtin_rows}
use Rattle.builtin_tables.specs.Constants.{named_constants, word_constants}
use Rattle.builtin_tables.specs.Named.{is_same_name}
use Rattle.builtin_tables.specs.Newer.{newer_functions, newer_classes, newer_constants}
use Rattle.php_meaning.specs.Cause.{Declaration}
use Rattle.meaning_rows.specs.Words.{t, b, file, ended, outside, Comes}

-- <?php echo define('A', 1) ? 't' : 'f', A, define('A', 2) ? 't' : 'f', A, define('b', 'x') ? 't' : 'f', b;
abbrev defined_tree : Forest
defined_tree =
    (node kind.Echo (t token.Keyword "echo" (node kind.Ternary (node kind.Call (t token.Label "define" (t token.Op "("
    (node kind.Args (node kind.Text (t token.Text "'A'" none) (t token.Op "," (node kind.Number (t token.Int "1" none)
    none))) (t token.Op ")" none)))) (t token.Op "?" (node kind.Text (t token.Text "'t'" none) (t token.Op ":" (node
    kind.Text (t token.Text "'f'" none) none))))) (t token.Op "," (node kind.Constant (t token.Label "A" none) (t
    token.Op "," (node kind.Ternary (node kind.Call (t token.Label "define" (t token.Op "(" (node kind.Args (node
    kind.Text (t token.Text "'A'" none) (t token.Op "," (node kind.Number (t token.Int "2" none) none))) (t token.Op
    ")" none)))) (t token.Op "?" (node kind.Text (t token.Text "'t'" none) (t token.Op ":" (node kind.Text (t
    token.Text "'f'" none) none))))) (t token.Op "," (node kind.Constant (t token.Label "A" none) (t token.Op ","
    (node kind.Ternary (node kind.Call (t token.Label "define" (t token.Op "(" (node kind.Args (node kind.Text (t
    token.Text "'b'" none) (t token.Op "," (node kind.Text (t token.Text "'x'" none) none))) (t token.Op ")" none))))
    (t token.Op "?" (node kind.Text (t token.Text "'t'" none) (t token.Op ":" (node kind.Text (t token.Text "'f'"
    none) none))))) (t token.Op "," (node kind.Constant (t token.Label "b" none) (t token.Semi ";" none)))))))))))))
    none)

defined : Comes 200 (file defined_tree) (file defined_tree) (codes "a.php")
    ((codes "t1f1tx"), ended)
    ((codes "t1f1tx"), ended)
unfolding builtin_rows named_constants word_constants is_same_name newer_functions newer_classes newer_constants beyond_functions beyond_classes beyond_constants
defined = (refl, refl)

-- <?php define('Foo', 1, true); try { echo Foo, foo, FOO; } catch (Error $e) { echo 'E'; }
abbrev defined_without_case_tree : Forest
defined_without_case_tree =
    (node kind.ExprStmt (node kind.Call (t token.Label "define" (t token.Op "(" (node kind.Args (node kind.Text (t
    token.Text "'Foo'" none) (t token.Op "," (node kind.Number (t token.Int "1" none) (t token.Op "," (node
    kind.Constant (t token.Label "true" none) none))))) (t token.Op ")" none)))) (t token.Semi ";" none)) (node
    kind.Try (t token.Keyword "try" (node kind.Block (t token.Op "{" (node kind.Echo (t token.Keyword "echo" (node
    kind.Constant (t token.Label "Foo" none) (t token.Op "," (node kind.Constant (t token.Label "foo" none) (t
    token.Op "," (node kind.Constant (t token.Label "FOO" none) (t token.Semi ";" none))))))) (t token.Op "}" none)))
    (t token.Keyword "catch" (t token.Op "(" (t token.Label "Error" (t token.Variable "$e" (t token.Op ")" (node
    kind.Block (t token.Op "{" (node kind.Echo (t token.Keyword "echo" (node kind.Text (t token.Text "'E'" none) (t
    token.Semi ";" none))) (t token.Op "}" none))) none)))))))) none))

defined_without_case : Comes 200 (file defined_without_case_tree) (file defined_without_case_tree) (codes "a.php")
    ((codes "111"), ended)
    ((codes "1E"), ended)
unfolding builtin_rows named_constants word_constants is_same_name newer_functions newer_classes newer_constants beyond_functions beyond_classes beyond_constants
defined_without_case = (refl, refl)

-- <?php echo define('Foo', 1, true) ? 't' : 'f', define('foo', 2) ? 't' : 'f', define('FOO', 3) ? 't' : 'f', FOO;
abbrev defined_twice_without_case_tree : Forest
defined_twice_without_case_tree =
    (node kind.Echo (t token.Keyword "echo" (node kind.Ternary (node kind.Call (t token.Label "define" (t token.Op "("
    (node kind.Args (node kind.Text (t token.Text "'Foo'" none) (t token.Op "," (node kind.Number (t token.Int "1"
    none) (t token.Op "," (node kind.Constant (t token.Label "true" none) none))))) (t token.Op ")" none)))) (t
    token.Op "?" (node kind.Text (t token.Text "'t'" none) (t token.Op ":" (node kind.Text (t token.Text "'f'" none)
    none))))) (t token.Op "," (node kind.Ternary (node kind.Call (t token.Label "define" (t token.Op "(" (node
    kind.Args (node kind.Text (t token.Text "'foo'" none) (t token.Op "," (node kind.Number (t token.Int "2" none)
    none))) (t token.Op ")" none)))) (t token.Op "?" (node kind.Text (t token.Text "'t'" none) (t token.Op ":" (node
    kind.Text (t token.Text "'f'" none) none))))) (t token.Op "," (node kind.Ternary (node kind.Call (t token.Label
    "define" (t token.Op "(" (node kind.Args (node kind.Text (t token.Text "'FOO'" none) (t token.Op "," (node
    kind.Number (t token.Int "3" none) none))) (t token.Op ")" none)))) (t token.Op "?" (node kind.Text (t token.Text
    "'t'" none) (t token.Op ":" (node kind.Text (t token.Text "'f'" none) none))))) (t token.Op "," (node
    kind.Constant (t token.Label "FOO" none) (t token.Semi ";" none))))))))) none)

defined_twice_without_case : Comes 200 (file defined_twice_without_case_tree) (file defined_twice_without_case_tree) (codes "a.php")
    ((codes "tft3"), ended)
    ((codes "ttt3"), ended)
unfolding builtin_rows named_constants word_constants is_same_name newer_functions newer_classes newer_constants beyond_functions beyond_classes beyond_constants
defined_twice_without_case = (refl, refl)

-- <?php define('C', 5, false); echo C;
abbrev third_argument_false_tree : Forest
third_argument_false_tree =
    (node kind.ExprStmt (node kind.Call (t token.Label "define" (t token.Op "(" (node kind.Args (node kind.Text (t
    token.Text "'C'" none) (t token.Op "," (node kind.Number (t token.Int "5" none) (t token.Op "," (node
    kind.Constant (t token.Label "false" none) none))))) (t token.Op ")" none)))) (t token.Semi ";" none)) (node
    kind.Echo (t token.Keyword "echo" (node kind.Constant (t token.Label "C" none) (t token.Semi ";" none))) none))

third_argument_false : Comes 200 (file third_argument_false_tree) (file third_argument_false_tree) (codes "a.php")
    ((codes "5"), ended)
    ((codes "5"), ended)
unfolding builtin_rows named_constants word_constants is_same_name newer_functions newer_classes newer_constants beyond_functions beyond_classes beyond_constants
third_argument_false = (refl, refl)

-- <?php define('A::B', 1);
abbrev defined_with_colons_tree : Forest
defined_with_colons_tree =
    (node kind.ExprStmt (node kind.Call (t token.Label "define" (t token.Op "(" (node kind.Args (node kind.Text (t
    token.Text "'A::B'" none) (t token.Op "," (node kind.Number (t token.Int "1" none) none))) (t token.Op ")"
    none)))) (t token.Semi ";" none)) none)

defined_with_colons : Comes 200 (file defined_with_colons_tree) (file defined_with_colons_tree) (codes "a.php")
    ((codes ""), outside Declaration)
    ((codes ""), outside Declaration)
unfolding builtin_rows named_constants word_constants is_same_name newer_functions newer_classes newer_constants beyond_functions beyond_classes beyond_constants
defined_with_colons = (refl, refl)

-- <?php define('PHP_EOL', 1);
abbrev defined_builtin_tree : Forest
defined_builtin_tree =
    (node kind.ExprStmt (node kind.Call (t token.Label "define" (t token.Op "(" (node kind.Args (node kind.Text (t
    token.Text "'PHP_EOL'" none) (t token.Op "," (node kind.Number (t token.Int "1" none) none))) (t token.Op ")"
    none)))) (t token.Semi ";" none)) none)

defined_builtin : Comes 200 (file defined_builtin_tree) (file defined_builtin_tree) (codes "a.php")
    ((codes ""), outside Declaration)
    ((codes ""), outside Declaration)
unfolding builtin_rows named_constants word_constants is_same_name newer_functions newer_classes newer_constants beyond_functions beyond_classes beyond_constants
defined_builtin = (refl, refl)

-- <?php namespace N; const PHP_INT_MAX = 1;
abbrev const_of_builtin_name_tree : Forest
const_of_builtin_name_tree =
    (node kind.Namespace (t token.Keyword "namespace" (t token.Label "N" (t token.Semi ";" none))) (node kind.Const (t
    token.Keyword "const" (t token.Label "PHP_INT_MAX" (t token.Op "=" (node kind.Number (t token.Int "1" none) (t
    token.Semi ";" none))))) none))

const_of_builtin_name : Comes 200 (file const_of_builtin_name_tree) (file const_of_builtin_name_tree) (codes "a.php")
    ((codes ""), outside Declaration)
    ((codes ""), outside Declaration)
unfolding builtin_rows named_constants word_constants is_same_name newer_functions newer_classes newer_constants beyond_functions beyond_classes beyond_constants
const_of_builtin_name = (refl, refl)

-- <?php const A = 2, B = A . 'x'; echo A, B; namespace\f(); function f() { echo B; }
abbrev const_statement_tree : Forest
const_statement_tree =
    (node kind.Const (t token.Keyword "const" (t token.Label "A" (t token.Op "=" (node kind.Number (t token.Int "2"
    none) (t token.Op "," (t token.Label "B" (t token.Op "=" (node kind.Binary (node kind.Constant (t token.Label "A"
    none) (t token.Op "." (node kind.Text (t token.Text "'x'" none) none))) (t token.Semi ";" none))))))))) (node
    kind.Echo (t token.Keyword "echo" (node kind.Constant (t token.Label "A" none) (t token.Op "," (node kind.Constant
    (t token.Label "B" none) (t token.Semi ";" none))))) (node kind.ExprStmt (node kind.Call (t token.Keyword
    "namespace" (t token.Op "\\" (t token.Label "f" (t token.Op "(" (node kind.Args none (t token.Op ")" none)))))) (t
    token.Semi ";" none)) (node kind.Function (t token.Keyword "function" (t token.Label "f" (t token.Op "(" (t
    token.Op ")" (node kind.Block (t token.Op "{" (node kind.Echo (t token.Keyword "echo" (node kind.Constant (t
    token.Label "B" none) (t token.Semi ";" none))) (t token.Op "}" none))) none))))) none))))

abbrev const_statement_new_tree : Forest
const_statement_new_tree =
    (node kind.Const (t token.Keyword "const" (t token.Label "A" (t token.Op "=" (node kind.Number (t token.Int "2"
    none) (t token.Op "," (t token.Label "B" (t token.Op "=" (node kind.Binary (node kind.Constant (t token.Label "A"
    none) (t token.Op "." (node kind.Text (t token.Text "'x'" none) none))) (t token.Semi ";" none))))))))) (node
    kind.Echo (t token.Keyword "echo" (node kind.Constant (t token.Label "A" none) (t token.Op "," (node kind.Constant
    (t token.Label "B" none) (t token.Semi ";" none))))) (node kind.ExprStmt (node kind.Call (t token.Name
    "namespace\\f" (t token.Op "(" (node kind.Args none (t token.Op ")" none)))) (t token.Semi ";" none)) (node
    kind.Function (t token.Keyword "function" (t token.Label "f" (t token.Op "(" (t token.Op ")" (node kind.Block (t
    token.Op "{" (node kind.Echo (t token.Keyword "echo" (node kind.Constant (t token.Label "B" none) (t token.Semi
    ";" none))) (t token.Op "}" none))) none))))) none))))

const_statement : Comes 200 (file const_statement_tree) (file const_statement_new_tree) (codes "a.php")
    ((codes "22x2x"), ended)
    ((codes "22x2x"), ended)
unfolding builtin_rows named_constants word_constants is_same_name newer_functions newer_classes newer_constants beyond_functions beyond_classes beyond_constants
const_statement = (refl, refl)

-- <?php namespace N\M; const A = 'ns'; define('N\\M\\B', 'def'); echo A, B, \n\m\A, namespace\B;
abbrev const_in_a_namespace_tree : Forest
const_in_a_namespace_tree =
    (node kind.Namespace (t token.Keyword "namespace" (t token.Label "N" (t token.Op "\\" (t token.Label "M" (t
    token.Semi ";" none))))) (node kind.Const (t token.Keyword "const" (t token.Label "A" (t token.Op "=" (node
    kind.Text (t token.Text "'ns'" none) (t token.Semi ";" none))))) (node kind.ExprStmt (node kind.Call (t
    token.Label "define" (t token.Op "(" (node kind.Args (node kind.Text (t token.Text "'N\\\\M\\\\B'" none) (t
    token.Op "," (node kind.Text (t token.Text "'def'" none) none))) (t token.Op ")" none)))) (t token.Semi ";" none))
    (node kind.Echo (t token.Keyword "echo" (node kind.Constant (t token.Label "A" none) (t token.Op "," (node
    kind.Constant (t token.Label "B" none) (t token.Op "," (node kind.Constant (t token.Op "\\" (t token.Label "n" (t
    token.Op "\\" (t token.Label "m" (t token.Op "\\" (t token.Label "A" none)))))) (t token.Op "," (node
    kind.Constant (t token.Keyword "namespace" (t token.Op "\\" (t token.Label "B" none))) (t token.Semi ";"
    none))))))))) none))))

abbrev const_in_a_namespace_new_tree : Forest
const_in_a_namespace_new_tree =
    (node kind.Namespace (t token.Keyword "namespace" (t token.Name "N\\M" (t token.Semi ";" none))) (node kind.Const
    (t token.Keyword "const" (t token.Label "A" (t token.Op "=" (node kind.Text (t token.Text "'ns'" none) (t
    token.Semi ";" none))))) (node kind.ExprStmt (node kind.Call (t token.Label "define" (t token.Op "(" (node
    kind.Args (node kind.Text (t token.Text "'N\\\\M\\\\B'" none) (t token.Op "," (node kind.Text (t token.Text
    "'def'" none) none))) (t token.Op ")" none)))) (t token.Semi ";" none)) (node kind.Echo (t token.Keyword "echo"
    (node kind.Constant (t token.Label "A" none) (t token.Op "," (node kind.Constant (t token.Label "B" none) (t
    token.Op "," (node kind.Constant (t token.Name "\\n\\m\\A" none) (t token.Op "," (node kind.Constant (t token.Name
    "namespace\\B" none) (t token.Semi ";" none))))))))) none))))

const_in_a_namespace : Comes 200 (file const_in_a_namespace_tree) (file const_in_a_namespace_new_tree) (codes "a.php")
    ((codes "nsdefnsdef"), ended)
    ((codes "nsdefnsdef"), ended)
unfolding builtin_rows named_constants word_constants is_same_name newer_functions newer_classes newer_constants beyond_functions beyond_classes beyond_constants
const_in_a_namespace = (refl, refl)

-- <?php echo PHP_INT_MAX, PHP_INT_MIN, PHP_INT_SIZE, '[', PHP_EOL, ']', E_STRICT, SORT_STRING, TRUE, Null, False;
abbrev constants_there_tree : Forest
constants_there_tree =
    (node kind.Echo (t token.Keyword "echo" (node kind.Constant (t token.Label "PHP_INT_MAX" none) (t token.Op ","
    (node kind.Constant (t token.Label "PHP_INT_MIN" none) (t token.Op "," (node kind.Constant (t token.Label
    "PHP_INT_SIZE" none) (t token.Op "," (node kind.Text (t token.Text "'['" none) (t token.Op "," (node kind.Constant
    (t token.Label "PHP_EOL" none) (t token.Op "," (node kind.Text (t token.Text "']'" none) (t token.Op "," (node
    kind.Constant (t token.Label "E_STRICT" none) (t token.Op "," (node kind.Constant (t token.Label "SORT_STRING"
    none) (t token.Op "," (node kind.Constant (t token.Label "TRUE" none) (t token.Op "," (node kind.Constant (t
    token.Label "Null" none) (t token.Op "," (node kind.Constant (t token.Label "False" none) (t token.Semi ";"
    none))))))))))))))))))))))) none)

constants_there : Comes 200 (file constants_there_tree) (file constants_there_tree) (codes "a.php")
    ((codes "9223372036854775807-92233720368547758088[\n]204821"), ended)
    ((codes "9223372036854775807-92233720368547758088[\n]204821"), ended)
unfolding builtin_rows named_constants word_constants is_same_name newer_functions newer_classes newer_constants beyond_functions beyond_classes beyond_constants
constants_there = (refl, refl)

-- <?php echo foo;
-- rewritten:
-- <?php echo 'foo';
abbrev bare_word_tree : Forest
bare_word_tree =
    (node kind.Echo (t token.Keyword "echo" (node kind.Constant (t token.Label "foo" none) (t token.Semi ";" none)))
    none)

abbrev bare_word_new_tree : Forest
bare_word_new_tree =
    (node kind.Echo (t token.Keyword "echo" (node kind.Text (t token.Text "'foo'" none) (t token.Semi ";" none)))
    none)

bare_word : Comes 200 (file bare_word_tree) (file bare_word_new_tree) (codes "a.php")
    ((codes "foo"), ended)
    ((codes "foo"), ended)
unfolding builtin_rows named_constants word_constants is_same_name newer_functions newer_classes newer_constants beyond_functions beyond_classes beyond_constants
bare_word = (refl, refl)

-- <?php try { echo foo; } catch (Error $e) { echo 'E'; }
abbrev bare_word_asked_tree : Forest
bare_word_asked_tree =
    (node kind.Try (t token.Keyword "try" (node kind.Block (t token.Op "{" (node kind.Echo (t token.Keyword "echo"
    (node kind.Constant (t token.Label "foo" none) (t token.Semi ";" none))) (t token.Op "}" none))) (t token.Keyword
    "catch" (t token.Op "(" (t token.Label "Error" (t token.Variable "$e" (t token.Op ")" (node kind.Block (t token.Op
    "{" (node kind.Echo (t token.Keyword "echo" (node kind.Text (t token.Text "'E'" none) (t token.Semi ";" none))) (t
    token.Op "}" none))) none)))))))) none)

bare_word_asked : Comes 200 (file bare_word_asked_tree) (file bare_word_asked_tree) (codes "a.php")
    ((codes "foo"), ended)
    ((codes "E"), ended)
unfolding builtin_rows named_constants word_constants is_same_name newer_functions newer_classes newer_constants beyond_functions beyond_classes beyond_constants
bare_word_asked = (refl, refl)

-- <?php echo FOO;
abbrev bare_word_in_capitals_tree : Forest
bare_word_in_capitals_tree =
    (node kind.Echo (t token.Keyword "echo" (node kind.Constant (t token.Label "FOO" none) (t token.Semi ";" none)))
    none)

bare_word_in_capitals : Comes 200 (file bare_word_in_capitals_tree) (file bare_word_in_capitals_tree) (codes "a.php")
    ((codes ""), outside Declaration)
    ((codes ""), outside Declaration)
unfolding builtin_rows named_constants word_constants is_same_name newer_functions newer_classes newer_constants beyond_functions beyond_classes beyond_constants
bare_word_in_capitals = (refl, refl)

-- <?php namespace N; echo foo;
abbrev bare_word_in_a_namespace_tree : Forest
bare_word_in_a_namespace_tree =
    (node kind.Namespace (t token.Keyword "namespace" (t token.Label "N" (t token.Semi ";" none))) (node kind.Echo (t
    token.Keyword "echo" (node kind.Constant (t token.Label "foo" none) (t token.Semi ";" none))) none))

bare_word_in_a_namespace : Comes 200 (file bare_word_in_a_namespace_tree) (file bare_word_in_a_namespace_tree) (codes "a.php")
    ((codes ""), outside Declaration)
    ((codes ""), outside Declaration)
unfolding builtin_rows named_constants word_constants is_same_name newer_functions newer_classes newer_constants beyond_functions beyond_classes beyond_constants
bare_word_in_a_namespace = (refl, refl)

-- <?php echo E_ALL;
abbrev constant_of_an_extension_tree : Forest
constant_of_an_extension_tree =
    (node kind.Echo (t token.Keyword "echo" (node kind.Constant (t token.Label "E_ALL" none) (t token.Semi ";"
    none))) none)

constant_of_an_extension : Comes 200 (file constant_of_an_extension_tree) (file constant_of_an_extension_tree) (codes "a.php")
    ([], outside Declaration)
    ([], outside Declaration)
unfolding builtin_rows named_constants word_constants is_same_name newer_functions newer_classes newer_constants beyond_functions beyond_classes beyond_constants
constant_of_an_extension = (refl, refl)
